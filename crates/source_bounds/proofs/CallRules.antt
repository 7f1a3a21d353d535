-- In a call that breaks no rule no argument breaks one, and a built-in function has at most two arguments.
use Rattle.std.proofs.Common.{◌≡◌, ℕ, ◌≤◌, ◌==◌, ◌&&◌, Bool, true, false, not, List, [], ◌∷◌, ◌++◌, length, bytes_eq, codes, Option, Some, None, ◌⊎◌, inl, inr, if◌then◌else◌, refl, sym, subst, arith}
use Rattle.std.specs.Prelude.{find, slice_get}
use Rattle.std.specs.List.{AllByRecursion}
use Rattle.std.proofs.lemmas.Bool.{and_parts}
use Rattle.std.proofs.lemmas.Bool.Decides.{nat_tests}
use Rattle.cxx_ast.specs.declared.name.Name.{Name}
use Rattle.cxx_ast.specs.declared.name.Builtin.{Builtin}
use Rattle.cxx_ast.specs.declared.name.Builtin.TheVariants.{WriteInt, ReadByte, Exit, Module, Cancel, Terminate, SetTerminate, SetUnexpected, Uncaught, BadException}
use Rattle.cxx_ast.specs.Calls.{Valued, broken_call, if_sound, call_valued, ints_found, handler_named, handler_found, builtin_ints, builtin_kind, ints_valued, builtin_valued, construction_valued, meant_valued, member_valued, on_object_valued, std_builtin, std_valued}
use Rattle.cxx_ast.specs.Construct.{is_constructor, is_constructor_with, are_copy_parameters, by_number_found, single_found, construction_found}
use Rattle.cxx_ast.specs.Environment.{Kind, int_kind, truth_kind, void_kind, class_kind, no_kind, Passing, Signature, ClassEntry, Environment, Scope, Meaning, unknown, a_local, a_field, a_method, a_global, a_function, a_class, a_builtin}
use Rattle.cxx_ast.specs.Finding.{Finding, breaks, uses, is_sound, breaks_if}
use Rattle.cxx_ast.specs.Lookup.{member_meaning, derives}
use Rattle.cxx_ast.specs.Lvalue.{Reached, first_place}
use Rattle.cxx_ast.specs.Reference.{Target, Judgement, int_wanted, int_found, bound_found, binding_found, no_lvalue_found, argument_found, arguments_found, all_found}
use Rattle.cxx_ast.specs.Rule.{handler_form, arity, unknown_name, const_write, main_use, not_lvalue}
use Rattle.class_layout.proofs.Sound.{front_sound, back_sound}

abbrev Sound : List Finding → Type 0
Sound found = is_sound found ≡ true

abbrev pub Good : List Judgement → Type 0
Good given = AllByRecursion (λ a. is_sound a.found ≡ true) given

abbrev IsThere : Option Target → Type 0
IsThere None = ⊥
IsThere (Some t) = Unit {0}

-- one lvalue
abbrev pub IsLvalue : List Judgement → Type 0
IsLvalue (a ∷ []) = IsThere a.target
IsLvalue _ = ⊥

-- none breaks a rule, or there is one lvalue
abbrev pub AreFine : List Judgement → Type 0
AreFine given = Good given ⊎ IsLvalue given

pub all_good : (given : List Judgement) → Sound (all_found given) → Good given
all_good [] h = tt
all_good (a ∷ given) h = (front_sound a.found (all_found given) h, all_good given (back_sound a.found (all_found given) h))

ints_good : (given : List Judgement) → Sound (ints_found given) → Good given
ints_good [] h = tt
ints_good (a ∷ given) h =
    (front_sound a.found (int_wanted a.kind a.place) (front_sound (int_found a) (ints_found given) h), ints_good given (back_sound (int_found a) (ints_found given) h))

argument_good : (env : Environment) (p : Passing) (a : Judgement) → Sound (argument_found env p a) → Sound a.found
argument_good env p a h = go p.is_reference h
  where
    go : (b : Bool) → Sound (if b then bound_found env p a else int_found a) → Sound a.found
    go true k = front_sound a.found (elim a.target [
      | Some t ↦ binding_found env p.kind p.is_const a.kind t.is_const a.place
      | None ↦ no_lvalue_found env p.kind a.kind a.place
    ]) k
    go false k = front_sound a.found (int_wanted a.kind a.place) k

arguments_good : (env : Environment) (ps : List Passing) (given : List Judgement) → length ps ≡ length given → Sound (arguments_found env ps given) → Good given
arguments_good env ps [] e h = tt
arguments_good env [] (a ∷ given) e h = absurd (omega (arith, e))
arguments_good env (p ∷ ps) (a ∷ given) e h = (
  argument_good env p a (front_sound (argument_found env p a) (arguments_found env ps given) h),
  arguments_good env ps given (omega (arith, e)) (back_sound (argument_found env p a) (arguments_found env ps given) h),
)

is_equal : (a b : ℕ) → (a == b) ≡ true → a ≡ b
is_equal a b e = grind (arith, nat_tests, e)

call_good : (env : Environment) (s : Signature) (place : ℕ) (given : List Judgement) → Sound (call_valued env s place given).found → Good given
call_good env s place given h = go (length given == length s.parameters) refl h
  where
    go : (b : Bool) → (length given == length s.parameters) ≡ b →
        Sound (if b then if_sound s.result (arguments_found env s.parameters given) else broken_call (breaks arity place ∷ []) given).found → Good given
    go true e k = arguments_good env s.parameters given (sym (is_equal (length given) (length s.parameters) e)) k
    go false e k = absurd (cc k)

-- constructions

found_passes : (test : Signature → Bool) (xs : List Signature) (x : Signature) → find test xs ≡ Some x → test x ≡ true
found_passes test [] x e = absurd (cc e)
found_passes test (y ∷ xs) x e = go (test y) refl e (found_passes test xs x)
  where
    go : (b : Bool) → test y ≡ b → (if b then Some y else find test xs) ≡ Some x → (find test xs ≡ Some x → test x ≡ true) → test x ≡ true
    go true q k rest = let same : y ≡ x = cc k in subst (λ z. test z ≡ true) same q
    go false q k rest = rest k

as_many_parameters : (k : ℕ) (text : List ℕ) (n : ℕ) (s : Signature) → is_constructor_with k text n s ≡ true → length s.parameters ≡ n
as_many_parameters k text n s h =
    let front = (and_parts (is_constructor text s && length s.parameters == n) (not (are_copy_parameters k s.parameters)) h).0 in
    is_equal (length s.parameters) n (and_parts (is_constructor text s) (length s.parameters == n) front).1

by_number_good : (env : Environment) (k : ℕ) (given : List Judgement) (called : ℕ) → Sound (by_number_found env k given called) → Good given
by_number_good env k given called h = of_class (slice_get env.classes k) h
  where
    of_constructor : (text : List ℕ) (functions : List Signature) (o : Option Signature) → find (is_constructor_with k text (length given)) functions ≡ o →
        Sound (elim (elim o as (λ x. Option (List Passing)) [ None ↦ None | Some s ↦ Some s.parameters ]) [ None ↦ breaks arity called ∷ all_found given | Some ps ↦ arguments_found env ps given ]) → Good given
    of_constructor text functions None e s = absurd (cc s)
    of_constructor text functions (Some x) e s =
        arguments_good env x.parameters given
        (as_many_parameters k text (length given) x (found_passes (is_constructor_with k text (length given)) functions x e)) s

    of_class : (o : Option ClassEntry) → Sound (elim (elim o as (λ x. Option (List Passing)) [
      | None ↦ None
      | Some c ↦ elim (find (is_constructor_with k c.name (length given)) c.functions) [ None ↦ None | Some s ↦ Some s.parameters ]
    ]) [ None ↦ breaks arity called ∷ all_found given | Some ps ↦ arguments_found env ps given ]) → Good given
    of_class None s = absurd (cc s)
    of_class (Some c) s = of_constructor c.name c.functions (find (is_constructor_with k c.name (length given)) c.functions) refl s

single_good : (env : Environment) (k : ℕ) (a : Judgement) (called : ℕ) (kind : Kind) → Sound (single_found env k a called kind) → Good (a ∷ [])
single_good env k a called no_kind h = (h, tt)
single_good env k a called (class_kind j) h = go (derives env j k) h
  where
    go : (b : Bool) → Sound (if b then a.found ++ elim a.target [ Some t ↦ [] | None ↦ breaks not_lvalue a.place ∷ [] ] else by_number_found env k (a ∷ []) called) → Good (a ∷ [])
    go true s = (front_sound a.found (elim a.target [ Some t ↦ [] | None ↦ breaks not_lvalue a.place ∷ [] ]) s, tt)
    go false s = by_number_good env k (a ∷ []) called s
single_good env k a called kind h = by_number_good env k (a ∷ []) called h

pub construction_good : (env : Environment) (k : ℕ) (given : List Judgement) (called needs : ℕ) → Sound (construction_found env k given called needs) → Good given
construction_good env k [] called needs h = tt
construction_good env k (a ∷ []) called needs h = single_good env k a called a.kind h
construction_good env k (a ∷ b ∷ given) called needs h = by_number_good env k (a ∷ b ∷ given) called h

pub construction_fine : (env : Environment) (thrown : Bool) (k first place : ℕ) (given : List Judgement) → Sound (construction_valued env thrown k first place given).found → Good given
construction_fine env true k first place given h = construction_good env k given place place h
construction_fine env false k first place given h = absurd (cc h)

-- built-in functions

few_ints : (b : Builtin) → builtin_ints b ≤ 2
few_ints WriteInt = omega arith
few_ints ReadByte = omega arith
few_ints Exit = omega arith
few_ints Module = omega arith
few_ints Cancel = omega arith
few_ints Terminate = omega arith
few_ints SetTerminate = omega arith
few_ints SetUnexpected = omega arith
few_ints Uncaught = omega arith
few_ints BadException = omega arith

abbrev pub FewFine : List Judgement → Type 0
FewFine given = (length given ≤ 2) × AreFine given

handler_fine : (env : Environment) (sc : Scope) (place : ℕ) (given : List Judgement) → Sound (handler_found env sc place given) → FewFine given
handler_fine env sc place [] h = absurd (cc h)
handler_fine env sc place (a ∷ []) h = go a.target refl h
  where
    go : (o : Option Target) → a.target ≡ o → Sound (elim o [ Some t ↦ handler_named env sc a t.names | None ↦ breaks handler_form a.place ∷ a.found ]) → FewFine (a ∷ [])
    go None e s = absurd (cc s)
    go (Some t) e s = (omega arith, inr (subst IsThere (sym e) tt))
handler_fine env sc place (a ∷ b ∷ given) h = absurd (cc h)

ints_fine : (b : Builtin) (place : ℕ) (given : List Judgement) → Sound (ints_valued b place given).found → FewFine given
ints_fine b place given h = go (length given == builtin_ints b) refl h
  where
    go : (c : Bool) → (length given == builtin_ints b) ≡ c →
        Sound (if c then if_sound (builtin_kind b) (ints_found given) else broken_call (breaks arity place ∷ []) given).found → FewFine given
    go true e s = (omega (arith, few_ints b, is_equal (length given) (builtin_ints b) e), inl (ints_good given s))
    go false e s = absurd (cc s)

pub builtin_fine : (env : Environment) (sc : Scope) (b : Builtin) (place : ℕ) (given : List Judgement) → Sound (builtin_valued env sc b place given).found → FewFine given
builtin_fine env sc SetTerminate place given h = handler_fine env sc place given h
builtin_fine env sc SetUnexpected place given h = handler_fine env sc place given h
builtin_fine env sc b place given h = ints_fine b place given h

-- by what is called

abbrev pub MeantFine : Meaning → List Judgement → Type 0
MeantFine (a_builtin b) given = FewFine given
MeantFine m given = Good given

pub meant_fine : (env : Environment) (sc : Scope) (thrown : Bool) (n : Name) (given : List Judgement) (m : Meaning) → Sound (meant_valued env sc thrown n given m).found → MeantFine m given
meant_fine env sc thrown n given unknown h = absurd (cc h)
meant_fine env sc thrown n given (a_method k i s) h = call_good env s n.place given h
meant_fine env sc thrown n given (a_function s) h = go (bytes_eq n.text (codes "main")) h
  where
    go : (b : Bool) → Sound (uses s.name ∷ (if b then broken_call (breaks main_use n.place ∷ []) given else call_valued env s n.place given).found) → Good given
    go true k = absurd (cc k)
    go false k = call_good env s n.place given k
meant_fine env sc thrown n given (a_class k) h = construction_fine env thrown k n.place n.place given h
meant_fine env sc thrown n given (a_builtin b) h = builtin_fine env sc b n.place given h
meant_fine env sc thrown n given (a_local v) h = absurd (cc h)
meant_fine env sc thrown n given (a_field k i kind) h = absurd (cc h)
meant_fine env sc thrown n given (a_global g) h = absurd (cc h)

member_good : (env : Environment) (c : Bool) (first : ℕ) (n : Name) (given : List Judgement) (m : Meaning) → Sound (member_valued env c first n given m).found → Good given
member_good env c first n given unknown h = absurd (cc h)
member_good env c first n given (a_method k i s) h = call_good env s n.place given (front_sound (call_valued env s n.place given).found (breaks_if c const_write first) h)
member_good env c first n given (a_function s) h = absurd (cc h)
member_good env c first n given (a_class k) h = absurd (cc h)
member_good env c first n given (a_builtin b) h = absurd (cc h)
member_good env c first n given (a_local v) h = absurd (cc h)
member_good env c first n given (a_field k i kind) h = absurd (cc h)
member_good env c first n given (a_global g) h = absurd (cc h)

pub on_object_good : (env : Environment) (names : List Name) (n : Name) (given : List Judgement) (r : Reached) (kind : Kind) → Sound (on_object_valued env names n given r kind).found → Good given
on_object_good env names n given r no_kind h = all_good given (back_sound r.found (all_found given) h)
on_object_good env names n given r (class_kind k) h = member_good env r.is_const (first_place names) n given (member_meaning env k n.text) h
on_object_good env names n given r int_kind h = absurd (cc h)
on_object_good env names n given r truth_kind h = absurd (cc h)
on_object_good env names n given r void_kind h = absurd (cc h)

-- a call of `std::` something
abbrev pub StdFine : Option Builtin → List Judgement → Type 0
StdFine None given = Good given
StdFine (Some b) given = FewFine given

pub std_fine : (env : Environment) (sc : Scope) (thrown : Bool) (place : ℕ) (n : Name) (given : List Judgement) → Sound (std_valued env sc thrown place n given).found →
    (Good given ⊎ FewFine given)
std_fine env sc thrown place n given h = go (bytes_eq n.text (codes "bad_exception")) h
  where
    named : (o : Option Builtin) → Sound (elim o as (λ x. Valued) [ None ↦ broken_call (breaks unknown_name n.place ∷ []) given | Some b ↦ builtin_valued env sc b n.place given ]).found → Good given ⊎ FewFine given
    named None k = absurd (cc k)
    named (Some b) k = inr (builtin_fine env sc b n.place given k)

    go : (b : Bool) → Sound (if b then construction_valued env thrown 0 place n.place given else elim (std_builtin n.text) [
      | None ↦ broken_call (breaks unknown_name n.place ∷ []) given
      | Some b ↦ builtin_valued env sc b n.place given
    ]).found → Good given ⊎ FewFine given
    go true k = inl (construction_fine env thrown 0 place n.place given k)
    go false k = named (std_builtin n.text) k
