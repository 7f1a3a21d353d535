-- What a call of a checked program calls, where it breaks no rule.
use Rattle.std.proofs.Common.{◌≡◌, ◌∙◌, ◌<◌, ◌==◌, ℕ, Bool, true, false, List, [], ◌∷◌, length, Option, Some, None, bytes_eq, codes, if◌then◌else◌, refl, sym, ap, subst}
use Rattle.cxx_ast.specs.declared.name.Name.{Name}
use Rattle.cxx_ast.specs.declared.name.Bound.{Bound}
use Rattle.cxx_ast.specs.declared.name.Bound.TheVariants.{Free, Class, Func, Method, Builtin as BuiltinBound}
use Rattle.cxx_ast.specs.declared.name.Builtin.{Builtin}
use Rattle.cxx_ast.specs.declared.name.Builtin.TheVariants.{Terminate, SetTerminate, SetUnexpected, Uncaught}
use Rattle.cxx_ast.specs.Rule.{arity, const_write, main_use, unknown_name}
use Rattle.cxx_ast.specs.Finding.{Finding, breaks, uses, breaks_if}
use Rattle.cxx_ast.specs.Environment.{Kind, int_kind, truth_kind, void_kind, class_kind, no_kind, Signature, Environment, Scope, Meaning, unknown, a_local, a_field, a_method, a_global, a_function, a_class, a_builtin}
use Rattle.cxx_ast.specs.Lookup.{member_meaning, meaning_kind, look}
use Rattle.cxx_ast.specs.Lvalue.{reached_from, reached_by, reached, first_place}
use Rattle.cxx_ast.specs.Reference.{Judgement, arguments_found, all_found}
use Rattle.cxx_ast.specs.Construct.{construction_found}
use Rattle.cxx_ast.specs.Calls.{Valued, broken_call, if_sound, call_valued, ints_found, handler_found, builtin_ints, builtin_kind, builtin_valued, construction_valued, meant_valued, member_valued, receiver as front, last_name, on_object_valued, names_valued, std_builtin, std_valued}
use Rattle.cxx_ast.specs.Resolve.{bind, bound_of, resolve_members, resolve_path, function_number, std_bound}
use Rattle.cxx_ast.specs.Grammatical.{NotEmpty}
use Rattle.meaning_forms.specs.Expression.{callee_bound, receiver}
use Rattle.region_forms.specs.LowerExpression.{place_of, lvalue_type}
use Rattle.std.specs.Cmp.Derive.{both_true}
use Rattle.region_forms.specs.WellFormed.{address_place}
use Rattle.region_formed.proofs.Fine.{Fine, fine_parts, fine_sound}
use Rattle.region_formed.proofs.Meant.{IsFunction, Typed, HasKind, FunctionThere, SignatureMeant, numbered, Given, lowering_in, slots_in, regions_in, classes_in, Reach, MethodThere, MemberMeant, MeaningMeant}
use Rattle.region_formed.proofs.Meanings.{member_meant, look_meant}
use Rattle.region_formed.proofs.Paths.{from_member, path_meant, own_there}

-- what is called: a function by its number, a member function of a class, a built-in function, or a class whose object is built; the last two
-- with the place where rules on them are broken
pub data Callable : Type 0 where
  calls_function : ℕ → Signature → Callable
  calls_method : (k i : ℕ) → Signature → Callable
  calls_builtin : Builtin → ℕ → Callable
  builds : (k place : ℕ) → Callable

abbrev pub bound_called : Callable → Bound
bound_called (calls_function n s) = Func n
bound_called (calls_method k i s) = Method k i
bound_called (calls_builtin b place) = BuiltinBound b
bound_called (builds k place) = Class k

abbrev pub kind_called : Callable → Kind
kind_called (calls_function n s) = s.result
kind_called (calls_method k i s) = s.result
kind_called (calls_builtin b place) = builtin_kind b
kind_called (builds k place) = class_kind k

-- a call of a function with arguments that fit it
pub record Fitting (g : Given) (s : Signature) (given : List Judgement) : Type 0 where
  pub counted : (length given == length s.parameters) ≡ true
  pub found : Fine g.defined (arguments_found g.env s.parameters given)

-- what is called is there, as is the object, and the arguments fit it
abbrev pub CalledFine : Given → Scope → Bool → List Judgement → List Name → Callable → Type 0
CalledFine g sc thrown given object (calls_function n s) = FunctionThere g.program n s × HasKind s.result × Fitting g s given
CalledFine g sc thrown given object (calls_method k i s) =
    MethodThere g.program k i s × (address_place (regions_in g) (slots_in g) (place_of (lowering_in g) object) ≡ true) × Fitting g s given
CalledFine g sc thrown given object (calls_builtin b place) = IsFunction b × Fine g.defined (builtin_valued g.env sc b place given).found
CalledFine g sc thrown given object (builds k place) = (thrown ≡ true) × (k < classes_in g) × Fine g.defined (construction_found g.env k given place place)

-- a call, by what its names are bound to and its type
pub record CallMeant (g : Given) (sc : Scope) (thrown : Bool) (given : List Judgement) (b : Bound) (object : List Name) (kind : Kind) : Type 0 where
  pub what : Callable
  pub bound : b ≡ bound_called what
  pub type : kind ≡ kind_called what
  pub fine : CalledFine g sc thrown given object what

-- a type where no rule is broken
sound_kind : (defined : List (List ℕ)) (kind : Kind) (found : List Finding) → Fine defined (if_sound kind found).found → (if_sound kind found).kind ≡ kind
sound_kind defined kind found f = ap (λ b. if b then kind else no_kind) (fine_sound defined found f)

-- the call of a function
record ValuedFine (g : Given) (s : Signature) (given : List Judgement) (v : Valued) : Type 0 where
  type : v.kind ≡ s.result
  fitting : Fitting g s given

call_fine : (g : Given) (s : Signature) (place : ℕ) (given : List Judgement) → Fine g.defined (call_valued g.env s place given).found →
    ValuedFine g s given (call_valued g.env s place given)
call_fine g s place given f = go (length given == length s.parameters) refl f
  where
    go : (b : Bool) → (length given == length s.parameters) ≡ b →
        Fine g.defined (if b then if_sound s.result (arguments_found g.env s.parameters given) else broken_call (breaks arity place ∷ []) given).found →
        ValuedFine g s given (if b then if_sound s.result (arguments_found g.env s.parameters given) else broken_call (breaks arity place ∷ []) given)
    go true e h = record {
      type = sound_kind g.defined s.result (arguments_found g.env s.parameters given) h;
      fitting = record { counted = e; found = h };
    }
    go false e h = absurd h

-- the type of a built-in function's call
builtin_type : (g : Given) (sc : Scope) (b : Builtin) (place : ℕ) (given : List Judgement) → Fine g.defined (builtin_valued g.env sc b place given).found →
    (builtin_valued g.env sc b place given).kind ≡ builtin_kind b
builtin_type g sc SetTerminate place given f = sound_kind g.defined void_kind (handler_found g.env sc place given) f
builtin_type g sc SetUnexpected place given f = sound_kind g.defined void_kind (handler_found g.env sc place given) f
builtin_type g sc b place given f = go (length given == builtin_ints b) f
  where
    go : (c : Bool) → Fine g.defined (if c then if_sound (builtin_kind b) (ints_found given) else broken_call (breaks arity place ∷ []) given).found →
        (if c then if_sound (builtin_kind b) (ints_found given) else broken_call (breaks arity place ∷ []) given).kind ≡ builtin_kind b
    go true h = sound_kind g.defined (builtin_kind b) (ints_found given) h
    go false h = absurd h

builtin_called : (g : Given) (sc : Scope) (thrown : Bool) (b : Builtin) (place : ℕ) (given : List Judgement) (object : List Name) → IsFunction b →
    Fine g.defined (builtin_valued g.env sc b place given).found →
    CallMeant g sc thrown given (BuiltinBound b) object (builtin_valued g.env sc b place given).kind
builtin_called g sc thrown b place given object h f =
    record { what = calls_builtin b place; bound = refl; type = builtin_type g sc b place given f; fine = (h, f) }

-- an object is built
built : (g : Given) (sc : Scope) (thrown : Bool) (k first place : ℕ) (given : List Judgement) (object : List Name) → k < classes_in g →
    Fine g.defined (construction_valued g.env thrown k first place given).found →
    CallMeant g sc thrown given (Class k) object (construction_valued g.env thrown k first place given).kind
built g sc true k first place given object h f =
    record { what = builds k place; bound = refl; type = sound_kind g.defined (class_kind k) (construction_found g.env k given place place) f; fine = (refl, h, f) }
built g sc false k first place given object h f = absurd f

-- a call by a name alone
module _ (g : Given) (sc : Scope) (r : Reach g sc) (thrown : Bool) (n : Name) (given : List Judgement) where
  function_called : (s : Signature) → SignatureMeant g.program g.defined s → (b : Bool) →
      Fine g.defined (uses s.name ∷ (if b then broken_call (breaks main_use n.place ∷ []) given else call_valued g.env s n.place given).found) →
      CallMeant g sc thrown given (Func (function_number g.env s.name.text)) []
      (if b then broken_call (breaks main_use n.place ∷ []) given else call_valued g.env s n.place given).kind
  function_called s h true f = absurd f.1
  function_called s h false f =
      let v = call_fine g s n.place given f.1 in
      let number = ap (λ d. numbered d s.name.text) g.meant.definitions in
      record {
        what = calls_function (numbered g.defined s.name.text) s;
        bound = ap Func number;
        type = v.type;
        fine = (h.there f.0, h.result, v.fitting);
      }

  by_meaning : (m : Meaning) → MeaningMeant g m → Fine g.defined (meant_valued g.env sc thrown n given m).found →
      CallMeant g sc thrown given (bound_of g.env m) [] (meant_valued g.env sc thrown n given m).kind
  by_meaning unknown h f = absurd f
  by_meaning (a_method k i s) h f =
      let v = call_fine g s n.place given f in
      record { what = calls_method k i s; bound = refl; type = v.type; fine = (h.0, both_true (own_there g h.1) refl, v.fitting) }
  by_meaning (a_function s) h f = function_called s h (bytes_eq n.text (codes "main")) f
  by_meaning (a_class k) h f = built g sc thrown k n.place n.place given [] h f
  by_meaning (a_builtin b) h f = builtin_called g sc thrown b n.place given [] h f
  by_meaning (a_local v) h f = absurd f
  by_meaning (a_field k i kind) h f = absurd f
  by_meaning (a_global x) h f = absurd f

-- some names
record Some_names (names : List Name) : Type 0 where
  first : Name
  others : List Name
  are : names ≡ first ∷ others

some_names : (env : Environment) (kind : Kind) (n : Name) (names : List Name) → Some_names (resolve_members env kind (n ∷ names))
some_names env (class_kind k) n names = record { first = _; others = _; are = refl }
some_names env int_kind n names = record { first = _; others = _; are = refl }
some_names env truth_kind n names = record { first = _; others = _; are = refl }
some_names env void_kind n names = record { first = _; others = _; are = refl }
some_names env no_kind n names = record { first = _; others = _; are = refl }

-- the object and the last name of a call on an object
record Last (env : Environment) (names front_names : List Name) (k : ℕ) (text : List ℕ) : Type 0 where
  object : receiver names ≡ front_names
  bound : callee_bound names ≡ bound_of env (member_meaning env k text)

behind_first : (env : Environment) (x : Name) (names fronts : List Name) (k : ℕ) (text : List ℕ) → Some_names names → Last env names fronts k text →
    Last env (x ∷ names) (x ∷ fronts) k text
behind_first env x names fronts k text s h = record {
  object = ap (λ ns. receiver (x ∷ ns)) s.are ∙ (ap (λ ns. x ∷ ns) (ap receiver (sym s.are) ∙ h.object));
  bound = ap (λ ns. callee_bound (x ∷ ns)) s.are ∙ (ap callee_bound (sym s.are) ∙ h.bound);
}

last_member : (env : Environment) (m : Name) (names : List Name) (before : ℕ) (kind : Kind) (k : ℕ) →
    (reached_from env (front (m ∷ names)) before kind).kind ≡ class_kind k →
    Last env (resolve_members env kind (m ∷ names)) (resolve_members env kind (front (m ∷ names))) k (last_name m names).text
last_member env m [] before kind k e = subst (λ x. Last env (resolve_members env x (m ∷ [])) [] k m.text) (sym e) (record { object = refl; bound = refl })
last_member env m (x ∷ names) before (class_kind j) k e =
    by (member_meaning env j m.text) e (λ kind q. last_member env x names m.place kind k q)
  where
    by : (y : Meaning) → (from_member env (front (x ∷ names)) m.place y).kind ≡ class_kind k → ((kind : Kind) → (reached_from env (front (x ∷ names)) m.place kind).kind ≡ class_kind k →
        Last env (resolve_members env kind (x ∷ names)) (resolve_members env kind (front (x ∷ names))) k (last_name x names).text) →
        Last env (bind m (bound_of env y) ∷ resolve_members env (meaning_kind y) (x ∷ names))
        (bind m (bound_of env y) ∷ resolve_members env (meaning_kind y) (front (x ∷ names))) k (last_name x names).text
    by (a_field i h kind) q rest =
        behind_first env _ (resolve_members env kind (x ∷ names)) (resolve_members env kind (front (x ∷ names))) k (last_name x names).text
        (some_names env kind x names) (rest kind q)
    by unknown q rest = absurd (cc q)
    by (a_local v) q rest = absurd (cc q)
    by (a_method i h s) q rest = absurd (cc q)
    by (a_global i) q rest = absurd (cc q)
    by (a_function s) q rest = absurd (cc q)
    by (a_class i) q rest = absurd (cc q)
    by (a_builtin b) q rest = absurd (cc q)
last_member env m (x ∷ names) before int_kind k e = absurd (cc e)
last_member env m (x ∷ names) before truth_kind k e = absurd (cc e)
last_member env m (x ∷ names) before void_kind k e = absurd (cc e)
last_member env m (x ∷ names) before no_kind k e = absurd (cc e)

-- a call on an object that names reach
module _ (g : Given) (sc : Scope) (r : Reach g sc) (thrown : Bool) (n m : Name) (names : List Name) (given : List Judgement) where
  abbrev object : List Name
  object = resolve_path g.env sc (front (n ∷ m ∷ names))

  member_called : (k : ℕ) (const : Bool) (first : ℕ) (y : Meaning) → MemberMeant g.program k y →
      address_place (regions_in g) (slots_in g) (place_of (lowering_in g) object) ≡ true →
      Fine g.defined (member_valued g.env const first (last_name m names) given y).found →
      CallMeant g sc thrown given (bound_of g.env y) object (member_valued g.env const first (last_name m names) given y).kind
  member_called k const first (a_method j i s) h there f =
      let parts = fine_parts g.defined (call_valued g.env s (last_name m names).place given).found (breaks_if const const_write first) f in
      let v = call_fine g s (last_name m names).place given parts.0 in
      go const parts.1 v
    where
      go : (b : Bool) → Fine g.defined (breaks_if b const_write first) → ValuedFine g s given (call_valued g.env s (last_name m names).place given) →
          CallMeant g sc thrown given (Method j i) object (if b then no_kind else (call_valued g.env s (last_name m names).place given).kind)
      go true q v = absurd q
      go false q v = record { what = calls_method j i s; bound = refl; type = v.type; fine = (h, there, v.fitting) }
  member_called k const first unknown h there f = absurd f
  member_called k const first (a_local v) h there f = absurd f
  member_called k const first (a_field j i kind) h there f = absurd f
  member_called k const first (a_global x) h there f = absurd f
  member_called k const first (a_function s) h there f = absurd f
  member_called k const first (a_class j) h there f = absurd f
  member_called k const first (a_builtin b) h there f = absurd f

-- where an object is reached, no rule is broken on the way
no_object : (env : Environment) (names : List Name) (before k : ℕ) → (reached_from env names before no_kind).kind ≡ class_kind k → ⊥
no_object env [] before k e = absurd (cc e)
no_object env (n ∷ names) before k e = absurd (cc e)

members_fine : (defined : List (List ℕ)) (env : Environment) (names : List Name) (before : ℕ) (kind : Kind) (k : ℕ) →
    (reached_from env names before kind).kind ≡ class_kind k → Fine defined (reached_from env names before kind).found
members_fine defined env [] before kind k e = tt
members_fine defined env (n ∷ names) before (class_kind j) k e = by (member_meaning env j n.text) e (λ kind q. members_fine defined env names n.place kind k q)
  where
    by : (y : Meaning) → (from_member env names n.place y).kind ≡ class_kind k → ((kind : Kind) → (reached_from env names n.place kind).kind ≡ class_kind k → Fine defined (reached_from env names n.place kind).found) →
        Fine defined (from_member env names n.place y).found
    by (a_field i h kind) q rest = rest kind q
    by unknown q rest = absurd (cc q)
    by (a_local v) q rest = absurd (cc q)
    by (a_method i h s) q rest = absurd (cc q)
    by (a_global i) q rest = absurd (cc q)
    by (a_function s) q rest = absurd (cc q)
    by (a_class i) q rest = absurd (cc q)
    by (a_builtin b) q rest = absurd (cc q)
members_fine defined env (n ∷ names) before int_kind k e = absurd (cc e)
members_fine defined env (n ∷ names) before truth_kind k e = absurd (cc e)
members_fine defined env (n ∷ names) before void_kind k e = absurd (cc e)
members_fine defined env (n ∷ names) before no_kind k e = tt

path_fine : (defined : List (List ℕ)) (env : Environment) (sc : Scope) (n : Name) (names : List Name) (k : ℕ) →
    (reached env sc (n ∷ names)).kind ≡ class_kind k → Fine defined (reached env sc (n ∷ names)).found
path_fine defined env sc n names k e = by (look env sc n) e
  where
    by : (y : Meaning) → (reached_by env y n names).kind ≡ class_kind k → Fine defined (reached_by env y n names).found
    by (a_local v) q = members_fine defined env names n.place v.kind k q
    by (a_field i h kind) q = members_fine defined env names n.place kind k q
    by (a_global i) q = members_fine defined env names n.place int_kind k q
    by unknown q = absurd (no_object env names n.place k q)
    by (a_method i h s) q = absurd (no_object env names n.place k q)
    by (a_function s) q = absurd (no_object env names n.place k q)
    by (a_class i) q = absurd (no_object env names n.place k q)
    by (a_builtin b) q = absurd (no_object env names n.place k q)

-- the call of a member on an object that names reach
object_called : (g : Given) (sc : Scope) → Reach g sc → (thrown : Bool) (n m : Name) (names : List Name) (given : List Judgement) →
    Fine g.defined (names_valued g.env sc thrown (n ∷ m ∷ names) given).found →
    CallMeant g sc thrown given (callee_bound (resolve_path g.env sc (n ∷ m ∷ names))) (receiver (resolve_path g.env sc (n ∷ m ∷ names)))
    (names_valued g.env sc thrown (n ∷ m ∷ names) given).kind
object_called g sc r thrown n m names given f = go (reached g.env sc (n ∷ front (m ∷ names))).kind refl f
  where
    go : (kind : Kind) → (reached g.env sc (n ∷ front (m ∷ names))).kind ≡ kind →
        Fine g.defined (on_object_valued g.env (n ∷ m ∷ names) (last_name m names) given (reached g.env sc (n ∷ front (m ∷ names))) kind).found →
        CallMeant g sc thrown given (callee_bound (resolve_path g.env sc (n ∷ m ∷ names))) (receiver (resolve_path g.env sc (n ∷ m ∷ names)))
        (on_object_valued g.env (n ∷ m ∷ names) (last_name m names) given (reached g.env sc (n ∷ front (m ∷ names))) kind).kind
    go (class_kind k) e h =
        let kind = meaning_kind (look g.env sc n) in
        let path = path_meant g sc r n (front (m ∷ names)) (path_fine g.defined g.env sc n (front (m ∷ names)) k e) in
        let last = behind_first g.env (bind n (bound_of g.env (look g.env sc n))) (resolve_members g.env kind (m ∷ names))
        (resolve_members g.env kind (front (m ∷ names))) k (last_name m names).text (some_names g.env kind m names)
        (last_member g.env m names n.place kind k e) in
        let called = member_called g sc r thrown n m names given k (reached g.env sc (n ∷ front (m ∷ names))).is_const (first_place (n ∷ m ∷ names))
        (member_meaning g.env k (last_name m names).text)
        (member_meant g.program g.checked g.defined g.special g.env g.meant (length g.env.classes) k None (last_name m names).text) path.address h in
        subst (λ b. CallMeant g sc thrown given b (receiver (resolve_path g.env sc (n ∷ m ∷ names)))
        (member_valued g.env (reached g.env sc (n ∷ front (m ∷ names))).is_const (first_place (n ∷ m ∷ names)) (last_name m names) given (member_meaning g.env k (last_name m names).text)).kind)
        (sym last.bound)
        (subst (λ o. CallMeant g sc thrown given (bound_of g.env (member_meaning g.env k (last_name m names).text)) o
        (member_valued g.env (reached g.env sc (n ∷ front (m ∷ names))).is_const (first_place (n ∷ m ∷ names)) (last_name m names) given (member_meaning g.env k (last_name m names).text)).kind)
        (sym last.object) called)
    go no_kind e h =
        let path = path_meant g sc r n (front (m ∷ names)) (fine_parts g.defined (reached g.env sc (n ∷ front (m ∷ names))).found (all_found given) h).0 in
        absurd (subst (λ kind. Typed (classes_in g) kind (lvalue_type (lowering_in g) (resolve_path g.env sc (n ∷ front (m ∷ names))))) e path.typed)
    go int_kind e h = absurd h
    go truth_kind e h = absurd h
    go void_kind e h = absurd h

-- a call by its names
pub called : (g : Given) (sc : Scope) → Reach g sc → (thrown : Bool) (names : List Name) (given : List Judgement) → NotEmpty names →
    Fine g.defined (names_valued g.env sc thrown names given).found →
    CallMeant g sc thrown given (callee_bound (resolve_path g.env sc names)) (receiver (resolve_path g.env sc names)) (names_valued g.env sc thrown names given).kind
called g sc r thrown [] given some f = absurd some
called g sc r thrown (n ∷ []) given some f = by_meaning g sc r thrown n given (look g.env sc n) (look_meant g sc r n) f
called g sc r thrown (n ∷ m ∷ names) given some f = object_called g sc r thrown n m names given f

-- a call of a function of `std`, where it has one of the name
abbrev valued_of : Given → Scope → Name → List Judgement → Option Builtin → Valued
valued_of g sc n given o = elim o [ None ↦ broken_call (breaks unknown_name n.place ∷ []) given | Some b ↦ builtin_valued g.env sc b n.place given ]

abbrev bound_to_builtin : Option Builtin → Bound
bound_to_builtin o = elim o [ None ↦ Free | Some b ↦ BuiltinBound b ]

-- it is no class
abbrev IfFunction : Option Builtin → Type 0
IfFunction None = Unit {0}
IfFunction (Some b) = IsFunction b

std_function : (text : List ℕ) → IfFunction (std_builtin text)
std_function text = go (bytes_eq text (codes "terminate")) (bytes_eq text (codes "uncaught_exception")) (bytes_eq text (codes "set_terminate")) (bytes_eq text (codes "set_unexpected"))
  where
    go : (a b c d : Bool) → IfFunction (if a then Some Terminate else if b then Some Uncaught else if c then Some SetTerminate else if d then Some SetUnexpected else None)
    go true b c d = tt
    go false true c d = tt
    go false false true d = tt
    go false false false true = tt
    go false false false false = tt

-- a call of `std::` something
pub std_called : (g : Given) (sc : Scope) (thrown : Bool) (place : ℕ) (n : Name) (given : List Judgement) →
    Fine g.defined (std_valued g.env sc thrown place n given).found →
    CallMeant g sc thrown given (std_bound n.text) [] (std_valued g.env sc thrown place n given).kind
std_called g sc thrown place n given f = go (bytes_eq n.text (codes "bad_exception")) f
  where
    of_builtin : (o : Option Builtin) → IfFunction o → Fine g.defined (valued_of g sc n given o).found →
        CallMeant g sc thrown given (bound_to_builtin o) [] (valued_of g sc n given o).kind
    of_builtin None i h = absurd h
    of_builtin (Some b) i h = builtin_called g sc thrown b n.place given [] i h

    go : (b : Bool) → Fine g.defined (if b then construction_valued g.env thrown 0 place n.place given else valued_of g sc n given (std_builtin n.text)).found →
        CallMeant g sc thrown given (if b then Class 0 else bound_to_builtin (std_builtin n.text)) []
        (if b then construction_valued g.env thrown 0 place n.place given else valued_of g sc n given (std_builtin n.text)).kind
    go true h = built g sc thrown 0 place n.place given [] g.meant.some h
    go false h = of_builtin (std_builtin n.text) (std_function n.text) h
