-- In a program that breaks no rule no call of a built-in function has more than two arguments.
use Rattle.std.proofs.Common.{◌≡◌, ℕ, zero, suc, ◌+◌, ◌&&◌, ◌||◌, Bool, true, false, List, [], ◌∷◌, ◌++◌, length, bytes_eq, codes, Option, Some, None, inl, inr, if◌then◌else◌, refl, sym, subst, arith}
use Rattle.std.specs.Prelude.{slice_get, nat_lt}
use Rattle.cxx_ast.specs.declared.name.Name.{Name}
use Rattle.cxx_ast.specs.declared.name.Bound.{Bound}
use Rattle.cxx_ast.specs.declared.name.Bound.TheVariants.{Free, Global, Local, Field, Class as ClassBound, Func, Method, Builtin as BuiltinBound}
use Rattle.cxx_ast.specs.declared.name.Builtin.{Builtin}
use Rattle.cxx_ast.specs.declared.types.Ty.{Ty}
use Rattle.cxx_ast.specs.declared.types.Ty.TheVariants.{Int, Void, Object, IntRef, ObjectRef}
use Rattle.cxx_ast.specs.Plain.{Expression, number, path, paren, unary, binary, call, std_call, Expressions, no_expressions, expression_then, Statement, block, empty, if_else, while, return, break, continue, throw, try, assign, evaluate, local_int, local_ref, local_object, Else, no_else, else_do, Statements, no_statements, statement_then, Handlers, no_handlers, handler_then}
use Rattle.cxx_ast.specs.Calls.{Valued, broken_call, builtin_valued, construction_valued, names_valued, std_builtin, std_valued, receiver, last_name}
use Rattle.cxx_ast.specs.Environment.{Kind, int_kind, truth_kind, void_kind, class_kind, no_kind, Signature, Field as FieldEntry, ClassEntry, Environment, Scope, Meaning, unknown, a_local, a_field, a_method, a_global, a_function, a_class, a_builtin}
use Rattle.cxx_ast.specs.ExpressionRules.{judged, all_judged, thrown_kind_found, thrown_found, no_lvalue}
use Rattle.cxx_ast.specs.Finding.{Finding, breaks, is_sound, breaks_if}
use Rattle.cxx_ast.specs.Locals.{inner, after, handler_scope, caught_count, locals_in, locals_of, scope_behind, declare_param}
use Rattle.cxx_ast.specs.Lookup.{in_reach, Found, field_named, is_method, method_named, first_of_two, member_of, member_meaning, meaning_kind, look}
use Rattle.cxx_ast.specs.Lvalue.{reached, first_place}
use Rattle.cxx_ast.specs.Reference.{Judgement, int_wanted, int_found}
use Rattle.cxx_ast.specs.Resolve.{bind, bound_of, resolve_members, resolve_path, std_bound, resolve_expression, resolve_expressions, resolve_value, resolve_statement, resolve_else, resolve_statements, resolve_handlers}
use Rattle.cxx_ast.specs.Rule.{handler_order, unknown_name}
use Rattle.cxx_ast.specs.StatementRules.{start_found, return_found, throw_found, assigned_found, object_found, twice_in, caught_found, catches_all, statement_found, else_found, statements_found, handlers_found}
use Rattle.cxx_ast.specs.TypeNames.{class_found, class_of_name}
use Rattle.class_layout.proofs.Sound.{front_sound, back_sound}
use Rattle.meaning_forms.specs.Expression.{callee_bound, count_of}
use Rattle.source_bounds.specs.BuiltinCalls.{GivenFits, CallsFit, AllCallsFit, ValueCallsFit, StatementCallsFit, ElseCallsFit, StatementsCallsFit, HandlersCallsFit}
use Rattle.source_bounds.proofs.CallRules.{Good, IsLvalue, FewFine, MeantFine, all_good, construction_good, construction_fine, builtin_fine, meant_fine, on_object_good}
use Rattle.source_bounds.proofs.FreeNames.{NamesFree, CallsFree, AllCallsFree, ValueFree, StatementFree, ElseFree, StatementsFree, HandlersFree}

abbrev Sound : List Finding → Type 0
Sound found = is_sound found ≡ true

-- a bound that is no built-in function

abbrev NoBuiltin : Bound → Type 0
NoBuiltin (BuiltinBound b) = ⊥
NoBuiltin b = Unit {0}

given_fits : (b : Bound) (es : Expressions) → NoBuiltin b → GivenFits b es
given_fits (BuiltinBound b) es h = absurd h
given_fits Free es h = tt
given_fits (Global g) es h = tt
given_fits (Local n) es h = tt
given_fits (Field k i) es h = tt
given_fits (ClassBound k) es h = tt
given_fits (Func n) es h = tt
given_fits (Method k i) es h = tt

-- a member is none

abbrev IsMember : Meaning → Type 0
IsMember (a_builtin b) = ⊥
IsMember _ = Unit {0}

abbrev FoundMember : Option Found → Type 0
FoundMember None = Unit {0}
FoundMember (Some f) = IsMember f.meaning

field_member : (limit : Option ℕ) (text : List ℕ) (k i : ℕ) (fs : List FieldEntry) → FoundMember (field_named limit text k i fs)
field_member limit text k i [] = tt
field_member limit text k i (f ∷ fs) = go (in_reach limit f.name && bytes_eq f.name.text text) (field_member limit text k (i + 1) fs)
  where
    go : (b : Bool) → FoundMember (field_named limit text k (i + 1) fs) →
        FoundMember (if b then Some (record { place = f.name.place; meaning = a_field k i f.kind }) else field_named limit text k (i + 1) fs)
    go true h = tt
    go false h = h

method_member : (limit : Option ℕ) (text : List ℕ) (k i : ℕ) (fs : List Signature) → FoundMember (method_named limit text k i fs)
method_member limit text k i [] = tt
method_member limit text k i (f ∷ fs) =
    go (is_method f.form && in_reach limit f.name && bytes_eq f.name.text text) (method_member limit text k (i + 1) fs)
  where
    go : (b : Bool) → FoundMember (method_named limit text k (i + 1) fs) →
        FoundMember (if b then Some (record { place = f.name.place; meaning = a_method k i f }) else method_named limit text k (i + 1) fs)
    go true h = tt
    go false h = h

first_member : (a b : Option Found) → FoundMember a → FoundMember b → FoundMember (first_of_two a b)
first_member None b ha hb = hb
first_member (Some a) None ha hb = ha
first_member (Some a) (Some b) ha hb = go (nat_lt b.place a.place)
  where
    go : (c : Bool) → FoundMember (if c then Some b else Some a)
    go true = hb
    go false = ha

member_is : (n : ℕ) (env : Environment) (k : ℕ) (limit : Option ℕ) (text : List ℕ) → IsMember (member_of n env k limit text)
member_is zero env k limit text = tt
member_is (suc n) env k limit text = of_class (λ b. member_is n env b limit text) (slice_get env.classes k)
  where
    inherited : ((b : ℕ) → IsMember (member_of n env b limit text)) → (base : Option ℕ) →
        IsMember (elim base [ None ↦ unknown | Some b ↦ member_of n env b limit text ])
    inherited rest None = tt
    inherited rest (Some b) = rest b

    own : ((b : ℕ) → IsMember (member_of n env b limit text)) → (c : ClassEntry) (f : Option Found) → FoundMember f →
        IsMember (elim f [ Some found ↦ found.meaning | None ↦ elim c.base [ None ↦ unknown | Some b ↦ member_of n env b limit text ] ])
    own rest c (Some f) h = h
    own rest c None h = inherited rest c.base

    of_class : ((b : ℕ) → IsMember (member_of n env b limit text)) → (o : Option ClassEntry) → IsMember (elim o [
      | None ↦ unknown
      | Some c ↦ elim (first_of_two (field_named limit text k 0 c.fields) (method_named limit text k 0 c.functions)) [
        | Some found ↦ found.meaning
        | None ↦ elim c.base [ None ↦ unknown | Some b ↦ member_of n env b limit text ]
      ]
    ])
    of_class rest None = tt
    of_class rest (Some c) = own rest c (first_of_two (field_named limit text k 0 c.fields) (method_named limit text k 0 c.functions))
        (first_member (field_named limit text k 0 c.fields) (method_named limit text k 0 c.functions) (field_member limit text k 0 c.fields) (method_member limit text k 0 c.functions))

meaning_bound : (env : Environment) (m : Meaning) → IsMember m → NoBuiltin (bound_of env m)
meaning_bound env unknown h = tt
meaning_bound env (a_local v) h = tt
meaning_bound env (a_field k i kind) h = tt
meaning_bound env (a_method k i s) h = tt
meaning_bound env (a_global n) h = tt
meaning_bound env (a_function s) h = tt
meaning_bound env (a_class k) h = tt
meaning_bound env (a_builtin b) h = absurd h

-- the last of several names

last_of : (env : Environment) (kind : Kind) (x m : Name) (names : List Name) → callee_bound (x ∷ resolve_members env kind (m ∷ names)) ≡ callee_bound (resolve_members env kind (m ∷ names))
last_of env no_kind x m names = refl
last_of env int_kind x m names = refl
last_of env truth_kind x m names = refl
last_of env void_kind x m names = refl
last_of env (class_kind k) x m names = refl

free_bound : (n : Name) → n.bound ≡ Free → NoBuiltin n.bound
free_bound n e = subst NoBuiltin (sym e) tt

members_bound : (env : Environment) (kind : Kind) (names : List Name) → NamesFree names → NoBuiltin (callee_bound (resolve_members env kind names))
members_bound env kind [] h = tt
members_bound env no_kind (n ∷ []) h = free_bound n h.0
members_bound env int_kind (n ∷ []) h = free_bound n h.0
members_bound env truth_kind (n ∷ []) h = free_bound n h.0
members_bound env void_kind (n ∷ []) h = free_bound n h.0
members_bound env (class_kind k) (n ∷ []) h = meaning_bound env (member_meaning env k n.text) (member_is (length env.classes) env k None n.text)
members_bound env no_kind (n ∷ m ∷ names) h = subst NoBuiltin (sym (last_of env no_kind n m names)) (members_bound env no_kind (m ∷ names) h.1)
members_bound env int_kind (n ∷ m ∷ names) h = subst NoBuiltin (sym (last_of env no_kind n m names)) (members_bound env no_kind (m ∷ names) h.1)
members_bound env truth_kind (n ∷ m ∷ names) h = subst NoBuiltin (sym (last_of env no_kind n m names)) (members_bound env no_kind (m ∷ names) h.1)
members_bound env void_kind (n ∷ m ∷ names) h = subst NoBuiltin (sym (last_of env no_kind n m names)) (members_bound env no_kind (m ∷ names) h.1)
members_bound env (class_kind k) (n ∷ m ∷ names) h =
    let kind = meaning_kind (member_meaning env k n.text) in
    subst NoBuiltin (sym (last_of env kind (bind n (bound_of env (member_meaning env k n.text))) m names)) (members_bound env kind (m ∷ names) h.1)

-- whether a loop is round a scope decides no name
abbrev pub looped : Bool → Scope → Scope
looped b sc = record sc { in_loop = b }

counted : (env : Environment) (sc there : Scope) (es : Expressions) → count_of (resolve_expressions env sc es) ≡ length (all_judged env there es)
counted env sc there no_expressions = refl
counted env sc there (expression_then e es) = omega (arith, counted env sc there es)

lvalue_args : (env : Environment) (sc there : Scope) (es : Expressions) → IsLvalue (all_judged env there es) → AllCallsFit (resolve_expressions env sc es)
lvalue_args env sc there no_expressions h = absurd h
lvalue_args env sc there (expression_then (number n place) no_expressions) h = absurd h
lvalue_args env sc there (expression_then (path names) no_expressions) h = (tt, tt)
lvalue_args env sc there (expression_then (paren e place) no_expressions) h = absurd h
lvalue_args env sc there (expression_then (unary o e place) no_expressions) h = absurd h
lvalue_args env sc there (expression_then (binary o a b) no_expressions) h = absurd h
lvalue_args env sc there (expression_then (call names es) no_expressions) h = absurd h
lvalue_args env sc there (expression_then (std_call n es place) no_expressions) h = absurd h
lvalue_args env sc there (expression_then e (expression_then f es)) h = absurd h

module _ (env : Environment) (b : Bool) where
  -- what is known of the arguments of a call
  abbrev Args : Scope → Expressions → Type 0
  Args sc es = Good (all_judged env (looped b sc) es) → AllCallsFit (resolve_expressions env sc es)

  few_args : (sc : Scope) (es : Expressions) (x : Builtin) → Args sc es → FewFine (all_judged env (looped b sc) es) →
      GivenFits (BuiltinBound x) (resolve_expressions env sc es) × AllCallsFit (resolve_expressions env sc es)
  few_args sc es x k (few, inl good) = (omega (arith, few, counted env sc (looped b sc) es), k good)
  few_args sc es x k (few, inr lvalue) = (omega (arith, few, counted env sc (looped b sc) es), lvalue_args env sc (looped b sc) es lvalue)

  one_name : (sc : Scope) (es : Expressions) (m : Meaning) → Args sc es → MeantFine m (all_judged env (looped b sc) es) →
      GivenFits (bound_of env m) (resolve_expressions env sc es) × AllCallsFit (resolve_expressions env sc es)
  one_name sc es (a_builtin x) k h = few_args sc es x k h
  one_name sc es unknown k h = (tt, k h)
  one_name sc es (a_local v) k h = (tt, k h)
  one_name sc es (a_field c i kind) k h = (tt, k h)
  one_name sc es (a_method c i s) k h = (tt, k h)
  one_name sc es (a_global n) k h = (tt, k h)
  one_name sc es (a_function s) k h = (tt, k h)
  one_name sc es (a_class c) k h = (tt, k h)

  names_fit : (sc : Scope) (thrown : Bool) (names : List Name) (es : Expressions) → NamesFree names → Args sc es →
      Sound (names_valued env (looped b sc) thrown names (all_judged env (looped b sc) es)).found →
      GivenFits (callee_bound (resolve_path env sc names)) (resolve_expressions env sc es) × AllCallsFit (resolve_expressions env sc es)
  names_fit sc thrown [] es free k h = (tt, k (all_good (all_judged env (looped b sc) es) h))
  names_fit sc thrown (n ∷ []) es free k h =
      one_name sc es (look env sc n) k (meant_fine env (looped b sc) thrown n (all_judged env (looped b sc) es) (look env sc n) h)
  names_fit sc thrown (n ∷ m ∷ names) es free k h =
      let r = reached env (looped b sc) (receiver (n ∷ m ∷ names)) in
      let kind = meaning_kind (look env sc n) in (
        given_fits (callee_bound (resolve_path env sc (n ∷ m ∷ names))) (resolve_expressions env sc es)
            (subst NoBuiltin (sym (last_of env kind (bind n (bound_of env (look env sc n))) m names)) (members_bound env kind (m ∷ names) free.1)),
        k (on_object_good env (n ∷ m ∷ names) (last_name m names) (all_judged env (looped b sc) es) r r.kind h),
      )

  std_fit : (sc : Scope) (thrown : Bool) (place : ℕ) (n : Name) (es : Expressions) → Args sc es →
      Sound (std_valued env (looped b sc) thrown place n (all_judged env (looped b sc) es)).found →
      GivenFits (std_bound n.text) (resolve_expressions env sc es) × AllCallsFit (resolve_expressions env sc es)
  std_fit sc thrown place n es k h = go (bytes_eq n.text (codes "bad_exception")) h
    where
      given : List Judgement
      given = all_judged env (looped b sc) es

      named : (o : Option Builtin) → Sound (elim o as (λ x. Valued) [ None ↦ broken_call (breaks unknown_name n.place ∷ []) given | Some x ↦ builtin_valued env (looped b sc) x n.place given ]).found →
          GivenFits (elim o [ None ↦ Free | Some x ↦ BuiltinBound x ]) (resolve_expressions env sc es) × AllCallsFit (resolve_expressions env sc es)
      named None s = absurd (cc s)
      named (Some x) s = few_args sc es x k (builtin_fine env (looped b sc) x n.place given s)

      go : (c : Bool) → Sound (if c then construction_valued env thrown 0 place n.place given else elim (std_builtin n.text) as (λ x. Valued) [
        | None ↦ broken_call (breaks unknown_name n.place ∷ []) given
        | Some x ↦ builtin_valued env (looped b sc) x n.place given
      ]).found → GivenFits (if c then ClassBound 0 else elim (std_builtin n.text) [ None ↦ Free | Some x ↦ BuiltinBound x ]) (resolve_expressions env sc es)
          × AllCallsFit (resolve_expressions env sc es)
      go true s = (tt, k (construction_fine env thrown 0 place n.place given s))
      go false s = named (std_builtin n.text) s

  mutual
    expression_calls : (e : Expression) (sc : Scope) → CallsFree e → Sound (judged env (looped b sc) e).found → CallsFit (resolve_expression env sc e)
    expression_calls (number n place) sc free h = tt
    expression_calls (path names) sc free h = tt
    expression_calls (paren e place) sc free h = expression_calls e sc free h
    expression_calls (unary o e place) sc free h =
        let a = judged env (looped b sc) e in expression_calls e sc free (front_sound a.found (int_wanted a.kind a.place) h)
    expression_calls (binary o x y) sc free h =
        let a = judged env (looped b sc) x in
        let c = judged env (looped b sc) y in (
          expression_calls x sc free.0 (front_sound a.found (int_wanted a.kind a.place) (front_sound (int_found a) (int_found c) h)),
          expression_calls y sc free.1 (front_sound c.found (int_wanted c.kind c.place) (back_sound (int_found a) (int_found c) h)),
        )
    expression_calls (call names es) sc free h = names_fit sc false names es free.0 (λ g. good_args es sc free.1 g) h
    expression_calls (std_call n es place) sc free h = std_fit sc false place n es (λ g. good_args es sc free g) h

    pub good_args : (es : Expressions) (sc : Scope) → AllCallsFree es → Good (all_judged env (looped b sc) es) → AllCallsFit (resolve_expressions env sc es)
    good_args no_expressions sc free h = tt
    good_args (expression_then e es) sc free h = (expression_calls e sc free.0 h.0, good_args es sc free.1 h.1)

  int_calls : (e : Expression) (sc : Scope) → CallsFree e → Sound (int_found (judged env (looped b sc) e)) → CallsFit (resolve_expression env sc e)
  int_calls e sc free h = let a = judged env (looped b sc) e in expression_calls e sc free (front_sound a.found (int_wanted a.kind a.place) h)

  thrown_calls : (e : Expression) (sc : Scope) → CallsFree e → Sound (thrown_found env (looped b sc) e) → CallsFit (resolve_expression env sc e)
  thrown_calls (call names es) sc free h =
      let a = no_lvalue (first_place names) (names_valued env (looped b sc) true names (all_judged env (looped b sc) es)) in
      names_fit sc true names es free.0 (λ g. good_args es sc free.1 g) (front_sound a.found (thrown_kind_found true a a.kind) h)
  thrown_calls (std_call n es place) sc free h =
      let a = no_lvalue place (std_valued env (looped b sc) true place n (all_judged env (looped b sc) es)) in
      std_fit sc true place n es (λ g. good_args es sc free g) (front_sound a.found (thrown_kind_found true a a.kind) h)
  thrown_calls (number n place) sc free h = tt
  thrown_calls (path names) sc free h = tt
  thrown_calls (paren e place) sc free h = let a = judged env (looped b sc) (paren e place) in expression_calls (paren e place) sc free (front_sound a.found (thrown_kind_found false a a.kind) h)
  thrown_calls (unary o e place) sc free h = let a = judged env (looped b sc) (unary o e place) in expression_calls (unary o e place) sc free (front_sound a.found (thrown_kind_found false a a.kind) h)
  thrown_calls (binary o x y) sc free h = let a = judged env (looped b sc) (binary o x y) in expression_calls (binary o x y) sc free (front_sound a.found (thrown_kind_found false a a.kind) h)

  throw_calls : (e : Option Expression) (sc : Scope) → ValueFree e → Sound (throw_found env (looped b sc) e) → ValueCallsFit (resolve_value env sc e)
  throw_calls None sc free h = tt
  throw_calls (Some e) sc free h = thrown_calls e sc free h

  return_calls : (e : Option Expression) (gives : Bool) (place : ℕ) (sc : Scope) → ValueFree e → Sound (return_found env (looped b sc) gives place e) → ValueCallsFit (resolve_value env sc e)
  return_calls None gives place sc free h = tt
  return_calls (Some e) true place sc free h = int_calls e sc free h
  return_calls (Some e) false place sc free h = absurd (cc h)

  start_calls : (e : Option Expression) (sc : Scope) → ValueFree e → Sound (start_found env (looped b sc) e) → ValueCallsFit (resolve_value env sc e)
  start_calls None sc free h = tt
  start_calls (Some e) sc free h = int_calls e sc free h

  object_calls : (kind : Kind) (called needs : ℕ) (es : Expressions) (sc : Scope) → AllCallsFree es → Sound (object_found env kind called needs (all_judged env (looped b sc) es)) →
      AllCallsFit (resolve_expressions env sc es)
  object_calls (class_kind k) called needs es sc free h = good_args es sc free (construction_good env k (all_judged env (looped b sc) es) called needs h)
  object_calls int_kind called needs es sc free h = good_args es sc free (all_good (all_judged env (looped b sc) es) h)
  object_calls truth_kind called needs es sc free h = good_args es sc free (all_good (all_judged env (looped b sc) es) h)
  object_calls void_kind called needs es sc free h = good_args es sc free (all_good (all_judged env (looped b sc) es) h)
  object_calls no_kind called needs es sc free h = good_args es sc free (all_good (all_judged env (looped b sc) es) h)

param_looped : (env : Environment) (b : Bool) (ty : Ty) (n : Option Name) (sc : Scope) →
    declare_param env (record { ty = ty; name = n }) (looped b sc) ≡ looped b (declare_param env (record { ty = ty; name = n }) sc)
param_looped env b ty None sc = refl
param_looped env b Int (Some n) sc = refl
param_looped env b Void (Some n) sc = refl
param_looped env b (Object c) (Some n) sc = refl
param_looped env b (IntRef const) (Some n) sc = refl
param_looped env b (ObjectRef const c) (Some n) sc = refl

handler_looped : (env : Environment) (b : Bool) (ty : Option Ty) (n : Option Name) (sc : Scope) →
    handler_scope env ty n (looped b sc) ≡ looped b (handler_scope env ty n sc)
handler_looped env b None n sc = refl
handler_looped env b (Some ty) n sc = param_looped env b ty n (inner sc)

behind_looped : (env : Environment) (b : Bool) (s : Statement) (sc : Scope) → scope_behind env (looped b sc) s ≡ looped b (scope_behind env sc s)
behind_looped env b (local_int x e) sc = refl
behind_looped env b (local_ref p names) sc = param_looped env b p.ty p.name sc
behind_looped env b (local_object c x es) sc = refl
behind_looped env b s sc = refl

module _ (env : Environment) where
  mutual
    statement_calls : (s : Statement) (b : Bool) (sc : Scope) → StatementFree s → Sound (statement_found env (looped b sc) s) → StatementCallsFit (resolve_statement env sc s)
    statement_calls (block ss) b sc free h = statements_calls ss b (inner sc) free h
    statement_calls empty b sc free h = tt
    statement_calls (if_else e s t) b sc free h =
        let there = after (locals_in s) sc in
        let tested = int_found (judged env (looped b sc) e) in
        let first = statement_found env (looped b sc) s in
        let front = front_sound (tested ++ first) (else_found env (looped b there) t) h in (
          int_calls env b e sc free.0 (front_sound tested first front),
          statement_calls s b sc free.1 (back_sound tested first front),
          else_calls t b there free.2 (back_sound (tested ++ first) (else_found env (looped b there) t) h),
        )
    statement_calls (while e s) b sc free h =
        let tested = int_found (judged env (looped b sc) e) in
        (int_calls env b e sc free.0 (front_sound tested (statement_found env (looped true sc) s) h), statement_calls s true sc free.1 (back_sound tested (statement_found env (looped true sc) s) h))
    statement_calls (return place e) b sc free h = return_calls env b e sc.gives_value place sc free h
    statement_calls (break place) b sc free h = tt
    statement_calls (continue place) b sc free h = tt
    statement_calls (throw place e) b sc free h = throw_calls env b e sc free h
    statement_calls (try ss hs) b sc free h =
        let there = after (locals_of ss) sc in
        let first = statements_found env (looped b (inner sc)) ss in
        let second = handlers_found env (looped b there) false hs in
        (statements_calls ss b (inner sc) free.0 (front_sound first second h), handlers_calls hs b false there free.1 (back_sound first second h))
    statement_calls (assign names e) b sc free h =
        int_calls env b e sc free (back_sound (assigned_found (reached env (looped b sc) names) (first_place names)) (int_found (judged env (looped b sc) e)) h)
    statement_calls (evaluate e) b sc free h = expression_calls env b e sc free h
    statement_calls (local_int x e) b sc free h = start_calls env b e sc free (front_sound (start_found env (looped b sc) e) (twice_in x sc.locals) h)
    statement_calls (local_ref p names) b sc free h = tt
    statement_calls (local_object c x es) b sc free h =
        let named = class_found env sc c in
        let built = object_found env (class_of_name env sc c) c.place x.place (all_judged env (looped b sc) es) in
        object_calls env b (class_of_name env sc c) c.place x.place es sc free (back_sound named built (front_sound (named ++ built) (twice_in x sc.locals) h))

    else_calls : (t : Else) (b : Bool) (sc : Scope) → ElseFree t → Sound (else_found env (looped b sc) t) → ElseCallsFit (resolve_else env sc t)
    else_calls no_else b sc free h = tt
    else_calls (else_do s) b sc free h = statement_calls s b sc free h

    pub statements_calls : (ss : Statements) (b : Bool) (sc : Scope) → StatementsFree ss → Sound (statements_found env (looped b sc) ss) → StatementsCallsFit (resolve_statements env sc ss)
    statements_calls no_statements b sc free h = tt
    statements_calls (statement_then s ss) b sc free h =
        let first = statement_found env (looped b sc) s in
        let second = statements_found env (scope_behind env (looped b sc) s) ss in (
          statement_calls s b sc free.0 (front_sound first second h),
          statements_calls ss b (scope_behind env sc s) free.1 (subst (λ x. Sound (statements_found env x ss)) (behind_looped env b s sc) (back_sound first second h)),
        )

    handlers_calls : (hs : Handlers) (b all : Bool) (sc : Scope) → HandlersFree hs → Sound (handlers_found env (looped b sc) all hs) → HandlersCallsFit (resolve_handlers env sc hs)
    handlers_calls no_handlers b all sc free h = tt
    handlers_calls (handler_then ty n ss place hs) b all sc free h =
        let there = after (caught_count ty + locals_of ss) sc in
        let ordered = breaks_if all handler_order place in
        let caught = caught_found env (looped b sc) ty in
        let body = statements_found env (handler_scope env ty n (looped b sc)) ss in
        let others = handlers_found env (looped b there) (all || catches_all ty) hs in
        let front = front_sound (ordered ++ caught ++ body) others h in (
          statements_calls ss b (handler_scope env ty n sc) free.0 (subst (λ x. Sound (statements_found env x ss)) (handler_looped env b ty n sc) (back_sound (ordered ++ caught) body front)),
          handlers_calls hs b (all || catches_all ty) there free.1 (back_sound (ordered ++ caught ++ body) others h),
        )
