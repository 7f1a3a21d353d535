-- What arguments that break no rule are: names, or expressions whose value is wanted; and a built-in function takes them.
use Rattle.std.proofs.Common.{◌≡◌, ◌==◌, ◌⊎◌, inl, inr, ℕ, zero, suc, Bool, true, false, List, [], ◌∷◌, ◌++◌, length, Option, Some, None, find, if◌then◌else◌, refl, sym, subst, arith}
use Rattle.std.specs.Prelude.{slice_get}
use Rattle.std.proofs.lemmas.Bool.Decides.{nat_tests}
use Rattle.cxx_ast.specs.declared.types.Ty.{Ty}
use Rattle.cxx_ast.specs.Rule.{arity, not_lvalue}
use Rattle.cxx_ast.specs.Finding.{Finding, breaks}
use Rattle.cxx_ast.specs.Plain.{Expression, number, path, paren, unary, binary, call, std_call, Expressions, no_expressions, expression_then}
use Rattle.cxx_ast.specs.Environment.{Kind, int_kind, truth_kind, void_kind, class_kind, no_kind, Passing, Signature, ClassEntry, Scope, Meaning, unknown, a_local, a_field, a_method, a_global, a_function, a_class, a_builtin}
use Rattle.cxx_ast.specs.Lookup.{look, derives}
use Rattle.cxx_ast.specs.Reference.{Judgement, binding_found, no_lvalue_found, bound_found, int_wanted, int_found, argument_found, arguments_found, all_found}
use Rattle.cxx_ast.specs.Construct.{is_constructor_with as selects, by_number_found, single_found, construction_found}
use Rattle.cxx_ast.specs.Calls.{ints_found, handler_meant, handler_found}
use Rattle.cxx_ast.specs.ExpressionRules.{judged, all_judged}
use Rattle.cxx_ast.specs.Resolve.{bound_of, resolve_expressions}
use Rattle.meaning_forms.specs.Expression.{types_of, function_named, function_number}
use Rattle.meaning_forms.specs.Class.{method_at}
use Rattle.region_formed.proofs.Fine.{Fine, fine_parts}
use Rattle.region_formed.proofs.Meant.{HasKind, Shaped, Given}
use Rattle.region_formed.proofs.Constructors.{constructed_by}
use Rattle.region_formed.proofs.Expressions.{params_shaped}
use Rattle.builtin_calls.proofs.Trees.{HasCount, IsNamed, AllFit}

-- a value is there
abbrev pub NotVoid : Kind → Type 0
NotVoid void_kind = ⊥
NotVoid _ = Unit {0}

abbrev IsPath : Expression → Type 0
IsPath (path names) = Unit {0}
IsPath _ = ⊥

-- where an int is needed there is a value
pub wanted_there : (defined : List (List ℕ)) (kind : Kind) (place : ℕ) → Fine defined (int_wanted kind place) → NotVoid kind
wanted_there defined void_kind place f = absurd f
wanted_there defined int_kind place f = tt
wanted_there defined truth_kind place f = tt
wanted_there defined (class_kind k) place f = tt
wanted_there defined no_kind place f = tt

module _ (g : Given) (sc : Scope) where
  -- a value that breaks no rule
  abbrev pub IsFineValue : Expression → Type 0
  IsFineValue e = Fine g.defined (judged g.env sc e).found × NotVoid (judged g.env sc e).kind

  abbrev pub OneFine : Expression → Type 0
  OneFine e = IsPath e ⊎ IsFineValue e

  abbrev pub EachFine : Expressions → Type 0
  EachFine no_expressions = Unit {0}
  EachFine (expression_then e es) = OneFine e × EachFine es

  pub value_fine : (e : Expression) → Fine g.defined (int_found (judged g.env sc e)) → IsFineValue e
  value_fine e f =
      let a = judged g.env sc e in
      let parts = fine_parts g.defined a.found (int_wanted a.kind a.place) f in (parts.0, wanted_there g.defined a.kind a.place parts.1)

  -- no reference binds to what has no value
  never_void : (wanted kind : Kind) (place : ℕ) → HasKind wanted → Fine g.defined (no_lvalue_found g.env wanted kind place) → NotVoid kind
  never_void wanted int_kind place h f = tt
  never_void wanted truth_kind place h f = tt
  never_void wanted (class_kind k) place h f = tt
  never_void wanted no_kind place h f = tt
  never_void int_kind void_kind place h f = absurd f
  never_void truth_kind void_kind place h f = absurd f
  never_void void_kind void_kind place h f = absurd f
  never_void (class_kind k) void_kind place h f = absurd f
  never_void no_kind void_kind place h f = absurd h

  no_target : (q : Passing) (a : Judgement) → a.target ≡ None → HasKind q.kind → Fine g.defined (bound_found g.env q a) → Fine g.defined a.found × NotVoid a.kind
  no_target q a e h f =
      let here = subst (λ t. Fine g.defined (a.found ++ elim t as (λ x. List Finding) [
        | Some t ↦ binding_found g.env q.kind q.is_const a.kind t.is_const a.place
        | None ↦ no_lvalue_found g.env q.kind a.kind a.place
      ])) e f in
      let parts = fine_parts g.defined a.found (no_lvalue_found g.env q.kind a.kind a.place) here in
      (parts.0, never_void q.kind a.kind a.place h parts.1)

  by_reference : (e : Expression) (q : Passing) → HasKind q.kind → Fine g.defined (bound_found g.env q (judged g.env sc e)) → OneFine e
  by_reference (path names) q h f = inl tt
  by_reference (number v place) q h f = inr (no_target q (judged g.env sc (number v place)) refl h f)
  by_reference (paren e place) q h f = inr (no_target q (judged g.env sc (paren e place)) refl h f)
  by_reference (unary o e place) q h f = inr (no_target q (judged g.env sc (unary o e place)) refl h f)
  by_reference (binary o x y) q h f = inr (no_target q (judged g.env sc (binary o x y)) refl h f)
  by_reference (call names es) q h f = inr (no_target q (judged g.env sc (call names es)) refl h f)
  by_reference (std_call n es place) q h f = inr (no_target q (judged g.env sc (std_call n es place)) refl h f)

  argument_fine : (e : Expression) (q : Passing) → HasKind q.kind → Fine g.defined (argument_found g.env q (judged g.env sc e)) → OneFine e
  argument_fine e q h f = go q.is_reference f
    where
      go : (b : Bool) → Fine g.defined (if b then bound_found g.env q (judged g.env sc e) else int_found (judged g.env sc e)) → OneFine e
      go true k = by_reference e q h k
      go false k = inr (value_fine e k)

  -- as many arguments as parameters
  less_by_one : (n m : ℕ) → (suc n == suc m) ≡ true → (n == m) ≡ true
  less_by_one n m h = grind (arith, nat_tests, h)

  too_many : (n : ℕ) → (suc n == 0) ≡ true → ⊥
  too_many n h = grind (arith, nat_tests, h)

  too_few : (n : ℕ) → (0 == suc n) ≡ true → ⊥
  too_few n h = grind (arith, nat_tests, h)

  pub arguments_fine : (qs : List Passing) (types : List Ty) (es : Expressions) → Shaped qs types → (length (all_judged g.env sc es) == length qs) ≡ true →
      Fine g.defined (arguments_found g.env qs (all_judged g.env sc es)) → EachFine es
  arguments_fine qs types no_expressions h c f = tt
  arguments_fine [] [] (expression_then e es) h c f = absurd (too_many (length (all_judged g.env sc es)) c)
  arguments_fine [] (t ∷ types) (expression_then e es) h c f = absurd h
  arguments_fine (q ∷ qs) [] (expression_then e es) h c f = absurd h
  arguments_fine (q ∷ qs) (t ∷ types) (expression_then e es) h c f =
      let parts = fine_parts g.defined (argument_found g.env q (judged g.env sc e)) (arguments_found g.env qs (all_judged g.env sc es)) f in
      (argument_fine e q h.2 parts.0, arguments_fine qs types es h.3 (less_by_one (length (all_judged g.env sc es)) (length qs) c) parts.1)

  -- ints
  pub ints_fine : (es : Expressions) → Fine g.defined (ints_found (all_judged g.env sc es)) → EachFine es
  ints_fine no_expressions f = tt
  ints_fine (expression_then e es) f =
      let parts = fine_parts g.defined (int_found (judged g.env sc e)) (ints_found (all_judged g.env sc es)) f in (inr (value_fine e parts.0), ints_fine es parts.1)

  pub counted : (n : ℕ) (es : Expressions) → (length (all_judged g.env sc es) == n) ≡ true → HasCount n (resolve_expressions g.env sc es)
  counted zero no_expressions c = tt
  counted zero (expression_then e es) c = absurd (too_many (length (all_judged g.env sc es)) c)
  counted (suc n) no_expressions c = absurd (too_few n c)
  counted (suc n) (expression_then e es) c = counted n es (less_by_one (length (all_judged g.env sc es)) n c)

  -- the arguments of a constructor
  by_number : (k : ℕ) (es : Expressions) (called : ℕ) → Fine g.defined (by_number_found g.env k (all_judged g.env sc es) called) → EachFine es
  by_number k es called f = of_class (slice_get g.env.classes k) refl f
    where
      given : List Judgement
      given = all_judged g.env sc es

      flipped : (a b : ℕ) → (a == b) ≡ true → (b == a) ≡ true
      flipped a b h = grind (arith, nat_tests, h)

      of_signature : (c : ClassEntry) → slice_get g.env.classes k ≡ Some c → (x : Option Signature) → find (selects k c.name (length given)) c.functions ≡ x →
          Fine g.defined (elim (elim x as (λ y. Option (List Passing)) [ None ↦ None | Some s ↦ Some s.parameters ]) as (λ y. List Finding) [
            | None ↦ breaks arity called ∷ all_found given
            | Some ps ↦ arguments_found g.env ps given
          ]) → EachFine es
      of_signature c e None q h = absurd h
      of_signature c e (Some s) q h =
          let there = constructed_by g.program g.special k (length given) c s (g.meant.classes k c e) q in
          let shape = params_shaped (length g.program.classes) s.parameters (method_at g.program k there.place).parameters there.parameters in
          arguments_fine s.parameters (types_of (method_at g.program k there.place).parameters) es shape (flipped (length s.parameters) (length given) there.counted) h

      of_class : (x : Option ClassEntry) → slice_get g.env.classes k ≡ x →
          Fine g.defined (elim (elim x as (λ y. Option (List Passing)) [
            | None ↦ None
            | Some c ↦ elim (find (selects k c.name (length given)) c.functions) [ None ↦ None | Some s ↦ Some s.parameters ]
          ]) as (λ y. List Finding) [ None ↦ breaks arity called ∷ all_found given | Some ps ↦ arguments_found g.env ps given ]) → EachFine es
      of_class None e h = absurd h
      of_class (Some c) e h = of_signature c e (find (selects k c.name (length given)) c.functions) refl h

  -- one argument, by its type
  single_fine : (k : ℕ) (e : Expression) (called : ℕ) (kind : Kind) → (judged g.env sc e).kind ≡ kind → Fine g.defined (single_found g.env k (judged g.env sc e) called kind) →
      EachFine (expression_then e no_expressions)
  single_fine k e called no_kind q f = (inr (f, subst NotVoid (sym q) tt), tt)
  single_fine k e called (class_kind j) q f = go (derives g.env j k) f
    where
      go : (b : Bool) → Fine g.defined (if b then (judged g.env sc e).found ++ elim (judged g.env sc e).target [ Some t ↦ [] | None ↦ breaks not_lvalue (judged g.env sc e).place ∷ [] ]
          else by_number_found g.env k (judged g.env sc e ∷ []) called) → EachFine (expression_then e no_expressions)
      go true h = (inr ((fine_parts g.defined (judged g.env sc e).found _ h).0, subst NotVoid (sym q) tt), tt)
      go false h = by_number k (expression_then e no_expressions) called h
  single_fine k e called int_kind q f = by_number k (expression_then e no_expressions) called f
  single_fine k e called truth_kind q f = by_number k (expression_then e no_expressions) called f
  single_fine k e called void_kind q f = by_number k (expression_then e no_expressions) called f

  pub construction_fine : (k : ℕ) (es : Expressions) (called needs : ℕ) → Fine g.defined (construction_found g.env k (all_judged g.env sc es) called needs) → EachFine es
  construction_fine k no_expressions called needs f = tt
  construction_fine k (expression_then e no_expressions) called needs f = single_fine k e called (judged g.env sc e).kind refl f
  construction_fine k (expression_then e (expression_then x es)) called needs f = by_number k (expression_then e (expression_then x es)) called f

  -- a function is given to be set as a handler
  handler_meaning : (place : ℕ) (m : Meaning) → Fine g.defined (handler_meant place m) → IsNamed (function_number (bound_of g.env m))
  handler_meaning place (a_function s) f = tt
  handler_meaning place unknown f = absurd f
  handler_meaning place (a_local v) f = absurd f
  handler_meaning place (a_field k i kind) f = absurd f
  handler_meaning place (a_method k i s) f = absurd f
  handler_meaning place (a_global x) f = absurd f
  handler_meaning place (a_class k) f = absurd f
  handler_meaning place (a_builtin b) f = absurd f

  pub handler_given : (place : ℕ) (es : Expressions) → Fine g.defined (handler_found g.env sc place (all_judged g.env sc es)) →
      IsNamed (function_named (resolve_expressions g.env sc es)) × AllFit (resolve_expressions g.env sc es)
  handler_given place no_expressions f = absurd f
  handler_given place (expression_then e (expression_then x es)) f = absurd f
  handler_given place (expression_then (path (n ∷ [])) no_expressions) f = (handler_meaning n.place (look g.env sc n) f, ((tt, tt), tt))
  handler_given place (expression_then (path []) no_expressions) f = absurd f
  handler_given place (expression_then (path (n ∷ m ∷ names)) no_expressions) f = absurd f
  handler_given place (expression_then (number v other) no_expressions) f = absurd f
  handler_given place (expression_then (paren e other) no_expressions) f = absurd f
  handler_given place (expression_then (unary o e other) no_expressions) f = absurd f
  handler_given place (expression_then (binary o x y) no_expressions) f = absurd f
  handler_given place (expression_then (call names es) no_expressions) f = absurd f
  handler_given place (expression_then (std_call n es other) no_expressions) f = absurd f
