-- Arguments fit the slots of the function that is called.
use Rattle.std.proofs.Common.{◌≡◌, ◌∙◌, ◌+◌, ◌==◌, ℕ, suc, nat_lt, Bool, true, false, List, [], ◌∷◌, drop, length, Some, if◌then◌else◌, refl, ap, subst, arith}
use Rattle.std.specs.Prelude.{slice_get, unwrap_or}
use Rattle.std.proofs.lemmas.Bool.Decides.{nat_tests}
use Rattle.std.proofs.lemmas.Option.{slice_get_within}
use Rattle.std.proofs.lemmas.List.{length-append}
use Rattle.std.specs.Cmp.Derive.{both_true}
use Rattle.cxx_ast.specs.declared.types.Ty.{Ty}
use Rattle.cxx_ast.specs.declared.types.Ty.TheVariants.{Int, Void, Object, IntRef, ObjectRef}
use Rattle.cxx_ast.specs.Plain.{Checked, Function, Expression, Expressions, no_expressions, expression_then}
use Rattle.cxx_ast.specs.Environment.{Environment, Passing, Scope}
use Rattle.cxx_ast.specs.ExpressionRules.{all_judged}
use Rattle.cxx_ast.specs.Resolve.{resolve_expressions}
use Rattle.meaning_forms.specs.Running.{Callee}
use Rattle.meaning_forms.specs.Expression.{count_of as expressions_count, lvalue_of, names_of, types_of, is_reference}
use Rattle.region_forms.specs.Form.{load, int_argument, address_argument, int_slot, Slot, Region, Arguments, arguments_from, function_at, no_function as no_region_function, kind_of, kinds_of, handler_argument}
use Rattle.region_forms.specs.Layout.{Layout}
use Rattle.region_forms.specs.Numbering.{number_of, declared_in_body, variables_of}
use Rattle.region_forms.specs.LowerExpression.{slot_place, Lowering, Lowered, LoweredArguments, some_call, address_passed, int_passed, refers, place_of, lower, lower_arguments}
use Rattle.region_forms.specs.LowerProgram.{slot_for, own_slots, slots_for, regions_of}
use Rattle.region_forms.specs.WellFormed.{fits, fit, count_of, call_test, argument_test}
use Rattle.region_ir.specs.AtNumber.{IsThere, called_function}
use Rattle.region_ir.proofs.AtNumber.{at_number, number_within}
use Rattle.region_formed.proofs.Meant.{IsPassed, Shaped}
use Rattle.region_formed.proofs.Slots.{in_front, variable_slot_at}

-- a callee takes arguments where the function that it is does
pub call_fits : (p : Checked) (l : Layout) (c : Callee) (filled : ℕ) (args : Arguments) → IsThere p c →
    (filled + count_of args == (called_function p l c).parameters) ≡ true → fit (called_function p l c).slots filled args ≡ true →
    call_test (regions_of p l) (number_of p c) filled args ≡ true
call_fits p l c filled args there counts fitting =
    let less = number_within p l c there in
    let within : nat_lt (number_of p c) (length (regions_of p l).functions) ≡ true = grind (arith, nat_tests, less) in
    let same : function_at (regions_of p l) (number_of p c) ≡ called_function p l c = ap (λ o. unwrap_or o no_region_function) (at_number p l c there) in
    both_true within (both_true (ap (λ g. filled + count_of args == g.parameters) same ∙ counts) (ap (λ g. fit g.slots filled args) same ∙ fitting))

-- a function without parameters may become a handler
pub handler_fits : (p : Checked) (l : Layout) (c : Callee) (slots : List Slot) → IsThere p c → ((called_function p l c).parameters == 0) ≡ true →
    argument_test (regions_of p l) slots (handler_argument (number_of p c)) ≡ true
handler_fits p l c slots there none =
    let less = number_within p l c there in
    let within : nat_lt (number_of p c) (length (regions_of p l).functions) ≡ true = grind (arith, nat_tests, less) in
    let same : function_at (regions_of p l) (number_of p c) ≡ called_function p l c = ap (λ o. unwrap_or o no_region_function) (at_number p l c there) in
    both_true within (ap (λ g. g.parameters == 0) same ∙ none)

-- each type is one of a parameter
abbrev pub AllPassed : List Ty → Type 0
AllPassed [] = Unit {0}
AllPassed (t ∷ types) = IsPassed t × AllPassed types

pub shaped_passed : (qs : List Passing) (types : List Ty) → Shaped qs types → AllPassed types × (length types ≡ length qs)
shaped_passed [] [] h = (tt, refl)
shaped_passed [] (t ∷ types) h = absurd h
shaped_passed (q ∷ qs) [] h = absurd h
shaped_passed (q ∷ qs) (t ∷ types) h = let rest = shaped_passed qs types h.3 in ((h.1, rest.0), ap suc rest.1)

-- as many arguments as expressions
pub same_number : (env : Environment) (sc : Scope) (es : Expressions) → expressions_count (resolve_expressions env sc es) ≡ length (all_judged env sc es)
same_number env sc no_expressions = refl
same_number env sc (expression_then e es) = let rest = same_number env sc es in omega (arith, rest)

one_counted : (b c : Bool) (l : Lowering) (e : Expression) (t n : ℕ) (rest : ℕ → LoweredArguments) → ((u : ℕ) → count_of (arguments_from (rest u).arguments) ≡ n) →
    count_of (arguments_from (if b then address_passed (place_of l (names_of (lvalue_of e))) (rest t) else int_passed c t (lower l e t) rest).arguments) ≡ n + 1
one_counted true c l e t n rest h = ap (λ k. k + 1) (h t)
one_counted false true l e t n rest h = ap (λ k. k + 1) (h (t + 1))
one_counted false false l e t n rest h = ap (λ k. k + 1) (h (lower l e t).next)

pub arguments_counted : (l : Lowering) (es : Expressions) (types : List Ty) (t : ℕ) →
    count_of (arguments_from (lower_arguments l es types t).arguments) ≡ expressions_count es
arguments_counted l no_expressions types t = refl
arguments_counted l (expression_then e es) types t =
    one_counted (refers types) (some_call es) l e t (expressions_count es) (λ u. lower_arguments l es (drop 1 types) u)
    (λ u. arguments_counted l es (drop 1 types) u)

-- the slots from s on are those of parameters
abbrev pub SlotsAre : Layout → List Slot → ℕ → List Ty → Type 0
SlotsAre l slots s types = (i : ℕ) (t : Ty) → slice_get types i ≡ Some t → kinds_of slots (s + i) ≡ (slot_for l t).kind

module _ (lay : Layout) (slots : List Slot) (l : Lowering) where
  int_fits : (s : ℕ) (c : Bool) (t : ℕ) (a : Lowered) (rest : ℕ → LoweredArguments) → kinds_of slots s ≡ int_slot →
      ((u : ℕ) → fit slots (s + 1) (arguments_from (rest u).arguments) ≡ true) → fit slots s (arguments_from (int_passed c t a rest).arguments) ≡ true
  int_fits s false t a rest e h = both_true (ap (λ k. fits k (int_argument a.value)) e) (h a.next)
  int_fits s true t a rest e h = both_true (ap (λ k. fits k (int_argument (load (slot_place t)))) e) (h (t + 1))

  pub arguments_fit : (es : Expressions) (types : List Ty) (s t : ℕ) → AllPassed types → length types ≡ expressions_count es → SlotsAre lay slots s types →
      fit slots s (arguments_from (lower_arguments l es types t).arguments) ≡ true
  arguments_fit no_expressions types s t h c k = refl
  arguments_fit (expression_then e es) [] s t h c k = absurd (omega (arith, c))
  arguments_fit (expression_then e es) (ty ∷ types) s t h c k =
      by ty h.0 (subst (λ n. kinds_of slots n ≡ (slot_for lay ty).kind) none (k 0 ty refl))
      (λ u. arguments_fit es types (s + 1) u h.1 (omega (arith, c)) (λ i x e. let same : s + suc i ≡ s + 1 + i = omega arith in
      subst (λ n. kinds_of slots n ≡ (slot_for lay x).kind) same (k (suc i) x e)))
    where
      none : s + 0 ≡ s
      none = omega arith

      by : (ty : Ty) → IsPassed ty → kinds_of slots s ≡ (slot_for lay ty).kind →
          ((u : ℕ) → fit slots (s + 1) (arguments_from (lower_arguments l es types u).arguments) ≡ true) →
          fit slots s (arguments_from (if is_reference ty then address_passed (place_of l (names_of (lvalue_of e))) (lower_arguments l es types t)
          else int_passed (some_call es) t (lower l e t) (λ u. lower_arguments l es types u)).arguments) ≡ true
      by Int p q rest = int_fits s (some_call es) t (lower l e t) (λ u. lower_arguments l es types u) q rest
      by (IntRef const) p q rest = both_true (ap (λ k. fits k (address_argument (place_of l (names_of (lvalue_of e))))) q) (rest t)
      by (ObjectRef const n) p q rest = both_true (ap (λ k. fits k (address_argument (place_of l (names_of (lvalue_of e))))) q) (rest t)
      by Void p q rest = absurd p
      by (Object n) p q rest = absurd p

-- the slots of a function's parameters
pub parameter_slots : (l : Layout) (m : Bool) (f : Function) (body : Region) → SlotsAre l (slots_for l m (variables_of f) body) (length (own_slots m)) (types_of f.parameters)
parameter_slots l m f body i t e =
    let less = slice_get_within (types_of f.parameters) i t e in
    let all = length-append (types_of f.parameters) (declared_in_body f.body) in
    ap kind_of (variable_slot_at l m (variables_of f) body i (omega (arith, less, all)))
    ∙ ap (λ o. (slot_for l (unwrap_or o Int)).kind) (in_front (types_of f.parameters) (declared_in_body f.body) i less ∙ e)
