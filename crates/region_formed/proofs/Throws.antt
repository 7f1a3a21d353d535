-- What a throw becomes passes its tests.
use Rattle.std.proofs.Common.{◌≡◌, ◌<◌, ℕ, zero, suc, nat_lt, true, List, [], ◌∷◌, ◌++◌, length, Option, Some, None, refl, sym, ap, subst, arith}
use Rattle.std.proofs.lemmas.Bool.Decides.{nat_tests}
use Rattle.std.proofs.lemmas.List.{length-map}
use Rattle.std.specs.Cmp.Derive.{both_true}
use Rattle.cxx_ast.specs.declared.name.Name.{Name}
use Rattle.cxx_ast.specs.declared.name.Bound.{Bound}
use Rattle.cxx_ast.specs.declared.name.Builtin.TheVariants.{BadException}
use Rattle.cxx_ast.specs.Plain.{Checked, Class as ClassTree, Expression, number, path, paren, unary, binary, call, std_call, Expressions}
use Rattle.cxx_ast.specs.Environment.{Kind, int_kind, truth_kind, void_kind, class_kind, no_kind, Scope}
use Rattle.cxx_ast.specs.Lvalue.{first_place}
use Rattle.cxx_ast.specs.Calls.{names_valued, std_valued}
use Rattle.cxx_ast.specs.Construct.{construction_found}
use Rattle.cxx_ast.specs.StatementRules.{throw_found}
use Rattle.cxx_ast.specs.ExpressionRules.{thrown_found, no_lvalue, thrown_kind_found, judged, all_judged}
use Rattle.cxx_ast.specs.Resolve.{resolve_path, resolve_expression, resolve_expressions, resolve_value, std_bound}
use Rattle.cxx_ast.specs.Grammatical.{Where, IsExpression, AreExpressions}
use Rattle.meaning_forms.specs.Class.{ObjectType, int_type, class_type}
use Rattle.meaning_forms.specs.Expression.{lvalue_of, callee_bound, receiver}
use Rattle.region_forms.specs.Form.{Place, store, Region, op, protect, Cleanup, regions_from, in_order}
use Rattle.region_forms.specs.Layout.{layout_of}
use Rattle.region_forms.specs.Numbering.{type_number, destructor_of, class_rows, class_row, type_rows}
use Rattle.region_forms.specs.LowerExpression.{Lowered, exception_slot, first_temporary, place_of, lvalue_type, lower}
use Rattle.region_forms.specs.LowerStatement.{copied, thrown_place, thrown_as, int_thrown, object_thrown, call_thrown, part_thrown, lvalue_thrown, operand_thrown, throwing}
use Rattle.region_forms.specs.Mentioned.{slots_of, slots_of_all, slots_of_cleanup}
use Rattle.region_forms.specs.WellFormed.{holds_address, is_help, slot_test, int_place, address_place, cleanup_test, destructor_test}
use Rattle.class_layout.specs.Fit.{IsBefore}
use Rattle.region_ir.proofs.Specials.{take_objects}
use Rattle.region_formed.proofs.Fine.{Fine, fine_parts}
use Rattle.region_formed.proofs.Meant.{Typed, Given, lowering_in, slots_in, regions_in, classes_in, Reach}
use Rattle.region_formed.proofs.Slots.{slot_there, exception_at}
use Rattle.region_formed.proofs.Called.{Callable, calls_function, calls_method, calls_builtin, builds, bound_called, CalledFine, CallMeant, called, std_called}
use Rattle.region_formed.proofs.Arguments.{lvalue_meant}
use Rattle.region_formed.proofs.Passing.{OnePasses, Pass, Behind, of_max, one_then, one_pass, with_last, op_passes, put_passes, LoweredPasses}
use Rattle.region_formed.proofs.Expressions.{NotBuilt, std_put, call_put, call_meant, lowered, arguments_lowered}
use Rattle.region_formed.proofs.Building.{construct_passes}

-- the number of a type that is there
pub rows_counted : (cs : List ClassTree) → length (class_rows cs) ≡ length cs
rows_counted [] = refl
rows_counted (c ∷ cs) = ap suc (length-map cs (class_row 2))

pub type_there : (p : Checked) (t : ObjectType) → IsBefore (length p.classes) t → nat_lt (type_number t) (length (type_rows p)) ≡ true
type_there p int_type h = grind (arith, nat_tests)
type_there p (class_type k) h = let count = rows_counted p.classes in grind (arith, nat_tests, h, count)

-- the slots of values between calls that every function has
pub free : (g : Given) → Behind g (first_temporary (lowering_in g))
free g = omega arith

pub help_there : (g : Given) → slot_test is_help (slots_in g) (exception_slot (lowering_in g)) ≡ true
help_there g = slot_there is_help (slots_in g) (exception_slot (lowering_in g)) _ (exception_at g) refl

-- the exception object
pub thrown_there : (g : Given) → address_place (regions_in g) (slots_in g) (thrown_place (lowering_in g)) ≡ true
thrown_there g = both_true (slot_there holds_address (slots_in g) (exception_slot (lowering_in g)) _ (exception_at g) refl) refl

-- a region with a cleanup
pub protected : {g : Given} {xs : List Region} {c : Cleanup} → Pass g xs → cleanup_test (regions_in g) (slots_in g) c ≡ true → OnePasses g (protect (in_order xs) c)
protected {g = g} {xs = xs} {c = c} h k = record {
  holds = λ few. both_true k (h.holds (of_max (slots_of_all (regions_from xs)) (slots_of_cleanup c) (slots_of g.body) few).0);
}

-- a value that is computed, then stored
pub value_put : {g : Given} {x : Lowered} → (p : Place) → LoweredPasses g x → int_place (regions_in g) (slots_in g) p ≡ true → Pass g (x.before ++ op (store p x.value) ∷ [])
value_put p h k = with_last h.before (put_passes (λ few. k) h.value)

-- an object is copied from a place to another
pub copied_passes : (g : Given) (k : ℕ) (target source : Place) → k < classes_in g → address_place (regions_in g) (slots_in g) target ≡ true →
    address_place (regions_in g) (slots_in g) source ≡ true → OnePasses g (copied (lowering_in g) k target source)
copied_passes g k target source below t s = record {
  holds = λ few. both_true t (both_true (both_true s refl) ((take_objects g.program (layout_of g.program) g.checked k below).copied source));
}

-- the destructor of a thrown object
destructor_there : (g : Given) (t : ObjectType) → IsBefore (classes_in g) t → destructor_test (regions_in g) (destructor_of g.program t) ≡ true
destructor_there g int_type h = refl
destructor_there g (class_type zero) h = refl
destructor_there g (class_type (suc k)) h = (take_objects g.program (layout_of g.program) g.checked (suc k) h).destroyed

pub thrown_passes : (g : Given) (t : ObjectType) (build : List Region) → IsBefore (classes_in g) t → Pass g build → Pass g (thrown_as (lowering_in g) t build)
thrown_passes g t build h k =
    one_then (op_passes (help_there g)) (one_then (protected k (help_there g)) (one_pass (op_passes
    (both_true (help_there g) (both_true (type_there g.program t h) (destructor_there g t h))))))

module _ (g : Given) (sc : Scope) (r : Reach g sc) where
  int_passes : (e : Expression) → LoweredPasses g (lower (lowering_in g) e (first_temporary (lowering_in g))) → Pass g (int_thrown (lowering_in g) e)
  int_passes e h = thrown_passes g int_type _ tt (value_put (thrown_place (lowering_in g)) h (thrown_there g))

  object_passes : (k : ℕ) → k < classes_in g → (es : Expressions) → AreExpressions es → (called needs : ℕ) →
      Fine g.defined (construction_found g.env k (all_judged g.env sc es) called needs) →
      Pass g (object_thrown (lowering_in g) k (resolve_expressions g.env sc es))
  object_passes k below es i called needs f =
      thrown_passes g (class_type k) _ below
      (construct_passes g sc r k below es i called needs f (thrown_place (lowering_in g)) (thrown_there g) (first_temporary (lowering_in g)) (free g))

  -- the operand is a call
  call_by : (e : Expression) (es : Expressions) → AreExpressions es → (object : List Name) (what : Callable) →
      CalledFine g sc true (all_judged g.env sc es) object what →
      (NotBuilt what → LoweredPasses g (lower (lowering_in g) e (first_temporary (lowering_in g)))) →
      Pass g (call_thrown (lowering_in g) (bound_called what) e (resolve_expressions g.env sc es))
  call_by e es i object (builds k place) h rest = object_passes k h.1 es i place place h.2
  call_by e es i object (calls_function n s) h rest = int_passes e (rest tt)
  call_by e es i object (calls_method k j s) h rest = int_passes e (rest tt)
  call_by e es i object (calls_builtin BadException place) h rest = absurd h.0
  call_by e es i object (calls_builtin b place) h rest = int_passes e (rest tt)

  call_passes : (e : Expression) (es : Expressions) → AreExpressions es → (b : Bound) (object : List Name) (kind : Kind) →
      (c : CallMeant g sc true (all_judged g.env sc es) b object kind) →
      (NotBuilt c.what → LoweredPasses g (lower (lowering_in g) e (first_temporary (lowering_in g)))) →
      Pass g (call_thrown (lowering_in g) b e (resolve_expressions g.env sc es))
  call_passes e es i b object kind c rest =
      subst (λ x. Pass g (call_thrown (lowering_in g) x e (resolve_expressions g.env sc es))) (sym c.bound) (call_by e es i object c.what c.fine rest)

  pub typed_before : (kind : Kind) (t : ObjectType) → Typed (classes_in g) kind t → IsBefore (classes_in g) t
  typed_before int_kind t h = subst (IsBefore (classes_in g)) (sym h) tt
  typed_before (class_kind k) t h = subst (IsBefore (classes_in g)) (sym h.0) h.1
  typed_before truth_kind t h = absurd h
  typed_before void_kind t h = absurd h
  typed_before no_kind t h = absurd h

  -- the operand is no call
  other_passes : (e : Expression) → IsExpression e → Fine g.defined (judged g.env sc e).found →
      Pass g (lvalue_thrown (lowering_in g) (resolve_expression g.env sc e) (lvalue_of (resolve_expression g.env sc e)))
  other_passes e i f = go (lvalue_of (resolve_expression g.env sc e)) refl
    where
      value : LoweredPasses g (lower (lowering_in g) (resolve_expression g.env sc e) (first_temporary (lowering_in g)))
      value = lowered g sc r e i f (first_temporary (lowering_in g)) (free g)

      part : (names : List Name) → address_place (regions_in g) (slots_in g) (place_of (lowering_in g) names) ≡ true → (t : ObjectType) → IsBefore (classes_in g) t →
          Pass g (part_thrown (lowering_in g) (resolve_expression g.env sc e) names t)
      part names there int_type h = int_passes (resolve_expression g.env sc e) value
      part names there (class_type k) h =
          thrown_passes g (class_type k) _ h (one_pass (copied_passes g k (thrown_place (lowering_in g)) (place_of (lowering_in g) names) h (thrown_there g) there))

      go : (o : Option (List Name)) → lvalue_of (resolve_expression g.env sc e) ≡ o → Pass g (lvalue_thrown (lowering_in g) (resolve_expression g.env sc e) o)
      go None q = int_passes (resolve_expression g.env sc e) value
      go (Some names) q =
          let m = lvalue_meant g sc r e i f names q in
          part names m.address (lvalue_type (lowering_in g) names) (typed_before (judged g.env sc e).kind (lvalue_type (lowering_in g) names) m.typed)

  operand_passes : (e : Expression) → IsExpression e → Fine g.defined (thrown_found g.env sc e) → Pass g (operand_thrown (lowering_in g) (resolve_expression g.env sc e))
  operand_passes (call names es) i f =
      let v = names_valued g.env sc true names (all_judged g.env sc es) in
      let a = no_lvalue (first_place names) v in
      let c = called g sc r true names (all_judged g.env sc es) i.0 (fine_parts g.defined v.found (thrown_kind_found true a v.kind) f).0 in
      call_passes (resolve_expression g.env sc (call names es)) es i.1 (callee_bound (resolve_path g.env sc names)) (receiver (resolve_path g.env sc names)) v.kind c
      (λ not_built. call_put (first_temporary (lowering_in g)) (free g)
      (call_meant g sc r true es i.1 (first_temporary (lowering_in g)) (callee_bound (resolve_path g.env sc names)) (receiver (resolve_path g.env sc names)) v.kind c not_built
      (λ types s. arguments_lowered g sc r es types s (first_temporary (lowering_in g)) (free g))))
  operand_passes (std_call n es place) i f =
      let v = std_valued g.env sc true place n (all_judged g.env sc es) in
      let c = std_called g sc true place n (all_judged g.env sc es) (fine_parts g.defined v.found (thrown_kind_found true (no_lvalue place v) v.kind) f).0 in
      call_passes (resolve_expression g.env sc (std_call n es place)) es i (std_bound n.text) [] v.kind c
      (λ not_built. std_put g sc r true n es place i v.kind c not_built (first_temporary (lowering_in g)) (free g)
      (λ types s. arguments_lowered g sc r es types s (first_temporary (lowering_in g)) (free g)))
  operand_passes (number v place) i f = other_passes (number v place) i tt
  operand_passes (path names) i f = other_passes (path names) i (fine_parts g.defined (judged g.env sc (path names)).found _ f).0
  operand_passes (paren e place) i f = other_passes (paren e place) i (fine_parts g.defined (judged g.env sc (paren e place)).found _ f).0
  operand_passes (unary o e place) i f = other_passes (unary o e place) i (fine_parts g.defined (judged g.env sc (unary o e place)).found _ f).0
  operand_passes (binary o a b) i f = other_passes (binary o a b) i (fine_parts g.defined (judged g.env sc (binary o a b)).found _ f).0

  pub throw_passes : (e : Option Expression) → Where IsExpression e → Fine g.defined (throw_found g.env sc e) → Pass g (throwing (lowering_in g) (resolve_value g.env sc e))
  throw_passes None i f = one_pass (op_passes refl)
  throw_passes (Some e) i f = operand_passes e i f
