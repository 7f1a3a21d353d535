-- What statements that break no rule become passes its tests, where the rest of the block does.
use Rattle.std.proofs.Common.{◌≡◌, ◌∙◌, ◌+◌, ◌<◌, ℕ, pos, max, Bool, true, false, List, [], ◌∷◌, ◌++◌, Option, Some, None, if◌then◌else◌, refl, sym, subst}
use Rattle.std.specs.Prelude.{slice_get}
use Rattle.std.specs.Cmp.Derive.{both_true}
use Rattle.cxx_ast.specs.declared.name.Name.{Name}
use Rattle.cxx_ast.specs.declared.name.Bound.TheVariants.{Local}
use Rattle.cxx_ast.specs.declared.types.Ty.{Ty}
use Rattle.cxx_ast.specs.declared.types.Ty.TheVariants.{Int, Void, Object, IntRef, ObjectRef}
use Rattle.cxx_ast.specs.declared.types.Param.{Param}
use Rattle.cxx_ast.specs.Plain.{Expression, number, path, paren, unary, binary, call, std_call, Expressions, Statement, block, empty, if_else, while, return, break, continue, throw, try, assign, evaluate, local_int, local_ref, local_object}
use Rattle.cxx_ast.specs.Environment.{Kind, int_kind, truth_kind, void_kind, class_kind, no_kind, Variable, Scope}
use Rattle.cxx_ast.specs.TypeNames.{class_of_name, class_found, type_kind, type_found, is_const}
use Rattle.cxx_ast.specs.Lvalue.{reached, first_place}
use Rattle.cxx_ast.specs.Reference.{int_wanted, int_found, binding_found}
use Rattle.cxx_ast.specs.ExpressionRules.{judged, all_judged}
use Rattle.cxx_ast.specs.Locals.{has_variable, with_variable, declare, declare_param, scope_behind}
use Rattle.cxx_ast.specs.StatementRules.{twice_in, name_twice, start_found, return_found, assigned_found, object_found, statement_found}
use Rattle.cxx_ast.specs.Resolve.{bind, bind_some, resolve_class, resolve_type, resolve_path, resolve_expression, resolve_expressions, resolve_value, resolve_statement}
use Rattle.cxx_ast.specs.Grammatical.{Each, Where, NotEmpty, IsReference, IsExpression, AreExpressions, IsCall, IsStatement}
use Rattle.meaning_forms.specs.Class.{class_type, class_named, object_type}
use Rattle.meaning_forms.specs.Expression.{callee_bound, receiver}
use Rattle.region_forms.specs.Form.{Place, Value, Region, branch, loop, catch, leave_region, Clauses, clause_then, regions_from, in_order}
use Rattle.region_forms.specs.Layout.{layout_of}
use Rattle.region_forms.specs.Numbering.{declared_in}
use Rattle.region_forms.specs.LowerExpression.{Lowered, result_slot, exception_slot, first_temporary, slot_place, place_of, lower, dropped, lower_store, lower_construct}
use Rattle.region_forms.specs.LowerStatement.{variable_slot, thrown_place, returning, initialised, bound_to, looping, scoped, caught_parameter, with_caught, handler}
use Rattle.region_forms.specs.Mentioned.{slots_of, slots_of_all, slots_of_value, slots_of_clauses}
use Rattle.region_forms.specs.WellFormed.{is_reference, int_place, address_place, clause_type_test}
use Rattle.region_ir.specs.Leaves.{clause_leaves_test}
use Rattle.region_ir.proofs.Specials.{take_objects}
use Rattle.region_formed.proofs.Fine.{Fine, fine_parts, fine_sound}
use Rattle.region_formed.proofs.Meant.{Typed, IsHeld, Given, lowering_in, slots_in, regions_in, classes_in, VariableMeant, Reach}
use Rattle.region_formed.proofs.Slots.{slot_there, result_at, int_in}
use Rattle.region_formed.proofs.Paths.{path_meant}
use Rattle.region_formed.proofs.Types.{class_stands, type_typed, stands_typed, held_same, From, from_first, variable_meant, slot_of, place_of_variable}
use Rattle.region_formed.proofs.Called.{called, std_called}
use Rattle.region_formed.proofs.Passing.{Few, OnePasses, Pass, ValuePasses, of_max, then_pass, one_then, none_pass, one_pass, with_last, in_order_passes, op_passes, put_passes, number_passes, LoweredPasses}
use Rattle.region_formed.proofs.Expressions.{call_dropped_passes, call_placed_passes, not_thrown, call_meant, std_meant, lowered, arguments_lowered}
use Rattle.region_formed.proofs.Building.{construct_passes}
use Rattle.region_formed.proofs.Throws.{free, help_there, thrown_there, protected, value_put, copied_passes}

-- what is left of a block passes at every depth
abbrev pub Rest : Given → (ℕ → List Region) → Type 0
Rest g rest = (d : ℕ) → Pass g (rest d)

-- clauses that pass where the slots that they mention are there
pub record ClausesPass (g : Given) (cs : Clauses) : Type 0 where
  pub holds : Few g (slots_of_clauses cs) → clause_leaves_test (regions_in g) (slots_in g) cs ≡ true

pub clause_passes : {g : Given} {a : Region} {cs : Clauses} → (t : Option ℕ) → clause_type_test (regions_in g) t ≡ true → OnePasses g a → ClausesPass g cs →
    ClausesPass g (clause_then t (exception_slot (lowering_in g)) a cs)
clause_passes {g = g} {a = a} {cs = cs} t typed h k = record {
  holds = λ few.
      let parts = of_max (exception_slot (lowering_in g) + 1) (max (slots_of a) (slots_of_clauses cs)) (slots_of g.body) few in
      let rest = of_max (slots_of a) (slots_of_clauses cs) (slots_of g.body) parts.1 in
      both_true typed (both_true (help_there g) (both_true (h.holds rest.0) (k.holds rest.1)));
}

pub catch_passes : {g : Given} {xs : List Region} {cs : Clauses} → Pass g xs → ClausesPass g cs → OnePasses g (catch (in_order xs) cs)
catch_passes {g = g} {xs = xs} {cs = cs} h k = record {
  holds = λ few. let parts = of_max (slots_of_all (regions_from xs)) (slots_of_clauses cs) (slots_of g.body) few in both_true (h.holds parts.0) (k.holds parts.1);
}

pub branch_of : {g : Given} {v : Value} {a b : Region} → ValuePasses g v → OnePasses g a → OnePasses g b → OnePasses g (branch v a b)
branch_of {g = g} {v = v} {a = a} {b = b} h k m = record {
  holds = λ few. let parts = of_max (slots_of_value v) (max (slots_of a) (slots_of b)) (slots_of g.body) few in
      let sides = of_max (slots_of a) (slots_of b) (slots_of g.body) parts.1 in
      both_true (h.holds parts.0) (both_true (k.holds sides.0) (m.holds sides.1));
}

pub loop_passes : {g : Given} {v : Value} {a : Region} → ValuePasses g v → OnePasses g a → OnePasses g (loop v a)
loop_passes {g = g} {v = v} {a = a} h k = record {
  holds = λ few. let parts = of_max (slots_of_value v) (slots_of a) (slots_of g.body) few in both_true (h.holds parts.0) (k.holds parts.1);
}

pub left_passes : (g : Given) (n : ℕ) → OnePasses g (leave_region n)
left_passes g n = record { holds = λ few. refl }

pub looping_passes : {g : Given} {x : Lowered} → (calls : Bool) (body : ℕ → Region) (d : ℕ) → LoweredPasses g x → ((b : ℕ) → OnePasses g (body b)) →
    OnePasses g (looping calls x body d)
looping_passes false body d h k = loop_passes h.value (k (d + 2))
looping_passes {g = g} true body d h k =
    loop_passes (number_passes (pos 1)) (in_order_passes (with_last h.before (branch_of h.value (k (d + 4)) (left_passes g 3))))

module _ (g : Given) where
  -- what is done in an object's scope
  scoped_passes : (k n : ℕ) (rest : ℕ → List Region) (d : ℕ) → k < classes_in g →
      address_place (regions_in g) (slots_in g) (slot_place (variable_slot (lowering_in g) n)) ≡ true → Rest g rest →
      Pass g (scoped (lowering_in g) (class_type k) (slot_place (variable_slot (lowering_in g) n)) rest d)
  scoped_passes k n rest d below there h =
      one_pass (protected (h (d + 2)) (both_true there (take_objects g.program (layout_of g.program) g.checked k below).destroyed))

  class_below : (k : Kind) (n : Name) → Typed (classes_in g) k (object_type (Object n)) → class_named n < classes_in g
  class_below (class_kind j) n h = let same : class_named n ≡ j = cc h.0 in subst (λ i. i < classes_in g) (sym same) h.1
  class_below int_kind n h = absurd (cc h)
  class_below truth_kind n h = absurd h
  class_below void_kind n h = absurd h
  class_below no_kind n h = absurd h

  -- a handler's parameter
  pub parameter_passes : (t : Ty) (kind : Kind) (n : ℕ) → slice_get g.variables n ≡ Some t → Typed (classes_in g) kind (object_type t) → IsHeld t →
      Pass g (caught_parameter (lowering_in g) t (variable_slot (lowering_in g) n))
  parameter_passes Int kind n e typed held =
      one_pass (put_passes (λ few. (place_of_variable g n Int kind e typed held).0) (record { holds = λ few. thrown_there g }))
  parameter_passes (Object k) kind n e typed held =
      one_pass (copied_passes g (class_named k) (slot_place (variable_slot (lowering_in g) n)) (thrown_place (lowering_in g)) (class_below kind k typed)
      (place_of_variable g n (Object k) kind e typed held).1 (thrown_there g))
  parameter_passes (IntRef const) kind n e typed held =
      one_pass (op_passes (both_true (slot_there is_reference (slots_in g) (variable_slot (lowering_in g) n) _ (slot_of g n (IntRef const) e) refl) (thrown_there g)))
  parameter_passes (ObjectRef const k) kind n e typed held =
      one_pass (op_passes (both_true (slot_there is_reference (slots_in g) (variable_slot (lowering_in g) n) _ (slot_of g n (ObjectRef const k) e) refl) (thrown_there g)))
  parameter_passes Void kind n e typed held = absurd held

  pub caught_passes : (t : Ty) (kind : Kind) (n : ℕ) (body : ℕ → List Region) → slice_get g.variables n ≡ Some t → Typed (classes_in g) kind (object_type t) → IsHeld t →
      Rest g body → Rest g (with_caught (lowering_in g) t (variable_slot (lowering_in g) n) body)
  caught_passes Int kind n body e typed held h d = h d
  caught_passes (Object k) kind n body e typed held h d =
      scoped_passes (class_named k) n body d (class_below kind k typed) (place_of_variable g n (Object k) kind e typed held).1 h
  caught_passes (IntRef const) kind n body e typed held h d = h d
  caught_passes (ObjectRef const k) kind n body e typed held h d = h d
  caught_passes Void kind n body e typed held h d = absurd held

  pub handler_passes : {parameter : List Region} → (body : ℕ → List Region) (d : ℕ) → Pass g parameter → Rest g body →
      OnePasses g (handler (lowering_in g) parameter body d)
  handler_passes body d h k = in_order_passes (then_pass h (one_then (op_passes (help_there g)) (one_pass (protected (k (d + 2)) refl))))

  -- a scope with a variable more
  rows_more : (v : Variable) (rows : List (List Variable)) → VariableMeant g v → Each (Each (VariableMeant g)) rows → Each (Each (VariableMeant g)) (with_variable v rows)
  rows_more v [] m h = tt
  rows_more v (row ∷ rows) m h = go (has_variable v.text row)
    where
      last : (row : List Variable) → Each (VariableMeant g) row → Each (VariableMeant g) (row ++ (v ∷ []))
      last [] k = (m, tt)
      last (w ∷ row) k = (k.0, last row k.1)

      go : (b : Bool) → Each (Each (VariableMeant g)) (if b then row ∷ rows else (row ++ (v ∷ [])) ∷ rows)
      go true = h
      go false = (last row h.0, h.1)

  pub declare_reaches : (sc : Scope) (n : Name) (kind : Kind) (const : Bool) (t : Ty) → Reach g sc → slice_get g.variables sc.next ≡ Some t →
      Typed (classes_in g) kind (object_type t) → IsHeld t → Reach g (declare n kind const sc)
  declare_reaches sc n kind const t r e typed held =
      let v : Variable = record { text = n.text; kind = kind; is_const = const; number = sc.next } in
      record { locals = rows_more v sc.locals (variable_meant g v t e typed held) r.locals; own = r.own }

  pub param_reaches : (sc : Scope) (p : Param) (t : Ty) → Reach g sc → slice_get g.variables sc.next ≡ Some t →
      Typed (classes_in g) (type_kind g.env sc p.ty) (object_type t) → IsHeld t → Reach g (declare_param g.env p sc)
  param_reaches sc p t r e typed held = go p.name
    where
      go : (n : Option Name) → Reach g (declare_param g.env (record p { name = n }) sc)
      go None = record { locals = r.locals; own = r.own }
      go (Some n) = declare_reaches sc n (type_kind g.env sc p.ty) (is_const p.ty) t r e typed held

  pub reach_same : (sc there : Scope) → sc.locals ≡ there.locals → sc.own ≡ there.own → Reach g sc → Reach g there
  reach_same sc there e o r = record { locals = subst (Each (Each (VariableMeant g))) e r.locals; own = λ k q. r.own k (o ∙ q) }

  pub reference_held : (t : Ty) → IsReference t → IsHeld t
  reference_held Int h = absurd h
  reference_held Void h = absurd h
  reference_held (Object n) h = absurd h
  reference_held (IntRef const) h = tt
  reference_held (ObjectRef const n) h = tt

  pub fine_type : (sc : Scope) (t : Ty) → IsHeld t → Fine g.defined (type_found g.env sc t) → Typed (classes_in g) (type_kind g.env sc t) (object_type (resolve_type g.env sc t))
  fine_type sc t held f =
      type_typed g.program g.special g.env sc t g.meant.some g.meant.names held (fine_sound g.defined (type_found g.env sc t) f)

  pub ref_type_found : (sc : Scope) (p : Param) (names : List Name) → Fine g.defined (statement_found g.env sc (local_ref p names)) →
      Fine g.defined (type_found g.env sc p.ty) × Fine g.defined (reached g.env sc names).found
  ref_type_found sc p names f =
      let x = reached g.env sc names in
      let binding = binding_found g.env (type_kind g.env sc p.ty) (is_const p.ty) x.kind x.is_const (first_place names) in
      let first = fine_parts g.defined (type_found g.env sc p.ty ++ x.found ++ binding) (name_twice p.name sc) f in
      let second = fine_parts g.defined (type_found g.env sc p.ty ++ x.found) binding first.0 in
      fine_parts g.defined (type_found g.env sc p.ty) x.found second.0

  pub object_class_found : (sc : Scope) (c n : Name) (es : Expressions) → Fine g.defined (statement_found g.env sc (local_object c n es)) →
      Fine g.defined (class_found g.env sc c) × Fine g.defined (object_found g.env (class_of_name g.env sc c) c.place n.place (all_judged g.env sc es))
  object_class_found sc c n es f =
      let made = object_found g.env (class_of_name g.env sc c) c.place n.place (all_judged g.env sc es) in
      fine_parts g.defined (class_found g.env sc c) made (fine_parts g.defined (class_found g.env sc c ++ made) (twice_in n sc.locals) f).0

  class_type_of : (sc : Scope) (c : Name) → Fine g.defined (class_found g.env sc c) →
      Typed (classes_in g) (class_of_name g.env sc c) (object_type (Object (resolve_class g.env sc c)))
  class_type_of sc c f =
      stands_typed (classes_in g) (class_of_name g.env sc c) (resolve_class g.env sc c)
      (class_stands g.program g.special g.env sc c g.meant.some g.meant.names (fine_sound g.defined (class_found g.env sc c) f))

  -- the scope behind a statement
  pub behind_reaches : (sc : Scope) (s : Statement) → IsStatement s → Reach g sc → Fine g.defined (statement_found g.env sc s) →
      From g sc.next (declared_in (resolve_statement g.env sc s)) → Reach g (scope_behind g.env sc s)
  behind_reaches sc (block ss) i r f v = reach_same sc _ refl refl r
  behind_reaches sc empty i r f v = reach_same sc _ refl refl r
  behind_reaches sc (if_else e s t) i r f v = reach_same sc _ refl refl r
  behind_reaches sc (while e s) i r f v = reach_same sc _ refl refl r
  behind_reaches sc (return place e) i r f v = reach_same sc _ refl refl r
  behind_reaches sc (break place) i r f v = reach_same sc _ refl refl r
  behind_reaches sc (continue place) i r f v = reach_same sc _ refl refl r
  behind_reaches sc (throw place e) i r f v = reach_same sc _ refl refl r
  behind_reaches sc (try ss hs) i r f v = reach_same sc _ refl refl r
  behind_reaches sc (assign names e) i r f v = reach_same sc _ refl refl r
  behind_reaches sc (evaluate e) i r f v = reach_same sc _ refl refl r
  behind_reaches sc (local_int n e) i r f v = declare_reaches sc n int_kind false Int r (from_first v) refl tt
  behind_reaches sc (local_ref p names) i r f v =
      let held = reference_held p.ty i.0 in
      param_reaches sc p (resolve_type g.env sc p.ty) r (from_first v) (fine_type sc p.ty held (ref_type_found sc p names f).0) (held_same g.env sc p.ty held)
  behind_reaches sc (local_object c n es) i r f v =
      declare_reaches sc n (class_of_name g.env sc c) false (Object (resolve_class g.env sc c)) r (from_first v) (class_type_of sc c (object_class_found sc c n es f).0) tt

  -- values
  pub value : (sc : Scope) → Reach g sc → (e : Expression) → IsExpression e → Fine g.defined (int_found (judged g.env sc e)) →
      LoweredPasses g (lower (lowering_in g) (resolve_expression g.env sc e) (first_temporary (lowering_in g)))
  value sc r e i f =
      let a = judged g.env sc e in
      lowered g sc r e i (fine_parts g.defined a.found (int_wanted a.kind a.place) f).0 (first_temporary (lowering_in g)) (free g)

  -- a value that is stored in a place
  stored : (sc : Scope) → Reach g sc → (e : Expression) → IsExpression e → Fine g.defined (judged g.env sc e).found → (p : Place) →
      int_place (regions_in g) (slots_in g) p ≡ true → Pass g (lower_store (lowering_in g) (resolve_expression g.env sc e) p (first_temporary (lowering_in g)))
  stored sc r (call names es) i f p there =
      let c = called g sc r false names (all_judged g.env sc es) i.0 f in
      call_placed_passes p there (call_meant g sc r false es i.1 (first_temporary (lowering_in g)) (callee_bound (resolve_path g.env sc names))
      (receiver (resolve_path g.env sc names)) _ c (not_thrown g sc r (all_judged g.env sc es) (receiver (resolve_path g.env sc names)) c.what c.fine)
      (λ types s. arguments_lowered g sc r es types s (first_temporary (lowering_in g)) (free g)))
  stored sc r (std_call n es place) i f p there =
      let c = std_called g sc false place n (all_judged g.env sc es) f in
      call_placed_passes p there (std_meant g sc r false n es place i _ c (not_thrown g sc r (all_judged g.env sc es) [] c.what c.fine) (first_temporary (lowering_in g))
      (λ types s. arguments_lowered g sc r es types s (first_temporary (lowering_in g)) (free g)))
  stored sc r (paren e place) i f p there = stored sc r e i f p there
  stored sc r (number v place) i f p there = value_put p (lowered g sc r (number v place) i f (first_temporary (lowering_in g)) (free g)) there
  stored sc r (path names) i f p there = value_put p (lowered g sc r (path names) i f (first_temporary (lowering_in g)) (free g)) there
  stored sc r (unary o e place) i f p there = value_put p (lowered g sc r (unary o e place) i f (first_temporary (lowering_in g)) (free g)) there
  stored sc r (binary o a b) i f p there = value_put p (lowered g sc r (binary o a b) i f (first_temporary (lowering_in g)) (free g)) there

  int_stored : (sc : Scope) → Reach g sc → (e : Expression) → IsExpression e → Fine g.defined (int_found (judged g.env sc e)) → (p : Place) →
      int_place (regions_in g) (slots_in g) p ≡ true → Pass g (lower_store (lowering_in g) (resolve_expression g.env sc e) p (first_temporary (lowering_in g)))
  int_stored sc r e i f p there =
      let a = judged g.env sc e in stored sc r e i (fine_parts g.defined a.found (int_wanted a.kind a.place) f).0 p there

  pub returned : (sc : Scope) → Reach g sc → (b : Bool) (place : ℕ) (e : Option Expression) → Where IsExpression e → Fine g.defined (return_found g.env sc b place e) →
      (d : ℕ) → Pass g (returning (lowering_in g) (resolve_value g.env sc e) d)
  returned sc r b place None i f d = one_pass (left_passes g d)
  returned sc r true place (Some e) i f d =
      with_last (int_stored sc r e i f (slot_place (result_slot (lowering_in g))) (int_in g (result_slot (lowering_in g)) (result_at g))) (left_passes g d)
  returned sc r false place (Some e) i f d = absurd f

  pub started : (sc : Scope) → Reach g sc → (n : Name) (e : Option Expression) → Where IsExpression e → Fine g.defined (start_found g.env sc e) →
      slice_get g.variables sc.next ≡ Some Int → Pass g (initialised (lowering_in g) (bind n (Local sc.next)) (resolve_value g.env sc e))
  started sc r n None i f v = none_pass
  started sc r n (Some e) i f v =
      int_stored sc r e i f (slot_place (variable_slot (lowering_in g) sc.next)) (place_of_variable g sc.next Int int_kind v refl tt).0

  pub reference_bound : (sc : Scope) (t : Ty) → IsReference t → slice_get g.variables sc.next ≡ Some (resolve_type g.env sc t) → (n : Option Name) (p : Place) →
      address_place (regions_in g) (slots_in g) p ≡ true → Pass g (bound_to (lowering_in g) (bind_some n (Local sc.next)) p)
  reference_bound sc t i v None p there = none_pass
  reference_bound sc (IntRef const) i v (Some n) p there =
      one_pass (op_passes (both_true (slot_there is_reference (slots_in g) (variable_slot (lowering_in g) sc.next) _ (slot_of g sc.next (IntRef const) v) refl) there))
  reference_bound sc (ObjectRef const c) i v (Some n) p there =
      one_pass (op_passes (both_true (slot_there is_reference (slots_in g) (variable_slot (lowering_in g) sc.next) _
      (slot_of g sc.next (ObjectRef const (resolve_class g.env sc c)) v) refl) there))
  reference_bound sc Int i v (Some n) p there = absurd i
  reference_bound sc Void i v (Some n) p there = absurd i
  reference_bound sc (Object c) i v (Some n) p there = absurd i

  -- a call as a statement
  pub dropped_passes : (sc : Scope) → Reach g sc → (e : Expression) → IsExpression e → IsCall e → Fine g.defined (judged g.env sc e).found →
      Pass g (dropped (lowering_in g) (resolve_expression g.env sc e) (first_temporary (lowering_in g)))
  dropped_passes sc r (call names es) i is f =
      let c = called g sc r false names (all_judged g.env sc es) i.0 f in
      call_dropped_passes (call_meant g sc r false es i.1 (first_temporary (lowering_in g)) (callee_bound (resolve_path g.env sc names))
      (receiver (resolve_path g.env sc names)) _ c (not_thrown g sc r (all_judged g.env sc es) (receiver (resolve_path g.env sc names)) c.what c.fine)
      (λ types s. arguments_lowered g sc r es types s (first_temporary (lowering_in g)) (free g)))
  dropped_passes sc r (std_call n es place) i is f =
      let c = std_called g sc false place n (all_judged g.env sc es) f in
      call_dropped_passes (std_meant g sc r false n es place i _ c (not_thrown g sc r (all_judged g.env sc es) [] c.what c.fine) (first_temporary (lowering_in g))
      (λ types s. arguments_lowered g sc r es types s (first_temporary (lowering_in g)) (free g)))
  dropped_passes sc r (number v place) i is f = absurd is
  dropped_passes sc r (path names) i is f = absurd is
  dropped_passes sc r (paren e place) i is f = absurd is
  dropped_passes sc r (unary o e place) i is f = absurd is
  dropped_passes sc r (binary o a b) i is f = absurd is

  -- an assignment
  pub assigned : (sc : Scope) → Reach g sc → (names : List Name) (e : Expression) → NotEmpty names → IsExpression e →
      Fine g.defined (assigned_found (reached g.env sc names) (first_place names) ++ int_found (judged g.env sc e)) →
      Pass g (lower_store (lowering_in g) (resolve_expression g.env sc e) (place_of (lowering_in g) (resolve_path g.env sc names)) (first_temporary (lowering_in g)))
  assigned sc r [] e some i f = absurd some
  assigned sc r (n ∷ names) e some i f =
      let x = reached g.env sc (n ∷ names) in
      let parts = fine_parts g.defined (assigned_found x (first_place (n ∷ names))) (int_found (judged g.env sc e)) f in
      let way = fine_parts g.defined x.found _ parts.0 in
      int_stored sc r e i parts.1 (place_of (lowering_in g) (resolve_path g.env sc (n ∷ names))) (path_meant g sc r n names way.0).int

  -- a local object, and what is done in its scope
  pub object_passes : (sc : Scope) → Reach g sc → (c n : Name) (es : Expressions) → AreExpressions es → Fine g.defined (class_found g.env sc c) →
      Fine g.defined (object_found g.env (class_of_name g.env sc c) c.place n.place (all_judged g.env sc es)) →
      slice_get g.variables sc.next ≡ Some (Object (resolve_class g.env sc c)) → (rest : ℕ → List Region) → Rest g rest → (d : ℕ) →
      Pass g (lower_construct (lowering_in g) (class_named (resolve_class g.env sc c)) (resolve_expressions g.env sc es)
      (slot_place (variable_slot (lowering_in g) sc.next)) (first_temporary (lowering_in g)) ++
      scoped (lowering_in g) (class_type (class_named (resolve_class g.env sc c))) (slot_place (variable_slot (lowering_in g) sc.next)) rest d)
  object_passes sc r c n es i f h v rest k d =
      let s = class_stands g.program g.special g.env sc c g.meant.some g.meant.names (fine_sound g.defined (class_found g.env sc c) f) in
      let typed = class_type_of sc c f in
      let there = (place_of_variable g sc.next (Object (resolve_class g.env sc c)) (class_of_name g.env sc c) v typed tt).1 in
      let made = subst (λ kind. Fine g.defined (object_found g.env kind c.place n.place (all_judged g.env sc es))) s.kind_is h in
      subst (λ j. Pass g (lower_construct (lowering_in g) j (resolve_expressions g.env sc es) (slot_place (variable_slot (lowering_in g) sc.next)) (first_temporary (lowering_in g)) ++
      scoped (lowering_in g) (class_type j) (slot_place (variable_slot (lowering_in g) sc.next)) rest d)) (sym s.name_is)
      (then_pass (construct_passes g sc r s.number s.below es i c.place n.place made (slot_place (variable_slot (lowering_in g) sc.next)) there
      (first_temporary (lowering_in g)) (free g)) (scoped_passes s.number sc.next rest d s.below there k))
