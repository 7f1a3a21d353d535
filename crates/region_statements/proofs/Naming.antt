-- Assignments, and local variables by their names.
use Rattle.std.proofs.Common.{◌≡◌, ℕ, ◌+◌, ◌<◌, ℤ, Bool, List, [], ◌∷◌, ◌++◌, Option, Some, None, refl, sym, subst, arith, length}
use Rattle.class_layout.specs.StandApart.{StandApart}
use Rattle.cxx_ast.specs.Plain.{Expression}
use Rattle.cxx_ast.specs.declared.name.Name.{Name}
use Rattle.cxx_ast.specs.declared.types.Ty.{Ty}
use Rattle.cxx_ast.specs.declared.types.Ty.TheVariants.{Int, Void, Object, IntRef, ObjectRef}
use Rattle.cxx_ast.specs.declared.types.Param.{Param}
use Rattle.meaning_forms.specs.Class.{int_type, object_type, class_named}
use Rattle.meaning_forms.specs.Part.{cell}
use Rattle.meaning_forms.specs.World.{Reference, whole, nowhere}
use Rattle.meaning_forms.specs.Context.{Context as SourceContext}
use Rattle.meaning_forms.specs.Frame.{Frame as SourceFrame, with_variable, with_parameter, lvalue, bound_as, local_number}
use Rattle.meaning_forms.specs.Outcome.{Result as SourceResult, done as source_done, stopped as source_stopped, Action as SourceAction, continued as source_continued, Flow as SourceFlow, normal as source_normal, pure as source_pure, new_object, write, world, ◌>>=◌, ◌>>◌}
use Rattle.region_forms.specs.Form.{Region, op, bind}
use Rattle.region_forms.specs.Outcome.{normal}
use Rattle.region_forms.specs.Ending.{Running}
use Rattle.region_forms.specs.LowerExpression.{Lowering, first_temporary, slot_place, place_of, variable_type, lower, lower_store}
use Rattle.region_forms.specs.LowerStatement.{variable_slot, bound_to}
use Rattle.region_simulation.specs.Reach.{KindsFit}
use Rattle.region_simulation.specs.Names.{AreNamed}
use Rattle.region_simulation.specs.Evaluates.{Everywhere, Evaluates}
use Rattle.region_simulation.specs.Writing.{assigned}
use Rattle.region_simulation.specs.Flows.{DoesAlike}
use Rattle.region_simulation.specs.Statements.{HasNumber, DeclaresNext, CanBind}
use Rattle.region_simulation.proofs.Following.{follows_now}
use Rattle.region_simulation.proofs.Keeping.{Addressed, names_addressed, class_addressed}
use Rattle.region_simulation.proofs.Assigning.{assignments_store}
use Rattle.region_simulation.proofs.Flowing.{does_later}
use Rattle.region_statements.proofs.Ending.{does_next}
use Rattle.region_statements.proofs.Locals.{does_same, does_int, does_int_value, does_reference}
use Rattle.region_statements.proofs.Variables.{IsReference}

module _ (l : Lowering) (own : Option ℕ) (gives : Bool) (b : Running) (v : SourceFrame) (c : SourceContext) (fit : KindsFit l b.kinds) (n i d : ℕ) where
  -- nothing is done
  pub does_nothing : DoesAlike l own gives b v c n i d (source_pure source_normal) []
  does_nothing at w s stands scope = (normal, s, refl, (follows_now l.layout l.program at (variable_slot l n) c w s stands, refl))

  -- an assignment, then the rest
  pub does_assign : StandApart l.layout.classes l.program.classes → (act : SourceAction ℤ) (e : Expression) (names : List Name) (rest : SourceAction SourceFlow) (ys : List Region)
      → AreNamed l own v.variables names int_type → Evaluates l own b v c (first_temporary l) act (lower l e (first_temporary l)) → DoesAlike l own gives b v c n i d rest ys
      → DoesAlike l own gives b v c n i d (act >>= (λ z. world >>= (λ w. write (lvalue l.program w v names) z >> rest))) (lower_store l e (place_of l names) (first_temporary l) ++ ys)
  does_assign apart act e names rest ys named evaluates next =
      let stored = lower_store l e (place_of l names) (first_temporary l) in
      does_same l own gives b v c n i d (assigned l v names act >> rest) (act >>= (λ z. world >>= (λ w. write (lvalue l.program w v names) z >> rest)))
      (stored ++ ys) (λ w. same (act w))
      (does_next l own gives b v c n i d (assigned l v names act) (λ u. rest) stored ys
      (assignments_store l own b v c fit apart (first_temporary l) act e names (omega arith) named evaluates) (λ u. next))
    where
      same : (r : SourceResult ℤ) → source_continued (source_continued r (λ z w. write (lvalue l.program w v names) z w)) (λ u. rest)
          ≡ source_continued r (λ z. world >>= (λ w. write (lvalue l.program w v names) z >> rest))
      same (source_done z w) = refl
      same (source_stopped x w) = refl

  -- a local int without a value, and with one
  pub does_named_int : (x : Name) → DeclaresNext l n (Some x) Int → (rest : SourceFrame → SourceAction SourceFlow) (ys : List Region)
      → ((o : ℕ) → DoesAlike l own gives b (with_variable x (whole o) v) c (n + 1) i d (rest (with_variable x (whole o) v)) ys)
      → DoesAlike l own gives b v c n i d (new_object (cell None) >>= (λ o. rest (with_variable x (whole o) v))) ys
  does_named_int x declares rest ys next =
      go n declares.numbered declares.there declares.typed next
    where
      go : (q : ℕ) → local_number x.bound ≡ q → q < length l.variables → variable_type l q ≡ Int
          → ((o : ℕ) → DoesAlike l own gives b (with_variable x (whole o) v) c (q + 1) i d (rest (with_variable x (whole o) v)) ys)
          → DoesAlike l own gives b v c q i d (new_object (cell None) >>= (λ o. rest (with_variable x (whole o) v))) ys
      go q e = subst (λ q. q < length l.variables → variable_type l q ≡ Int
          → ((o : ℕ) → DoesAlike l own gives b (with_variable x (whole o) v) c (q + 1) i d (rest (with_variable x (whole o) v)) ys)
          → DoesAlike l own gives b v c q i d (new_object (cell None) >>= (λ o. rest (with_variable x (whole o) v))) ys) e
          (λ there is_int next. does_int l own gives b v c fit (local_number x.bound) i d there is_int (λ o. rest (with_variable x (whole o) v)) ys next)

  pub does_named_int_value : (x : Name) → DeclaresNext l n (Some x) Int → (act : SourceAction ℤ) (e : Expression) (rest : SourceFrame → SourceAction SourceFlow) (ys : List Region)
      → Evaluates l own b v c (first_temporary l) act (lower l e (first_temporary l))
      → ((o : ℕ) → DoesAlike l own gives b (with_variable x (whole o) v) c (n + 1) i d (rest (with_variable x (whole o) v)) ys)
      → DoesAlike l own gives b v c n i d ((act >>= (λ z. new_object (cell (Some z)))) >>= (λ o. rest (with_variable x (whole o) v)))
      (lower_store l e (slot_place (variable_slot l (local_number x.bound))) (first_temporary l) ++ ys)
  does_named_int_value x declares act e rest ys evaluates next =
      go n declares.numbered declares.there declares.typed next
    where
      go : (q : ℕ) → local_number x.bound ≡ q → q < length l.variables → variable_type l q ≡ Int
          → ((o : ℕ) → DoesAlike l own gives b (with_variable x (whole o) v) c (q + 1) i d (rest (with_variable x (whole o) v)) ys)
          → DoesAlike l own gives b v c q i d ((act >>= (λ z. new_object (cell (Some z)))) >>= (λ o. rest (with_variable x (whole o) v)))
          (lower_store l e (slot_place (variable_slot l (local_number x.bound))) (first_temporary l) ++ ys)
      go q f = subst (λ q. q < length l.variables → variable_type l q ≡ Int
          → ((o : ℕ) → DoesAlike l own gives b (with_variable x (whole o) v) c (q + 1) i d (rest (with_variable x (whole o) v)) ys)
          → DoesAlike l own gives b v c q i d ((act >>= (λ z. new_object (cell (Some z)))) >>= (λ o. rest (with_variable x (whole o) v)))
          (lower_store l e (slot_place (variable_slot l (local_number x.bound))) (first_temporary l) ++ ys)) f
          (λ there is_int next. does_int_value l own gives b v c fit (local_number x.bound) i d there is_int act e (λ o. rest (with_variable x (whole o) v)) ys evaluates next)

  -- a local reference, named or not
  pub does_named_reference : (x : Param) (names : List Name) → DeclaresNext l n x.name x.ty → CanBind l own v.variables x.ty names
      → (rest : SourceFrame → SourceAction SourceFlow) (ys : List Region)
      → ((r : Reference) → DoesAlike l own gives b (with_parameter x.name r v) c (n + 1) i d (rest (with_parameter x.name r v)) ys)
      → DoesAlike l own gives b v c n i d (world >>= (λ w. rest (with_parameter x.name (bound_as w x.ty (lvalue l.program w v names)) v)))
      (bound_to l x.name (place_of l names) ++ ys)
  does_named_reference x names declares binds rest ys next =
      go x.name n declares.numbered declares.there declares.typed next
    where
      is_reference : (t : Ty) → CanBind l own v.variables t names → IsReference t
      is_reference (IntRef k) h = tt
      is_reference (ObjectRef k q) h = tt
      is_reference Int h = absurd h
      is_reference Void h = absurd h
      is_reference (Object k) h = absurd h

      addressed : (t : Ty) → CanBind l own v.variables t names
          → Everywhere l own v c (λ at w s. Addressed l b.kinds at (first_temporary l) s.frame (bound_as w t (lvalue l.program w v names)) (object_type t) names)
      addressed (IntRef k) h at w s stands reach = names_addressed l own b.kinds v at c w s (first_temporary l) (omega arith) fit reach stands names int_type h
      addressed (ObjectRef k q) h at w s stands reach = class_addressed l own b.kinds v at c w s (first_temporary l) (omega arith) fit reach stands names (class_named q) h
      addressed Int h at w s stands reach = absurd h
      addressed Void h at w s stands reach = absurd h
      addressed (Object k) h at w s stands reach = absurd h

      named : (y : Name) (q : ℕ) → local_number y.bound ≡ q → q < length l.variables → variable_type l q ≡ x.ty
          → ((r : Reference) → DoesAlike l own gives b (with_variable y r v) c (q + 1) i d (rest (with_variable y r v)) ys)
          → DoesAlike l own gives b v c q i d (world >>= (λ w. rest (with_variable y (bound_as w x.ty (lvalue l.program w v names)) v)))
          (op (bind (variable_slot l (local_number y.bound)) (place_of l names)) ∷ ys)
      named y q f = subst (λ q. q < length l.variables → variable_type l q ≡ x.ty
          → ((r : Reference) → DoesAlike l own gives b (with_variable y r v) c (q + 1) i d (rest (with_variable y r v)) ys)
          → DoesAlike l own gives b v c q i d (world >>= (λ w. rest (with_variable y (bound_as w x.ty (lvalue l.program w v names)) v)))
          (op (bind (variable_slot l (local_number y.bound)) (place_of l names)) ∷ ys)) f
          (λ there typed next.
          does_reference l own gives b v c fit (local_number y.bound) i d there (λ w. bound_as w x.ty (lvalue l.program w v names)) names (λ r. rest (with_variable y r v)) ys
          (subst (λ t. IsReference t) (sym typed) (is_reference x.ty binds))
          (subst (λ t. Everywhere l own v c (λ at w s. Addressed l b.kinds at (first_temporary l) s.frame (bound_as w x.ty (lvalue l.program w v names)) (object_type t) names)) (sym typed)
          (addressed x.ty binds)) next)

      go : (y : Option Name) (q : ℕ) → HasNumber y q → q < length l.variables → variable_type l q ≡ x.ty
          → ((r : Reference) → DoesAlike l own gives b (with_parameter y r v) c (q + 1) i d (rest (with_parameter y r v)) ys)
          → DoesAlike l own gives b v c q i d (world >>= (λ w. rest (with_parameter y (bound_as w x.ty (lvalue l.program w v names)) v))) (bound_to l y (place_of l names) ++ ys)
      go None q numbered there typed next = does_later l own gives b v c q (q + 1) i d (rest v) ys (omega arith) (omega (arith, there)) (next nowhere)
      go (Some y) q numbered there typed next = named y q numbered there typed next
