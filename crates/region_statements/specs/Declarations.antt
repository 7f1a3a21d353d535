-- Local variables, whose scope is what follows, over whatever that does.
use Rattle.std.specs.Prelude.{ℕ, ◌+◌, ℤ, List, ◌++◌, Some, None}
use Rattle.cxx_ast.specs.Plain.{Expression}
use Rattle.cxx_ast.specs.declared.name.Name.{Name}
use Rattle.cxx_ast.specs.declared.types.Param.{Param}
use Rattle.cxx_ast.specs.declared.types.Ty.TheVariants.{Int}
use Rattle.meaning_forms.specs.Part.{cell}
use Rattle.meaning_forms.specs.World.{Reference, whole}
use Rattle.meaning_forms.specs.Frame.{Frame as SourceFrame, with_variable, with_parameter, lvalue, bound_as, local_number}
use Rattle.meaning_forms.specs.Outcome.{Action as SourceAction, Flow as SourceFlow, new_object, world, ◌>>=◌}
use Rattle.region_forms.specs.Form.{Region}
use Rattle.region_forms.specs.LowerExpression.{first_temporary, slot_place, place_of, lower, lower_store}
use Rattle.region_forms.specs.LowerStatement.{variable_slot, bound_to}
use Rattle.region_simulation.specs.Reach.{KindsFit}
use Rattle.region_simulation.specs.Evaluates.{Evaluates}
use Rattle.region_simulation.specs.Flows.{DoesAlike}
use Rattle.region_simulation.specs.Statements.{DeclaresNext, CanBind}
use Rattle.region_statements.specs.Sequences.{InEachCall}

-- an int without a value has its slot, of whose bytes nothing is said
abbrev pub IntsStandUnset : Type 0
IntsStandUnset = InEachCall (λ l own gives b v c.
    KindsFit l b.kinds → (n i d : ℕ) (x : Name) → DeclaresNext l n (Some x) Int → (rest : SourceFrame → SourceAction SourceFlow) (ys : List Region)
    → ((o : ℕ) → DoesAlike l own gives b (with_variable x (whole o) v) c (n + 1) i d (rest (with_variable x (whole o) v)) ys)
    → DoesAlike l own gives b v c n i d (new_object (cell None) >>= (λ o. rest (with_variable x (whole o) v))) ys)

-- an int with a value is stored in its slot
abbrev pub IntsStandSet : Type 0
IntsStandSet = InEachCall (λ l own gives b v c.
    KindsFit l b.kinds → (n i d : ℕ) (x : Name) → DeclaresNext l n (Some x) Int → (act : SourceAction ℤ) (e : Expression)
    → (rest : SourceFrame → SourceAction SourceFlow) (ys : List Region) → Evaluates l own b v c (first_temporary l) act (lower l e (first_temporary l))
    → ((o : ℕ) → DoesAlike l own gives b (with_variable x (whole o) v) c (n + 1) i d (rest (with_variable x (whole o) v)) ys)
    → DoesAlike l own gives b v c n i d ((act >>= (λ z. new_object (cell (Some z)))) >>= (λ o. rest (with_variable x (whole o) v)))
    (lower_store l e (slot_place (variable_slot l (local_number x.bound))) (first_temporary l) ++ ys))

-- a reference's slot gets the address of what it is bound to
abbrev pub ReferencesAreBound : Type 0
ReferencesAreBound = InEachCall (λ l own gives b v c.
    KindsFit l b.kinds → (n i d : ℕ) (x : Param) (names : List Name) → DeclaresNext l n x.name x.ty → CanBind l own v.variables x.ty names
    → (rest : SourceFrame → SourceAction SourceFlow) (ys : List Region)
    → ((r : Reference) → DoesAlike l own gives b (with_parameter x.name r v) c (n + 1) i d (rest (with_parameter x.name r v)) ys)
    → DoesAlike l own gives b v c n i d (world >>= (λ w. rest (with_parameter x.name (bound_as w x.ty (lvalue l.program w v names)) v)))
    (bound_to l x.name (place_of l names) ++ ys))
