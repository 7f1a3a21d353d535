-- Main: flowing off its end is as good as returning 0 (ISO/IEC 14882:2003, 3.6.1/5). So its regions store 0 behind those of its body, which
-- a return leaves: in front of them, a value that a return stored would stand where an exception out of a destructor replaces that return.
use Rattle.std.specs.Prelude.{Some, slice_get, ◌≡◌, ℕ, suc, pos, false, List, [], ◌∷◌, length, None}
use Rattle.class_layout.specs.StandApart.{StandApart}
use Rattle.cxx_ast.specs.declared.types.Ty.TheVariants.{Int}
use Rattle.cxx_ast.specs.Plain.{Checked, Function}
use Rattle.meaning_forms.specs.Call.{statements_in, body_of}
use Rattle.meaning_forms.specs.Class.{function_at as source_function_at}
use Rattle.meaning_forms.specs.Context.{Context as SourceContext}
use Rattle.meaning_forms.specs.Frame.{Frame as SourceFrame}
use Rattle.meaning_forms.specs.Outcome.{Result as SourceResult, done as source_done, Flow as SourceFlow, breaks, continues}
use Rattle.meaning_forms.specs.Running.{Running as SourceRunning, function}
use Rattle.meaning_forms.specs.Specification.{under_specification}
use Rattle.meaning_forms.specs.World.{World as SourceWorld}
use Rattle.region_forms.specs.Form.{help_slot, number, Region, store, op, in_order, RegionFunction, Regions}
use Rattle.region_forms.specs.Layout.{Layout}
use Rattle.region_forms.specs.Numbering.{variables_of}
use Rattle.region_forms.specs.LowerExpression.{Lowering, result_slot, slot_place}
use Rattle.region_forms.specs.LowerStatement.{statements}
use Rattle.region_forms.specs.LowerProgram.{lowering, limited, result_for, with_body}
use Rattle.region_simulation.specs.Calls.{SameCalls}
use Rattle.region_statements.specs.Fueled.{fueled}
use Rattle.region_statements.specs.Functions.{IsTypedBody}
use Rattle.region_statements.specs.Calls.{regions_running, SameCall, RunsAlike}

-- the regions of main's body, then 0 in the result's slot
abbrev pub main_regions : Lowering → Function → List Region
main_regions l f =
    limited l f.specification (λ d. statements l (statements_in f.body) 0 (length f.parameters) d) 1 ∷ op (store (slot_place (result_slot l)) (number (pos 0))) ∷ []

-- main with such regions
abbrev pub main_function : Checked → Layout → Function → RegionFunction
main_function p layout f =
    let l = lowering p layout false (variables_of f) in
    with_body layout false (variables_of f) (length f.parameters) f.name.text (result_for l f.result) (in_order (main_regions l f))

-- no jump comes out: `break` and `continue` stand in loops
abbrev pub NotJumped : SourceResult SourceFlow → Type 0
NotJumped (source_done breaks w) = ⊥
NotJumped (source_done continues w) = ⊥
NotJumped x = Unit {0}

-- none comes out of a function's body
abbrev pub StaysInBody : SourceRunning → Function → Type 0
StaysInBody r f = (v : SourceFrame) (c : SourceContext) (w : SourceWorld) → NotJumped (under_specification r f.specification (body_of r f v) c w)

-- a call of main, whose regions are such, does the same with one unit of fuel more
abbrev pub MainRunsAlike : Type 0
MainRunsAlike =
    (p : Checked) (layout : Layout) (q : Regions) (limit fuel : ℕ) → StandApart layout.classes p.classes
    → SameCalls layout (fueled p limit fuel) (regions_running q limit fuel (λ s. help_slot))
    → (source_function_at p p.main).result ≡ Int → slice_get q.functions p.main ≡ Some (main_function p layout (source_function_at p p.main))
    → IsTypedBody (lowering p layout false (variables_of (source_function_at p p.main))) None (source_function_at p p.main)
    → RunsAlike p layout q limit fuel None false (source_function_at p p.main) → StaysInBody (fueled p limit fuel) (source_function_at p p.main)
    → SameCall layout (fueled p limit (suc fuel)) (regions_running q limit (suc fuel) (λ s. help_slot)) (function p.main)
