-- What the calls of laws on words state.
use Rattle.std.specs.Prelude.{◌+◌, ◌*◌, ◌≤◌, List, ◌++◌, flat_map, length}
use Rattle.std.specs.List.{AllByRecursion}
use Rattle.cxx_ast.specs.Checked.{IsChecked}
use Rattle.cxx_ast.specs.Plain.{Checked}
use Rattle.region_forms.specs.Form.{RegionFunction}
use Rattle.region_forms.specs.Layout.{Layout}
use Rattle.region_forms.specs.LowerProgram.{regions_of}
use Rattle.linear_forms.specs.Linear.{LinearOp}
use Rattle.linear_forms.specs.Unit.{function_code, unit_of}
use Rattle.machine_forms.specs.Bounds.{counted, counted_words}
use Rattle.machine_forms.specs.Emitted.{emitted_of, function_routine}
use Rattle.machine_forms.specs.LinearCode.{linear_code}
use Rattle.machine_forms.specs.Piece.{Piece}
use Rattle.machine_forms.specs.Routine.{Routine}
use Rattle.machine_forms.specs.Shape.{Shape}
use Rattle.source_bounds.specs.OperationWords.{linear_words}
use Rattle.source_bounds.specs.RegionWords.{region_words, HasFewWays}

-- the words of an operation, as they are counted, are no more than is said
abbrev pub OperationsAreShort : Type 0
OperationsAreShort = (f : Shape) (o : LinearOp) → counted (linear_code f o) ≤ linear_words o

-- the pieces of a routine
abbrev pub routine_pieces : Routine → List Piece
routine_pieces r = r.front ++ flat_map (λ b. b) r.blocks

-- A function has the words of its body, and 50 beside them, where exits out of each scope go to few places.
abbrev pub FunctionsAreShort : Type 0
FunctionsAreShort = (f : RegionFunction) → HasFewWays f.body → counted (routine_pieces (function_routine (function_code f))) ≤ region_words f.body + 50

-- What a checked program becomes, by any layout: exits out of each scope and each handler go to at most three places, those of `break`, of
-- `continue` and of `return`; for each token of its source there are at most 128 words, and 2,048 beside them, though a call of one of the
-- runtime's own functions counts as 257.
pub record ProgramIsShort (p : Checked) (l : Layout) : Type 0 where
  pub few_ways : AllByRecursion (λ f. HasFewWays f.body) (regions_of p l).functions
  pub counted : counted_words (unit_of (regions_of p l)) ≤ 128 * p.program.tokens + 2048
  pub words : length (emitted_of (unit_of (regions_of p l))).code ≤ 128 * p.program.tokens + 2048

-- so of every checked program
abbrev pub ProgramsAreShort : Type 0
ProgramsAreShort = (p : Checked) (l : Layout) → IsChecked p → ProgramIsShort p l
