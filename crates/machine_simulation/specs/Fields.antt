-- The fields of all pieces that operations become are in their ranges.
use Rattle.std.specs.Prelude.{◌^◌, ◌<◌, length}
use Rattle.std.specs.List.{AllByRecursion}
use Rattle.linear_forms.specs.Linear.{LinearOp, FunctionCode}
use Rattle.machine_forms.specs.Shape.{Shape}
use Rattle.machine_forms.specs.LinearCode.{linear_code}
use Rattle.machine_forms.specs.Routine.{routine_words}
use Rattle.machine_forms.specs.Emitted.{function_routine}
use Rattle.machine_pieces.specs.Standing.{PieceFits}
use Rattle.machine_pieces.specs.UnitAt.{routine_pieces}

-- Whatever an operation is and wherever the slots of its frame stand, as long as its code is short; and so all pieces of a short function.
pub record PiecesFit : Type 0 where
  pub operation : (f : Shape) (o : LinearOp) → length (linear_code f o) < 2 ^ 18 → AllByRecursion PieceFits (linear_code f o)
  pub function : (g : FunctionCode) → routine_words (function_routine g) < 2 ^ 18 → AllByRecursion PieceFits (routine_pieces (function_routine g))
