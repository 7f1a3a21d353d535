-- Functions one behind the other stand in a row.
use Rattle.std.proofs.Common.{ℕ, ◌+◌, ◌≤◌, List, [], ◌∷◌, arith}
use Rattle.eh_bytes.specs.Listed.{ListedFunction}
use Rattle.machine_forms.specs.Emitted.{emitted_of}
use Rattle.image_forms.specs.Function.{StandInRow}
use Rattle.rv64_emit.specs.Laws.{FunctionsAreApart, StandFrom}
use Rattle.source_bounds.specs.Laws.{FunctionsStandInRow}

in_row : (fs : List ListedFunction) (before first end : ℕ) → before ≤ first → StandFrom first end fs → StandInRow before end fs
in_row [] before first end h stand = omega (arith, h, stand)
in_row (f ∷ fs) before first end h stand = (
  omega (arith, h, stand.0),
  in_row fs (f.first + f.words) (first + f.words) end (omega (arith, stand.0)) stand.1,
)

pub functions_stand_in_row : FunctionsAreApart → FunctionsStandInRow
functions_stand_in_row apart u = in_row (emitted_of u).functions 0 2 _ (omega arith) (apart u)
