use Rattle.std.proofs.Common.{◌≡◌, ◌++◌, length}
use Rattle.image_forms.specs.Tables.{placed_moves}
use Rattle.image_link.proofs.tables.placed_moves.Given as goal

abbrev pub invariant-moves : goal.invariant-moves
invariant-moves l = placed_moves l.address l.moves ≡ l.placed.items ++ placed_moves l.address l.rest

abbrev pub decreases-moves : goal.decreases-moves
decreases-moves l = length l.rest
