use Rattle.std.proofs.Common.{◌≡◌, ◌++◌, length}
use Rattle.std.specs.List.{AllByRecursion}
use Rattle.eh_write.specs.Fits.{HasOffset}
use Rattle.eh_write.specs.WrittenFrames.{moves_bytes}
use Rattle.eh_write.proofs.moves.put_moves.Given as goal

abbrev pub invariant-moves : goal.invariant-moves
invariant-moves l =
    (l.initial.out.items ++ moves_bytes l.location l.moves ≡ l.out.items ++ moves_bytes l.place l.rest) ×
    (AllByRecursion (λ m. HasOffset m.change) l.rest → AllByRecursion (λ m. HasOffset m.change) l.moves)

abbrev pub decreases-moves : goal.decreases-moves
decreases-moves l = length l.rest
