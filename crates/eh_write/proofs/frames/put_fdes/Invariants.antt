use Rattle.std.proofs.Common.{◌≡◌, ◌+◌, ◌++◌, length, map}
use Rattle.std.specs.List.{AllByRecursion}
use Rattle.eh_bytes.specs.Listed.{listed_frame}
use Rattle.eh_write.specs.Fits.{HasOffset}
use Rattle.eh_write.specs.WrittenFrames.{fdes_bytes}
use Rattle.eh_write.proofs.frames.put_fdes.Given as goal

abbrev pub invariant-fdes : goal.invariant-fdes
invariant-fdes l =
    (l.initial.out.items ++ fdes_bytes l.tables l.address (l.address + length l.initial.out.items) (map listed_frame l.fdes) ≡
    l.out.items ++ fdes_bytes l.tables l.address (l.address + length l.out.items) (map listed_frame l.rest)) ×
    (AllByRecursion (λ f. AllByRecursion (λ m. HasOffset m.change) f.moves) (map listed_frame l.rest) →
    AllByRecursion (λ f. AllByRecursion (λ m. HasOffset m.change) f.moves) (map listed_frame l.fdes))

abbrev pub decreases-fdes : goal.decreases-fdes
decreases-fdes l = length l.rest
