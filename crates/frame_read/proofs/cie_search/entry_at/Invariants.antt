use Rattle.std.proofs.Common.{◌≡◌, ◌==◌, ℕ, length, find}
use Rattle.frame_read.specs.Rises.{RisesBy}
use Rattle.frame_read.specs.declared.entry.CieEntry.{CieEntry}
use Rattle.frame_read.proofs.cie_search.entry_at.Given as goal

abbrev pub invariant-halves : goal.invariant-halves
invariant-halves l =
    ((n : ℕ) × RisesBy (λ (e : CieEntry). e.at) n l.rest) ×
    (find (λ (e : CieEntry). e.at == l.at) l.rest ≡ find (λ (e : CieEntry). e.at == l.at) l.entries)

abbrev pub decreases-halves : goal.decreases-halves
decreases-halves l = length l.rest
