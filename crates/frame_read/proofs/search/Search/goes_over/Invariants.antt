use Rattle.std.proofs.Common.{◌≡◌, ◌≤◌, ◌-◌, ◌^◌, ℕ, IsOk}
use Rattle.eh_bytes.specs.Memory.{part_of}
use Rattle.table_forms.specs.Instructions.{instructions_at}
use Rattle.frame_read.specs.Seen.{coding_seen}
use Rattle.frame_read.proofs.Searched.{IsOnWay}
use Rattle.frame_read.proofs.search.Search.goes_over.Given as goal

abbrev pub invariant-instructions : goal.invariant-instructions
invariant-instructions l =
    (l.place ≤ l.stop) × (l.self.region ≡ l.initial.self.region) × (l.self.location ≤ 2 ^ 64) ×
    ((states : ℕ) → IsOk (instructions_at (coding_seen l.coding) (part_of l.segment) l.stop l.first states) →
    IsOnWay (coding_seen l.coding) (part_of l.segment) l.stop l.first states l.initial.self l.self l.place)

abbrev pub decreases-instructions : goal.decreases-instructions
decreases-instructions l = l.stop - l.place
