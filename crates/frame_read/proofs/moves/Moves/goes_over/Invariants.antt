use Rattle.std.proofs.Common.{◌≡◌, ◌≤◌, ◌-◌, ◌^◌, ℕ, List, min}
use Rattle.eh_bytes.specs.Memory.{part_of}
use Rattle.table_forms.specs.Instruction.{Instruction}
use Rattle.frame_read.specs.RowWalk.{IsLeft}
use Rattle.frame_read.specs.Seen.{coding_seen}
use Rattle.frame_read.proofs.Moved.{HasMoved}
use Rattle.frame_read.proofs.moves.Moves.goes_over.Given as goal

abbrev pub invariant-instructions : goal.invariant-instructions
invariant-instructions l =
    let c = coding_seen l.coding in let part = part_of l.segment in
    (l.place ≤ l.stop) × (l.self.region ≡ l.initial.self.region) × (l.self.location ≤ 2 ^ 64) ×
    ((location states after : ℕ) (left : List Instruction) → l.initial.self.location ≡ min location (2 ^ 64) → IsLeft c part l.stop states l.first left after →
    HasMoved c part l.stop l.initial.self l.self location left after l.place)

abbrev pub decreases-instructions : goal.decreases-instructions
decreases-instructions l = l.stop - l.place
