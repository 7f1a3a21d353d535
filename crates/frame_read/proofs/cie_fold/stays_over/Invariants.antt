use Rattle.std.proofs.Common.{◌≡◌, ◌<◌, ◌≤◌, ◌-◌, ◌^◌, ℕ, false, List}
use Rattle.arrayvec.specs.ArrayVec.{array_vec_len}
use Rattle.eh_bytes.specs.Memory.{part_of}
use Rattle.table_forms.specs.Instruction.{Instruction}
use Rattle.frame_read.specs.RowWalk.{IsLeft}
use Rattle.frame_read.specs.Seen.{coding_seen}
use Rattle.frame_read.specs.SeenRow.{folding_seen}
use Rattle.frame_read.proofs.Stays.{HasStayed}
use Rattle.frame_read.proofs.cie_fold.stays_over.Given as goal

abbrev pub invariant-instructions : goal.invariant-instructions
invariant-instructions l =
    let c = coding_seen l.coding in let part = part_of l.segment in
    (l.place ≤ l.stop) × (l.folding.stopped ≡ false) × (l.folding.location < 2 ^ 64) ×
    ((left : List Instruction) (behind : ℕ) → IsLeft c part l.stop (array_vec_len l.initial.folding.states) l.first left behind →
    HasStayed c part l.stop (folding_seen l.initial.folding) (folding_seen l.folding) left behind (array_vec_len l.folding.states) l.place)

abbrev pub decreases-instructions : goal.decreases-instructions
decreases-instructions l = l.stop - l.place
