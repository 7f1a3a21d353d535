use Rattle.std.proofs.Common.{◌≡◌, ◌≤◌, ◌-◌, false, fold}
use Rattle.arrayvec.specs.ArrayVec.{array_vec_len}
use Rattle.eh_bytes.specs.Memory.{part_of}
use Rattle.table_forms.specs.Instructions.{instructions_at}
use Rattle.table_forms.specs.Row.{stepped}
use Rattle.frame_read.specs.Seen.{coding_seen}
use Rattle.frame_read.specs.SeenRow.{folding_seen}
use Rattle.frame_read.specs.States.{list_of}
use Rattle.frame_read.proofs.Folds.{Folds, count_of}
use Rattle.frame_read.proofs.row_fold.goes_over.Given as goal

abbrev pub invariant-instructions : goal.invariant-instructions
invariant-instructions l =
    let read = instructions_at (coding_seen l.coding) (part_of l.segment) l.stop l.first (array_vec_len l.initial.folding.states) in
    (l.place ≤ l.stop) × (l.folding.stopped ≡ false) × (l.folding.location ≤ l.pc) ×
    Folds (stepped l.pc) (fold (stepped l.pc) (folding_seen l.initial.folding) (list_of read)) (count_of read) (coding_seen l.coding) (part_of l.segment) l.stop
    (folding_seen l.folding) (array_vec_len l.folding.states) l.place

abbrev pub decreases-instructions : goal.decreases-instructions
decreases-instructions l = l.stop - l.place
