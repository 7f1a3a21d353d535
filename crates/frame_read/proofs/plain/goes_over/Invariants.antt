use Rattle.std.proofs.Common.{◌≤◌, ◌-◌, false, fold}
use Rattle.eh_bytes.specs.Memory.{part_of}
use Rattle.table_forms.specs.Instructions.{instructions_at}
use Rattle.table_forms.specs.Row.{stepped}
use Rattle.frame_read.specs.Seen.{coding_seen}
use Rattle.frame_read.specs.Plain.{plain_seen}
use Rattle.frame_read.specs.States.{list_of}
use Rattle.frame_read.proofs.Folds.{Folds, count_of}
use Rattle.frame_read.proofs.plain.goes_over.Given as goal

abbrev pub invariant-instructions : goal.invariant-instructions
invariant-instructions l =
    let read = instructions_at (coding_seen l.coding) (part_of l.segment) l.stop l.first 0 in
    (l.place ≤ l.stop) × (l.plain.location ≤ l.pc) ×
    Folds (stepped l.pc) (fold (stepped l.pc) (plain_seen false l.initial.plain) (list_of read)) (count_of read) (coding_seen l.coding) (part_of l.segment) l.stop
    (plain_seen false l.plain) 0 l.place

abbrev pub decreases-instructions : goal.decreases-instructions
decreases-instructions l = l.stop - l.place
