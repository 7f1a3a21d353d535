use Rattle.std.proofs.Common.{◌-◌, ◌≤◌}
use Rattle.eh_bytes.specs.Memory.{part_of}
use Rattle.frame_read.specs.Seen.{coding_seen}
use Rattle.frame_read.specs.States.{states_rest}
use Rattle.frame_read.proofs.OnWay.{OnWay}
use Rattle.frame_read.proofs.states.states_behind.Given as goal

abbrev pub invariant-instructions : goal.invariant-instructions
invariant-instructions l =
    (l.place ≤ l.stop) × (l.states ≤ 16) ×
    OnWay (states_rest (coding_seen l.coding) (part_of l.segment) l.stop l.states) l.stop
    (states_rest (coding_seen l.coding) (part_of l.segment) l.stop l.remembered l.stop l.first) l.place

abbrev pub decreases-instructions : goal.decreases-instructions
decreases-instructions l = l.stop - l.place
