use Rattle.std.proofs.Common.{◌≡◌, ◌+◌, drop, map}
use Rattle.linear_forms.specs.Frame.{slot_bytes}
use Rattle.region_ir.specs.View.{slot_of}
use Rattle.landing_pads.proofs.frame.slot_bytes.Given as goal

abbrev pub invariant-loop-slot : goal.invariant-loop-slot
invariant-loop-slot l = l.bytes + slot_bytes (map slot_of (drop l.slot-index l.slots)) ≡ slot_bytes (map slot_of l.slots)
