use Rattle.std.proofs.Common.{◌≡◌, ◌-◌, ◌++◌, drop, map}
use Rattle.linear_forms.specs.Frame.{slot_bytes}
use Rattle.region_ir.specs.View.{slot_of}
use Rattle.rv64_emit.specs.Offsets.{offsets_below}
use Rattle.rv64_emit.proofs.shape.offsets_of.Given as goal

-- the offsets so far, and those of what is left
abbrev pub invariant-loop-slot : goal.invariant-loop-slot
invariant-loop-slot l = record {
  offsets : l.offsets.items ++ offsets_below l.lowest (map slot_of (drop l.slot-index l.slots)) ≡ offsets_below l.end (map slot_of l.slots);
  lowest : l.lowest - slot_bytes (map slot_of (drop l.slot-index l.slots)) ≡ l.end - slot_bytes (map slot_of l.slots);
}
