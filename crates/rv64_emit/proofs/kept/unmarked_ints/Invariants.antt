use Rattle.std.proofs.Common.{◌≡◌, ◌++◌, drop, map}
use Rattle.region_ir.specs.View.{slot_of}
use Rattle.rv64_emit.specs.Marks.{unmarked}
use Rattle.rv64_emit.proofs.kept.unmarked_ints.Given as goal

-- the slots so far, and those of what is left
abbrev pub invariant-loop-number : goal.invariant-loop-number
invariant-loop-number l = l.kept.items ++ unmarked l.taken l.number (map slot_of (drop l.number l.slots)) ≡ unmarked l.taken 0 (map slot_of l.slots)
