use Rattle.std.proofs.Common.{◌≡◌, drop, map}
use Rattle.landing_pads.specs.View.{linear_of}
use Rattle.rv64_emit.specs.Marks.{all_marked}
use Rattle.rv64_emit.proofs.kept.mark_operations.Given as goal

-- the marks so far, and those of what is left
abbrev pub invariant-loop-op : goal.invariant-loop-op
invariant-loop-op l = all_marked (map linear_of (drop l.op-index l.ops)) l.taken ≡ all_marked (map linear_of l.ops) l.initial.taken
