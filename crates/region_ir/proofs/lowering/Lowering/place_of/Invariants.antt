use Rattle.std.proofs.Common.{◌≡◌, ◌+◌, drop}
use Rattle.region_forms.specs.LowerExpression.{members_offset}
use Rattle.region_ir.specs.Given.{lowering_of}
use Rattle.region_ir.proofs.lowering.Lowering.place_of.Given as goal

abbrev pub invariant-loop-name : goal.invariant-loop-name
invariant-loop-name l =
    l.offset + members_offset (lowering_of l.self) (drop l.name-index l.more) ≡ l.initial.offset + members_offset (lowering_of l.self) l.more
