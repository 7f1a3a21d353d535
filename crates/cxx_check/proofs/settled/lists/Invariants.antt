use Rattle.std.proofs.Common.{◌≡◌, drop}
use Rattle.cxx_ast.specs.Settled.{lists}
use Rattle.cxx_check.proofs.settled.lists.Given as goal

abbrev pub invariant-loop-other : goal.invariant-loop-other
invariant-loop-other l = lists (drop l.other-index l.types) l.ty ≡ lists l.types l.ty
