use Rattle.std.proofs.Common.{◌≡◌, drop}
use Rattle.cxx_ast.specs.Settled.{with_types}
use Rattle.cxx_check.proofs.settled.with_types.Given as goal

abbrev pub invariant-loop-ty : goal.invariant-loop-ty
invariant-loop-ty l = with_types l.types.items (drop l.ty-index l.others) ≡ with_types l.initial.types.items l.others
