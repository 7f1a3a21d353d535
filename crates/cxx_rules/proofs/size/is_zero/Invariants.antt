use Rattle.std.proofs.Common.{◌≡◌, ◌==◌, drop}
use Rattle.cxx_rules.specs.SizeOf.{number_of}
use Rattle.cxx_rules.proofs.size.is_zero.Given as goal

abbrev pub invariant-loop-d : goal.invariant-loop-d
invariant-loop-d l = (number_of (drop l.d-index l.digits) == 0) ≡ (number_of l.digits == 0)
