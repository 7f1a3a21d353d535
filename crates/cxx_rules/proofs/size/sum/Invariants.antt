use Rattle.std.proofs.Common.{◌≡◌, ◌≤◌, ◌-◌, ◌++◌, drop}
use Rattle.cxx_rules.specs.SizeOf.{added}
use Rattle.cxx_rules.proofs.size.sum.Given as goal

abbrev pub invariant-loop-i : goal.invariant-loop-i
invariant-loop-i l = record {
  sum : l.digits.items ++ added (l.count - l.i) l.carry (drop l.i l.a) (drop l.i l.b) ≡ added l.count 0 l.a l.b;
  small : l.carry ≤ 1;
}
