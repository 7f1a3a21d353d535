use Rattle.std.proofs.Common.{◌≡◌, ◌-◌}
use Rattle.cxx_ast.specs.Lookup.{derives_within}
use Rattle.cxx_rules.proofs.member.derives.Given as goal

abbrev pub invariant-loop : goal.invariant-loop
invariant-loop l = derives_within (l.count - l.counter) l.env l.class l.from ≡ derives_within l.count l.env l.fn.class l.from
