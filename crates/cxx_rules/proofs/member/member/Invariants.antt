use Rattle.std.proofs.Common.{◌≡◌, ◌-◌}
use Rattle.cxx_ast.specs.Lookup.{member_of}
use Rattle.cxx_rules.proofs.member.member.Given as goal

abbrev pub invariant-loop : goal.invariant-loop
invariant-loop l = member_of (l.count - l.counter) l.env l.class l.limit l.text ≡ member_of l.count l.env l.fn.class l.limit l.text
