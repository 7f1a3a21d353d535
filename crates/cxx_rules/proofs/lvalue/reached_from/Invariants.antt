use Rattle.std.proofs.Common.{◌≡◌, drop}
use Rattle.cxx_ast.specs.Lvalue.{reached_from}
use Rattle.cxx_rules.specs.KindOf.{kind_of}
use Rattle.cxx_rules.specs.Seen.{reached_seen}
use Rattle.cxx_rules.proofs.lvalue.reached_from.Given as goal

abbrev pub invariant-loop-name : goal.invariant-loop-name
invariant-loop-name l =
    reached_seen l.env (reached_from l.env (drop l.name-index l.names) l.before (kind_of l.kind))
    ≡ reached_seen l.env (reached_from l.env l.names l.fn.before (kind_of l.fn.kind))
