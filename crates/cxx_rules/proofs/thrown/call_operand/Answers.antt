use Rattle.std.proofs.Common.{true}
use Rattle.cxx_ast.specs.Calls.{names_valued}
use Rattle.cxx_ast.specs.ExpressionRules.{all_judged, no_lvalue}
use Rattle.cxx_ast.specs.Lvalue.{first_place}
use Rattle.cxx_rules.proofs.ThrownLaws.{no_lvalue_seen}
use Rattle.cxx_rules.proofs.thrown.call_operand.Goals as goal

pub returns : goal.returns
returns c es e =
    let js = all_judged c.args.env.now c.args.scope.now es in
    let v = names_valued c.args.env.now c.args.scope.now true c.args.names.now js in
    c.operand_found.ensures (no_lvalue (first_place c.args.names.now) v)
    (no_lvalue_seen c.args.env.now v _ _ _ _ c.no_lvalue.ensures (c.names_valued-value.ensures js e) c.first_place.ensures)
