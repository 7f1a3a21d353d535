use Rattle.std.proofs.Common.{true, refl}
use Rattle.cxx_ast.specs.Calls.{std_valued}
use Rattle.cxx_ast.specs.ExpressionRules.{all_judged, no_lvalue}
use Rattle.cxx_rules.proofs.ThrownLaws.{no_lvalue_seen}
use Rattle.cxx_rules.proofs.thrown.std_call_operand.Goals as goal

pub returns : goal.returns
returns c es e =
    let js = all_judged c.args.env.now c.args.scope.now es in
    let v = std_valued c.args.env.now c.args.scope.now true c.args.place c.args.name.now js in
    c.operand_found.ensures (no_lvalue c.args.place v)
    (no_lvalue_seen c.args.env.now v _ _ _ _ c.no_lvalue.ensures (c.std_valued-value.ensures js e) refl)
