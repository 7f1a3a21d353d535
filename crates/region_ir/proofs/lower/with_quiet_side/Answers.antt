use Rattle.std.proofs.Common.{◌≡◌, ◌∙◌, ap, subst}
use Rattle.std.specs.Prelude.{IfOk}
use Rattle.cxx_ast.specs.View.{expression_of}
use Rattle.region_forms.specs.Form.{binary as binary_value}
use Rattle.region_forms.specs.LowerExpression.{lower}
use Rattle.region_ir.specs.Given.{lowering_of}
use Rattle.region_ir.specs.View.{value_of}
use Rattle.region_ir.proofs.lower.with_quiet_side.Goals as goal

pub returns-clause-value : goal.returns-clause-value
returns-clause-value c n =
    let l = lowering_of c.args.l.now in
    let e = expression_of c.args.right.now in
    let op = c.args.op in
    let left = value_of c.args.left.value in
    let right = c.in_ok-left.right in
    let meant : value_of right ≡ (lower l e n).value = subst (λ r. IfOk r (λ v. value_of v ≡ (lower l e n).value)) c.in_ok-left.ensures.1 (c.pure_value.ensures n) in
    c.in_ok-value.ensures ∙ (ap (λ v. binary_value op (value_of v) (value_of right)) c.in_ok-left.ensures.0 ∙ ap (binary_value op left) meant)
