use Rattle.std.proofs.Common.{rules, ◌≡◌, ◌∙◌, ◌||◌, false, ap, sym, subst}
use Rattle.std.specs.Prelude.{IfOk}
use Rattle.cxx_ast.specs.Plain.{binary}
use Rattle.cxx_ast.specs.View.{expression_of}
use Rattle.region_forms.specs.LowerExpression.{has_call, lower}
use Rattle.region_ir.specs.Given.{lowering_of}
use Rattle.region_ir.specs.View.{value_of}
use Rattle.region_ir.proofs.Quiet.{pure_both}
use Rattle.region_ir.proofs.pure.+pure_value.Goals as goal

pub returns-in_ok-value-in-Binary : goal.returns-in_ok-value-in-Binary
returns-in_ok-value-in-Binary t c n =
    let l = lowering_of c.args.l.now in
    let op = c.in-Binary.op in
    let a = expression_of c.deref-in-Binary.result.now in
    let b = expression_of c.deref-in-Binary-2.result.now in
    let x = lower l a n in
    let left = value_of c.in_ok-left-in-Binary-2.left in
    let right = value_of c.in_ok-left-in-Binary-2.right in
    let first : left ≡ x.value = ap value_of c.in_ok-left-in-Binary-2.ensures.0 ∙ c.in_ok-left-in-Binary.ensures n in
    let second : right ≡ (lower l b x.next).value =
    subst (λ r. IfOk r (λ v. value_of v ≡ (lower l b x.next).value)) c.in_ok-left-in-Binary-2.ensures.1 (c.pure_value-in-Binary-2.ensures x.next) in
    let meant : expression_of c.args.e.now ≡ binary op a b = search (rules, c.in-Binary.is, c.deref-in-Binary.ensures, c.deref-in-Binary-2.ensures) in
    let quiet : (has_call a || has_call b) ≡ false = subst (λ e. has_call e ≡ false) meant c.requires in
    c.in_ok-value-in-Binary.ensures ∙ (pure_both l op a b n left right quiet first second ∙ ap (λ e. (lower l e n).value) (sym meant))
