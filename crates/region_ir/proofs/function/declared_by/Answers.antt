use Rattle.std.proofs.Common.{rules, ◌≡◌, ◌∙◌, ◌+◌, length, arith}
use Rattle.cxx_ast.specs.View.{function_of as function_meant}
use Rattle.region_ir.specs.Given.{lowering_of}
use Rattle.region_ir.specs.View.{region_of}
use Rattle.region_ir.proofs.Bodies.{declared_so}
use Rattle.region_ir.proofs.function.declared_by.Goals as goal

pub returns : goal.returns
returns c =
    let f = function_meant c.args.function.now in
    let l = lowering_of c.args.l.now in
    let counted : c.len.result ≡ length f.parameters = search (rules, c.len.ensures) in
    let parameters : c.in_ok-params.params ≡ l.first_variable + length f.parameters = omega (arith, c.in_ok-params.ensures, counted) in
    c.in_ok-made.ensures ∙ declared_so c.args.is_member c.args.is_main c.args.class f l c.in_ok-params.params c.in_ok-result_slot.result_slot (region_of c.in_ok-body.body)
    parameters c.in_ok-result_slot.ensures c.in_ok-body.ensures
