use Rattle.std.proofs.Common.{◌≡◌, ◌∙◌, map, IfOk, ap, subst}
use Rattle.cxx_ast.specs.View.{checked_of, function_of as function_meant}
use Rattle.class_layout.specs.View.{laid_out}
use Rattle.region_forms.specs.LowerProgram.{lowering}
use Rattle.region_forms.specs.Numbering.{variables_of}
use Rattle.region_ir.specs.Given.{lowering_of}
use Rattle.region_ir.specs.Variables.{type_in}
use Rattle.region_ir.specs.View.{function_of}
use Rattle.region_ir.proofs.Bodies.{declared_by}
use Rattle.region_ir.proofs.function.declared_function.Goals as goal

pub returns : goal.returns
returns c =
    let p = checked_of c.args.source.numbering.now.program.now in
    let layout = laid_out c.args.source.layout.now in
    let f = function_meant c.args.function.now in
    let variables : map type_in c.as_slice.result.now ≡ variables_of f = ap (map type_in) c.as_slice.ensures.value ∙ c.in_ok-variables.ensures in
    let given : lowering_of c.lowering-l.result ≡ lowering p layout c.args.is_member (variables_of f) = c.lowering-l.ensures ∙ ap (lowering p layout c.args.is_member) variables in
    subst (λ x. IfOk c.declared_by.result (λ r. function_of r ≡ x)) (ap (declared_by c.args.is_member c.args.is_main c.args.class f) given) c.declared_by.ensures
