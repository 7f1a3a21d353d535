use Rattle.std.proofs.Common.{◌≡◌, ◌++◌, sym, subst, map, rules}
use Rattle.std.specs.Prelude.{OnOk}
use Rattle.cxx_ast.specs.Plain.{call, std_call}
use Rattle.cxx_ast.specs.View.{expression_of, expressions_of}
use Rattle.cxx_ast.proofs.Rows.{rows}
use Rattle.region_forms.specs.LowerExpression.{dropped}
use Rattle.region_ir.specs.Given.{lowering_of}
use Rattle.region_ir.specs.Passed.{CallLowers, named_call, named_std_call}
use Rattle.region_ir.specs.View.{region_of}
use Rattle.region_ir.proofs.Callees.{named_so}
use Rattle.region_ir.proofs.lower.+dropped.Goals as goal

pub returns-in_ok-call-in-Call : goal.returns-in_ok-call-in-Call
returns-in_ok-call-in-Call t c =
    let l = lowering_of c.args.l.now in
    let names = c.in-Call.callee.path.items in
    let es = expressions_of c.in-Call.es.items in
    let others = map region_of c.args.before.now.items in
    let now = c.lower_named_call.new.before.items in
    let it = c.in_ok-call-in-Call.call in
    let meant : expression_of c.args.e.now ≡ call names es = search (rules, rows, c.in-Call.is) in
    let given = named_so l c.args.slot names c.as_slice-names.result.now c.in-Call.es.items c.as_slice.result.now others now it.callee it.arguments.items
    c.as_slice-names.ensures.value c.as_slice.ensures.value c.in_ok-call-in-Call.ensures in
    subst (λ x. OnOk c.call_dropped.result (map region_of c.call_dropped.new.before.items ≡ others ++ dropped l x c.args.slot)) (sym meant)
    (c.call_dropped.ensures (named_call l names es c.args.slot) others given)

pub returns-in_ok-call-in-StdCall : goal.returns-in_ok-call-in-StdCall
returns-in_ok-call-in-StdCall t c =
    let l = lowering_of c.args.l.now in
    let name = c.in-StdCall.name in
    let es = expressions_of c.in-StdCall.es.items in
    let others = map region_of c.args.before.now.items in
    let it = c.in_ok-call-in-StdCall.call in
    let meant : expression_of c.args.e.now ≡ std_call name es c.in-StdCall.field-2 = search (rules, rows, c.in-StdCall.is) in
    let given : CallLowers (named_std_call l name.bound es c.args.slot) others c.lower_std_call.new.before.items it.callee it.arguments.items =
    subst (λ xs. CallLowers (named_std_call l name.bound (expressions_of xs) c.args.slot) others c.lower_std_call.new.before.items it.callee it.arguments.items)
    c.as_slice-in-StdCall.ensures.value c.in_ok-call-in-StdCall.ensures in
    subst (λ x. OnOk c.call_dropped-in-StdCall.result (map region_of c.call_dropped-in-StdCall.new.before.items ≡ others ++ dropped l x c.args.slot)) (sym meant)
    (c.call_dropped-in-StdCall.ensures (named_std_call l name.bound es c.args.slot) others given)
