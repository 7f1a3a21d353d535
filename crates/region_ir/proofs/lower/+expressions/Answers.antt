use Rattle.std.proofs.Common.{◌≡◌, ◌∙◌, ◌<◌, ◌≤◌, ◌+◌, ◌∷◌, false, ap, sym, subst, drop, length, map, arith, rules}
use Rattle.std.proofs.lemmas.List.{drop_all, drop_more}
use Rattle.std.specs.Prelude.{IfOk, nat_lt}
use Rattle.cxx_ast.specs.Plain.{call, expression_then, std_call}
use Rattle.cxx_ast.specs.View.{expression_of, expressions_of}
use Rattle.cxx_ast.proofs.Rows.{rows}
use Rattle.scope_flow.specs.Asked.{parameter_types_of}
use Rattle.region_forms.specs.LowerExpression.{has_call, lower, lower_arguments}
use Rattle.region_ir.specs.Given.{lowering_of}
use Rattle.region_ir.specs.Lowers.{Lowers}
use Rattle.region_ir.specs.Passed.{CallLowers, calls_among, named_call, named_std_call}
use Rattle.region_ir.specs.View.{argument_of, region_of}
use Rattle.region_ir.proofs.Callees.{named_so}
use Rattle.region_ir.proofs.Quiet.{quiet_side}
use Rattle.region_ir.proofs.Onward.{PassedSoFar, all_so_far, one_so_far, some_among}
use Rattle.region_ir.proofs.lower.+expressions.Goals as goal

pub lower_arguments-loop-e-preserved : goal.lower_arguments-loop-e-preserved
lower_arguments-loop-e-preserved t c =
    let l = lowering_of c.args.l.now in
    let all = c.args.es.now in
    let total = lower_arguments l (expressions_of all) (parameter_types_of c.args.parameters) c.args.slot in
    let i = c.loop-e.e-index in
    let e = c.e-item.result in
    let left = expressions_of (drop i all) in
    let es = expressions_of (drop (i + 1) all) in
    let within : i < length all = omega arith in
    let next = drop_more all i e within ∙ ap (λ x. x ∷ drop (i + 1) all) (sym c.e-item.is) in
    let here : left ≡ expression_then (expression_of e) es = ap expressions_of next in
    let calls = c.calls_behind-calls.result in
    let counted : calls ≡ calls_among es = c.calls_behind-calls.ensures es (c.loop-e.invariant.calls ∙ ap calls_among here) in
    record {
      so_far = one_so_far l total (map region_of c.args.before.now.items) (map argument_of c.args.given.now.items) (expression_of e) es left
          (parameter_types_of c.loop-e.wanted) (parameter_types_of c.behind-wanted.result) c.loop-e.free c.in_ok-free.free c.refers.result (nat_lt 0 calls)
          c.loop-e.before.items c.lower_argument.new.before.items c.loop-e.given.items c.lower_argument.new.given.items here c.loop-e.invariant.so_far
          c.refers.ensures (ap (nat_lt 0) counted ∙ some_among es) c.behind-wanted.ensures c.in_ok-free.ensures;
      calls = counted;
    }

pub lower_arguments-returns : goal.lower_arguments-returns
lower_arguments-returns t c =
    let l = lowering_of c.args.l.now in
    let all = c.args.es.now in
    let total = lower_arguments l (expressions_of all) (parameter_types_of c.args.parameters) c.args.slot in
    let others = map region_of c.args.before.now.items in
    let first = map argument_of c.args.given.now.items in
    let now = c.loop-e.before.items in
    let given = c.loop-e.given.items in
    let types = parameter_types_of c.loop-e.wanted in
    let over : length all ≤ c.loop-e.e-index = omega arith in
    all_so_far l total others first types c.loop-e.free now given
    (subst (λ es. PassedSoFar total (lower_arguments l (expressions_of es) types c.loop-e.free) others now first given) (drop_all c.loop-e.e-index all over)
    c.loop-e.invariant.so_far)

pub lower-returns-in_ok-call-in-Call : goal.lower-returns-in_ok-call-in-Call
lower-returns-in_ok-call-in-Call t c =
    let l = lowering_of c.args.l.now in
    let names = c.in-Call.callee.path.items in
    let es = expressions_of c.in-Call.es.items in
    let others = map region_of c.args.before.now.items in
    let now = c.lower_named_call.new.before.items in
    let it = c.in_ok-call-in-Call.call in
    let meant : expression_of c.args.e.now ≡ call names es = search (rules, rows, c.in-Call.is) in
    let given = named_so l c.args.slot names c.as_slice-names.result.now c.in-Call.es.items c.as_slice-in-Call.result.now others now it.callee it.arguments.items
    c.as_slice-names.ensures.value c.as_slice-in-Call.ensures.value c.in_ok-call-in-Call.ensures in
    subst (λ x. IfOk c.call_stored.result (λ r. Lowers (lower l x c.args.slot) others c.call_stored.new.before.items r.value r.next)) (sym meant)
    (c.call_stored.ensures (named_call l names es c.args.slot) others given)

pub lower-returns-in_ok-call-in-StdCall : goal.lower-returns-in_ok-call-in-StdCall
lower-returns-in_ok-call-in-StdCall t c =
    let l = lowering_of c.args.l.now in
    let name = c.in-StdCall.name in
    let es = expressions_of c.in-StdCall.es.items in
    let others = map region_of c.args.before.now.items in
    let it = c.in_ok-call-in-StdCall.call in
    let meant : expression_of c.args.e.now ≡ std_call name es c.in-StdCall.field-2 = search (rules, rows, c.in-StdCall.is) in
    let given : CallLowers (named_std_call l name.bound es c.args.slot) others c.lower_std_call.new.before.items it.callee it.arguments.items =
    subst (λ xs. CallLowers (named_std_call l name.bound (expressions_of xs) c.args.slot) others c.lower_std_call.new.before.items it.callee it.arguments.items)
    c.as_slice-in-StdCall.ensures.value c.in_ok-call-in-StdCall.ensures in
    subst (λ x. IfOk c.call_stored-in-StdCall.result (λ r. Lowers (lower l x c.args.slot) others c.call_stored-in-StdCall.new.before.items r.value r.next)) (sym meant)
    (c.call_stored-in-StdCall.ensures (named_std_call l name.bound es c.args.slot) others given)

pub with_right_side-returns-then-not-has_call : goal.with_right_side-returns-then-not-has_call
with_right_side-returns-then-not-has_call t c x others h =
    let l = lowering_of c.args.l.now in
    let e = expression_of c.args.right.now in
    let it = c.in_ok-it.it in
    let none : has_call e ≡ false = search (rules, c.has_call.ensures, c.if-not-has_call.true) in
    quiet_side c.args.op (has_call e) c.args.slot x (λ u. lower l e u) others c.args.before.now.items it.value c.args.left.value c.args.left.next it.next none h c.in_ok-it.ensures.next
    (c.in_ok-it.ensures.value x.next)
