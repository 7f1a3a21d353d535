use Rattle.std.proofs.Common.{◌≡◌, rules}
use Rattle.cxx_ast.specs.Plain.{call, std_call}
use Rattle.cxx_ast.specs.View.{checked_of, expression_of, expressions_of}
use Rattle.meaning_forms.specs.Expression.{callee_bound}
use Rattle.scope_world.specs.Inward.{context_of, frame_of}
use Rattle.scope_world.specs.Seen.{world_of}
use Rattle.scope_flow.specs.Always.{always}
use Rattle.cxx_ast.proofs.Rows.{rows}
use Rattle.scope_meaning.proofs.Thrown.{thrown_call, thrown_std_call}
use Rattle.scope_meaning.proofs.throw.operand_thrown.Goals as goal

pub returns-in-Call : goal.returns-in-Call
returns-in-Call g c =
    let d = c.args.c.now.depth in
    let r = always (checked_of c.args.c.now.program.now) in
    let f = frame_of c.args.frame.now in
    let k = context_of c.args.c.now in
    let w = world_of g.G.Outside.told d c.args.w.now in
    let v = world_of g.G.Outside.told d c.call_thrown.new.w in
    let names = c.in-Call.callee.path.items in
    let es = expressions_of c.in-Call.es.items in
    let e = expression_of c.args.e.now in
    let is : e ≡ call names es = search (rules, rows) in
    let bound : c.callee_bound-bound.result ≡ callee_bound names = rw c.as_slice.ensures.value at c.callee_bound-bound.ensures in
    let thrown = rw c.as_slice-in-Call.ensures.value at c.call_thrown.ensures in
    thrown_call r f names es e k w v c.callee_bound-bound.result c.call_thrown.result is bound thrown

pub returns-in-StdCall : goal.returns-in-StdCall
returns-in-StdCall g c =
    let d = c.args.c.now.depth in
    let r = always (checked_of c.args.c.now.program.now) in
    let f = frame_of c.args.frame.now in
    let k = context_of c.args.c.now in
    let w = world_of g.G.Outside.told d c.args.w.now in
    let v = world_of g.G.Outside.told d c.call_thrown-in-StdCall.new.w in
    let n = c.in-StdCall.name in
    let es = expressions_of c.in-StdCall.es.items in
    let e = expression_of c.args.e.now in
    let is : e ≡ std_call n es c.in-StdCall.field-2 = search (rules, rows) in
    let thrown = rw c.as_slice-in-StdCall.ensures.value at c.call_thrown-in-StdCall.ensures in
    thrown_std_call r f n es c.in-StdCall.field-2 e k w v c.call_thrown-in-StdCall.result is thrown
