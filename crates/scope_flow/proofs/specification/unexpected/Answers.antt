use Rattle.std.proofs.Common.{map}
use Rattle.meaning_forms.specs.Class.{object_type}
use Rattle.meaning_forms.specs.Context.{handling}
use Rattle.meaning_forms.specs.Outcome.{Flow}
use Rattle.meaning_forms.specs.Specification.{run_unexpected_handler}
use Rattle.scope_world.specs.Seen.{exception_of, installed_of}
use Rattle.scope_flow.proofs.Unexpected.{unexpected_left}
use Rattle.cxx_ast.specs.View.{checked_of}
use Rattle.scope_world.specs.Inward.{context_of}
use Rattle.scope_world.specs.Seen.{world_of}
use Rattle.scope_flow.specs.Always.{always}
use Rattle.scope_flow.proofs.specification.unexpected.Goals as goal

pub returns : goal.returns
returns g c =
    let d = c.args.c.now.depth in
    let r = always (checked_of c.args.c.now.program.now) in
    let k = context_of c.args.c.now in
    let w = world_of g.G.Outside.told d c.args.w.now in
    let types = map object_type c.args.types.now in
    let kept = installed_of c.kept-kept.result in
    let u = world_of g.G.Outside.told d c.enter.new.w in
    unexpected_left r types c.args.number k w u (world_of g.G.Outside.told d c.after_handler.new.w) (exception_of c.exception.result) kept c.after_handler.result c.in_ok-enter.ensures (c.exception.ensures d) c.kept-kept.ensures (c.after_handler.ensures (run_unexpected_handler {A = Flow} r types kept kept.unexpected_handler (handling c.args.number k) u) c.run_unexpected_handler-outcome.ensures)
