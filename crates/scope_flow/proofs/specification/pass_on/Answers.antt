use Rattle.std.proofs.Common.{map}
use Rattle.meaning_forms.specs.Class.{object_type}
use Rattle.scope_world.specs.Seen.{installed_of}
use Rattle.scope_flow.proofs.Unexpected.{passed_again, passed_bad, passed_ended}
use Rattle.cxx_ast.specs.View.{checked_of}
use Rattle.scope_world.specs.Inward.{context_of}
use Rattle.scope_world.specs.Seen.{world_of}
use Rattle.scope_flow.specs.Always.{always}
use Rattle.scope_flow.proofs.specification.pass_on.Goals as goal

pub returns-then-is_allowed : goal.returns-then-is_allowed
returns-then-is_allowed g c =
    let d = c.args.c.now.depth in
    let r = always (checked_of c.args.c.now.program.now) in
    let k = context_of c.args.c.now in
    let w = world_of g.G.Outside.told d c.args.w.now in
    let types = map object_type c.args.types.now in
    let kept = installed_of c.args.kept in
    passed_again r types kept c.args.number k w (world_of g.G.Outside.told d c.raise_exception.new.w) c.raise_exception.result c.is_allowed.result (c.is_allowed.ensures d) c.if-is_allowed.true c.raise_exception.ensures.flow

pub returns-then-lists_bad_exception : goal.returns-then-lists_bad_exception
returns-then-lists_bad_exception g c =
    let d = c.args.c.now.depth in
    let r = always (checked_of c.args.c.now.program.now) in
    let k = context_of c.args.c.now in
    let w = world_of g.G.Outside.told d c.args.w.now in
    let types = map object_type c.args.types.now in
    let kept = installed_of c.args.kept in
    passed_bad r types kept c.args.number k w (world_of g.G.Outside.told d c.throw_bad_exception.new.w) c.throw_bad_exception.result c.is_allowed.result c.lists_bad_exception.result (c.is_allowed.ensures d) c.if-is_allowed.false c.lists_bad_exception.ensures c.if-lists_bad_exception.true c.throw_bad_exception.ensures

pub returns-else-lists_bad_exception : goal.returns-else-lists_bad_exception
returns-else-lists_bad_exception g c =
    let d = c.args.c.now.depth in
    let r = always (checked_of c.args.c.now.program.now) in
    let k = context_of c.args.c.now in
    let w = world_of g.G.Outside.told d c.args.w.now in
    let types = map object_type c.args.types.now in
    let kept = installed_of c.args.kept in
    passed_ended r types kept c.args.number k w (world_of g.G.Outside.told d c.terminate_with.new.w) c.terminate_with.result c.is_allowed.result c.lists_bad_exception.result (c.is_allowed.ensures d) c.if-is_allowed.false c.lists_bad_exception.ensures c.if-lists_bad_exception.false c.terminate_with.ensures.flow
