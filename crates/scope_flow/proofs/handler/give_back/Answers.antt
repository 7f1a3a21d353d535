use Rattle.cxx_ast.specs.View.{checked_of}
use Rattle.meaning_forms.specs.Construct.{destroy}
use Rattle.meaning_forms.specs.World.{exception_at}
use Rattle.scope_world.specs.Inward.{context_of}
use Rattle.scope_world.specs.Objects.{reference_of, type_of}
use Rattle.scope_world.specs.Seen.{world_of}
use Rattle.scope_flow.specs.Always.{always}
use Rattle.scope_flow.proofs.Entering.{given_building, given_native, given_foreign}
use Rattle.scope_flow.proofs.handler.give_back.Goals as goal

pub returns-in-Building : goal.returns-in-Building
returns-in-Building g c =
    let d = c.args.c.now.depth in
    let w = world_of g.G.Outside.told d c.args.w.now in
    given_building (always (checked_of c.args.c.now.program.now)) c.args.number (context_of c.args.c.now) w c.exception.result (exception_at w c.args.number) (c.exception.ensures d) c.in-Building.is

pub returns-in_ok-emit-in-Native : goal.returns-in_ok-emit-in-Native
returns-in_ok-emit-in-Native g c =
    let d = c.args.c.now.depth in
    let r = always (checked_of c.args.c.now.program.now) in
    let k = context_of c.args.c.now in
    let w = world_of g.G.Outside.told d c.args.w.now in
    let u = world_of g.G.Outside.told d c.emit.new.self in
    let v = world_of g.G.Outside.told d c.after_destructor.new.w in
    let target = reference_of c.whole.result in
    given_native r c.args.number k w u v c.exception.result (exception_at w c.args.number) c.in-Native.ty c.in-Native.object c.in-Native.field-2 target c.after_destructor.result (c.exception.ensures d) c.in-Native.is (c.in_ok-emit-in-Native.ensures d) c.whole.ensures
    (c.after_destructor.ensures d (destroy r (type_of c.in-Native.ty) target k u) c.destroy-outcome.ensures)

pub returns-in_ok-clean-in-Foreign : goal.returns-in_ok-clean-in-Foreign
returns-in_ok-clean-in-Foreign g c =
    let d = c.args.c.now.depth in
    let w = world_of g.G.Outside.told d c.args.w.now in
    given_foreign (always (checked_of c.args.c.now.program.now)) c.args.number (context_of c.args.c.now) w (world_of g.G.Outside.told d c.clean.new.self) c.exception.result (exception_at w c.args.number) c.in-Foreign.guest c.in-Foreign.token (c.exception.ensures d) c.in-Foreign.is (c.in_ok-clean-in-Foreign.ensures d)
