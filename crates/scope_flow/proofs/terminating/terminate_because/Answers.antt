use Rattle.std.proofs.Common.{◌≡◌, ◌∙◌, ℤ, sym, ap}
use Rattle.cxx_ast.specs.View.{checked_of}
use Rattle.meaning_forms.specs.Outcome.{Flow}
use Rattle.meaning_forms.specs.World.{native, building, foreign, exception_at}
use Rattle.scope_world.specs.Inward.{context_of}
use Rattle.scope_world.specs.Objects.{type_of}
use Rattle.scope_world.specs.Seen.{exception_of, installed_of, world_of}
use Rattle.scope_flow.specs.Always.{always}
use Rattle.scope_flow.proofs.Raising.{because_native, because_building, because_foreign}
use Rattle.scope_flow.proofs.terminating.terminate_because.Goals as goal

pub returns-in-Ok-clause-int : goal.returns-in-Ok-clause-int
returns-in-Ok-clause-int g c =
    let d = c.args.c.now.depth in
    let w = world_of g.G.Outside.told d c.args.w.now in
    let at : exception_at w c.args.number ≡ native (type_of c.in-Native.field-0) c.in-Native.field-1 (installed_of c.in-Native.kept) = sym (c.exception.ensures d) ∙ ap exception_of c.in-Native.is in
    because_native ℤ (always (checked_of c.args.c.now.program.now)) c.args.number (type_of c.in-Native.field-0) c.in-Native.field-1 (installed_of c.in-Native.kept) (context_of c.args.c.now) w (world_of g.G.Outside.told d c.emit.new.self) (world_of g.G.Outside.told d c.terminate_with.new.w) c.terminate_with.result c.if-c.false at (c.in-Ok.ensures d) c.terminate_with.ensures.int

pub returns-in-Building-clause-int : goal.returns-in-Building-clause-int
returns-in-Building-clause-int g c =
    let d = c.args.c.now.depth in
    let w = world_of g.G.Outside.told d c.args.w.now in
    let at : exception_at w c.args.number ≡ building = sym (c.exception.ensures d) ∙ ap exception_of c.in-Building.is in
    because_building ℤ (always (checked_of c.args.c.now.program.now)) c.args.number (context_of c.args.c.now) w (world_of g.G.Outside.told d c.terminate.new.w) c.terminate.result c.if-c.false at c.terminate.ensures.int

pub returns-in-Foreign-clause-int : goal.returns-in-Foreign-clause-int
returns-in-Foreign-clause-int g c =
    let d = c.args.c.now.depth in
    let w = world_of g.G.Outside.told d c.args.w.now in
    let at : exception_at w c.args.number ≡ foreign c.in-Foreign.field-0 c.in-Foreign.field-1 = sym (c.exception.ensures d) ∙ ap exception_of c.in-Foreign.is in
    because_foreign ℤ (always (checked_of c.args.c.now.program.now)) c.args.number c.in-Foreign.field-0 c.in-Foreign.field-1 (context_of c.args.c.now) w (world_of g.G.Outside.told d c.terminate-in-Foreign.new.w) c.terminate-in-Foreign.result c.if-c.false at c.terminate-in-Foreign.ensures.int

pub returns-in-Ok-clause-flow : goal.returns-in-Ok-clause-flow
returns-in-Ok-clause-flow g c =
    let d = c.args.c.now.depth in
    let w = world_of g.G.Outside.told d c.args.w.now in
    let at : exception_at w c.args.number ≡ native (type_of c.in-Native.field-0) c.in-Native.field-1 (installed_of c.in-Native.kept) = sym (c.exception.ensures d) ∙ ap exception_of c.in-Native.is in
    because_native Flow (always (checked_of c.args.c.now.program.now)) c.args.number (type_of c.in-Native.field-0) c.in-Native.field-1 (installed_of c.in-Native.kept) (context_of c.args.c.now) w (world_of g.G.Outside.told d c.emit.new.self) (world_of g.G.Outside.told d c.terminate_with.new.w) c.terminate_with.result c.if-c.false at (c.in-Ok.ensures d) c.terminate_with.ensures.flow

pub returns-in-Building-clause-flow : goal.returns-in-Building-clause-flow
returns-in-Building-clause-flow g c =
    let d = c.args.c.now.depth in
    let w = world_of g.G.Outside.told d c.args.w.now in
    let at : exception_at w c.args.number ≡ building = sym (c.exception.ensures d) ∙ ap exception_of c.in-Building.is in
    because_building Flow (always (checked_of c.args.c.now.program.now)) c.args.number (context_of c.args.c.now) w (world_of g.G.Outside.told d c.terminate.new.w) c.terminate.result c.if-c.false at c.terminate.ensures.flow

pub returns-in-Foreign-clause-flow : goal.returns-in-Foreign-clause-flow
returns-in-Foreign-clause-flow g c =
    let d = c.args.c.now.depth in
    let w = world_of g.G.Outside.told d c.args.w.now in
    let at : exception_at w c.args.number ≡ foreign c.in-Foreign.field-0 c.in-Foreign.field-1 = sym (c.exception.ensures d) ∙ ap exception_of c.in-Foreign.is in
    because_foreign Flow (always (checked_of c.args.c.now.program.now)) c.args.number c.in-Foreign.field-0 c.in-Foreign.field-1 (context_of c.args.c.now) w (world_of g.G.Outside.told d c.terminate-in-Foreign.new.w) c.terminate-in-Foreign.result c.if-c.false at c.terminate-in-Foreign.ensures.flow

pub returns-in-Ok-clause-none : goal.returns-in-Ok-clause-none
returns-in-Ok-clause-none g c =
    let d = c.args.c.now.depth in
    let w = world_of g.G.Outside.told d c.args.w.now in
    let at : exception_at w c.args.number ≡ native (type_of c.in-Native.field-0) c.in-Native.field-1 (installed_of c.in-Native.kept) = sym (c.exception.ensures d) ∙ ap exception_of c.in-Native.is in
    because_native (Unit {0}) (always (checked_of c.args.c.now.program.now)) c.args.number (type_of c.in-Native.field-0) c.in-Native.field-1 (installed_of c.in-Native.kept) (context_of c.args.c.now) w (world_of g.G.Outside.told d c.emit.new.self) (world_of g.G.Outside.told d c.terminate_with.new.w) c.terminate_with.result c.if-c.false at (c.in-Ok.ensures d) c.terminate_with.ensures.none

pub returns-in-Building-clause-none : goal.returns-in-Building-clause-none
returns-in-Building-clause-none g c =
    let d = c.args.c.now.depth in
    let w = world_of g.G.Outside.told d c.args.w.now in
    let at : exception_at w c.args.number ≡ building = sym (c.exception.ensures d) ∙ ap exception_of c.in-Building.is in
    because_building (Unit {0}) (always (checked_of c.args.c.now.program.now)) c.args.number (context_of c.args.c.now) w (world_of g.G.Outside.told d c.terminate.new.w) c.terminate.result c.if-c.false at c.terminate.ensures.none

pub returns-in-Foreign-clause-none : goal.returns-in-Foreign-clause-none
returns-in-Foreign-clause-none g c =
    let d = c.args.c.now.depth in
    let w = world_of g.G.Outside.told d c.args.w.now in
    let at : exception_at w c.args.number ≡ foreign c.in-Foreign.field-0 c.in-Foreign.field-1 = sym (c.exception.ensures d) ∙ ap exception_of c.in-Foreign.is in
    because_foreign (Unit {0}) (always (checked_of c.args.c.now.program.now)) c.args.number c.in-Foreign.field-0 c.in-Foreign.field-1 (context_of c.args.c.now) w (world_of g.G.Outside.told d c.terminate-in-Foreign.new.w) c.terminate-in-Foreign.result c.if-c.false at c.terminate-in-Foreign.ensures.none
