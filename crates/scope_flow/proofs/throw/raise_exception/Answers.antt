use Rattle.std.proofs.Common.{◌≡◌, ◌∙◌, ℤ, true, false, sym, ap}
use Rattle.cxx_ast.specs.View.{checked_of, option_of}
use Rattle.meaning_forms.specs.Outcome.{Flow}
use Rattle.meaning_forms.specs.World.{exception_type, type_at}
use Rattle.meaning_forms.specs.Guard.{is_doomed}
use Rattle.scope_world.specs.Inward.{context_of, guards_of}
use Rattle.scope_world.specs.Objects.{type_of}
use Rattle.scope_world.specs.Seen.{world_of}
use Rattle.scope_flow.specs.Always.{always}
use Rattle.scope_flow.proofs.Raising.{raised_doomed, raised_thrown}
use Rattle.scope_flow.proofs.throw.raise_exception.Goals as goal

pub returns-then-is_doomed-clause-int : goal.returns-then-is_doomed-clause-int
returns-then-is_doomed-clause-int g c =
    let d = c.args.c.now.depth in
    let p = checked_of c.args.c.now.program.now in
    let w = world_of g.G.Outside.told d c.args.w.now in
    let guards = guards_of c.args.c.now.guards.now in
    let ty : option_of type_of c.ty.result ≡ type_at w c.args.number = c.ty.ensures ∙ ap exception_type (c.exception.ensures d) in
    let doomed : is_doomed p guards (type_at w c.args.number) ≡ true = ap (is_doomed p guards) (sym ty) ∙ sym c.is_doomed.ensures ∙ c.if-is_doomed.true in
    raised_doomed ℤ (always p) c.args.number (context_of c.args.c.now) w (world_of g.G.Outside.told d c.terminate_because.new.w) c.terminate_because.result doomed c.terminate_because.ensures.int

pub returns-else-is_doomed-clause-int : goal.returns-else-is_doomed-clause-int
returns-else-is_doomed-clause-int g c =
    let d = c.args.c.now.depth in
    let p = checked_of c.args.c.now.program.now in
    let w = world_of g.G.Outside.told d c.args.w.now in
    let guards = guards_of c.args.c.now.guards.now in
    let ty : option_of type_of c.ty.result ≡ type_at w c.args.number = c.ty.ensures ∙ ap exception_type (c.exception.ensures d) in
    let doomed : is_doomed p guards (type_at w c.args.number) ≡ false = ap (is_doomed p guards) (sym ty) ∙ sym c.is_doomed.ensures ∙ c.if-is_doomed.false in
    raised_thrown ℤ (always p) c.args.number (context_of c.args.c.now) w doomed

pub returns-then-is_doomed-clause-flow : goal.returns-then-is_doomed-clause-flow
returns-then-is_doomed-clause-flow g c =
    let d = c.args.c.now.depth in
    let p = checked_of c.args.c.now.program.now in
    let w = world_of g.G.Outside.told d c.args.w.now in
    let guards = guards_of c.args.c.now.guards.now in
    let ty : option_of type_of c.ty.result ≡ type_at w c.args.number = c.ty.ensures ∙ ap exception_type (c.exception.ensures d) in
    let doomed : is_doomed p guards (type_at w c.args.number) ≡ true = ap (is_doomed p guards) (sym ty) ∙ sym c.is_doomed.ensures ∙ c.if-is_doomed.true in
    raised_doomed Flow (always p) c.args.number (context_of c.args.c.now) w (world_of g.G.Outside.told d c.terminate_because.new.w) c.terminate_because.result doomed c.terminate_because.ensures.flow

pub returns-else-is_doomed-clause-flow : goal.returns-else-is_doomed-clause-flow
returns-else-is_doomed-clause-flow g c =
    let d = c.args.c.now.depth in
    let p = checked_of c.args.c.now.program.now in
    let w = world_of g.G.Outside.told d c.args.w.now in
    let guards = guards_of c.args.c.now.guards.now in
    let ty : option_of type_of c.ty.result ≡ type_at w c.args.number = c.ty.ensures ∙ ap exception_type (c.exception.ensures d) in
    let doomed : is_doomed p guards (type_at w c.args.number) ≡ false = ap (is_doomed p guards) (sym ty) ∙ sym c.is_doomed.ensures ∙ c.if-is_doomed.false in
    raised_thrown Flow (always p) c.args.number (context_of c.args.c.now) w doomed

pub returns-then-is_doomed-clause-none : goal.returns-then-is_doomed-clause-none
returns-then-is_doomed-clause-none g c =
    let d = c.args.c.now.depth in
    let p = checked_of c.args.c.now.program.now in
    let w = world_of g.G.Outside.told d c.args.w.now in
    let guards = guards_of c.args.c.now.guards.now in
    let ty : option_of type_of c.ty.result ≡ type_at w c.args.number = c.ty.ensures ∙ ap exception_type (c.exception.ensures d) in
    let doomed : is_doomed p guards (type_at w c.args.number) ≡ true = ap (is_doomed p guards) (sym ty) ∙ sym c.is_doomed.ensures ∙ c.if-is_doomed.true in
    raised_doomed (Unit {0}) (always p) c.args.number (context_of c.args.c.now) w (world_of g.G.Outside.told d c.terminate_because.new.w) c.terminate_because.result doomed c.terminate_because.ensures.none

pub returns-else-is_doomed-clause-none : goal.returns-else-is_doomed-clause-none
returns-else-is_doomed-clause-none g c =
    let d = c.args.c.now.depth in
    let p = checked_of c.args.c.now.program.now in
    let w = world_of g.G.Outside.told d c.args.w.now in
    let guards = guards_of c.args.c.now.guards.now in
    let ty : option_of type_of c.ty.result ≡ type_at w c.args.number = c.ty.ensures ∙ ap exception_type (c.exception.ensures d) in
    let doomed : is_doomed p guards (type_at w c.args.number) ≡ false = ap (is_doomed p guards) (sym ty) ∙ sym c.is_doomed.ensures ∙ c.if-is_doomed.false in
    raised_thrown (Unit {0}) (always p) c.args.number (context_of c.args.c.now) w doomed
