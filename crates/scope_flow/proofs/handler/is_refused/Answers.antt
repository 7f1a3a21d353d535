use Rattle.std.proofs.Common.{◌≡◌, ◌∙◌, true, false, sym, ap}
use Rattle.std.specs.Prelude.{◌==◌, ◌&&◌, not}
use Rattle.meaning_forms.specs.Class.{some_of}
use Rattle.meaning_forms.specs.Handler.{is_foreign}
use Rattle.meaning_forms.specs.World.{exception_at}
use Rattle.scope_world.specs.Inward.{context_of}
use Rattle.scope_world.specs.Seen.{world_of}
use Rattle.scope_flow.proofs.handler.is_refused.Goals as goal

pub returns-then-is_foreign : goal.returns-then-is_foreign
returns-then-is_foreign g c = λ d.
    let foreign : true ≡ is_foreign (exception_at (world_of g.G.Outside.told d c.args.w.now) c.args.number) = sym c.if-is_foreign.true ∙ c.is_foreign.ensures ∙ ap is_foreign (c.exception.ensures d) in
    c.contains_other.ensures ∙ ap (λ b. b && some_of (λ f. not (f == c.args.number)) (context_of c.args.c.now).handled) foreign

pub returns-else-is_foreign : goal.returns-else-is_foreign
returns-else-is_foreign g c = λ d.
    let native : false ≡ is_foreign (exception_at (world_of g.G.Outside.told d c.args.w.now) c.args.number) = sym c.if-is_foreign.false ∙ c.is_foreign.ensures ∙ ap is_foreign (c.exception.ensures d) in
    c.if-is_foreign.false ∙ ap (λ b. b && some_of (λ f. not (f == c.args.number)) (context_of c.args.c.now).handled) native
