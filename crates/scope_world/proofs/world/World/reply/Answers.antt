use Rattle.std.proofs.Common.{◌∙◌, refl, sym, ap}
use Rattle.std.specs.Prelude.{slice_get}
use Rattle.meaning_forms.specs.Throw.{answered}
use Rattle.scope_world.specs.Outside.{rests_after}
use Rattle.scope_world.specs.Seen.{world_of}
use Rattle.scope_world.proofs.Replied.{taken}
use Rattle.scope_world.proofs.world.World.reply.Goals as goal

pub returns : goal.returns
returns g c = λ d r e.
    let w = world_of g.G.Outside.told d c.args.self.now in
    taken r c.args.guest (slice_get w.replies c.args.guest) e w refl
    ∙ ap (λ x. answered r c.args.guest x e (record w { replies = rests_after c.args.guest w.replies })) (sym c.reply.ensures.reply)
    ∙ ap (λ t. answered r c.args.guest c.reply.result e (record w { items = t.written; replies = t.replies })) (sym c.reply.ensures.told)
