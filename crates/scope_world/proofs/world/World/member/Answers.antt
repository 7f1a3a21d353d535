use Rattle.std.proofs.Common.{◌∙◌, ap}
use Rattle.meaning_forms.specs.World.{part, as_class}
use Rattle.scope_world.specs.Objects.{reference_of}
use Rattle.scope_world.specs.Seen.{world_of}
use Rattle.scope_world.proofs.world.World.member.Goals as goal

pub returns : goal.returns
returns g c = λ d.
    let place = c.member_place.result in
    ap (λ p. record { object = c.in_ok-at.at.object; path = p }) c.in_ok-push.ensures.items
    ∙ ap (part place) (c.in_ok-at.ensures d)
    ∙ ap (λ n. part n (as_class (world_of g.G.Outside.told d c.args.self.now) c.args.class (reference_of c.args.at))) c.member_place.ensures
