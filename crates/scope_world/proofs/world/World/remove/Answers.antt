use Rattle.std.proofs.Common.{◌≡◌, ◌∙◌, ap, map, not, refl, rules, filter}
use Rattle.std.specs.Prelude.{◌==◌}
use Rattle.scope_world.specs.Seen.{live_of, world_of}
use Rattle.scope_world.proofs.Listed.{map_filter}
use Rattle.scope_world.proofs.world.World.remove.Goals as goal

pub returns : goal.returns
returns g c = λ d.
    let h : c.in_ok-self.field-0.items ≡ filter (λ x. not (x.number == c.args.number)) c.args.self.now.live.items = search rules in
    ap (λ xs. record (world_of g.G.Outside.told d c.args.self.now) { live = xs }) (ap (map live_of) h ∙ map_filter live_of (λ x. not (x.number == c.args.number)) (λ x. not (x.number == c.args.number)) (λ x. refl) c.args.self.now.live.items)
