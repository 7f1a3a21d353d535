use Rattle.std.proofs.Common.{rules, ◌≡◌, ◌∙◌, ◌+◌, map, ap, arith}
use Rattle.std.proofs.lemmas.List.{map-append}
use Rattle.run_items.specs.declared.item.Item.TheVariants as items
use Rattle.meaning_forms.specs.World.{foreign}
use Rattle.scope_world.specs.Seen.{live_of, world_of}
use Rattle.scope_world.proofs.Emitted.{made_world}
use Rattle.scope_world.proofs.world.World.raise.Goals as goal

pub returns : goal.returns
returns g c = λ d.
    let self = c.args.self.now in
    let number : c.in-Some.number ≡ self.last_number + 1 = search (rules, arith) in
    let live = ap (map live_of) c.in_ok-push.ensures.items ∙ map-append live_of self.live.items _ in
    made_world (foreign c.args.guest c.args.token) (λ n. items.Foreign n c.args.guest c.args.token) c.in-Some.number (map live_of c.push.new.self.items) (world_of g.G.Outside.told d self) (world_of g.G.Outside.told d c.emit.new.self) number live (c.in_ok-emit.ensures d)
