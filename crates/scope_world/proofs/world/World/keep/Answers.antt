use Rattle.std.proofs.Common.{◌≡◌, ◌∙◌, ap, map, rules}
use Rattle.meaning_forms.specs.World.{native, replaced}
use Rattle.scope_world.specs.declared.exception.Exception.TheVariants.{Native}
use Rattle.scope_world.specs.Seen.{installed_of, live_of, with_live, world_of}
use Rattle.scope_world.proofs.Listed.{all_replaced}
use Rattle.scope_world.proofs.world.World.keep.Goals as goal

pub returns : goal.returns
returns g c = λ d.
    let self = c.args.self.now in
    let built = Native c.type_of_object-ty.result c.args.object self.installed in
    let h : c.in_ok-self.field-0.items ≡ map (with_live c.args.number built) self.live.items = search rules in
    ap (λ xs. record (world_of g.G.Outside.told d self) { live = xs })
    (ap (map live_of) h ∙ all_replaced c.args.number built self.live.items
    ∙ ap (λ t. map (replaced c.args.number (native t c.args.object (installed_of self.installed))) (map live_of self.live.items)) (c.type_of_object-ty.ensures d))
