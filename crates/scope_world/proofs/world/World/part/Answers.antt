use Rattle.std.proofs.Common.{◌≡◌, ◌∙◌, sym, ap, None}
use Rattle.meaning_forms.specs.Part.{cell, part_at}
use Rattle.meaning_forms.specs.World.{object_at}
use Rattle.scope_world.specs.Objects.{part_of}
use Rattle.scope_world.specs.Seen.{world_of}
use Rattle.scope_world.proofs.Parted.{unset_stays}
use Rattle.scope_world.proofs.world.World.part.Goals as goal

pub returns-in-Some : goal.returns-in-Some
returns-in-Some g c = λ d.
    let h : part_of c.in-Some.object.now ≡ object_at (world_of g.G.Outside.told d c.args.self.now) c.args.at.now.object = c.in-Some.ensures d in
    c.part_at.ensures ∙ ap (part_at (part_of c.in-Some.object.now)) c.as_slice.ensures.value ∙ ap (λ a. part_at a c.args.at.now.path.items) h

pub returns-in-None : goal.returns-in-None
returns-in-None g c = λ d.
    let h : cell None ≡ object_at (world_of g.G.Outside.told d c.args.self.now) c.args.at.now.object = c.in-None.ensures d in
    sym (unset_stays c.args.at.now.path.items) ∙ ap (λ a. part_at a c.args.at.now.path.items) h
