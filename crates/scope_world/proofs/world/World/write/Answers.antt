use Rattle.std.proofs.Common.{◌≡◌, ◌∙◌, ◌<◌, ap, rules, Some, set, get_or, length, arith, FitsSigned, w32}
use Rattle.std.proofs.lemmas.Int.{ints, to_z-of_z}
use Rattle.std.proofs.lemmas.List.{map-set}
use Rattle.meaning_forms.specs.Part.{cell, with_part_at}
use Rattle.meaning_forms.specs.World.{object_at}
use Rattle.scope_world.specs.Objects.{part_of}
use Rattle.scope_world.specs.Seen.{world_of}
use Rattle.scope_world.proofs.Listed.{object_within}
use Rattle.scope_world.proofs.world.World.write.Goals as goal

pub returns-in-Some : goal.returns-in-Some
returns-in-Some g c = λ d.
    let objects = c.args.self.now.objects.items in
    let w = world_of g.G.Outside.told d c.args.self.now in
    let o = c.args.at.now.object in
    let low : o < length objects = search rules in
    let is : c.in-Some.object.now ≡ get_or objects o c.in-Some.object.now = search rules in
    let old : part_of c.in-Some.object.now ≡ object_at w o = ap part_of is ∙ object_within objects o c.in-Some.object.now low in
    let fits : FitsSigned w32 c.args.value = search (arith, ints) in
    let here : part_of c.set_at.new.part ≡ with_part_at (part_of c.in-Some.object.now) c.args.at.now.path.items (cell (Some c.args.value)) = rw (to_z-of_z w32 c.args.value fits, c.as_slice.ensures.value) at c.set_at.ensures in
    ap (λ xs. record w { objects = xs }) (map-set part_of objects o c.set_at.new.part
    ∙ ap (λ a. set w.objects o a) (here ∙ ap (λ a. with_part_at a c.args.at.now.path.items (cell (Some c.args.value))) old))
