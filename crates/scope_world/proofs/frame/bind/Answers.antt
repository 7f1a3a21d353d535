use Rattle.std.proofs.Common.{◌≡◌, ◌∙◌, sym, ap, arith, Some, FitsSigned, w32}
use Rattle.std.proofs.lemmas.Int.{ints, to_z-of_z}
use Rattle.meaning_forms.specs.Part.{cell}
use Rattle.meaning_forms.specs.World.{whole}
use Rattle.meaning_forms.specs.Frame.{with_parameter}
use Rattle.meaning_forms.specs.Outcome.{done, continued, new_object, pure}
use Rattle.scope_world.specs.Seen.{world_of}
use Rattle.scope_world.proofs.frame.bind.Goals as goal

pub returns-in_ok-object-in-Value : goal.returns-in_ok-object-in-Value
returns-in_ok-object-in-Value g c = λ d x f.
    let before = world_of g.G.Outside.told d c.args.w.now in
    let after = world_of g.G.Outside.told d c.new_object.new.self in
    let fits : FitsSigned w32 c.in-Value.value = search (arith, ints, c.in-Value.is) in
    let made : new_object (cell (Some c.in-Value.value)) before ≡ done c.in_ok-object-in-Value.object after = rw (to_z-of_z w32 c.in-Value.value fits) at (c.in_ok-object-in-Value.ensures d) in
    rw c.in-Value.is
    (ap (λ m. continued m (λ o. pure (with_parameter x.name (whole o) f))) made
    ∙ ap (λ r. done (with_parameter x.name r f) after) (sym c.whole.ensures))
