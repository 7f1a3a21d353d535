use Rattle.std.proofs.Common.{◌≡◌, subst, IfOk}
use Rattle.meaning_forms.specs.Frame.{bound_as}
use Rattle.scope_world.specs.Objects.{reference_of}
use Rattle.scope_world.specs.Seen.{world_of}
use Rattle.scope_meaning.proofs.lookup.bound_to.Goals as goal

pub returns : goal.returns
returns g c = λ d.
    let w = world_of g.G.Outside.told d c.args.w.now in
    subst (λ x. IfOk c.bound_as.result (λ r. reference_of r ≡ bound_as w c.args.ty.now x)) (c.in_ok-at.ensures d) (c.bound_as.ensures d)
