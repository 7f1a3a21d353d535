use Rattle.std.proofs.Common.{◌≡◌, IfOk, subst}
use Rattle.meaning_forms.specs.World.{as_class}
use Rattle.scope_world.specs.Objects.{reference_of}
use Rattle.scope_world.specs.Seen.{world_of}
use Rattle.scope_world.proofs.frame.bound_as.Goals as goal

pub returns-in-ObjectRef : goal.returns-in-ObjectRef
returns-in-ObjectRef g c = λ d.
    rw c.in-ObjectRef.is
    (subst (λ k. IfOk c.as_class.result (λ r. reference_of r ≡ as_class (world_of g.G.Outside.told d c.args.w.now) k (reference_of c.args.at))) c.class_named.ensures (c.as_class.ensures d))
