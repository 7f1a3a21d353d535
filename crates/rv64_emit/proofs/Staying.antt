-- Operations that are done inside their function.
use Rattle.std.proofs.Common.{◌≡◌, ◌&&◌, List, [], ◌∷◌, map, refl, ap}
use Rattle.std.specs.List.{list_all}
use Rattle.landing_pads.specs.View.{linear_of}
use Rattle.landing_pads.specs.declared.unit.LinearOp.{LinearOp}
use Rattle.machine_forms.specs.Leaf.{linear_stays}

pub all_mapped : (ops : List LinearOp) → list_all (λ o. linear_stays (linear_of o)) ops ≡ list_all linear_stays (map linear_of ops)
all_mapped [] = refl
all_mapped (o ∷ ops) = ap (λ b. linear_stays (linear_of o) && b) (all_mapped ops)
