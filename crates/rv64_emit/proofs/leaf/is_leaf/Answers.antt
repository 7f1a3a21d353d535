use Rattle.std.proofs.Common.{◌∙◌, ap, map}
use Rattle.std.specs.List.{list_all}
use Rattle.landing_pads.specs.View.{linear_of}
use Rattle.machine_forms.specs.Leaf.{is_leaf, linear_stays}
use Rattle.rv64_emit.proofs.Staying.{all_mapped}
use Rattle.rv64_emit.proofs.leaf.is_leaf.Goals as goal

pub returns : goal.returns
unfolding is_leaf
returns c = c.all_stay.ensures ∙ (all_mapped c.as_slice.result.now ∙ ap (λ os. list_all linear_stays (map linear_of os)) c.as_slice.ensures.value)
