use Rattle.std.proofs.Common.{◌≡◌, drop, map}
use Rattle.linear_forms.specs.Distinct.{among, same_list}
use Rattle.landing_pads.proofs.filters.is_among.Given as goal

abbrev pub invariant-loop-other : goal.invariant-loop-other
invariant-loop-other l = among same_list (map (λ x. x.items) (drop l.other-index l.lists)) l.list ≡ among same_list (map (λ x. x.items) l.lists) l.list
