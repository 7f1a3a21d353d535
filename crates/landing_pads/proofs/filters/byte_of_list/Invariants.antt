use Rattle.std.proofs.Common.{◌≡◌, ◌+◌, drop, map}
use Rattle.linear_forms.specs.Filters.{byte_of_list}
use Rattle.landing_pads.proofs.filters.byte_of_list.Given as goal

abbrev pub invariant-loop-other : goal.invariant-loop-other
invariant-loop-other l = l.byte + byte_of_list l.list (map (λ x. x.items) (drop l.other-index l.lists)) ≡ byte_of_list l.list (map (λ x. x.items) l.lists)
