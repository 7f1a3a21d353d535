use Rattle.std.proofs.Common.{◌≡◌, ◌+◌, drop, map}
use Rattle.linear_forms.specs.Distinct.{added_all, same_number}
use Rattle.landing_pads.proofs.types.put_listed.Given as goal

abbrev pub invariant-loop-ty : goal.invariant-loop-ty
invariant-loop-ty l =
    added_all same_number l.types.keys (map (λ t. t + 1) (drop l.ty-index l.listed)) ≡ added_all same_number l.initial.types.keys (map (λ t. t + 1) l.listed)
