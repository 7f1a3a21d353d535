use Rattle.std.proofs.Common.{◌≡◌, take}
use Rattle.linear_forms.specs.Filters.{indices_of}
use Rattle.landing_pads.proofs.filters.indices_of.Given as goal

abbrev pub invariant-loop-ty : goal.invariant-loop-ty
invariant-loop-ty l = l.indices.items ≡ indices_of l.types.keys (take l.ty-index l.listed)
