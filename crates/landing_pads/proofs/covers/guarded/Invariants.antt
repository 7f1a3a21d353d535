use Rattle.std.proofs.Common.{◌≡◌, ◌++◌, take}
use Rattle.linear_forms.specs.Emission.{chain_of}
use Rattle.landing_pads.specs.View.{cover_of}
use Rattle.landing_pads.proofs.covers.guarded.Given as goal

abbrev pub invariant-loop-filter : goal.invariant-loop-filter
invariant-loop-filter l = l.chain.items ≡ l.initial.chain.items ++ take l.filter-index (chain_of (cover_of l.cover))
