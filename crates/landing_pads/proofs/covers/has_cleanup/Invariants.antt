use Rattle.std.proofs.Common.{◌≡◌, drop}
use Rattle.std.specs.Prelude.{pos}
use Rattle.meaning_forms.specs.Arithmetic.{int_equal}
use Rattle.meaning_forms.specs.Class.{some_of}
use Rattle.landing_pads.proofs.covers.has_cleanup.Given as goal

abbrev pub invariant-loop-filter : goal.invariant-loop-filter
invariant-loop-filter l = some_of (int_equal (pos 0)) (drop l.filter-index l.chain) ≡ some_of (int_equal (pos 0)) l.chain
