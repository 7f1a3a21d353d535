use Rattle.std.proofs.Common.{◌≡◌, drop, map}
use Rattle.std.specs.Prelude.{max}
use Rattle.region_forms.specs.Form.{regions_from}
use Rattle.region_forms.specs.Mentioned.{slots_of_all, slots_of_clauses}
use Rattle.region_ir.specs.View.{clauses_of, region_of}
use Rattle.region_ir.proofs.mentioned.+mentioned_regions.Given as goal

-- the greatest of the slots so far and of those that are left
abbrev pub invariant-slots_of_all-loop-region : goal.invariant-slots_of_all-loop-region
invariant-slots_of_all-loop-region l =
    max l.slots (slots_of_all (regions_from (map region_of (drop l.region-index l.regions)))) ≡ slots_of_all (regions_from (map region_of l.regions))

abbrev pub invariant-slots_of_clauses-loop-clause : goal.invariant-slots_of_clauses-loop-clause
invariant-slots_of_clauses-loop-clause l =
    max l.slots (slots_of_clauses (clauses_of (drop l.clause-index l.clauses))) ≡ slots_of_clauses (clauses_of l.clauses)
