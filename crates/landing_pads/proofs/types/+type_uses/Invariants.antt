use Rattle.std.proofs.Common.{◌≡◌, drop, map}
use Rattle.region_forms.specs.Form.{regions_from}
use Rattle.linear_forms.specs.Distinct.{added_all, same_number}
use Rattle.linear_forms.specs.Filters.{type_uses_all, type_uses_clauses}
use Rattle.region_ir.specs.View.{clauses_of, region_of}
use Rattle.landing_pads.proofs.types.+type_uses.Given as goal

abbrev pub invariant-put_types_of_all-loop-region : goal.invariant-put_types_of_all-loop-region
invariant-put_types_of_all-loop-region l =
    added_all same_number l.types.keys (type_uses_all (regions_from (map region_of (drop l.region-index l.regions))))
    ≡ added_all same_number l.initial.types.keys (type_uses_all (regions_from (map region_of l.regions)))

abbrev pub invariant-put_types_of_clauses-loop-clause : goal.invariant-put_types_of_clauses-loop-clause
invariant-put_types_of_clauses-loop-clause l =
    added_all same_number l.types.keys (type_uses_clauses (clauses_of (drop l.clause-index l.clauses)))
    ≡ added_all same_number l.initial.types.keys (type_uses_clauses (clauses_of l.clauses))
