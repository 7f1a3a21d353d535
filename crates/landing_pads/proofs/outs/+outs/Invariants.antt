use Rattle.std.proofs.Common.{◌≡◌, drop, map}
use Rattle.region_forms.specs.Form.{regions_from}
use Rattle.linear_forms.specs.Distinct.{added_all, same_number}
use Rattle.linear_forms.specs.Exits.{outs_of_all, outs_of_clauses}
use Rattle.region_ir.specs.View.{clauses_of, region_of}
use Rattle.landing_pads.specs.Past.{past}
use Rattle.landing_pads.proofs.outs.+outs.Given as goal

abbrev pub invariant-put_outs_of_all-loop-region : goal.invariant-put_outs_of_all-loop-region
invariant-put_outs_of_all-loop-region l =
    added_all same_number l.outs.items (past l.depth (outs_of_all (regions_from (map region_of (drop l.region-index l.regions)))))
    ≡ added_all same_number l.initial.outs.items (past l.depth (outs_of_all (regions_from (map region_of l.regions))))

abbrev pub invariant-put_outs_of_clauses-loop-clause : goal.invariant-put_outs_of_clauses-loop-clause
invariant-put_outs_of_clauses-loop-clause l =
    added_all same_number l.outs.items (past l.depth (outs_of_clauses (clauses_of (drop l.clause-index l.clauses))))
    ≡ added_all same_number l.initial.outs.items (past l.depth (outs_of_clauses (clauses_of l.clauses)))
