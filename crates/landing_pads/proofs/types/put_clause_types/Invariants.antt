use Rattle.std.proofs.Common.{◌≡◌, drop, map}
use Rattle.region_forms.specs.Guard.{types_of}
use Rattle.linear_forms.specs.Distinct.{added_all, same_number}
use Rattle.linear_forms.specs.Filters.{table_type}
use Rattle.region_ir.specs.View.{clauses_of}
use Rattle.landing_pads.proofs.types.put_clause_types.Given as goal

abbrev pub invariant-loop-clause : goal.invariant-loop-clause
invariant-loop-clause l =
    added_all same_number l.types.keys (map table_type (types_of (clauses_of (drop l.clause-index l.clauses))))
    ≡ added_all same_number l.initial.types.keys (map table_type (types_of (clauses_of l.clauses)))
