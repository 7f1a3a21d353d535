use Rattle.std.proofs.Common.{◌≡◌, ◌++◌, drop}
use Rattle.region_forms.specs.Guard.{types_of}
use Rattle.linear_forms.specs.Emission.{filters_of}
use Rattle.region_ir.specs.View.{clauses_of}
use Rattle.landing_pads.specs.Given.{emitting_of}
use Rattle.landing_pads.proofs.handling.clause_filters.Given as goal

abbrev pub invariant-loop-clause : goal.invariant-loop-clause
invariant-loop-clause l =
    l.chain.items ++ filters_of (emitting_of l.e) (types_of (clauses_of (drop l.clause-index l.clauses))) ≡ filters_of (emitting_of l.e) (types_of (clauses_of l.clauses))
