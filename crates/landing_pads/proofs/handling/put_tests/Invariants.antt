use Rattle.std.proofs.Common.{◌≡◌, ◌++◌, drop, map}
use Rattle.linear_forms.specs.Code.{clause_tests}
use Rattle.region_ir.specs.View.{clauses_of}
use Rattle.landing_pads.specs.Given.{emitting_of}
use Rattle.landing_pads.specs.View.{placed_of}
use Rattle.landing_pads.proofs.handling.put_tests.Given as goal

abbrev pub invariant-loop-clause : goal.invariant-loop-clause
invariant-loop-clause l =
    map placed_of l.code.items ++ clause_tests (emitting_of l.e) l.handler (clauses_of (drop l.clause-index l.clauses))
    ≡ map placed_of l.initial.code.items ++ clause_tests (emitting_of l.e) l.label (clauses_of l.clauses)
