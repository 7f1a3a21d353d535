use Rattle.std.proofs.Common.{◌≡◌, ◌≤◌, ◌+◌, drop}
use Rattle.cxx_ast.specs.View.{expressions_of}
use Rattle.region_ir.specs.Passed.{calls_among}
use Rattle.region_ir.proofs.calls.calls_among.Given as goal

abbrev pub invariant-loop-e : goal.invariant-loop-e
invariant-loop-e l =
    (l.calls ≤ l.e-index) × (l.calls + calls_among (expressions_of (drop l.e-index l.es)) ≡ calls_among (expressions_of l.es))
