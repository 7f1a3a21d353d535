use Rattle.std.proofs.Common.{◌≡◌, drop, map}
use Rattle.cxx_ast.specs.View.{expressions_of}
use Rattle.scope_flow.specs.Asked.{parameter_types_of}
use Rattle.region_forms.specs.LowerExpression.{lower_arguments}
use Rattle.region_ir.specs.Given.{lowering_of}
use Rattle.region_ir.specs.Passed.{calls_among}
use Rattle.region_ir.specs.View.{argument_of, region_of}
use Rattle.region_ir.proofs.Onward.{PassedSoFar}
use Rattle.region_ir.proofs.lower.+expressions.Given as goal

-- what is passed so far and what is left are the arguments, and so many of those that are left make calls
abbrev pub invariant-lower_arguments-loop-e : goal.invariant-lower_arguments-loop-e
invariant-lower_arguments-loop-e l = record {
  so_far : PassedSoFar (lower_arguments (lowering_of l.l) (expressions_of l.es) (parameter_types_of l.parameters) l.slot)
      (lower_arguments (lowering_of l.l) (expressions_of (drop l.e-index l.es)) (parameter_types_of l.wanted) l.free)
      (map region_of l.initial.before.items) l.before.items (map argument_of l.initial.given.items) l.given.items;
  calls : l.calls ≡ calls_among (expressions_of (drop l.e-index l.es));
}
