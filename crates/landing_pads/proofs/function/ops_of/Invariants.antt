use Rattle.std.proofs.Common.{◌≡◌, map}
use Rattle.landing_pads.specs.View.{linear_of, placed_of}
use Rattle.landing_pads.proofs.function.ops_of.Given as goal

abbrev pub invariant-loop-placed : goal.invariant-loop-placed
invariant-loop-placed l = map linear_of l.ops.items ≡ map (λ x. x.op) (map placed_of l.yielded)
