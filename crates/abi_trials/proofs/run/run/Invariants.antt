use Rattle.std.proofs.Common.{◌≡◌}
use Rattle.abi_trials.proofs.run.run.Given as goal

abbrev pub invariant-loop : goal.invariant-loop
invariant-loop l = l.runtime.turns ≡ l.counter
