use Rattle.std.proofs.Common.{◌≡◌, drop, map}
use Rattle.machine_forms.specs.Routine.{has_chain}
use Rattle.rv64_emit.proofs.table.has_chain.Given as goal

abbrev pub invariant-loop-other : goal.invariant-loop-other
invariant-loop-other l = has_chain l.chain (map (λ c. c.items) (drop l.other-index l.chains)) ≡ has_chain l.chain (map (λ c. c.items) l.chains)
