use Rattle.std.proofs.Common.{◌≡◌, ◌+◌, drop, map}
use Rattle.machine_forms.specs.Routine.{chain_number}
use Rattle.rv64_emit.proofs.table.chain_number.Given as goal

abbrev pub invariant-loop-number : goal.invariant-loop-number
invariant-loop-number l = l.number + chain_number l.chain (map (λ c. c.items) (drop l.number l.chains)) ≡ chain_number l.chain (map (λ c. c.items) l.chains)
