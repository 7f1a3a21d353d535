use Rattle.std.proofs.Common.{◌≡◌, ◌+◌, ◌-◌}
use Rattle.rv64_isa.specs.State.{with_value}
use Rattle.rv64_machine.specs.Bytes.{size_of}
use Rattle.rv64_machine.proofs.memory.Memory.put.Given as goal

abbrev pub invariant-loop-k : goal.invariant-loop-k
invariant-loop-k l = with_value l.initial.self l.address (size_of l.fn.size) l.value ≡ with_value l.self (l.address + l.k) (l.k-end - l.k) l.rest
