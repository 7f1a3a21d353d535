use Rattle.std.proofs.Common.{◌≡◌, ◌+◌, ◌-◌}
use Rattle.rv64_machine.specs.Bytes.{size_of, with_number}
use Rattle.rv64_machine.proofs.bytes.put_number.Given as goal

abbrev pub invariant-loop-k : goal.invariant-loop-k
invariant-loop-k l = with_number l.initial.bytes l.at (size_of l.fn.size) l.value ≡ with_number l.bytes (l.at + l.k) (l.k-end - l.k) l.rest
