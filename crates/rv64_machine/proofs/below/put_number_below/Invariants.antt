use Rattle.std.proofs.Common.{◌≡◌, ◌-◌}
use Rattle.rv64_machine.specs.Bytes.{size_of}
use Rattle.rv64_machine.specs.Reserved.{with_number_below}
use Rattle.rv64_machine.proofs.below.put_number_below.Given as goal

abbrev pub invariant-loop-k : goal.invariant-loop-k
invariant-loop-k l = with_number_below l.initial.bytes l.at (size_of l.fn.size) l.value ≡ with_number_below l.bytes (l.at - l.k) (l.k-end - l.k) l.rest
