use Rattle.std.proofs.Common.{ap}
use Rattle.rv64_machine.specs.Bytes.{size_of}
use Rattle.rv64_machine.proofs.Joining.{gathered_1}
use Rattle.rv64_machine.proofs.memory.Memory.gathered.Goals as goal

pub returns-in-Byte-clause-value : goal.returns-in-Byte-clause-value
returns-in-Byte-clause-value c = gathered_1 c.args.self.now c.args.address c.byte.result (size_of c.args.size) c.byte.ensures.value (ap size_of c.in-Byte.is)
