use Rattle.rv64_machine.proofs.Joining.{joined_2}
use Rattle.rv64_machine.proofs.memory.Memory.half.Goals as goal

pub returns-clause-value : goal.returns-clause-value
returns-clause-value c = joined_2 c.args.self.now c.args.address c.joined.result c.byte.result c.byte-2.result c.joined.ensures c.byte.ensures.value c.byte-2.ensures.value
