use Rattle.rv64_machine.proofs.Joining.{joined_4}
use Rattle.rv64_machine.proofs.memory.Memory.word.Goals as goal

pub returns-clause-value : goal.returns-clause-value
returns-clause-value c = joined_4 c.args.self.now c.args.address c.joined.result c.half.result c.half-2.result c.joined.ensures c.half.ensures.value c.half-2.ensures.value
