use Rattle.rv64_machine.proofs.Joining.{joined_8}
use Rattle.rv64_machine.proofs.memory.Memory.double.Goals as goal

pub returns : goal.returns
returns c = joined_8 c.args.self.now c.args.address c.joined.result c.word.result c.word-2.result c.joined.ensures c.word.ensures.value c.word-2.ensures.value
