use Rattle.rv64_isa.proofs.Codec.{decoded_listed}
use Rattle.rv64_isa.proofs.encoding.encode.Goals as goal

pub returns-clause-decoded : goal.returns-clause-decoded
returns-clause-decoded c = decoded_listed c.args.instr c.word.result c.word.ensures
