use Rattle.rv64_isa.proofs.Codec.{ok_listed, err_unlisted}
use Rattle.rv64_isa.proofs.decoding.decode.Goals as goal

pub returns-clause-listed : goal.returns-clause-listed
returns-clause-listed c = ok_listed c.args.word c.ranges.word.fits c.named.result _ c.ok_or.result c.named.ensures c.ok_or.ensures.value

pub returns-clause-illegal : goal.returns-clause-illegal
returns-clause-illegal c = err_unlisted c.args.word c.named.result _ c.ok_or.result c.named.ensures c.ok_or.ensures.value
