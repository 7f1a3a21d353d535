use Rattle.std.proofs.Common.{◌∙◌}
use Rattle.rv64_emit.proofs.SameChain.{equal_chains}
use Rattle.rv64_emit.proofs.table.is_same_chain.Goals as goal

pub returns : goal.returns
returns c = c.eq.ensures ∙ equal_chains c.args.chain.now c.args.other.now
