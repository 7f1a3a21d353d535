use Rattle.std.proofs.Common.{length}
use Rattle.landing_pads.proofs.sites.+same_chain.Given as goal

abbrev pub decreases-same_chain : goal.decreases-same_chain
decreases-same_chain l = length l.chain.now
