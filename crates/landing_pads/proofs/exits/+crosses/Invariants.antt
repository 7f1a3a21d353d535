use Rattle.std.proofs.Common.{length}
use Rattle.landing_pads.proofs.exits.+crosses.Given as goal

abbrev pub decreases-crosses : goal.decreases-crosses
decreases-crosses l = length l.exits.now
