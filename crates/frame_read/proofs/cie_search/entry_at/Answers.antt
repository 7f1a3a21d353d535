use Rattle.std.proofs.Common.{◌∙◌}
use Rattle.frame_read.proofs.cie_search.entry_at.Goals as goal

pub returns : goal.returns
returns c = c.first_at.ensures ∙ c.halves.invariant.1
