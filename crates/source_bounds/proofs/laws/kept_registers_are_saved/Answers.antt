use Rattle.source_bounds.proofs.KeptSaves.{kept_registers_are_saved}
use Rattle.source_bounds.proofs.laws.kept_registers_are_saved.Goals as goal

pub returns : goal.returns
returns c = kept_registers_are_saved c.variables_are_kept.ensures c.frames_fit.ensures
