use Rattle.source_bounds.proofs.Fits.{functions_fit}
use Rattle.source_bounds.proofs.laws.functions_fit.Goals as goal

pub returns : goal.returns
returns c = functions_fit c.tables_are_good.ensures c.moves_fit.ensures c.frames_of_checked_fit.ensures
