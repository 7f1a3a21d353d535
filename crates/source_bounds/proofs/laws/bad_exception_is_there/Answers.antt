use Rattle.source_bounds.proofs.Types.{bad_exception_is_there}
use Rattle.source_bounds.proofs.laws.bad_exception_is_there.Goals as goal

pub returns : goal.returns
returns c = bad_exception_is_there
