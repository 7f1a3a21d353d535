use Rattle.cost_paths.proofs.Ahead.{all_code_goes_ahead}
use Rattle.cost_paths.proofs.laws.code_goes_ahead.Goals as goal

pub returns : goal.returns
returns c = all_code_goes_ahead
