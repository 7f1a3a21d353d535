use Rattle.linear_simulation.proofs.Functions
use Rattle.linear_simulation.proofs.laws.functions_run.Goals as goal

pub returns : goal.returns
returns c = λ p most limit sound fuel. Functions.functions_run p most limit sound fuel
