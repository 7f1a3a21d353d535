use Rattle.meaning_depths.proofs.StoppingCalls.{shallow_meanings}
use Rattle.meaning_depths.proofs.laws.shallow_meanings.Goals as goal

pub returns : goal.returns
returns c = shallow_meanings
