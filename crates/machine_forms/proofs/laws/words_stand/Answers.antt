use Rattle.machine_forms.proofs.Words.{words_stand}
use Rattle.machine_forms.proofs.laws.words_stand.Goals as goal

pub returns : goal.returns
returns c = words_stand
