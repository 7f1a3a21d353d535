use Rattle.machine_forms.proofs.Paying.{paying_takes_words}
use Rattle.machine_forms.proofs.laws.paying_takes_words.Goals as goal

pub returns : goal.returns
returns c = paying_takes_words
