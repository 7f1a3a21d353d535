use Rattle.meaning_forms.proofs.Turns.{call_with-spends}
use Rattle.meaning_forms.proofs.laws.turns_do_not_rise.Goals as goal

pub returns : goal.returns
returns c = λ p limit fuel callee this given d w. call_with-spends p limit fuel callee this given d w
