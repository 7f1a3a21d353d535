use Rattle.linear_forms.proofs.Copying.{cleanups_stand_twice}
use Rattle.linear_forms.proofs.laws.cleanups_stand_twice.Goals as goal

pub returns : goal.returns
returns c = cleanups_stand_twice
