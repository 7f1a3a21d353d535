use Rattle.place_verdicts.proofs.Sought.{sought}
use Rattle.place_verdicts.proofs.function.fde_at.Goals as goal

pub returns-clause-fde : goal.returns-clause-fde
returns-clause-fde c = λ i is. sought c.args.image.now i c.args.place c.fde_for.result is c.fde_for.ensures.frame
