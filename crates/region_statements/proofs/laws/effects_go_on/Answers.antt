use Rattle.region_statements.proofs.Ending.{does_next}
use Rattle.region_statements.proofs.laws.effects_go_on.Goals as goal

pub returns : goal.returns
returns c = λ l own gives b v c n i d act rest xs ys goes next. does_next l own gives b v c n i d act (λ u. rest) xs ys goes (λ u. next)
