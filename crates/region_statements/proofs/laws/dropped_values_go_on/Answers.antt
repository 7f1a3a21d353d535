use Rattle.region_forms.specs.LowerExpression.{first_temporary, dropped}
use Rattle.region_statements.proofs.Ending.{does_next}
use Rattle.region_statements.proofs.Dropping.{dropped_goes}
use Rattle.region_statements.proofs.laws.dropped_values_go_on.Goals as goal

pub returns : goal.returns
returns c = λ l own gives b v c fit n i d e act rest ys evaluates next.
    does_next l own gives b v c n i d act (λ z. rest) (dropped l e (first_temporary l)) ys (dropped_goes l own b v c fit e act evaluates) (λ z. next)
