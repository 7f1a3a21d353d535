use Rattle.std.proofs.Common.{subst}
use Rattle.std.specs.Prelude.{IfSome}
use Rattle.frame_read.specs.CieFold.{IsFold}
use Rattle.frame_read.proofs.fde_rows.rows_of.Goals as goal

pub returns-in_ok-locations-in-None : goal.returns-in_ok-locations-in-None
returns-in_ok-locations-in-None c = λ f known kept. record { at = c.in_ok-locations-in-None.ensures f known; walk = c.new-walk.ensures f known }

pub returns-in_ok-locations-in-Some : goal.returns-in_ok-locations-in-Some
returns-in_ok-locations-in-Some c = λ f known kept.
    let is = subst (λ o. IfSome o (λ k. IsFold k.now f.cie)) c.in-Some.is kept in record { at = c.in_ok-locations-in-Some.ensures f known is.stay; walk = c.behind-walk.ensures f known is }
