use Rattle.std.proofs.Common.{subst}
use Rattle.frame_read.specs.CieFold.{IsFoldOf}
use Rattle.frame_read.proofs.Kept.{put_true}
use Rattle.frame_read.proofs.cie_folds.CieFolds.keeps.Goals as goal

pub returns-in-None-clause-kept : goal.returns-in-None-clause-kept
returns-in-None-clause-kept c = λ cie e stay many. absurd (subst (λ o. IsFoldOf o cie) c.in-None.is (c.in_ok-fold_of.ensures cie e) stay)

pub returns-in_ok-insert-in-Some-clause-folds : goal.returns-in_ok-insert-in-Some-clause-folds
returns-in_ok-insert-in-Some-clause-folds c = λ memory are reads.
    let folds = c.in_ok-fold_of.ensures in
    put_true memory c.args.self.now (record { folds = c.insert.new.self }) c.args.address c.in-Some.fold c.in_ok-insert-in-Some.ensures.updates.0 are (λ cie there. subst (λ o. IsFoldOf o cie) c.in-Some.is (folds cie (reads cie there)))
