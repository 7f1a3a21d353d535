use Rattle.std.proofs.Common.{◌≡◌, drop}
use Rattle.cxx_check.specs.Once.{once_in}
use Rattle.cxx_check.specs.OwnParts.{names_now}
use Rattle.cxx_rules.specs.Folds.{each_behind}
use Rattle.cxx_check.proofs.once.once_found.Given as goal

abbrev pub invariant-loop-name : goal.invariant-loop-name
invariant-loop-name l =
    each_behind l.env (once_in l.special (names_now l.all)) l.found (names_now (drop l.name-index l.all))
    ≡ each_behind l.env (once_in l.special (names_now l.all)) l.initial.found (names_now l.all)
