use Rattle.std.proofs.Common.{◌≡◌, drop}
use Rattle.cxx_check.specs.OwnParts.{names_now, twice_in}
use Rattle.cxx_rules.specs.Folds.{each_behind}
use Rattle.cxx_check.proofs.own.twice_among.Given as goal

abbrev pub invariant-loop-name : goal.invariant-loop-name
invariant-loop-name l =
    each_behind l.env (twice_in (names_now l.names)) l.found (names_now (drop l.name-index l.names))
    ≡ each_behind l.env (twice_in (names_now l.names)) l.initial.found (names_now l.names)
