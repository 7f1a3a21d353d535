use Rattle.std.proofs.Common.{◌≡◌, [], take, drop}
use Rattle.cxx_check.specs.OwnParts.{specials_behind}
use Rattle.cxx_check.proofs.own.specials_found.Given as goal

abbrev pub invariant-loop-i : goal.invariant-loop-i
invariant-loop-i l =
    specials_behind l.env l.class l.text l.found (take l.i l.functions) (drop l.i l.functions)
    ≡ specials_behind l.env l.class l.text l.initial.found [] l.functions
