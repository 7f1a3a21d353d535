use Rattle.std.proofs.Common.{take}
use Rattle.cxx_check.specs.OwnParts.{names_now}
use Rattle.cxx_check.specs.PlacesOf.{Hold}
use Rattle.cxx_check.proofs.own.places_of.Given as goal

abbrev pub invariant-loop-name : goal.invariant-loop-name
invariant-loop-name l = Hold l.places (names_now (take l.name-index l.names))
