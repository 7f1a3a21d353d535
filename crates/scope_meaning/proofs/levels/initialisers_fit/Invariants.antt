use Rattle.std.proofs.Common.{◌≡◌, length, map}
use Rattle.cxx_ast.specs.View.{initialiser_of}
use Rattle.scope_meaning.specs.Levels.{initialisers_fit}
use Rattle.scope_meaning.proofs.levels.initialisers_fit.Given as goal

-- those that are looked at have room
abbrev pub invariant-initialisers : goal.invariant-initialisers
invariant-initialisers l = initialisers_fit l.room (map initialiser_of l.initial.rest) ≡ initialisers_fit l.room (map initialiser_of l.rest)

abbrev pub decreases-initialisers : goal.decreases-initialisers
decreases-initialisers l = length l.rest
