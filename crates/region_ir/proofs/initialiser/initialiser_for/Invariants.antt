use Rattle.std.proofs.Common.{◌≡◌, length, map}
use Rattle.cxx_ast.specs.View.{checked_of, initialiser_of}
use Rattle.meaning_forms.specs.Call.{initialiser_for}
use Rattle.region_ir.proofs.initialiser.initialiser_for.Given as goal

abbrev pub invariant-inits : goal.invariant-inits
invariant-inits l =
    initialiser_for (checked_of l.program) (map initialiser_of l.initial.rest) l.place ≡ initialiser_for (checked_of l.program) (map initialiser_of l.rest) l.place

abbrev pub decreases-inits : goal.decreases-inits
decreases-inits l = length l.rest
