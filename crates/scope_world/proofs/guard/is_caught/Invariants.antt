use Rattle.std.proofs.Common.{◌≡◌, length, map}
use Rattle.cxx_ast.specs.View.{checked_of, option_of}
use Rattle.meaning_forms.specs.Class.{some_of}
use Rattle.meaning_forms.specs.Guard.{matches}
use Rattle.scope_world.specs.Inward.{clause_in}
use Rattle.scope_world.specs.Objects.{type_of}
use Rattle.scope_world.proofs.guard.is_caught.Given as goal

abbrev pub invariant-handlers : goal.invariant-handlers
invariant-handlers l =
    some_of (matches (checked_of l.program) (option_of type_of l.thrown)) (map clause_in l.initial.rest) ≡ some_of (matches (checked_of l.program) (option_of type_of l.thrown)) (map clause_in l.rest)

abbrev pub decreases-handlers : goal.decreases-handlers
decreases-handlers l = length l.rest
