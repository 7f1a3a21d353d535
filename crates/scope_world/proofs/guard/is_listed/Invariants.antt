use Rattle.std.proofs.Common.{◌≡◌, length, map}
use Rattle.cxx_ast.specs.View.{checked_of}
use Rattle.meaning_forms.specs.Class.{derives, object_type, some_of}
use Rattle.scope_world.specs.Objects.{type_of}
use Rattle.scope_world.proofs.guard.is_listed.Given as goal

abbrev pub invariant-types : goal.invariant-types
invariant-types l =
    some_of (derives (checked_of l.program) (type_of l.thrown)) (map object_type l.initial.rest) ≡ some_of (derives (checked_of l.program) (type_of l.thrown)) (map object_type l.rest)

abbrev pub decreases-types : goal.decreases-types
decreases-types l = length l.rest
