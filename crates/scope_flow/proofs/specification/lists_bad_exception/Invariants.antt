use Rattle.std.proofs.Common.{◌≡◌, length, map}
use Rattle.meaning_forms.specs.Class.{object_type, some_of}
use Rattle.meaning_forms.specs.Specification.{is_bad_exception}
use Rattle.scope_flow.proofs.specification.lists_bad_exception.Given as goal

abbrev pub invariant-types : goal.invariant-types
invariant-types l = some_of is_bad_exception (map object_type l.initial.rest) ≡ some_of is_bad_exception (map object_type l.rest)

abbrev pub decreases-types : goal.decreases-types
decreases-types l = length l.rest
