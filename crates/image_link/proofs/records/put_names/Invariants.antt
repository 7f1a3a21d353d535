use Rattle.std.proofs.Common.{◌≡◌, ◌++◌, length}
use Rattle.image_forms.specs.Records.{names_bytes}
use Rattle.image_link.proofs.records.put_names.Given as goal

abbrev pub invariant-types : goal.invariant-types
invariant-types l = l.initial.out.items ++ names_bytes l.types ≡ l.out.items ++ names_bytes l.rest

abbrev pub decreases-types : goal.decreases-types
decreases-types l = length l.rest
