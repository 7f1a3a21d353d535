use Rattle.std.proofs.Common.{◌≡◌, ◌++◌, length}
use Rattle.image_forms.specs.Records.{records_words}
use Rattle.image_link.proofs.records.records_words.Given as goal

abbrev pub invariant-types : goal.invariant-types
invariant-types l = records_words l.end l.name l.types ≡ l.records.items ++ records_words l.end l.name_at l.rest

abbrev pub decreases-types : goal.decreases-types
decreases-types l = length l.rest
