use Rattle.std.proofs.Common.{◌≡◌, ◌++◌, length}
use Rattle.std.specs.Prelude.{flat_map}
use Rattle.image_forms.specs.Records.{words_bytes}
use Rattle.image_link.proofs.records.records_bytes.Given as goal

abbrev pub invariant-records : goal.invariant-records
invariant-records l = flat_map words_bytes l.initial.rest ≡ l.bytes.items ++ flat_map words_bytes l.rest

abbrev pub decreases-records : goal.decreases-records
decreases-records l = length l.rest
