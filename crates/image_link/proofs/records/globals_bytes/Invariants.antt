use Rattle.std.proofs.Common.{◌≡◌, ◌++◌, length}
use Rattle.std.specs.Prelude.{flat_map}
use Rattle.std.specs.Int.{w32, to_le_bytes, cast_unsigned}
use Rattle.image_link.proofs.records.globals_bytes.Given as goal

abbrev pub invariant-values : goal.invariant-values
invariant-values l = flat_map (λ value. to_le_bytes w32 (cast_unsigned w32 value)) l.initial.rest ≡ l.bytes.items ++ flat_map (λ value. to_le_bytes w32 (cast_unsigned w32 value)) l.rest

abbrev pub decreases-values : goal.decreases-values
decreases-values l = length l.rest
