use Rattle.std.proofs.Common.{◌≡◌, ◌++◌, length}
use Rattle.std.specs.Prelude.{flat_map}
use Rattle.std.specs.Int.{w32, to_le_bytes}
use Rattle.image_link.proofs.image.put_words.Given as goal

abbrev pub invariant-words : goal.invariant-words
invariant-words l = l.initial.out.items ++ flat_map (to_le_bytes w32) l.words ≡ l.out.items ++ flat_map (to_le_bytes w32) l.rest

abbrev pub decreases-words : goal.decreases-words
decreases-words l = length l.rest
