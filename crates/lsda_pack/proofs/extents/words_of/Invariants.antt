use Rattle.std.proofs.Common.{◌≡◌, ◌++◌, ℕ, map, length, Some}
use Rattle.eh_bytes.specs.Encoded.{encoding_format, format_size}
use Rattle.eh_bytes.specs.Memory.{memory_of, part_of}
use Rattle.lsda_pack.specs.Extents.{words_by}
use Rattle.lsda_pack.specs.Reaches.{extent_taken}
use Rattle.lsda_pack.proofs.extents.words_of.Given as goal

abbrev pub invariant-types : goal.invariant-types
invariant-types l =
    (size : ℕ) → format_size (encoding_format l.encoding) ≡ Some size →
    map extent_taken (words_by (memory_of l.memory) (part_of l.segment) l.encoding l.base size l.types) ≡
    l.taken.items ++ map extent_taken (words_by (memory_of l.memory) (part_of l.segment) l.encoding l.base size l.rest)

abbrev pub decreases-types : goal.decreases-types
decreases-types l = length l.rest
