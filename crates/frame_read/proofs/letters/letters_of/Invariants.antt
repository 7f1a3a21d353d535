use Rattle.std.proofs.Common.{◌≡◌, ◌≤◌, length}
use Rattle.eh_bytes.specs.Memory.{part_of}
use Rattle.table_forms.specs.Cie.{letters_at, no_letters}
use Rattle.frame_read.specs.SeenCie.{letters_seen}
use Rattle.frame_read.proofs.letters.letters_of.Given as goal

abbrev pub invariant-letters : goal.invariant-letters
invariant-letters l =
    (l.place ≤ l.stop) ×
    (letters_at (part_of l.segment) l.stop l.names no_letters l.first ≡
    letters_at (part_of l.segment) l.stop l.rest (letters_seen l.letters) l.place)

abbrev pub decreases-letters : goal.decreases-letters
decreases-letters l = length l.rest
