-- The words at which operations begin.
use Rattle.std.proofs.Common.{◌≡◌, ◌∙◌, ℕ, zero, suc, ◌+◌, List, [], ◌∷◌, length, take, get_or, refl, ap, arith}
use Rattle.machine_forms.specs.Piece.{Piece}
use Rattle.machine_forms.specs.Routine.{Routine, block_words, op_word}
use Rattle.rv64_emit.specs.Starts.{starts_from, HasStarts}
use Rattle.rv64_emit.specs.declared.starts.Starts.{Starts}

from_word : (first : ℕ) (blocks : List (List Piece)) (p : ℕ) →
    get_or (starts_from first blocks) p (first + block_words blocks) ≡ first + block_words (take p blocks)
from_word first [] zero = refl
from_word first [] (suc p) = refl
from_word first (b ∷ blocks) zero = omega arith
from_word first (b ∷ blocks) (suc p) =
    let e : first + block_words (b ∷ blocks) ≡ first + length b + block_words blocks = omega arith in
    ap (get_or (starts_from (first + length b) blocks) p) e ∙ (from_word (first + length b) blocks p ∙ omega arith)

-- the word of an operation
pub word_of_place : (s : Starts) (r : Routine) (p : ℕ) → HasStarts s r → get_or s.words.items p s.end ≡ op_word r p
word_of_place s r p h =
    ap (λ l. get_or l p s.end) h.words ∙ (ap (get_or (starts_from (length r.front) r.blocks) p) h.end ∙ from_word (length r.front) r.blocks p)
