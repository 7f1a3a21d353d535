-- The words at which operations begin, each made from the one before.
use Rattle.std.specs.Prelude.{◌≡◌, ℕ, ◌+◌, List, [], ◌∷◌, length}
use Rattle.machine_forms.specs.Piece.{Piece}
use Rattle.machine_forms.specs.Routine.{Routine, routine_words}
use Rattle.rv64_emit.specs.declared.starts.Starts.{Starts}

-- the first word of each block, the first of which begins at a word
abbrev pub starts_from : ℕ → List (List Piece) → List ℕ
starts_from first [] = []
starts_from first (b ∷ blocks) = first ∷ starts_from (first + length b) blocks

-- the words of a routine's operations, and how many words it has
pub record HasStarts (starts : Starts) (r : Routine) : Type 0 where
  pub words : starts.words.items ≡ starts_from (length r.front) r.blocks
  pub end : starts.end ≡ routine_words r
