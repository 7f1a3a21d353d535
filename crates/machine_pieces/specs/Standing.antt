-- Pieces of code that stand in memory.
use Rattle.std.specs.Prelude.{⊤, ◌≡◌, ℕ, ◌+◌, ◌*◌, ◌<◌, ◌^◌, List, [], ◌∷◌, slice_get, Some}
use Rattle.rv64_isa.specs.Format.{IsInRange}
use Rattle.rv64_isa.specs.Listing.{form_of, word_of}
use Rattle.rv64_isa.specs.State.{Part}
use Rattle.machine_forms.specs.Piece.{Piece, instruction, jump_to, upper_part, add_rest, load_rest, store_rest, jump_rest, Places, placed}
use Rattle.machine_pieces.specs.Memory.{WordAt}

-- where things stand from the first word of the runtime's own functions on, the address of that word, and how many words there are
pub record Ground : Type 0 where
  pub places : Places
  pub base : ℕ
  pub words : ℕ

-- the address of a word
abbrev pub address : Ground → ℕ → ℕ
address g here = g.base + 4 * here

-- The fields of a piece's instruction have as many bits as their places: those of an instruction that is given, and otherwise the
-- registers. What comes of a distance always has.
abbrev pub PieceFits : Piece → Type 0
PieceFits (instruction i) = IsInRange (form_of i)
PieceFits (jump_to l) = ⊤
PieceFits (upper_part rd t) = rd < 32
PieceFits (add_rest rd t) = rd < 32
PieceFits (load_rest rd t) = rd < 32
PieceFits (store_rest value base t) = (value < 32) × (base < 32)
PieceFits (jump_rest link base t) = (link < 32) × (base < 32)

-- the word of a piece stands at a word's place
pub record PieceAt (memory : List Part) (g : Ground) (here : ℕ) (x : Piece) : Type 0 where
  pub inside : here < g.words
  pub fits : PieceFits x
  pub word : WordAt memory (address g here) (word_of (placed g.places here x))

-- the words of pieces stand in memory, the first of them at a word's place
abbrev pub PiecesAt : List Part → Ground → ℕ → List Piece → Type 0
PiecesAt memory g here [] = ⊤
PiecesAt memory g here (x ∷ xs) = PieceAt memory g here x × PiecesAt memory g (here + 1) xs

-- words of code stand in memory from an address on
abbrev pub WordsAt : List Part → ℕ → List ℕ → Type 0
WordsAt memory base words = (n : ℕ) (word : ℕ) → slice_get words n ≡ Some word → WordAt memory (base + 4 * n) word

-- words of 32 bits
abbrev pub HaveBits : List ℕ → Type 0
HaveBits words = (n : ℕ) (word : ℕ) → slice_get words n ≡ Some word → word < 2 ^ 32
