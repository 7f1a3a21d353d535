-- The machine fetches the words of pieces and does what they say.
use Rattle.std.proofs.Common.{◌≡◌, ◌∙◌, refl, ap, subst, arith, ℕ, ◌+◌, ◌-◌, ◌%◌, ◌^◌, ◌<◌, ℤ, pos, negsuc, true, List, [], ◌∷◌, ◌++◌, length, Some}
use Rattle.std.specs.Prelude.{◌-ℤ◌, not}
use Rattle.std.specs.List.{list_all}
use Rattle.std.proofs.lemmas.Bool.{and_parts, and_from}
use Rattle.rv64_isa.specs.declared.instr.Instr.{Instr}
use Rattle.rv64_isa.specs.Format.{IsInRange}
use Rattle.rv64_isa.specs.Listing.{form_of, word_of}
use Rattle.rv64_isa.specs.State.{State, Part, Byte}
use Rattle.rv64_isa.specs.Step.{fetched, step_of, done}
use Rattle.rv64_isa.proofs.Codec.{decoded_word}
use Rattle.machine_forms.specs.Immediate.{modulo, immediate, upper, jump_field}
use Rattle.machine_forms.specs.Piece.{Piece, instruction, jump_to, upper_part, add_rest, load_rest, store_rest, jump_rest, Places, placed, distance}
use Rattle.machine_pieces.specs.Memory.{Written, is_code, WordAt}
use Rattle.machine_pieces.specs.Standing.{Ground, address, PieceFits, PieceAt, PiecesAt}
use Rattle.machine_pieces.specs.Laws.{WordsAreFetched}
use Rattle.machine_pieces.proofs.Storing.{word_still}

pub fetches : (s : State) (i : Instr) → s.pc % 4 ≡ 0 → fetched s.memory s.pc ≡ Some (word_of i) → IsInRange (form_of i) → step_of s ≡ done i s
unfolding step_of
fetches s i aligned word ranges = rw (aligned, word, decoded_word i ranges) refl

-- bytes of code may be executed
executable : (bytes : List Byte) → list_all is_code bytes ≡ true → list_all (λ b. b.exec) bytes ≡ true
executable [] h = refl
executable (b ∷ bytes) h =
    let both = and_parts (is_code b) (list_all is_code bytes) h in
    and_from b.exec (list_all (λ b. b.exec) bytes) (and_parts b.exec (not b.write) both.0).0 (executable bytes both.1)

-- a word of code is fetched
pub word_fetched : (memory : List Part) (a word : ℕ) → WordAt memory a word → fetched memory a ≡ Some word
word_fetched memory a word h = rw (h.there, executable h.bytes h.code) (ap Some h.spells)

-- numbers as fields have as many bits as their places
modulo_small : (m : ℕ) (z : ℤ) → 0 < m → modulo m z < m
modulo_small m (pos n) some = omega (arith, some)
modulo_small m (negsuc n) some = omega (arith, some)

pub immediate_small : (z : ℤ) → immediate z < 2 ^ 12
immediate_small (pos n) = omega arith
immediate_small (negsuc n) = omega arith

pub upper_small : (z : ℤ) → upper z < 2 ^ 20
upper_small z = omega arith

jump_small : (z : ℤ) → jump_field z < 2 ^ 20
jump_small (pos n) = omega arith
jump_small (negsuc n) = omega arith

-- the instruction of a piece that fits has its fields in their ranges
pub placed_fits : (places : Places) (here : ℕ) (x : Piece) → PieceFits x → IsInRange (form_of (placed places here x))
placed_fits places here (instruction i) h = h
placed_fits places here (jump_to l) h = (omega arith, jump_small (pos (places.label l) -ℤ pos here))
placed_fits places here (upper_part rd t) h = (h, upper_small (distance places here t))
placed_fits places here (add_rest rd t) h = (h, h, immediate_small (distance places (here - 1) t))
placed_fits places here (load_rest rd t) h = (h, h, immediate_small (distance places (here - 1) t))
placed_fits places here (store_rest value base t) h = (h.1, h.0, immediate_small (distance places (here - 1) t))
placed_fits places here (jump_rest link base t) h = (h.0, h.1, immediate_small (distance places (here - 1) t))

-- where a piece stands at the pc a step does what it says
pub piece_done : (g : Ground) (here : ℕ) (x : Piece) (s : State) → PieceAt s.memory g here x → s.pc ≡ address g here → step_of s ≡ done (placed g.places here x) s
piece_done g here x s h at =
    fetches s (placed g.places here x) (ap (λ a. a % 4) at ∙ h.word.aligned)
    (ap (fetched s.memory) at ∙ word_fetched s.memory (address g here) (word_of (placed g.places here x)) h.word) (placed_fits g.places here x h.fits)

-- pieces that stand one behind the other
pub pieces_split : (memory : List Part) (g : Ground) (here : ℕ) (xs ys : List Piece) → PiecesAt memory g here (xs ++ ys) → PiecesAt memory g here xs × PiecesAt memory g (here + length xs) ys
pieces_split memory g here [] ys h = (tt, subst (λ n. PiecesAt memory g n ys) (omega arith) h)
pieces_split memory g here (x ∷ xs) ys h =
    let rest = pieces_split memory g (here + 1) xs ys h.1 in
    ((h.0, rest.0), subst (λ n. PiecesAt memory g n ys) (omega arith) rest.1)

-- code stays where memory is written
pub pieces_still : (old new : List Part) (g : Ground) (here : ℕ) (xs : List Piece) → Written old new → PiecesAt old g here xs → PiecesAt new g here xs
pieces_still old new g here [] w h = tt
pieces_still old new g here (x ∷ xs) w h =
    (record { inside = h.0.inside; fits = h.0.fits; word = word_still old new (address g here) (word_of (placed g.places here x)) w h.0.word }, pieces_still old new g (here + 1) xs w h.1)

pub words_are_fetched : WordsAreFetched
words_are_fetched = record { fields = placed_fits; step = piece_done }
