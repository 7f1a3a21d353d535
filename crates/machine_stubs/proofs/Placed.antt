-- The pieces of the runtime's own functions stand where their words do.
use Rattle.std.proofs.Common.{◌≡◌, ◌∙◌, refl, sym, ap, subst, arith, ℕ, zero, suc, ◌+◌, ◌<◌, ◌≤◌, ◌^◌, true, List, [], ◌∷◌, ◌++◌, length, take, drop, Some}
use Rattle.std.specs.Prelude.{Bool, nat_lt, ◌&&◌, slice_get}
use Rattle.std.specs.List.{list_all, AllByRecursion}
use Rattle.std.proofs.lemmas.Bool.{and_parts, ltb-true}
use Rattle.rv64_isa.specs.Format.{Format, R, Shift, I, S, B, U, J, IsInRange}
use Rattle.rv64_isa.specs.State.{Part}
use Rattle.rv64_isa.specs.Listing.{form_of, word_of}
use Rattle.linear_forms.specs.Linear.{UnitCode}
use Rattle.linear_forms.specs.Stub.{terminating, end_catch, call_unexpected}
use Rattle.machine_forms.specs.Piece.{Piece, instruction, jump_to, upper_part, add_rest, load_rest, store_rest, jump_rest, placed, words_from}
use Rattle.machine_forms.specs.Routine.{Routine, routine_code}
use Rattle.machine_forms.specs.StubCode.{start_routine, stub_routine, stub_words}
use Rattle.machine_forms.specs.Emitted.{unit_words, emitted_stubs, stub_target}
use Rattle.machine_pieces.specs.Memory.{WordAt}
use Rattle.machine_pieces.specs.Standing.{Ground, address, PieceFits, PiecesAt, WordsAt}
use Rattle.machine_pieces.specs.UnitAt.{routine_ground, routine_pieces}
use Rattle.machine_stubs.specs.Words.{StubsStand}

pieces_stand : (memory : List Part) (g : Ground) (here : ℕ) (xs : List Piece) → AllByRecursion PieceFits xs → here + length xs ≤ g.words →
    ((i : ℕ) (word : ℕ) → slice_get (words_from g.places here xs) i ≡ Some word → WordAt memory (address g (here + i)) word) → PiecesAt memory g here xs
pieces_stand memory g here [] fits inside words = tt
pieces_stand memory g here (x ∷ xs) fits inside words = (
  record {
    inside = omega (arith, inside);
    fits = fits.0;
    word = subst (λ n. WordAt memory (address g n) (word_of (placed g.places here x))) (omega arith) (words 0 (word_of (placed g.places here x)) refl);
  },
  pieces_stand memory g (here + 1) xs fits.1 (omega (arith, inside)) (λ i word e. subst (λ n. WordAt memory (address g n) word) (omega arith) (words (suc i) word e)),
)

get_left : (xs ys : List ℕ) (i w : ℕ) → slice_get xs i ≡ Some w → slice_get (xs ++ ys) i ≡ Some w
get_left [] ys i w e = absurd (cc e)
get_left (x ∷ xs) ys zero w e = e
get_left (x ∷ xs) ys (suc i) w e = get_left xs ys i w e

get_right : (xs ys : List ℕ) (i j w : ℕ) → j ≡ length xs + i → slice_get ys i ≡ Some w → slice_get (xs ++ ys) j ≡ Some w
get_right [] ys i j w at e = let same : j ≡ i = omega (arith, at) in ap (slice_get ys) same ∙ e
get_right (x ∷ xs) ys i zero w at e = absurd (omega (arith, at))
get_right (x ∷ xs) ys i (suc j) w at e = get_right xs ys i j w (omega (arith, at)) e

-- ---- the fields of instructions are in their ranges, which a test tells

fits_test : Format → Bool
fits_test (R opcode funct3 funct7 rd rs1 rs2) = nat_lt rd 32 && (nat_lt rs1 32 && nat_lt rs2 32)
fits_test (Shift opcode funct3 funct6 rd rs1 shamt) = nat_lt rd 32 && (nat_lt rs1 32 && nat_lt shamt 64)
fits_test (I opcode funct3 rd rs1 imm) = nat_lt rd 32 && (nat_lt rs1 32 && nat_lt imm (2 ^ 12))
fits_test (S opcode funct3 rs1 rs2 imm) = nat_lt rs1 32 && (nat_lt rs2 32 && nat_lt imm (2 ^ 12))
fits_test (B opcode funct3 rs1 rs2 offset) = nat_lt rs1 32 && (nat_lt rs2 32 && nat_lt offset (2 ^ 12))
fits_test (U opcode rd imm) = nat_lt rd 32 && nat_lt imm (2 ^ 20)
fits_test (J opcode rd offset) = nat_lt rd 32 && nat_lt offset (2 ^ 20)

two_small : (a b m n : ℕ) → (nat_lt a m && nat_lt b n) ≡ true → (a < m) × (b < n)
two_small a b m n h = let both = and_parts (nat_lt a m) (nat_lt b n) h in (ltb-true a m both.0, ltb-true b n both.1)

three_small : (a b c l m n : ℕ) → (nat_lt a l && (nat_lt b m && nat_lt c n)) ≡ true → (a < l) × (b < m) × (c < n)
three_small a b c l m n h = let both = and_parts (nat_lt a l) (nat_lt b m && nat_lt c n) h in
    let rest = two_small b c m n both.1 in
    (ltb-true a l both.0, rest.0, rest.1)

in_range : (f : Format) → fits_test f ≡ true → IsInRange f
unfolding fits_test
in_range (R opcode funct3 funct7 rd rs1 rs2) h = three_small rd rs1 rs2 32 32 32 h
in_range (Shift opcode funct3 funct6 rd rs1 shamt) h = three_small rd rs1 shamt 32 32 64 h
in_range (I opcode funct3 rd rs1 imm) h = three_small rd rs1 imm 32 32 (2 ^ 12) h
in_range (S opcode funct3 rs1 rs2 imm) h = three_small rs1 rs2 imm 32 32 (2 ^ 12) h
in_range (B opcode funct3 rs1 rs2 offset) h = three_small rs1 rs2 offset 32 32 (2 ^ 12) h
in_range (U opcode rd imm) h = two_small rd imm 32 (2 ^ 20) h
in_range (J opcode rd offset) h = two_small rd offset 32 (2 ^ 20) h

piece_test : Piece → Bool
piece_test (instruction i) = fits_test (form_of i)
piece_test (jump_to l) = true
piece_test (upper_part rd t) = nat_lt rd 32
piece_test (add_rest rd t) = nat_lt rd 32
piece_test (load_rest rd t) = nat_lt rd 32
piece_test (store_rest value base t) = nat_lt value 32 && nat_lt base 32
piece_test (jump_rest link base t) = nat_lt link 32 && nat_lt base 32

piece_fits : (y : Piece) → piece_test y ≡ true → PieceFits y
unfolding piece_test
piece_fits (instruction i) h = in_range (form_of i) h
piece_fits (jump_to l) h = tt
piece_fits (upper_part rd t) h = ltb-true rd 32 h
piece_fits (add_rest rd t) h = ltb-true rd 32 h
piece_fits (load_rest rd t) h = ltb-true rd 32 h
piece_fits (store_rest value base t) h = two_small value base 32 32 h
piece_fits (jump_rest link base t) h = two_small link base 32 32 h

pieces_fit : (ys : List Piece) → list_all piece_test ys ≡ true → AllByRecursion PieceFits ys
pieces_fit [] h = tt
pieces_fit (y ∷ ys) h = let both = and_parts (piece_test y) (list_all piece_test ys) h in (piece_fits y both.0, pieces_fit ys both.1)

-- ---- one routine behind others

-- the words of a routine that stands behind so many words stand where those of the runtime's own functions do
routine_stands : (u : UnitCode) (base first : ℕ) (memory : List Part) (r : Routine) (front rear : List ℕ) → WordsAt memory base (emitted_stubs.code ++ unit_words u) →
    emitted_stubs.code ≡ front ++ (routine_code stub_target first r ++ rear) → length front ≡ first → list_all piece_test (routine_pieces r) ≡ true → first + length (routine_pieces r) ≤ stub_words →
    PiecesAt memory (routine_ground u base stub_target first r) first (routine_pieces r)
routine_stands u base first memory r front rear words is before fits inside =
    pieces_stand memory (routine_ground u base stub_target first r) first (routine_pieces r) (pieces_fit (routine_pieces r) fits) (omega (arith, inside))
    (λ i word e. words (first + i) word (get_left emitted_stubs.code (unit_words u) (first + i) word (ap (λ ws. slice_get ws (first + i)) is
    ∙ get_right front (routine_code stub_target first r ++ rear) i (first + i) word (ap (λ n. n + i) (sym before)) (get_left (routine_code stub_target first r) rear i word e))))

-- the words of those before, and of those behind
abbrev before : ℕ → List ℕ
before n = take n emitted_stubs.code

abbrev behind : ℕ → List ℕ
behind n = drop n emitted_stubs.code

pub stubs_stand : StubsStand
unfolding fits_test piece_test
stubs_stand u base memory words = record {
  start = routine_stands u base 0 memory start_routine (before 0) (behind 4) words refl refl refl (omega arith);
  terminate = routine_stands u base 4 memory (stub_routine terminating) (before 4) (behind 12) words refl refl refl (omega arith);
  end_catch = routine_stands u base 12 memory (stub_routine end_catch) (before 12) (behind 40) words refl refl refl (omega arith);
  call_unexpected = routine_stands u base 40 memory (stub_routine call_unexpected) (before 40) (behind 100) words refl refl refl (omega arith);
}
