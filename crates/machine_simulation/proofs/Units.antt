-- A unit stands where its words do.
use Rattle.std.proofs.Common.{◌≡◌, ◌∙◌, refl, sym, ap, subst, arith, ℕ, zero, suc, ◌+◌, ◌*◌, ◌<◌, ◌≤◌, ◌^◌, List, [], ◌∷◌, ◌++◌, length, take, drop, Option, Some, None}
use Rattle.std.specs.Prelude.{slice_get, unwrap_or}
use Rattle.std.specs.List.{AllByRecursion}
use Rattle.rv64_isa.specs.State.{Part}
use Rattle.rv64_isa.specs.Listing.{word_of}
use Rattle.linear_forms.specs.Linear.{FunctionCode, LinearOp}
use Rattle.linear_forms.specs.UnitRun.{no_code}
use Rattle.machine_forms.specs.Bounds.{LinearFits}
use Rattle.machine_forms.specs.Piece.{Piece, placed, words_from}
use Rattle.machine_forms.specs.Routine.{Routine, routine_words, all_words}
use Rattle.machine_forms.specs.StubCode.{stub_words}
use Rattle.machine_forms.specs.Emitted.{unit_words, unit_routines, function_first, emitted_stubs, function_routine}
use Rattle.machine_forms.proofs.Words.{words_stand}
use Rattle.machine_pieces.specs.Memory.{WordAt}
use Rattle.machine_pieces.specs.Standing.{Ground, address, PieceFits, PiecesAt, WordsAt}
use Rattle.machine_pieces.specs.UnitAt.{routine_pieces}
use Rattle.machine_stubs.specs.Words.{StubsStand}
use Rattle.machine_simulation.specs.Plan.{Plan, function, routine, first_word, setting}
use Rattle.machine_simulation.specs.Matches.{FrameIs}
use Rattle.machine_simulation.specs.Units.{UnitsStand}
use Rattle.machine_simulation.proofs.Words.{get_map, pieces_length}
use Rattle.machine_simulation.proofs.Fields.{pieces_fit}

pieces_stand : (memory : List Part) (g : Ground) (here : ℕ) (xs : List Piece) → AllByRecursion PieceFits xs → here + length xs ≤ g.words →
    ((i : ℕ) (word : ℕ) → slice_get (words_from g.places here xs) i ≡ Some word → WordAt memory (address g (here + i)) word) → PiecesAt memory g here xs
pieces_stand memory g here [] fits inside words = tt
pieces_stand memory g here (x ∷ xs) fits inside words = (
  record {
    inside = omega (arith, inside);
    fits = fits.0;
    word = subst (λ n. WordAt memory (address g n) (word_of (placed g.places here x))) (omega arith) (words 0 (word_of (placed g.places here x)) refl);
  },
  pieces_stand memory g (here + 1) xs fits.1 (omega (arith, inside)) (λ i word e. subst (λ n. WordAt memory (address g n) word) (omega arith) (words (suc i) word e)),
)

-- ---- items of lists

get_left : (xs ys : List ℕ) (i w : ℕ) → slice_get xs i ≡ Some w → slice_get (xs ++ ys) i ≡ Some w
get_left [] ys i w e = absurd (cc e)
get_left (x ∷ xs) ys zero w e = e
get_left (x ∷ xs) ys (suc i) w e = get_left xs ys i w e

get_right : (xs ys : List ℕ) (i j w : ℕ) → j ≡ length xs + i → slice_get ys i ≡ Some w → slice_get (xs ++ ys) j ≡ Some w
get_right [] ys i j w at e = let same : j ≡ i = omega (arith, at) in ap (slice_get ys) same ∙ e
get_right (x ∷ xs) ys i zero w at e = absurd (omega (arith, at))
get_right (x ∷ xs) ys i (suc j) w at e = get_right xs ys i j w (omega (arith, at)) e

get_taken : (n : ℕ) (xs : List ℕ) (i w : ℕ) → slice_get (take n xs) i ≡ Some w → slice_get xs i ≡ Some w
get_taken zero xs i w e = absurd (cc e)
get_taken (suc n) [] i w e = absurd (cc e)
get_taken (suc n) (x ∷ xs) zero w e = e
get_taken (suc n) (x ∷ xs) (suc i) w e = get_taken n xs i w e

get_dropped : (n : ℕ) (xs : List ℕ) (i j w : ℕ) → j ≡ n + i → slice_get (drop n xs) i ≡ Some w → slice_get xs j ≡ Some w
get_dropped zero xs i j w at e = let same : j ≡ i = omega (arith, at) in ap (slice_get xs) same ∙ e
get_dropped (suc n) [] i j w at e = absurd (cc e)
get_dropped (suc n) (x ∷ xs) i zero w at e = absurd (omega (arith, at))
get_dropped (suc n) (x ∷ xs) i (suc j) w at e = get_dropped n xs i j w (omega (arith, at)) e

words_before : (rs : List Routine) (n : ℕ) (r : Routine) → slice_get rs n ≡ Some r → all_words (take n rs) + routine_words r ≤ all_words rs
words_before [] n r e = absurd (cc e)
words_before (x ∷ rs) zero r e = let same : x ≡ r = cc e in omega (arith, ap routine_words same)
words_before (x ∷ rs) (suc n) r e = omega (arith, words_before rs n r e)

there : (gs : List FunctionCode) (n : ℕ) → n < length gs → slice_get gs n ≡ Some (unwrap_or (slice_get gs n) no_code)
there [] n inside = absurd (omega (arith, inside))
there (g ∷ gs) zero inside = refl
there (g ∷ gs) (suc n) inside = there gs n (omega (arith, inside))

each : {A : Type 0} (P : A → Type 0) (xs : List A) (n : ℕ) (a : A) → AllByRecursion P xs → slice_get xs n ≡ Some a → P a
each P [] n a h e = absurd (cc e)
each P (x ∷ xs) zero a h e = let same : x ≡ a = cc e in subst P same h.0
each P (x ∷ xs) (suc n) a h e = each P xs n a h.1 e

-- ---- a unit

stub_length : length emitted_stubs.code ≡ stub_words
stub_length = refl

function_stands : (p : Plan) (memory : List Part) (n : ℕ) → n < length p.unit.functions → routine_words (routine p n) < 2 ^ 18 → WordsAt memory p.base (emitted_stubs.code ++ unit_words p.unit) →
    PiecesAt memory (setting p n).ground (first_word p n) (routine_pieces (routine p n))
function_stands p memory n known short words =
    let r : Routine = routine p n in
    let first : ℕ = function_first p.unit n in
    let got : slice_get (unit_routines p.unit) n ≡ Some r = get_map function_routine p.unit.functions n (function p n) (there p.unit.functions n known) in
    let all = words_stand.function p.unit n r got in
    pieces_stand memory (setting p n).ground (stub_words + first) (routine_pieces r) (pieces_fit.function (function p n) short) (omega (arith, pieces_length r, words_before (unit_routines p.unit) n r got))
    (λ i word e. subst (λ k. WordAt memory (p.base + 4 * k) word) (omega arith)
    (words (stub_words + (first + i)) word (get_right emitted_stubs.code (unit_words p.unit) (first + i) (stub_words + (first + i)) word (ap (λ k. k + (first + i)) (sym stub_length))
    (get_dropped first (unit_words p.unit) i (first + i) word refl (get_taken (routine_words r) (drop first (unit_words p.unit)) i word (ap (λ ws. slice_get ws i) all ∙ e))))))

registers_by : (p : Plan) (n place : ℕ) (o : LinearOp) → AllByRecursion (λ g. AllByRecursion LinearFits g.ops) p.unit.functions → slice_get (function p n).ops place ≡ Some o → LinearFits o
registers_by p n place o h e = by (slice_get p.unit.functions n) refl
  where
    by : (g : Option FunctionCode) → slice_get p.unit.functions n ≡ g → LinearFits o
    by None is =
        let none : slice_get (unwrap_or (slice_get p.unit.functions n) no_code).ops place ≡ slice_get no_code.ops place = ap (λ g. slice_get (unwrap_or g no_code).ops place) is in
        let both : None ≡ Some o = sym none ∙ e in
        absurd (cc both)
    by (Some g) is =
        let ops : slice_get g.ops place ≡ Some o = sym (ap (λ g. slice_get (unwrap_or g no_code).ops place) is) ∙ e in
        each LinearFits g.ops place o (each (λ (f : FunctionCode). AllByRecursion LinearFits f.ops) p.unit.functions n g h is) ops

pub units_stand : StubsStand → UnitsStand
units_stand stubs_stand p memory few short frames registers words = record {
  few = few;
  short = λ n known. each (λ (g : FunctionCode). routine_words (function_routine g) < 2 ^ 18) p.unit.functions n (function p n) short (there p.unit.functions n known);
  frames = λ n known. each FrameIs p.unit.functions n (function p n) frames (there p.unit.functions n known);
  registers = λ n place o e. registers_by p n place o registers e;
  stubs = stubs_stand p.unit p.base memory words;
  functions = λ n known. function_stands p memory n known (each (λ (g : FunctionCode). routine_words (function_routine g) < 2 ^ 18) p.unit.functions n (function p n) short (there p.unit.functions n known)) words;
}
