-- Where the words of an operation stand, and where those of the next one and of a label do.
use Rattle.std.proofs.Common.{◌≡◌, ◌∙◌, refl, sym, ap, arith, ℕ, zero, suc, ◌+◌, ◌%◌, ◌^◌, ◌<◌, ◌≤◌, List, [], ◌∷◌, length, length-append, map, take, Some}
use Rattle.std.specs.Prelude.{slice_get}
use Rattle.rv64_isa.specs.State.{Part}
use Rattle.linear_forms.specs.Linear.{LinearOp}
use Rattle.machine_forms.specs.Piece.{Piece}
use Rattle.machine_forms.specs.Registers.{saved_registers}
use Rattle.machine_forms.specs.Shape.{Shape, frame_taken, stack_tested, prologue}
use Rattle.machine_forms.specs.KeptCode.{saves}
use Rattle.machine_forms.specs.LinearCode.{linear_code}
use Rattle.machine_forms.specs.Routine.{Routine, block_words, op_word, routine_words, routine_places}
use Rattle.machine_forms.specs.Emitted.{stub_target}
use Rattle.machine_forms.proofs.Words.{words_stand}
use Rattle.machine_pieces.specs.Standing.{Ground, address, PiecesAt}
use Rattle.machine_pieces.specs.UnitAt.{routine_pieces}
use Rattle.machine_pieces.proofs.Going.{pieces_end}
use Rattle.machine_pieces.proofs.Routines.{op_stands}
use Rattle.machine_simulation.specs.Plan.{Plan, function, shape, routine, first_word, setting}
use Rattle.machine_simulation.specs.Matches.{UnitStands}

pub get_map : {A B : Type 0} (f : A → B) (xs : List A) (n : ℕ) (a : A) → slice_get xs n ≡ Some a → slice_get (map f xs) n ≡ Some (f a)
get_map f [] n a e = absurd (cc e)
get_map f (b ∷ xs) zero a e = let same : b ≡ a = cc e in ap (λ c. Some (f c)) same
get_map f (b ∷ xs) (suc n) a e = get_map f xs n a e

words_taken : (blocks : List (List Piece)) (p : ℕ) (b : List Piece) → slice_get blocks p ≡ Some b → block_words (take (suc p) blocks) ≡ block_words (take p blocks) + length b
words_taken [] p b e = absurd (cc e)
words_taken (c ∷ blocks) zero b e = let same : c ≡ b = cc e in omega (arith, ap length same)
words_taken (c ∷ blocks) (suc p) b e = omega (arith, words_taken blocks p b e)

-- the next operation begins behind an operation
pub next_word : (r : Routine) (p : ℕ) (b : List Piece) → slice_get r.blocks p ≡ Some b → op_word r (p + 1) ≡ op_word r p + length b
next_word r p b e =
    let count : p + 1 ≡ suc p = omega arith in
    ap (op_word r) count ∙ omega (arith, words_taken r.blocks p b e)

-- an operation's pieces stand where it does, and are no more than those of its function
pub record OperationAt (p : Plan) (memory : List Part) (n place : ℕ) (pieces : List Piece) : Type 0 where
  pub code : PiecesAt memory (setting p n).ground (first_word p n + op_word (routine p n) place) pieces
  pub next : op_word (routine p n) (place + 1) ≡ op_word (routine p n) place + length pieces
  pub inside : op_word (routine p n) place + length pieces ≤ routine_words (routine p n)

pub operation_at : (p : Plan) (memory : List Part) (n place : ℕ) (o : LinearOp) → UnitStands p memory → n < length p.unit.functions → slice_get (function p n).ops place ≡ Some o →
    OperationAt p memory n place (linear_code (shape p n) o)
operation_at p memory n place o h known there =
    let r : Routine = routine p n in
    let block : slice_get r.blocks place ≡ Some (linear_code (shape p n) o) = get_map (linear_code (shape p n)) (function p n).ops place o there in
    let next = next_word r place (linear_code (shape p n) o) block in
    record {
      code = (op_stands memory (setting p n).ground (first_word p n) r place (linear_code (shape p n) o) (h.functions n known) block).1;
      next = next;
      inside = omega (arith, next, words_stand.inside r (place + 1));
    }

pub pieces_length : (r : Routine) → length (routine_pieces r) ≡ routine_words r
pieces_length r = sym (words_stand.pieces (routine_places (λ t. stub_target t) 0 r) 0 (routine_pieces r)) ∙ words_stand.routine (λ t. stub_target t) 0 r

end_below : (memory : List Part) (g : Ground) (here : ℕ) (xs : List Piece) → 0 < length xs → PiecesAt memory g here xs → address g (here + length xs) < 2 ^ 64
end_below memory g here [] some h = absurd (omega (arith, some))
end_below memory g here (y ∷ ys) some h = pieces_end memory g here y ys h

-- a function's beginning has words
pub prologue_some : (f : Shape) → 2 ≤ length (prologue f)
prologue_some f = omega (arith, length-append (frame_taken f) (stack_tested f.leaf))

pub front_words : (p : Plan) (n : ℕ) → op_word (routine p n) 0 ≡ length (prologue (shape p n)) + length (saves (shape p n) (function p n).parameters saved_registers (shape p n).kept)
front_words p n =
    let sum : length (routine p n).front ≡ length (prologue (shape p n)) + length (saves (shape p n) (function p n).parameters saved_registers (shape p n).kept)
    = length-append (prologue (shape p n)) (saves (shape p n) (function p n).parameters saved_registers (shape p n).kept) in
    let none : block_words (take 0 (routine p n).blocks) ≡ 0 = refl in
    omega (arith, sum, none)

front_some : (p : Plan) (n : ℕ) → 0 < routine_words (routine p n)
front_some p n = omega (arith, words_stand.inside (routine p n) 0, front_words p n, prologue_some (shape p n))

-- every place of a function is at an address
pub place_below : (p : Plan) (memory : List Part) (n place : ℕ) → UnitStands p memory → n < length p.unit.functions → address (setting p n).ground (first_word p n + op_word (routine p n) place) < 2 ^ 64
place_below p memory n place h known =
    let r : Routine = routine p n in
    let all = pieces_length r in
    let last = end_below memory (setting p n).ground (first_word p n) (routine_pieces r) (omega (arith, all, front)) (h.functions n known) in
    omega (arith, last, all, words_stand.inside r place)
  where
    front : 0 < routine_words (routine p n)
    front = omega (arith, front_some p n)

-- the first word of all stands at a multiple of 4
pub even_base : (p : Plan) (memory : List Part) → UnitStands p memory → p.base % 4 ≡ 0
even_base p memory h = omega (arith, h.stubs.start.0.word.aligned)

-- and so every word of a function's operation is at an address
pub word_below : (p : Plan) (memory : List Part) (n place : ℕ) (pieces : List Piece) → UnitStands p memory → n < length p.unit.functions → OperationAt p memory n place pieces →
    address (setting p n).ground (first_word p n + op_word (routine p n) place + length pieces) < 2 ^ 64
word_below p memory n place pieces h known own = omega (arith, place_below p memory n (place + 1) h known, own.next)
