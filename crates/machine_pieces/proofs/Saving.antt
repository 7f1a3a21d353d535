-- Registers are saved in slots, and parameters taken from there.
use Rattle.std.proofs.Common.{◌≡◌, ◌≢◌, ◌∙◌, refl, sym, ap, subst, arith, ℕ, ◌+◌, ◌%◌, ◌^◌, ◌<◌, ◌≤◌, ℤ, pos, List, [], ◌∷◌, ◌++◌, map, take, length, length-append, Bool, true, false}
use Rattle.std.specs.Prelude.{⊤, nat_lt, if◌then◌else◌}
use Rattle.std.proofs.lemmas.Bool.{eq-eqb}
use Rattle.rv64_isa.specs.declared.step.Step.TheVariants.{Done}
use Rattle.rv64_isa.specs.declared.instr.Instr.TheVariants.{Lw, Sd, Addi}
use Rattle.rv64_isa.specs.Arithmetic.{sign_extended, add}
use Rattle.rv64_isa.specs.State.{State, Part, state, with_reg, with_value}
use Rattle.rv64_isa.specs.Step.{step_of, done, imm12, x, sets, loads, stores}
use Rattle.machine_forms.specs.Immediate.{immediate}
use Rattle.machine_forms.specs.Registers.{sp, t0, saved_registers}
use Rattle.machine_forms.specs.Piece.{Piece, instruction}
use Rattle.machine_forms.specs.Shape.{Shape, slot_offset}
use Rattle.machine_forms.specs.KeptCode.{saves}
use Rattle.machine_pieces.specs.Memory.{Holds, MayWrite, Written, Apart}
use Rattle.machine_pieces.specs.Numbers.{extended, int_bits}
use Rattle.machine_pieces.specs.Standing.{Ground, address, PieceAt, PiecesAt}
use Rattle.machine_pieces.specs.Executes.{Executes}
use Rattle.machine_pieces.specs.Frames.{IntAt}
use Rattle.machine_pieces.specs.Keeping.{saved_of, AreSmall}
use Rattle.machine_pieces.specs.Saving.{SavedAt, IsOut, AreApartFrom, MaySave, begun, Saves}
use Rattle.machine_pieces.proofs.Storing.{loads_done, stores_done, holds_apart, eight_stored, written_none, written_more, value_written, may_still}
use Rattle.machine_pieces.proofs.Fetching.{piece_done, pieces_split, pieces_still}
use Rattle.machine_pieces.proofs.Stepping.{no_steps, one_step, step_then, steps_then}
use Rattle.machine_pieces.proofs.Numbers.{int_loaded, extended_below}
use Rattle.machine_pieces.proofs.Registers.{set_length, read_same, read_other}
use Rattle.machine_pieces.proofs.Going.{next_is}
use Rattle.machine_pieces.proofs.Places.{near_address}
use Rattle.machine_pieces.proofs.Restoring.{AreApart, ten_apart}

-- ---- what the words do

lw_done : (rd rs imm : ℕ) (s : State) → done (Lw rd rs imm) s ≡ loads s 4 (λ n. sign_extended 32 n) rd (add (x s rs) (imm12 imm))
unfolding done
lw_done rd rs imm s = refl

sd_done : (base value imm : ℕ) (s : State) → done (Sd base value imm) s ≡ stores s 8 (add (x s base) (imm12 imm)) (x s value)
unfolding done
sd_done base value imm s = refl

addi_done : (rd rs imm : ℕ) (s : State) → done (Addi rd rs imm) s ≡ sets s rd (add (x s rs) (imm12 imm))
unfolding done
addi_done rd rs imm s = refl

with_none : (a : ℕ) → a < 2 ^ 64 → add a (imm12 0) ≡ a
with_none a below = omega (arith, below)

int_taken : (g : Ground) (here offset : ℕ) (z : ℤ) (s : State) → PieceAt s.memory g here (instruction (Lw t0 sp (immediate (pos offset)))) → s.pc ≡ address g here → offset < 2 ^ 11 → x s sp + offset < 2 ^ 64 → IntAt s.memory (x s sp + offset) z →
    step_of s ≡ (Done, state (address g (here + 1)) (with_reg s.regs t0 (extended z)) s.memory)
int_taken g here offset z s h at near below there =
    piece_done g here (instruction (Lw t0 sp (immediate (pos offset)))) s h at ∙ lw_done t0 sp (immediate (pos offset)) s
    ∙ ap (loads s 4 (λ n. sign_extended 32 n) t0) (near_address (x s sp) offset near below)
    ∙ loads_done s 4 (λ n. sign_extended 32 n) t0 (x s sp + offset) (int_bits z) (eq-eqb ((x s sp + offset) % 4) 0 there.aligned) there.holds
    ∙ ap (sets s t0) (int_loaded z there.int)
    ∙ ap (λ pc. (Done, state pc (with_reg s.regs t0 (extended z)) s.memory)) (next_is g here (instruction (Lw t0 sp (immediate (pos offset)))) s h at)

register_stored : (g : Ground) (here r offset : ℕ) (s : State) → PieceAt s.memory g here (instruction (Sd sp r (immediate (pos offset)))) → s.pc ≡ address g here → offset < 2 ^ 11 → x s sp + offset < 2 ^ 64 → (x s sp + offset) % 8 ≡ 0 →
    MayWrite s.memory (x s sp + offset) 8 → step_of s ≡ (Done, state (address g (here + 1)) s.regs (with_value s.memory (x s sp + offset) 8 (x s r)))
register_stored g here r offset s h at near below aligned may =
    piece_done g here (instruction (Sd sp r (immediate (pos offset)))) s h at ∙ sd_done sp r (immediate (pos offset)) s
    ∙ ap (λ a. stores s 8 a (x s r)) (near_address (x s sp) offset near below)
    ∙ stores_done s 8 (x s sp + offset) (x s r) (eq-eqb ((x s sp + offset) % 8) 0 aligned) may
    ∙ ap (λ pc. (Done, state pc s.regs (with_value s.memory (x s sp + offset) 8 (x s r)))) (next_is g here (instruction (Sd sp r (immediate (pos offset)))) s h at)

moved_to : (g : Ground) (here r value : ℕ) (s : State) → PieceAt s.memory g here (instruction (Addi r t0 0)) → s.pc ≡ address g here → x s t0 ≡ value → value < 2 ^ 64 →
    step_of s ≡ (Done, state (address g (here + 1)) (with_reg s.regs r value) s.memory)
moved_to g here r value s h at is below =
    piece_done g here (instruction (Addi r t0 0)) s h at ∙ addi_done r t0 0 s ∙ ap (λ v. sets s r (add v (imm12 0))) is ∙ ap (sets s r) (with_none value below)
    ∙ ap (λ pc. (Done, state pc (with_reg s.regs r value) s.memory)) (next_is g here (instruction (Addi r t0 0)) s h at)

-- ---- one variable

pub record One (g : Ground) (here words r place value : ℕ) (s : State) : Type 0 where
  pub after : State
  pub runs : Executes words s after
  pub pc : after.pc ≡ address g (here + words)
  pub registers : length after.regs ≡ 32
  pub memory : after.memory ≡ with_value s.memory place 8 (x s r)
  pub is : x after r ≡ value
  pub kept : (q : ℕ) → q ≢ t0 → q ≢ r → x after q ≡ x s q

abbrev one_words : Bool → (offset r : ℕ) → List Piece
one_words b offset r =
    if b then instruction (Lw t0 sp (immediate (pos offset))) ∷ instruction (Sd sp r (immediate (pos offset))) ∷ instruction (Addi r t0 0) ∷ []
    else instruction (Sd sp r (immediate (pos offset))) ∷ []

one_runs : (g : Ground) (here r offset : ℕ) (b : Bool) (z : ℤ) (s : State) → r ≢ 0 → r ≢ t0 → r < 32 → PiecesAt s.memory g here (one_words b offset r) → s.pc ≡ address g here → length s.regs ≡ 32 → offset < 2 ^ 11 →
    x s sp + offset < 2 ^ 64 → (x s sp + offset) % 8 ≡ 0 → MayWrite s.memory (x s sp + offset) 8 → (b ≡ true → IntAt s.memory (x s sp + offset) z) →
    One g here (length (one_words b offset r)) r (x s sp + offset) (if b then extended z else x s r) s
one_runs g here r offset false z s some other low code at many near below aligned may int =
    let place = x s sp + offset in
    let t : State = state (address g (here + 1)) s.regs (with_value s.memory place 8 (x s r)) in
    record {
      after = t;
      runs = one_step s t (register_stored g here r offset s code.0 at near below aligned may);
      pc = refl;
      registers = many;
      memory = refl;
      is = refl;
      kept = λ q a b. refl;
    }
one_runs g here r offset true z s some other low code at many near below aligned may int =
    let place = x s sp + offset in
    let there = int refl in
    let t : State = state (address g (here + 1)) (with_reg s.regs t0 (extended z)) s.memory in
    let first = int_taken g here offset z s code.0 at near below there in
    let pointer : x t sp ≡ x s sp = read_other s.regs t0 sp (extended z) (λ e. omega (arith, e)) in
    let same : x t r ≡ x s r = read_other s.regs t0 r (extended z) other in
    let u : State = state (address g (here + 1 + 1)) t.regs (with_value s.memory place 8 (x s r)) in
    let stored = register_stored g (here + 1) r offset t code.1.0 refl near (omega (arith, pointer, below)) (ap (λ p. (p + offset) % 8) pointer ∙ aligned) (subst (λ p. MayWrite s.memory (p + offset) 8) (sym pointer) may) in
    let second : step_of t ≡ (Done, u)
    = stored ∙ ap (λ p. (Done, state (address g (here + 1 + 1)) t.regs (with_value s.memory (p + offset) 8 (x t r)))) pointer ∙ ap (λ v. (Done, state (address g (here + 1 + 1)) t.regs (with_value s.memory place 8 v))) same in
    let w = value_written s.memory place 8 (x s r) may in
    let rest = pieces_still s.memory u.memory g (here + 1 + 1) (instruction (Addi r t0 0) ∷ []) w code.1.1 in
    let taken : x u t0 ≡ extended z = read_same s.regs t0 (extended z) (λ e. omega (arith, e)) (omega (arith, many)) in
    let v : State = state (address g (here + 1 + 1 + 1)) (with_reg u.regs r (extended z)) u.memory in
    let third = moved_to g (here + 1 + 1) r (extended z) u rest.0 refl taken (extended_below z there.int) in
    let room : length u.regs ≡ 32 = set_length s.regs t0 (extended z) ∙ many in
    record {
      after = v;
      runs = step_then 2 s t v first (step_then 1 t u v second (one_step u v third));
      pc = omega arith;
      registers = set_length u.regs r (extended z) ∙ room;
      memory = refl;
      is = read_same u.regs r (extended z) some (omega (arith, low, room));
      kept = λ q not_t0 not_r. read_other u.regs r q (extended z) not_r ∙ read_other s.regs t0 q (extended z) not_t0;
    }

-- ---- all of them

-- registers apart from t0
abbrev pub AreNotT0 : List ℕ → Type 0
AreNotT0 [] = ⊤
AreNotT0 (r ∷ rs) = (r ≢ t0) × AreNotT0 rs

others_same : (rs : List ℕ) (s t : State) (r : ℕ) → IsOut r rs → AreNotT0 rs → ((q : ℕ) → q ≢ t0 → q ≢ r → x t q ≡ x s q) → map (x t) rs ≡ map (x s) rs
others_same [] s t r out apart h = refl
others_same (q ∷ rs) s t r out apart h =
    ap (λ a. a ∷ map (x t) rs) (h q apart.0 (λ e. out.0 (sym e))) ∙ ap (λ l. x s q ∷ l) (others_same rs s t r out.1 apart.1 h)

turned : (f : Shape) (stack a n : ℕ) (ks : List ℕ) (k : ℕ) → AreApartFrom f stack a n (k ∷ ks) → AreApartFrom f stack a n ks
turned f stack a n ks k h = h.1

int_kept : (memory : List Part) (place value a : ℕ) (z : ℤ) → Apart place 8 a 8 → IntAt memory a z → IntAt (with_value memory place 8 value) a z
int_kept memory place value a z out h =
    record { int = h.int; aligned = h.aligned; below = h.below; holds = holds_apart memory place 8 value a 4 (int_bits z) (λ i j hi hj e. out i j hi (omega (arith, hj)) e) h.holds }

other_way : (a n b k : ℕ) → Apart a n b k → Apart b k a n
other_way a n b k h i j hi hj e = h j i hj hi (sym e)

-- what may be saved still may where another was saved
may_save : (f : Shape) (memory : List Part) (parameters stack place value : ℕ) (ks : List ℕ) (zs : List ℤ) → MayWrite memory place 8 → AreApartFrom f stack place 8 ks → MaySave f memory parameters stack ks zs →
    MaySave f (with_value memory place 8 value) parameters stack ks zs
may_save f memory parameters stack place value [] [] may out h = tt
may_save f memory parameters stack place value [] (z ∷ zs) may out h = absurd h
may_save f memory parameters stack place value (k ∷ ks) [] may out h = absurd h
may_save f memory parameters stack place value (k ∷ ks) (z ∷ zs) may out h = (
  h.0,
  h.1,
  h.2,
  may_still memory (with_value memory place 8 value) (stack + slot_offset f k) 8 (value_written memory place 8 value may) h.3,
  λ e. int_kept memory place value (stack + slot_offset f k) z (other_way (stack + slot_offset f k) 8 place 8 out.0) (h.4 e),
  h.5,
  may_save f memory parameters stack place value ks zs may out.1 h.6,
)

pub record All (g : Ground) (here words : ℕ) (f : Shape) (parameters : ℕ) (rs ks : List ℕ) (zs : List ℤ) (s : State) : Type 0 where
  pub after : State
  pub runs : Executes words s after
  pub pc : after.pc ≡ address g (here + words)
  pub registers : length after.regs ≡ 32
  pub written : Written s.memory after.memory
  pub there : SavedAt f after.memory (x s sp) ks (take (length ks) (map (x s) rs))
  pub begins : map (x after) rs ≡ begun parameters ks zs (map (x s) rs)
  pub others : (a n v : ℕ) → AreApartFrom f (x s sp) a n ks → Holds s.memory a n v → Holds after.memory a n v
  pub kept : (r : ℕ) → r ≢ t0 → IsOut r rs → x after r ≡ x s r

none_saved : (g : Ground) (here : ℕ) (f : Shape) (parameters : ℕ) (rs : List ℕ) (s : State) → s.pc ≡ address g here → length s.regs ≡ 32 → All g here 0 f parameters rs [] [] s
none_saved g here f parameters rs s at many = record {
  after = s;
  runs = no_steps s;
  pc = omega (arith, at);
  registers = many;
  written = written_none s.memory;
  there = tt;
  begins = refl;
  others = λ a n v out h. h;
  kept = λ r a b. refl;
}

words_run : (g : Ground) (here : ℕ) (f : Shape) (parameters : ℕ) (rs ks : List ℕ) (zs : List ℤ) (s : State) → AreApart rs → AreNotT0 rs → MaySave f s.memory parameters (x s sp) ks zs → AreSmall (map (x s) rs) →
    PiecesAt s.memory g here (saves f parameters rs ks) → s.pc ≡ address g here → length s.regs ≡ 32 → length ks ≤ length rs → All g here (length (saves f parameters rs ks)) f parameters rs ks zs s
words_run g here f parameters [] [] [] s apart not_t0 may small code at many le = none_saved g here f parameters [] s at many
words_run g here f parameters [] [] (z ∷ zs) s apart not_t0 may small code at many le = absurd may
words_run g here f parameters [] (k ∷ ks) zs s apart not_t0 may small code at many le = absurd (omega (arith, le))
words_run g here f parameters (r ∷ rs) [] [] s apart not_t0 may small code at many le = none_saved g here f parameters (r ∷ rs) s at many
words_run g here f parameters (r ∷ rs) [] (z ∷ zs) s apart not_t0 may small code at many le = absurd may
words_run g here f parameters (r ∷ rs) (k ∷ ks) [] s apart not_t0 may small code at many le = absurd may
words_run g here f parameters (r ∷ rs) (k ∷ ks) (z ∷ zs) s apart not_t0 may small code at many le =
    let offset = slot_offset f k in
    let place = x s sp + offset in
    let b = nat_lt k parameters in
    let words = one_words b offset r in
    let parts = pieces_split s.memory g here words (saves f parameters rs ks) code in
    let one = one_runs g here r offset b z s apart.0 not_t0.0 apart.2 parts.0 at many may.0 (omega (arith, may.2)) may.1 may.3 may.4 in
    let t = one.after in
    let w : Written s.memory t.memory = subst (Written s.memory) (sym one.memory) (value_written s.memory place 8 (x s r) may.3) in
    let pointer : x t sp ≡ x s sp = one.kept sp (λ e. omega (arith, e)) (λ e. apart.1 (sym e)) in
    let same : map (x t) rs ≡ map (x s) rs = others_same rs s t r apart.3 not_t0.1 one.kept in
    let next_may : MaySave f t.memory parameters (x t sp) ks zs
    = subst (λ p. MaySave f t.memory parameters p ks zs) (sym pointer) (subst (λ m. MaySave f m parameters (x s sp) ks zs) (sym one.memory) (may_save f s.memory parameters (x s sp) place (x s r) ks zs may.3 may.5 may.6)) in
    let rest = words_run g (here + length words) f parameters rs ks zs t apart.4 not_t0.1 next_may (subst AreSmall (sym same) small.1)
    (pieces_still s.memory t.memory g (here + length words) (saves f parameters rs ks) w parts.1) one.pc one.registers (omega (arith, le)) in
    let u = rest.after in
    let n = length words in
    let m = length (saves f parameters rs ks) in
    let count : n + m ≡ length (words ++ saves f parameters rs ks) = omega (arith, length-append words (saves f parameters rs ks)) in
    let mine : Holds t.memory place 8 (x s r)
    = subst (λ q. Holds q place 8 (x s r)) (sym one.memory) (subst (Holds (with_value s.memory place 8 (x s r)) place 8) (omega (arith, small.0)) (eight_stored s.memory place (x s r) may.3)) in
    let stays : Holds u.memory place 8 (x s r) = rest.others place 8 (x s r) (subst (λ p. AreApartFrom f p place 8 ks) (sym pointer) may.5) mine in
    record {
      after = u;
      runs = subst (λ c. Executes c s u) count (steps_then n m s t u one.runs rest.runs);
      pc = rest.pc ∙ omega (arith, count);
      registers = rest.registers;
      written = written_more s.memory t.memory u.memory w rest.written;
      there = (
        record { aligned = may.1; below = omega (arith, may.2); holds = stays },
        subst (λ p. SavedAt f u.memory p ks (take (length ks) (map (x s) rs))) pointer (subst (λ l. SavedAt f u.memory (x t sp) ks (take (length ks) l)) same rest.there),
      );
      begins =
          ap (λ a. a ∷ map (x u) rs) (rest.kept r not_t0.0 apart.3 ∙ one.is) ∙ ap (λ l. (if b then extended z else x s r) ∷ l) (rest.begins ∙ ap (begun parameters ks zs) same);
      others = λ a j v out h. rest.others a j v (subst (λ p. AreApartFrom f p a j ks) (sym pointer) out.1) (subst (λ q. Holds q a j v) (sym one.memory) (holds_apart s.memory place 8 (x s r) a j v out.0 h));
      kept = λ q not out. rest.kept q not out.1 ∙ one.kept q not out.0;
    }

ten_not_t0 : AreNotT0 saved_registers
ten_not_t0 = (λ e. omega (arith, e), (λ e. omega (arith, e), (λ e. omega (arith, e), (λ e. omega (arith, e), (λ e. omega (arith, e), (λ e. omega (arith, e), (λ e. omega (arith, e), (λ e. omega (arith, e), (λ e. omega (arith, e), (λ e. omega (arith, e), tt))))))))))

pub registers_saved : (g : Ground) (here : ℕ) (f : Shape) (parameters : ℕ) (kept : List ℕ) (ints : List ℤ) (s : State) → length kept ≤ 10 → MaySave f s.memory parameters (x s sp) kept ints → AreSmall (saved_of s) →
    PiecesAt s.memory g here (saves f parameters saved_registers kept) → s.pc ≡ address g here → length s.regs ≡ 32 → Saves g here (length (saves f parameters saved_registers kept)) f parameters kept ints s
registers_saved g here f parameters kept ints s few may small code at many =
    let h = words_run g here f parameters saved_registers kept ints s ten_apart ten_not_t0 may small code at many (omega (arith, few)) in
    record {
      after = h.after;
      runs = h.runs;
      pc = h.pc;
      registers = h.registers;
      written = h.written;
      there = h.there;
      begins = h.begins;
      others = h.others;
      kept_registers = h.kept;
    }
