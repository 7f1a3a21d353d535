-- A walk over the words of one of the runtime's own functions, word by word. The registers of each hart are a function, so that what
-- stands in one of them computes.
use Rattle.std.proofs.Common.{◌≡◌, ◌≢◌, ◌∙◌, refl, sym, ap, subst, arith, ℕ, ◌+◌, ◌-◌, ◌%◌, ◌^◌, ◌<◌, ◌≤◌, ◌==◌, true, false, List, [], length, inl, inr}
use Rattle.std.specs.Prelude.{◌⊎◌, if◌then◌else◌}
use Rattle.std.proofs.lemmas.Bool.{cond_both, eqb-true, eq-eqb}
use Rattle.std.proofs.lemmas.Bool.Decides.{nat_tests}
use Rattle.rv64_isa.specs.declared.step.Step.TheVariants.{Done}
use Rattle.rv64_isa.specs.declared.instr.Instr.TheVariants.{Ld, Sd, Addi}
use Rattle.rv64_isa.specs.Arithmetic.{add}
use Rattle.rv64_isa.specs.State.{State, Part, state, reg_of, with_reg, with_value}
use Rattle.rv64_isa.specs.Step.{step_of, sets, stores, x, imm12, done}
use Rattle.machine_forms.specs.Piece.{Piece, instruction, placed}
use Rattle.machine_pieces.specs.Executes.{Executes}
use Rattle.machine_pieces.specs.Memory.{Written, Holds, MayWrite}
use Rattle.machine_pieces.specs.Standing.{Ground, address, PieceAt}
use Rattle.machine_pieces.specs.Frames.{AddressAt}
use Rattle.machine_pieces.proofs.Storing.{nothing, written_none, written_more, may_still, value_written, word_still, stores_done, holds_apart, eight_stored}
use Rattle.machine_pieces.proofs.Fetching.{piece_done}
use Rattle.machine_pieces.proofs.Stepping.{no_steps, one_step, steps_then}
use Rattle.machine_pieces.proofs.Registers.{set_length, read_same, read_other}
use Rattle.machine_pieces.proofs.Going.{next_is}
use Rattle.machine_pieces.proofs.Places.{address_done}
use Rattle.machine_pieces.proofs.Framing.{set_state, sets_at, addi_done}
use Rattle.machine_stubs.specs.Stretches.{Room, Beside}

-- ---- memory beside a frame

pub beside_none : (low size : ℕ) (memory : List Part) → Beside low size memory memory
beside_none low size memory = record { written = written_none memory; others = λ b n v out h. h }

pub beside_store : (low size o value : ℕ) (old mid : List Part) → Beside low size old mid → o + 8 ≤ size → MayWrite mid (low + o) 8 → Beside low size old (with_value mid (low + o) 8 value)
beside_store low size o value old mid first inside may = record {
  written = written_more old mid (with_value mid (low + o) 8 value) first.written (value_written mid (low + o) 8 value may);
  others = λ b n v out h.
      holds_apart mid (low + o) 8 value b n v (λ i j hi hj e. out (o + i) j (omega (arith, hi, inside)) hj (omega (arith, e))) (first.others b n v out h);
}

pub room_still : (low size : ℕ) (old new : List Part) → Written old new → Room low size old → Room low size new
room_still low size old new w h = record { aligned = h.aligned; below = h.below; may = λ o n inside. may_still old new (low + o) n w (h.may o n inside) }

-- ---- registers as a function

abbrev pub update : ℕ → ℕ → (ℕ → ℕ) → ℕ → ℕ
update rd v file r = if r == rd then v else file r

pub file_set : (regs : List ℕ) (rd v : ℕ) (file : ℕ → ℕ) → rd ≢ 0 → rd < length regs → ((r : ℕ) → reg_of regs r ≡ file r) → (r : ℕ) → reg_of (with_reg regs rd v) r ≡ update rd v file r
file_set regs rd v file some inside is r =
    cond_both (r == rd) v (file r) (λ z. reg_of (with_reg regs rd v) r ≡ z)
    (λ e. ap (reg_of (with_reg regs rd v)) (eqb-true r rd e) ∙ read_same regs rd v some inside)
    (λ e. read_other regs rd r v (λ same. differ r rd e same) ∙ is r)
  where
    differ : (a b : ℕ) → (a == b) ≡ false → a ≡ b → ⊥
    differ a b e same = let both : true ≡ false = sym (eq-eqb a b same) ∙ e in absurd (cc both)

-- a hart at a place, with such registers and such a memory
pub record Hart (place : ℕ) (file : ℕ → ℕ) (parts : List Part) (s : State) : Type 0 where
  pub pc : s.pc ≡ place
  pub all : length s.regs ≡ 32
  pub regs : (r : ℕ) → x s r ≡ file r
  pub memory : s.memory ≡ parts

-- where a walk is made: where the words stand, the hart that it begins with, and the bytes that it may write
pub record Path : Type 0 where
  pub ground : Ground
  pub first : State
  pub low : ℕ
  pub size : ℕ
  pub room : Room low size first.memory

-- so many steps from the first hart on
pub record Walks (p : Path) (n place : ℕ) (file : ℕ → ℕ) (parts : List Part) : Type 0 where
  pub after : State
  pub runs : Executes n p.first after
  pub hart : Hart place file parts after
  pub beside : Beside p.low p.size p.first.memory parts

pub walk_begins : (p : Path) (here : ℕ) → p.first.pc ≡ address p.ground here → length p.first.regs ≡ 32 → Walks p 0 (address p.ground here) (λ r. x p.first r) p.first.memory
walk_begins p here at regs = record { after = p.first; runs = no_steps p.first; hart = record { pc = at; all = regs; regs = λ r. refl; memory = refl }; beside = beside_none p.low p.size p.first.memory }

-- a word still stands where a walk has come to
pub piece_there : (p : Path) (n place here : ℕ) (file : ℕ → ℕ) (parts : List Part) (y : Piece) (h : Walks p n place file parts) → PieceAt p.first.memory p.ground here y → PieceAt h.after.memory p.ground here y
piece_there p n place here file parts y h code =
    subst (λ ps. PieceAt ps p.ground here y) (sym h.hart.memory)
    (record { inside = code.inside; fits = code.fits; word = word_still p.first.memory parts (address p.ground here) _ h.beside.written code.word })

-- ---- words that set a register

pub walk_sets : (p : Path) (n here rd v : ℕ) (file : ℕ → ℕ) (parts : List Part) (y : Piece) → 0 < rd → rd < 32 → (h : Walks p n (address p.ground here) file parts) → PieceAt p.first.memory p.ground here y →
    done (placed p.ground.places here y) h.after ≡ sets h.after rd v → Walks p (n + 1) (address p.ground (here + 1)) (update rd v file) parts
walk_sets p n here rd v file parts y some small h code does =
    let t : State = h.after in
    let u : State = set_state p.ground here t rd v in
    record {
      after = u;
      runs = steps_then n 1 p.first t u h.runs (one_step t u (sets_at p.ground here rd v y t (piece_there p n (address p.ground here) here file parts y h code) h.hart.pc does));
      hart = record {
        pc = refl;
        all = set_length t.regs rd v ∙ h.hart.all;
        regs = file_set t.regs rd v file (λ e. omega (arith, some, e)) (omega (arith, small, h.hart.all)) h.hart.regs;
        memory = h.hart.memory;
      };
      beside = h.beside;
    }

pub walk_addi : (p : Path) (n here rd rs imm v : ℕ) (file : ℕ → ℕ) (parts : List Part) → 0 < rd → rd < 32 → Walks p n (address p.ground here) file parts → PieceAt p.first.memory p.ground here (instruction (Addi rd rs imm)) →
    add (file rs) (imm12 imm) ≡ v → Walks p (n + 1) (address p.ground (here + 1)) (update rd v file) parts
walk_addi p n here rd rs imm v file parts some small h code is =
    walk_sets p n here rd v file parts (instruction (Addi rd rs imm)) some small h code
    (addi_done rd rs imm h.after ∙ ap (λ a. sets h.after rd (add a (imm12 imm))) (h.hart.regs rs) ∙ ap (sets h.after rd) is)

pub walk_load : (p : Path) (n here rd rs imm a v : ℕ) (file : ℕ → ℕ) (parts : List Part) → 0 < rd → rd < 32 → Walks p n (address p.ground here) file parts → PieceAt p.first.memory p.ground here (instruction (Ld rd rs imm)) →
    add (file rs) (imm12 imm) ≡ a → AddressAt parts a v → Walks p (n + 1) (address p.ground (here + 1)) (update rd v file) parts
walk_load p n here rd rs imm a v file parts some small h code is held =
    walk_sets p n here rd v file parts (instruction (Ld rd rs imm)) some small h code
    (address_done rd rs imm a v h.after (ap (λ b. add b (imm12 imm)) (h.hart.regs rs) ∙ is) (subst (λ ps. AddressAt ps a v) (sym h.hart.memory) held))

-- ---- words that write

sd_done : (base value imm : ℕ) (s : State) → done (Sd base value imm) s ≡ stores s 8 (add (x s base) (imm12 imm)) (x s value)
unfolding done
sd_done base value imm s = refl

pub walk_store : (p : Path) (n here base value imm o v : ℕ) (file : ℕ → ℕ) (parts : List Part) → Walks p n (address p.ground here) file parts → PieceAt p.first.memory p.ground here (instruction (Sd base value imm)) →
    add (file base) (imm12 imm) ≡ p.low + o → file value ≡ v → o % 8 ≡ 0 → o + 8 ≤ p.size → Walks p (n + 1) (address p.ground (here + 1)) file (with_value parts (p.low + o) 8 v)
walk_store p n here base value imm o v file parts h code is value_is even inside =
    let t : State = h.after in
    let a : ℕ = p.low + o in
    let y : Piece = instruction (Sd base value imm) in
    let there = piece_there p n (address p.ground here) here file parts y h code in
    let may : MayWrite parts a 8 = may_still p.first.memory parts a 8 h.beside.written (p.room.may o 8 inside) in
    let u : State = state (address p.ground (here + 1)) t.regs (with_value t.memory a 8 v) in
    let step : step_of t ≡ (Done, u)
    = piece_done p.ground here y t there h.hart.pc ∙ sd_done base value imm t ∙ ap (λ b. stores t 8 (add b (imm12 imm)) (x t value)) (h.hart.regs base) ∙ ap (λ b. stores t 8 b (x t value)) is
    ∙ ap (stores t 8 a) (h.hart.regs value ∙ value_is)
    ∙ stores_done t 8 a v (eq-eqb (a % 8) 0 (omega (arith, p.room.aligned, even))) (subst (λ ps. MayWrite ps a 8) (sym h.hart.memory) may)
    ∙ ap (λ pc. (Done, state pc t.regs (with_value t.memory a 8 v))) (next_is p.ground here y t there h.hart.pc) in
    record {
      after = u;
      runs = steps_then n 1 p.first t u h.runs (one_step t u step);
      hart = record { pc = refl; all = h.hart.all; regs = h.hart.regs; memory = ap (λ ps. with_value ps a 8 v) h.hart.memory };
      beside = beside_store p.low p.size o v p.first.memory parts h.beside inside may;
    }

-- what was written is there, and what was there before stays
pub slot_there : (p : Path) (n place o v : ℕ) (file : ℕ → ℕ) (parts : List Part) → Walks p n place file parts → o % 8 ≡ 0 → o + 8 ≤ p.size → v < 2 ^ 64 → AddressAt (with_value parts (p.low + o) 8 v) (p.low + o) v
slot_there p n place o v file parts h even inside small =
    let may : MayWrite parts (p.low + o) 8 = may_still p.first.memory parts (p.low + o) 8 h.beside.written (p.room.may o 8 inside) in
    let whole : v % 2 ^ 64 ≡ v = omega (arith, small) in
    record {
      aligned = omega (arith, p.room.aligned, even);
      below = omega (arith, p.room.below, inside);
      holds = subst (Holds (with_value parts (p.low + o) 8 v) (p.low + o) 8) whole (eight_stored parts (p.low + o) v may);
    }

pub slot_stays : (low o v k u : ℕ) (parts : List Part) → (o + 8 ≤ k) ⊎ (k + 8 ≤ o) → AddressAt parts (low + k) u → AddressAt (with_value parts (low + o) 8 v) (low + k) u
slot_stays low o v k u parts apart h = record {
  aligned = h.aligned;
  below = h.below;
  holds = holds_apart parts (low + o) 8 v (low + k) 8 u (λ i j hi hj e. differ apart i j hi hj e) h.holds;
}
  where
    differ : (o + 8 ≤ k) ⊎ (k + 8 ≤ o) → (i j : ℕ) → i < 8 → j < 8 → low + o + i ≡ low + k + j → ⊥
    differ (inl le) i j hi hj e = absurd (omega (arith, le, hi, e))
    differ (inr le) i j hi hj e = absurd (omega (arith, le, hj, e))

-- ---- other words

-- one more step, which changes the pc and perhaps a register
pub walk_moves : (p : Path) (n place target : ℕ) (file new : ℕ → ℕ) (parts : List Part) (h : Walks p n place file parts) (regs : List ℕ) → step_of h.after ≡ (Done, state target regs h.after.memory) → length regs ≡ 32 →
    ((r : ℕ) → reg_of regs r ≡ new r) → Walks p (n + 1) target new parts
walk_moves p n place target file new parts h regs step all is = record {
  after = state target regs h.after.memory;
  runs = steps_then n 1 p.first h.after (state target regs h.after.memory) h.runs (one_step h.after (state target regs h.after.memory) step);
  hart = record { pc = refl; all = all; regs = is; memory = h.hart.memory };
  beside = h.beside;
}

-- ---- numbers

-- so far down from an address
pub down : (a n : ℕ) → 0 < n → n < 2 ^ 11 → n ≤ a → a < 2 ^ 64 → add a (imm12 (2 ^ 12 - n)) ≡ a - n
down a n some small le below = grind (arith, nat_tests, some, small, le, below)

pub up : (a n : ℕ) → n < 2 ^ 11 → a + n < 2 ^ 64 → add a (imm12 n) ≡ a + n
up a n small below = grind (arith, nat_tests, small, below)

pub small_number : (n : ℕ) → n < 2 ^ 11 → add 0 (imm12 n) ≡ n
small_number n small = grind (arith, nat_tests, small)

-- a walk that writes nothing asks for no room
pub no_room : (memory : List Part) → Room 0 0 memory
no_room memory = record {
  aligned = refl;
  below = omega arith;
  may = λ o n inside. let none : 0 ≡ n = omega (arith, inside) in subst (MayWrite memory (0 + o)) none (record { bytes = []; there = nothing memory (0 + o); all = refl });
}
