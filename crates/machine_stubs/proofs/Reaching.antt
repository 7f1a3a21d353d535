-- More words of a walk: ints of a slot, functions that are called by their distance, and records of types.
use Rattle.std.proofs.Common.{◌≡◌, ◌≢◌, ◌∙◌, refl, sym, ap, subst, arith, ℕ, ◌+◌, ◌-◌, ◌/◌, ◌%◌, ◌^◌, ◌<◌, ◌≤◌, ◌==◌, ℤ, pos, true, false, cond, List}
use Rattle.std.specs.Prelude.{nat_lt, ◌+ℤ◌}
use Rattle.std.proofs.lemmas.Bool.{cond_both, eqb-true, eq-eqb}
use Rattle.rv64_isa.specs.declared.step.Step.TheVariants.{Done}
use Rattle.rv64_isa.specs.declared.instr.Instr.TheVariants.{Lw, Subw, Addi}
use Rattle.rv64_isa.specs.Arithmetic.{add, sign_extended, subw}
use Rattle.rv64_isa.specs.State.{State, Part, state, with_value}
use Rattle.rv64_isa.specs.Step.{sets, loads, x, imm12, imm20, done}
use Rattle.machine_forms.specs.Immediate.{upper, lower}
use Rattle.machine_forms.specs.Piece.{Target, type_record, Piece, instruction, upper_part, add_rest, jump_rest, distance}
use Rattle.machine_pieces.specs.Memory.{Holds, MayWrite}
use Rattle.machine_pieces.specs.Numbers.{extended, int_bits}
use Rattle.machine_pieces.specs.Standing.{address, PieceAt}
use Rattle.machine_pieces.specs.Frames.{IntAt, Reached}
use Rattle.machine_pieces.proofs.Numbers.{int_loaded}
use Rattle.machine_pieces.proofs.Storing.{written_more, may_still, value_written, loads_done, holds_apart, four_stored}
use Rattle.machine_pieces.proofs.Fetching.{piece_done}
use Rattle.machine_pieces.proofs.Stepping.{steps_then}
use Rattle.machine_pieces.proofs.Going.{next_is}
use Rattle.machine_pieces.proofs.Places.{far_address}
use Rattle.machine_pieces.proofs.Framing.{auipc_done, addi_done, function_calls}
use Rattle.machine_stubs.specs.Stretches.{Beside}
use Rattle.machine_stubs.proofs.Walking.{Path, Walks, update, piece_there, walk_sets, walk_moves}

-- ---- memory beside some bytes of a frame

pub beside_at : (low size a value : ℕ) (old mid : List Part) → Beside low size old mid → low ≤ a → a + 8 ≤ low + size → MayWrite mid a 8 → Beside low size old (with_value mid a 8 value)
beside_at low size a value old mid first from to may = record {
  written = written_more old mid (with_value mid a 8 value) first.written (value_written mid a 8 value may);
  others = λ b n v out h.
      holds_apart mid a 8 value b n v (λ i j hi hj e. out (a + i - low) j (omega (arith, hi, from, to)) hj (omega (arith, e, from))) (first.others b n v out h);
}

-- the bytes that a walk may write
pub slot_may : (p : Path) (n place o : ℕ) (file : ℕ → ℕ) (parts : List Part) → Walks p n place file parts → o + 8 ≤ p.size → MayWrite parts (p.low + o) 8
slot_may p n place o file parts h inside = may_still p.first.memory parts (p.low + o) 8 h.beside.written (p.room.may o 8 inside)

-- ---- the low half of a slot

halves : (memory : List Part) (a v : ℕ) → with_value memory a 8 v ≡ with_value (with_value memory a 4 v) (a + 1 + 1 + 1 + 1) 4 (v / 2 ^ 8 / 2 ^ 8 / 2 ^ 8 / 2 ^ 8)
unfolding with_value
halves memory a v = refl

-- the first four bytes of some that may be written
pub low_half : (p : Path) (n place o v : ℕ) (file : ℕ → ℕ) (parts : List Part) → Walks p n place file parts → o + 8 ≤ p.size → Holds (with_value parts (p.low + o) 8 v) (p.low + o) 4 (v % 2 ^ 32)
low_half p n place o v file parts h inside =
    let a : ℕ = p.low + o in
    let may : MayWrite parts a 4 = may_still p.first.memory parts a 4 h.beside.written (p.room.may o 4 (omega (arith, inside))) in
    subst (λ ps. Holds ps a 4 (v % 2 ^ 32)) (sym (halves parts a v))
    (holds_apart (with_value parts a 4 v) (a + 1 + 1 + 1 + 1) 4 (v / 2 ^ 8 / 2 ^ 8 / 2 ^ 8 / 2 ^ 8) a 4 (v % 2 ^ 32) (λ i j hi hj e. absurd (omega (arith, hj, e))) (four_stored parts a v may))

lw_done : (rd rs imm : ℕ) (s : State) → done (Lw rd rs imm) s ≡ loads s 4 (λ n. sign_extended 32 n) rd (add (x s rs) (imm12 imm))
unfolding done
lw_done rd rs imm s = refl

pub walk_word : (p : Path) (n here rd rs imm a v : ℕ) (file : ℕ → ℕ) (parts : List Part) → 0 < rd → rd < 32 → Walks p n (address p.ground here) file parts → PieceAt p.first.memory p.ground here (instruction (Lw rd rs imm)) →
    add (file rs) (imm12 imm) ≡ a → a % 4 ≡ 0 → Holds parts a 4 v → Walks p (n + 1) (address p.ground (here + 1)) (update rd (sign_extended 32 v) file) parts
walk_word p n here rd rs imm a v file parts some small h code is aligned held =
    walk_sets p n here rd (sign_extended 32 v) file parts (instruction (Lw rd rs imm)) some small h code
    (lw_done rd rs imm h.after ∙ ap (λ b. loads h.after 4 (λ n. sign_extended 32 n) rd (add b (imm12 imm))) (h.hart.regs rs) ∙ ap (loads h.after 4 (λ n. sign_extended 32 n) rd) is
    ∙ loads_done h.after 4 (λ n. sign_extended 32 n) rd a v (eq-eqb (a % 4) 0 aligned) (subst (λ ps. Holds ps a 4 v) (sym h.hart.memory) held))

pub walk_int : (p : Path) (n here rd rs imm a : ℕ) (z : ℤ) (file : ℕ → ℕ) (parts : List Part) → 0 < rd → rd < 32 → Walks p n (address p.ground here) file parts → PieceAt p.first.memory p.ground here (instruction (Lw rd rs imm)) →
    add (file rs) (imm12 imm) ≡ a → IntAt parts a z → Walks p (n + 1) (address p.ground (here + 1)) (update rd (extended z) file) parts
walk_int p n here rd rs imm a z file parts some small h code is held =
    subst (λ v. Walks p (n + 1) (address p.ground (here + 1)) (update rd v file) parts) (int_loaded z held.int)
    (walk_word p n here rd rs imm a (int_bits z) file parts some small h code is held.aligned held.holds)

-- a word is 0 where its low half is
pub still_other : (v : ℕ) → v ≢ 0 → sign_extended 32 v ≢ 0
still_other v some = cond_both (nat_lt v (2 ^ 31)) v (v + (2 ^ 64 - 2 ^ 32)) (λ n. n ≢ 0) (λ e. some) (λ e zero. absurd (omega (arith, zero)))

subw_done : (rd a b : ℕ) (s : State) → done (Subw rd a b) s ≡ sets s rd (subw (x s a) (x s b))
unfolding done
subw_done rd a b s = refl

pub walk_less : (p : Path) (n here rd a b v : ℕ) (file : ℕ → ℕ) (parts : List Part) → 0 < rd → rd < 32 → Walks p n (address p.ground here) file parts → PieceAt p.first.memory p.ground here (instruction (Subw rd a b)) →
    subw (file a) (file b) ≡ v → Walks p (n + 1) (address p.ground (here + 1)) (update rd v file) parts
walk_less p n here rd a b v file parts some small h code is =
    walk_sets p n here rd v file parts (instruction (Subw rd a b)) some small h code
    (subw_done rd a b h.after ∙ ap (λ y. sets h.after rd (subw y (x h.after b))) (h.hart.regs a) ∙ ap (λ y. sets h.after rd (subw (file a) y)) (h.hart.regs b) ∙ ap (sets h.after rd) is)

-- the word that does nothing
pub walk_nothing : (p : Path) (n here : ℕ) (file : ℕ → ℕ) (parts : List Part) → Walks p n (address p.ground here) file parts → PieceAt p.first.memory p.ground here (instruction (Addi 0 0 0)) →
    Walks p (n + 1) (address p.ground (here + 1)) file parts
walk_nothing p n here file parts h code =
    let y : Piece = instruction (Addi 0 0 0) in
    let there = piece_there p n (address p.ground here) here file parts y h code in
    walk_moves p n (address p.ground here) (address p.ground (here + 1)) file file parts h h.after.regs
    (piece_done p.ground here y h.after there h.hart.pc ∙ addi_done 0 0 0 h.after ∙ ap (λ pc. (Done, state pc h.after.regs h.after.memory)) (next_is p.ground here y h.after there h.hart.pc)) h.hart.all h.hart.regs

-- ---- what lies outside

pub walk_function : (p : Path) (n here first : ℕ) (u : Target) (file : ℕ → ℕ) (parts : List Part) → Walks p n (address p.ground here) file parts → PieceAt p.first.memory p.ground here (upper_part 1 u) →
    PieceAt p.first.memory p.ground (here + 1) (jump_rest 1 1 u) → Reached p.ground u first → first % 4 ≡ 0 → first < 2 ^ 64 → Walks p (n + 2) first (update 1 (address p.ground (here + 2)) file) parts
walk_function p n here first u file parts h code more reached aligned below =
    let t : State = h.after in
    let back : ℕ = address p.ground (here + 2) in
    let call = function_calls p.ground here first u t
    (piece_there p n (address p.ground here) here file parts (upper_part 1 u) h code, (piece_there p n (address p.ground here) (here + 1) file parts (jump_rest 1 1 u) h more, tt)) h.hart.pc h.hart.all reached aligned below in
    record {
      after = call.after;
      runs = steps_then n 2 p.first t call.after h.runs call.runs;
      hart = record {
        pc = call.pc;
        all = call.registers;
        regs = λ r. cond_both (r == 1) back (file r) (λ z. x call.after r ≡ z) (λ e. ap (x call.after) (eqb-true r 1 e) ∙ call.back) (λ e. call.kept r (differ r e) ∙ h.hart.regs r);
        memory = call.memory ∙ h.hart.memory;
      };
      beside = h.beside;
    }
  where
    differ : (r : ℕ) → (r == 1) ≡ false → r ≢ 1
    differ r e same = let both : true ≡ false = sym (eq-eqb r 1 same) ∙ e in absurd (cc both)

-- the address of a type's record, in front of the code
pub walk_record : (p : Path) (n here rd t b : ℕ) (file : ℕ → ℕ) (parts : List Part) → 0 < rd → rd < 32 → Walks p n (address p.ground here) file parts → PieceAt p.first.memory p.ground here (upper_part rd (type_record t)) →
    PieceAt p.first.memory p.ground (here + 1) (add_rest rd (type_record t)) → pos (address p.ground here) +ℤ distance p.ground.places here (type_record t) ≡ pos b → b < 2 ^ 64 →
    b < address p.ground here + 2 ^ 30 → address p.ground here < b + 2 ^ 30 →
    Walks p (n + 1 + 1) (address p.ground (here + 1 + 1)) (update rd b (update rd (add (address p.ground here) (imm20 (upper (distance p.ground.places here (type_record t))))) file)) parts
walk_record p n here rd t b file parts some small h code more is below near far =
    let d : ℤ = distance p.ground.places here (type_record t) in
    let high : ℕ = add (address p.ground here) (imm20 (upper d)) in
    let one = walk_sets p n here rd high file parts (upper_part rd (type_record t)) some small h code (auipc_done rd (upper d) h.after ∙ ap (λ pc. sets h.after rd (add pc (imm20 (upper d)))) h.hart.pc) in
    let here_again : here + 1 - 1 ≡ here = omega arith in
    let low : lower (distance p.ground.places (here + 1 - 1) (type_record t)) ≡ lower d = ap (λ i. lower (distance p.ground.places i (type_record t))) here_again in
    let itself : (rd == rd) ≡ true = eq-eqb rd rd refl in
    let held : x one.after rd ≡ high = one.hart.regs rd ∙ ap (λ c. cond c high (file rd)) itself in
    let place : add (x one.after rd) (imm12 (lower (distance p.ground.places (here + 1 - 1) (type_record t)))) ≡ b
    = ap (λ a. add a (imm12 (lower (distance p.ground.places (here + 1 - 1) (type_record t))))) held ∙ ap (λ i. add high (imm12 i)) low ∙ far_address (address p.ground here) b d (omega (arith, code.word.below)) below near far is in
    walk_sets p (n + 1) (here + 1) rd b (update rd high file) parts (add_rest rd (type_record t)) some small one more
    (addi_done rd rd (lower (distance p.ground.places (here + 1 - 1) (type_record t))) one.after ∙ ap (sets one.after rd) place)
