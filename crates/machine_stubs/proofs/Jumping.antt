-- Words of a walk that jump: branches, jumps, calls, returns, and the ECALL at its end.
use Rattle.std.proofs.Common.{◌≡◌, ◌∙◌, refl, ap, arith, ℕ, ◌+◌, ◌*◌, ◌/◌, ◌%◌, ◌^◌, ◌<◌, ◌==◌, true, false, List}
use Rattle.std.specs.Prelude.{Bool, not}
use Rattle.std.proofs.lemmas.Bool.{eq-eqb}
use Rattle.std.proofs.lemmas.Bool.Decides.{nat_tests}
use Rattle.rv64_isa.specs.declared.step.Step.TheVariants.{Done, Ecall}
use Rattle.rv64_isa.specs.declared.instr.Instr.TheVariants.{Jalr, Beq, Bne, Ecall as EcallWord}
use Rattle.rv64_isa.specs.Arithmetic.{add, sign_extended}
use Rattle.rv64_isa.specs.State.{State, Part, state, with_reg}
use Rattle.rv64_isa.specs.Step.{step_of, jumps, branches, calls, x, imm12, done}
use Rattle.machine_forms.specs.Piece.{Piece, instruction, jump_to, placed}
use Rattle.machine_pieces.specs.Executes.{Executes}
use Rattle.machine_pieces.specs.Standing.{Ground, address, PieceAt}
use Rattle.machine_pieces.proofs.Fetching.{piece_done}
use Rattle.machine_pieces.proofs.Stepping.{steps_then}
use Rattle.machine_pieces.proofs.Registers.{set_length}
use Rattle.machine_pieces.proofs.Going.{next_is}
use Rattle.machine_pieces.proofs.Framing.{jalr_done, jumped, whole_address, label_jumps}
use Rattle.machine_stubs.specs.Stretches.{Beside}
use Rattle.machine_stubs.proofs.Walking.{Path, Hart, Walks, update, file_set, piece_there, walk_moves}

-- ---- words that jump

beq_done : (a b offset : ℕ) (s : State) → done (Beq a b offset) s ≡ branches s (x s a == x s b) offset
unfolding done
beq_done a b offset s = refl

bne_done : (a b offset : ℕ) (s : State) → done (Bne a b offset) s ≡ branches s (not (x s a == x s b)) offset
unfolding done
bne_done a b offset s = refl

branch_goes : (g : Ground) (here d : ℕ) (s : State) → s.pc ≡ address g here → address g here % 4 ≡ 0 → d < 2 ^ 9 → address g (here + d) < 2 ^ 64 → branches s true (2 * d) ≡ (Done, state (address g (here + d)) s.regs s.memory)
branch_goes g here d s at aligned small below =
    let far : add s.pc (sign_extended 13 (2 * (2 * d))) ≡ s.pc + 4 * d = forward s.pc d small (omega (arith, at, below)) in
    let target : add s.pc (sign_extended 13 (2 * (2 * d))) ≡ address g (here + d) = omega (arith, far, at) in
    let test : (address g (here + d) % 4 == 0) ≡ true = eq-eqb (address g (here + d) % 4) 0 (omega (arith, aligned)) in
    rw (target, test) refl
  where
    forward : (pc d : ℕ) → d < 2 ^ 9 → pc + 4 * d < 2 ^ 64 → add pc (sign_extended 13 (2 * (2 * d))) ≡ pc + 4 * d
    forward pc d small below = grind (arith, nat_tests, small, below)

walk_branches : (p : Path) (n here d : ℕ) (file : ℕ → ℕ) (parts : List Part) (y : Piece) (h : Walks p n (address p.ground here) file parts) → PieceAt p.first.memory p.ground here y → d < 2 ^ 9 →
    address p.ground (here + d) < 2 ^ 64 → done (placed p.ground.places here y) h.after ≡ branches h.after true (2 * d) → Walks p (n + 1) (address p.ground (here + d)) file parts
walk_branches p n here d file parts y h code small below does =
    let there = piece_there p n (address p.ground here) here file parts y h code in
    walk_moves p n (address p.ground here) (address p.ground (here + d)) file file parts h h.after.regs
    (piece_done p.ground here y h.after there h.hart.pc ∙ does ∙ branch_goes p.ground here d h.after h.hart.pc code.word.aligned small below) h.hart.all h.hart.regs

walk_passes : (p : Path) (n here offset : ℕ) (file : ℕ → ℕ) (parts : List Part) (y : Piece) (h : Walks p n (address p.ground here) file parts) → PieceAt p.first.memory p.ground here y →
    done (placed p.ground.places here y) h.after ≡ branches h.after false offset → Walks p (n + 1) (address p.ground (here + 1)) file parts
walk_passes p n here offset file parts y h code does =
    let there = piece_there p n (address p.ground here) here file parts y h code in
    walk_moves p n (address p.ground here) (address p.ground (here + 1)) file file parts h h.after.regs
    (piece_done p.ground here y h.after there h.hart.pc ∙ does ∙ ap (λ pc. (Done, state pc h.after.regs h.after.memory)) (next_is p.ground here y h.after there h.hart.pc)) h.hart.all h.hart.regs

same_test : (s : State) (file : ℕ → ℕ) (a b : ℕ) (answer : Bool) → ((r : ℕ) → x s r ≡ file r) → (file a == file b) ≡ answer → (x s a == x s b) ≡ answer
same_test s file a b answer regs is = ap (λ y. y == x s b) (regs a) ∙ ap (λ y. file a == y) (regs b) ∙ is

-- a branch on two registers goes over words where they have the same number (beq), or different ones (bne), and to the next word else
pub walk_same : (p : Path) (n here a b d : ℕ) (file : ℕ → ℕ) (parts : List Part) → Walks p n (address p.ground here) file parts → PieceAt p.first.memory p.ground here (instruction (Beq a b (2 * d))) → d < 2 ^ 9 →
    address p.ground (here + d) < 2 ^ 64 → (file a == file b) ≡ true → Walks p (n + 1) (address p.ground (here + d)) file parts
walk_same p n here a b d file parts h code small below same =
    walk_branches p n here d file parts (instruction (Beq a b (2 * d))) h code small below
    (beq_done a b (2 * d) h.after ∙ ap (λ c. branches h.after c (2 * d)) (same_test h.after file a b true h.hart.regs same))

pub walk_not_same : (p : Path) (n here a b offset : ℕ) (file : ℕ → ℕ) (parts : List Part) → Walks p n (address p.ground here) file parts → PieceAt p.first.memory p.ground here (instruction (Beq a b offset)) →
    (file a == file b) ≡ false → Walks p (n + 1) (address p.ground (here + 1)) file parts
walk_not_same p n here a b offset file parts h code other =
    walk_passes p n here offset file parts (instruction (Beq a b offset)) h code
    (beq_done a b offset h.after ∙ ap (λ c. branches h.after c offset) (same_test h.after file a b false h.hart.regs other))

pub walk_other : (p : Path) (n here a b d : ℕ) (file : ℕ → ℕ) (parts : List Part) → Walks p n (address p.ground here) file parts → PieceAt p.first.memory p.ground here (instruction (Bne a b (2 * d))) → d < 2 ^ 9 →
    address p.ground (here + d) < 2 ^ 64 → (file a == file b) ≡ false → Walks p (n + 1) (address p.ground (here + d)) file parts
walk_other p n here a b d file parts h code small below other =
    walk_branches p n here d file parts (instruction (Bne a b (2 * d))) h code small below
    (bne_done a b (2 * d) h.after ∙ ap (λ c. branches h.after (not c) (2 * d)) (same_test h.after file a b false h.hart.regs other))

pub walk_not_other : (p : Path) (n here a b offset : ℕ) (file : ℕ → ℕ) (parts : List Part) → Walks p n (address p.ground here) file parts → PieceAt p.first.memory p.ground here (instruction (Bne a b offset)) →
    (file a == file b) ≡ true → Walks p (n + 1) (address p.ground (here + 1)) file parts
walk_not_other p n here a b offset file parts h code same =
    walk_passes p n here offset file parts (instruction (Bne a b offset)) h code
    (bne_done a b offset h.after ∙ ap (λ c. branches h.after (not c) offset) (same_test h.after file a b true h.hart.regs same))

-- a jump to a label
pub walk_label : (p : Path) (n here l : ℕ) (file : ℕ → ℕ) (parts : List Part) → Walks p n (address p.ground here) file parts → PieceAt p.first.memory p.ground here (jump_to l) →
    p.ground.places.label l < here + 2 ^ 18 → here < p.ground.places.label l + 2 ^ 18 → address p.ground (p.ground.places.label l) < 2 ^ 64 → Walks p (n + 1) (address p.ground (p.ground.places.label l)) file parts
walk_label p n here l file parts h code near far below =
    let t : State = h.after in
    let u : State = state (address p.ground (p.ground.places.label l)) t.regs t.memory in
    let jump = label_jumps p.ground here l t (piece_there p n (address p.ground here) here file parts (jump_to l) h code) h.hart.pc near far below in
    record {
      after = u;
      runs = steps_then n 1 p.first t u h.runs jump.runs;
      hart = record { pc = refl; all = h.hart.all; regs = h.hart.regs; memory = h.hart.memory };
      beside = h.beside;
    }

-- a call of the function whose address is in a register
pub walk_call : (p : Path) (n here base target : ℕ) (file : ℕ → ℕ) (parts : List Part) → Walks p n (address p.ground here) file parts → PieceAt p.first.memory p.ground here (instruction (Jalr 1 base 0)) →
    file base ≡ target → target % 4 ≡ 0 → target < 2 ^ 64 → Walks p (n + 1) target (update 1 (address p.ground (here + 1)) file) parts
walk_call p n here base target file parts h code is aligned below =
    let t : State = h.after in
    let y : Piece = instruction (Jalr 1 base 0) in
    let there = piece_there p n (address p.ground here) here file parts y h code in
    let back : ℕ = address p.ground (here + 1) in
    let to : add (x t base) (imm12 0) / 2 * 2 ≡ target = ap (λ a. add a (imm12 0) / 2 * 2) (h.hart.regs base ∙ is) ∙ whole_address target aligned below in
    let step : step_of t ≡ (Done, state target (with_reg t.regs 1 back) t.memory)
    = piece_done p.ground here y t there h.hart.pc ∙ jalr_done 1 base 0 t ∙ ap (jumps t 1) to ∙ jumped t 1 target aligned
    ∙ ap (λ b. (Done, state target (with_reg t.regs 1 b) t.memory)) (next_is p.ground here y t there h.hart.pc) in
    walk_moves p n (address p.ground here) target file (update 1 back file) parts h (with_reg t.regs 1 back) step (set_length t.regs 1 back ∙ h.hart.all)
    (file_set t.regs 1 back file (λ e. omega (arith, e)) (omega (arith, h.hart.all)) h.hart.regs)

-- a return to the address in a register
pub walk_back : (p : Path) (n here base target : ℕ) (file : ℕ → ℕ) (parts : List Part) → Walks p n (address p.ground here) file parts → PieceAt p.first.memory p.ground here (instruction (Jalr 0 base 0)) →
    file base ≡ target → target % 4 ≡ 0 → target < 2 ^ 64 → Walks p (n + 1) target file parts
walk_back p n here base target file parts h code is aligned below =
    let t : State = h.after in
    let y : Piece = instruction (Jalr 0 base 0) in
    let there = piece_there p n (address p.ground here) here file parts y h code in
    let to : add (x t base) (imm12 0) / 2 * 2 ≡ target = ap (λ a. add a (imm12 0) / 2 * 2) (h.hart.regs base ∙ is) ∙ whole_address target aligned below in
    let step : step_of t ≡ (Done, state target t.regs t.memory) = piece_done p.ground here y t there h.hart.pc ∙ jalr_done 0 base 0 t ∙ ap (jumps t 0) to ∙ jumped t 0 target aligned in
    walk_moves p n (address p.ground here) target file file parts h t.regs step h.hart.all h.hart.regs

-- ---- the end at an ECALL

ecall_done : (s : State) → done EcallWord s ≡ calls s
unfolding done
ecall_done s = refl

-- the hart at an ECALL, and the one behind it
pub record WalksOut (p : Path) (n here : ℕ) (file : ℕ → ℕ) (parts : List Part) : Type 0 where
  pub at : State
  pub runs : Executes n p.first at
  pub behind : State
  pub asks : step_of at ≡ (Ecall, behind)
  pub hart : Hart (address p.ground here) file parts behind
  pub beside : Beside p.low p.size p.first.memory parts

pub walk_out : (p : Path) (n here : ℕ) (file : ℕ → ℕ) (parts : List Part) → Walks p n (address p.ground here) file parts → PieceAt p.first.memory p.ground here (instruction EcallWord) → WalksOut p n (here + 1) file parts
walk_out p n here file parts h code =
    let t : State = h.after in
    let y : Piece = instruction EcallWord in
    let there = piece_there p n (address p.ground here) here file parts y h code in
    record {
      at = t;
      runs = h.runs;
      behind = state (address p.ground (here + 1)) t.regs t.memory;
      asks = piece_done p.ground here y t there h.hart.pc ∙ ecall_done t ∙ ap (λ pc. (Ecall, state pc t.regs t.memory)) (next_is p.ground here y t there h.hart.pc);
      hart = record { pc = refl; all = h.hart.all; regs = h.hart.regs; memory = h.hart.memory };
      beside = h.beside;
    }
