-- A frame is taken and given back, and jumps and calls go where they say.
use Rattle.std.proofs.Common.{◌≡◌, ◌≢◌, ◌∙◌, refl, sym, ap, subst, arith, ℕ, zero, suc, ◌+◌, ◌-◌, ◌*◌, ◌/◌, ◌%◌, ◌^◌, ◌<◌, ◌≤◌, ◌==◌, ℤ, pos, negsuc, Bool, true, false, List, [], ◌∷◌, length}
use Rattle.std.specs.Prelude.{◌+ℤ◌, ◌-ℤ◌, not, nat_lt}
use Rattle.std.proofs.lemmas.Bool.{eq-eqb, le-ltb, lt-ltb}
use Rattle.std.proofs.lemmas.Bool.Decides.{nat_tests}
use Rattle.std.proofs.lemmas.Int.{ints}
use Rattle.rv64_isa.specs.declared.step.Step.TheVariants.{Done}
use Rattle.rv64_isa.specs.declared.instr.Instr.TheVariants.{Lui, Auipc, Jal, Jalr, Bgeu, Ld, Sd, Addi}
use Rattle.rv64_isa.specs.Arithmetic.{add, sign_extended}
use Rattle.rv64_isa.specs.State.{State, Part, state, reg_of, with_reg, with_value}
use Rattle.rv64_isa.specs.Step.{step_of, next, sets, jumps, branches, stores, x, imm12, imm20, done}
use Rattle.machine_forms.specs.Immediate.{immediate, upper, lower, jump_field}
use Rattle.machine_forms.specs.Registers.{zero_register, ra, sp, t0}
use Rattle.machine_forms.specs.Piece.{Target, entry, Piece, instruction, jump_to, upper_part, jump_rest, placed, distance}
use Rattle.machine_forms.specs.RuntimeCall.{runtime_call, stack_call}
use Rattle.machine_forms.specs.Shape.{Shape, return_offset, lowest_page, stack_tested, prologue, epilogue}
use Rattle.machine_pieces.specs.Standing.{Ground, address, PieceAt, PiecesAt}
use Rattle.machine_pieces.specs.Memory.{MayWrite}
use Rattle.machine_pieces.specs.Executes.{Executes}
use Rattle.machine_pieces.specs.Frames.{Reached}
use Rattle.machine_pieces.specs.Transfers.{lowest_sp, entry_steps, HasRoom, LacksRoom, Overflows, HasFrame, Enters, Leaves, Jumps, Calls}
use Rattle.machine_pieces.specs.Laws.{ControlGoes}
use Rattle.machine_pieces.proofs.Routines.{op_stands}
use Rattle.machine_pieces.proofs.Storing.{stores_done, value_written}
use Rattle.machine_pieces.proofs.Fetching.{piece_done, pieces_still}
use Rattle.machine_pieces.proofs.Stepping.{one_step, step_then, steps_then}
use Rattle.machine_pieces.proofs.Registers.{set_length, read_same, read_other}
use Rattle.machine_pieces.proofs.Going.{next_is}
use Rattle.machine_pieces.proofs.Places.{near_address, far_address, address_done, reached_from}

-- the state behind a word that sets a register
abbrev pub set_state : Ground → ℕ → State → (rd value : ℕ) → State
set_state g here s rd value = state (address g (here + 1)) (with_reg s.regs rd value) s.memory

pub sets_at : (g : Ground) (here rd value : ℕ) (y : Piece) (s : State) → PieceAt s.memory g here y → s.pc ≡ address g here → done (placed g.places here y) s ≡ sets s rd value → step_of s ≡ (Done, set_state g here s rd value)
sets_at g here rd value y s h at does =
    piece_done g here y s h at ∙ does ∙ ap (λ pc. (Done, state pc (with_reg s.regs rd value) s.memory)) (next_is g here y s h at)

-- ---- what the words do

pub addi_done : (rd rs imm : ℕ) (s : State) → done (Addi rd rs imm) s ≡ sets s rd (add (x s rs) (imm12 imm))
unfolding done
addi_done rd rs imm s = refl

lui_done : (rd imm : ℕ) (s : State) → done (Lui rd imm) s ≡ sets s rd (imm20 imm)
unfolding done
lui_done rd imm s = refl

pub auipc_done : (rd imm : ℕ) (s : State) → done (Auipc rd imm) s ≡ sets s rd (add s.pc (imm20 imm))
unfolding done
auipc_done rd imm s = refl

sd_done : (base value imm : ℕ) (s : State) → done (Sd base value imm) s ≡ stores s 8 (add (x s base) (imm12 imm)) (x s value)
unfolding done
sd_done base value imm s = refl

bgeu_done : (a b offset : ℕ) (s : State) → done (Bgeu a b offset) s ≡ branches s (not (nat_lt (x s a) (x s b))) offset
unfolding done
bgeu_done a b offset s = refl

pub jalr_done : (rd rs imm : ℕ) (s : State) → done (Jalr rd rs imm) s ≡ jumps s rd (add (x s rs) (imm12 imm) / 2 * 2)
unfolding done
jalr_done rd rs imm s = refl

jal_done : (rd offset : ℕ) (s : State) → done (Jal rd offset) s ≡ jumps s rd (add s.pc (sign_extended 21 (2 * offset)))
unfolding done
jal_done rd offset s = refl

-- ---- numbers

down_address : (a n : ℕ) → n < 2 ^ 11 → n ≤ a → a < 2 ^ 64 → add a (imm12 (immediate (pos 0 -ℤ pos n))) ≡ a - n
down_address a zero small le below = grind (arith, nat_tests, small, below)
down_address a (suc n) small le below = grind (arith, nat_tests, small, le, below)

near_eight : (a : ℕ) → a < 2 ^ 63 → add a (imm12 return_offset) ≡ a + return_offset
near_eight a below = grind (arith, nat_tests, below)

pub whole_address : (a : ℕ) → a % 4 ≡ 0 → a < 2 ^ 64 → add a (imm12 0) / 2 * 2 ≡ a
whole_address a aligned below = grind (arith, nat_tests, aligned, below)

-- ---- jumps inside a function

forwards : (pc n : ℕ) → n < 2 ^ 18 → pc + 4 * n < 2 ^ 64 → add pc (sign_extended 21 (2 * jump_field (pos n))) ≡ pc + 4 * n
forwards pc n small below = grind (arith, nat_tests, small, below)

backwards : (pc n : ℕ) → n < 2 ^ 18 - 1 → pc + 4 * (n + 1) < 2 ^ 64 → add (pc + 4 * (n + 1)) (sign_extended 21 (2 * jump_field (negsuc n))) ≡ pc
backwards pc n small below = grind (arith, nat_tests, small, below)

jump_target : (base here there : ℕ) (d : ℤ) → pos here +ℤ d ≡ pos there → there < here + 2 ^ 18 → here < there + 2 ^ 18 → base + 4 * here < 2 ^ 64 → base + 4 * there < 2 ^ 64 →
    add (base + 4 * here) (sign_extended 21 (2 * jump_field d)) ≡ base + 4 * there
jump_target base here there (pos n) is near far hp tp =
    let sum : here + n ≡ there = omega (arith, ints, is) in
    forwards (base + 4 * here) n (omega (arith, near, sum)) (omega (arith, tp, sum)) ∙ omega (arith, sum)
jump_target base here there (negsuc n) is near far hp tp =
    let sum : there + (n + 1) ≡ here = omega (arith, ints, is) in
    let place : base + 4 * here ≡ base + 4 * there + 4 * (n + 1) = omega (arith, sum) in
    ap (λ p. add p (sign_extended 21 (2 * jump_field (negsuc n)))) place ∙ backwards (base + 4 * there) n (omega (arith, far, sum)) (omega (arith, hp, sum))

pub jumped : (s : State) (rd target : ℕ) → target % 4 ≡ 0 → jumps s rd target ≡ (Done, state target (with_reg s.regs rd (next s)) s.memory)
jumped s rd target aligned = let test : (target % 4 == 0) ≡ true = eq-eqb (target % 4) 0 aligned in rw test refl

pub label_jumps : (g : Ground) (here l : ℕ) (s : State) → PieceAt s.memory g here (jump_to l) → s.pc ≡ address g here → g.places.label l < here + 2 ^ 18 → here < g.places.label l + 2 ^ 18 →
    address g (g.places.label l) < 2 ^ 64 → Jumps g (g.places.label l) s
label_jumps g here l s h at near far below =
    let there : ℕ = g.places.label l in
    let d : ℤ = pos there -ℤ pos here in
    let target : add s.pc (sign_extended 21 (2 * jump_field d)) ≡ address g there
    = ap (λ p. add p (sign_extended 21 (2 * jump_field d))) at ∙ jump_target g.base here there d (omega (arith, ints)) near far (omega (arith, h.word.below)) below in
    let aligned : address g there % 4 ≡ 0 = omega (arith, h.word.aligned) in
    let goes : jumps s 0 (add s.pc (sign_extended 21 (2 * jump_field d))) ≡ (Done, state (address g there) s.regs s.memory) = ap (jumps s 0) target ∙ jumped s 0 (address g there) aligned in
    record { runs = one_step s (state (address g there) s.regs s.memory) (piece_done g here (jump_to l) s h at ∙ jal_done 0 (jump_field d) s ∙ goes) }

-- ---- the prologue

-- the fields of registers that a frame uses
pub not_zero : (n : ℕ) → 0 < n → n ≢ 0
not_zero n some e = omega (arith, some, e)

abbrev pub set_twice : List ℕ → (r v q u : ℕ) → List ℕ
set_twice regs r v q u = with_reg (with_reg regs r v) q u

pub kept_twice : (regs : List ℕ) (r v q u n : ℕ) → n ≢ r → n ≢ q → reg_of (set_twice regs r v q u) n ≡ reg_of regs n
kept_twice regs r v q u n first second = read_other (with_reg regs r v) q n u second ∙ read_other regs r n v first

-- the stack test passes where enough is left
enough : (a b : ℕ) → b ≤ a → not (nat_lt a b) ≡ true
enough a b le = ap not (le-ltb a b le)

branch_far : (g : Ground) (here : ℕ) (s : State) → s.pc ≡ address g here → address g here % 4 ≡ 0 → address g (here + 3) < 2 ^ 64 → branches s true 6 ≡ (Done, state (address g (here + 3)) s.regs s.memory)
branch_far g here s at aligned below =
    let target : add s.pc (sign_extended 13 (2 * 6)) ≡ address g (here + 3) = omega (arith, at, below) in
    let test : (address g (here + 3) % 4 == 0) ≡ true = eq-eqb (address g (here + 3) % 4) 0 (omega (arith, aligned)) in
    rw (target, test) refl

-- a branch that is not taken goes on to the next word
branch_passed : (g : Ground) (here : ℕ) (s : State) (y : Piece) → PieceAt s.memory g here y → s.pc ≡ address g here → branches s false 6 ≡ (Done, state (address g (here + 1)) s.regs s.memory)
branch_passed g here s y h at = ap (λ pc. (Done, state pc s.regs s.memory)) (next_is g here y s h at)

-- the frame is taken
record Taken (g : Ground) (here : ℕ) (f : Shape) (s : State) : Type 0 where
  after : State
  runs : Executes 2 s after
  pc : after.pc ≡ address g (here + 2)
  rest : PiecesAt after.memory g (here + 2) (stack_tested f.leaf)
  stack : x after sp ≡ x s sp - f.size
  memory : after.memory ≡ with_value s.memory (x s sp - f.size + return_offset) 8 (x s ra)
  registers : length after.regs ≡ 32
  kept : (r : ℕ) → r ≢ sp → x after r ≡ x s r

frame_takes : (g : Ground) (here : ℕ) (f : Shape) (s : State) → PiecesAt s.memory g here (prologue f) → s.pc ≡ address g here → length s.regs ≡ 32 → (f.size < 2 ^ 11) × (f.size % 8 ≡ 0) × (return_offset + 8 ≤ f.size) →
    x s sp % 8 ≡ 0 → f.size ≤ x s sp → x s sp < 2 ^ 63 → MayWrite s.memory (x s sp - f.size + return_offset) 8 → Taken g here f s
frame_takes g here f s code at regs size aligned above below may =
    let stack : ℕ = x s sp in
    let low : ℕ = stack - f.size in
    let place : ℕ = low + return_offset in
    let back : ℕ = x s ra in
    let memory : List Part = with_value s.memory place 8 back in
    let small = size.0 in
    let even = size.1 in
    let one : State = set_state g here s sp low in
    let down : add stack (imm12 (immediate (pos 0 -ℤ pos f.size))) ≡ low = down_address stack f.size small above (omega (arith, below)) in
    let step1 : step_of s ≡ (Done, one)
    = sets_at g here sp low (instruction (Addi sp sp (immediate (pos 0 -ℤ pos f.size)))) s code.0 at (addi_done sp sp (immediate (pos 0 -ℤ pos f.size)) s ∙ ap (sets s sp) down) in
    let sp1 : x one sp ≡ low = read_same s.regs sp low (not_zero sp (omega arith)) (omega (arith, regs)) in
    let ra1 : x one ra ≡ back = read_other s.regs sp ra low (λ e. absurd (omega (arith, e))) in
    let there : add (x one sp) (imm12 return_offset) ≡ place = ap (λ a. add a (imm12 return_offset)) sp1 ∙ near_eight low (omega (arith, below)) in
    let two : State = state (address g (here + 1 + 1)) one.regs memory in
    let step2 : step_of one ≡ (Done, two)
    = piece_done g (here + 1) (instruction (Sd sp ra return_offset)) one code.1.0 refl ∙ sd_done sp ra return_offset one ∙ ap (λ a. stores one 8 a (x one ra)) there ∙ ap (stores one 8 place) ra1
    ∙ stores_done one 8 place back (eq-eqb (place % 8) 0 (omega (arith, aligned, even, above))) may
    ∙ ap (λ pc. (Done, state pc one.regs memory)) (next_is g (here + 1) (instruction (Sd sp ra return_offset)) one code.1.0 refl) in
    let rest = pieces_still s.memory memory g (here + 1 + 1) (stack_tested f.leaf) (value_written s.memory place 8 back may) code.1.1 in
    let same : here + 1 + 1 ≡ here + 2 = omega arith in
    record {
      after = two;
      runs = step_then 1 s one two step1 (one_step one two step2);
      pc = ap (address g) same;
      rest = subst (λ k. PiecesAt memory g k (stack_tested f.leaf)) same rest;
      stack = sp1;
      memory = refl;
      registers = set_length s.regs sp low ∙ regs;
      kept = λ r not_sp. read_other s.regs sp r low not_sp;
    }

-- then the end of the lowest 4 KiB is in t0
record Looks (g : Ground) (here : ℕ) (f : Shape) (s : State) : Type 0 where
  after : State
  runs : Executes 3 s after
  pc : after.pc ≡ address g (here + 3)
  rest : PiecesAt after.memory g (here + 3) (instruction (Bgeu sp t0 6) ∷ runtime_call stack_call)
  limit : x after t0 ≡ 0x70001000
  stack : x after sp ≡ x s sp - f.size
  memory : after.memory ≡ with_value s.memory (x s sp - f.size + return_offset) 8 (x s ra)
  registers : length after.regs ≡ 32
  kept : (r : ℕ) → r ≢ sp → r ≢ t0 → x after r ≡ x s r

frame_looks : (g : Ground) (here : ℕ) (f : Shape) (s : State) → f.leaf ≡ false → Taken g here f s → Looks g here f s
frame_looks g here f s e h =
    let u : State = h.after in
    let rest : PiecesAt u.memory g (here + 2) (stack_tested false) = subst (λ b. PiecesAt u.memory g (here + 2) (stack_tested b)) e h.rest in
    let three : State = set_state g (here + 2) u t0 0x70001000 in
    let step : step_of u ≡ (Done, three) = sets_at g (here + 2) t0 0x70001000 (instruction (Lui t0 lowest_page)) u rest.0 h.pc (lui_done t0 lowest_page u) in
    let same : here + 2 + 1 ≡ here + 3 = omega arith in
    record {
      after = three;
      runs = steps_then 2 1 s u three h.runs (one_step u three step);
      pc = ap (address g) same;
      rest = subst (λ k. PiecesAt u.memory g k (instruction (Bgeu sp t0 6) ∷ runtime_call stack_call)) same rest.1;
      limit = read_same u.regs t0 0x70001000 (not_zero t0 (omega arith)) (omega (arith, h.registers));
      stack = read_other u.regs t0 sp 0x70001000 (λ e. absurd (omega (arith, e))) ∙ h.stack;
      memory = h.memory;
      registers = set_length u.regs t0 0x70001000 ∙ h.registers;
      kept = λ r not_sp not_t0. read_other u.regs t0 r 0x70001000 not_t0 ∙ h.kept r not_sp;
    }

steps_behind : (s u t : State) → Executes 3 s u → step_of u ≡ (Done, t) → Executes 4 s t
steps_behind s u t first last = steps_then 3 1 s u t first (one_step u t last)

-- how far up sp is
lowest_by : (leaf : Bool) (size stack : ℕ) → size < 2 ^ 11 → lowest_sp leaf size ≤ stack → size ≤ stack
lowest_by true size stack small h = omega (arith, small, h)
lowest_by false size stack small h = omega (arith, h)

pub prologue_enters : (g : Ground) (here : ℕ) (f : Shape) (s : State) → PiecesAt s.memory g here (prologue f) → s.pc ≡ address g here → HasRoom f s → Enters g here f s
prologue_enters g here f s code at room = by f.leaf refl
  where
    by : (b : Bool) → f.leaf ≡ b → Enters g here f s
    by true e =
        let taken = frame_takes g here f s code at room.registers room.size room.aligned (lowest_by f.leaf f.size (x s sp) room.size.0 room.above) room.below room.may in
        let words : length (stack_tested f.leaf) ≡ 0 = ap (λ b. length (stack_tested b)) e in
        let count : here + 2 ≡ here + length (prologue f) = omega (arith, words) in
        record {
          after = taken.after;
          runs = subst (λ b. Executes (entry_steps b) s taken.after) (sym e) taken.runs;
          pc = taken.pc ∙ ap (address g) count;
          memory = taken.memory;
          registers = taken.registers;
          stack = taken.stack;
          kept = λ r not_sp not_t0. taken.kept r not_sp;
        }
    by false e =
        let first = frame_takes g here f s code at room.registers room.size room.aligned (lowest_by f.leaf f.size (x s sp) room.size.0 room.above) room.below room.may in
        let taken = frame_looks g here f s e first in
        let u : State = taken.after in
        let above : lowest_sp false f.size ≤ x s sp = subst (λ b. lowest_sp b f.size ≤ x s sp) e room.above in
        let test : not (nat_lt (x u sp) (x u t0)) ≡ true = enough (x u sp) (x u t0) (omega (arith, taken.limit, taken.stack, above)) in
        let last : State = state (address g (here + 3 + 3)) u.regs u.memory in
        let step : step_of u ≡ (Done, last)
        = piece_done g (here + 3) (instruction (Bgeu sp t0 6)) u taken.rest.0 taken.pc ∙ bgeu_done sp t0 6 u ∙ ap (λ c. branches u c 6) test
        ∙ branch_far g (here + 3) u taken.pc (taken.rest.0.word.aligned) (omega (arith, taken.rest.1.1.0.word.below)) in
        let words : length (stack_tested f.leaf) ≡ 4 = ap (λ b. length (stack_tested b)) e in
        let count : here + 3 + 3 ≡ here + length (prologue f) = omega (arith, words) in
        record {
          after = last;
          runs = subst (λ b. Executes (entry_steps b) s last) (sym e) (steps_behind s u last taken.runs step);
          pc = ap (address g) count;
          memory = taken.memory;
          registers = taken.registers;
          stack = taken.stack;
          kept = taken.kept;
        }

-- the stack test does not pass where too little is left
too_little : (a b : ℕ) → a < b → not (nat_lt a b) ≡ false
too_little a b less = ap not (lt-ltb a b less)

pub prologue_overflows : (g : Ground) (here : ℕ) (f : Shape) (s : State) → PiecesAt s.memory g here (prologue f) → s.pc ≡ address g here → LacksRoom f s → Overflows g here f s
prologue_overflows g here f s code at room =
    let first = frame_takes g here f s code at room.registers room.size room.aligned (omega (arith, room.above)) (omega (arith, room.short, room.size.0)) room.may in
    let taken = frame_looks g here f s room.looks first in
    let u : State = taken.after in
    let test : not (nat_lt (x u sp) (x u t0)) ≡ false = too_little (x u sp) (x u t0) (omega (arith, taken.limit, taken.stack, room.above, room.short)) in
    let last : State = state (address g (here + 3 + 1)) u.regs u.memory in
    let step : step_of u ≡ (Done, last)
    = piece_done g (here + 3) (instruction (Bgeu sp t0 6)) u taken.rest.0 taken.pc ∙ bgeu_done sp t0 6 u ∙ ap (λ c. branches u c 6) test ∙ branch_passed g (here + 3) u (instruction (Bgeu sp t0 6)) taken.rest.0 taken.pc in
    let same : here + 3 + 1 ≡ here + 4 = omega arith in
    record {
      after = last;
      runs = steps_behind s u last taken.runs step;
      pc = ap (address g) same;
      registers = taken.registers;
      code = subst (λ k. PiecesAt u.memory g k (runtime_call stack_call)) same taken.rest.1;
    }

-- ---- the epilogue

pub epilogue_leaves : (g : Ground) (here back : ℕ) (f : Shape) (s : State) → PiecesAt s.memory g here (epilogue f) → s.pc ≡ address g here → HasFrame f back s → Leaves f back s
epilogue_leaves g here back f s code at frame =
    let stack : ℕ = x s sp in
    let up : ℕ = stack + f.size in
    let regs = frame.registers in
    let one : State = set_state g here s ra back in
    let place : add stack (imm12 return_offset) ≡ stack + return_offset = near_address stack return_offset (omega arith) frame.saved.below in
    let step1 : step_of s ≡ (Done, one) = sets_at g here ra back (instruction (Ld ra sp return_offset)) s code.0 at (address_done ra sp return_offset (stack + return_offset) back s place frame.saved) in
    let sp1 : x one sp ≡ stack = read_other s.regs ra sp back (λ e. absurd (omega (arith, e))) in
    let ra1 : x one ra ≡ back = read_same s.regs ra back (not_zero ra (omega arith)) (omega (arith, regs)) in
    let two : State = set_state g (here + 1) one sp up in
    let upper_end : add (x one sp) (imm12 (immediate (pos f.size))) ≡ up = ap (λ a. add a (imm12 (immediate (pos f.size)))) sp1 ∙ near_address stack f.size frame.size frame.below in
    let step2 : step_of one ≡ (Done, two)
    = sets_at g (here + 1) sp up (instruction (Addi sp sp (immediate (pos f.size)))) one code.1.0 refl (addi_done sp sp (immediate (pos f.size)) one ∙ ap (sets one sp) upper_end) in
    let ra2 : x two ra ≡ back = read_other one.regs sp ra up (λ e. absurd (omega (arith, e))) ∙ ra1 in
    let target : add (x two ra) (imm12 0) / 2 * 2 ≡ back = ap (λ a. add a (imm12 0) / 2 * 2) ra2 ∙ whole_address back frame.back_aligned frame.back_below in
    let three : State = state back two.regs s.memory in
    let step3 : step_of two ≡ (Done, three)
    = piece_done g (here + 1 + 1) (instruction (Jalr zero_register ra 0)) two code.1.1.0 refl ∙ jalr_done zero_register ra 0 two ∙ ap (jumps two zero_register) target ∙ jumped two zero_register back frame.back_aligned in
    record {
      after = three;
      runs = step_then 2 s one three step1 (step_then 1 one two three step2 (one_step two three step3));
      pc = refl;
      memory = refl;
      registers = set_length one.regs sp up ∙ set_length s.regs ra back ∙ regs;
      stack = read_same one.regs sp up (not_zero sp (omega arith)) (omega (arith, regs, set_length s.regs ra back));
      kept = λ r not_sp not_ra. kept_twice s.regs ra back sp up r not_ra not_sp;
    }

-- ---- calls

pub function_calls : (g : Ground) (here first : ℕ) (u : Target) (s : State) → PiecesAt s.memory g here (upper_part ra u ∷ jump_rest ra ra u ∷ []) → s.pc ≡ address g here → length s.regs ≡ 32 →
    Reached g u first → first % 4 ≡ 0 → first < 2 ^ 64 → Calls g here first s
function_calls g here first u s code at regs reached aligned below =
    let d : ℤ = distance g.places here u in
    let high : ℕ = add s.pc (imm20 (upper d)) in
    let one : State = set_state g here s ra high in
    let step1 : step_of s ≡ (Done, one) = sets_at g here ra high (upper_part ra u) s code.0 at (auipc_done ra (upper d) s) in
    let ra1 : x one ra ≡ high = read_same s.regs ra high (not_zero ra (omega arith)) (omega (arith, regs)) in
    let here_again : here + 1 - 1 ≡ here = omega arith in
    let low : lower (distance g.places (here + 1 - 1) u) ≡ lower d = ap (λ i. lower (distance g.places i u)) here_again in
    let near = reached.near here code.0.inside in
    let place : add (x one ra) (imm12 (lower (distance g.places (here + 1 - 1) u))) ≡ first =
    ap (λ a. add a (imm12 (lower (distance g.places (here + 1 - 1) u)))) ra1 ∙ ap (λ i. add high (imm12 i)) low ∙ ap (λ p. add (add p (imm20 (upper d))) (imm12 (lower d))) at
    ∙ far_address (address g here) first d (omega (arith, code.0.word.below)) below near.0 near.1 (reached_from g here u first reached) in
    let target : add (x one ra) (imm12 (lower (distance g.places (here + 1 - 1) u))) / 2 * 2 ≡ first = ap (λ a. a / 2 * 2) place ∙ omega (arith, aligned) in
    let back : ℕ = next one in
    let two : State = state first (with_reg one.regs ra back) s.memory in
    let step2 : step_of one ≡ (Done, two)
    = piece_done g (here + 1) (jump_rest ra ra u) one code.1.0 refl ∙ jalr_done ra ra (lower (distance g.places (here + 1 - 1) u)) one ∙ ap (jumps one ra) target ∙ jumped one ra first aligned in
    record {
      after = two;
      runs = step_then 1 s one two step1 (one_step one two step2);
      pc = refl;
      back = read_same one.regs ra back (not_zero ra (omega arith)) (omega (arith, regs, set_length s.regs ra high)) ∙ next_is g (here + 1) (jump_rest ra ra u) one code.1.0 refl ∙ omega arith;
      memory = refl;
      registers = set_length one.regs ra back ∙ set_length s.regs ra high ∙ regs;
      kept = λ r not_ra. kept_twice s.regs ra high ra back r not_ra not_ra;
    }

pub control_goes : ControlGoes
control_goes = record {
  enters = prologue_enters;
  overflows = prologue_overflows;
  leaves = epilogue_leaves;
  jumps = label_jumps;
  calls = λ g here first callee s code at regs reached aligned below. function_calls g here first (entry callee) s code at regs reached aligned below;
  operation = op_stands;
}
