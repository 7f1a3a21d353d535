-- Runs over code one behind the other, and over one word.
use Rattle.std.proofs.Common.{◌≡◌, ◌∙◌, refl, sym, ap, subst, arith, ℕ, ◌+◌, ◌^◌, ◌<◌, ◌≤◌, List, [], ◌∷◌, length}
use Rattle.rv64_isa.specs.declared.step.Step.TheVariants.{Done}
use Rattle.rv64_isa.specs.State.{State, Part, state, with_reg}
use Rattle.rv64_isa.specs.Step.{step_of, next, sets, x, done}
use Rattle.machine_forms.specs.Registers.{register}
use Rattle.machine_forms.specs.Piece.{Piece, placed}
use Rattle.machine_pieces.specs.Standing.{Ground, address, PieceAt, PiecesAt}
use Rattle.machine_pieces.specs.Going.{IsKept, Goes, Computes, MaySet, Puts}
use Rattle.machine_pieces.proofs.Fetching.{piece_done}
use Rattle.machine_pieces.proofs.Stepping.{no_steps, one_step, steps_then}
use Rattle.machine_pieces.proofs.Registers.{set_length, read_same, read_other, register_distinct, register_below, register_above}

-- ---- what is kept

pub kept_more : (k j r : ℕ) → k ≤ j → IsKept k r → IsKept j r
kept_more k j r le h i low small = h i (omega (arith, le, low)) small

-- a register for values is kept by what takes those behind it
pub kept_register : (k j : ℕ) → k < j → k < 15 → IsKept j (register k)
kept_register k j less small i low inside = register_distinct k i small inside (λ e. omega (arith, e, less, low))

-- ra, sp and x0 always are
pub kept_low : (k r : ℕ) → r < 5 → IsKept k r
kept_low k r low i from small e = omega (arith, register_above i small, e, low)

-- a run that takes none of them keeps every register
pub kept_all : (r : ℕ) → IsKept 15 r
kept_all r i low small e = omega (arith, low, small)

-- ---- the next word

pub next_is : (g : Ground) (here : ℕ) (y : Piece) (s : State) → PieceAt s.memory g here y → s.pc ≡ address g here → next s ≡ address g (here + 1)
next_is g here y s h at = omega (arith, h.word.below, at)

-- ---- runs one behind the other

abbrev pub goes_none : (g : Ground) (here k : ℕ) (s : State) → s.pc ≡ address g here → length s.regs ≡ 32 → Goes g here 0 k s
goes_none g here k s at regs = record {
  steps = 0;
  most = omega arith;
  after = s;
  runs = no_steps s;
  pc = at ∙ ap (address g) (omega arith);
  memory = refl;
  registers = regs;
  kept = λ r h. refl;
}

abbrev pub goes_then : (g : Ground) (here m n k j : ℕ) (s : State) (first : Goes g here m k s) → k ≤ j → Goes g (here + m) n j first.after → Goes g here (m + n) k s
goes_then g here m n k j s first le second = record {
  steps = first.steps + second.steps;
  most = omega (arith, first.most, second.most);
  after = second.after;
  runs = steps_then first.steps second.steps s first.after second.after first.runs second.runs;
  pc = second.pc ∙ ap (address g) (omega arith);
  memory = second.memory ∙ first.memory;
  registers = second.registers;
  kept = λ r h. second.kept r (kept_more k j r le h) ∙ first.kept r h;
}

-- a step to a word further on, which changes no register
pub moves_to : (g : Ground) (here words k : ℕ) (s t : State) → 1 ≤ words → step_of s ≡ (Done, t) → t.pc ≡ address g (here + words) → t.memory ≡ s.memory → t.regs ≡ s.regs → length s.regs ≡ 32 →
    Goes g here words k s
moves_to g here words k s t some step pc memory regs all = record {
  steps = 1;
  most = some;
  after = t;
  runs = one_step s t step;
  pc = pc;
  memory = memory;
  registers = ap length regs ∙ all;
  kept = λ r h. ap (λ rs. x (state 0 rs []) r) regs;
}

-- a word that sets the k-th register for values
pub sets_value : (g : Ground) (here k : ℕ) (y : Piece) (s : State) (value : ℕ) → PieceAt s.memory g here y → s.pc ≡ address g here → length s.regs ≡ 32 → k < 15 →
    done (placed g.places here y) s ≡ sets s (register k) value → Computes g here 1 k s value
sets_value g here k y s value h at regs small does =
    let t : State = state (next s) (with_reg s.regs (register k) value) s.memory in
    record {
      goes = record {
        steps = 1;
        most = omega arith;
        after = t;
        runs = one_step s t (piece_done g here y s h at ∙ does);
        pc = next_is g here y s h at;
        memory = refl;
        registers = set_length s.regs (register k) value ∙ regs;
        kept = λ r kept. read_other s.regs (register k) r value (kept k (omega arith) small);
      };
      is = read_same s.regs (register k) value (λ e. omega (arith, register_above k small, e)) (omega (arith, register_below k small, regs));
    }

-- code behind which the k-th register has a number
pub computes_then : (g : Ground) (here m n k j value : ℕ) (s : State) (first : Goes g here m k s) → k ≤ j → (second : Goes g (here + m) n j first.after) → x second.after (register k) ≡ value →
    Computes g here (m + n) k s value
computes_then g here m n k j value s first le second is = record { goes = goes_then g here m n k j s first le second; is = is }

-- the same run, where the number of words is written in another way
abbrev pub goes_as : (g : Ground) (here m n k : ℕ) (s : State) → m ≡ n → Goes g here m k s → Goes g here n k s
goes_as g here m n k s e h = record {
  steps = h.steps;
  most = omega (arith, h.most, e);
  after = h.after;
  runs = h.runs;
  pc = h.pc ∙ ap (λ i. address g (here + i)) e;
  memory = h.memory;
  registers = h.registers;
  kept = h.kept;
}

-- a run that may change fewer registers
abbrev pub goes_less : (g : Ground) (here n k j : ℕ) (s : State) → k ≤ j → Goes g here n j s → Goes g here n k s
goes_less g here n k j s le h = record {
  steps = h.steps;
  most = h.most;
  after = h.after;
  runs = h.runs;
  pc = h.pc;
  memory = h.memory;
  registers = h.registers;
  kept = λ r kept. h.kept r (kept_more k j r le kept);
}

-- one more word, which sets the k-th register
pub then_sets : (g : Ground) (here m k : ℕ) (y : Piece) (s : State) (value : ℕ) (first : Goes g here m k s) → PieceAt s.memory g (here + m) y → k < 15 →
    done (placed g.places (here + m) y) first.after ≡ sets first.after (register k) value → Computes g here (m + 1) k s value
then_sets g here m k y s value first h small does =
    let there : PieceAt first.after.memory g (here + m) y = subst (λ ps. PieceAt ps g (here + m) y) (sym first.memory) h in
    let second = sets_value g (here + m) k y first.after value there first.pc first.registers small does in
    computes_then g here m 1 k k value s first (omega arith) second.goes second.is

-- ---- any register is set

-- by one word
pub puts_value : (g : Ground) (here k rd : ℕ) (y : Piece) (s : State) (value : ℕ) → PieceAt s.memory g here y → s.pc ≡ address g here → length s.regs ≡ 32 → MaySet rd →
    done (placed g.places here y) s ≡ sets s rd value → Puts g here 1 k rd s value
puts_value g here k rd y s value h at regs may does =
    let t : State = state (next s) (with_reg s.regs rd value) s.memory in
    record {
      steps = 1;
      most = omega arith;
      after = t;
      runs = one_step s t (piece_done g here y s h at ∙ does);
      pc = next_is g here y s h at;
      memory = refl;
      registers = set_length s.regs rd value ∙ regs;
      is = read_same s.regs rd value may.0 (omega (arith, may.1, regs));
      kept = λ r kept other. read_other s.regs rd r value other;
    }

-- behind other code
pub puts_behind : (g : Ground) (here m n k j rd value : ℕ) (s : State) (first : Goes g here m k s) → k ≤ j → Puts g (here + m) n j rd first.after value → Puts g here (m + n) k rd s value
puts_behind g here m n k j rd value s first le second = record {
  steps = first.steps + second.steps;
  most = omega (arith, first.most, second.most);
  after = second.after;
  runs = steps_then first.steps second.steps s first.after second.after first.runs second.runs;
  pc = second.pc ∙ ap (address g) (omega arith);
  memory = second.memory ∙ first.memory;
  registers = second.registers;
  is = second.is;
  kept = λ r h other. second.kept r (kept_more k j r le h) other ∙ first.kept r h;
}

pub then_puts : (g : Ground) (here m k rd : ℕ) (y : Piece) (s : State) (value : ℕ) (first : Goes g here m k s) → PieceAt s.memory g (here + m) y → MaySet rd →
    done (placed g.places (here + m) y) first.after ≡ sets first.after rd value → Puts g here (m + 1) k rd s value
then_puts g here m k rd y s value first h may does =
    let there : PieceAt first.after.memory g (here + m) y = subst (λ ps. PieceAt ps g (here + m) y) (sym first.memory) h in
    puts_behind g here m 1 k k rd value s first (omega arith) (puts_value g (here + m) k rd y first.after value there first.pc first.registers may does)

-- and set again
pub puts_again : (g : Ground) (here m k rd : ℕ) (y : Piece) (s : State) (old value : ℕ) (first : Puts g here m k rd s old) → PieceAt s.memory g (here + m) y → MaySet rd →
    done (placed g.places (here + m) y) first.after ≡ sets first.after rd value → Puts g here (m + 1) k rd s value
puts_again g here m k rd y s old value first h may does =
    let there : PieceAt first.after.memory g (here + m) y = subst (λ ps. PieceAt ps g (here + m) y) (sym first.memory) h in
    let second = puts_value g (here + m) k rd y first.after value there first.pc first.registers may does in
    record {
      steps = first.steps + second.steps;
      most = omega (arith, first.most, second.most);
      after = second.after;
      runs = steps_then first.steps second.steps s first.after second.after first.runs second.runs;
      pc = second.pc ∙ ap (address g) (omega arith);
      memory = second.memory ∙ first.memory;
      registers = second.registers;
      is = second.is;
      kept = λ r h other. second.kept r h other ∙ first.kept r h other;
    }

-- the same run, where the number of words is written in another way
pub puts_as : (g : Ground) (here m n k rd : ℕ) (s : State) (value : ℕ) → m ≡ n → Puts g here m k rd s value → Puts g here n k rd s value
puts_as g here m n k rd s value e h = subst (λ i. Puts g here i k rd s value) e h

-- where the register is the k-th one for values
pub computes_of : (g : Ground) (here n k : ℕ) (s : State) (value : ℕ) → k < 15 → Puts g here n k (register k) s value → Computes g here n k s value
computes_of g here n k s value small h = record {
  goes = record {
    steps = h.steps;
    most = h.most;
    after = h.after;
    runs = h.runs;
    pc = h.pc;
    memory = h.memory;
    registers = h.registers;
    kept = λ r kept. h.kept r kept (kept k (omega arith) small);
  };
  is = h.is;
}

pub may_set : (k : ℕ) → k < 15 → MaySet (register k)
may_set k small = (λ e. omega (arith, register_above k small, e), register_below k small)

-- the words of pieces end below 2^64
pub pieces_end : (memory : List Part) (g : Ground) (here : ℕ) (y : Piece) (ys : List Piece) → PiecesAt memory g here (y ∷ ys) → address g (here + length (y ∷ ys)) < 2 ^ 64
pieces_end memory g here y [] h = omega (arith, h.0.word.below)
pieces_end memory g here y (z ∷ ys) h = omega (arith, pieces_end memory g (here + 1) z ys h.1)
