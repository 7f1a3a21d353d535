-- Branches over one word, and jumps over code.
use Rattle.std.proofs.Common.{◌≡◌, ◌∙◌, refl, arith, ℕ, ◌+◌, ◌*◌, ◌%◌, ◌^◌, ◌<◌, ◌==◌, true, false, List, length}
use Rattle.std.proofs.lemmas.Bool.{eq-eqb}
use Rattle.std.proofs.lemmas.Bool.Decides.{nat_tests}
use Rattle.rv64_isa.specs.declared.step.Step.TheVariants.{Done}
use Rattle.rv64_isa.specs.declared.instr.Instr.TheVariants.{Jal}
use Rattle.rv64_isa.specs.Arithmetic.{add, sign_extended}
use Rattle.rv64_isa.specs.State.{State, state}
use Rattle.rv64_isa.specs.Step.{next, jumps, branches, done}
use Rattle.machine_forms.specs.Piece.{Piece, placed}
use Rattle.machine_forms.specs.ValueCode.{over}
use Rattle.machine_pieces.specs.Standing.{Ground, address, PieceAt}
use Rattle.machine_pieces.specs.Going.{Goes}
use Rattle.machine_pieces.proofs.Fetching.{piece_done}
use Rattle.machine_pieces.proofs.Going.{next_is, moves_to}

-- a branch that is taken goes over one word
pub branch_taken : (g : Ground) (here k : ℕ) (y z : Piece) (s : State) → PieceAt s.memory g here y → PieceAt s.memory g (here + 1) z → s.pc ≡ address g here → length s.regs ≡ 32 →
    done (placed g.places here y) s ≡ branches s true 4 → Goes g here 2 k s
branch_taken g here k y z s h next at regs does =
    let target : add s.pc (sign_extended 13 (2 * 4)) ≡ address g (here + 2) = omega (arith, at, next.word.below) in
    let aligned : (add s.pc (sign_extended 13 (2 * 4)) % 4 == 0) ≡ true = eq-eqb (add s.pc (sign_extended 13 (2 * 4)) % 4) 0 (omega (arith, target, h.word.aligned)) in
    let t : State = state (add s.pc (sign_extended 13 (2 * 4))) s.regs s.memory in
    let goes : branches s true 4 ≡ (Done, t) = rw aligned refl in
    moves_to g here 2 k s t (omega arith) (piece_done g here y s h at ∙ does ∙ goes) target refl refl regs

-- one that is not goes to the next word
pub branch_passed : (g : Ground) (here k : ℕ) (y : Piece) (s : State) → PieceAt s.memory g here y → s.pc ≡ address g here → length s.regs ≡ 32 →
    done (placed g.places here y) s ≡ branches s false 4 → Goes g here 1 k s
branch_passed g here k y s h at regs does =
    moves_to g here 1 k s (state (next s) s.regs s.memory) (omega arith) (piece_done g here y s h at ∙ does) (next_is g here y s h at) refl refl regs

jal_done : (rd offset : ℕ) (s : State) → done (Jal rd offset) s ≡ jumps s rd (add s.pc (sign_extended 21 (2 * offset)))
unfolding done
jal_done rd offset s = refl

forward : (pc n : ℕ) → n < 2 ^ 18 → pc + 4 * n < 2 ^ 64 → add pc (sign_extended 21 (2 * (2 * n))) ≡ pc + 4 * n
forward pc n small below = grind (arith, nat_tests, small, below)

-- a jump over code
pub over_goes : (g : Ground) (here k : ℕ) (code : List Piece) (s : State) → PieceAt s.memory g here (over code) → s.pc ≡ address g here → length s.regs ≡ 32 → length code + 1 < 2 ^ 18 →
    address g (here + (length code + 1)) < 2 ^ 64 → Goes g here (length code + 1) k s
over_goes g here k code s h at regs small below =
    let n : ℕ = length code + 1 in
    let target : add s.pc (sign_extended 21 (2 * (2 * n))) ≡ address g (here + n) = forward s.pc n small (omega (arith, at, below)) ∙ omega (arith, at) in
    let aligned : (add s.pc (sign_extended 21 (2 * (2 * n))) % 4 == 0) ≡ true = eq-eqb (add s.pc (sign_extended 21 (2 * (2 * n))) % 4) 0 (omega (arith, target, h.word.aligned)) in
    let t : State = state (add s.pc (sign_extended 21 (2 * (2 * n)))) s.regs s.memory in
    let goes : jumps s 0 (add s.pc (sign_extended 21 (2 * (2 * n)))) ≡ (Done, t) = rw aligned refl in
    moves_to g here n k s t (omega arith) (piece_done g here (over code) s h at ∙ jal_done 0 (2 * n) s ∙ goes) target refl refl regs
