-- The address of a function in a register.
use Rattle.std.proofs.Common.{◌≡◌, ◌∙◌, ap, arith, ℕ, ◌+◌, ◌-◌, ◌^◌, ◌<◌, ℤ, length}
use Rattle.rv64_isa.specs.Arithmetic.{add}
use Rattle.rv64_isa.specs.State.{State}
use Rattle.rv64_isa.specs.Step.{sets, x, imm12, imm20}
use Rattle.machine_forms.specs.Immediate.{upper, lower}
use Rattle.machine_forms.specs.Registers.{register}
use Rattle.machine_forms.specs.Piece.{Target, upper_part, add_rest, distance}
use Rattle.machine_forms.specs.PlaceCode.{target_address}
use Rattle.machine_pieces.specs.Standing.{Ground, address, PiecesAt}
use Rattle.machine_pieces.specs.Going.{Computes}
use Rattle.machine_pieces.specs.Frames.{Reached}
use Rattle.machine_pieces.proofs.Going.{sets_value, then_sets}
use Rattle.machine_pieces.proofs.Places.{far_address, reached_from}
use Rattle.machine_pieces.proofs.Framing.{auipc_done, addi_done}

pub target_computes : (g : Ground) (here k a : ℕ) (u : Target) (s : State) → Reached g u a → a < 2 ^ 64 → k < 15 → length s.regs ≡ 32 → PiecesAt s.memory g here (target_address (register k) u) → s.pc ≡ address g here → Computes g here 2 k s a
target_computes g here k a u s reached below inside regs code at =
    let rd : ℕ = register k in
    let d : ℤ = distance g.places here u in
    let high : ℕ = add s.pc (imm20 (upper d)) in
    let first = sets_value g here k (upper_part rd u) s high code.0 at regs inside (auipc_done rd (upper d) s) in
    let m : State = first.goes.after in
    let here_again : here + 1 - 1 ≡ here = omega arith in
    let low : lower (distance g.places (here + 1 - 1) u) ≡ lower d = ap (λ i. lower (distance g.places i u)) here_again in
    let near = reached.near here code.0.inside in
    let value : add (x m rd) (imm12 (lower (distance g.places (here + 1 - 1) u))) ≡ a =
    ap (λ v. add v (imm12 (lower (distance g.places (here + 1 - 1) u)))) first.is ∙ ap (λ i. add high (imm12 i)) low ∙ ap (λ p. add (add p (imm20 (upper d))) (imm12 (lower d))) at
    ∙ far_address (address g here) a d (omega (arith, code.0.word.below)) below near.0 near.1 (reached_from g here u a reached) in
    then_sets g here 1 k (add_rest rd u) s a first.goes code.1.0 inside (addi_done rd rd (lower (distance g.places (here + 1 - 1) u)) m ∙ ap (sets m rd) value)
