-- The registers of kept variables over the frames of open calls.
use Rattle.std.proofs.Common.{◌≡◌, ◌∙◌, refl, ap, arith, ℕ, ◌+◌, ◌≤◌, List, [], ◌∷◌, length, map}
use Rattle.std.specs.Prelude.{slice_index, slice_index_or}
use Rattle.rv64_isa.specs.State.{State, reg_of}
use Rattle.frame_walk.specs.declared.frame.Frame.{Frame}
use Rattle.raise_core.specs.Stack.{first_frame, registers_at}
use Rattle.raise_core.specs.Raise.{with_registers, installed}
use Rattle.machine_forms.specs.Registers.{saved_registers}
use Rattle.machine_pieces.specs.Keeping as keeping
use Rattle.machine_pieces.specs.Keeping.{saved_of}
use Rattle.raise_simulation.specs.OpenCalls.{OpenCall, registers_kept, outward}
use Rattle.raise_simulation.proofs.Rules.{Rising, saved_rise, read_in, values_read}
use Rattle.raise_simulation.proofs.Registers.{register_set}

-- what they hold in a frame
abbrev pub saved_in : Frame → List ℕ
saved_in f = read_in f.regs saved_registers

pub first_saved : (s : State) → saved_in (first_frame s) ≡ saved_of s
unfolding registers_at
first_saved s = refl

pub outward_saved : (f : Frame) (sp : ℕ) (c : OpenCall) → length c.saved ≤ 10 → saved_in (outward f sp c) ≡ keeping.outward c.saved (saved_in f)
outward_saved f sp c few =
    let regs : List ℕ = slice_index_or f.regs 0 0 ∷ c.back ∷ (sp + c.size) ∷ registers_kept 3 61 f.regs in
    let count : length regs ≡ 64 = refl in
    values_read 32 2 saved_registers c.saved regs (omega (arith, count)) saved_rise few

-- and in a hart that has got them
all_set : (low : ℕ) (registers values regs : List ℕ) → Rising 32 low registers → length regs ≡ 32 → map (λ r. reg_of (with_registers 0 32 values regs) r) registers ≡ read_in values registers
all_set low [] values regs rise many = refl
all_set low (r ∷ more) values regs rise many =
    let above = rise.0 in
    let inside = rise.1 in
    ap (λ v. v ∷ map (λ q. reg_of (with_registers 0 32 values regs) q) more)
    (register_set 32 0 r values regs (omega arith) (omega (arith, inside)) (omega (arith, above)) (omega (arith, inside, many)))
    ∙ ap (λ l. slice_index values r ∷ l) (all_set r more values regs rise.2 many)

pub installed_saved : (s : State) (g : Frame) (pad : ℕ) → length s.regs ≡ 32 → saved_of (installed g pad s) ≡ saved_in g
installed_saved s g pad many = all_set 2 saved_registers g.regs s.regs saved_rise many
