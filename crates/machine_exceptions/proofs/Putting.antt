-- A register is written to a slot of the frame.
use Rattle.std.proofs.Common.{◌≡◌, ◌∙◌, refl, sym, ap, subst, arith, ℕ, ◌+◌, ◌%◌, List}
use Rattle.std.proofs.lemmas.Bool.{eq-eqb}
use Rattle.rv64_isa.specs.declared.step.Step.TheVariants.{Done}
use Rattle.rv64_isa.specs.declared.instr.Instr.TheVariants.{Sd}
use Rattle.rv64_isa.specs.Arithmetic.{add}
use Rattle.rv64_isa.specs.State.{State, Part, state, reg_of, with_value}
use Rattle.rv64_isa.specs.Step.{step_of, next, stores, x, imm12, done}
use Rattle.region_forms.specs.World.{Word, Frame, World, with_slot}
use Rattle.linear_forms.specs.Activation.{Activation}
use Rattle.machine_forms.specs.Registers.{sp}
use Rattle.machine_forms.specs.Shape.{slot_offset}
use Rattle.machine_forms.specs.PlaceCode.{within, slot_stored}
use Rattle.machine_pieces.specs.Executes.{Executes}
use Rattle.machine_pieces.specs.Standing.{address, PieceAt}
use Rattle.machine_pieces.proofs.Storing.{stores_done}
use Rattle.machine_pieces.proofs.Fetching.{piece_done}
use Rattle.machine_pieces.proofs.Stepping.{one_step}
use Rattle.machine_pieces.proofs.Going.{next_is}
use Rattle.machine_pieces.proofs.Places.{near_address}
use Rattle.machine_pieces.specs.Keeping.{saved_of}
use Rattle.machine_pieces.proofs.Keeping.{same_saved}
use Rattle.machine_simulation.specs.Plan.{Plan, shape, setting}
use Rattle.machine_simulation.specs.Matches.{MemoryMatches}
use Rattle.machine_simulation.proofs.Holding.{slot_may, slot_place}
use Rattle.machine_simulation.specs.KeptCalls.{RegistersMatch}
use Rattle.machine_simulation.proofs.KeptStores.{slot_kept}
use Rattle.machine_exceptions.specs.Makes.{IsWordSlot}

pub sd_done : (base value imm : ℕ) (s : State) → done (Sd base value imm) s ≡ stores s 8 (add (x s base) (imm12 imm)) (x s value)
unfolding done
sd_done base value imm s = refl

-- one step leads to a state with the slot written
pub record Puts (p : Plan) (n here slot value : ℕ) (m : State) : Type 0 where
  pub after : State
  pub runs : Executes 1 m after
  pub pc : after.pc ≡ address (setting p n).ground (here + 1)
  pub regs : after.regs ≡ m.regs
  pub memory : after.memory ≡ with_value m.memory (x m sp + slot_offset (shape p n) slot) 8 value

pub slot_put : (p : Plan) (n : ℕ) (frame : Frame) (fs : List Activation) (v : World) (back here r slot value : ℕ) (m : State) → MemoryMatches p n frame fs v m.memory (x m sp) back → IsWordSlot p n slot →
    PieceAt m.memory (setting p n).ground here (slot_stored (shape p n) r slot) → m.pc ≡ address (setting p n).ground here → x m r ≡ value → Puts p n here slot value m
slot_put p n frame fs v back here r slot value m h ok code at is =
    let place : ℕ = x m sp + slot_offset (shape p n) slot in
    let bounds = slot_place p n frame fs v m.memory (x m sp) back slot h ok.inside ok.plain in
    let target : add (x m sp) (imm12 (within (shape p n) slot 0)) ≡ place
    = near_address (x m sp) (slot_offset (shape p n) slot + 0) (omega (arith, ok.near)) (omega (arith, bounds.1)) ∙ omega arith in
    let may = slot_may p n frame fs v m.memory (x m sp) back slot 8 h ok.inside ok.plain (omega arith) in
    let even : place % 8 ≡ 0 = omega (arith, h.top.holds.variables slot ok.inside, h.top.slots.aligned slot ok.inside ok.plain) in
    let u : State = state (next m) m.regs (with_value m.memory place 8 value) in
    let step : step_of m ≡ (Done, u)
    = piece_done (setting p n).ground here (slot_stored (shape p n) r slot) m code at ∙ sd_done sp r (within (shape p n) slot 0) m ∙ ap (λ a. stores m 8 a (x m r)) target ∙ ap (stores m 8 place) is
    ∙ stores_done m 8 place value (eq-eqb (place % 8) 0 even) may in
    record { after = u; runs = one_step m u step; pc = next_is (setting p n).ground here (slot_stored (shape p n) r slot) m code at; regs = refl; memory = refl }

-- and the registers of kept variables are as they were
pub registers_put : (p : Plan) (n : ℕ) (frame : Frame) (fs : List Activation) (v : World) (back slot value : ℕ) (word : Word) (s t : State) → MemoryMatches p n frame fs v s.memory (x s sp) back → IsWordSlot p n slot →
    RegistersMatch p n frame fs v s.memory (x s sp) (saved_of s) → t.regs ≡ s.regs → t.memory ≡ with_value s.memory (x s sp + slot_offset (shape p n) slot) 8 value →
    RegistersMatch p n (with_slot slot word frame) fs v t.memory (x t sp) (saved_of t)
registers_put p n frame fs v back slot value word s t h ok r regs memory =
    let new : List Part = with_value s.memory (x s sp + slot_offset (shape p n) slot) 8 value in
    let stack : x t sp ≡ x s sp = ap (λ l. reg_of l sp) regs in
    let saved : saved_of t ≡ saved_of s = same_saved s t (λ i k. ap (λ l. reg_of l i) regs) in
    let put : RegistersMatch p n (with_slot slot word frame) fs v new (x s sp) (saved_of s) = slot_kept p n frame fs v s.memory (x s sp) back slot 8 value word (saved_of s) h ok.inside ok.plain (omega arith) r in
    subst (λ ps. RegistersMatch p n (with_slot slot word frame) fs v ps (x t sp) (saved_of t)) (sym memory)
    (subst (λ a. RegistersMatch p n (with_slot slot word frame) fs v new a (saved_of t)) (sym stack) (subst (λ l. RegistersMatch p n (with_slot slot word frame) fs v new (x s sp) l) (sym saved) put))
