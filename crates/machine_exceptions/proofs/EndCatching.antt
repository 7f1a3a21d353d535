-- A compiled function calls end_catch.
use Rattle.std.proofs.Common.{◌≡◌, ◌∙◌, refl, sym, ap, subst, arith, ℕ, ◌+◌, ◌-◌, ◌*◌, ◌%◌, ◌^◌, ◌<◌, ◌≤◌, pos, List, [], length, Some}
use Rattle.std.specs.Prelude.{slice_get}
use Rattle.rv64_isa.specs.State.{State, Part}
use Rattle.rv64_isa.specs.Step.{x}
use Rattle.cxa_runtime.specs.World as abi
use Rattle.cxa_runtime.specs.Raising.{Image}
use Rattle.region_forms.specs.Form.{leave}
use Rattle.linear_forms.specs.Linear.{plain}
use Rattle.linear_forms.specs.Stub.{end_catch}
use Rattle.linear_forms.specs.Activation.{State as LinearState}
use Rattle.machine_forms.specs.Registers.{ra, sp}
use Rattle.machine_forms.specs.Piece.{entry}
use Rattle.machine_forms.specs.Routine.{op_word}
use Rattle.machine_pieces.specs.Standing.{Ground, address}
use Rattle.machine_pieces.specs.Frames.{Reached}
use Rattle.machine_pieces.specs.Turning.{Turns, SameRuntime}
use Rattle.machine_pieces.proofs.Framing.{function_calls}
use Rattle.machine_pieces.proofs.Turning.{executes_turns}
use Rattle.machine_pieces.specs.Keeping.{saved_of}
use Rattle.machine_pieces.proofs.Keeping.{same_saved}
use Rattle.machine_stubs.specs.Stretches.{StubAt, stub_word, Room}
use Rattle.machine_simulation.specs.Plan.{Plan, function, routine, first_word, setting}
use Rattle.machine_simulation.specs.Matches.{UnitStands, StackMay}
use Rattle.machine_simulation.proofs.Words.{operation_at, even_base, word_below}
use Rattle.machine_simulation.proofs.Matching.{Stands}
use Rattle.machine_simulation.proofs.Floors.{caller_above}

-- end_catch is near to every word of the unit
catch_reached : (p : Plan) (n : ℕ) (memory : List Part) → UnitStands p memory → Reached (setting p n).ground (entry end_catch) (stub_word p.base end_catch 0)
catch_reached p n memory h = record { is = ap pos (omega arith); near = λ here inside. (omega (arith, h.few, inside), omega (arith, h.few, inside)) }

-- bytes of the stack below a place
pub room_below : (memory : List Part) (stack size : ℕ) → StackMay memory → 0x7000_0000 + size ≤ stack → stack ≤ 0x7100_0000 → stack % 8 ≡ 0 → size % 8 ≡ 0 → Room (stack - size) size memory
room_below memory stack size may low high even even_size = record {
  aligned = omega (arith, low, even, even_size);
  below = omega (arith, low, high);
  may = λ o k inside. may (stack - size + o) k (omega (arith, low)) (omega (arith, low, high, inside));
}

-- Two turns lead to the first word of end_catch, to return to the word behind the operation.
pub record CatchCalled (image : Image) (p : Plan) (n : ℕ) (st : LinearState) (w : abi.World) : Type 0 where
  pub after : abi.World
  pub runs : Turns image 2 w after []
  pub runtime : SameRuntime w after
  pub pc : after.hart.pc ≡ stub_word p.base end_catch 0
  pub registers : length after.hart.regs ≡ 32
  pub memory : after.hart.memory ≡ w.hart.memory
  pub stack : x after.hart sp ≡ x w.hart sp
  pub saved : saved_of after.hart ≡ saved_of w.hart
  pub back : x after.hart ra ≡ address (setting p n).ground (first_word p n + op_word (routine p n) (st.top.place + 1))
  pub back_aligned : x after.hart ra % 4 ≡ 0
  pub back_below : x after.hart ra < 2 ^ 64
  pub code : StubAt p.unit p.base end_catch after.hart.memory
  pub high : 0x7000_1000 ≤ x after.hart sp
  pub low : x after.hart sp ≤ 0x7100_0000
  pub even : x after.hart sp % 8 ≡ 0
  pub may : StackMay after.hart.memory

pub catch_called : (image : Image) (p : Plan) (n : ℕ) (st : LinearState) (w : abi.World) (back : ℕ) → Stands p n st w back → slice_get (function p n).ops st.top.place ≡ Some (plain leave) → CatchCalled image p n st w
catch_called image p n st w back h there =
    let g : Ground = (setting p n).ground in
    let here : ℕ = first_word p n + op_word (routine p n) st.top.place in
    let s : State = w.hart in
    let own = operation_at p s.memory n st.top.place (plain leave) h.memory.unit h.memory.top.known there in
    let even = even_base p s.memory h.memory.unit in
    let below = word_below p s.memory n st.top.place _ h.memory.unit h.memory.top.known own in
    let few : p.base + 4 * 2 < 2 ^ 64 = omega (arith, below) in
    let called = function_calls g here (stub_word p.base end_catch 0) (entry end_catch) s own.code h.pc h.registers (catch_reached p n s.memory h.memory.unit) (omega (arith, even))
    (omega (arith, h.memory.unit.stubs.end_catch.0.word.below)) in
    let t : State = called.after in
    let ran = executes_turns image 2 w s t refl called.runs in
    let back_is : x t ra ≡ address g (first_word p n + op_word (routine p n) (st.top.place + 1)) = called.back ∙ omega (arith, own.next) in
    let stack : x t sp ≡ x s sp = called.kept sp (λ e. absurd (omega (arith, e))) in
    let same : (r : ℕ) → x ran.after.hart r ≡ x t r = λ r. ap (λ (u : State). x u r) ran.hart in
    let memory : ran.after.hart.memory ≡ s.memory = ap (λ (u : State). u.memory) ran.hart ∙ called.memory in
    record {
      after = ran.after;
      runs = ran.turns;
      runtime = ran.runtime;
      pc = ap (λ (u : State). u.pc) ran.hart ∙ called.pc;
      registers = ap (λ (u : State). length u.regs) ran.hart ∙ called.registers;
      memory = memory;
      stack = same sp ∙ stack;
      saved = ap saved_of ran.hart ∙ same_saved s t (λ r k. called.kept r (λ e. absurd (omega (arith, k.above, e))));
      back = same ra ∙ back_is;
      back_aligned = omega (arith, same ra, back_is, even);
      back_below = omega (arith, same ra, back_is, below, own.next);
      code = subst (StubAt p.unit p.base end_catch) (sym memory) h.memory.unit.stubs.end_catch;
      high = omega (arith, same sp, stack, caller_above p n st.top.place st.top.frame st.world s.memory (x s sp) back (plain leave) there refl h.memory.top);
      low = omega (arith, same sp, stack, h.memory.top.below);
      even = omega (arith, same sp, stack, h.memory.top.saved.aligned);
      may = subst StackMay (sym memory) h.memory.may;
    }
