-- A specification stops an exception: the first turns show nothing, up to where call_unexpected enters it.
use Rattle.std.proofs.Common.{refl, arith, ℕ, ◌+◌, ◌-◌, ◌≤◌, ℤ, List, [], inl}
use Rattle.rv64_isa.specs.State.{State as Hart, Part, with_value}
use Rattle.rv64_isa.specs.Step.{x}
use Rattle.cxa_runtime.specs.World as abi
use Rattle.cxa_runtime.specs.Raising.{Image}
use Rattle.region_forms.specs.World.{of_exception}
use Rattle.linear_forms.specs.Linear.{UnitCode, unexpected}
use Rattle.linear_forms.specs.Stub.{call_unexpected}
use Rattle.linear_forms.specs.Activation.{State}
use Rattle.machine_pieces.specs.Frames.{AddressAt}
use Rattle.machine_pieces.proofs.Turning.{executes_turns, turns_then}
use Rattle.machine_stubs.specs.Stretches.{Stands as StubStands}
use Rattle.machine_stubs.proofs.Walking.{update, walk_begins, walk_addi, walk_load, walk_store, slot_stays, down, up, small_number}
use Rattle.machine_stubs.proofs.Ending.{path, word_at}
use Rattle.machine_simulation.specs.Plan.{Plan}
use Rattle.machine_simulation.proofs.Matching.{Stands}
use Rattle.machine_simulation.proofs.Floors.{caller_above}
use Rattle.machine_exceptions.specs.Unexpected.{AtUnexpected}
use Rattle.machine_exceptions.proofs.EndCatching.{room_below}
use Rattle.unexpected_calls.proofs.Called.{called}
use Rattle.step_law.proofs.Checking.{FirstUnshown}

-- its frame is there, its caller's address is kept, and what was stopped is passed on
four_words : (image : Image) (u : UnitCode) (base stopped : ℕ) (w : abi.World) → 80 ≤ x w.hart 2 → StubStands u base call_unexpected 0 (x w.hart 2 - 80) 80 w.hart → AddressAt w.hart.memory (x w.hart 2 - 80 + 72) stopped → FirstUnshown image 4 w
four_words image u base stopped w enough stands held =
    let s : Hart = w.hart in
    let low : ℕ = x s 2 - 80 in
    let p = path u base call_unexpected low 80 s stands.room in
    let below = stands.room.below in
    let file1 : ℕ → ℕ = update 2 low (λ r. x s r) in
    let file3 : ℕ → ℕ = update 10 stopped file1 in
    let m1 : List Part = with_value s.memory (low + 8) 8 (x s 1) in
    let w0 = walk_begins p 40 stands.pc stands.registers in
    let w1 = walk_addi p 0 40 2 2 4016 low (λ r. x s r) s.memory (omega arith) (omega arith) w0 (word_at stands 0 refl) (down (x s 2) 80 (omega arith) (omega arith) enough (omega (arith, below))) in
    let w2 = walk_store p 1 41 2 1 8 8 (x s 1) file1 s.memory w1 (word_at stands 1 refl) (up low 8 (omega arith) (omega (arith, below))) refl refl (omega arith) in
    let w3 = walk_load p 2 42 10 2 72 (low + 72) stopped file1 m1 (omega arith) (omega arith) w2 (word_at stands 2 refl) (up low 72 (omega arith) (omega (arith, below))) (slot_stays low 8 (x s 1) 72 stopped s.memory (inl (omega arith)) held) in
    let w4 = walk_addi p 3 43 17 0 18 18 file3 m1 (omega arith) (omega arith) w3 (word_at stands 3 refl) (small_number 18 (omega arith)) in
    let ran = executes_turns image 4 w s w4.after refl w4.runs in
    record { after = ran.after; runs = ran.turns }

-- at least four
pub record SomeUnshown (image : Image) (least : ℕ) (w : abi.World) : Type 0 where
  pub many : ℕ
  pub enough : least ≤ many
  pub first : FirstUnshown image many w

pub called_unshown : (image : Image) (p : Plan) (n o s e : ℕ) (z : ℤ) (st : State) (w : abi.World) (back : ℕ) → Stands p n st w back → AtUnexpected p n o s e z st → SomeUnshown image 4 w
called_unshown image p n o s e z st w back h at =
    let first = called image p n o s e z st w back h at in
    let w1 : abi.World = first.after in
    let c = first.holds.calls in
    let stack : ℕ = x w1.hart 2 in
    let high : 0x7000_1000 ≤ stack = caller_above p n st.top.place st.top.frame st.world w1.hart.memory stack back (unexpected o s) at.there refl c.memory.top in
    let stands : StubStands p.unit p.base call_unexpected 0 (stack - 80) 80 w1.hart = record {
      pc = c.pc;
      registers = c.registers;
      code = c.memory.unit.stubs.call_unexpected;
      room = room_below w1.hart.memory stack 80 c.memory.may (omega (arith, high)) (omega (arith, c.memory.top.below)) (omega (arith, c.memory.top.saved.aligned)) refl;
    } in
    let second = four_words image p.unit p.base (p.at (of_exception e)) w1 (omega (arith, high)) stands c.stopped in
    record { many = first.turns + 4; enough = omega arith; first = record { after = second.after; runs = turns_then image first.turns 4 w w1 second.after [] [] first.runs second.runs } }
