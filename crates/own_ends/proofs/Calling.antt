-- call_unexpected calls end_catch for one of its handlers, and end_catch comes back.
use Rattle.std.proofs.Common.{◌≡◌, ◌∙◌, refl, sym, ap, subst, arith, ℕ, ◌+◌, ◌-◌, ◌%◌, ◌^◌, ◌<◌, ◌≤◌, pos, List, [], ◌∷◌, length, Some, inl, inr}
use Rattle.rv64_isa.specs.State.{State, Part}
use Rattle.rv64_isa.specs.Step.{x}
use Rattle.caught_stack.specs.Exceptions.{Exceptions}
use Rattle.cxa_runtime.specs.World as abi
use Rattle.cxa_runtime.specs.Raising.{Image}
use Rattle.region_forms.specs.Form.{leave}
use Rattle.region_forms.specs.World.{Word, nothing, number_word, address_word, flying, unwinding, Frame, World}
use Rattle.region_forms.specs.Effect.{finished}
use Rattle.linear_forms.specs.Linear.{plain}
use Rattle.linear_forms.specs.Stub.{Function, end_catch, call_unexpected, linear}
use Rattle.linear_forms.specs.Activation.{Code, Activation, State as LinearState, goes_to, fetch, kinds}
use Rattle.linear_forms.specs.Machine.{act_on, step}
use Rattle.linear_forms.specs.Operation.{settled, wanted_by}
use Rattle.linear_forms.specs.UnitRun.{code_of}
use Rattle.machine_forms.specs.Registers.{ra, sp, a0}
use Rattle.machine_forms.specs.Shape.{return_offset}
use Rattle.machine_pieces.specs.Memory.{Apart}
use Rattle.machine_pieces.specs.Frames.{AddressAt}
use Rattle.machine_pieces.specs.Keeping.{saved_of}
use Rattle.machine_pieces.specs.Turning.{Reaches}
use Rattle.machine_pieces.proofs.Turning.{no_turns}
use Rattle.machine_stubs.specs.Stretches.{stub_word, frame_size, Room, Stands}
use Rattle.machine_stubs.specs.CallUnexpected.{thrown_slot, selector_slot, UnexpectedEnds}
use Rattle.machine_stubs.specs.ComesBack.{CameBack}
use Rattle.machine_simulation.specs.Plan.{Plan}
use Rattle.machine_simulation.specs.StubCalls.{KeepsFlying}
use Rattle.machine_simulation.proofs.Words.{even_base}
use Rattle.machine_simulation.proofs.Matching.{runtime_stays}
use Rattle.machine_simulation.proofs.Freeing.{IsFree}
use Rattle.machine_simulation.proofs.Floors.{stub_floor}
use Rattle.machine_exceptions.specs.Leaves.{behind}
use Rattle.machine_exceptions.proofs.EndCatching.{room_below}
use Rattle.machine_exceptions.proofs.CatchSteps.{in_catch, no_words}
use Rattle.machine_raises.specs.Pads.{PadGets}
use Rattle.stub_landings.specs.Rests.{StubMemory, StubRegisters, StubRests, LeavesBoth, LeavesOn}
use Rattle.own_ends.specs.Callers.{CalledBy}
use Rattle.own_ends.specs.Leaving.{IsLeaving, CatchBegins, Leaving}
use Rattle.own_ends.proofs.Registers.{registers_below, registers_at}
use Rattle.own_ends.proofs.Memory.{stub_beside, Called, called_by, address_beside, flying_beside}

-- ---- the steps

pub own_leave : (code : Code) (f : Function) (n place k : ℕ) → f ≡ call_unexpected → n ≡ place → IsLeaving place k → fetch code f n ≡ Some (linear (plain leave))
own_leave code f n place k is at (inl (one, two)) = ap (λ g. fetch code g n) is ∙ ap (fetch code call_unexpected) (at ∙ one)
own_leave code f n place k is at (inr (one, two)) = ap (λ g. fetch code g n) is ∙ ap (fetch code call_unexpected) (at ∙ one)

-- end_catch is called
pub call_step : (p : Plan) (place k : ℕ) (st : LinearState) (w : abi.World) → CatchBegins p place k st w → step (code_of p.unit) st ≡ goes_to (in_catch st 0 no_words st.world)
call_step p place k st w c = ap (λ o. act_on (code_of p.unit) o st.top st.frames st.world) (own_leave (code_of p.unit) st.top.function st.top.place place k c.runs c.there c.which)

-- and comes back
pub return_step : (p : Plan) (place k : ℕ) (st : LinearState) (w : abi.World) (frame : Frame) (v : World) → CatchBegins p place k st w → step (code_of p.unit) (in_catch st 3 frame v) ≡ goes_to (behind st v)
return_step p place k st w frame v c =
    ap (λ o. settled (finished (kinds (code_of p.unit) st.top.function) (wanted_by o) (pos 0) st.top.frame v) st.top st.frames v) (own_leave (code_of p.unit) st.top.function st.top.place place k c.runs c.there c.which)

-- ---- up to end_catch's first word

pub frame_room : (p : Plan) (f : Function) (fs : List Activation) (v : World) (memory : List Part) (stack back : ℕ) → StubMemory p f fs v memory stack back → Room stack (frame_size f) memory
frame_room p f fs v memory stack back h = record {
  aligned = omega (arith, h.stands.saved.aligned);
  below = omega (arith, h.stands.below);
  may = λ o n inside. h.may (stack + o) n (omega (arith, stub_floor f stack h.stands.above)) (omega (arith, h.stands.below, inside));
}

pub unexpected_stands : (p : Plan) (k : ℕ) (st : LinearState) (w : abi.World) → StubRests p call_unexpected k st w → Stands p.unit p.base call_unexpected k (x w.hart sp) (frame_size call_unexpected) w.hart
unexpected_stands p k st w r = record {
  pc = r.pc;
  registers = r.registers;
  code = r.memory.unit.stubs.call_unexpected;
  room = frame_room p call_unexpected st.frames st.world w.hart.memory (x w.hart sp) r.back r.memory;
}

-- what a pad got is an address
pub gets_below : (p : Plan) (v : World) (word : Word) (a : ℕ) → PadGets p v word a → a < 2 ^ 64
gets_below p v nothing a h = absurd h
gets_below p v (number_word z) a h = absurd h
gets_below p v (address_word b) a h = absurd h
gets_below p v (flying e d) a h = h.2
gets_below p v (unwinding n) a h = omega (arith, h)

-- and is kept
pub gets_kept : (p : Plan) (v : World) (word : Word) (a : ℕ) (memory : List Part) (at : ℕ) → PadGets p v word a → AddressAt memory at a → KeepsFlying p word v memory at
gets_kept p v nothing a memory at h there = absurd h
gets_kept p v (number_word z) a memory at h there = absurd h
gets_kept p v (address_word b) a memory at h there = absurd h
gets_kept p v (flying e d) a memory at h there = inl (record { number = e; is = refl; made = h.0; there = subst (AddressAt memory at) h.1 there })
gets_kept p v (unwinding n) a memory at h there = inr (n, refl, subst (AddressAt memory at) h there)

first_begins : UnexpectedEnds → (image : Image) (p : Plan) (st : LinearState) (w : abi.World) → LeavesBoth p st w → Reaches image 4 w [] (λ u. CatchBegins p 15 55 st u)
first_begins ends image p st w h =
    let r = h.rests in
    let s : State = w.hart in
    let low : ℕ = x s sp in
    let m = r.memory in
    let word : Word = st.top.frame.slots 4 in
    let came = ends.leaves_the_thrown image p.unit p.base (x s a0) w m.unit.few (unexpected_stands p 51 st w r) refl (gets_below p st.world word (x s a0) h.gets) in
    let t : abi.World = came.after in
    let at = came.holds in
    let b = at.holds in
    let floor = m.stands.above in
    let free : IsFree (low + frame_size call_unexpected) (low + selector_slot) 16 = record { low = omega (arith, floor); high = omega arith } in
    let kept = stub_beside p call_unexpected st.frames st.world s.memory t.hart.memory low r.back (low + selector_slot) 16 m free b.2
    (address_beside (low + selector_slot) 16 (low + return_offset) r.back s.memory t.hart.memory b.2 (λ i j hi hj e. omega (arith, hi, hj, e)) m.stands.saved) in
    record {
      turns = came.turns;
      few = came.few;
      after = t;
      runs = came.runs;
      holds = record {
        which = inl (refl, refl);
        back = r.back;
        runs = r.runs;
        there = h.place;
        registers = at.registers;
        pc = at.there;
        returns = b.0;
        memory = subst (λ a. StubMemory p call_unexpected st.frames st.world t.hart.memory a r.back) (sym at.pointer) kept;
        runtime = runtime_stays p (st.top ∷ st.frames) st.world w t at.kept.runtime r.runtime;
        thrown = subst (λ a. KeepsFlying p word st.world t.hart.memory (a + thrown_slot)) (sym at.pointer) (gets_kept p st.world word (x s a0) t.hart.memory (low + thrown_slot) h.gets b.1);
        kept = registers_at p call_unexpected st.frames st.world t.hart.memory low (saved_of s) t.hart refl at.pointer at.variables
            (registers_below p call_unexpected st.frames st.world s.memory t.hart.memory low r.back (low + selector_slot) 16 (saved_of s) m free b.2 r.kept);
      };
    }

second_begins : UnexpectedEnds → (image : Image) (p : Plan) (st : LinearState) (w : abi.World) → LeavesOn p 55 16 st w → Reaches image 2 w [] (λ u. CatchBegins p 16 57 st u)
second_begins ends image p st w h =
    let r = h.rests in
    let s : State = w.hart in
    let low : ℕ = x s sp in
    let word : Word = st.top.frame.slots 4 in
    let came = ends.leaves_the_stopped image p.unit p.base w r.memory.unit.few (unexpected_stands p 55 st w r) in
    let t : abi.World = came.after in
    let at = came.holds in
    let b = at.holds in
    record {
      turns = came.turns;
      few = came.few;
      after = t;
      runs = came.runs;
      holds = record {
        which = inr (refl, refl);
        back = r.back;
        runs = r.runs;
        there = h.there;
        registers = at.registers;
        pc = at.there;
        returns = b.0;
        memory = subst (λ a. StubMemory p call_unexpected st.frames st.world t.hart.memory a r.back) (sym at.pointer) (subst (λ ps. StubMemory p call_unexpected st.frames st.world ps low r.back) (sym b.1) r.memory);
        runtime = runtime_stays p (st.top ∷ st.frames) st.world w t at.kept.runtime r.runtime;
        thrown = subst (λ a. KeepsFlying p word st.world t.hart.memory (a + thrown_slot)) (sym at.pointer) (subst (λ ps. KeepsFlying p word st.world ps (low + thrown_slot)) (sym b.1) h.thrown);
        kept = registers_at p call_unexpected st.frames st.world s.memory low (saved_of s) t.hart b.1 at.pointer at.variables r.kept;
      };
    }

pub catch_begins : UnexpectedEnds → (image : Image) (p : Plan) (place k : ℕ) (st : LinearState) (w : abi.World) → Leaving p place k st w → Reaches image 4 w [] (λ u. CatchBegins p place k st u)
catch_begins ends image p place k st w (inl (h, at, word)) =
    subst (λ n. Reaches image 4 w [] (λ u. CatchBegins p n k st u)) (sym at) (subst (λ n. Reaches image 4 w [] (λ u. CatchBegins p 15 n st u)) (sym word) (first_begins ends image p st w h))
catch_begins ends image p place k st w (inr (inl (h, at, word))) =
    let came = second_begins ends image p st w h in
    subst (λ n. Reaches image 4 w [] (λ u. CatchBegins p n k st u)) (sym at) (subst (λ n. Reaches image 4 w [] (λ u. CatchBegins p 16 n st u)) (sym word)
    (record { turns = came.turns; few = omega (arith, came.few); after = came.after; runs = came.runs; holds = came.holds }))
catch_begins ends image p place k st w (inr (inr c)) = record { turns = 0; few = omega arith; after = w; runs = no_turns image w; holds = c }

-- ---- from its first word

-- what is known there: bytes below the frame, and the return address
pub record AtCatch (p : Plan) (place k : ℕ) (st : LinearState) (w : abi.World) (b : CatchBegins p place k st w) (c : CalledBy st.frames) : Type 0 where
  pub called : Called p call_unexpected c.number c.caller c.others st.world w.hart.memory (x w.hart sp) b.back
  pub low : 0x7000_0fb0 ≤ x w.hart sp
  pub high : x w.hart sp + 80 ≤ 0x7100_0000
  pub even : x w.hart sp % 8 ≡ 0
  pub aligned : x w.hart ra % 4 ≡ 0
  pub small : x w.hart ra < 2 ^ 64
  pub stands : Stands p.unit p.base end_catch 0 (x w.hart sp - 48) 48 w.hart

pub at_catch : (p : Plan) (place k : ℕ) (st : LinearState) (w : abi.World) (b : CatchBegins p place k st w) (c : CalledBy st.frames) → AtCatch p place k st w b c
at_catch p place k st w b c =
    let s : State = w.hart in
    let m = b.memory in
    let called = called_by p call_unexpected st.frames st.world s.memory (x s sp) b.back m c in
    let base = even_base p s.memory m.unit in
    let code = (m.unit.functions c.number called.matches.top.known).0 in
    let last : k ≤ 57 = below_last b.which in
    let floor = m.stands.above in
    let low : 0x7000_0fb0 ≤ x s sp = omega (arith, floor) in
    let high : x s sp + 80 ≤ 0x7100_0000 = omega (arith, m.stands.below) in
    let even : x s sp % 8 ≡ 0 = omega (arith, m.stands.saved.aligned) in
    record {
      called = called;
      low = low;
      high = high;
      even = even;
      aligned = omega (arith, b.returns, base);
      small = omega (arith, b.returns, code.word.below, last);
      stands = record { pc = b.pc; registers = b.registers; code = m.unit.stubs.end_catch; room = room_below s.memory (x s sp) 48 m.may (omega (arith, low)) (omega (arith, high)) even refl };
    }
  where
    below_last : IsLeaving place k → k ≤ 57
    below_last (inl (at, word)) = omega (arith, word)
    below_last (inr (at, word)) = omega (arith, word)

-- it has come back
pub record Back (p : Plan) (k : ℕ) (st : LinearState) (back : ℕ) (t : abi.World) : Type 0 where
  pub registers : length t.hart.regs ≡ 32
  pub pc : t.hart.pc ≡ stub_word p.base call_unexpected k
  pub memory : StubMemory p call_unexpected st.frames st.world t.hart.memory (x t.hart sp) back
  pub thrown : KeepsFlying p (st.top.frame.slots 4) st.world t.hart.memory (x t.hart sp + thrown_slot)
  pub kept : StubRegisters p call_unexpected st.frames st.world t.hart.memory (x t.hart sp) (saved_of t.hart)

pub came_back : (p : Plan) (place k : ℕ) (st : LinearState) (w t : abi.World) (e : Exceptions) (b : CatchBegins p place k st w) (c : CalledBy st.frames) → AtCatch p place k st w b c → CameBack (x w.hart ra) (x w.hart sp) (x w.hart sp - 48) 48 e w t →
    Back p k st b.back t
came_back p place k st w t e b c at came =
    let s : State = w.hart in
    let stack : ℕ = x s sp in
    let low : ℕ = stack - 48 in
    let free : IsFree (stack + 80) low 48 = record { low = omega (arith, at.low); high = omega arith } in
    let out : (o n : ℕ) → Apart low 48 (stack + o) n = λ o n i j hi hj same. omega (arith, at.low, hi, hj, same) in
    let saved = address_beside low 48 (stack + return_offset) b.back s.memory t.hart.memory came.beside (out return_offset 8) b.memory.stands.saved in
    let kept = stub_beside p call_unexpected st.frames st.world s.memory t.hart.memory stack b.back low 48 b.memory free came.beside saved in
    let thrown = flying_beside p (st.top.frame.slots 4) st.world low 48 (stack + thrown_slot) s.memory t.hart.memory came.beside (out thrown_slot 8) b.thrown in
    record {
      registers = came.registers;
      pc = came.pc ∙ b.returns;
      memory = subst (λ a. StubMemory p call_unexpected st.frames st.world t.hart.memory a b.back) (sym came.pointer) kept;
      thrown = subst (λ a. KeepsFlying p (st.top.frame.slots 4) st.world t.hart.memory (a + thrown_slot)) (sym came.pointer) thrown;
      kept = registers_at p call_unexpected st.frames st.world t.hart.memory stack (saved_of s) t.hart refl came.pointer came.variables
          (registers_below p call_unexpected st.frames st.world s.memory t.hart.memory stack b.back low 48 (saved_of s) b.memory free came.beside b.kept);
    }
