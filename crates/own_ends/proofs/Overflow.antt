-- The destructor of an exception's object finds no room for its frame.
use Rattle.std.proofs.Common.{◌≡◌, ◌∙◌, refl, sym, ap, subst, arith, ℕ, ◌+◌, ◌-◌, ◌%◌, ◌^◌, ◌<◌, ◌≤◌, true, List, [], ◌∷◌, ◌++◌, length, Some, false}
use Rattle.meaning_forms.specs.World.{Installed}
use Rattle.run_items.specs.declared.item.Item.{Item}
use Rattle.run_items.specs.declared.item.Item.TheVariants.{Leave, Destroy}
use Rattle.rv64_isa.specs.State.{State}
use Rattle.rv64_isa.specs.Step.{x}
use Rattle.caught_stack.specs.declared.ended.Ended.TheVariants.{Last}
use Rattle.caught_stack.specs.declared.header.Header.{Header}
use Rattle.caught_stack.specs.declared.header.HeaderKind.TheVariants.{Native}
use Rattle.caught_stack.specs.Exceptions.{Exceptions}
use Rattle.caught_stack.specs.End.{ended}
use Rattle.cxa_runtime.specs.declared.effect.End as machine
use Rattle.cxa_runtime.specs.declared.effect.End.TheVariants.{Stack}
use Rattle.cxa_runtime.specs.declared.object.Object.{Object}
use Rattle.cxa_runtime.specs.World as abi
use Rattle.cxa_runtime.specs.Raising.{Image}
use Rattle.cxa_runtime.specs.Run.{Ran, run}
use Rattle.region_forms.specs.Caught.{Entry, is_last}
use Rattle.region_forms.specs.World.{World, native}
use Rattle.region_forms.specs.Lives.{is_built}
use Rattle.linear_forms.specs.Stub.{end_catch}
use Rattle.linear_forms.specs.Activation.{State as LinearState, goes_to}
use Rattle.linear_forms.specs.Machine.{step}
use Rattle.linear_forms.specs.UnitRun.{code_of}
use Rattle.machine_forms.specs.Registers.{ra, sp}
use Rattle.machine_pieces.specs.Standing.{address}
use Rattle.machine_pieces.specs.Turning.{with_items, Turns}
use Rattle.machine_stubs.specs.Stretches.{stub_word, Stands as StubStands}
use Rattle.machine_stubs.specs.CallUnexpected.{UnexpectedEnds}
use Rattle.machine_stubs.specs.Destroys.{EndCatchDestroys}
use Rattle.machine_simulation.specs.Plan.{Plan, function, shape, slot_kinds, first_word, setting}
use Rattle.machine_simulation.specs.Calls.{frame_of, open_bytes, stack_end}
use Rattle.machine_simulation.specs.Exceptions.{Addresses, addresses_of, exceptions_in, kept_by, destroyed, live_in, record_address, ExceptionsMatch}
use Rattle.machine_simulation.specs.Matches.{FrameIs, UnitStands, StackMay}
use Rattle.machine_simulation.specs.Objects.{Shows}
use Rattle.machine_simulation.proofs.Words.{even_base}
use Rattle.machine_simulation.proofs.Matching.{stands_by, runtime_stays}
use Rattle.machine_simulation.proofs.Holding.{unit_stays, stack_stays}
use Rattle.machine_simulation.proofs.Calling.{stack_at}
use Rattle.machine_simulation.proofs.Given.{same_beside}
use Rattle.machine_exceptions.specs.Leaves.{StepsTo, destroying}
use Rattle.machine_exceptions.specs.Destroys.{waiting_catch, object_passed, in_destructor}
use Rattle.machine_exceptions.proofs.Headers.{slot_below}
use Rattle.machine_exceptions.proofs.Enters.{exception_is}
use Rattle.machine_exceptions.proofs.Left.{ended_last}
use Rattle.machine_exceptions.proofs.EndCatching.{room_below, catch_called}
use Rattle.machine_exceptions.proofs.CatchSteps.{in_catch, no_words, leave_step, last_step}
use Rattle.machine_exceptions.proofs.Leaves.{leaving}
use Rattle.machine_exceptions.proofs.LastLeft.{caught_header, items_then}
use Rattle.stack_bounds.specs.Overflow.{FindsNoRoom, FunctionsOverflow}
use Rattle.raise_ends.specs.Ends.{RunEnds}
use Rattle.own_ends.specs.Overflow.{DestructorsOverflow}
use Rattle.own_ends.proofs.Bytes.{waiting_end}
use Rattle.own_ends.proofs.Beginning.{has_destructor}
use Rattle.own_ends.proofs.Calling.{catch_begins, at_catch}
use Rattle.own_ends.proofs.Left.{calls_at}

-- ---- behind turns

-- items that are shown in front of an end
pub ends_later : (image : Image) (pick : ℕ → ℕ) (j n : ℕ) (w v : abi.World) (front items : List Item) (end : machine.End) → Turns image n w v front → n ≤ j → RunEnds image pick (j - n) v items end → RunEnds image pick j w (front ++ items) end
ends_later image pick j n w v front items end runs few rest =
    let whole : n + (j - n) ≡ j = omega (arith, few) in
    let same : run image pick j w ≡ with_items front (run image pick (j - n) v) = ap (λ m. run image pick m w) (sym whole) ∙ runs.run pick (j - n) in
    (ap (λ (r : Ran). r.items) same ∙ ap (λ is. front ++ is) rest.0, ap (λ (r : Ran). r.end) same ∙ rest.1)

-- ---- from end_catch's first word

-- the hart there, in memory where the unit stands, and the stack above
record AtFirst (p : Plan) (w : abi.World) : Type 0 where
  pc : w.hart.pc ≡ stub_word p.base end_catch 0
  registers : length w.hart.regs ≡ 32
  small : x w.hart ra < 2 ^ 64
  low : 0x7000_0fb0 ≤ x w.hart sp
  high : x w.hart sp ≤ 0x7100_0000
  even : x w.hart sp % 8 ≡ 0
  unit : UnitStands p w.hart.memory
  may : StackMay w.hart.memory

overflows_there : EndCatchDestroys → FunctionsOverflow → (image : Image) (pick : ℕ → ℕ) (j : ℕ) (p : Plan) (st : LinearState) (y : Entry) (ys : List Entry) (type d : ℕ) (kept : Installed) (w : abi.World) → AtFirst p w →
    ExceptionsMatch (addresses_of p) (destroyed st.frames) (exceptions_in st.world) (kept_by w) → st.world.caught ≡ y ∷ ys → is_last y ≡ true → live_in st.world.live y.number ≡ Some (native type (Some d) kept) → d < length p.unit.functions → (shape p d).leaf ≡ false →
    x w.hart sp < 0x7000_1000 + (shape p d).size + 48 → 18 ≤ j → RunEnds image pick j w (Leave y.number ∷ Destroy y.number ∷ []) Stack
overflows_there destroys overflow image pick j p st y ys type d kept w at m caught last there known looks short many =
    let v : World = st.world in
    let e : ℕ = y.number in
    let s : State = w.hart in
    let stack : ℕ = x s sp in
    let places : Addresses = addresses_of p in
    let l = leaving p st y ys w m caught in
    let slot : ℕ = l.new.slot in
    let header : Header = l.new.here.0.header in
    let o : Object = record { slot = slot; header = header } in
    let es : Exceptions = (ended w.exceptions).1 in
    let first : ℕ = address (setting p d).ground (first_word p d) in
    let code = (at.unit.functions d known).0 in
    let even = even_base p s.memory at.unit in
    let frame_is : FrameIs (function p d) = at.unit.frames d known in
    let kind : header.kind ≡ Native (record_address p.base type) first = has_destructor places type d kept header (caught_header places (destroyed st.frames) (exceptions_in v) (kept_by w) e slot (native type (Some d) kept) m l.new.here there) in
    let ends : ended w.exceptions ≡ (Some (Last slot), es) = l.ends ∙ ap (λ z. (Some z, es)) (ended_last y slot l.new.count l.new.counted last) in
    let below = slot_below w.exceptions.live slot header l.new.here.0.there in
    let stands : StubStands p.unit p.base end_catch 0 (stack - 56) 56 s
    = record { pc = at.pc; registers = at.registers; code = at.unit.stubs.end_catch; room = room_below s.memory stack 56 at.may (omega (arith, at.low)) at.high at.even refl } in
    let come = destroys.calls image p.unit p.base o (record_address p.base type) first es w (omega (arith, at.low)) stands at.small l.object kind ends (omega (arith, below, m.sound.slots))
    (λ zero. absurd (omega (arith, zero))) (omega (arith, even)) (omega (arith, code.word.below)) in
    let t : abi.World = come.after in
    let ad = come.holds in
    let pointer : x t.hart sp ≡ stack - 48 = omega (arith, ad.pointer, at.low) in
    let few = come.few in
    let no_room : FindsNoRoom p d t = record {
      known = known;
      looks = looks;
      registers = ad.registers;
      pc = ad.pc;
      aligned = omega (arith, pointer, at.even, at.low);
      above = omega (arith, pointer, at.low, frame_is.small);
      short = omega (arith, pointer, short, at.low);
      below = omega (arith, pointer, at.high);
      unit = unit_stays p s.memory t.hart.memory ad.beside.written at.unit;
      may = stack_stays s.memory t.hart.memory ad.beside.written at.may;
    } in
    let over = overflow image pick (j - come.turns) p d t no_room (omega (arith, few, many)) in
    let all = ends_later image pick j come.turns w t (Leave header.number ∷ Destroy header.number ∷ []) [] Stack come.runs (omega (arith, few, many)) (over.items, over.end) in
    subst (λ n. RunEnds image pick j w (Leave n ∷ Destroy n ∷ []) Stack) l.new.here.0.number all

-- ---- of a compiled function, and of call_unexpected

steps_there : (p : Plan) (st : LinearState) (y : Entry) (ys : List Entry) (type d : ℕ) (kept : Installed) → step (code_of p.unit) st ≡ goes_to (in_catch st 0 no_words st.world) → st.world.caught ≡ y ∷ ys → is_last y ≡ true →
    live_in st.world.live y.number ≡ Some (native type (Some d) kept) → let e = y.number in let next = in_destructor p d e st in StepsTo (code_of p.unit) 3 st next × Shows st next (Leave e ∷ Destroy e ∷ [])
steps_there p st y ys type d kept called caught last there =
    let e : ℕ = y.number in
    let v : World = destroying e st.world in
    let is = exception_is st.world.live e (native type (Some d) kept) there in (
      (
        in_catch st 0 no_words st.world,
        called,
        (record { top = waiting_catch d e; frames = st.top ∷ st.frames; world = v }, last_step p st y ys (native type (Some d) kept) caught (ap is_built is) last is, (in_destructor p d e st, refl, refl)),
      ),
      (same_beside (slot_kinds p d) v.calls 0 (object_passed e) v).items ∙ items_then st.world y ys (Destroy e ∷ []) caught,
    )

pub destructors_overflow : UnexpectedEnds → EndCatchDestroys → FunctionsOverflow → DestructorsOverflow
destructors_overflow ends destroys overflow = record {
  compiled = λ image pick j p n st middle y ys type d kept w h at last there lacks many.
      let e : ℕ = y.number in
      let stood = stands_by p n st w h at.at.runs in
      let c = catch_called image p n st w h.back stood at.at.there in
      let w1 : abi.World = c.after in
      let r = runtime_stays p st.frames st.world w w1 c.runtime stood.runtime in
      let end_at : x w.hart sp + open_bytes p (st.top ∷ st.frames) ≡ stack_end = stack_at p n st w h.back stood in
      let steps = steps_there p st y ys type d kept (leave_step p n st middle at.at) at.caught last there in
      let first : AtFirst p w1 = record {
        pc = c.pc;
        registers = c.registers;
        small = c.back_below;
        low = omega (arith, c.high);
        high = c.low;
        even = c.even;
        unit = subst (UnitStands p) (sym c.memory) stood.memory.unit;
        may = c.may;
      } in
      let over = overflows_there destroys overflow image pick (j - 2) p st y ys type d kept w1 first r.exceptions at.caught last there lacks.known lacks.looks (omega (arith, c.stack, end_at, lacks.lacks)) (omega (arith, many)) in
      (steps.0, steps.1, ends_later image pick j 2 w w1 [] (Leave e ∷ Destroy e ∷ []) Stack c.runs (omega (arith, many)) over);
  own = λ image pick j p place k st y ys type d kept w h last there lacks many.
      let e : ℕ = y.number in
      let begins = catch_begins ends image p place k st w h.leaves in
      let w1 : abi.World = begins.after in
      let b = begins.holds in
      let at = at_catch p place k st w1 b h.called in
      let end_at : x w1.hart sp + 80 + open_bytes p st.frames ≡ stack_end = waiting_end p st.frames st.world w1.hart.memory (x w1.hart sp + 80) b.back st.world.calls b.memory.waiting in
      let frame80 : frame_of p.unit p.hidden st.top.function ≡ 80 = ap (frame_of p.unit p.hidden) b.runs in
      let s = calls_at ends image p place k st w h.leaves in
      let steps = steps_there p st y ys type d kept s.calls h.caught last there in
      let few = begins.few in
      let first : AtFirst p w1 = record {
        pc = b.pc;
        registers = b.registers;
        small = at.small;
        low = omega (arith, at.low);
        high = omega (arith, at.high);
        even = at.even;
        unit = b.memory.unit;
        may = b.memory.may;
      } in
      let over = overflows_there destroys overflow image pick (j - begins.turns) p (in_catch st 0 no_words st.world) y ys type d kept w1 first b.runtime.exceptions h.caught last there lacks.known lacks.looks
      (omega (arith, end_at, frame80, lacks.lacks)) (omega (arith, few, many)) in
      (steps.0, steps.1, ends_later image pick j begins.turns w w1 [] (Leave e ∷ Destroy e ∷ []) Stack begins.runs (omega (arith, few, many)) over);
}
