-- Leaving the last handler of an exception with a destructor is matched up to the destructor.
use Rattle.std.specs.Prelude.{slice_get}
use Rattle.std.proofs.Common.{◌≡◌, ◌∙◌, refl, sym, ap, subst, arith, ℕ, ◌+◌, ◌-◌, ◌*◌, ◌%◌, ◌^◌, ◌<◌, ◌≤◌, List, [], ◌∷◌, ◌++◌, length, Some, is_some, true, false}
use Rattle.meaning_forms.specs.World.{Installed}
use Rattle.run_items.specs.declared.item.Item.{Item}
use Rattle.run_items.specs.declared.item.Item.TheVariants.{Leave, Destroy}
use Rattle.rv64_isa.specs.State.{State, Part, with_value}
use Rattle.rv64_isa.specs.Step.{x}
use Rattle.caught_stack.specs.declared.ended.Ended.TheVariants.{Last}
use Rattle.caught_stack.specs.declared.header.Header.{Header}
use Rattle.caught_stack.specs.declared.header.HeaderKind.TheVariants.{Native}
use Rattle.caught_stack.specs.Allocate.{with_header}
use Rattle.caught_stack.specs.Exceptions.{Exceptions}
use Rattle.caught_stack.specs.End.{ended}
use Rattle.cxa_runtime.specs.declared.object.Object.{Object}
use Rattle.cxa_runtime.specs.Objects.{object_of}
use Rattle.cxa_runtime.specs.Leaving.{building_again}
use Rattle.cxa_runtime.specs.World as abi
use Rattle.cxa_runtime.specs.Raising.{Image}
use Rattle.region_forms.specs.Caught.{Entry, is_last}
use Rattle.region_forms.specs.World.{of_exception, World, Word, native}
use Rattle.region_forms.specs.Form.{leave}
use Rattle.region_forms.specs.Effect.{left, new_frame, new_world}
use Rattle.region_forms.specs.Lives.{is_built}
use Rattle.linear_forms.specs.Linear.{plain}
use Rattle.linear_forms.specs.Stub.{compiled, end_catch}
use Rattle.linear_forms.specs.Activation.{Activation, State as LinearState, depth_of}
use Rattle.machine_forms.specs.Registers.{ra, sp, saved_registers}
use Rattle.machine_forms.specs.Shape.{return_offset, prologue}
use Rattle.machine_forms.specs.Routine.{op_word}
use Rattle.machine_forms.specs.StubCode.{stub_words}
use Rattle.machine_forms.specs.Emitted.{function_first}
use Rattle.machine_forms.specs.KeptCode.{saves}
use Rattle.machine_pieces.specs.Memory.{Holds, MayWrite, Apart}
use Rattle.machine_pieces.specs.Standing.{address}
use Rattle.machine_pieces.specs.Frames.{AddressAt}
use Rattle.machine_pieces.specs.Turning.{Turns, Reaches, SameRuntime}
use Rattle.machine_pieces.proofs.Storing.{eight_stored, holds_apart}
use Rattle.machine_pieces.proofs.Turning.{turns_then, executes_turns}
use Rattle.machine_pieces.specs.Transfers.{lowest_sp, entry_steps}
use Rattle.machine_pieces.specs.Keeping.{saved_of}
use Rattle.machine_pieces.proofs.Keeping.{same_saved}
use Rattle.machine_stubs.specs.Stretches.{stub_word, Stands as StubStands}
use Rattle.machine_stubs.specs.EndCatch.{object_slot}
use Rattle.machine_stubs.specs.Destroys.{AtDestructor, EndCatchDestroys}
use Rattle.machine_simulation.specs.Plan.{Plan, function, shape, slot_kinds, routine, first_word, setting}
use Rattle.machine_simulation.specs.Calls.{open_bytes, stack_end}
use Rattle.machine_simulation.specs.Exceptions.{Addresses, LinearExceptions, addresses_of, exceptions_in, kept_by, destroyed, live_in, record_address, HeaderIs, ExceptionsMatch}
use Rattle.machine_simulation.specs.Matches.{FrameIs, RuntimeMatches, MemoryMatches, Matches, UnitStands}
use Rattle.machine_simulation.specs.Entering.{opened, frame_for, entry_turns}
use Rattle.machine_simulation.proofs.Words.{even_base}
use Rattle.machine_simulation.proofs.Matching.{stands_by, runtime_stays}
use Rattle.machine_simulation.proofs.Holding.{same_number}
use Rattle.machine_simulation.proofs.Lines.{matches_alike, registers_alike}
use Rattle.machine_simulation.proofs.Closing.{destroyed_nothing}
use Rattle.machine_simulation.proofs.Freeing.{beside_matches, free_matches, IsFree, registers_above, registers_beside}
use Rattle.machine_simulation.proofs.Calling.{stack_at, runtime_opened}
use Rattle.machine_simulation.proofs.Entered.{given_less}
use Rattle.machine_simulation.proofs.Given.{same_beside}
use Rattle.machine_simulation.specs.Objects.{Shows}
use Rattle.machine_simulation.specs.KeptCalls.{RegistersMatch}
use Rattle.machine_simulation.proofs.Floors.{lowest_floor, begin_above}
use Rattle.machine_exceptions.specs.Leaves.{AtLeave, destroying}
use Rattle.machine_exceptions.specs.Destroys.{waiting_catch, object_passed, in_destructor, MayDestroy, DestructorsBegin}
use Rattle.machine_exceptions.proofs.Headers.{slot_below}
use Rattle.machine_exceptions.proofs.Enters.{exception_is}
use Rattle.machine_exceptions.proofs.Left.{left_match, ended_last, last_out, let_go_match}
use Rattle.machine_exceptions.proofs.EndCatching.{room_below, catch_called}
use Rattle.machine_exceptions.proofs.ComingBack.{runtime_then}
use Rattle.machine_exceptions.proofs.CatchSteps.{in_catch, no_words, leave_step, last_step}
use Rattle.machine_exceptions.proofs.Leaves.{leaving}
use Rattle.machine_exceptions.proofs.LastLeft.{caught_whole, caught_header, items_then}
use Rattle.machine_exceptions.proofs.Saving.{saves_run}
use Rattle.machine_exceptions.proofs.Destroying.{entered_at, Begun, destructor_begun}

-- ---- the destructor's prologue

-- an address apart from the bytes that are written
pub address_apart : (memory : List Part) (a value b c : ℕ) → Apart a 8 b 8 → AddressAt memory b c → AddressAt (with_value memory a 8 value) b c
address_apart memory a value b c out h = record { aligned = h.aligned; below = h.below; holds = holds_apart memory a 8 value b 8 c out h.holds }

-- the word behind the destructor's call
catch_below : (p : Plan) (memory : List Part) → UnitStands p memory → stub_word p.base end_catch 13 < 2 ^ 64
catch_below p memory h = omega (arith, h.stubs.end_catch.0.word.below, h.few, h.stubs.call_unexpected.0.word.below)

-- the destructor's prologue
record DestructorEntered (image : Image) (p : Plan) (n d e : ℕ) (st : LinearState) (back outer : ℕ) (v : abi.World) : Type 0 where
  after : abi.World
  runs : Turns image (entry_steps (shape p d).leaf) v after []
  runtime : SameRuntime v after
  registers : length after.hart.regs ≡ 32
  pc : after.hart.pc ≡ address (setting p d).ground (first_word p d + length (prologue (shape p d)))
  stack : x after.hart sp ≡ x v.hart sp - (shape p d).size
  begun : Begun p n d e st.top.frame st.frames (destroying e st.world) after.hart.memory (x v.hart sp + 48) back outer (saved_of after.hart)

destructor_entered : (image : Image) (p : Plan) (n d e object : ℕ) (st : LinearState) (back outer low : ℕ) (es : Exceptions) (w v : abi.World) (active : List Activation) → MayDestroy p d e active →
    AtDestructor p.base (address (setting p d).ground (first_word p d)) object outer low 56 es w v → MemoryMatches p n st.top.frame st.frames st.world v.hart.memory (low + 56) back → RegistersMatch p n st.top.frame st.frames st.world v.hart.memory (low + 56) (saved_of v.hart) →
    p.live (of_exception e) ≡ true → p.at (of_exception e) ≡ object → lowest_sp (shape p d).leaf (shape p d).size ≤ low + 8 → 0x7000_1000 ≤ low + 56 → DestructorEntered image p n d e st back outer v
destructor_entered image p n d e object st back outer low es w v active ok at held regs live there least high =
    let s : State = v.hart in
    let unit = held.unit in
    let frame_is : FrameIs (function p d) = unit.frames d ok.known in
    let room : 0x7000_0000 + (shape p d).size ≤ low + 8 = lowest_floor (shape p d).leaf (shape p d).size (low + 8) frame_is.small least in
    let most = given_less p d (object_passed e) frame_is ok.passed ok.words in
    let base_even = even_base p s.memory unit in
    let enters = entered_at p d s unit held.may ok.known at.registers at.pc (subst (λ a. lowest_sp (shape p d).leaf (shape p d).size ≤ a) (sym at.pointer) least) (omega (arith, at.pointer, held.top.below)) (omega (arith, at.pointer, held.top.saved.aligned)) in
    let ran = executes_turns image (entry_steps (shape p d).leaf) v s enters.after refl enters.runs in
    let put : ℕ = x s sp - (shape p d).size + return_offset in
    let new : List Part = with_value s.memory put 8 (x s ra) in
    let memory : ran.after.hart.memory ≡ new = ap (λ (u : State). u.memory) ran.hart ∙ enters.memory in
    let kept = free_matches p n st.top.frame st.frames st.world s.memory (low + 56) back put 8 (x s ra) held (record { low = omega (arith, at.pointer, room); high = omega (arith, at.pointer, room, most) }) in
    let free : IsFree (low + 56) put 8 = record { low = omega (arith, at.pointer, room); high = omega (arith, at.pointer, room, most) } in
    let regs_new : RegistersMatch p n st.top.frame st.frames (destroying e st.world) new (low + 56) (saved_of s)
    = registers_alike p n st.top.frame st.frames st.world (destroying e st.world) new (low + 56) back (saved_of s) refl kept
    (registers_above p n st.top.frame st.frames st.world s.memory new (low + 56) back (saved_of s) held
    (λ b k y from there. holds_apart s.memory put 8 (x s ra) b k y (λ i j hi hj same. absurd (omega (arith, free.high, from, hi, same))) there) regs) in
    let saved : saved_of ran.after.hart ≡ saved_of s
    = ap saved_of ran.hart ∙ same_saved s enters.after (λ r k. enters.kept r (λ e1. absurd (omega (arith, k.above, e1))) (λ e1. absurd (omega (arith, k.above, e1)))) in
    let alike = matches_alike p n st.top.frame st.frames st.world (destroying e st.world) new (low + 56) back refl refl (same_number st.world) kept in
    let place : low + 56 ≡ x s sp + 48 = omega (arith, at.pointer) in
    let small : x s ra < 2 ^ 64 = omega (arith, at.returns, catch_below p s.memory unit) in
    let whole : x s ra % 2 ^ 64 ≡ x s ra = omega (arith, small) in
    let may : MayWrite s.memory put 8 = held.may put 8 (omega (arith, at.pointer, room)) (omega (arith, at.pointer, room, most, held.top.below)) in
    let object_at : (a : ℕ) → low ≤ a → a + 8 ≤ low + 56 → AddressAt s.memory a object → AddressAt new a (p.at (of_exception e)) = λ a from to h.
    subst (AddressAt new a) (sym there) (address_apart s.memory put (x s ra) a object (λ i j hi hj same. omega (arith, at.pointer, room, most, hi, hj, from, same)) h) in
    let begun : Begun p n d e st.top.frame st.frames (destroying e st.world) new (x s sp + 48) back outer (saved_of s) = record {
      matches = subst (λ a. MemoryMatches p n st.top.frame st.frames (destroying e st.world) new a back) place alike;
      registers = subst (λ a. RegistersMatch p n st.top.frame st.frames (destroying e st.world) new a (saved_of s)) place regs_new;
      low = subst (λ a. lowest_sp (shape p d).leaf (shape p d).size ≤ a) (omega (arith, place)) least;
      high = omega (arith, place, high);
      live = live;
      passed = subst (λ a. AddressAt new a (p.at (of_exception e))) (omega (arith, place)) (object_at low (omega arith) (omega arith) at.passed);
      kept = subst (λ a. AddressAt new a (p.at (of_exception e))) (omega (arith, place)) (object_at (low + 8 + object_slot) (omega arith) (omega arith) at.kept);
      saved = subst (λ a. AddressAt new a outer) (omega (arith, place))
          (address_apart s.memory put (x s ra) (low + 8 + return_offset) outer (λ i j hi hj same. omega (arith, at.pointer, room, most, hi, hj, same)) at.saved);
      returns = subst (λ a. AddressAt new a (stub_word p.base end_catch 13)) (omega (arith, place)) (subst (AddressAt new put) at.returns (record {
        aligned = omega (arith, at.pointer, held.top.saved.aligned, frame_is.size, room);
        below = omega (arith, at.pointer, held.top.below);
        holds = subst (Holds new put 8) whole (eight_stored s.memory put (x s ra) may);
      }));
    } in
    record {
      after = ran.after;
      runs = ran.turns;
      runtime = ran.runtime;
      registers = ap (λ (u : State). length u.regs) ran.hart ∙ enters.registers;
      pc = ap (λ (u : State). u.pc) ran.hart ∙ enters.pc;
      stack = ap (λ (u : State). x u sp) ran.hart ∙ enters.stack;
      begun = subst (λ ps. Begun p n d e st.top.frame st.frames (destroying e st.world) ps (x s sp + 48) back outer (saved_of ran.after.hart)) (sym memory)
          (subst (λ rs. Begun p n d e st.top.frame st.frames (destroying e st.world) new (x s sp + 48) back outer rs) (sym saved) begun);
    }

-- ---- up to its first operation

-- from end_catch's call on
record DestructorRuns (image : Image) (p : Plan) (d e low : ℕ) (st : LinearState) (w : abi.World) : Type 0 where
  after : abi.World
  runs : Turns image (entry_turns p d) w after []
  holds : Matches (opened p d (destroying e st.world).calls low) (in_destructor p d e st) after

destructor_runs : (image : Image) (p : Plan) (n d e : ℕ) (st : LinearState) (back outer low : ℕ) (w : abi.World) → DestructorEntered image p n d e st back outer w → let active = waiting_catch d e ∷ st.top ∷ st.frames in MayDestroy p d e active →
    st.top.function ≡ compiled n → slice_get (function p n).ops st.top.place ≡ Some (plain leave) → outer ≡ address (setting p n).ground (first_word p n + op_word (routine p n) (st.top.place + 1)) →
    RuntimeMatches p active (destroying e st.world) w → x w.hart sp - (shape p d).size ≡ low → DestructorRuns image p d e low st w
destructor_runs image p n d e st back outer low w entered ok runs there returns runtime low_is =
    let vd : World = destroying e st.world in
    let active : List Activation = waiting_catch d e ∷ st.top ∷ st.frames in
    let depth : ℕ = depth_of active + 1 in
    let given : List Word = object_passed e in
    let v : abi.World = entered.after in
    let place : ℕ = x v.hart sp in
    let q : Plan = opened p d vd.calls place in
    let u : World = new_world (slot_kinds p d) given depth vd in
    let words : ℕ = length (saves (shape p d) (function p d).parameters saved_registers (shape p d).kept) in
    let begun = destructor_begun p n d e depth st.top st.frames active vd v.hart (x w.hart sp + 48) back outer entered.begun ok runs there returns (entered.stack ∙ omega arith) entered.registers entered.pc in
    let saved = saves_run image q d (new_frame (slot_kinds p d) given vd) active u (stub_word p.base end_catch 13) words v begun (runtime_stays q active u w v entered.runtime (runtime_opened p d place active given depth vd w runtime)) in
    record {
      after = saved.after;
      runs = turns_then image (entry_steps (shape p d).leaf) words w v saved.after [] [] entered.runs saved.runs;
      holds = subst (λ a. Matches (opened p d vd.calls a) (in_destructor p d e st) saved.after) (entered.stack ∙ low_is) saved.holds;
    }

has_destructor : (t : Addresses) (type d : ℕ) (kept : Installed) (h : Header) → HeaderIs t false (native type (Some d) kept) h → h.kind ≡ Native (record_address t.base type) (t.base + 4 * (stub_words + function_first t.unit d))
has_destructor t type d kept h is = is.0.1 ∙ ap (Native (record_address t.base type)) is.0.2.0

few_begin : (a b : ℕ) → a ≤ 12 → 2 + a + b ≤ 14 + b
few_begin a b h = omega (arith, h)

destructor_begins : EndCatchDestroys → (image : Image) (p : Plan) (n : ℕ) (st middle : LinearState) (y : Entry) (ys : List Entry) (type d : ℕ) (kept : Installed) (w : abi.World) → Matches p st w → AtLeave p n st middle y ys → is_last y ≡ true →
    live_in st.world.live y.number ≡ Some (native type (Some d) kept) → let e = y.number in let active = waiting_catch d e ∷ st.top ∷ st.frames in MayDestroy p d e active →
    Reaches image (14 + entry_turns p d) w (Leave e ∷ Destroy e ∷ []) (λ u. Matches (opened p d (destroying e st.world).calls (frame_for p d active)) (in_destructor p d e st) u)
destructor_begins destroys image p n st middle y ys type d kept w h at last there ok =
    let v : World = st.world in
    let e : ℕ = y.number in
    let vd : World = destroying e v in
    let active : List Activation = waiting_catch d e ∷ st.top ∷ st.frames in
    let stood = stands_by p n st w h at.at.runs in
    let c = catch_called image p n st w h.back stood at.at.there in
    let w1 : abi.World = c.after in
    let stack : ℕ = x w1.hart sp in
    let outer : ℕ = x w1.hart ra in
    let low : ℕ = stack - 56 in
    let r = runtime_stays p st.frames v w w1 c.runtime stood.runtime in
    let m = r.exceptions in
    let places : Addresses = addresses_of p in
    let gone : List ℕ = destroyed st.frames in
    let l = leaving p st y ys w1 m at.caught in
    let slot : ℕ = l.new.slot in
    let header : Header = l.new.here.0.header in
    let o : Object = record { slot = slot; header = header } in
    let es : Exceptions = (ended w1.exceptions).1 in
    let again : Exceptions = with_header slot (building_again header) es in
    let first : ℕ = address (setting p d).ground (first_word p d) in
    let code = (stood.memory.unit.functions d ok.known).0 in
    let even = even_base p w.hart.memory stood.memory.unit in
    let kind : header.kind ≡ Native (record_address p.base type) first = has_destructor places type d kept header (caught_header places gone (exceptions_in v) (kept_by w1) e slot (native type (Some d) kept) m l.new.here there) in
    let ends : ended w1.exceptions ≡ (Some (Last slot), es) = l.ends ∙ ap (λ z. (Some z, es)) (ended_last y slot l.new.count l.new.counted last) in
    let below = slot_below w1.exceptions.live slot header l.new.here.0.there in
    let end_at : x w.hart sp + open_bytes p (st.top ∷ st.frames) ≡ stack_end = stack_at p n st w h.back stood in
    let least : lowest_sp (shape p d).leaf (shape p d).size ≤ low + 8
    = begin_above (shape p d).leaf (shape p d).size (open_bytes p active) (low + 8) (omega (arith, end_at, c.stack, c.high)) ok.room in
    let stands : StubStands p.unit p.base end_catch 0 (stack - 56) 56 w1.hart
    = record { pc = c.pc; registers = c.registers; code = c.code; room = room_below w1.hart.memory stack 56 c.may (omega (arith, c.high)) c.low c.even refl } in
    let come = destroys.calls image p.unit p.base o (record_address p.base type) first es w1 (omega (arith, c.high)) stands c.back_below l.object kind ends (omega (arith, below, m.sound.slots))
    (λ zero. absurd (omega (arith, zero))) (omega (arith, even)) (omega (arith, code.word.below)) in
    let v2 : abi.World = come.after in
    let ad = come.holds in
    let held1 : MemoryMatches p n st.top.frame st.frames v w1.hart.memory stack h.back
    = subst (λ ps. MemoryMatches p n st.top.frame st.frames v ps stack h.back) (sym c.memory) (subst (λ a. MemoryMatches p n st.top.frame st.frames v w.hart.memory a h.back) (sym c.stack) stood.memory) in
    let held2 = beside_matches p n st.top.frame st.frames v w1.hart.memory v2.hart.memory stack h.back low 56 held1 (record { low = omega (arith, c.high); high = omega (arith, c.high) }) ad.beside in
    let held3 : MemoryMatches p n st.top.frame st.frames v v2.hart.memory (low + 56) h.back = subst (λ a. MemoryMatches p n st.top.frame st.frames v v2.hart.memory a h.back) (omega (arith, c.high)) held2 in
    let regs2 = registers_beside p n st.top.frame st.frames v w1.hart.memory v2.hart.memory stack h.back low 56 (saved_of w.hart) held1 (record { low = omega (arith, c.high); high = omega (arith, c.high) }) ad.beside
    (subst (λ ps. RegistersMatch p n st.top.frame st.frames v ps stack (saved_of w.hart)) (sym c.memory) (subst (λ a. RegistersMatch p n st.top.frame st.frames v w.hart.memory a (saved_of w.hart)) (sym c.stack) stood.kept)) in
    let regs3 : RegistersMatch p n st.top.frame st.frames v v2.hart.memory (low + 56) (saved_of v2.hart)
    = subst (λ rs. RegistersMatch p n st.top.frame st.frames v v2.hart.memory (low + 56) rs) (sym (ad.variables ∙ c.saved)) (subst (λ a. RegistersMatch p n st.top.frame st.frames v v2.hart.memory a (saved_of w.hart)) (omega (arith, c.high)) regs2) in
    let live : p.live (of_exception e) ≡ true = r.plan.live e ∙ ap is_some there in
    let s1 = m.headers slot header l.new.here.0.there in
    let object : p.at (of_exception e) ≡ object_of slot = ap (λ k. p.at (of_exception k)) (sym l.new.here.0.number) ∙ s1.object in
    let entered = destructor_entered image p n d e (object_of slot) st h.back outer low again w1 v2 active ok ad held3 regs3 live object least (omega (arith, c.high)) in
    let mid_is : x v2.hart sp + 48 ≡ stack = omega (arith, ad.pointer, c.high) in
    let whole = caught_whole places gone (exceptions_in v) (kept_by w1) e slot m l.new.here in
    let after_left : LinearExceptions = record (exceptions_in v) { caught = (left v).caught } in
    let m1 = left_match places gone (exceptions_in v) (kept_by w1) y ys m at.caught in
    let m2 = let_go_match places gone after_left (record (kept_by w1) { exceptions = es }) e slot type (Some d) kept m1 l.new.here.0 (last_out w1.exceptions.live y ys w1.exceptions l.new m.sound.once last) there whole in
    let m3 = subst (λ ds. ExceptionsMatch places ds (exceptions_in vd) (record (kept_by w1) { exceptions = again })) (ap (λ ds. e ∷ (ds ++ gone)) (sym (destroyed_nothing p n st.top at.at.runs))) m2 in
    let runtime2 : RuntimeMatches p active vd v2 = runtime_then p p st.frames active v vd w1 v2 again r ad.rest ad.exceptions refl refl refl refl m3 r.plan in
    let ran = destructor_runs image p n d e st h.back outer (frame_for p d active) v2 entered ok at.at.runs at.at.there c.back runtime2 (omega (arith, mid_is, end_at, c.stack)) in
    let items : List Item = Leave header.number ∷ Destroy header.number ∷ [] in
    record {
      turns = 2 + come.turns + entry_turns p d;
      few = few_begin come.turns (entry_turns p d) come.few;
      after = ran.after;
      runs = subst (λ i. Turns image (2 + come.turns + entry_turns p d) w ran.after (Leave i ∷ Destroy i ∷ [])) l.new.here.0.number
          (turns_then image (2 + come.turns) (entry_turns p d) w v2 ran.after items [] (turns_then image 2 come.turns w w1 v2 [] items c.runs come.runs) ran.runs);
      holds = ran.holds;
    }

pub destructors_begin : EndCatchDestroys → DestructorsBegin
destructors_begin destroys image p n st middle y ys type d kept w h at last there ok =
    let e : ℕ = y.number in
    let v : World = destroying e st.world in (
      (
        in_catch st 0 no_words st.world,
        leave_step p n st middle at.at,
        (
          record { top = waiting_catch d e; frames = st.top ∷ st.frames; world = v },
          last_step p st y ys (native type (Some d) kept) at.caught (ap is_built (exception_is st.world.live e (native type (Some d) kept) there)) last (exception_is st.world.live e (native type (Some d) kept) there),
          (in_destructor p d e st, refl, refl),
        ),
      ),
      shown_by p d e st y ys at.caught,
      destructor_begins destroys image p n st middle y ys type d kept w h at last there ok,
    )
  where
    shown_by : (p : Plan) (d e : ℕ) (st : LinearState) (y : Entry) (ys : List Entry) → st.world.caught ≡ y ∷ ys → Shows st (in_destructor p d e st) (Leave y.number ∷ Destroy e ∷ [])
    shown_by p d e st y ys caught = (same_beside (slot_kinds p d) (destroying e st.world).calls 0 (object_passed e) (destroying e st.world)).items ∙ items_then st.world y ys (Destroy e ∷ []) caught
