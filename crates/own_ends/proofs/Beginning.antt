-- call_unexpected leaves the last handler of an exception with a destructor, which begins.
use Rattle.std.proofs.Common.{◌≡◌, ◌∙◌, refl, sym, ap, subst, arith, ℕ, ◌+◌, ◌-◌, ◌*◌, ◌%◌, ◌^◌, ◌<◌, ◌≤◌, List, [], ◌∷◌, length, Some, is_some}
use Rattle.std.specs.Prelude.{true, false}
use Rattle.meaning_forms.specs.World.{Installed}
use Rattle.run_items.specs.declared.item.Item.{Item}
use Rattle.run_items.specs.declared.item.Item.TheVariants.{Leave, Destroy}
use Rattle.rv64_isa.specs.State.{State, Part, with_value}
use Rattle.rv64_isa.specs.Step.{x}
use Rattle.caught_stack.specs.declared.ended.Ended.TheVariants.{Last}
use Rattle.caught_stack.specs.declared.header.Header.{Header}
use Rattle.caught_stack.specs.declared.header.HeaderKind.TheVariants.{Native}
use Rattle.caught_stack.specs.Allocate.{with_header}
use Rattle.caught_stack.specs.Exceptions.{Exceptions}
use Rattle.caught_stack.specs.End.{ended}
use Rattle.cxa_runtime.specs.declared.object.Object.{Object}
use Rattle.cxa_runtime.specs.Objects.{object_of}
use Rattle.cxa_runtime.specs.Leaving.{building_again}
use Rattle.cxa_runtime.specs.World as abi
use Rattle.cxa_runtime.specs.Raising.{Image}
use Rattle.region_forms.specs.Caught.{Entry, is_last}
use Rattle.region_forms.specs.World.{of_exception, Word, World, native}
use Rattle.region_forms.specs.Effect.{left, new_frame, new_world}
use Rattle.region_forms.specs.Lives.{is_built}
use Rattle.linear_forms.specs.Stub.{end_catch, call_unexpected}
use Rattle.linear_forms.specs.Activation.{Activation, State as LinearState, depth_of}
use Rattle.machine_forms.specs.Registers.{ra, sp, saved_registers}
use Rattle.machine_forms.specs.Shape.{return_offset, prologue}
use Rattle.machine_forms.specs.KeptCode.{saves}
use Rattle.machine_forms.specs.StubCode.{stub_words}
use Rattle.machine_forms.specs.Emitted.{function_first}
use Rattle.machine_pieces.specs.Memory.{Holds, MayWrite, Apart}
use Rattle.machine_pieces.specs.Standing.{address}
use Rattle.machine_pieces.specs.Frames.{AddressAt}
use Rattle.machine_pieces.specs.Turning.{Turns, Reaches, SameRuntime}
use Rattle.machine_pieces.proofs.Storing.{eight_stored, holds_apart, value_written}
use Rattle.machine_pieces.proofs.Turning.{turns_then, executes_turns}
use Rattle.machine_pieces.specs.Transfers.{lowest_sp, entry_steps}
use Rattle.machine_pieces.specs.Keeping.{saved_of}
use Rattle.machine_pieces.proofs.Keeping.{same_saved}
use Rattle.machine_stubs.specs.Stretches.{stub_word, Beside, Stands as StubStands}
use Rattle.machine_stubs.specs.EndCatch.{object_slot}
use Rattle.machine_stubs.specs.CallUnexpected.{thrown_slot, UnexpectedEnds}
use Rattle.machine_stubs.specs.Destroys.{AtDestructor, EndCatchDestroys}
use Rattle.machine_simulation.specs.Plan.{Plan, function, shape, slot_kinds, first_word, setting}
use Rattle.machine_simulation.specs.StubCalls.{KeepsFlying}
use Rattle.machine_simulation.specs.Calls.{frame_of, open_bytes, stack_end}
use Rattle.machine_simulation.specs.Exceptions.{Addresses, LinearExceptions, addresses_of, exceptions_in, kept_by, destroyed, live_in, record_address, HeaderIs}
use Rattle.machine_simulation.specs.Matches.{FrameIs, RuntimeMatches, Matches}
use Rattle.machine_simulation.specs.Entering.{opened, frame_for, entry_turns}
use Rattle.machine_simulation.proofs.Words.{even_base}
use Rattle.machine_simulation.proofs.Matching.{runtime_stays}
use Rattle.machine_simulation.proofs.Holding.{same_number}
use Rattle.machine_simulation.proofs.Floors.{lowest_floor, begin_above}
use Rattle.machine_simulation.proofs.Freeing.{IsFree}
use Rattle.machine_simulation.proofs.Calling.{runtime_opened}
use Rattle.machine_simulation.proofs.Entered.{given_less}
use Rattle.machine_simulation.proofs.Given.{same_beside}
use Rattle.machine_exceptions.specs.Leaves.{destroying}
use Rattle.machine_exceptions.specs.Destroys.{waiting_catch, object_passed, in_destructor, MayDestroy}
use Rattle.machine_exceptions.proofs.Headers.{slot_below}
use Rattle.machine_exceptions.proofs.Enters.{exception_is}
use Rattle.machine_exceptions.proofs.Left.{left_match, ended_last, last_out, let_go_match}
use Rattle.machine_exceptions.proofs.EndCatching.{room_below}
use Rattle.machine_exceptions.proofs.ComingBack.{runtime_then}
use Rattle.machine_exceptions.proofs.CatchSteps.{in_catch, no_words, last_step}
use Rattle.machine_exceptions.proofs.LastLeft.{caught_whole, caught_header, items_then}
use Rattle.machine_exceptions.proofs.Saving.{saves_run}
use Rattle.machine_exceptions.proofs.Destroying.{entered_at}
use Rattle.stub_landings.specs.Rests.{StubMemory, StubRegisters}
use Rattle.own_ends.specs.Callers.{CalledBy}
use Rattle.own_ends.specs.Leaving.{IsLeaving, CatchBegins}
use Rattle.own_ends.specs.Destroying.{OwnDestructorsBegin}
use Rattle.own_ends.proofs.Memory.{stub_beside, stub_alike, address_beside, flying_beside, flying_kept}
use Rattle.own_ends.proofs.Registers.{registers_below, registers_alike}
use Rattle.own_ends.proofs.Calling.{catch_begins, at_catch}
use Rattle.own_ends.proofs.Leaving.{newest_left}
use Rattle.own_ends.proofs.Left.{after_calling, calls_at}
use Rattle.own_ends.proofs.Bytes.{waiting_end}
use Rattle.own_ends.proofs.Begun.{Begun, destructor_begun}

-- ---- the destructor's prologue

record DestructorEntered (image : Image) (p : Plan) (k d e : ℕ) (st : LinearState) (back outer : ℕ) (v : abi.World) : Type 0 where
  after : abi.World
  runs : Turns image (entry_steps (shape p d).leaf) v after []
  runtime : SameRuntime v after
  registers : length after.hart.regs ≡ 32
  pc : after.hart.pc ≡ address (setting p d).ground (first_word p d + length (prologue (shape p d)))
  stack : x after.hart sp ≡ x v.hart sp - (shape p d).size
  begun : Begun p k d e st (destroying e st.world) after.hart.memory (x v.hart sp + 48) back outer (saved_of after.hart)

destructor_entered : (image : Image) (p : Plan) (k d e object : ℕ) (st : LinearState) (back outer low : ℕ) (es : Exceptions) (w v : abi.World) (active : List Activation) → MayDestroy p d e active →
    AtDestructor p.base (address (setting p d).ground (first_word p d)) object outer low 56 es w v → StubMemory p call_unexpected st.frames st.world v.hart.memory (low + 56) back → KeepsFlying p (st.top.frame.slots 4) st.world v.hart.memory (low + 56 + thrown_slot) →
    StubRegisters p call_unexpected st.frames st.world v.hart.memory (low + 56) (saved_of v.hart) → outer ≡ stub_word p.base call_unexpected k → p.live (of_exception e) ≡ true → p.at (of_exception e) ≡ object →
    lowest_sp (shape p d).leaf (shape p d).size ≤ low + 8 → DestructorEntered image p k d e st back outer v
destructor_entered image p k d e object st back outer low es w v active ok at held thrown regs outer_is live there least =
    let s : State = v.hart in
    let unit = held.unit in
    let frame_is : FrameIs (function p d) = unit.frames d ok.known in
    let room : 0x7000_0000 + (shape p d).size ≤ low + 8 = lowest_floor (shape p d).leaf (shape p d).size (low + 8) frame_is.small least in
    let most = given_less p d (object_passed e) frame_is ok.passed ok.words in
    let base_even = even_base p s.memory unit in
    let even : x s sp % 8 ≡ 0 = omega (arith, at.pointer, held.stands.saved.aligned) in
    let high : x s sp ≤ 0x7100_0000 = omega (arith, at.pointer, held.stands.below) in
    let enters = entered_at p d s unit held.may ok.known at.registers at.pc (subst (λ a. lowest_sp (shape p d).leaf (shape p d).size ≤ a) (sym at.pointer) least) high even in
    let ran = executes_turns image (entry_steps (shape p d).leaf) v s enters.after refl enters.runs in
    let put : ℕ = x s sp - (shape p d).size + return_offset in
    let new : List Part = with_value s.memory put 8 (x s ra) in
    let memory : ran.after.hart.memory ≡ new = ap (λ (u : State). u.memory) ran.hart ∙ enters.memory in
    let may : MayWrite s.memory put 8 = held.may put 8 (omega (arith, at.pointer, room)) (omega (arith, at.pointer, room, most, high)) in
    let beside : Beside put 8 s.memory new = record { written = value_written s.memory put 8 (x s ra) may; others = λ b n c out h. holds_apart s.memory put 8 (x s ra) b n c out h } in
    let out : (a : ℕ) → low ≤ a → Apart put 8 a 8 = λ a from i j hi hj same. omega (arith, at.pointer, room, most, hi, hj, from, same) in
    let stays : (a c : ℕ) → low ≤ a → AddressAt s.memory a c → AddressAt new a c = λ a c from h. address_beside put 8 a c s.memory new beside (out a from) h in
    let free : IsFree (low + 56 + 80) put 8 = record { low = omega (arith, at.pointer, room); high = omega (arith, at.pointer, room, most) } in
    let kept = stub_beside p call_unexpected st.frames st.world s.memory new (low + 56) back put 8 held free beside
    (stays (low + 56 + return_offset) back (omega arith) held.stands.saved) in
    let alike = stub_alike p call_unexpected st.frames st.world (destroying e st.world) new (low + 56) back refl refl (same_number st.world) kept in
    let regs_new = registers_alike p call_unexpected st.frames st.world (destroying e st.world) new (low + 56) back (saved_of s) refl kept
    (registers_below p call_unexpected st.frames st.world s.memory new (low + 56) back put 8 (saved_of s) held free beside regs) in
    let saved : saved_of ran.after.hart ≡ saved_of s
    = ap saved_of ran.hart ∙ same_saved s enters.after (λ r n. enters.kept r (λ e1. absurd (omega (arith, n.above, e1))) (λ e1. absurd (omega (arith, n.above, e1)))) in
    let flies = flying_kept p p (st.top.frame.slots 4) st.world (destroying e st.world) new (low + 56 + thrown_slot) (λ n. refl) (same_number st.world)
    (flying_beside p (st.top.frame.slots 4) st.world put 8 (low + 56 + thrown_slot) s.memory new beside (out (low + 56 + thrown_slot) (omega arith)) thrown) in
    let place : low + 56 ≡ x s sp + 48 = omega (arith, at.pointer) in
    let small : x s ra < 2 ^ 64 = omega (arith, at.returns, unit.stubs.end_catch.0.word.below, unit.few, unit.stubs.call_unexpected.0.word.below) in
    let whole : x s ra % 2 ^ 64 ≡ x s ra = omega (arith, small) in
    let object_at : (a : ℕ) → low ≤ a → AddressAt s.memory a object → AddressAt new a (p.at (of_exception e)) = λ a from h. subst (AddressAt new a) (sym there) (stays a object from h) in
    let begun : Begun p k d e st (destroying e st.world) new (x s sp + 48) back outer (saved_of s) = record {
      stub = subst (λ a. StubMemory p call_unexpected st.frames (destroying e st.world) new a back) place alike;
      registers = subst (λ a. StubRegisters p call_unexpected st.frames (destroying e st.world) new a (saved_of s)) place regs_new;
      thrown = subst (λ a. KeepsFlying p (st.top.frame.slots 4) (destroying e st.world) new (a + thrown_slot)) place flies;
      outer_is = outer_is;
      low = subst (λ a. lowest_sp (shape p d).leaf (shape p d).size ≤ a) (omega (arith, place)) least;
      live = live;
      passed = subst (λ a. AddressAt new a (p.at (of_exception e))) (omega (arith, place)) (object_at low (omega arith) at.passed);
      kept = subst (λ a. AddressAt new a (p.at (of_exception e))) (omega (arith, place)) (object_at (low + 8 + object_slot) (omega arith) at.kept);
      saved = subst (λ a. AddressAt new a outer) (omega (arith, place)) (stays (low + 8 + return_offset) outer (omega arith) at.saved);
      returns = subst (λ a. AddressAt new a (stub_word p.base end_catch 13)) (omega (arith, place)) (subst (AddressAt new put) at.returns (record {
        aligned = omega (arith, at.pointer, held.stands.saved.aligned, frame_is.size, room);
        below = omega (arith, at.pointer, held.stands.below);
        holds = subst (Holds new put 8) whole (eight_stored s.memory put (x s ra) may);
      }));
    } in
    record {
      after = ran.after;
      runs = ran.turns;
      runtime = ran.runtime;
      registers = ap (λ (u : State). length u.regs) ran.hart ∙ enters.registers;
      pc = ap (λ (u : State). u.pc) ran.hart ∙ enters.pc;
      stack = ap (λ (u : State). x u sp) ran.hart ∙ enters.stack;
      begun = subst (λ ps. Begun p k d e st (destroying e st.world) ps (x s sp + 48) back outer (saved_of ran.after.hart)) (sym memory)
          (subst (λ rs. Begun p k d e st (destroying e st.world) new (x s sp + 48) back outer rs) (sym saved) begun);
    }

-- ---- up to its first operation

-- from end_catch's call on
record DestructorRuns (image : Image) (p : Plan) (d e low : ℕ) (st : LinearState) (w : abi.World) : Type 0 where
  after : abi.World
  runs : Turns image (entry_turns p d) w after []
  holds : Matches (opened p d (destroying e st.world).calls low) (in_destructor p d e st) after

destructor_runs : (image : Image) (p : Plan) (place k d e : ℕ) (st : LinearState) (back outer low : ℕ) (w : abi.World) → DestructorEntered image p k d e st back outer w → CalledBy st.frames → let active = waiting_catch d e ∷ st.top ∷ st.frames in MayDestroy p d e active →
    IsLeaving place k → st.top.function ≡ call_unexpected → st.top.place ≡ place → RuntimeMatches p active (destroying e st.world) w → x w.hart sp - (shape p d).size ≡ low → DestructorRuns image p d e low st w
destructor_runs image p place k d e st back outer low w entered called ok which runs there runtime low_is =
    let vd : World = destroying e st.world in
    let active : List Activation = waiting_catch d e ∷ st.top ∷ st.frames in
    let depth : ℕ = depth_of active + 1 in
    let given : List Word = object_passed e in
    let v : abi.World = entered.after in
    let low_at : ℕ = x v.hart sp in
    let q : Plan = opened p d vd.calls low_at in
    let u : World = new_world (slot_kinds p d) given depth vd in
    let words : ℕ = length (saves (shape p d) (function p d).parameters saved_registers (shape p d).kept) in
    let begun = destructor_begun p place k d e depth st vd v.hart (x w.hart sp + 48) back outer active entered.begun called ok which runs there (entered.stack ∙ omega arith) entered.registers entered.pc in
    let saved = saves_run image q d (new_frame (slot_kinds p d) given vd) active u (stub_word p.base end_catch 13) words v begun (runtime_stays q active u w v entered.runtime (runtime_opened p d low_at active given depth vd w runtime)) in
    record {
      after = saved.after;
      runs = turns_then image (entry_steps (shape p d).leaf) words w v saved.after [] [] entered.runs saved.runs;
      holds = subst (λ a. Matches (opened p d vd.calls a) (in_destructor p d e st) saved.after) (entered.stack ∙ low_is) saved.holds;
    }

few_begin : (a b : ℕ) → a ≤ 12 → a + b ≤ 12 + b
few_begin a b h = omega (arith, h)

pub has_destructor : (t : Addresses) (type d : ℕ) (kept : Installed) (h : Header) → HeaderIs t false (native type (Some d) kept) h → h.kind ≡ Native (record_address t.base type) (t.base + 4 * (stub_words + function_first t.unit d))
has_destructor t type d kept h is = is.0.1 ∙ ap (Native (record_address t.base type)) is.0.2.0

destructor_begins : EndCatchDestroys → (image : Image) (p : Plan) (place k : ℕ) (st : LinearState) (y : Entry) (ys : List Entry) (type d : ℕ) (kept : Installed) (w : abi.World) → CatchBegins p place k st w → CalledBy st.frames → st.world.caught ≡ y ∷ ys →
    is_last y ≡ true → live_in st.world.live y.number ≡ Some (native type (Some d) kept) → let e = y.number in let active = waiting_catch d e ∷ st.top ∷ st.frames in MayDestroy p d e active →
    Reaches image (12 + entry_turns p d) w (Leave e ∷ Destroy e ∷ []) (λ u. Matches (opened p d (destroying e st.world).calls (frame_for p d active)) (in_destructor p d e st) u)
destructor_begins destroys image p place k st y ys type d kept w b called caught last there ok =
    let v : World = st.world in
    let e : ℕ = y.number in
    let vd : World = destroying e v in
    let active : List Activation = waiting_catch d e ∷ st.top ∷ st.frames in
    let at = at_catch p place k st w b called in
    let s : State = w.hart in
    let stack : ℕ = x s sp in
    let outer : ℕ = x s ra in
    let low : ℕ = stack - 56 in
    let r = b.runtime in
    let m = r.exceptions in
    let places : Addresses = addresses_of p in
    let gone : List ℕ = destroyed (st.top ∷ st.frames) in
    let l = newest_left p st y ys w m caught in
    let slot : ℕ = l.new.slot in
    let header : Header = l.new.here.0.header in
    let o : Object = record { slot = slot; header = header } in
    let es : Exceptions = (ended w.exceptions).1 in
    let again : Exceptions = with_header slot (building_again header) es in
    let first : ℕ = address (setting p d).ground (first_word p d) in
    let code = (b.memory.unit.functions d ok.known).0 in
    let even = even_base p s.memory b.memory.unit in
    let kind : header.kind ≡ Native (record_address p.base type) first = has_destructor places type d kept header (caught_header places gone (exceptions_in v) (kept_by w) e slot (native type (Some d) kept) m l.new.here there) in
    let ends : ended w.exceptions ≡ (Some (Last slot), es) = l.ends ∙ ap (λ z. (Some z, es)) (ended_last y slot l.new.count l.new.counted last) in
    let below = slot_below w.exceptions.live slot header l.new.here.0.there in
    let end_at : stack + 80 + open_bytes p st.frames ≡ stack_end = waiting_end p st.frames v s.memory (stack + 80) b.back v.calls b.memory.waiting in
    let frame80 : frame_of p.unit p.hidden st.top.function ≡ 80 = ap (frame_of p.unit p.hidden) b.runs in
    let least : lowest_sp (shape p d).leaf (shape p d).size ≤ low + 8
    = begin_above (shape p d).leaf (shape p d).size (open_bytes p active) (low + 8) (omega (arith, end_at, frame80, at.low)) ok.room in
    let stands : StubStands p.unit p.base end_catch 0 (stack - 56) 56 s
    = record { pc = b.pc; registers = b.registers; code = b.memory.unit.stubs.end_catch; room = room_below s.memory stack 56 b.memory.may (omega (arith, at.low)) (omega (arith, at.high)) at.even refl } in
    let come = destroys.calls image p.unit p.base o (record_address p.base type) first es w (omega (arith, at.low)) stands at.small l.object kind ends (omega (arith, below, m.sound.slots))
    (λ zero. absurd (omega (arith, zero))) (omega (arith, even)) (omega (arith, code.word.below)) in
    let v2 : abi.World = come.after in
    let ad = come.holds in
    let out : (n : ℕ) → Apart low 56 (stack + n) 8 = λ n i j hi hj same. omega (arith, at.low, hi, hj, same) in
    let free : IsFree (stack + 80) low 56 = record { low = omega (arith, at.low); high = omega (arith, at.low) } in
    let held2 = stub_beside p call_unexpected st.frames v s.memory v2.hart.memory stack b.back low 56 b.memory free ad.beside
    (address_beside low 56 (stack + return_offset) b.back s.memory v2.hart.memory ad.beside (out return_offset) b.memory.stands.saved) in
    let thrown2 = flying_beside p (st.top.frame.slots 4) v low 56 (stack + thrown_slot) s.memory v2.hart.memory ad.beside (out thrown_slot) b.thrown in
    let up : stack ≡ low + 56 = omega (arith, at.low) in
    let regs2 : StubRegisters p call_unexpected st.frames v v2.hart.memory stack (saved_of v2.hart)
    = subst (λ rs. StubRegisters p call_unexpected st.frames v v2.hart.memory stack rs) (sym ad.variables) (registers_below p call_unexpected st.frames v s.memory v2.hart.memory stack b.back low 56 (saved_of s) b.memory free ad.beside b.kept) in
    let live : p.live (of_exception e) ≡ true = r.plan.live e ∙ ap is_some there in
    let s1 = m.headers slot header l.new.here.0.there in
    let object : p.at (of_exception e) ≡ object_of slot = ap (λ n. p.at (of_exception n)) (sym l.new.here.0.number) ∙ s1.object in
    let entered = destructor_entered image p k d e (object_of slot) st b.back outer low again w v2 active ok ad (subst (λ a. StubMemory p call_unexpected st.frames v v2.hart.memory a b.back) up held2)
    (subst (λ a. KeepsFlying p (st.top.frame.slots 4) v v2.hart.memory (a + thrown_slot)) up thrown2) (subst (λ a. StubRegisters p call_unexpected st.frames v v2.hart.memory a (saved_of v2.hart)) up regs2) b.returns live object least in
    let mid_is : x v2.hart sp + 48 ≡ stack = omega (arith, ad.pointer, at.low) in
    let whole = caught_whole places gone (exceptions_in v) (kept_by w) e slot m l.new.here in
    let after_left : LinearExceptions = record (exceptions_in v) { caught = (left v).caught } in
    let m1 = left_match places gone (exceptions_in v) (kept_by w) y ys m caught in
    let m2 = let_go_match places gone after_left (record (kept_by w) { exceptions = es }) e slot type (Some d) kept m1 l.new.here.0 (last_out w.exceptions.live y ys w.exceptions l.new m.sound.once last) there whole in
    let runtime2 : RuntimeMatches p active vd v2 = runtime_then p p (st.top ∷ st.frames) active v vd w v2 again r ad.rest ad.exceptions refl refl refl refl m2 r.plan in
    let ran = destructor_runs image p place k d e st b.back outer (frame_for p d active) v2 entered called ok b.which b.runs b.there runtime2 (omega (arith, mid_is, end_at, frame80)) in
    let items : List Item = Leave header.number ∷ Destroy header.number ∷ [] in
    record {
      turns = come.turns + entry_turns p d;
      few = few_begin come.turns (entry_turns p d) come.few;
      after = ran.after;
      runs = subst (λ i. Turns image (come.turns + entry_turns p d) w ran.after (Leave i ∷ Destroy i ∷ [])) l.new.here.0.number (turns_then image come.turns (entry_turns p d) w v2 ran.after items [] come.runs ran.runs);
      holds = ran.holds;
    }

pub own_destructors_begin : UnexpectedEnds → EndCatchDestroys → OwnDestructorsBegin
own_destructors_begin ends destroys image p place k st y ys type d kept w h last there ok =
    let e : ℕ = y.number in
    let v : World = destroying e st.world in
    let s = calls_at ends image p place k st w h.leaves in
    let active : List Activation = waiting_catch d e ∷ st.top ∷ st.frames in
    let all = after_calling image 4 (12 + entry_turns p d) w (Leave e ∷ Destroy e ∷ []) (λ u. CatchBegins p place k st u) (λ u. Matches (opened p d v.calls (frame_for p d active)) (in_destructor p d e st) u) (catch_begins ends image p place k st w h.leaves)
    (λ u b. destructor_begins destroys image p place k st y ys type d kept u b h.called h.caught last there ok) in (
      (
        in_catch st 0 no_words st.world,
        s.calls,
        (
          record { top = waiting_catch d e; frames = st.top ∷ st.frames; world = v },
          last_step p st y ys (native type (Some d) kept) h.caught (ap is_built (exception_is st.world.live e (native type (Some d) kept) there)) last (exception_is st.world.live e (native type (Some d) kept) there),
          (in_destructor p d e st, refl, refl),
        ),
      ),
      (same_beside (slot_kinds p d) v.calls 0 (object_passed e) v).items ∙ items_then st.world y ys (Destroy e ∷ []) h.caught,
      record { turns = all.turns; few = omega (arith, all.few); after = all.after; runs = all.runs; holds = all.holds },
    )
