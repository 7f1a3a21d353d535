-- The return of a destructor to end_catch, which call_unexpected has called, is matched.
use Rattle.std.proofs.Common.{◌≡◌, ◌∙◌, refl, sym, ap, subst, arith, ℕ, ◌+◌, ◌-◌, ◌≤◌, ◌||◌, true, ℤ, pos, List, [], ◌∷◌, ◌++◌, length, Option, Some, inl, inr}
use Rattle.std.specs.Prelude.{◌⊎◌}
use Rattle.meaning_forms.specs.Class.{contains}
use Rattle.run_items.specs.declared.item.Item.TheVariants.{Free}
use Rattle.rv64_isa.specs.State.{State, Part}
use Rattle.rv64_isa.specs.Step.{x}
use Rattle.caught_stack.specs.declared.header.Header.{Header}
use Rattle.caught_stack.specs.declared.header.HeaderKind.TheVariants.{Building}
use Rattle.caught_stack.specs.Allocate.{freed as slot_freed}
use Rattle.cxa_runtime.specs.declared.object.Object.{Object}
use Rattle.cxa_runtime.specs.Objects.{object_of, is_building}
use Rattle.cxa_runtime.specs.World as abi
use Rattle.cxa_runtime.specs.Raising.{Image}
use Rattle.region_forms.specs.World.{of_exception, World, Exception, native, exception_of, exception_in_slot}
use Rattle.region_forms.specs.Lives.{is_live}
use Rattle.region_forms.specs.Evaluation.{value_in}
use Rattle.region_forms.specs.Effect.{freed, finished}
use Rattle.linear_forms.specs.Linear.{return}
use Rattle.linear_forms.specs.Stub.{Function, compiled, end_catch, terminating, call_unexpected}
use Rattle.linear_forms.specs.Activation.{Activation, State as LinearState, goes_to, next_if, fetch, kinds}
use Rattle.linear_forms.specs.Machine.{step}
use Rattle.linear_forms.specs.Operation.{settled, wanted_by}
use Rattle.linear_forms.specs.UnitRun.{code_of}
use Rattle.flight_homes.specs.Nest.{newest_call}
use Rattle.machine_forms.specs.Registers.{sp}
use Rattle.machine_forms.specs.LinearCode.{linear_code}
use Rattle.machine_forms.specs.Shape.{return_offset}
use Rattle.machine_pieces.specs.Memory.{Apart}
use Rattle.machine_pieces.specs.Frames.{AddressAt}
use Rattle.machine_pieces.specs.Turning.{Turns, Reaches}
use Rattle.machine_pieces.proofs.Turning.{turns_then, executes_turns}
use Rattle.machine_pieces.specs.Keeping.{saved_of}
use Rattle.machine_stubs.specs.Stretches.{StubAt, stub_word, frame_size, Room, Stands as StubStands, Beside}
use Rattle.machine_stubs.specs.EndCatch.{object_slot}
use Rattle.machine_stubs.specs.CallUnexpected.{thrown_slot}
use Rattle.machine_stubs.specs.Destroys.{EndCatchDestroys}
use Rattle.machine_simulation.specs.Plan.{Plan, shape, slot_kinds}
use Rattle.machine_simulation.specs.StubCalls.{DestructorWaits, UnexpectedWaits, LeavingWaits, KeepsFlying, StubStands as StubFrame}
use Rattle.machine_simulation.specs.Calls.{CallsWait}
use Rattle.machine_simulation.specs.Exceptions.{Addresses, KeptExceptions, addresses_of, exceptions_in, kept_by, destroyed_by, destroyed, ExceptionsMatch}
use Rattle.machine_simulation.specs.KeptCalls.{KeptCalls}
use Rattle.machine_simulation.specs.Returns.{closed}
use Rattle.machine_simulation.specs.Objects.{without_object}
use Rattle.machine_simulation.proofs.Words.{even_base}
use Rattle.machine_simulation.proofs.Matching.{Stands, stands_by, runtime_stays}
use Rattle.machine_simulation.proofs.Holding.{same_number}
use Rattle.machine_simulation.proofs.Closing.{plan_popped}
use Rattle.machine_simulation.proofs.Freeing.{IsFree}
use Rattle.machine_simulation.proofs.KeptCalls.{behind_stub}
use Rattle.machine_simulation.proofs.KeptClosed.{before_small}
use Rattle.machine_simulation.proofs.Returning.{result_value, comes_back}
use Rattle.machine_exceptions.proofs.Enters.{live_is}
use Rattle.machine_exceptions.proofs.Finding.{live_header, object_found}
use Rattle.machine_exceptions.proofs.Freed.{freed_match, building_out}
use Rattle.machine_exceptions.proofs.Frees.{plan_without}
use Rattle.machine_exceptions.proofs.EndCatching.{room_below}
use Rattle.machine_exceptions.proofs.ComingBack.{runtime_then}
use Rattle.machine_exceptions.proofs.DestructorsEnd.{in_waiting, CameBack, returns_value}
use Rattle.machine_raises.proofs.OnStack.{Around}
use Rattle.stub_landings.specs.Rests.{StubMemory, StubRegisters, LeavesOn}
use Rattle.stub_landings.proofs.Closed.{registers_closed, stub_memory}
use Rattle.own_ends.specs.Leaving.{IsLeaving}
use Rattle.own_ends.specs.Destroying.{AtOwnReturn, OwnDestructorsEnd}
use Rattle.own_ends.proofs.Memory.{stub_beside, stub_alike, stub_without, address_beside, flying_beside, flying_kept}
use Rattle.own_ends.proofs.Registers.{registers_below, registers_gone, registers_at}
use Rattle.own_ends.proofs.Calling.{own_leave}
use Rattle.own_ends.proofs.Freeing.{is_first, counts_building}

-- ---- end_catch waits for the destructor, and call_unexpected for end_catch

record BothWait (p : Plan) (k : ℕ) (waiting a : Activation) (fs : List Activation) (v : World) (memory : List Part) (stack back limit : ℕ) : Type 0 where
  outer : ℕ
  beyond : ℕ
  catch : StubFrame p end_catch memory stack outer
  destructor : DestructorWaits p waiting v memory stack back
  unexpected : StubFrame p call_unexpected memory (stack + 48) beyond
  returns : outer ≡ stub_word p.base call_unexpected k
  thrown : KeepsFlying p (a.frame.slots 4) v memory (stack + 48 + thrown_slot)
  rest : CallsWait p fs v memory (stack + 48 + 80) beyond limit

-- the word behind one of its calls of end_catch
behind_leave : (p : Plan) (a : Activation) (v : World) (memory : List Part) (place k stack back : ℕ) → IsLeaving place k → a.place ≡ place → LeavingWaits p a v memory stack back → back ≡ stub_word p.base call_unexpected k
behind_leave p a v memory place k stack back which there w = by which w.returns
  where
    other : (i j : ℕ) → place ≡ i → a.place ≡ j → i ≡ j
    other i j at here = sym at ∙ (sym there ∙ here)

    by : IsLeaving place k → ((a.place ≡ 15) × (back ≡ stub_word p.base call_unexpected 55)) ⊎ ((a.place ≡ 16) × (back ≡ stub_word p.base call_unexpected 57)) → back ≡ stub_word p.base call_unexpected k
    by (inl (at, word)) (inl (here, is)) = is ∙ ap (stub_word p.base call_unexpected) (sym word)
    by (inl (at, word)) (inr (here, is)) = absurd (let both = other 15 16 at here in omega (arith, both))
    by (inr (at, word)) (inl (here, is)) = absurd (let both = other 16 15 at here in omega (arith, both))
    by (inr (at, word)) (inr (here, is)) = is ∙ ap (stub_word p.base call_unexpected) (sym word)

record Leaves (p : Plan) (k : ℕ) (a : Activation) (fs : List Activation) (v : World) (memory : List Part) (stack back limit : ℕ) : Type 0 where
  beyond : ℕ
  stands : StubFrame p call_unexpected memory stack beyond
  returns : back ≡ stub_word p.base call_unexpected k
  thrown : KeepsFlying p (a.frame.slots 4) v memory (stack + thrown_slot)
  rest : CallsWait p fs v memory (stack + 80) beyond limit

leaves : (p : Plan) (place k : ℕ) (a : Activation) (fs : List Activation) (v : World) (memory : List Part) (stack back limit : ℕ) → a.function ≡ call_unexpected → IsLeaving place k → a.place ≡ place → CallsWait p (a ∷ fs) v memory stack back limit →
    Leaves p k a fs v memory stack back limit
leaves p place k a fs v memory stack back limit is which there (inl h) = absurd (let both : compiled h.1 ≡ call_unexpected = sym h.3.callee ∙ is in cc both)
leaves p place k a fs v memory stack back limit is which there (inr (inl h)) = by h.1.waits
  where
    by : DestructorWaits p a v memory stack back ⊎ UnexpectedWaits p a v memory stack back ⊎ LeavingWaits p a v memory stack back → Leaves p k a fs v memory stack back limit
    by (inl w) = absurd (let both : end_catch ≡ call_unexpected = sym w.callee ∙ is in cc both)
    by (inr (inl w)) = absurd (late which (sym there ∙ w.place))
      where
        late : IsLeaving place k → place ≡ 1 → ⊥
        late (inl (at, word)) one = omega (arith, at, one)
        late (inr (at, word)) one = omega (arith, at, one)
    by (inr (inr w)) = record {
      beyond = h.0;
      stands = subst (λ f. StubFrame p f memory stack h.0) is h.1.stands;
      returns = behind_leave p a v memory place k stack back which there w;
      thrown = w.thrown;
      rest = subst (λ f. CallsWait p fs v memory (stack + frame_size f) h.0 limit) is h.2;
    }
leaves p place k a fs v memory stack back limit is which there (inr (inr h)) = absurd (let both : terminating ≡ call_unexpected = sym h.0.callee ∙ is in cc both)

both_wait : (p : Plan) (place k : ℕ) (waiting a : Activation) (fs : List Activation) (v : World) (memory : List Part) (stack back limit : ℕ) → waiting.function ≡ end_catch → a.function ≡ call_unexpected → IsLeaving place k → a.place ≡ place →
    CallsWait p (waiting ∷ a ∷ fs) v memory stack back limit → BothWait p k waiting a fs v memory stack back limit
both_wait p place k waiting a fs v memory stack back limit catch is which there (inl h) = absurd (let both : compiled h.1 ≡ end_catch = sym h.3.callee ∙ catch in cc both)
both_wait p place k waiting a fs v memory stack back limit catch is which there (inr (inl h)) = by h.1.waits
  where
    by : DestructorWaits p waiting v memory stack back ⊎ UnexpectedWaits p waiting v memory stack back ⊎ LeavingWaits p waiting v memory stack back → BothWait p k waiting a fs v memory stack back limit
    by (inl w) =
        let l = leaves p place k a fs v memory (stack + 48) h.0 limit is which there (subst (λ f. CallsWait p (a ∷ fs) v memory (stack + frame_size f) h.0 limit) catch h.2) in
        record {
          outer = h.0;
          beyond = l.beyond;
          catch = subst (λ f. StubFrame p f memory stack h.0) catch h.1.stands;
          destructor = w;
          unexpected = l.stands;
          returns = l.returns;
          thrown = l.thrown;
          rest = l.rest;
        }
    by (inr (inl w)) = absurd (let both : call_unexpected ≡ end_catch = sym w.callee ∙ catch in cc both)
    by (inr (inr w)) = absurd (let both : call_unexpected ≡ end_catch = sym w.callee ∙ catch in cc both)
both_wait p place k waiting a fs v memory stack back limit catch is which there (inr (inr h)) = absurd (let both : terminating ≡ end_catch = sym h.0.callee ∙ catch in cc both)

-- ---- the steps

-- nothing wants a destructor's value
return_to_catch : (p : Plan) (n : ℕ) (st : LinearState) (waiting : Activation) (fs : List Activation) (r : Option ℕ) → CameBack p n st waiting fs r → waiting.function ≡ end_catch → waiting.place ≡ 1 →
    step (code_of p.unit) st ≡ goes_to (in_waiting waiting 2 fs st.world)
return_to_catch p n st waiting fs r c catch place =
    let op : fetch (code_of p.unit) waiting.function waiting.place ≡ fetch (code_of p.unit) end_catch 1 = ap (λ f. fetch (code_of p.unit) f waiting.place) catch ∙ ap (fetch (code_of p.unit) end_catch) place in
    c.step ∙ ap (λ o. settled (finished (kinds (code_of p.unit) waiting.function) (wanted_by o) c.value waiting.frame st.world) waiting fs st.world) op
    ∙ ap (λ k. goes_to (in_waiting waiting (k + 1) fs st.world)) place

-- the object is freed
free_in_catch : (p : Plan) (waiting : Activation) (fs : List Activation) (v : World) (e : ℕ) → waiting.function ≡ end_catch → exception_in_slot waiting.frame 0 ≡ e → is_live v e ≡ true →
    step (code_of p.unit) (in_waiting waiting 2 fs v) ≡ goes_to (in_waiting waiting 3 fs (freed e v))
free_in_catch p waiting fs v e catch object live =
    let at : Function → ℕ → World → LinearState = λ f k u. record { top = record { function = f; place = k; frame = waiting.frame }; frames = fs; world = u } in
    ap (λ f. step (code_of p.unit) (at f 2 v)) catch ∙ ap (λ k. next_if (is_live v k) v (goes_to (at end_catch 3 (freed k v)))) object ∙ ap (λ b. next_if b v (goes_to (at end_catch 3 (freed e v)))) live ∙ ap (λ f. goes_to (at f 3 (freed e v))) (sym catch)

-- and end_catch comes back
catch_returns : (p : Plan) (place k : ℕ) (waiting a : Activation) (fs : List Activation) (v : World) → waiting.function ≡ end_catch → a.function ≡ call_unexpected → a.place ≡ place → IsLeaving place k →
    step (code_of p.unit) (in_waiting waiting 3 (a ∷ fs) v) ≡ goes_to (record { top = record { function = a.function; place = a.place + 1; frame = a.frame }; frames = fs; world = v })
catch_returns p place k waiting a fs v catch is there which =
    let at : Function → LinearState = λ f. record { top = record { function = f; place = 3; frame = waiting.frame }; frames = a ∷ fs; world = v } in
    ap (λ f. step (code_of p.unit) (at f)) catch ∙ ap (λ o. settled (finished (kinds (code_of p.unit) a.function) (wanted_by o) (pos 0) a.frame v) a fs v) (own_leave (code_of p.unit) a.function a.place place k is there which)

-- the object is that which is being destroyed
destroys_it : (p : Plan) (n place k e : ℕ) (st middle : LinearState) (waiting a : Activation) (fs : List Activation) (r : Option ℕ) → AtOwnReturn p n place k e st middle waiting a fs r → destroyed st.frames ≡ e ∷ destroyed (a ∷ fs)
destroys_it p n place k e st middle waiting a fs r at = ap destroyed at.frames ∙ ap (λ f. destroyed_by f waiting.frame ++ destroyed (a ∷ fs)) at.catch ∙ ap (λ d. d ∷ destroyed (a ∷ fs)) at.object

-- ---- the turns

around_call : (p : Plan) (n : ℕ) (st : LinearState) (w : abi.World) (back : ℕ) → Stands p n st w back → Around p st.world w.hart.memory st.top.frame.call
around_call p n st w back h =
    let newest = h.memory.newest in
    record { newest = omega (arith, newest); apart = h.memory.apart; inside = h.memory.inside; may = h.memory.may; fresh = h.memory.fresh; objects = h.memory.objects; unit = h.memory.unit }

few_both : (a b c d : ℕ) → a ≤ c → b ≤ d → a + b ≤ c + d
few_both a b c d h i = omega (arith, h, i)

destructor_ends : EndCatchDestroys → (image : Image) (p : Plan) (n place k e : ℕ) (st middle : LinearState) (waiting a : Activation) (fs : List Activation) (r : Option ℕ) (w : abi.World) (back : ℕ) (z : ℤ) → Stands p n st w back →
    AtOwnReturn p n place k e st middle waiting a fs r → BothWait p k waiting a fs st.world w.hart.memory (x w.hart sp + (shape p n).size) back st.top.frame.call → value_in (slot_kinds p n) st.top.frame st.world (result_value r) ≡ Some z →
    Reaches image (length (linear_code (shape p n) (return r)) + 7) w (Free e ∷ [])
    (λ u. LeavesOn (without_object (closed p (newest_call fs)) e) k (place + 1) (record { top = record { function = a.function; place = a.place + 1; frame = a.frame }; frames = fs; world = freed e st.world }) u)
destructor_ends destroys image p n place k e st middle waiting a fs r w back z h at cw value_is =
    let v : World = st.world in
    let s : State = w.hart in
    let mid : ℕ = x s sp + (shape p n).size in
    let even = even_base p s.memory h.memory.unit in
    let code = (h.memory.unit.functions n h.memory.top.known).0 in
    let back_is : back ≡ stub_word p.base end_catch 13 = cw.destructor.returns in
    let last : k ≤ 57 = below_last at.which in
    let gave = comes_back p n st w back r z h at.at.there at.result value_is (omega (arith, back_is, even)) (omega (arith, back_is, code.word.below)) in
    let ran = executes_turns image gave.steps w s gave.after refl gave.runs in
    let w1 : abi.World = ran.after in
    let memory1 : w1.hart.memory ≡ s.memory = ap (λ (u : State). u.memory) ran.hart ∙ gave.memory in
    let stack1 : x w1.hart sp ≡ mid = ap (λ (u : State). x u sp) ran.hart ∙ gave.stack in
    let r1 = runtime_stays p st.frames v w w1 ran.runtime h.runtime in
    let places : Addresses = addresses_of p in
    let gone : List ℕ = destroyed (a ∷ fs) in
    let kept : KeptExceptions = kept_by w1 in
    let mm = subst (λ ds. ExceptionsMatch places ds (exceptions_in v) kept) (destroys_it p n place k e st middle waiting a fs r at) r1.exceptions in
    let flag : contains (e ∷ gone) e ≡ true = is_first e gone in
    let left = mm.left e flag in
    let y : Exception = native left.type left.destructor left.kept in
    let live = live_header places (e ∷ gone) (exceptions_in v) kept e y mm left.live in
    let slot : ℕ = live.slot in
    let header : Header = live.has.header in
    let o : Object = record { slot = slot; header = header } in
    let kind : header.kind ≡ Building = counts_building places (contains (e ∷ gone) e) y header flag live.is in
    let number : cw.destructor.object.number ≡ e = sym (ap exception_of cw.destructor.object.is) ∙ at.object in
    let object : ℕ = object_of slot in
    let object_is : p.at (of_exception cw.destructor.object.number) ≡ object = ap (λ d. p.at (of_exception d)) number ∙ live.object in
    let found = object_found is_building w1.exceptions.live slot header live.below live.has.there (ap is_building kind) in
    let stands13 : StubStands p.unit p.base end_catch 13 (x w1.hart sp) 48 w1.hart = record {
      pc = ap (λ (u : State). u.pc) ran.hart ∙ gave.pc ∙ back_is;
      registers = ap (λ (u : State). length u.regs) ran.hart ∙ gave.registers;
      code = subst (StubAt p.unit p.base end_catch) (sym memory1) h.memory.unit.stubs.end_catch;
      room = subst (λ b. Room b 48 w1.hart.memory) (omega (arith, stack1))
          (subst (Room (mid + 48 - 48) 48) (sym memory1) (room_below s.memory (mid + 48) 48 h.memory.may (omega (arith, cw.catch.above)) (omega (arith, cw.unexpected.below)) (omega (arith, cw.catch.saved.aligned)) refl));
    } in
    let here : (c b : ℕ) → AddressAt s.memory (mid + c) b → AddressAt w1.hart.memory (x w1.hart sp + c) b = λ c b there.
    subst (λ ps. AddressAt ps (x w1.hart sp + c) b) (sym memory1) (subst (λ q. AddressAt s.memory (q + c) b) (sym stack1) there) in
    let come = destroys.comes_back image p.unit p.base object cw.outer o w1 stands13 (here object_slot object (subst (AddressAt s.memory (mid + object_slot)) object_is cw.destructor.object.there)) (here return_offset cw.outer cw.catch.saved)
    (omega (arith, cw.returns, even)) (omega (arith, cw.returns, code.word.below, last)) found in
    let t : abi.World = come.after in
    let b = come.holds in
    let c : ℕ = newest_call fs in
    let p1 : Plan = closed p c in
    let q : Plan = without_object p1 e in
    let u : World = freed e v in
    let low : ℕ = mid + 48 in
    let held1 = stub_memory p call_unexpected st.top.frame.call st.top.frame.call fs v v s.memory low cw.beyond (around_call p n st w back h) (omega arith) refl refl (same_number v) cw.unexpected cw.rest in
    let before : List ℕ = h.kept.before in
    let calls : KeptCalls p (waiting ∷ a ∷ fs) v s.memory mid before = subst (λ gs. KeptCalls p gs v s.memory mid before) at.frames h.kept.waiting in
    let in_catch = behind_stub p waiting.frame v s.memory mid before (λ next others. KeptCalls p (a ∷ fs) v s.memory next others) waiting.function (inl at.catch) calls in
    let above_catch : KeptCalls p (a ∷ fs) v s.memory low before = subst (λ f. KeptCalls p (a ∷ fs) v s.memory (mid + frame_size f) before) at.catch in_catch in
    let in_own = behind_stub p a.frame v s.memory low before (λ next others. KeptCalls p fs v s.memory next others) a.function (inr at.caller) above_catch in
    let above_own : KeptCalls p fs v s.memory (low + 80) before = subst (λ f. KeptCalls p fs v s.memory (low + frame_size f) before) at.caller in_own in
    let small = before_small p n st.top.frame v s.memory (x s sp) (saved_of s) before h.kept.top h.kept.small refl in
    let regs1 : StubRegisters p1 call_unexpected fs v s.memory low before
    = record { small = small.0; waiting = registers_closed p c fs v v s.memory (low + 80) cw.beyond st.top.frame.call before refl cw.rest above_own } in
    let held2 : StubMemory p1 call_unexpected fs v w1.hart.memory low cw.beyond = subst (λ ps. StubMemory p1 call_unexpected fs v ps low cw.beyond) (sym memory1) held1 in
    let beside : Beside mid 48 w1.hart.memory t.hart.memory = subst (λ i. Beside i 48 w1.hart.memory t.hart.memory) stack1 b.beside in
    let out : (i : ℕ) → Apart mid 48 (low + i) 8 = λ i j l hj hl same. omega (arith, hj, hl, same) in
    let floor = cw.catch.above in
    let free : IsFree (low + 80) mid 48 = record { low = omega (arith, floor); high = omega arith } in
    let held3 = stub_beside p1 call_unexpected fs v w1.hart.memory t.hart.memory low cw.beyond mid 48 held2 free beside
    (address_beside mid 48 (low + return_offset) cw.beyond w1.hart.memory t.hart.memory beside (out return_offset) held2.stands.saved) in
    let regs4 = registers_gone p1 call_unexpected fs v u t.hart.memory low cw.beyond e before refl refl (same_number v) held3
    (registers_below p1 call_unexpected fs v w1.hart.memory t.hart.memory low cw.beyond mid 48 before held2 free beside (subst (λ ps. StubRegisters p1 call_unexpected fs v ps low before) (sym memory1) regs1)) in
    let held4 : StubMemory q call_unexpected fs u t.hart.memory low cw.beyond
    = stub_without p1 call_unexpected fs u t.hart.memory low cw.beyond e (stub_alike p1 call_unexpected fs v u t.hart.memory low cw.beyond refl refl (same_number v) held3) in
    let thrown1 : KeepsFlying p (a.frame.slots 4) v w1.hart.memory (low + thrown_slot) = subst (λ ps. KeepsFlying p (a.frame.slots 4) v ps (low + thrown_slot)) (sym memory1) cw.thrown in
    let thrown2 = flying_kept p q (a.frame.slots 4) v u t.hart.memory (low + thrown_slot) (λ d. refl) (same_number v)
    (flying_beside p (a.frame.slots 4) v mid 48 (low + thrown_slot) w1.hart.memory t.hart.memory beside (out thrown_slot) thrown1) in
    let stack_t : x t.hart sp ≡ low = b.pointer ∙ ap (λ i. i + 48) stack1 in
    let m3 = freed_match places (e ∷ gone) gone (exceptions_in v) kept e slot y mm live.has (building_out places (e ∷ gone) (exceptions_in v) kept slot header mm live.has.there kind) left.live mm.distinct.1 mm.distinct.0
    (λ i other. sym (ap (λ d. d || contains gone i) other)) in
    let next : Activation = record { function = a.function; place = a.place + 1; frame = a.frame } in
    record {
      turns = gave.steps + come.turns;
      few = few_both gave.steps come.turns (length (linear_code (shape p n) (return r))) 7 gave.most come.few;
      after = t;
      runs = subst (λ i. Turns image (gave.steps + come.turns) w t (Free i ∷ [])) live.has.number (turns_then image gave.steps come.turns w w1 t [] (Free header.number ∷ []) ran.turns come.runs);
      holds = record {
        rests = record {
          back = cw.beyond;
          runs = at.caller;
          registers = b.registers;
          pc = b.pc ∙ cw.returns;
          memory = subst (λ i. StubMemory q call_unexpected fs u t.hart.memory i cw.beyond) (sym stack_t) held4;
          kept = registers_at q call_unexpected fs u t.hart.memory low before t.hart refl stack_t (b.variables ∙ ap saved_of ran.hart ∙ gave.saved) regs4;
          runtime = runtime_then p q st.frames (next ∷ fs) v u w1 t (slot_freed slot w1.exceptions) r1 b.rest b.exceptions refl refl refl refl m3 (plan_without p1 e v.live (plan_popped p c v.live r1.plan));
        };
        there = ap (λ i. i + 1) at.there;
        thrown = subst (λ i. KeepsFlying q (a.frame.slots 4) u t.hart.memory (i + thrown_slot)) (sym stack_t) thrown2;
      };
    }
  where
    below_last : IsLeaving place k → k ≤ 57
    below_last (inl (one, word)) = omega (arith, word)
    below_last (inr (one, word)) = omega (arith, word)

pub own_destructors_end : EndCatchDestroys → OwnDestructorsEnd
own_destructors_end destroys image p n place k e st middle waiting a fs r w h at =
    let stood = stands_by p n st w h at.at.runs in
    let stack : ℕ = x w.hart sp + (shape p n).size in
    let cw = both_wait p place k waiting a fs st.world w.hart.memory stack h.back st.top.frame.call at.catch at.caller at.which at.there
    (subst (λ gs. CallsWait p gs st.world w.hart.memory stack h.back st.top.frame.call) at.frames stood.memory.waiting) in
    let went = returns_value p n st middle waiting (a ∷ fs) r at.at.runs at.at.there at.at.step at.frames in (
      (
        in_waiting waiting 2 (a ∷ fs) st.world,
        return_to_catch p n st waiting (a ∷ fs) r went at.catch cw.destructor.place,
        (
          in_waiting waiting 3 (a ∷ fs) (freed e st.world),
          free_in_catch p waiting (a ∷ fs) st.world e at.catch at.object (still_live stood),
          (
            record { top = record { function = a.function; place = a.place + 1; frame = a.frame }; frames = fs; world = freed e st.world },
            catch_returns p place k waiting a fs (freed e st.world) at.catch at.caller at.there at.which,
            refl,
          ),
        ),
      ),
      refl,
      destructor_ends destroys image p n place k e st middle waiting a fs r w h.back went.value stood at cw went.value_is,
    )
  where
    still_live : Stands p n st w h.back → is_live st.world e ≡ true
    still_live stood =
        let m = subst (λ ds. ExceptionsMatch (addresses_of p) ds (exceptions_in st.world) (kept_by w)) (destroys_it p n place k e st middle waiting a fs r at) stood.runtime.exceptions in
        let gone = m.left e (is_first e (destroyed (a ∷ fs))) in
        live_is st.world.live e (native gone.type gone.destructor gone.kept) gone.live
