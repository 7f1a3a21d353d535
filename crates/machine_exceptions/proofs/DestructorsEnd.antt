-- The return of a destructor to end_catch is matched, up to behind `leave`.
use Rattle.std.proofs.Common.{◌≡◌, ◌∙◌, refl, sym, ap, subst, arith, ℕ, ◌+◌, ◌*◌, ◌-◌, ◌^◌, ◌<◌, ◌≤◌, ◌==◌, ◌||◌, Bool, true, false, ℤ, pos, List, [], ◌∷◌, ◌++◌, length, length-append, Option, Some, None, inl, inr}
use Rattle.std.specs.Prelude.{◌⊎◌, slice_get}
use Rattle.std.proofs.lemmas.Bool.Decides.{nat_tests}
use Rattle.meaning_forms.specs.Class.{contains}
use Rattle.run_items.specs.declared.item.Item.TheVariants.{Free}
use Rattle.rv64_isa.specs.State.{State, Part}
use Rattle.rv64_isa.specs.Step.{x}
use Rattle.caught_stack.specs.declared.header.Header.{Header}
use Rattle.caught_stack.specs.declared.header.HeaderKind.TheVariants.{Building}
use Rattle.caught_stack.specs.Allocate.{freed as slot_freed}
use Rattle.cxa_runtime.specs.declared.object.Object.{Object}
use Rattle.cxa_runtime.specs.Objects.{object_of, is_building}
use Rattle.cxa_runtime.specs.World as abi
use Rattle.cxa_runtime.specs.Raising.{Image}
use Rattle.region_forms.specs.Form.{leave}
use Rattle.region_forms.specs.World.{of_exception, World, Exception, native, exception_of, exception_in_slot}
use Rattle.region_forms.specs.Lives.{is_live}
use Rattle.region_forms.specs.Evaluation.{value_in}
use Rattle.region_forms.specs.Effect.{freed, finished, result_in}
use Rattle.linear_forms.specs.Linear.{LinearOp, plain, return}
use Rattle.linear_forms.specs.Stub.{Function, compiled, end_catch, terminating, call_unexpected, linear}
use Rattle.linear_forms.specs.Activation.{Activation, State as LinearState, goes_to, next_if, compiled_op, fetch, kinds}
use Rattle.linear_forms.specs.Machine.{step}
use Rattle.linear_forms.specs.Operation.{settled, wanted_by, returned_with}
use Rattle.linear_forms.specs.UnitRun.{code_of}
use Rattle.machine_forms.specs.Registers.{sp}
use Rattle.machine_forms.specs.Piece.{Piece}
use Rattle.machine_forms.specs.Shape.{Shape, return_offset}
use Rattle.machine_forms.specs.LinearCode.{linear_code}
use Rattle.machine_pieces.specs.Frames.{AddressAt}
use Rattle.machine_pieces.specs.Turning.{Turns, Reaches}
use Rattle.machine_pieces.proofs.Turning.{turns_then, executes_turns}
use Rattle.machine_pieces.specs.Keeping.{saved_of}
use Rattle.machine_stubs.specs.Stretches.{StubAt, stub_word, frame_size, Room, Stands as StubStands, Beside}
use Rattle.machine_stubs.specs.EndCatch.{object_slot}
use Rattle.machine_stubs.specs.Destroys.{EndCatchDestroys}
use Rattle.machine_simulation.specs.Plan.{Plan, function, shape, slot_kinds}
use Rattle.machine_simulation.specs.StubCalls.{DestructorWaits, UnexpectedWaits, LeavingWaits, StubStands as StubFrame}
use Rattle.machine_simulation.specs.Calls.{stored_behind, CallsWait}
use Rattle.machine_simulation.specs.Exceptions.{Addresses, KeptExceptions, addresses_of, exceptions_in, kept_by, destroyed_by, destroyed, HeaderIs, ExceptionsMatch}
use Rattle.machine_simulation.specs.Matches.{UnitStands, MemoryMatches, Matches}
use Rattle.machine_simulation.specs.Returns.{closed}
use Rattle.machine_simulation.proofs.Words.{operation_at, even_base, word_below}
use Rattle.machine_simulation.proofs.Matching.{Stands, stands_by, runtime_stays, kept_at}
use Rattle.machine_simulation.proofs.Quiet.{step_is}
use Rattle.machine_simulation.proofs.Holding.{same_number}
use Rattle.machine_simulation.proofs.Lines.{matches_alike, registers_alike}
use Rattle.machine_simulation.proofs.Closing.{popped_to, plan_popped, destroyed_nothing}
use Rattle.machine_simulation.proofs.Freeing.{beside_matches, IsFree, registers_beside}
use Rattle.machine_simulation.proofs.Returning.{result_value, result_is, call_waits, comes_back}
use Rattle.machine_simulation.specs.Objects.{without_object}
use Rattle.machine_simulation.specs.KeptCalls.{KeptCalls, RegistersMatch}
use Rattle.machine_simulation.proofs.Floors.{call_floor}
use Rattle.machine_simulation.proofs.KeptCalls.{behind_call, behind_stub}
use Rattle.machine_simulation.proofs.KeptClosed.{before_small, registers_popped}
use Rattle.machine_exceptions.specs.Destroys.{AtReturn, DestructorsEnd}
use Rattle.machine_exceptions.proofs.Enters.{live_is}
use Rattle.machine_exceptions.proofs.Finding.{live_header, object_found}
use Rattle.machine_exceptions.proofs.Freed.{freed_match, building_out}
use Rattle.machine_exceptions.proofs.Frees.{plan_without, memory_without, registers_without}
use Rattle.machine_exceptions.proofs.EndCatching.{room_below}
use Rattle.machine_exceptions.proofs.ComingBack.{runtime_then}

-- ---- end_catch waits

record CatchWaits (p : Plan) (waiting : Activation) (fs : List Activation) (v : World) (memory : List Part) (stack back limit : ℕ) : Type 0 where
  outer : ℕ
  stands : StubFrame p end_catch memory stack outer
  waits : DestructorWaits p waiting v memory stack back
  rest : CallsWait p fs v memory (stack + 48) outer limit

catch_waits : (p : Plan) (waiting : Activation) (fs : List Activation) (v : World) (memory : List Part) (stack back limit : ℕ) → waiting.function ≡ end_catch → CallsWait p (waiting ∷ fs) v memory stack back limit →
    CatchWaits p waiting fs v memory stack back limit
catch_waits p waiting fs v memory stack back limit catch (inl h) = absurd (let both : compiled h.1 ≡ end_catch = sym h.3.callee ∙ catch in cc both)
catch_waits p waiting fs v memory stack back limit catch (inr (inl h)) = by h.1.waits
  where
    by : DestructorWaits p waiting v memory stack back ⊎ UnexpectedWaits p waiting v memory stack back ⊎ LeavingWaits p waiting v memory stack back → CatchWaits p waiting fs v memory stack back limit
    by (inl w) = record {
      outer = h.0;
      stands = subst (λ f. StubFrame p f memory stack h.0) catch h.1.stands;
      waits = w;
      rest = subst (λ f. CallsWait p fs v memory (stack + frame_size f) h.0 limit) catch h.2;
    }
    by (inr (inl w)) = absurd (let both : call_unexpected ≡ end_catch = sym w.callee ∙ catch in cc both)
    by (inr (inr w)) = absurd (let both : call_unexpected ≡ end_catch = sym w.callee ∙ catch in cc both)
catch_waits p waiting fs v memory stack back limit catch (inr (inr h)) = absurd (let both : terminating ≡ end_catch = sym h.0.callee ∙ catch in cc both)

-- ---- the steps

abbrev pub in_waiting : Activation → ℕ → List Activation → World → LinearState
in_waiting waiting place fs v = record { top = record { function = waiting.function; place = place; frame = waiting.frame }; frames = fs; world = v }

-- a call returns with a value
pub record CameBack (p : Plan) (n : ℕ) (st : LinearState) (waiting : Activation) (fs : List Activation) (r : Option ℕ) : Type 0 where
  pub value : ℤ
  pub value_is : value_in (slot_kinds p n) st.top.frame st.world (result_value r) ≡ Some value
  pub step : step (code_of p.unit) st ≡ returned_with (code_of p.unit) (Some value) (waiting ∷ fs) st.world

pub returns_value : (p : Plan) (n : ℕ) (st middle : LinearState) (waiting : Activation) (fs : List Activation) (r : Option ℕ) → st.top.function ≡ compiled n → slice_get (function p n).ops st.top.place ≡ Some (return r) →
    step (code_of p.unit) st ≡ goes_to middle → st.frames ≡ waiting ∷ fs → CameBack p n st waiting fs r
returns_value p n st middle waiting fs r runs there goes frames = by (value_in (slot_kinds p n) st.top.frame st.world (result_value r)) refl
  where
    whole : (o : Option ℤ) → value_in (slot_kinds p n) st.top.frame st.world (result_value r) ≡ o → step (code_of p.unit) st ≡ returned_with (code_of p.unit) o (waiting ∷ fs) st.world
    whole o is =
        step_is p n st (return r) runs there ∙ ap (λ f. returned_with (code_of p.unit) (result_in r st.top.frame st.world (kinds (code_of p.unit) f)) st.frames st.world) runs
        ∙ ap (λ gs. returned_with (code_of p.unit) (result_in r st.top.frame st.world (slot_kinds p n)) gs st.world) frames
        ∙ ap (λ z. returned_with (code_of p.unit) z (waiting ∷ fs) st.world) (result_is (slot_kinds p n) r st.top.frame st.world ∙ is)

    by : (o : Option ℤ) → value_in (slot_kinds p n) st.top.frame st.world (result_value r) ≡ o → CameBack p n st waiting fs r
    by None is = absurd (let both = sym (whole None is) ∙ goes in cc both)
    by (Some z) is = record { value = z; value_is = is; step = whole (Some z) is }

-- nothing wants a destructor's value
return_to_catch : (p : Plan) (n : ℕ) (st : LinearState) (waiting : Activation) (fs : List Activation) (r : Option ℕ) → CameBack p n st waiting fs r → waiting.function ≡ end_catch → waiting.place ≡ 1 →
    step (code_of p.unit) st ≡ goes_to (in_waiting waiting 2 fs st.world)
return_to_catch p n st waiting fs r c catch place =
    let op : fetch (code_of p.unit) waiting.function waiting.place ≡ fetch (code_of p.unit) end_catch 1 = ap (λ f. fetch (code_of p.unit) f waiting.place) catch ∙ ap (fetch (code_of p.unit) end_catch) place in
    c.step ∙ ap (λ o. settled (finished (kinds (code_of p.unit) waiting.function) (wanted_by o) c.value waiting.frame st.world) waiting fs st.world) op
    ∙ ap (λ k. goes_to (in_waiting waiting (k + 1) fs st.world)) place

-- the object is freed
free_in_catch : (p : Plan) (waiting : Activation) (fs : List Activation) (v : World) (e : ℕ) → waiting.function ≡ end_catch → exception_in_slot waiting.frame 0 ≡ e → is_live v e ≡ true →
    step (code_of p.unit) (in_waiting waiting 2 fs v) ≡ goes_to (in_waiting waiting 3 fs (freed e v))
free_in_catch p waiting fs v e catch object live =
    let at : Function → ℕ → World → LinearState = λ f k u. record { top = record { function = f; place = k; frame = waiting.frame }; frames = fs; world = u } in
    ap (λ f. step (code_of p.unit) (at f 2 v)) catch ∙ ap (λ k. next_if (is_live v k) v (goes_to (at end_catch 3 (freed k v)))) object ∙ ap (λ b. next_if b v (goes_to (at end_catch 3 (freed e v)))) live ∙ ap (λ f. goes_to (at f 3 (freed e v))) (sym catch)

-- and end_catch comes back
catch_returns : (p : Plan) (m : ℕ) (waiting a : Activation) (fs : List Activation) (v : World) → waiting.function ≡ end_catch → a.function ≡ compiled m → slice_get (function p m).ops a.place ≡ Some (plain leave) →
    step (code_of p.unit) (in_waiting waiting 3 (a ∷ fs) v) ≡ goes_to (record { top = record { function = a.function; place = a.place + 1; frame = a.frame }; frames = fs; world = v })
catch_returns p m waiting a fs v catch caller leaves =
    let at : Function → LinearState = λ f. record { top = record { function = f; place = 3; frame = waiting.frame }; frames = a ∷ fs; world = v } in
    let op : fetch (code_of p.unit) a.function a.place ≡ Some (linear (plain leave)) = ap (λ f. fetch (code_of p.unit) f a.place) caller ∙ ap compiled_op leaves in
    ap (λ f. step (code_of p.unit) (at f)) catch ∙ ap (λ o. settled (finished (kinds (code_of p.unit) a.function) (wanted_by o) (pos 0) a.frame v) a fs v) op

-- the object is that which is being destroyed
destroys_it : (p : Plan) (n m e : ℕ) (st middle : LinearState) (waiting a : Activation) (fs : List Activation) (r : Option ℕ) → AtReturn p n m e st middle waiting a fs r → destroyed st.frames ≡ e ∷ destroyed fs
destroys_it p n m e st middle waiting a fs r at =
    ap destroyed at.frames ∙ ap (λ f. destroyed_by f waiting.frame ++ destroyed (a ∷ fs)) at.catch ∙ ap (λ k. k ∷ destroyed (a ∷ fs)) at.object
    ∙ ap (λ ds. e ∷ (ds ++ destroyed fs)) (destroyed_nothing p m a at.caller)

is_first : (e : ℕ) (gone : List ℕ) → contains (e ∷ gone) e ≡ true
is_first e gone =
    let itself : (e == e) ≡ true = grind (arith, nat_tests) in
    ap (λ b. b || contains gone e) itself

-- ---- the turns

counts_left : (t : Addresses) (b : Bool) (x : Exception) (h : Header) → b ≡ true → HeaderIs t b x h → h.kind ≡ Building
counts_left t true x h e is = is
counts_left t false x h e is = absurd (cc e)

few_both : (a b c d : ℕ) → a ≤ c → b ≤ d → a + b ≤ c + d
few_both a b c d h i = omega (arith, h, i)

destructor_ends : EndCatchDestroys → (image : Image) (p : Plan) (n m e : ℕ) (st middle : LinearState) (waiting a : Activation) (fs : List Activation) (r : Option ℕ) (w : abi.World) (back : ℕ) (z : ℤ) → Stands p n st w back →
    AtReturn p n m e st middle waiting a fs r → CatchWaits p waiting (a ∷ fs) st.world w.hart.memory (x w.hart sp + (shape p n).size) back st.top.frame.call → value_in (slot_kinds p n) st.top.frame st.world (result_value r) ≡ Some z →
    Reaches image (length (linear_code (shape p n) (return r)) + 7) w (Free e ∷ []) (λ u. Matches (without_object (closed p a.frame.call) e) (record { top = record { function = a.function; place = a.place + 1; frame = a.frame }; frames = fs; world = freed e st.world }) u)
destructor_ends destroys image p n m e st middle waiting a fs r w back z h at cw value_is =
    let v : World = st.world in
    let s : State = w.hart in
    let mid : ℕ = x s sp + (shape p n).size in
    let even = even_base p s.memory h.memory.unit in
    let back_is : back ≡ stub_word p.base end_catch 13 = cw.waits.returns in
    let code13 : stub_word p.base end_catch 13 < 2 ^ 64 = omega (arith, h.memory.unit.stubs.end_catch.0.word.below, h.memory.unit.few, h.memory.unit.stubs.start.0.word.below, code_room p s.memory h.memory.unit) in
    let gave = comes_back p n st w back r z h at.at.there at.result value_is (omega (arith, back_is, even)) (omega (arith, back_is, code13)) in
    let floor : 0x7000_0000 ≤ x s sp = call_floor p n st.top.frame v s.memory (x s sp) back h.memory.top in
    let ran = executes_turns image gave.steps w s gave.after refl gave.runs in
    let w1 : abi.World = ran.after in
    let memory1 : w1.hart.memory ≡ s.memory = ap (λ (u : State). u.memory) ran.hart ∙ gave.memory in
    let stack1 : x w1.hart sp ≡ mid = ap (λ (u : State). x u sp) ran.hart ∙ gave.stack in
    let r1 = runtime_stays p st.frames v w w1 ran.runtime h.runtime in
    let places : Addresses = addresses_of p in
    let gone : List ℕ = destroyed fs in
    let kept : KeptExceptions = kept_by w1 in
    let mm = subst (λ ds. ExceptionsMatch places ds (exceptions_in v) kept) (destroys_it p n m e st middle waiting a fs r at) r1.exceptions in
    let flag : contains (e ∷ gone) e ≡ true = is_first e gone in
    let left = mm.left e flag in
    let y : Exception = native left.type left.destructor left.kept in
    let live = live_header places (e ∷ gone) (exceptions_in v) kept e y mm left.live in
    let slot : ℕ = live.slot in
    let header : Header = live.has.header in
    let o : Object = record { slot = slot; header = header } in
    let kind : header.kind ≡ Building = counts_left places (contains (e ∷ gone) e) y header flag live.is in
    let number : cw.waits.object.number ≡ e = sym (ap exception_of cw.waits.object.is) ∙ at.object in
    let object : ℕ = object_of slot in
    let object_is : p.at (of_exception cw.waits.object.number) ≡ object = ap (λ k. p.at (of_exception k)) number ∙ live.object in
    let found = object_found is_building w1.exceptions.live slot header live.below live.has.there (ap is_building kind) in
    let c = call_waits p m a fs v s.memory (mid + 48) cw.outer st.top.frame.call at.caller cw.rest in
    let leaving = c.waits in
    let own = operation_at p s.memory m a.place (plain leave) h.memory.unit leaving.stands.known at.leaves in
    let below = word_below p s.memory m a.place _ h.memory.unit leaving.stands.known own in
    let same_op : leaving.op ≡ plain leave = let both : Some leaving.op ≡ Some (plain leave) = sym leaving.there ∙ at.leaves in cc both in
    let two : length leaving.front ≡ 2 = front_words (shape p m) leaving.op leaving.front same_op leaving.is in
    let stands13 : StubStands p.unit p.base end_catch 13 (x w1.hart sp) 48 w1.hart = record {
      pc = ap (λ (u : State). u.pc) ran.hart ∙ gave.pc ∙ back_is;
      registers = ap (λ (u : State). length u.regs) ran.hart ∙ gave.registers;
      code = subst (StubAt p.unit p.base end_catch) (sym memory1) h.memory.unit.stubs.end_catch;
      room = subst (λ k. Room k 48 w1.hart.memory) (omega (arith, stack1))
          (subst (Room (mid + 48 - 48) 48) (sym memory1) (room_below s.memory (mid + 48) 48 h.memory.may (omega (arith, floor)) (omega (arith, leaving.stands.below)) (omega (arith, cw.stands.saved.aligned)) refl));
    } in
    let here : (k b : ℕ) → AddressAt s.memory (mid + k) b → AddressAt w1.hart.memory (x w1.hart sp + k) b = λ k b there.
    subst (λ ps. AddressAt ps (x w1.hart sp + k) b) (sym memory1) (subst (λ q. AddressAt s.memory (q + k) b) (sym stack1) there) in
    let come = destroys.comes_back image p.unit p.base object cw.outer o w1 stands13 (here object_slot object (subst (AddressAt s.memory (mid + object_slot)) object_is cw.waits.object.there)) (here return_offset cw.outer cw.stands.saved)
    (omega (arith, leaving.returns, even)) (omega (arith, leaving.returns, below, own.next, two)) found in
    let t : abi.World = come.after in
    let b = come.holds in
    let p1 : Plan = closed p a.frame.call in
    let q : Plan = without_object p1 e in
    let u : World = freed e v in
    let held1 = popped_to p n m st.top.frame st.frames a fs v s.memory (x s sp) back (mid + 48) c.outer h.memory c.less leaving.stands c.rest in
    let held2 : MemoryMatches p1 m a.frame fs v w1.hart.memory (mid + 48) c.outer = subst (λ ps. MemoryMatches p1 m a.frame fs v ps (mid + 48) c.outer) (sym memory1) held1 in
    let beside : Beside mid 48 w1.hart.memory t.hart.memory = subst (λ k. Beside k 48 w1.hart.memory t.hart.memory) stack1 b.beside in
    let free : IsFree (mid + 48) mid 48 = record { low = omega (arith, floor); high = omega arith } in
    let held3 = beside_matches p1 m a.frame fs v w1.hart.memory t.hart.memory (mid + 48) c.outer mid 48 held2 free beside in
    let alike = matches_alike p1 m a.frame fs v u t.hart.memory (mid + 48) c.outer refl refl (same_number v) held3 in
    let held4 = memory_without p1 m a.frame fs u t.hart.memory (mid + 48) c.outer e alike in
    let before : List ℕ = h.kept.before in
    let calls : KeptCalls p (waiting ∷ a ∷ fs) v s.memory mid before = subst (λ gs. KeptCalls p gs v s.memory mid before) at.frames h.kept.waiting in
    let inner = behind_stub p waiting.frame v s.memory mid before (λ next others. KeptCalls p (a ∷ fs) v s.memory next others) waiting.function (inl at.catch) calls in
    let above_catch : KeptCalls p (a ∷ fs) v s.memory (mid + frame_size end_catch) before = subst (λ f. KeptCalls p (a ∷ fs) v s.memory (mid + frame_size f) before) at.catch inner in
    let call = behind_call p a.frame v s.memory (mid + 48) before (λ next others. KeptCalls p fs v s.memory next others) a.function m at.caller above_catch in
    let small = before_small p n st.top.frame v s.memory (x s sp) (saved_of s) before h.kept.top h.kept.small refl in
    let regs1 = registers_popped p m a.frame fs v s.memory (mid + 48) c.outer before call.0 small.0 call.1 c.rest call.2 in
    let regs3 = registers_beside p1 m a.frame fs v w1.hart.memory t.hart.memory (mid + 48) c.outer mid 48 before held2 free beside
    (subst (λ ps. RegistersMatch p1 m a.frame fs v ps (mid + 48) before) (sym memory1) regs1) in
    let regs4 = registers_without p1 m a.frame fs u t.hart.memory (mid + 48) c.outer e before alike (registers_alike p1 m a.frame fs v u t.hart.memory (mid + 48) c.outer before refl held3 regs3) in
    let to : LinearState = record { top = record { function = a.function; place = a.place + 1; frame = a.frame }; frames = fs; world = u } in
    let stack_t : x t.hart sp ≡ mid + 48 = b.pointer ∙ ap (λ k. k + 48) stack1 in
    let m3 = freed_match places (e ∷ gone) gone (exceptions_in v) kept e slot y mm live.has (building_out places (e ∷ gone) (exceptions_in v) kept slot header mm live.has.there kind) left.live mm.distinct.1 mm.distinct.0
    (λ k other. sym (ap (λ d. d || contains gone k) other)) in
    record {
      turns = gave.steps + come.turns;
      few = few_both gave.steps come.turns (length (linear_code (shape p n) (return r))) 7 gave.most come.few;
      after = t;
      runs = subst (λ i. Turns image (gave.steps + come.turns) w t (Free i ∷ [])) live.has.number (turns_then image gave.steps come.turns w w1 t [] (Free header.number ∷ []) ran.turns come.runs);
      holds = record {
        number = m;
        back = c.outer;
        runs = at.caller;
        registers = b.registers;
        pc = b.pc ∙ leaving.returns ∙ omega (arith, own.next, two);
        memory = subst (λ k. MemoryMatches q m a.frame fs u t.hart.memory k c.outer) (sym stack_t) held4;
        kept = kept_at q m to (mid + 48) t.hart.memory before t.hart refl stack_t (b.variables ∙ ap saved_of ran.hart ∙ gave.saved) regs4;
        runtime = runtime_then p q st.frames fs v u w1 t (slot_freed slot w1.exceptions) r1 b.rest b.exceptions refl refl refl refl m3 (plan_without p1 e v.live (plan_popped p a.frame.call v.live r1.plan));
      };
    }
  where
    front_words : (f : Shape) (o : LinearOp) (front : List Piece) → o ≡ plain leave → linear_code f o ≡ front ++ stored_behind f o → length front ≡ 2
    front_words f o front same is =
        let whole : linear_code f (plain leave) ≡ front ++ [] = subst (λ k. linear_code f k ≡ front ++ stored_behind f k) same is in
        sym (length-append front [] ∙ omega arith) ∙ sym (ap length whole)

    code_room : (p : Plan) (memory : List Part) → UnitStands p memory → p.base + 4 * 40 < 2 ^ 64
    code_room p memory h = omega (arith, h.stubs.call_unexpected.0.word.below)

pub destructors_end : EndCatchDestroys → DestructorsEnd
destructors_end destroys image p n m e st middle waiting a fs r w h at =
    let stood = stands_by p n st w h at.at.runs in
    let cw = catch_waits p waiting (a ∷ fs) st.world w.hart.memory (x w.hart sp + (shape p n).size) h.back st.top.frame.call at.catch
    (subst (λ gs. CallsWait p gs st.world w.hart.memory (x w.hart sp + (shape p n).size) h.back st.top.frame.call) at.frames stood.memory.waiting) in
    let went = returns_value p n st middle waiting (a ∷ fs) r at.at.runs at.at.there at.at.step at.frames in (
      (
        in_waiting waiting 2 (a ∷ fs) st.world,
        return_to_catch p n st waiting (a ∷ fs) r went at.catch cw.waits.place,
        (
          in_waiting waiting 3 (a ∷ fs) (freed e st.world),
          free_in_catch p waiting (a ∷ fs) st.world e at.catch at.object (still_live stood),
          (record { top = record { function = a.function; place = a.place + 1; frame = a.frame }; frames = fs; world = freed e st.world }, catch_returns p m waiting a fs (freed e st.world) at.catch at.caller at.leaves, refl),
        ),
      ),
      refl,
      destructor_ends destroys image p n m e st middle waiting a fs r w h.back went.value stood at cw went.value_is,
    )
  where
    still_live : (stood : Stands p n st w h.back) → is_live st.world e ≡ true
    still_live stood =
        let m = subst (λ ds. ExceptionsMatch (addresses_of p) ds (exceptions_in st.world) (kept_by w)) (destroys_it p n m e st middle waiting a fs r at) stood.runtime.exceptions in
        let gone = m.left e (is_first e (destroyed fs)) in
        live_is st.world.live e (native gone.type gone.destructor gone.kept) gone.live
