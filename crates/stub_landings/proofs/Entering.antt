-- A hart in a pad of one of the runtime's own functions: the next state rests there.
use Rattle.std.proofs.Common.{◌≡◌, ◌∙◌, refl, sym, ap, subst, arith, ℕ, ◌+◌, ◌≤◌, ℤ, List, ◌∷◌, ◌++◌, length, Some, None, inl, inr}
use Rattle.std.specs.Prelude.{◌⊎◌}
use Rattle.rv64_isa.specs.State.{Part}
use Rattle.rv64_isa.specs.Step.{x}
use Rattle.elf_image.specs.Clean.{CleanImage}
use Rattle.eh_run.specs.Program.{program_of}
use Rattle.cxa_runtime.specs.World as abi
use Rattle.cxa_runtime.specs.Raising.{at_pad}
use Rattle.region_forms.specs.World.{Word, number_word, World, with_slot}
use Rattle.linear_forms.specs.Linear.{pad}
use Rattle.linear_forms.specs.Stub.{Function, compiled, end_catch, terminating, call_unexpected, linear}
use Rattle.linear_forms.specs.Activation.{Code, Activation, State as LinearState, goes_to, fetch}
use Rattle.linear_forms.specs.Unwinding.{pad_entered}
use Rattle.linear_forms.specs.UnitRun.{code_of}
use Rattle.flight_homes.specs.Nest.{number_of_call, newest_call}
use Rattle.machine_forms.specs.Registers.{sp, a0, a1}
use Rattle.machine_pieces.specs.Numbers.{IsInt, extended}
use Rattle.machine_pieces.proofs.Turning.{no_turns, same_runtime}
use Rattle.machine_pieces.specs.Keeping.{saved_of}
use Rattle.machine_pieces.proofs.Keeping.{given_saved}
use Rattle.machine_stubs.specs.Stretches.{stub_word, frame_size}
use Rattle.machine_stubs.specs.EndCatch.{object_slot}
use Rattle.image_tables.specs.Functions.{records_end, operation_at}
use Rattle.raise_simulation.specs.OpenCalls.{outer_sp, regs_at}
use Rattle.raise_simulation.specs.Opens.{activations, calls}
use Rattle.machine_simulation.specs.Plan.{Plan}
use Rattle.machine_simulation.specs.Extents.{newer}
use Rattle.machine_simulation.specs.Exceptions.{destroyed_by, destroyed}
use Rattle.machine_simulation.specs.StubCalls.{KeepsException, StubWaits, DestructorWaits, UnexpectedWaits, LeavingWaits}
use Rattle.machine_simulation.specs.Matches.{RuntimeMatches, Matches}
use Rattle.machine_simulation.specs.Returns.{closed}
use Rattle.machine_simulation.proofs.Closing.{live_before}
use Rattle.machine_simulation.proofs.StubKeeping.{stub_same, stub_stays}
use Rattle.machine_raises.specs.Pads.{PadGets}
use Rattle.machine_raises.proofs.Stacks.{top_tail}
use Rattle.machine_raises.proofs.Passing.{pad_is}
use Rattle.machine_raises.proofs.Landing.{runtime_to}
use Rattle.machine_raises.proofs.Entered.{pad_hart, EntersPad, kept_in_pad, gets_closed, pad_entered_runs}
use Rattle.stub_landings.specs.Rests.{StubMemory, StubRegisters, StubRests, FreesOnTheWay, KeepsStopped, ChecksThrown, LeavesBoth, Rests}
use Rattle.stub_landings.specs.OwnCalls.{IsOwn}
use Rattle.stub_landings.specs.Landings.{resting, pad_words, GoesOn}
use Rattle.stub_landings.proofs.Pads.{OwnPad, own_pads}
use Rattle.stub_landings.proofs.Closed.{registers_closed, stub_memory}
use Rattle.stub_landings.proofs.Landed.{own_landed_in}

-- ---- the state behind a pad
abbrev pub behind : (f : Function) (q object selector : ℕ) (b : Activation) (rest : List Activation) (u : World) (word : Word) (n : ℤ) → LinearState
behind f q object selector b rest u word n = record { top = record { function = f; place = q + 1; frame = with_slot selector (number_word n) (with_slot object word b.frame) }; frames = rest; world = u }

same_state : (a b : LinearState) → goes_to a ≡ goes_to b → a ≡ b
same_state a b e = cc

-- the pad's operation is known
is_behind : (code : Code) (f : Function) (q object selector pad_at : ℕ) (b : Activation) (rest : List Activation) (u : World) (word : Word) (n : ℤ) (st : LinearState) → b.function ≡ f → pad_at ≡ q → fetch code f q ≡ Some (linear (pad object selector)) →
    pad_entered (fetch code b.function pad_at) word n b.function pad_at b.frame rest u ≡ goes_to st → behind f q object selector b rest u word n ≡ st
is_behind code f q object selector pad_at b rest u word n st callee at op to =
    let one = ap (λ g. pad_entered (fetch code g pad_at) word n g pad_at b.frame rest u) callee in
    let two = ap (λ k. pad_entered (fetch code f k) word n f k b.frame rest u) at in
    let three = ap (λ o. pad_entered o word n f q b.frame rest u) op in
    same_state (behind f q object selector b rest u word n) st (sym three ∙ (sym two ∙ (sym one ∙ to)))

-- ---- a hart in it
-- The hart, memory and what the runtime keeps, where the call waited or was the one that raised.
pub record InPad (p : Plan) (b : Activation) (rest fs : List Activation) (u : World) (word : Word) (n : ℤ) (w : abi.World) : Type 0 where
  pub back : ℕ
  pub registers : length w.hart.regs ≡ 32
  pub memory : StubMemory (closed p (newest_call rest)) b.function rest u w.hart.memory (x w.hart sp) back
  pub kept : StubRegisters (closed p (newest_call rest)) b.function rest u w.hart.memory (x w.hart sp) (saved_of w.hart)
  pub how : ((inner : ℕ) × StubWaits (closed p (newest_call rest)) b u w.hart.memory (x w.hart sp) inner back × (destroyed fs ≡ destroyed (b ∷ rest))) ⊎ ((b.place ≡ 1 → ⊥) × (fs ≡ rest))
  pub runtime : RuntimeMatches p fs u w
  pub gets : PadGets (closed p (newest_call rest)) u word (x w.hart a0)
  pub int : IsInt n
  pub filter : x w.hart a1 ≡ extended n

rests_there : (p : Plan) (f : Function) (k q object selector : ℕ) (b : Activation) (rest fs : List Activation) (u : World) (word : Word) (n : ℤ) (w : abi.World) → InPad p b rest fs u word n w → b.function ≡ f → w.hart.pc ≡ stub_word p.base f k →
    destroyed fs ≡ destroyed ((behind f q object selector b rest u word n).top ∷ rest) → StubRests (closed p (newest_call rest)) f k (behind f q object selector b rest u word n) w
rests_there p f k q object selector b rest fs u word n w h callee pc none = record {
  back = h.back;
  runs = refl;
  registers = h.registers;
  pc = pc;
  memory = subst (λ g. StubMemory (closed p (newest_call rest)) g rest u w.hart.memory (x w.hart sp) h.back) callee h.memory;
  kept = subst (λ g. StubRegisters (closed p (newest_call rest)) g rest u w.hart.memory (x w.hart sp) (saved_of w.hart)) callee h.kept;
  runtime = runtime_to p (newest_call rest) fs ((behind f q object selector b rest u word n).top ∷ rest) u w h.runtime none;
}

frees_there : (p : Plan) (b : Activation) (rest fs : List Activation) (u : World) (word : Word) (n : ℤ) (w : abi.World) → InPad p b rest fs u word n w → p.base ≡ records_end p.unit → b.function ≡ end_catch → b.place ≡ 1 →
    w.hart.pc ≡ operation_at p.unit end_catch 4 → FreesOnTheWay (closed p (newest_call rest)) (behind end_catch 4 2 3 b rest u word n) w
frees_there p b rest fs u word n w h base callee place pc = by h.how
  where
    q : Plan
    q = closed p (newest_call rest)

    object : (inner : ℕ) → DestructorWaits q b u w.hart.memory (x w.hart sp) inner ⊎ UnexpectedWaits q b u w.hart.memory (x w.hart sp) inner ⊎ LeavingWaits q b u w.hart.memory (x w.hart sp) inner →
        KeepsException q (b.frame.slots 0) u w.hart.memory (x w.hart sp + object_slot)
    object inner (inl d) = d.object
    object inner (inr (inl y)) = absurd (let both : call_unexpected ≡ end_catch = sym y.callee ∙ callee in cc both)
    object inner (inr (inr l)) = absurd (let both : call_unexpected ≡ end_catch = sym l.callee ∙ callee in cc both)

    by : ((inner : ℕ) × StubWaits q b u w.hart.memory (x w.hart sp) inner h.back × (destroyed fs ≡ destroyed (b ∷ rest))) ⊎ ((b.place ≡ 1 → ⊥) × (fs ≡ rest)) → FreesOnTheWay q (behind end_catch 4 2 3 b rest u word n) w
    by (inr (free, same)) = absurd (free place)
    by (inl (inner, waits, none)) = record {
      rests = rests_there p end_catch 20 4 2 3 b rest fs u word n w h callee (omega (arith, pc, base)) (none ∙ ap (λ g. destroyed_by g b.frame ++ destroyed rest) callee);
      place = refl;
      gets = h.gets;
      object = object inner waits.waits;
    }

checks_there : (p : Plan) (b : Activation) (rest fs : List Activation) (u : World) (word : Word) (n : ℤ) (w : abi.World) → InPad p b rest fs u word n w → p.base ≡ records_end p.unit → b.function ≡ call_unexpected → b.place ≡ 1 →
    w.hart.pc ≡ operation_at p.unit call_unexpected 3 → ChecksThrown (closed p (newest_call rest)) (behind call_unexpected 3 4 5 b rest u word n) w
checks_there p b rest fs u word n w h base callee place pc = by h.how
  where
    q : Plan
    q = closed p (newest_call rest)

    kept : (inner : ℕ) → DestructorWaits q b u w.hart.memory (x w.hart sp) inner ⊎ UnexpectedWaits q b u w.hart.memory (x w.hart sp) inner ⊎ LeavingWaits q b u w.hart.memory (x w.hart sp) inner →
        KeepsStopped q (behind call_unexpected 3 4 5 b rest u word n) w
    kept inner (inl d) = absurd (let both : end_catch ≡ call_unexpected = sym d.callee ∙ callee in cc both)
    kept inner (inr (inl y)) = record { stopped = y.stopped; selector = y.selector; selector_is = y.selector_is; list = y.list; owner = y.owner; owner_is = y.owner_is; table = y.table }
    kept inner (inr (inr l)) = absurd (by_place l.returns)
      where
        one : (k : ℕ) → b.place ≡ k + 2 → ⊥
        one k at = omega (arith, place, at)

        by_place : ((b.place ≡ 15) × (inner ≡ stub_word q.base call_unexpected 55)) ⊎ ((b.place ≡ 16) × (inner ≡ stub_word q.base call_unexpected 57)) → ⊥
        by_place (inl r) = one 13 r.0
        by_place (inr r) = one 14 r.0

    by : ((inner : ℕ) × StubWaits q b u w.hart.memory (x w.hart sp) inner h.back × (destroyed fs ≡ destroyed (b ∷ rest))) ⊎ ((b.place ≡ 1 → ⊥) × (fs ≡ rest)) → ChecksThrown q (behind call_unexpected 3 4 5 b rest u word n) w
    by (inr (free, same)) = absurd (free place)
    by (inl (inner, waits, none)) = record {
      rests = rests_there p call_unexpected 13 3 4 5 b rest fs u word n w h callee (omega (arith, pc, base)) (none ∙ ap (λ g. destroyed_by g b.frame ++ destroyed rest) callee);
      place = refl;
      gets = h.gets;
      filter = n;
      int = h.int;
      filter_is = (refl, h.filter);
      kept = kept inner waits.waits;
    }

leaves_there : (p : Plan) (b : Activation) (rest fs : List Activation) (u : World) (word : Word) (n : ℤ) (w : abi.World) → InPad p b rest fs u word n w → p.base ≡ records_end p.unit → b.function ≡ call_unexpected →
    w.hart.pc ≡ operation_at p.unit call_unexpected 14 → LeavesBoth (closed p (newest_call rest)) (behind call_unexpected 14 4 5 b rest u word n) w
leaves_there p b rest fs u word n w h base callee pc = record {
  rests = rests_there p call_unexpected 51 14 4 5 b rest fs u word n w h callee (omega (arith, pc, base)) (none h.how);
  place = refl;
  gets = h.gets;
}
  where
    none : ((inner : ℕ) × StubWaits (closed p (newest_call rest)) b u w.hart.memory (x w.hart sp) inner h.back × (destroyed fs ≡ destroyed (b ∷ rest))) ⊎ ((b.place ≡ 1 → ⊥) × (fs ≡ rest)) → destroyed fs ≡ destroyed rest
    none (inl (inner, waits, same)) = same ∙ ap (λ g. destroyed_by g b.frame ++ destroyed rest) callee
    none (inr (free, same)) = ap destroyed same

-- it rests behind the pad
rests_behind : (p : Plan) (b : Activation) (rest fs : List Activation) (u : World) (word : Word) (n : ℤ) (pad_at : ℕ) (st : LinearState) (w : abi.World) → InPad p b rest fs u word n w → p.base ≡ records_end p.unit → OwnPad b.function b.place pad_at →
    w.hart.pc ≡ operation_at p.unit b.function pad_at → pad_entered (fetch (code_of p.unit) b.function pad_at) word n b.function pad_at b.frame rest u ≡ goes_to st → Rests (resting p st) st w
rests_behind p b rest fs u word n pad_at st w h base (inl (callee, (place, at))) pc to =
    let is = is_behind (code_of p.unit) end_catch 4 2 3 pad_at b rest u word n st callee at refl to in
    subst (λ y. Rests (resting p y) y w) is (inr (inl (frees_there p b rest fs u word n w h base callee place (pc ∙ (ap (λ g. operation_at p.unit g pad_at) callee ∙ ap (operation_at p.unit end_catch) at)))))
rests_behind p b rest fs u word n pad_at st w h base (inr (callee, inl (place, at))) pc to =
    let is = is_behind (code_of p.unit) call_unexpected 3 4 5 pad_at b rest u word n st callee at refl to in
    subst (λ y. Rests (resting p y) y w) is (inr (inr (inl (checks_there p b rest fs u word n w h base callee place (pc ∙ (ap (λ g. operation_at p.unit g pad_at) callee ∙ ap (operation_at p.unit call_unexpected) at))))))
rests_behind p b rest fs u word n pad_at st w h base (inr (callee, inr at)) pc to =
    let is = is_behind (code_of p.unit) call_unexpected 14 4 5 pad_at b rest u word n st callee at refl to in
    subst (λ y. Rests (resting p y) y w) is (inr (inr (inr (inl (leaves_there p b rest fs u word n w h base callee (pc ∙ (ap (λ g. operation_at p.unit g pad_at) callee ∙ ap (operation_at p.unit call_unexpected) at)))))))

-- ---- what becomes of a hart that the unwinder has put there
-- a call that raises waits for nothing
abbrev pub RaisesHere : Activation → Type 0
RaisesHere a = a.place ≡ 1 → IsOwn a.function → ⊥

enters_own : (i : CleanImage) (a : Activation) (st : LinearState) → RaisesHere a → IsOwn st.top.function → EntersPad i a st 0 (λ p t. Rests (resting p st) st t)
enters_own i a st free own p fs v s running h judge u w word value cfa table next result lands passed stops to int plain ints count later runtime gets =
    let code = code_of p.unit in
    let b = lands.landing.activation in
    let rest = activations lands.outer ++ top_tail p a fs v s h in
    let q = closed p (newest_call rest) in
    let came = sym lands.enters ∙ to in
    let entered = pad_is (fetch code b.function lands.pad) word lands.selector b.function lands.pad b.frame rest u st came in
    let own_b : IsOwn b.function = subst IsOwn (ap (λ y. y.top.function) entered.is) own in
    let there = own_landed_in p a fs v s h judge lands.inner lands.landing lands.outer free lands.split passed stops own_b in
    let low : ℕ = outer_sp (x s sp) (calls lands.inner) in
    let hart = pad_hart lands.after value (extended lands.selector) lands.in_frame.registers in
    let w0 : abi.World = at_pad value lands.selector (abi.at_hart lands.after w) in
    let pointer : low ≡ x w0.hart sp = sym (hart.3 ∙ lands.in_frame.pointer) in
    let memory = stub_memory p b.function h.limit there.below rest v u s.memory low there.back h.around there.less ints count later there.stands there.waiting in
    let regs : List ℕ = regs_at (calls lands.inner) (saved_of s) in
    let saved : saved_of w0.hart ≡ regs = given_saved lands.after w0.hart value (extended lands.selector) refl ∙ lands.in_frame.saved in
    let kept : StubRegisters q b.function rest u s.memory low regs = record {
      small = there.kept.small;
      waiting = registers_closed p (newest_call rest) rest v u s.memory (low + frame_size b.function) there.back there.below regs ints there.waiting there.kept.waiting;
    } in
    let in_pad : InPad p b rest fs u word lands.selector w0 = record {
      back = there.back;
      registers = hart.0;
      memory = subst (λ ps. StubMemory q b.function rest u ps (x w0.hart sp) there.back) (sym lands.in_frame.memory) (subst (λ k. StubMemory q b.function rest u s.memory k there.back) pointer memory);
      kept = subst (λ ps. StubRegisters q b.function rest u ps (x w0.hart sp) (saved_of w0.hart)) (sym lands.in_frame.memory)
          (subst (λ k. StubRegisters q b.function rest u s.memory k (saved_of w0.hart)) pointer (subst (λ rs. StubRegisters q b.function rest u s.memory low rs) (sym saved) kept));
      how = waited p b rest fs v u s.memory w0.hart.memory low (x w0.hart sp) there.back (sym lands.in_frame.memory) pointer later there.how;
      runtime = record { input = runtime.input; replies = runtime.replies; last_number = runtime.last_number; terminating = runtime.terminating; exceptions = runtime.exceptions; plan = runtime.plan };
      gets = subst (PadGets q u word) (sym hart.1) (gets_closed p u (newest_call rest) word value gets);
      int = int;
      filter = hart.2;
    } in
    let rests = rests_behind p b rest fs u word lands.selector lands.pad st w0 in_pad running.base (own_pads code b.function b.place lands.pad lands.chain own_b lands.covers) lands.in_frame.pc came in
    record { turns = 0; few = omega arith; some = λ some. some; after = w0; runs = no_turns (program_of i).image w0; holds = (rests, kept_in_pad w w0 value (extended lands.selector) lands.after (same_runtime w0)) }
  where
    waited : (p : Plan) (b : Activation) (rest fs : List Activation) (v u : World) (old new : List Part) (low at back : ℕ) → old ≡ new → low ≡ at → v.last_number ≤ u.last_number →
        ((inner : ℕ) × StubWaits p b v old low inner back × (destroyed fs ≡ destroyed (b ∷ rest))) ⊎ ((b.place ≡ 1 → ⊥) × (fs ≡ rest)) →
        ((inner : ℕ) × StubWaits (closed p (newest_call rest)) b u new at inner back × (destroyed fs ≡ destroyed (b ∷ rest))) ⊎ ((b.place ≡ 1 → ⊥) × (fs ≡ rest))
    waited p b rest fs v u old new low at back same there later (inr free) = inr free
    waited p b rest fs v u old new low at back same there later (inl (inner, waits, none)) =
        let q = closed p (newest_call rest) in
        let stays : StubWaits q b u old low inner back
        = stub_stays p q v u old old b low inner (record { base = refl; tables = λ n. refl; object = λ e le. refl }) later (stub_same b.function low old) back (λ c live. waits.stands.alone c (live_before p (newer (newest_call rest)) c live).0) waits in
        inl (inner, subst (λ ps. StubWaits q b u ps at inner back) same (subst (λ k. StubWaits q b u old k inner back) there stays), none)

-- that of a compiled function
enters_compiled : (i : CleanImage) (a : Activation) (st : LinearState) (m : ℕ) → st.top.function ≡ compiled m → EntersPad i a st (pad_words st.top.function) (λ p t. Rests (resting p st) st t)
enters_compiled i a st m callee p fs v s running h judge u w word value cfa table next result lands passed stops to int plain ints count later runtime gets =
    let ran = pad_entered_runs i a st m callee p fs v s running h judge u w word value cfa table next result lands passed stops to int plain ints count later runtime gets in
    let number : st.top.frame.call ≡ newest_call (st.top ∷ st.frames) = sym (ap (λ g. elim (number_of_call g st.top.frame.call) [ None ↦ newest_call st.frames | Some c ↦ c ]) callee) in
    let words : 2 ≡ pad_words st.top.function = sym (ap pad_words callee) in
    record {
      turns = ran.turns;
      few = omega (arith, ran.few, words);
      some = λ some. ran.some (omega arith);
      after = ran.after;
      runs = ran.runs;
      holds = (inl (subst (λ c. Matches (closed p c) st ran.after) number ran.holds.0), ran.holds.1);
    }

-- the pad of any function
pub enters_any : (i : CleanImage) (a : Activation) (st : LinearState) → RaisesHere a → GoesOn st → EntersPad i a st (pad_words st.top.function) (λ p t. Rests (resting p st) st t)
enters_any i a st free goes_on = by st.top.function refl
  where
    -- of one of the runtime's own
    own : (f : Function) → st.top.function ≡ f → IsOwn f → 0 ≡ pad_words f → EntersPad i a st (pad_words st.top.function) (λ p t. Rests (resting p st) st t)
    own f callee is words = subst (λ k. EntersPad i a st k (λ p t. Rests (resting p st) st t)) (words ∙ sym (ap pad_words callee)) (enters_own i a st free (subst IsOwn (sym callee) is))

    by : (f : Function) → st.top.function ≡ f → EntersPad i a st (pad_words st.top.function) (λ p t. Rests (resting p st) st t)
    by (compiled m) callee = enters_compiled i a st m callee
    by end_catch callee = own end_catch callee tt refl
    by terminating callee = absurd (goes_on callee)
    by call_unexpected callee = own call_unexpected callee tt refl
