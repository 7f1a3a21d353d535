-- Terminating is matched.
use Rattle.std.proofs.Common.{◌≡◌, ◌∙◌, refl, sym, ap, subst, arith, ℕ, ◌+◌, ◌-◌, ◌≤◌, Bool, true, false, List, [], ◌∷◌, append-nil, length, Option, Some, is_some, inl, inr}
use Rattle.std.specs.Prelude.{◌⊎◌, if◌then◌else◌}
use Rattle.meaning_forms.specs.Outcome.{aborted}
use Rattle.rv64_isa.specs.State.{State}
use Rattle.rv64_isa.specs.Step.{x}
use Rattle.cxa_runtime.specs.World as abi
use Rattle.cxa_runtime.specs.World.{argument}
use Rattle.cxa_runtime.specs.Call.{call_effect}
use Rattle.cxa_runtime.specs.Terminate.{terminates}
use Rattle.cxa_runtime.specs.Raising.{Image}
use Rattle.region_forms.specs.World.{of_exception, World, nothing}
use Rattle.region_forms.specs.Form.{enter}
use Rattle.linear_forms.specs.Linear.{plain, LinearOp}
use Rattle.linear_forms.specs.Stub.{compiled, terminating}
use Rattle.linear_forms.specs.Activation.{Activation, State as LinearState, Next, at as linear_at, finishes, by_program, stub_frame, function_word}
use Rattle.linear_forms.specs.UnitRun.{code_of}
use Rattle.machine_forms.specs.Registers.{sp, a0}
use Rattle.machine_forms.specs.RuntimeCall.{runtime_call}
use Rattle.machine_forms.specs.LinearCode.{linear_code}
use Rattle.machine_forms.specs.Routine.{op_word}
use Rattle.machine_forms.specs.Leaf.{linear_stays}
use Rattle.machine_pieces.specs.Standing.{Ground, address, PiecesAt}
use Rattle.machine_pieces.specs.Turning.{ForcedTurns, Turns, ForcedReaches, Reaches}
use Rattle.machine_pieces.specs.Laws.{CallsAreTurns}
use Rattle.machine_pieces.proofs.Fetching.{pieces_split}
use Rattle.machine_pieces.proofs.Going.{goes_none}
use Rattle.machine_pieces.proofs.Turning.{as_forced, forced_then}
use Rattle.machine_pieces.specs.Transfers.{lowest_sp}
use Rattle.machine_pieces.specs.Keeping.{saved_of, AreSmall}
use Rattle.machine_stubs.specs.Stretches.{StubAt, stub_word}
use Rattle.machine_stubs.specs.Calls.{asked}
use Rattle.machine_stubs.specs.Terminates as stubs
use Rattle.machine_stubs.specs.Terminates.{MayTerminate, sent, CallsTerminate}
use Rattle.machine_simulation.specs.Plan.{Plan, shape, routine, first_word, setting}
use Rattle.machine_simulation.specs.Calls.{open_bytes, stack_end}
use Rattle.machine_simulation.specs.Exceptions.{Addresses, addresses_of, kept_by, destroyed, IsFunction}
use Rattle.machine_simulation.specs.Matches.{StackMay, RuntimeMatches, MemoryMatches, Matches}
use Rattle.machine_simulation.specs.Entering.{opened, frame_for, begin_room, entry_turns}
use Rattle.machine_simulation.proofs.Words.{OperationAt, operation_at, even_base}
use Rattle.machine_simulation.proofs.Matching.{Stands, stands_by, runtime_stays}
use Rattle.machine_simulation.proofs.Holding.{same_number}
use Rattle.machine_simulation.proofs.Lines.{matches_alike}
use Rattle.machine_simulation.proofs.Freeing.{beside_matches}
use Rattle.machine_simulation.proofs.Calling.{stack_at, runtime_pushed}
use Rattle.machine_simulation.proofs.Floors.{caller_above}
use Rattle.machine_exceptions.specs.Leaves.{StepsTo}
use Rattle.machine_exceptions.specs.Terminates.{AtTerminating, TerminatesAtOnce, EntersCrowded, waiting_terminate, ending_world, in_handler, HandlerFits}
use Rattle.machine_exceptions.proofs.EndCatching.{room_below}
use Rattle.machine_exceptions.proofs.Ecalls.{ecall_reached, object_loaded, given_in_first}
use Rattle.machine_exceptions.proofs.Travels.{can_enter}
use Rattle.machine_exceptions.proofs.Enters.{crowded_call}
use Rattle.machine_exceptions.proofs.Terminating.{terminating_op, terminating_step}
use Rattle.machine_exceptions.proofs.Handlers.{handler_entered, handler_runs, lowest_least}

-- ---- the runtime call, from its ECALL on

-- what stands where an operation makes a runtime call that terminates
pub record Called (image : Image) (p : Plan) (n : ℕ) (st : LinearState) (w : abi.World) (back : ℕ) : Type 0 where
  pub turns : ℕ
  pub few : turns ≤ 2
  pub at : abi.World
  pub runs : Turns image turns w at []
  pub behind : State
  pub number : ℕ
  pub calls : stubs.Terminates image number at.terminate_handler at (asked behind at)
  pub memory : behind.memory ≡ w.hart.memory
  pub stack : x behind sp ≡ x w.hart sp
  pub saved : saved_of behind ≡ saved_of w.hart
  pub may : MayTerminate p.unit p.base image (asked behind at)
  pub runtime : RuntimeMatches p st.frames st.world at

-- an operation that terminates is none that is done inside its function
leaves : (p : Plan) (n : ℕ) (st : LinearState) (o : LinearOp) → TerminatesAtOnce st.world o ⊎ EntersCrowded p n st o → linear_stays o ≡ false
leaves p n st o (inl (inl (inl h))) = ap linear_stays h.2
leaves p n st o (inl (inl (inr (inl h)))) = ap linear_stays h.1
leaves p n st o (inl (inl (inr (inr h)))) = ap linear_stays h.1
leaves p n st o (inl (inr (inl h))) = ap linear_stays h.1
leaves p n st o (inl (inr (inr h))) = ap linear_stays h.0
leaves p n st o (inr c) = ap linear_stays c.is

stands_high : (image : Image) (p : Plan) (n : ℕ) (st : LinearState) (w : abi.World) (back : ℕ) → Stands p n st w back → AtTerminating image p n st → 0x7000_1000 ≤ x w.hart sp
stands_high image p n st w back h at = caller_above p n st.top.place st.top.frame st.world w.hart.memory (x w.hart sp) back at.operation at.there (leaves p n st at.operation at.terminates) h.memory.top

-- where the ECALL is reached, the stack is that of the operation
pub call_may : (image : Image) (p : Plan) (n : ℕ) (st : LinearState) (w : abi.World) (back : ℕ) (behind : State) (at : abi.World) → Stands p n st w back → 0x7000_1000 ≤ x w.hart sp → image.places.terminate ≡ stub_word p.base terminating 0 → length behind.regs ≡ 32 →
    behind.memory ≡ w.hart.memory → x behind sp ≡ x w.hart sp → MayTerminate p.unit p.base image (asked behind at)
call_may image p n st w back behind at h high named registers memory stack = record {
  named = named;
  registers = registers;
  code = subst (StubAt p.unit p.base terminating) (sym memory) h.memory.unit.stubs.terminate;
  deep = omega (arith, stack, high);
  room = room_below behind.memory (x behind sp) 32 (subst StackMay (sym memory) h.memory.may) (omega (arith, stack, high)) (omega (arith, stack, h.memory.top.below))
      (omega (arith, stack, h.memory.top.saved.aligned)) refl;
}

called_at_once : CallsAreTurns → (image : Image) (p : Plan) (n : ℕ) (st : LinearState) (w : abi.World) (back : ℕ) → Stands p n st w back → (at : AtTerminating image p n st) → TerminatesAtOnce st.world at.operation → Called image p n st w back
called_at_once turns image p n st w back h at once =
    let op = terminating_op image p n st at once in
    let g : Ground = (setting p n).ground in
    let here : ℕ = first_word p n + op_word (routine p n) st.top.place in
    let own = subst (OperationAt p w.hart.memory n st.top.place) op.pieces (operation_at p w.hart.memory n st.top.place at.operation h.memory.unit h.memory.top.known at.there) in
    let parts = pieces_split w.hart.memory g here (runtime_call op.number) op.rear own.code in
    let same_here : here ≡ here + 0 = omega arith in
    let ec = ecall_reached turns image g here 0 0 op.number w (goes_none g here 0 w.hart h.pc h.registers) op.small (subst (λ k. PiecesAt w.hart.memory g k (runtime_call op.number)) same_here parts.0) in
    let t : abi.World = asked ec.behind ec.at in
    let r = runtime_stays p st.frames st.world w ec.at ec.runtime h.runtime in
    record {
      turns = ec.turns;
      few = omega (arith, ec.few);
      at = ec.at;
      runs = ec.runs;
      behind = ec.behind;
      number = op.number;
      calls = record { behind = ec.behind; calls = ec.calls; asks = ec.asks; effect = λ wish. op.effect (addresses_of p) (destroyed st.frames) (kept_by ec.at) wish t refl r.exceptions };
      memory = ec.memory;
      stack = ec.stack;
      saved = ec.saved;
      may = call_may image p n st w back ec.behind ec.at h (stands_high image p n st w back h at) at.named ec.registers ec.memory ec.stack;
      runtime = r;
    }

-- a foreign exception is entered while another is handled
called_crowded : CallsAreTurns → (image : Image) (p : Plan) (n : ℕ) (st : LinearState) (w : abi.World) (back : ℕ) → Stands p n st w back → (at : AtTerminating image p n st) → EntersCrowded p n st at.operation → Called image p n st w back
called_crowded turns image p n st w back h at c =
    let g : Ground = (setting p n).ground in
    let here : ℕ = first_word p n + op_word (routine p n) st.top.place in
    let s : ℕ = c.slot in
    let e : ℕ = c.number in
    let own = operation_at p w.hart.memory n st.top.place (plain (enter s)) h.memory.unit h.memory.top.known (at.there ∙ ap (λ o. Some o) c.is) in
    let first = object_loaded p n st w back here s e h c.holds own.code.0 h.pc in
    let ec = ecall_reached turns image g here 1 0 6 w first.goes (omega arith) own.code.1 in
    let t : abi.World = asked ec.behind ec.at in
    let r = runtime_stays p st.frames st.world w ec.at ec.runtime h.runtime in
    let given : argument t 10 ≡ p.at (of_exception e) = ec.kept a0 (λ d. absurd (omega (arith, d))) ∙ first.is ∙ omega arith in
    let effect : (wish : ℕ) → call_effect 6 image wish t ≡ terminates image.places ec.at.terminate_handler t
    = crowded_call image p st e ec.behind ec.at r.exceptions (can_enter st.frames st.world e c.may c.defined) c.crowded given in
    record {
      turns = ec.turns;
      few = omega (arith, ec.few);
      at = ec.at;
      runs = ec.runs;
      behind = ec.behind;
      number = 6;
      calls = record { behind = ec.behind; calls = ec.calls; asks = ec.asks; effect = effect };
      memory = ec.memory;
      stack = ec.stack;
      saved = ec.saved;
      may = call_may image p n st w back ec.behind ec.at h (stands_high image p n st w back h at) at.named ec.registers ec.memory ec.stack;
      runtime = r;
    }

pub called : CallsAreTurns → (image : Image) (p : Plan) (n : ℕ) (st : LinearState) (w : abi.World) (back : ℕ) → Stands p n st w back → (at : AtTerminating image p n st) → Called image p n st w back
called turns image p n st w back h at = by at.terminates
  where
    by : TerminatesAtOnce st.world at.operation ⊎ EntersCrowded p n st at.operation → Called image p n st w back
    by (inl once) = called_at_once turns image p n st w back h at once
    by (inr crowded) = called_crowded turns image p n st w back h at crowded

-- ---- the handler begins

handler_is : (t : Addresses) (h : Option ℕ) (m a : ℕ) → h ≡ Some m → IsFunction t h a → IsFunction t (Some m) a
handler_is t h m a is f = subst (λ k. IsFunction t k a) is f

-- where a runtime call terminates, with a handler that is a function of the unit, in a world that matches but for terminate
pub record AtHandler (image : Image) (p : Plan) (n m : ℕ) (st : LinearState) (w : abi.World) (back : ℕ) : Type 0 where
  pub turns : ℕ
  pub at : abi.World
  pub runs : Turns image turns w at []
  pub to : abi.World
  pub number : ℕ
  pub handler : ℕ
  pub calls : stubs.Terminates image number handler at to
  pub may : MayTerminate p.unit p.base image to
  pub known : IsFunction (addresses_of p) (Some m) handler
  pub memory : MemoryMatches p n st.top.frame st.frames st.world to.hart.memory (x to.hart sp) back
  pub small : AreSmall (saved_of to.hart)
  pub runtime : RuntimeMatches p st.frames st.world to
  pub end : x to.hart sp + open_bytes p (st.top ∷ st.frames) ≡ stack_end

-- there is room below terminate's frame
pub room_left : (stack taken : ℕ) (leaf : Bool) (size : ℕ) → stack + taken ≡ stack_end → taken + 32 + begin_room leaf size ≤ 0x100_0000 → lowest_sp leaf size ≤ stack - 32
room_left stack taken true size end h = omega (arith, end, h)
room_left stack taken false size end h = omega (arith, end, h)

few_handler : (t a b : ℕ) → a ≤ 7 → t + a + b ≤ t + 7 + b
few_handler t a b h = omega (arith, h)

few_more : (x t e l : ℕ) → x ≤ t + 7 + e → t ≤ 2 → x ≤ l + 9 + e
few_more x t e l h i = omega (arith, h, i)

pub handler_reached : CallsTerminate → (image : Image) (p : Plan) (n m : ℕ) (st : LinearState) (w : abi.World) (back : ℕ) (c : AtHandler image p n m st w back) → st.top.function ≡ compiled n → st.world.ending ≡ false → p.hidden ≡ 0 →
    let active = waiting_terminate m ∷ st.top ∷ st.frames in HandlerFits p m active →
    ForcedReaches image (c.turns + 7 + entry_turns p m) w c.to.shown (λ u. Matches (opened p m st.world.calls (frame_for p m active)) (in_handler p m st) u × (u.unwinding ≡ c.to.unwinding))
handler_reached laws image p n m st w back c callee quiet hidden fits =
    let v : World = st.world in
    let ve : World = ending_world v in
    let active : List Activation = waiting_terminate m ∷ st.top ∷ st.frames in
    let t : abi.World = c.to in
    let first : ℕ = address (setting p m).ground (first_word p m) in
    let code = (c.memory.unit.functions m c.known.1).0 in
    let even = even_base p t.hart.memory c.memory.unit in
    let calls = subst (λ k. stubs.Terminates image c.number k c.at t) c.known.0 c.calls in
    let come = laws.unwinds_to_the_handler image p.unit p.base c.number first c.at t calls (c.runtime.terminating ∙ quiet) c.may (λ zero. absurd (omega (arith, zero))) (omega (arith, even)) (omega (arith, code.word.below)) in
    let v2 : abi.World = come.after in
    let ad = come.holds in
    let stack : ℕ = x t.hart sp in
    let end : stack + open_bytes p (st.top ∷ st.frames) ≡ stack_end = c.end in
    let least : lowest_sp (shape p m).leaf (shape p m).size ≤ stack - 32 = room_left stack (open_bytes p (st.top ∷ st.frames)) (shape p m).leaf (shape p m).size end (subst (λ k. k + begin_room (shape p m).leaf (shape p m).size ≤ 0x100_0000) (omega (arith, hidden)) fits.room) in
    let deep : 0x7000_0800 ≤ stack - 32 = omega (arith, least, lowest_least (shape p m).leaf (shape p m).size) in
    let held2 = beside_matches p n st.top.frame st.frames v t.hart.memory v2.hart.memory stack back (stack - 32) 32 c.memory
    (record { low = omega (arith, deep); high = omega (arith, deep) }) ad.kept.beside in
    let held3 = matches_alike p n st.top.frame st.frames v ve v2.hart.memory stack back refl refl (same_number v) held2 in
    let place : stack ≡ x v2.hart sp + 32 = omega (arith, ad.pointer, deep) in
    let entered = handler_entered image p n m st.top.frame st.frames ve stack back v2 c.known.1 ad.there ad.registers ad.holds.0 held3 (omega (arith, place)) (omega (arith, place, held3.top.saved.aligned))
    (subst (λ a. lowest_sp (shape p m).leaf (shape p m).size ≤ a) (omega (arith, place)) least) in
    let pushed = runtime_pushed p n st.top st.frames v t callee c.runtime in
    let runtime1 : RuntimeMatches p active ve (sent image.places first t) = record { input = pushed.input; replies = pushed.replies; last_number = pushed.last_number; terminating = refl; exceptions = pushed.exceptions; plan = pushed.plan } in
    let runtime2 = runtime_stays p active ve (sent image.places first t) v2 ad.kept.runtime runtime1 in
    let small = subst AreSmall (sym (ad.variables ∙ given_in_first t.hart (sent image.places first t).hart first refl)) c.small in
    let ran = handler_runs image p m st (frame_for p m active) v2 entered fits (omega (arith, place, end, hidden)) small runtime2 (omega (arith, place, end, hidden)) in
    record {
      turns = c.turns + come.turns + entry_turns p m;
      few = few_handler c.turns come.turns (entry_turns p m) come.few;
      after = ran.after;
      runs = subst (ForcedTurns image (c.turns + come.turns + entry_turns p m) w ran.after) (append-nil t.shown)
          (forced_then image (c.turns + come.turns) (entry_turns p m) w v2 ran.after t.shown [] (forced_then image c.turns come.turns w c.at v2 [] t.shown (as_forced image c.turns w c.at [] c.runs) come.runs)
          (as_forced image (entry_turns p m) v2 ran.after [] ran.runs));
      holds = (ran.holds, ran.runs.unwinding ∙ ad.kept.runtime.unwinding);
    }

pub handler_from : CallsTerminate → (image : Image) (p : Plan) (n m : ℕ) (st : LinearState) (w : abi.World) (back : ℕ) (c : AtHandler image p n m st w back) → st.top.function ≡ compiled n → st.world.ending ≡ false → p.hidden ≡ 0 →
    let active = waiting_terminate m ∷ st.top ∷ st.frames in HandlerFits p m active → c.to.unwinding ≡ c.at.unwinding →
    Reaches image (c.turns + 7 + entry_turns p m) w c.to.shown (λ u. Matches (opened p m st.world.calls (frame_for p m active)) (in_handler p m st) u)
handler_from laws image p n m st w back c callee quiet hidden fits kept =
    let reached = handler_reached laws image p n m st w back c callee quiet hidden fits in
    record { turns = reached.turns; few = reached.few; after = reached.after; runs = record { run = reached.runs.run; unwinding = reached.holds.1 ∙ kept ∙ c.runs.unwinding }; holds = reached.holds.0 }

pub handler_begins : CallsAreTurns → CallsTerminate → (image : Image) (p : Plan) (n m : ℕ) (st : LinearState) (w : abi.World) → Matches p st w → (at : AtTerminating image p n st) → st.world.ending ≡ false →
    st.world.installed.terminate_handler ≡ Some m → p.hidden ≡ 0 → let active = waiting_terminate m ∷ st.top ∷ st.frames in HandlerFits p m active →
    Reaches image (length (linear_code (shape p n) at.operation) + 9 + entry_turns p m) w [] (λ u. Matches (opened p m st.world.calls (frame_for p m active)) (in_handler p m st) u)
handler_begins turns laws image p n m st w h at quiet installed hidden fits =
    let stood = stands_by p n st w h at.runs in
    let c = called turns image p n st w h.back stood at in
    let t : abi.World = asked c.behind c.at in
    let r = c.runtime in
    let from = handler_from laws image p n m st w h.back (record {
      turns = c.turns;
      at = c.at;
      runs = c.runs;
      to = t;
      number = c.number;
      handler = c.at.terminate_handler;
      calls = c.calls;
      may = c.may;
      known = handler_is (addresses_of p) st.world.installed.terminate_handler m c.at.terminate_handler installed r.exceptions.terminate_handler;
      memory = subst (λ ps. MemoryMatches p n st.top.frame st.frames st.world ps (x c.behind sp) h.back) (sym c.memory) (subst (λ a. MemoryMatches p n st.top.frame st.frames st.world w.hart.memory a h.back) (sym c.stack) stood.memory);
      small = subst AreSmall (sym c.saved) stood.kept.small;
      runtime = record { input = r.input; replies = r.replies; last_number = r.last_number; terminating = r.terminating; exceptions = r.exceptions; plan = r.plan };
      end = ap (λ a. a + open_bytes p (st.top ∷ st.frames)) c.stack ∙ stack_at p n st w h.back stood;
    }) at.runs quiet hidden fits refl in
    record { turns = from.turns; few = few_more from.turns c.turns (entry_turns p m) (length (linear_code (shape p n) at.operation)) from.few c.few; after = from.after; runs = from.runs; holds = from.holds }

-- ---- and on the machine for linear code

pub begins_in_two : (image : Image) (p : Plan) (n m : ℕ) (st : LinearState) → AtTerminating image p n st → st.world.ending ≡ false → st.world.installed.terminate_handler ≡ Some m → StepsTo (code_of p.unit) 2 st (in_handler p m st)
begins_in_two image p n m st at quiet installed =
    let v : World = st.world in
    let fs : List Activation = st.top ∷ st.frames in
    let waiting : Option ℕ → Next = λ h. linear_at terminating 0 (stub_frame (function_word h) nothing nothing) fs (record v { ending = is_some h }) in (
      record { top = waiting_terminate m; frames = fs; world = ending_world v },
      terminating_step image p n st at ∙ ap (λ b. if b then finishes (by_program aborted) v else waiting v.installed.terminate_handler) quiet ∙ ap waiting installed,
      (in_handler p m st, refl, refl),
    )
