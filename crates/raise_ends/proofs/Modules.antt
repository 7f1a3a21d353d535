-- A module raises an exception that nothing stops, on both machines.
use Rattle.std.proofs.Common.{◌≡◌, ◌∙◌, refl, sym, ap, subst, arith, ℕ, ◌+◌, ◌<◌, Bool, true, false, List, [], ◌∷◌, length, slice_set, Some, None}
use Rattle.std.specs.Prelude.{if◌then◌else◌}
use Rattle.std.proofs.lemmas.Bool.Decides.{nat_tests}
use Rattle.eh_outer.specs.declared.module.Reply.{Reply}
use Rattle.run_items.specs.declared.item.Item.TheVariants.{Foreign}
use Rattle.rv64_isa.specs.Step.{x}
use Rattle.elf_image.specs.Clean.{CleanImage}
use Rattle.raise_core.specs.Raise as unwinder
use Rattle.caught_stack.specs.Live.{slots, is_vacant, live_count}
use Rattle.caught_stack.proofs.Headers.{vacant_below}
use Rattle.cxa_runtime.specs.declared.object.Object.{Object}
use Rattle.cxa_runtime.specs.Flying.{one_uncaught}
use Rattle.cxa_runtime.specs.Foreign.{foreign_object, raised_in}
use Rattle.cxa_runtime.specs.Terminate.{terminates}
use Rattle.cxa_runtime.specs.World as abi
use Rattle.cxa_runtime.specs.World.{with_exceptions}
use Rattle.cxa_runtime.specs.Raising.{Image}
use Rattle.cxa_runtime.specs.Call.{call_effect}
use Rattle.eh_run.specs.Program.{program_of}
use Rattle.region_forms.specs.World.{World, foreign, exception_type, exception_at}
use Rattle.region_forms.specs.Effect.{is_full, terminates as terminates_effect, raises, flies}
use Rattle.linear_forms.specs.Search.{found, found_above}
use Rattle.linear_forms.specs.Activation.{Activation, State as LinearState, Next, finishes, by_program, look, terminated}
use Rattle.linear_forms.specs.Machine.{step}
use Rattle.linear_forms.specs.Operation.{performed}
use Rattle.linear_forms.specs.Unwinding.{doomed_by, raised_to, unwind}
use Rattle.linear_forms.specs.UnitRun.{code_of}
use Rattle.meaning_forms.specs.Outcome.{aborted}
use Rattle.machine_forms.specs.Registers.{sp}
use Rattle.machine_forms.specs.LinearCode.{linear_code}
use Rattle.machine_pieces.specs.Laws.{CallsAreTurns}
use Rattle.machine_stubs.specs.Calls.{asked, CallsAreMade}
use Rattle.machine_stubs.specs.Terminate.{TerminateRuns}
use Rattle.table_verdicts.specs.Types.{thrown_as}
use Rattle.image_tables.specs.Functions.{records_end, operation_at as image_operation_at}
use Rattle.raise_simulation.specs.Raises.{RaisesAgree}
use Rattle.machine_simulation.specs.Plan.{Plan, shape}
use Rattle.machine_simulation.specs.Exceptions.{addresses_of, IsFunction}
use Rattle.machine_simulation.specs.Matches.{Matches}
use Rattle.machine_simulation.specs.Objects.{with_object}
use Rattle.machine_simulation.proofs.Matching.{Stands, stands_by}
use Rattle.machine_simulation.proofs.Calling.{runtime_pushed}
use Rattle.machine_exceptions.proofs.Enters.{exception_is}
use Rattle.machine_exceptions.proofs.LiveLists.{new_in}
use Rattle.machine_exceptions.proofs.Made.{slot_given}
use Rattle.machine_exceptions.proofs.Making.{matches_made}
use Rattle.machine_raises.specs.Stacks.{IsRunning, InCall}
use Rattle.machine_raises.proofs.ForeignMade.{no_such}
use Rattle.machine_raises.proofs.Stacks.{all_opens, all_tail, opens_are, stack_raised}
use Rattle.machine_raises.proofs.AtCalls.{running_still}
use Rattle.raise_ends.specs.Ends.{HandlerBegins}
use Rattle.raise_ends.specs.Modules.{AtRaise, raising_world, raising_state, ModulesDoom}
use Rattle.raise_ends.proofs.Steps.{first_state, handler_in_two}
use Rattle.raise_ends.proofs.Comes.{Comes, Sends, picked_wish, handler_picked}
use Rattle.raise_ends.proofs.Aborting.{aborts_both}
use Rattle.raise_ends.proofs.Asking.{may_terminate, may_from, all_open, lost_as}
use Rattle.raise_ends.proofs.Again.{before_world}
use Rattle.raise_ends.proofs.ForeignMade.{left_in, made_in, made_runtime, making_in}
use Rattle.raise_ends.proofs.Raising.{raise_step, RaiseAsked, raise_asked}

-- ---- the step

doomed_step : (i : CleanImage) (p : Plan) (n k token : ℕ) (left : List Reply) (st : LinearState) (w : abi.World) (back : ℕ) → Stands p n st w back → AtRaise i p n k token left st → is_full st.world ≡ false →
    found_above (code_of p.unit) None (st.top ∷ st.frames) ≡ None → step (code_of p.unit) st ≡ terminated st.world.installed.terminate_handler (st.top ∷ st.frames) (raising_world st.world k token left)
doomed_step i p n k token left st w back h at free lost =
    let code = code_of p.unit in
    let v : World = st.world in
    let e : ℕ = v.last_number + 1 in
    let u : World = raising_world v k token left in
    let fs : List Activation = st.top ∷ st.frames in
    let none = no_such v.live e v.last_number h.runtime.exceptions.numbers refl in
    let is : exception_at u e ≡ foreign k token = exception_is u.live e (foreign k token) (new_in v.live e (foreign k token) none) in
    raise_step i p n k token left st at
    ∙ ap (λ c. performed code (if c then terminates_effect v.installed.terminate_handler (record v { replies = slice_set v.replies k left }) else raises e u) st.top st.frames v) free
    ∙ ap (λ o. raised_to o e fs u (λ c. unwind code (look code st.top.function st.top.place) c e st.top.function st.top.frame st.frames (flies e u))) (ap (λ o. found code st.top.function (look code st.top.function st.top.place) o st.frames) (ap exception_type is) ∙ lost)
    ∙ by_exception e fs u is
  where
    -- whether terminate runs or not
    twice : (b : Bool) (one other : Next) → (if b then one else (if b then one else other)) ≡ (if b then one else other)
    twice true one other = refl
    twice false one other = refl

    by_exception : (e : ℕ) (fs : List Activation) (u : World) → exception_at u e ≡ foreign k token → (if u.ending then finishes (by_program aborted) u else doomed_by e (exception_at u e) fs u) ≡ terminated u.installed.terminate_handler fs u
    by_exception e fs u is = ap (λ z. if u.ending then finishes (by_program aborted) u else doomed_by e z fs u) is ∙ twice u.ending (finishes (by_program aborted) u) (first_state u.installed.terminate_handler fs u)

-- ---- the runtime call, for the slot that is picked

record RaiseLost (i : CleanImage) (pick : ℕ → ℕ) (p : Plan) (n k token : ℕ) (left : List Reply) (st : LinearState) (w : abi.World) (back words : ℕ) : Type 0 where
  asks : RaiseAsked i p n k token left st w back words
  slot : ℕ
  below : slot < slots
  vacant : is_vacant asks.call.at.exceptions.live slot ≡ true
  effect : let c = asks.call in let y = asked c.behind c.at in let made = made_in y slot k token left in
      call_effect 14 (program_of i).image (pick (c.at.last_number + 1)) y ≡ terminates (program_of i).image.places y.terminate_handler (before_world made.exceptions (with_exceptions (one_uncaught made.exceptions) made))

raise_lost : CallsAreTurns → RaisesAgree → (i : CleanImage) (pick : ℕ → ℕ) (p : Plan) (n k token : ℕ) (left : List Reply) (st : LinearState) (w : abi.World) (back : ℕ) → Stands p n st w back → IsRunning p i w.hart →
    (at : AtRaise i p n k token left st) → is_full st.world ≡ false → found_above (code_of p.unit) None (st.top ∷ st.frames) ≡ None → RaiseLost i pick p n k token left st w back (length (linear_code (shape p n) at.operation))
raise_lost turns agree i pick p n k token left st w back h running at free none =
    let image : Image = (program_of i).image in
    let v : World = st.world in
    let r = raise_asked turns i p n k token left st w back h at in
    let c = r.call in
    let y : abi.World = asked c.behind c.at in
    let m = c.runtime.exceptions in
    let wish : ℕ = pick (c.at.last_number + 1) in
    let few : live_count y.exceptions.live < slots = grind (arith, nat_tests, m.count, free) in
    let given = slot_given y.exceptions.live wish m.sound.slots few in
    let slot : ℕ = given.0 in
    let made : abi.World = made_in y slot k token left in
    let up : abi.World = with_exceptions (one_uncaught made.exceptions) made in
    let o : Object = foreign_object (left_in y k left) k token slot in
    let there = running_still p i w.hart c.behind c.memory_is running in
    let incall : InCall p n back st.top st.frames v c.behind = record { runs = h.runs; registers = c.registers; goes_on = r.goes_on; memory = c.memory; kept = c.variables } in
    let lost = agree.lost (code_of p.unit) (image_operation_at p.unit) image.fdes (thrown_as (records_end p.unit) p.unit.types None) None c.behind (x c.behind sp) (all_opens p i n back st.top st.frames v c.behind there incall)
    (all_tail p i n back st.top st.frames v c.behind there incall) (stack_raised p i n back st.top st.frames v c.behind there incall None tt)
    (ap (found_above (code_of p.unit) None) (opens_are p i n back st.top st.frames v c.behind there incall) ∙ none) in
    let end = lost_as image.places made.exceptions o up (unwinder.raise image.fdes (thrown_as (records_end p.unit) p.unit.types None) c.behind) c.behind lost in
    record {
      asks = r;
      slot = slot;
      below = vacant_below y.exceptions.live slot given.2;
      vacant = given.2;
      effect = r.effect wish ∙ ap (raised_in image (left_in y k left) k token) given.1 ∙ end;
    }

-- ---- both machines

-- the handler is called, for the slot that is picked
pub raise_sends : CallsAreTurns → RaisesAgree → (i : CleanImage) (pick : ℕ → ℕ) (p : Plan) (n m k token : ℕ) (left : List Reply) (st : LinearState) (w : abi.World) (h : Matches p st w) → IsRunning p i w.hart →
    (at : AtRaise i p n k token left st) → is_full st.world ≡ false → found_above (code_of p.unit) None (st.top ∷ st.frames) ≡ None → st.world.ending ≡ false → st.world.installed.terminate_handler ≡ Some m → p.hidden ≡ 0 →
    let e = st.world.last_number + 1 in let items = Foreign e k token ∷ [] in let waiting = raising_state k token left st in HandlerBegins p m st waiting items × (slot : ℕ) × (slot < slots)
    × (s : Sends (program_of i).image (with_object p e slot) n m st.top.frame st.frames (st.top ∷ st.frames) waiting.world w h.back p.hidden (length (linear_code (shape p n) at.operation)) items (picked_wish pick))
    × (s.comes.to.unwinding ≡ s.comes.at.unwinding)
raise_sends turns agree i pick p n m k token left st w h running at free lost quiet installed hidden =
    let image : Image = (program_of i).image in
    let v : World = st.world in
    let e : ℕ = v.last_number + 1 in
    let waiting : LinearState = raising_state k token left st in
    let u : World = waiting.world in
    let most : ℕ = length (linear_code (shape p n) at.operation) in
    let stood = stands_by p n st w h at.runs in
    let r = raise_lost turns agree i pick p n k token left st w h.back stood running at free lost in
    let c = r.asks.call in
    let y : abi.World = asked c.behind c.at in
    let q : Plan = with_object p e r.slot in
    let new : abi.World = made_in y r.slot k token left in
    let to : abi.World = before_world new.exceptions (with_exceptions (one_uncaught new.exceptions) new) in
    let may = may_from image p y to refl (may_terminate image p n st w h.back 14 most stood at.named c) in
    let one = made_runtime p st.frames v y r.slot k token left c.runtime r.vacant in
    let pushed = runtime_pushed q n st.top st.frames u new at.runs one in
    let there : Comes image q n st.top.frame st.frames (st.top ∷ st.frames) u w h.back p.hidden most (Foreign e k token ∷ []) = record {
      turns = c.turns;
      few = c.few;
      at = c.at;
      runs = c.runs;
      number = 14;
      behind = c.behind;
      calls = c.calls;
      asks = c.asks;
      handler = y.terminate_handler;
      to = to;
      from = record {
        may = record { named = may.named; registers = may.registers; code = may.code; deep = may.deep; room = may.room };
        memory = matches_made p e r.slot v u (making_in p st.frames v y r.slot k token left c.runtime r.vacant) n st.top.frame st.frames c.behind.memory (x c.behind sp) h.back c.memory;
        above = omega arith;
        even = omega (arith, c.memory.top.saved.aligned);
        small = c.variables.small;
        runtime = record { input = pushed.input; replies = pushed.replies; last_number = pushed.last_number; terminating = pushed.terminating; exceptions = pushed.exceptions; plan = pushed.plan };
        end = all_open image p n st w h.back 14 most c hidden;
      };
      shown = ap (λ a. Foreign (a + 1) k token ∷ []) c.runtime.last_number;
    } in (
      handler_in_two p m st waiting v.installed.terminate_handler (Foreign e k token ∷ []) (doomed_step i p n k token left st w h.back stood at free lost) quiet installed refl,
      r.slot,
      r.below,
      record {
        comes = there;
        quiet = quiet;
        known = subst (λ o. IsFunction (addresses_of p) o y.terminate_handler) installed c.runtime.exceptions.terminate_handler;
        effect = λ wish is. subst (λ a. call_effect 14 image a y ≡ terminates image.places y.terminate_handler to) (sym is) r.effect;
      },
      refl,
    )

pub modules_doom : CallsAreTurns → CallsAreMade → TerminateRuns → RaisesAgree → ModulesDoom
modules_doom turns made runs agree = record {
  calls_the_handler = λ i pick p n m k token left st w h running at free lost quiet installed hidden fits.
      let e : ℕ = st.world.last_number + 1 in
      let all = raise_sends turns agree i pick p n m k token left st w h running at free lost quiet installed hidden in
      let s = all.3 in (
        all.0,
        all.1,
        all.2,
        handler_picked made runs (program_of i).image (with_object p e all.1) n m st.top.frame st.frames (raising_state k token left st) w h.back p.hidden (length (linear_code (shape p n) at.operation)) (Foreign e k token ∷ []) s.comes s.quiet s.known
            (record { taken = fits.taken; room = fits.room }) pick (s.effect (pick (s.comes.at.last_number + 1)) refl) all.4,
      );
  aborts = λ i pick j p n k token left st w h running at free lost none many.
      let image : Image = (program_of i).image in
      let v : World = st.world in
      let e : ℕ = v.last_number + 1 in
      let u : World = raising_world v k token left in
      let most : ℕ = length (linear_code (shape p n) at.operation) in
      let stood = stands_by p n st w h at.runs in
      let r = raise_lost turns agree i pick p n k token left st w h.back stood running at free lost in
      let c = r.asks.call in
      let y : abi.World = asked c.behind c.at in
      let new : abi.World = made_in y r.slot k token left in
      let to : abi.World = before_world new.exceptions (with_exceptions (one_uncaught new.exceptions) new) in
      let may = may_from image p y to refl (may_terminate image p n st w h.back 14 most stood at.named c) in
      aborts_both made runs image pick j p st (st.top ∷ st.frames) u w c.turns 14 y.terminate_handler c.at to c.behind (Foreign e k token ∷ []) v.installed.terminate_handler c.runs c.calls c.asks r.effect c.runtime.terminating may
      (ap (λ a. Foreign (a + 1) k token ∷ []) c.runtime.last_number) (doomed_step i p n k token left st w h.back stood at free lost) refl refl none c.runtime.exceptions.terminate_handler (omega (arith, c.few, many));
}
