-- The newest handled exception is thrown again, and nothing stops it, on both machines.
use Rattle.std.proofs.Common.{◌≡◌, ◌∙◌, refl, sym, ap, subst, arith, ℕ, ◌+◌, ◌≤◌, Bool, true, false, List, [], ◌∷◌, ◌++◌, append-nil, length, Option, Some}
use Rattle.std.specs.Prelude.{if◌then◌else◌}
use Rattle.meaning_forms.specs.Outcome.{aborted}
use Rattle.run_items.specs.declared.item.Item.TheVariants.{Enter}
use Rattle.elf_image.specs.Clean.{CleanImage}
use Rattle.cxa_runtime.specs.declared.object.Object.{Object}
use Rattle.cxa_runtime.specs.Catch.{entered}
use Rattle.cxa_runtime.specs.Terminate.{terminates}
use Rattle.cxa_runtime.specs.World as abi
use Rattle.cxa_runtime.specs.Raising.{Image, unhandled}
use Rattle.cxa_runtime.specs.Call.{call_effect}
use Rattle.eh_run.specs.Program.{program_of}
use Rattle.region_forms.specs.Form.{rethrow}
use Rattle.region_forms.specs.Caught.{Entry}
use Rattle.region_forms.specs.World.{World, Exception, building, native, foreign, exception_at}
use Rattle.region_forms.specs.Lives.{can_travel}
use Rattle.region_forms.specs.Effect.{terminates as terminates_effect, raises, only_where, rethrown, flies}
use Rattle.linear_forms.specs.Linear.{plain}
use Rattle.linear_forms.specs.Activation.{Activation, State as LinearState, finishes, by_program, look, terminated}
use Rattle.linear_forms.specs.Machine.{step}
use Rattle.linear_forms.specs.Operation.{performed}
use Rattle.linear_forms.specs.Unwinding.{doomed, doomed_by, raised_to, unwind}
use Rattle.linear_forms.specs.UnitRun.{code_of}
use Rattle.machine_forms.specs.LinearCode.{linear_code}
use Rattle.machine_pieces.specs.Laws.{CallsAreTurns}
use Rattle.machine_stubs.specs.Calls.{asked, CallsAreMade}
use Rattle.machine_stubs.specs.Terminate.{TerminateRuns}
use Rattle.raise_simulation.specs.Raises.{RaisesAgree}
use Rattle.machine_simulation.specs.Plan.{Plan, shape}
use Rattle.machine_simulation.specs.Exceptions.{addresses_of, HeaderIs, IsFunction}
use Rattle.machine_simulation.specs.Matches.{RuntimeMatches, Matches}
use Rattle.machine_simulation.proofs.Holding.{same_number}
use Rattle.machine_simulation.proofs.Matching.{stands_by}
use Rattle.machine_simulation.proofs.Quiet.{step_is, plain_is}
use Rattle.machine_simulation.proofs.Calling.{runtime_pushed}
use Rattle.machine_exceptions.specs.Enters.{IsThrown}
use Rattle.machine_raises.specs.Stacks.{IsRunning}
use Rattle.raise_ends.specs.Ends.{HandlerBegins}
use Rattle.raise_ends.specs.Rethrows.{handler_used, entered_where_native, entering, AtRethrow, rethrown_state, RethrowsDoom}
use Rattle.raise_ends.proofs.Steps.{over_at_once, over_without, handler_in_two}
use Rattle.raise_ends.proofs.Comes.{Sends, any_wish, aborts_again, aborts_without, handler_called}
use Rattle.raise_ends.proofs.Asking.{may_terminate, may_from, comes, all_open}
use Rattle.raise_ends.proofs.Again.{again_world, again_runtime, before_world, before_runtime}
use Rattle.raise_ends.proofs.Rethrowing.{RethrowLost, rethrow_lost}
use Rattle.raise_ends.proofs.Aborting.{both_abort, no_handler, no_address}

-- ---- the step

step_rethrows : (i : CleanImage) (p : Plan) (n : ℕ) (x : Entry) (others : List Entry) (st : LinearState) → AtRethrow i p n x others st → step (code_of p.unit) st ≡ doomed x.number (st.top ∷ st.frames) st.world
step_rethrows i p n x others st at =
    let code = code_of p.unit in
    let v : World = st.world in
    let e : ℕ = x.number in
    let fs = st.top ∷ st.frames in
    step_is p n st (plain rethrow) at.runs at.there ∙ plain_is p n st rethrow at.runs ∙ ap (λ xs. performed code (rethrown xs v) st.top st.frames v) at.caught
    ∙ ap (λ b. performed code (if b then terminates_effect v.installed.terminate_handler v else only_where (can_travel v e) (raises e v)) st.top st.frames v) at.still
    ∙ ap (λ b. performed code (only_where b (raises e v)) st.top st.frames v) at.travels
    ∙ ap (λ o. raised_to o e fs v (λ c. unwind code (look code st.top.function st.top.place) c e st.top.function st.top.frame st.frames (flies e v))) at.lost

-- by what the exception is
dooms_by : (z : Exception) (e : ℕ) (fs : List Activation) (v : World) → doomed_by e z fs v ≡ terminated (handler_used z v) fs (entered_where_native z e v)
dooms_by building e fs v = refl
dooms_by (native t d kept) e fs v = refl
dooms_by (foreign k token) e fs v = refl

entered_items : (z : Exception) (e : ℕ) (v : World) → (entered_where_native z e v).items ≡ v.items ++ entering z e
entered_items building e v = sym (append-nil v.items)
entered_items (native t d kept) e v = refl
entered_items (foreign k token) e v = sym (append-nil v.items)

entered_ending : (z : Exception) (e : ℕ) (v : World) → (entered_where_native z e v).ending ≡ v.ending
entered_ending building e v = refl
entered_ending (native t d kept) e v = refl
entered_ending (foreign k token) e v = refl

-- memory is as before
record AsBefore (v u : World) : Type 0 where
  ints : u.memory ≡ v.memory
  calls : u.calls ≡ v.calls
  later : v.last_number ≤ u.last_number

entered_alike : (z : Exception) (e : ℕ) (v : World) → AsBefore v (entered_where_native z e v)
entered_alike building e v = record { ints = refl; calls = refl; later = same_number v }
entered_alike (native t d kept) e v = record { ints = refl; calls = refl; later = same_number v }
entered_alike (foreign k token) e v = record { ints = refl; calls = refl; later = same_number v }

-- ---- the runtime call

-- it aborts where terminate runs, and else comes to terminate with the handler that is used, in a world that matches
record Uses (image : Image) (p : Plan) (n : ℕ) (x : Entry) (st : LinearState) (y : abi.World) (z : Exception) : Type 0 where
  again : abi.World
  handler : ℕ
  same_again : again.hart ≡ y.hart
  running : again.terminating ≡ y.terminating
  nothing : again.shown ≡ []
  to : abi.World
  same : to.hart ≡ y.hart
  quiet : to.terminating ≡ y.terminating
  shown : to.shown ≡ entering z x.number
  unwinding : to.unwinding ≡ y.unwinding
  runtime : RuntimeMatches p st.frames (entered_where_native z x.number st.world) to
  known : IsFunction (addresses_of p) (handler_used z st.world) handler
  effect : (wish : ℕ) → call_effect 8 image wish y ≡ (if y.terminating then terminates image.places handler again else terminates image.places handler to)

-- where a test chooses between two that are the same
same_both : {A : Type 0} (b : Bool) (a : A) → a ≡ (if b then a else a)
same_both true a = refl
same_both false a = refl

uses : (i : CleanImage) (p : Plan) (n : ℕ) (x : Entry) (others : List Entry) (st : LinearState) (w : abi.World) (back : ℕ) → st.world.caught ≡ x ∷ others → (l : RethrowLost i p n x st w back) →
    Uses (program_of i).image p n x st (asked l.call.behind l.call.at) (exception_at st.world x.number)
uses i p n x others st w back newest l = by (exception_at st.world x.number) l.flies l.is
  where
    image : Image
    image = (program_of i).image

    y : abi.World
    y = asked l.call.behind l.call.at

    up : abi.World
    up = again_world y l.slot x.more l.more

    o : Object
    o = record { slot = l.slot; header = l.has.header }

    by : (z : Exception) → IsThrown z → HeaderIs (addresses_of p) false z l.has.header → Uses image p n x st y z
    by building thrown is = absurd thrown
    by (native t d kept) thrown is = record {
      again = up;
      handler = l.has.header.handlers.0;
      same_again = refl;
      running = refl;
      nothing = refl;
      to = entered o up;
      same = refl;
      quiet = refl;
      shown = ap (λ m. Enter m ∷ []) l.has.number;
      unwinding = refl;
      runtime = again_runtime p st.frames st.world y x others o _ l.more l.call.runtime newest l.caught l.has l.thrown;
      known = is.1.0;
      effect = λ wish. l.effect wish ∙ ap (unhandled image.places y.exceptions o up) is.0.1;
    }
    by (foreign k token) thrown is =
        let after : abi.World = before_world y.exceptions up in
        record {
          again = after;
          handler = y.terminate_handler;
          same_again = refl;
          running = refl;
          nothing = refl;
          to = after;
          same = refl;
          quiet = refl;
          shown = refl;
          unwinding = refl;
          runtime = before_runtime p st.frames st.world y l.slot x.more l.more l.call.runtime;
          known = l.call.runtime.exceptions.terminate_handler;
          effect = λ wish. l.effect wish ∙ ap (unhandled image.places y.exceptions o up) is ∙ same_both y.terminating (terminates image.places y.terminate_handler after);
        }

-- ---- both machines

-- the handler is called
pub rethrow_sends : CallsAreTurns → RaisesAgree → (i : CleanImage) (p : Plan) (n m : ℕ) (x : Entry) (others : List Entry) (st : LinearState) (w : abi.World) (h : Matches p st w) → IsRunning p i w.hart → AtRethrow i p n x others st →
    st.world.ending ≡ false → handler_used (exception_at st.world x.number) st.world ≡ Some m → p.hidden ≡ 0 → let items = entering (exception_at st.world x.number) x.number in let waiting = rethrown_state x st in HandlerBegins p m st waiting items
    × (s : Sends (program_of i).image p n m st.top.frame st.frames (st.top ∷ st.frames) waiting.world w h.back p.hidden (length (linear_code (shape p n) (plain rethrow))) items any_wish) × (s.comes.to.unwinding ≡ s.comes.at.unwinding)
rethrow_sends turns agree i p n m x others st w h running at quiet used hidden =
    let image : Image = (program_of i).image in
    let v : World = st.world in
    let e : ℕ = x.number in
    let z : Exception = exception_at v e in
    let u : World = entered_where_native z e v in
    let fs : List Activation = st.top ∷ st.frames in
    let stood = stands_by p n st w h at.runs in
    let lost = rethrow_lost turns agree i p n x others st w h.back stood running at in
    let c = lost.call in
    let most : ℕ = length (linear_code (shape p n) (plain rethrow)) in
    let so = uses i p n x others st w h.back at.caught lost in
    let may = may_terminate image p n st w h.back 8 most stood at.named c in
    let alike = entered_alike z e v in
    let end = entered_ending z e v ∙ quiet in
    let steps : step (code_of p.unit) st ≡ terminated (handler_used z v) fs u
    = step_rethrows i p n x others st at ∙ ap (λ b. if b then finishes (by_program aborted) v else doomed_by e z fs v) quiet ∙ dooms_by z e fs v in (
      handler_in_two p m st (rethrown_state x st) (handler_used z v) (entering z e) steps end used (entered_items z e v),
      record {
        comes = comes image p n st w h.back 8 most c may fs u p.hidden so.handler so.to (entering z e) so.same alike.ints alike.calls alike.later (runtime_pushed p n st.top st.frames u so.to at.runs so.runtime)
            (all_open image p n st w h.back 8 most c hidden) so.shown;
        quiet = end;
        known = subst (λ k. IsFunction (addresses_of p) k so.handler) used so.known;
        effect = λ wish any. so.effect wish ∙ ap (λ b. if b then terminates image.places so.handler so.again else terminates image.places so.handler so.to) (c.runtime.terminating ∙ quiet);
      },
      so.unwinding,
    )

pub rethrows_doom : CallsAreTurns → CallsAreMade → TerminateRuns → RaisesAgree → RethrowsDoom
rethrows_doom turns made runs agree = record {
  calls_the_handler = λ i p n m x others st w h running at quiet used hidden fits.
      let waiting : LinearState = rethrown_state x st in
      let all = rethrow_sends turns agree i p n m x others st w h running at quiet used hidden in
      let s = all.1 in (
        all.0,
        handler_called made runs (program_of i).image p n m st.top.frame st.frames waiting w h.back p.hidden (length (linear_code (shape p n) (plain rethrow))) (entering (exception_at st.world x.number) x.number) s.comes s.quiet s.known fits
            (λ wish. s.effect wish tt) all.2,
      );
  aborts = λ i pick k p n x others st w h running at none many.
      let image : Image = (program_of i).image in
      let v : World = st.world in
      let e : ℕ = x.number in
      let z : Exception = exception_at v e in
      let u : World = entered_where_native z e v in
      let fs : List Activation = st.top ∷ st.frames in
      let h0 : Option ℕ = handler_used z v in
      let stood = stands_by p n st w h at.runs in
      let lost = rethrow_lost turns agree i p n x others st w h.back stood running at in
      let c = lost.call in
      let y : abi.World = asked c.behind c.at in
      let most : ℕ = length (linear_code (shape p n) (plain rethrow)) in
      let so = uses i p n x others st w h.back at.caught lost in
      let may = may_from image p y so.to so.same (may_terminate image p n st w h.back 8 most stood at.named c) in
      let called : (b : Bool) → v.ending ≡ b → call_effect 8 image (pick (c.at.last_number + 1)) y ≡ (if b then terminates image.places so.handler so.again else terminates image.places so.handler so.to)
      = λ b ends. so.effect (pick (c.at.last_number + 1)) ∙ ap (λ b. if b then terminates image.places so.handler so.again else terminates image.places so.handler so.to) (c.runtime.terminating ∙ ends) in
      let steps : (b : Bool) → v.ending ≡ b → step (code_of p.unit) st ≡ (if b then finishes (by_program aborted) v else terminated h0 fs u)
      = λ b ends. step_rethrows i p n x others st at ∙ ap (λ b. if b then finishes (by_program aborted) v else doomed_by e z fs v) ends ∙ ap (λ next. if b then finishes (by_program aborted) v else next) (dooms_by z e fs v) in
      both_abort image pick k p st w (entering z e)
      (λ ends. (
        over_at_once p st v [] (steps true ends) (sym (append-nil v.items)),
        aborts_again made image pick k c.turns 8 so.handler w c.at so.again c.behind [] c.runs c.calls c.asks (called true ends) (so.running ∙ (c.runtime.terminating ∙ ends)) so.nothing (omega (arith, c.few, many)),
      ))
      (λ quiet. (
        over_without p st h0 fs u (entering z e) (steps false quiet) (entered_ending z e v ∙ quiet) (no_handler v h0 none quiet) (entered_items z e v),
        aborts_without made runs image pick k c.turns 8 so.handler p.unit p.base w c.at so.to c.behind (entering z e) c.runs c.calls c.asks (called false quiet) (so.quiet ∙ (c.runtime.terminating ∙ quiet))
            (no_address (addresses_of p) h0 so.handler so.known (no_handler v h0 none quiet)) may so.shown (omega (arith, c.few, many)),
      ));
}
