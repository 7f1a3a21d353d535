-- A forced unwind comes to a call out of which nothing may come, on both machines.
use Rattle.std.proofs.Common.{◌≡◌, ◌∙◌, refl, sym, ap, subst, arith, ℕ, ◌+◌, ◌≤◌, Bool, true, false, ℤ, List, [], ◌∷◌, ◌++◌, append-nil, length, Option, Some, None, inl, inr}
use Rattle.std.specs.Prelude.{◌⊎◌, if◌then◌else◌}
use Rattle.std.specs.List.{AllByRecursion}
use Rattle.meaning_forms.specs.Outcome.{exit, aborted}
use Rattle.elf_image.specs.Clean.{CleanImage}
use Rattle.raise_core.specs.declared.raised.Raised.TheVariants.{Terminate, NoHandler}
use Rattle.raise_core.specs.Raise as unwinder
use Rattle.cxa_runtime.specs.World as abi
use Rattle.cxa_runtime.specs.Raising.{Image}
use Rattle.cxa_runtime.specs.Cancel.{forced_as}
use Rattle.eh_run.specs.Program.{program_of}
use Rattle.region_forms.specs.World.{World}
use Rattle.linear_forms.specs.Stub.{terminating}
use Rattle.linear_forms.specs.Activation.{Activation, State as LinearState, goes_to, finishes, by_program, terminated}
use Rattle.linear_forms.specs.Machine.{step}
use Rattle.linear_forms.specs.Forced.{forced_above}
use Rattle.linear_forms.specs.UnitRun.{code_of}
use Rattle.machine_forms.specs.LinearCode.{linear_code}
use Rattle.machine_pieces.specs.Laws.{CallsAreTurns, ValuesAreComputed}
use Rattle.machine_stubs.specs.Calls.{asked, CallsAreMade}
use Rattle.machine_stubs.specs.Stretches.{stub_word}
use Rattle.machine_stubs.specs.Terminate.{TerminateRuns}
use Rattle.raise_simulation.specs.Verdicts.{forced_by_table}
use Rattle.raise_simulation.specs.Resumes.{ForcedAgree}
use Rattle.machine_simulation.specs.Plan.{Plan, shape}
use Rattle.machine_simulation.specs.Calls.{open_bytes, frames_bytes}
use Rattle.machine_simulation.specs.Exceptions.{addresses_of, exceptions_in, kept_by, destroyed, IsFunction, ExceptionsMatch}
use Rattle.machine_simulation.specs.Matches.{RuntimeMatches, Matches}
use Rattle.machine_simulation.proofs.Closing.{destroyed_nothing}
use Rattle.machine_simulation.proofs.Holding.{same_number}
use Rattle.machine_simulation.proofs.Matching.{Stands, stands_by}
use Rattle.flight_homes.specs.Nest.{is_terminate, waits_terminate}
use Rattle.flight_homes.specs.OpenCalls.{CallsStand}
use Rattle.machine_raises.specs.Stacks.{IsRunning}
use Rattle.machine_raises.proofs.Passing.{Passed}
use Rattle.raise_ends.specs.Ends.{BothAbort, HandlerFits, HandlerBegins}
use Rattle.raise_ends.specs.Unwinds.{AtUnwind}
use Rattle.raise_ends.specs.Barriers.{IsCompiled, barred_state, Left, Barred, ForcedUnwindsTerminate}
use Rattle.raise_ends.proofs.Steps.{first_step, over_at_once, handler_in_two}
use Rattle.raise_ends.proofs.Comes.{Sends, any_wish, aborts_again, handler_unwound}
use Rattle.raise_ends.proofs.Aborting.{aborts_both}
use Rattle.raise_ends.proofs.Asking.{may_terminate, may_from, comes}
use Rattle.raise_ends.proofs.Unwinding.{UnwindAsked, unwind_step, unwind_asked}
use Rattle.raise_ends.proofs.Barring.{pad_no_end, pad_lives, IsBarred, EntersPad, barred_at, passed_calls, bytes_alike, bytes_split, waits_rest}
use Rattle.raise_ends.proofs.Exits.{unwound_here}

-- ---- what the machine for linear code says of the unwinder's answer

abbrev Answers : (i : CleanImage) (p : Plan) (n : ℕ) (k : ℤ) (st : LinearState) (w : abi.World) (back words : ℕ) → UnwindAsked i p n k st w back words → Type 0
Answers i p n k st w back words c = let next = forced_above (code_of p.unit) k (st.top ∷ st.frames) st.world in let result = unwinder.forced_unwind (program_of i).image.fdes c.call.behind in
    EntersPad (code_of p.unit) st.world next ⊎ (IsBarred st.world next × (result ≡ (Terminate, c.call.behind))) ⊎ ((next ≡ finishes (by_program (exit k)) st.world) × (result ≡ (NoHandler, c.call.behind)))

-- terminate begins where it does not run yet
quiet_of : (h : Option ℕ) (fs : List Activation) (v : World) (next : LinearState) → terminated h fs v ≡ goes_to next → v.ending ≡ false
quiet_of h fs v next = by v.ending refl
  where
    by : (b : Bool) → v.ending ≡ b → first_step h fs v b ≡ goes_to next → v.ending ≡ false
    by true is e = absurd (cc e)
    by false is e = is

-- and ends the run where it does
running_of : (h : Option ℕ) (fs : List Activation) (v u : World) → terminated h fs v ≡ finishes (by_program aborted) u → (v.ending ≡ true) × (u ≡ v)
running_of h fs v u = by v.ending refl
  where
    by : (b : Bool) → v.ending ≡ b → first_step h fs v b ≡ finishes (by_program aborted) u → (v.ending ≡ true) × (u ≡ v)
    by true is e = (is, cc e)
    by false is e = absurd (cc e)

-- a call was barred, and the unwinder says so
barred_if_begins : (i : CleanImage) (p : Plan) (n : ℕ) (k : ℤ) (st next : LinearState) (w : abi.World) (back words : ℕ) (c : UnwindAsked i p n k st w back words) → Answers i p n k st w back words c →
    forced_above (code_of p.unit) k (st.top ∷ st.frames) st.world ≡ goes_to next → next.top.function ≡ terminating →
    IsBarred st.world (forced_above (code_of p.unit) k (st.top ∷ st.frames) st.world) × (unwinder.forced_unwind (program_of i).image.fdes c.call.behind ≡ (Terminate, c.call.behind))
barred_if_begins i p n k st next w back words c (inl pad) came is =
    absurd (pad_lives (code_of p.unit) pad.activation pad.pad pad.chain pad.word pad.selector pad.rest st.world next pad.covers (sym pad.enters ∙ came) is)
barred_if_begins i p n k st next w back words c (inr (inl b)) came is = b
barred_if_begins i p n k st next w back words c (inr (inr (out, is0))) came is = absurd (let both : finishes (by_program (exit k)) st.world ≡ goes_to next = sym out ∙ came in cc both)

barred_if_aborts : (i : CleanImage) (p : Plan) (n : ℕ) (k : ℤ) (st : LinearState) (v : World) (w : abi.World) (back words : ℕ) (c : UnwindAsked i p n k st w back words) → Answers i p n k st w back words c →
    forced_above (code_of p.unit) k (st.top ∷ st.frames) st.world ≡ finishes (by_program aborted) v →
    IsBarred st.world (forced_above (code_of p.unit) k (st.top ∷ st.frames) st.world) × (unwinder.forced_unwind (program_of i).image.fdes c.call.behind ≡ (Terminate, c.call.behind))
barred_if_aborts i p n k st v w back words c (inl pad) came = absurd (pad_no_end _ pad.word pad.selector pad.activation.function pad.pad pad.activation.frame pad.rest st.world aborted v (sym pad.enters ∙ came))
barred_if_aborts i p n k st v w back words c (inr (inl b)) came = b
barred_if_aborts i p n k st v w back words c (inr (inr (out, is0))) came = absurd (let both : finishes (by_program (exit k)) st.world ≡ finishes (by_program aborted) v = sym out ∙ came in cc both)

-- ---- the frames that were left

-- terminate does not wait
none_waits : (st : LinearState) → CallsStand st → st.world.ending ≡ false → waits_terminate st.frames ≡ false
none_waits st stand quiet = by (waits_terminate st.frames) refl
  where
    by : (b : Bool) → waits_terminate st.frames ≡ b → waits_terminate st.frames ≡ false
    by false is = is
    by true is = absurd (let both : true ≡ false = sym (stand.waits is) ∙ quiet in cc both)

-- the calls that were left are of compiled functions, so no destructor of an exception's object runs in them
calls_left : (p : Plan) (n : ℕ) (st : LinearState) (w : abi.World) (back : ℕ) → Stands p n st w back → (inner : List Activation) (barring : Activation) (outer : List Activation) → st.top ∷ st.frames ≡ inner ++ barring ∷ outer →
    AllByRecursion (Passed (code_of p.unit) (forced_by_table (code_of p.unit))) inner → (destroyed st.frames ≡ destroyed (barring ∷ outer)) × AllByRecursion IsCompiled inner
calls_left p n st w back h [] barring outer split passed = (sym (ap (λ ds. ds ++ destroyed st.frames) (destroyed_nothing p n st.top h.runs)) ∙ ap destroyed split, tt)
calls_left p n st w back h (a ∷ inner) barring outer split passed =
    let others : st.frames ≡ inner ++ barring ∷ outer = cc split in
    let same : st.top ≡ a = cc split in
    let later = passed_calls p st.frames st.world w.hart.memory _ back st.top.frame.call h.memory.waiting inner (barring ∷ outer) others passed.1 in
    (later.0, ((n, sym (ap (λ (c : Activation). c.function) same) ∙ h.runs), later.1))

-- ---- the handler is called

-- below the frames of calls that were left, in a world that has the exceptions as before and the number of the unwind
pub record UnwindSends (i : CleanImage) (p : Plan) (n m : ℕ) (k : ℤ) (st : LinearState) (w : abi.World) (back words : ℕ) : Type 0 where
  pub left : Left st
  pub begins : HandlerBegins p m st (barred_state left.barring left.outer st.world) []
  pub sends : let waiting = barred_state left.barring left.outer st.world in Sends (program_of i).image p n m st.top.frame st.frames (waiting.top ∷ left.outer) st.world w back (open_bytes p left.calls) words [] any_wish
  pub taken : open_bytes p (st.top ∷ st.frames) ≡ open_bytes p left.calls + frames_bytes p.unit (open_bytes p left.calls) (left.barring ∷ left.outer)
  pub exceptions : sends.comes.to.exceptions ≡ w.exceptions
  pub unwinding : sends.comes.to.unwinding ≡ Some k

pub unwind_sends : CallsAreTurns → ValuesAreComputed → ForcedAgree → (i : CleanImage) (p : Plan) (n m : ℕ) (k : ℤ) (st next : LinearState) (w : abi.World) (h : Matches p st w) → IsRunning p i w.hart → (at : AtUnwind p n st w k) →
    step (code_of p.unit) st ≡ goes_to next → next.top.function ≡ terminating → CallsStand st → (program_of i).image.places.terminate ≡ stub_word p.base terminating 0 → st.world.installed.terminate_handler ≡ Some m →
    UnwindSends i p n m k st w h.back (length (linear_code (shape p n) at.operation))
unwind_sends turns values agree i p n m k st next w h running at steps is stand named installed =
    let image : Image = (program_of i).image in
    let v : World = st.world in
    let words : ℕ = length (linear_code (shape p n) at.operation) in
    let stood = stands_by p n st w h at.runs in
    let c = unwind_asked turns values i p n k st w h.back stood at in
    let own = unwind_step p n k st w at in
    let came = sym own ∙ steps in
    let answer = barred_if_begins i p n k st next w h.back words c (unwound_here agree i p n k st w h.back words stood running c) came is in
    let b = barred_at (code_of p.unit) k (st.top ∷ st.frames) v next came is in
    let waiting : LinearState = barred_state b.barring b.outer v in
    let below : List Activation = waiting.top ∷ b.outer in
    let quiet = quiet_of v.installed.terminate_handler below v next (sym b.terminates ∙ came) in
    let hidden : ℕ = open_bytes p b.inner in
    let none : waits_terminate (st.top ∷ st.frames) ≡ false = ap (λ f. if is_terminate f then true else waits_terminate st.frames) at.runs ∙ none_waits st stand quiet in
    let rest = waits_rest p.unit b.inner (b.barring ∷ b.outer) (sym (ap waits_terminate b.split) ∙ none) in
    let alike = bytes_alike p.unit p.hidden hidden (b.barring ∷ b.outer) rest in
    let sum : open_bytes p (st.top ∷ st.frames) ≡ hidden + frames_bytes p.unit p.hidden (b.barring ∷ b.outer) = ap (open_bytes p) b.split ∙ bytes_split p.unit p.hidden b.inner (b.barring ∷ b.outer) in
    let gone = calls_left p n st w h.back stood b.inner b.barring b.outer b.split b.passed in
    let r = c.runtime in
    let runtime : RuntimeMatches p below v c.to = record {
      input = r.input;
      replies = r.replies;
      last_number = r.last_number;
      terminating = r.terminating;
      exceptions = subst (λ ds. ExceptionsMatch (addresses_of p) ds (exceptions_in v) (kept_by c.to)) gone.0 r.exceptions;
      plan = r.plan;
    } in
    let may = may_terminate image p n st w h.back c.number words stood named c.call in
    record {
      left = record { calls = b.inner; own = gone.1; barring = b.barring; outer = b.outer; split = b.split };
      begins = handler_in_two p m st waiting v.installed.terminate_handler [] (own ∙ b.terminates) quiet installed (sym (append-nil v.items));
      sends = record {
        comes = comes image p n st w h.back c.number words c.call may below v hidden c.to.terminate_handler c.to [] c.hart refl refl (same_number v) runtime (omega (arith, c.call.end, sum, alike)) c.shown;
        quiet = quiet;
        known = subst (λ o. IsFunction (addresses_of p) o c.to.terminate_handler) installed r.exceptions.terminate_handler;
        effect = λ wish any. c.effect wish ∙ ap (forced_as image.places k c.to) answer.1;
      };
      taken = omega (arith, sum, alike);
      exceptions = c.exceptions;
      unwinding = c.on;
    }

-- ---- both machines

module _ (turns : CallsAreTurns) (made : CallsAreMade) (values : ValuesAreComputed) (runs : TerminateRuns) (agree : ForcedAgree) where
  -- the handler begins
  begins : (i : CleanImage) (p : Plan) (n m : ℕ) (k : ℤ) (st next : LinearState) (w : abi.World) (h : Matches p st w) → IsRunning p i w.hart → (at : AtUnwind p n st w k) → step (code_of p.unit) st ≡ goes_to next → next.top.function ≡ terminating →
      CallsStand st → (program_of i).image.places.terminate ≡ stub_word p.base terminating 0 → st.world.installed.terminate_handler ≡ Some m → HandlerFits p m st → Barred p i m st w (length (linear_code (shape p n) at.operation)) k
  begins i p n m k st next w h running at steps is stand named installed fits =
      let u = unwind_sends turns values agree i p n m k st next w h running at steps is stand named installed in
      let s = u.sends in
      let waiting : LinearState = barred_state u.left.barring u.left.outer st.world in
      let reached = handler_unwound made runs (program_of i).image p n m st.top.frame st.frames waiting w h.back (open_bytes p u.left.calls) (length (linear_code (shape p n) at.operation)) [] s.comes s.quiet s.known (record { taken = fits.taken; room = omega (arith, fits.room, u.taken) })
      (λ wish. s.effect wish tt) in
      record {
        left = u.left;
        begins = u.begins;
        ran = record {
          turns = reached.turns;
          few = reached.few;
          after = reached.after;
          runs = reached.runs;
          holds = (reached.holds.0, reached.holds.1 ∙ u.exceptions, reached.holds.2 ∙ u.unwinding);
        };
      }

  without : (i : CleanImage) (pick : ℕ → ℕ) (j : ℕ) (p : Plan) (n : ℕ) (k : ℤ) (st next : LinearState) (w : abi.World) (h : Matches p st w) → IsRunning p i w.hart → (at : AtUnwind p n st w k) → step (code_of p.unit) st ≡ goes_to next →
      next.top.function ≡ terminating → (program_of i).image.places.terminate ≡ stub_word p.base terminating 0 → st.world.installed.terminate_handler ≡ None → length (linear_code (shape p n) at.operation) + 10 ≤ j →
      BothAbort (program_of i).image pick j p st w []
  without i pick j p n k st next w h running at steps is named none many =
      let image : Image = (program_of i).image in
      let v : World = st.world in
      let words : ℕ = length (linear_code (shape p n) at.operation) in
      let stood = stands_by p n st w h at.runs in
      let c = unwind_asked turns values i p n k st w h.back stood at in
      let own = unwind_step p n k st w at in
      let answer = barred_if_begins i p n k st next w h.back words c (unwound_here agree i p n k st w h.back words stood running c) (sym own ∙ steps) is in
      let b = answer.0 in
      let may = may_from image p (asked c.call.behind c.call.at) c.to c.hart (may_terminate image p n st w h.back c.number words stood named c.call) in
      aborts_both made runs image pick j p st (record { function = b.barring.function; place = 0; frame = b.barring.frame } ∷ b.outer) v w c.call.turns c.number c.to.terminate_handler c.call.at c.to c.call.behind [] v.installed.terminate_handler
      c.call.runs c.call.calls c.call.asks (c.effect (pick (c.call.at.last_number + 1)) ∙ ap (forced_as image.places k c.to) answer.1) c.runtime.terminating may c.shown (own ∙ b.terminates) refl (sym (append-nil v.items)) (inr none)
      c.runtime.exceptions.terminate_handler (omega (arith, c.call.few, many))

  again : (i : CleanImage) (pick : ℕ → ℕ) (j : ℕ) (p : Plan) (n : ℕ) (k : ℤ) (st : LinearState) (v : World) (w : abi.World) (h : Matches p st w) → IsRunning p i w.hart → (at : AtUnwind p n st w k) →
      step (code_of p.unit) st ≡ finishes (by_program aborted) v → length (linear_code (shape p n) at.operation) ≤ j → BothAbort (program_of i).image pick j p st w []
  again i pick j p n k st v w h running at steps many =
      let image : Image = (program_of i).image in
      let words : ℕ = length (linear_code (shape p n) at.operation) in
      let stood = stands_by p n st w h at.runs in
      let c = unwind_asked turns values i p n k st w h.back stood at in
      let came = sym (unwind_step p n k st w at) ∙ steps in
      let answer = barred_if_aborts i p n k st v w h.back words c (unwound_here agree i p n k st w h.back words stood running c) came in
      let b = answer.0 in
      let ends = running_of st.world.installed.terminate_handler (record { function = b.barring.function; place = 0; frame = b.barring.frame } ∷ b.outer) st.world v (sym b.terminates ∙ came) in (
        over_at_once p st v [] steps (ap (λ (u : World). u.items) ends.1 ∙ sym (append-nil st.world.items)),
        aborts_again made image pick j c.call.turns c.number c.to.terminate_handler w c.call.at c.to c.call.behind [] c.call.runs c.call.calls c.call.asks (c.effect (pick (c.call.at.last_number + 1)) ∙ ap (forced_as image.places k c.to) answer.1)
            (c.runtime.terminating ∙ ends.0) c.shown (omega (arith, c.more, many)),
      )

  pub forced_unwinds_terminate : ForcedUnwindsTerminate
  forced_unwinds_terminate = record {
    calls_the_handler = λ i p n m k st next w h running at steps is stand named installed fits. begins i p n m k st next w h running at steps is stand named installed fits;
    aborts_without = λ i pick j p n k st next w h running at steps is named none many. without i pick j p n k st next w h running at steps is named none many;
    aborts_again = λ i pick j p n k st v w h running at steps many. again i pick j p n k st v w h running at steps many;
  }
