-- There is no unexpected handler: the program terminates.
use Rattle.std.proofs.Common.{◌≡◌, ◌∙◌, refl, sym, ap, subst, arith, ℕ, ◌+◌, ◌≤◌, Bool, true, false, ℤ, List, [], ◌∷◌, ◌++◌, append-nil, length, Option, Some, None}
use Rattle.meaning_forms.specs.Class.{contains}
use Rattle.meaning_forms.specs.World.{Installed}
use Rattle.meaning_forms.specs.Outcome.{aborted}
use Rattle.run_items.specs.declared.item.Item.TheVariants.{Enter}
use Rattle.rv64_isa.specs.Step.{x}
use Rattle.cxa_runtime.specs.World as abi
use Rattle.cxa_runtime.specs.Raising.{Image}
use Rattle.region_forms.specs.World.{of_exception, World, Exception, native, exception_of, exception_in_slot, exception_at}
use Rattle.region_forms.specs.Unexpected.{kept_with}
use Rattle.region_forms.specs.Effect.{entered}
use Rattle.linear_forms.specs.Linear.{unexpected}
use Rattle.linear_forms.specs.Activation.{Activation, State as LinearState, terminated}
use Rattle.linear_forms.specs.Machine.{step}
use Rattle.linear_forms.specs.UnitRun.{code_of}
use Rattle.machine_forms.specs.Registers.{sp}
use Rattle.machine_forms.specs.LinearCode.{linear_code}
use Rattle.machine_pieces.specs.Turning.{Reaches}
use Rattle.machine_pieces.proofs.Turning.{turns_then}
use Rattle.machine_stubs.specs.Calls.{CallsAreMade}
use Rattle.machine_stubs.specs.Terminate.{TerminateRuns}
use Rattle.machine_stubs.specs.CallUnexpected.{UnexpectedBegins}
use Rattle.machine_simulation.specs.Plan.{Plan, shape, slot_kinds}
use Rattle.machine_simulation.specs.Exceptions.{addresses_of, exceptions_in, kept_by, destroyed, IsFunction, ExceptionsMatch}
use Rattle.machine_simulation.specs.Matches.{MemoryMatches, Matches}
use Rattle.machine_simulation.specs.Objects.{Shows}
use Rattle.machine_simulation.proofs.Matching.{stands_by, runtime_stays}
use Rattle.machine_simulation.proofs.Closing.{destroyed_nothing}
use Rattle.machine_simulation.proofs.Freeing.{beside_matches}
use Rattle.machine_simulation.proofs.Given.{same_beside}
use Rattle.machine_exceptions.specs.Leaves.{StepsTo}
use Rattle.machine_exceptions.specs.Unexpected.{in_unexpected}
use Rattle.machine_exceptions.specs.Terminates.{ending_world, in_handler}
use Rattle.machine_exceptions.proofs.Enters.{exception_is}
use Rattle.machine_exceptions.proofs.Unexpected.{unexpected_called}
use Rattle.raise_ends.specs.Ends.{LinearEnds, NoneIsCalled, HandlerFits, plan_in_handler}
use Rattle.raise_ends.proofs.Steps.{over_again, over_without, handler_in_two}
use Rattle.raise_ends.proofs.Aborting.{no_handler}
use Rattle.unexpected_calls.specs.Begins.{AtStopped, in_stopped}
use Rattle.unexpected_calls.specs.Terminates.{BothAbort, NamesTerminate}
use Rattle.unexpected_calls.proofs.Begins.{enters_stopped, stopped_entered}
use Rattle.unexpected_calls.proofs.Sent.{AsksFor, for_aborts, for_begins}
use Rattle.unexpected_calls.proofs.Steps.{steps_on, exec_on}
use Rattle.machine_pieces.specs.Keeping.{AreSmall}
use Rattle.machine_simulation.specs.Entering.{entry_turns}

-- ---- the machine for linear code

-- where no terminate handler is called, it aborts within three steps
pub linear_ends : (p : Plan) (st : LinearState) (h : Option ℕ) (fs : List Activation) (v : World) → step (code_of p.unit) st ≡ terminated h fs v → v ≡ st.world → NoneIsCalled v h → LinearEnds p 3 st [] aborted
linear_ends p st h fs v is same none = by v.ending refl
  where
    shown : v.items ≡ st.world.items ++ []
    shown = ap (λ (u : World). u.items) same ∙ sym (append-nil st.world.items)

    by : (b : Bool) → v.ending ≡ b → LinearEnds p 3 st [] aborted
    by true ends = over_again p st h fs v [] is ends shown
    by false quiet = over_without p st h fs v [] is quiet (no_handler v h none quiet) shown

-- up to where it terminates for the exception
pub up_to : (p : Plan) (n o s e : ℕ) (z : ℤ) (type : ℕ) (d : Option ℕ) (kept : Installed) (st : LinearState) (w : abi.World) (image : Image) → Matches p st w → AtStopped p n o s e z type d kept st w → kept.unexpected_handler ≡ None →
    StepsTo (code_of p.unit) 3 st (in_stopped n o s e 2 None st)
up_to p n o s e z type d kept st w image h at none = (
  in_unexpected n o s st,
  (unexpected_called image p n o s e z st w h at.at).0,
  (in_stopped n o s e 1 kept.unexpected_handler st, enters_stopped p n o s e z type d kept st w at, (in_stopped n o s e 2 None st, ap (λ b. step (code_of p.unit) (in_stopped n o s e 1 b st)) none, refl)),
)

pub terminates_there : (p : Plan) (n o s e : ℕ) (z : ℤ) (type : ℕ) (d : Option ℕ) (kept : Installed) (st : LinearState) (w : abi.World) → AtStopped p n o s e z type d kept st w →
    let waiting = in_stopped n o s e 2 None st in step (code_of p.unit) waiting ≡ terminated kept.terminate_handler (waiting.top ∷ waiting.frames) waiting.world
terminates_there p n o s e z type d kept st w at =
    let waiting : LinearState = in_stopped n o s e 2 None st in
    let number : exception_in_slot waiting.top.frame 0 ≡ e = ap exception_of at.at.object.is in
    let y : Exception = native type d kept in
    ap (λ f. terminated (kept_with (exception_at waiting.world f)).terminate_handler (waiting.top ∷ waiting.frames) waiting.world) number
    ∙ ap (λ k. terminated (kept_with k).terminate_handler (waiting.top ∷ waiting.frames) waiting.world) (exception_is st.world.live e y at.native)

-- ---- the ABI machine

pub asks_without : CallsAreMade → UnexpectedBegins → (image : Image) (p : Plan) (n o s e : ℕ) (z : ℤ) (type : ℕ) (d : Option ℕ) (kept : Installed) (st : LinearState) (w : abi.World) (h : Matches p st w) → AtStopped p n o s e z type d kept st w →
    kept.unexpected_handler ≡ None → NamesTerminate image p →
    AsksFor image p n e kept st.top st.frames (in_stopped n o s e 2 None st) w h.back (length (linear_code (shape p n) (unexpected o s)) + 11) (Enter e ∷ [])
asks_without made begins image p n o s e z type d kept st w h at none named =
    let v : World = entered e st.world in
    let waiting : LinearState = in_stopped n o s e 2 None st in
    let below : List Activation = waiting.top ∷ waiting.frames in
    let stood = stands_by p n st w h at.at.runs in
    let en = stopped_entered made begins image p n o s e z type d kept st w h.back stood at in
    let w3 : abi.World = en.after in
    let low : ℕ = x w3.hart sp in
    let is : IsFunction (addresses_of p) None en.header.handlers.1 = subst (λ k. IsFunction (addresses_of p) k en.header.handlers.1) none en.handlers.1 in
    let come = begins.terminates_without image p.unit p.base (p.at (of_exception e)) w3 en.stands (en.handler ∙ is) en.stopped in
    let r = come.holds in
    let high : 0x7000_1000 ≤ low + 80 = en.high in
    let held = beside_matches p n st.top.frame st.frames v w3.hart.memory r.behind.memory (low + 80) h.back low 80 en.matches (record { low = omega (arith, high); high = omega arith }) r.kept.beside in
    let out : destroyed below ≡ destroyed st.frames = ap (λ ds. ds ++ destroyed st.frames) (destroyed_nothing p n st.top at.at.runs) in
    let r4 = runtime_stays p st.frames v w3 come.after r.kept.runtime en.runtime in
    record {
      turns = en.turns + come.turns;
      few = omega (arith, en.few, come.few);
      at = come.after;
      runs = turns_then image en.turns come.turns w w3 come.after (Enter e ∷ []) [] en.runs come.runs;
      behind = r.behind;
      calls = r.calls;
      asks = r.asks;
      registers = r.stands.registers;
      given = r.holds;
      memory = subst (λ a. MemoryMatches p n st.top.frame st.frames v r.behind.memory (a + 80) h.back) (sym r.pointer) held;
      high = omega (arith, r.pointer, high);
      small = subst AreSmall (sym r.variables) en.registers.small;
      end = omega (arith, r.pointer, en.end);
      runtime = record {
        input = r4.input;
        replies = r4.replies;
        last_number = r4.last_number;
        terminating = r4.terminating;
        exceptions = subst (λ ds. ExceptionsMatch (addresses_of p) ds (exceptions_in v) (kept_by come.after)) (sym out) r4.exceptions;
        plan = r4.plan;
      };
      type = type;
      destructor = d;
      live = at.native;
      whole = ap (λ ds. contains ds e) out ∙ at.may.whole;
      named = named;
    }

-- ---- both

pub calls_without : CallsAreMade → TerminateRuns → UnexpectedBegins → (image : Image) (p : Plan) (n o s e : ℕ) (z : ℤ) (type : ℕ) (d : Option ℕ) (kept : Installed) (m : ℕ) (st : LinearState) (w : abi.World) → Matches p st w →
    AtStopped p n o s e z type d kept st w → kept.unexpected_handler ≡ None → NamesTerminate image p → st.world.ending ≡ false → kept.terminate_handler ≡ Some m → p.hidden ≡ 0 → let waiting = in_stopped n o s e 2 None st in HandlerFits p m waiting →
    let next = in_handler p m waiting in let items = Enter e ∷ [] in
    StepsTo (code_of p.unit) 5 st next × Shows st next items × Reaches image (length (linear_code (shape p n) (unexpected o s)) + 18 + entry_turns p m) w items (λ u. Matches (plan_in_handler p m waiting) next u)
calls_without made runs begins image p n o s e z type d kept m st w h at none named quiet some hidden fits =
    let waiting : LinearState = in_stopped n o s e 2 None st in
    let two = handler_in_two p m waiting waiting kept.terminate_handler [] (terminates_there p n o s e z type d kept st w at) quiet some (sym (append-nil waiting.world.items)) in
    let most : ℕ = length (linear_code (shape p n) (unexpected o s)) + 11 in
    let reached = for_begins image p n e kept st.top st.frames waiting w h.back most (Enter e ∷ []) (asks_without made begins image p n o s e z type d kept st w h at none named) made runs m quiet some hidden fits in (
      steps_on (code_of p.unit) 3 2 st waiting (in_handler p m waiting) (up_to p n o s e z type d kept st w image h at none) two.0,
      (same_beside (slot_kinds p m) waiting.world.calls 0 [] (ending_world waiting.world)).items,
      record { turns = reached.turns; few = omega (arith, reached.few); after = reached.after; runs = reached.runs; holds = reached.holds },
    )

pub aborts_without : CallsAreMade → TerminateRuns → UnexpectedBegins → (image : Image) (pick : ℕ → ℕ) (k : ℕ) (p : Plan) (n o s e : ℕ) (z : ℤ) (type : ℕ) (d : Option ℕ) (kept : Installed) (st : LinearState) (w : abi.World) → Matches p st w →
    AtStopped p n o s e z type d kept st w → kept.unexpected_handler ≡ None → NamesTerminate image p → NoneIsCalled st.world kept.terminate_handler → length (linear_code (shape p n) (unexpected o s)) + 19 ≤ k → BothAbort image pick k p 6 st w (Enter e ∷ [])
aborts_without made runs begins image pick k p n o s e z type d kept st w h at none named no_one many =
    let waiting : LinearState = in_stopped n o s e 2 None st in
    let most : ℕ = length (linear_code (shape p n) (unexpected o s)) + 11 in
    let ends = linear_ends p waiting kept.terminate_handler (waiting.top ∷ waiting.frames) waiting.world (terminates_there p n o s e z type d kept st w at) refl no_one in
    record {
      last = ends.0;
      linear = exec_on (code_of p.unit) 3 3 st waiting _ (up_to p n o s e z type d kept st w image h at none) ends.1;
      shown = ends.2 ∙ append-nil waiting.world.items;
      run = for_aborts image p n e kept st.top st.frames waiting w h.back most (Enter e ∷ []) (asks_without made begins image p n o s e z type d kept st w h at none named) made runs pick k no_one (omega (arith, many));
    }
