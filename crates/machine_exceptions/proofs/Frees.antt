-- Freeing an exception is matched.
use Rattle.std.proofs.Common.{◌≡◌, ◌∙◌, refl, sym, ap, subst, arith, ℕ, ◌+◌, ◌==◌, Bool, true, false, List, [], ◌∷◌, length, Some}
use Rattle.std.specs.Prelude.{not, ◌&&◌, is_some}
use Rattle.std.proofs.lemmas.Bool.Decides.{nat_tests}
use Rattle.meaning_forms.specs.Class.{contains}
use Rattle.run_items.specs.declared.item.Item.TheVariants.{Free}
use Rattle.rv64_isa.specs.State.{Part}
use Rattle.rv64_isa.specs.Step.{x}
use Rattle.caught_stack.specs.declared.header.Header.{Header}
use Rattle.caught_stack.specs.declared.header.HeaderKind.TheVariants.{Building}
use Rattle.caught_stack.specs.Allocate.{freed as runtime_freed}
use Rattle.cxa_runtime.specs.Objects.{object_of, object_where, is_building}
use Rattle.cxa_runtime.specs.World as abi
use Rattle.cxa_runtime.specs.World.{argument, goes, needs, shows, with_exceptions}
use Rattle.cxa_runtime.specs.Raising.{Image}
use Rattle.cxa_runtime.specs.Allocate.{free as free_call_effect}
use Rattle.cxa_runtime.specs.Call.{call_effect, numbered}
use Rattle.cxa_runtime.specs.Run.{counted}
use Rattle.region_forms.specs.World.{of_exception, Frame, World, Live, building, native, exception_of, exception_in_slot}
use Rattle.region_forms.specs.Effect.{freed}
use Rattle.linear_forms.specs.Linear.{free}
use Rattle.linear_forms.specs.Activation.{Activation, State as LinearState, Next, goes_to, next_if}
use Rattle.machine_forms.specs.Registers.{sp, a0}
use Rattle.machine_forms.specs.LinearCode.{linear_code}
use Rattle.machine_forms.specs.Routine.{op_word}
use Rattle.machine_pieces.specs.Standing.{Ground}
use Rattle.machine_pieces.specs.Laws.{CallsAreTurns}
use Rattle.machine_pieces.specs.Keeping.{saved_of}
use Rattle.machine_stubs.specs.Calls.{asked, CallsAreMade}
use Rattle.machine_simulation.specs.Plan.{Plan, shape, routine, first_word, setting}
use Rattle.machine_simulation.specs.Exceptions.{Addresses, LinearExceptions, KeptExceptions, addresses_of, exceptions_in, kept_by, destroyed, live_in, HeaderIs, ExceptionsMatch, PlanHas}
use Rattle.machine_simulation.specs.Matches.{MemoryMatches, Matches}
use Rattle.machine_simulation.specs.Operations.{Matched}
use Rattle.machine_simulation.specs.Steps.{StepAt}
use Rattle.machine_simulation.proofs.Words.{operation_at}
use Rattle.machine_simulation.proofs.Matching.{Stands, stands_by, runtime_stays, kept_at}
use Rattle.machine_simulation.proofs.Quiet.{moved, step_is}
use Rattle.machine_simulation.proofs.Holding.{same_number}
use Rattle.machine_simulation.proofs.Lines.{matches_alike, registers_alike}
use Rattle.machine_simulation.proofs.Closing.{live_before, matches_narrowed}
use Rattle.machine_simulation.specs.Objects.{is_object, without_object, HoldsObject}
use Rattle.machine_exceptions.specs.Frees.{FreesRun}
use Rattle.machine_exceptions.proofs.LiveLists.{without, gone_in, kept_in}
use Rattle.machine_exceptions.proofs.Travels.{building_there}
use Rattle.machine_exceptions.proofs.Finding.{live_header, object_found}
use Rattle.machine_exceptions.proofs.Freed.{freed_match, building_out}
use Rattle.machine_exceptions.proofs.Ecalls.{ecall_reached, object_loaded, call_made}
use Rattle.machine_simulation.proofs.Stored.{next_there}
use Rattle.machine_simulation.specs.KeptCalls.{RegistersMatch}
use Rattle.machine_simulation.proofs.KeptClosed.{registers_narrowed}
use Rattle.region_forms.specs.Lives.{is_being_built}
use Rattle.linear_forms.specs.Operation.{may_free}

free_is : (image : Image) (wish : ℕ) (t : abi.World) → call_effect 4 image wish t ≡ free_call_effect t
unfolding call_effect numbered
free_is image wish t = refl

-- ---- the plan without the object

-- an exception that is being built counts so in the runtime too
counts_building : (t : Addresses) (b : Bool) (h : Header) → HeaderIs t b building h → h.kind ≡ Building
counts_building t true h is = is
counts_building t false h is = is

-- and its destructor does not run
built_stays : (t : Addresses) (gone : List ℕ) (v : LinearExceptions) (w : KeptExceptions) (e : ℕ) → ExceptionsMatch t gone v w → live_in v.live e ≡ Some building → contains gone e ≡ false
built_stays t gone v w e m there = by (contains gone e) refl
  where
    by : (b : Bool) → contains gone e ≡ b → contains gone e ≡ false
    by false is = is
    by true is =
        let left = m.left e is in
        let both : Some building ≡ Some (native left.type left.destructor left.kept) = sym there ∙ left.live in
        absurd (cc both)

both_false : (b : Bool) → (b && false) ≡ false
both_false true = refl
both_false false = refl

one_true : (b : Bool) → (b && true) ≡ b
one_true true = refl
one_true false = refl

pub plan_without : (p : Plan) (e : ℕ) (lives : List Live) → PlanHas p lives → PlanHas (without_object p e) (without e lives)
plan_without p e lives h = record {
  live = λ d. live_at d (e == d) refl;
  size = λ d live. h.size d (live_before p (is_object e) (of_exception d) live).0;
  ints = λ d live. h.ints d (live_before p (is_object e) (of_exception d) live).0;
}
  where
    live_at : (d : ℕ) (b : Bool) → (e == d) ≡ b → (p.live (of_exception d) && not (e == d)) ≡ is_some (live_in (without e lives) d)
    live_at d true is =
        let same : e ≡ d = grind (arith, nat_tests, is) in
        ap (λ b. p.live (of_exception d) && not b) is ∙ both_false (p.live (of_exception d)) ∙ ap is_some (sym (ap (live_in (without e lives)) (sym same) ∙ gone_in lives e))
    live_at d false is = ap (λ b. p.live (of_exception d) && not b) is ∙ one_true (p.live (of_exception d)) ∙ h.live d ∙ ap is_some (sym (kept_in lives e d is))

-- memory matches where an exception is given back
pub memory_without : (p : Plan) (n : ℕ) (frame : Frame) (fs : List Activation) (v : World) (memory : List Part) (stack back e : ℕ) → MemoryMatches p n frame fs v memory stack back →
    MemoryMatches (without_object p e) n frame fs v memory stack back
memory_without p n frame fs v memory stack back e h = matches_narrowed p (is_object e) n frame fs v memory stack back (record { globals = λ g. refl; older = λ d s le. refl }) h

pub registers_without : (p : Plan) (n : ℕ) (frame : Frame) (fs : List Activation) (v : World) (memory : List Part) (stack back e : ℕ) (regs : List ℕ) → MemoryMatches p n frame fs v memory stack back →
    RegistersMatch p n frame fs v memory stack regs → RegistersMatch (without_object p e) n frame fs v memory stack regs
registers_without p n frame fs v memory stack back e regs h r = registers_narrowed p (is_object e) n frame fs v memory stack back regs h r

-- ---- the step

free_step : (p : Plan) (n s e : ℕ) (st next : LinearState) → StepAt p st next n (free s) → HoldsObject p n st.top.frame s e → moved st (st.top.place + 1) st.top.frame (freed e st.world) ≡ next
free_step p n s e st next at holds =
    let number : exception_in_slot st.top.frame s ≡ e = ap exception_of holds.is in
    let whole : goes_to (moved st (st.top.place + 1) st.top.frame (freed e st.world)) ≡ goes_to next
    = ap (λ k. goes_to (moved st (st.top.place + 1) st.top.frame (freed k st.world))) (sym number)
    ∙ next_there (may_free st.top.function st.world (exception_in_slot st.top.frame s)) st.world
    (goes_to (moved st (st.top.place + 1) st.top.frame (freed (exception_in_slot st.top.frame s) st.world))) next (sym (step_is p n st (free s) at.runs at.there) ∙ at.step) in
    cc whole

free_runs : CallsAreTurns → CallsAreMade → (image : Image) (p : Plan) (n s e : ℕ) (st next : LinearState) (w : abi.World) (back : ℕ) → Stands p n st w back → StepAt p st next n (free s) →
    HoldsObject p n st.top.frame s e → live_in st.world.live e ≡ Some building →
    Matched image (length (linear_code (shape p n) (free s))) w (Free e ∷ []) (λ v. Matches (without_object p e) (moved st (st.top.place + 1) st.top.frame (freed e st.world)) v)
free_runs turns made image p n s e st next w back h at holds there =
    let g : Ground = (setting p n).ground in
    let here : ℕ = first_word p n + op_word (routine p n) st.top.place in
    let v : World = st.world in
    let own = operation_at p w.hart.memory n st.top.place (free s) h.memory.unit h.memory.top.known at.there in
    let first = object_loaded p n st w back here s e h holds own.code.0 h.pc in
    let ec = ecall_reached turns image g here 1 0 4 w first.goes (omega arith) own.code.1 in
    let t : abi.World = asked ec.behind ec.at in
    let r = runtime_stays p st.frames v w ec.at ec.runtime h.runtime in
    let m = r.exceptions in
    let gone : List ℕ = destroyed st.frames in
    let live = live_header (addresses_of p) gone (exceptions_in v) (kept_by ec.at) e building m there in
    let slot : ℕ = live.slot in
    let header : Header = live.has.header in
    let kind : header.kind ≡ Building = counts_building (addresses_of p) (contains gone e) header live.is in
    let given : argument t 10 ≡ object_of slot = ec.kept a0 (λ d. absurd (omega (arith, d))) ∙ first.is ∙ omega arith ∙ live.object in
    let found : object_where is_building t.exceptions.live (argument t 10) ≡ Some (record { slot = slot; header = header })
    = ap (object_where is_building ec.at.exceptions.live) given ∙ object_found is_building ec.at.exceptions.live slot header live.below live.has.there (ap is_building kind) in
    let end : abi.World = with_exceptions (runtime_freed slot t.exceptions) (shows (Free e) t) in
    let effect : (wish : ℕ) → call_effect 4 image wish t ≡ abi.goes end = λ wish.
    free_is image wish t ∙ ap (λ o. needs t o (λ y. goes (with_exceptions (runtime_freed y.slot t.exceptions) (shows (Free y.header.number) t)))) found
    ∙ ap (λ k. goes (with_exceptions (runtime_freed slot t.exceptions) (shows (Free k) t))) live.has.number in
    let to : LinearState = moved st (st.top.place + 1) st.top.frame (freed e v) in
    let alike = matches_alike p n st.top.frame st.frames v (freed e v) w.hart.memory (x w.hart sp) back refl refl (same_number v) h.memory in
    let held = memory_without p n st.top.frame st.frames (freed e v) w.hart.memory (x w.hart sp) back e alike in
    record {
      turns = ec.turns + 1;
      few = omega (arith, ec.few);
      some = λ some. omega arith;
      after = counted end;
      runs = call_made made image g here 1 4 w first.goes.after ec end effect refl;
      holds = record {
        number = n;
        back = back;
        runs = h.runs;
        registers = ec.registers;
        pc = ec.pc ∙ omega (arith, own.next);
        memory = subst (λ ps. MemoryMatches (without_object p e) n st.top.frame st.frames (freed e v) ps (x ec.behind sp) back) (sym ec.memory)
            (subst (λ a. MemoryMatches (without_object p e) n st.top.frame st.frames (freed e v) w.hart.memory a back) (sym ec.stack) held);
        kept = kept_at (without_object p e) n to (x w.hart sp) w.hart.memory (saved_of w.hart) ec.behind ec.memory ec.stack ec.saved
            (registers_without p n st.top.frame st.frames (freed e v) w.hart.memory (x w.hart sp) back e (saved_of w.hart) alike
            (registers_alike p n st.top.frame st.frames v (freed e v) w.hart.memory (x w.hart sp) back (saved_of w.hart) refl h.memory h.kept));
        runtime = record {
          input = r.input;
          replies = r.replies;
          last_number = r.last_number;
          terminating = r.terminating;
          exceptions = freed_match (addresses_of p) gone gone (exceptions_in v) (kept_by ec.at) e slot building m live.has (building_out (addresses_of p) gone (exceptions_in v) (kept_by ec.at) slot header m live.has.there kind) there m.distinct (built_stays (addresses_of p) gone (exceptions_in v) (kept_by ec.at) e m there)
              (λ d other. refl);
          plan = plan_without p e v.live r.plan;
        };
      };
    }

-- it was being built
free_there : (p : Plan) (n s e : ℕ) (st next : LinearState) → StepAt p st next n (free s) → HoldsObject p n st.top.frame s e → live_in st.world.live e ≡ Some building
free_there p n s e st next at holds =
    let number : exception_in_slot st.top.frame s ≡ e = ap exception_of holds.is in
    let test : may_free st.top.function st.world (exception_in_slot st.top.frame s) ≡ is_being_built st.world e = ap (λ f. may_free f st.world (exception_in_slot st.top.frame s)) at.runs ∙ ap (is_being_built st.world) number in
    building_there st.world e (sym test ∙ was_defined (may_free st.top.function st.world (exception_in_slot st.top.frame s)) st.world
    (goes_to (moved st (st.top.place + 1) st.top.frame (freed (exception_in_slot st.top.frame s) st.world))) next (sym (step_is p n st (free s) at.runs at.there) ∙ at.step))
  where
    was_defined : (b : Bool) (v : World) (x : Next) (to : LinearState) → next_if b v x ≡ goes_to to → b ≡ true
    was_defined true v x to e = refl
    was_defined false v x to e = absurd (cc e)

pub frees_run : CallsAreTurns → CallsAreMade → FreesRun
frees_run turns made image p n s e st next w h at holds =
    let there = free_there p n s e st next at holds in
    let went = free_step p n s e st next at holds in (
      ap (λ (y : LinearState). y.world.items) (sym went),
      subst (λ (y : LinearState). Matched image (length (linear_code (shape p n) (free s))) w (Free e ∷ []) (λ v. Matches (without_object p e) y v)) went
          (free_runs turns made image p n s e st next w h.back (stands_by p n st w h at.runs) at holds there),
    )
