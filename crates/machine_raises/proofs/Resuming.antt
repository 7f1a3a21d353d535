-- An exception goes on towards its target on both machines.
use Rattle.std.proofs.Common.{◌≡◌, ◌∙◌, refl, sym, ap, subst, arith, ℕ, ◌+◌, ◌==◌, false, List, [], ◌∷◌, ◌++◌, length, append-nil, Option, Some, inl, inr}
use Rattle.std.specs.Prelude.{◌⊎◌, if◌then◌else◌}
use Rattle.std.proofs.lemmas.Bool.Decides.{nat_tests}
use Rattle.table_forms.specs.Verdict.{Thrown}
use Rattle.rv64_isa.specs.State.{State}
use Rattle.rv64_isa.specs.Step.{x}
use Rattle.elf_image.specs.Clean.{CleanImage}
use Rattle.caught_stack.specs.declared.header.Header.{Header}
use Rattle.caught_stack.specs.Live.{header_of}
use Rattle.caught_stack.specs.Exceptions.{Exceptions}
use Rattle.raise_core.specs.declared.raised.Raised.{Raised}
use Rattle.raise_core.specs.declared.raised.Raised.TheVariants.{Terminate}
use Rattle.raise_core.specs.Raise as unwinder
use Rattle.image_forms.specs.Linkable.{BaseIsThere}
use Rattle.cxa_runtime.specs.declared.object.Object.{Object}
use Rattle.cxa_runtime.specs.Objects.{object_of, object_where, is_thrown}
use Rattle.cxa_runtime.specs.World as abi
use Rattle.cxa_runtime.specs.World.{argument, needs, at_hart}
use Rattle.cxa_runtime.specs.Raising.{Image, at_pad, thrown_of, resumed_as, resumes}
use Rattle.cxa_runtime.specs.Cancel.{unwinds}
use Rattle.cxa_runtime.specs.Throw.{resume_unwind}
use Rattle.cxa_runtime.specs.Call.{call_effect, numbered}
use Rattle.cxa_runtime.specs.Run.{counted}
use Rattle.eh_run.specs.Program.{program_of}
use Rattle.region_forms.specs.World.{of_exception, flying, World, Exception, address_in, exception_type, type_at}
use Rattle.linear_forms.specs.Linear.{resume}
use Rattle.linear_forms.specs.Stub.{terminating}
use Rattle.linear_forms.specs.Activation.{Activation, State as LinearState, Next, goes_to, finishes, fault}
use Rattle.linear_forms.specs.Operation.{resumed}
use Rattle.linear_forms.specs.Unwinding.{unwound_above}
use Rattle.linear_forms.specs.UnitRun.{code_of}
use Rattle.machine_forms.specs.Registers.{sp, a0}
use Rattle.machine_forms.specs.LinearCode.{linear_code}
use Rattle.machine_forms.specs.Routine.{op_word}
use Rattle.machine_pieces.specs.Numbers.{IsInt}
use Rattle.machine_pieces.specs.Standing.{Ground}
use Rattle.machine_pieces.specs.Laws.{CallsAreTurns}
use Rattle.machine_pieces.proofs.Turning.{turns_then}
use Rattle.machine_stubs.specs.Calls.{asked, CallsAreMade}
use Rattle.table_verdicts.specs.Types.{thrown_as}
use Rattle.image_tables.specs.Functions.{records_end, operation_at as operation_byte}
use Rattle.raise_simulation.specs.OpenCalls.{outer_ip}
use Rattle.raise_simulation.specs.Tables.{said}
use Rattle.raise_simulation.specs.Verdicts.{judged_by}
use Rattle.raise_simulation.specs.Opens.{activations, calls, cfa_with}
use Rattle.raise_simulation.specs.Raises.{Lands, IsTerminated}
use Rattle.raise_simulation.specs.Resumes.{ResumesAgree}
use Rattle.machine_simulation.specs.Plan.{Plan, shape, routine, first_word, setting}
use Rattle.machine_simulation.specs.Exceptions.{addresses_of, exceptions_in, kept_by, destroyed, HeaderIs, HasHeader}
use Rattle.machine_simulation.specs.Matches.{RuntimeMatches}
use Rattle.machine_simulation.specs.Operations.{Matched}
use Rattle.machine_simulation.specs.Steps.{StepAt}
use Rattle.machine_simulation.proofs.Words.{operation_at}
use Rattle.machine_simulation.proofs.Matching.{Stands, stands_by}
use Rattle.machine_simulation.proofs.Quiet.{step_is}
use Rattle.machine_simulation.specs.Objects.{HoldsObject}
use Rattle.machine_exceptions.proofs.Ecalls.{ecall_reached, object_loaded}
use Rattle.machine_exceptions.proofs.Enters.{exception_is, thrown_kind}
use Rattle.machine_exceptions.proofs.Finding.{live_header, object_found}
use Rattle.machine_exceptions.proofs.Freed.{slots_alike}
use Rattle.machine_raises.specs.Stacks.{IsRunning}
use Rattle.machine_raises.specs.Pads.{PadGets, PadsArePlain, FiltersAreInts}
use Rattle.machine_raises.specs.Targets.{target_end}
use Rattle.machine_raises.specs.Throws.{AimedAt}
use Rattle.exceptions_in_flight.specs.Targets.{HasTarget}
use Rattle.machine_raises.specs.Resumes.{TravelsOn, ResumeAsked, ResumesRun}
use Rattle.machine_raises.proofs.OnStack.{OnStack}
use Rattle.machine_raises.proofs.AtCalls.{AtCall, call_at, when_asked, then_called}
use Rattle.machine_raises.proofs.Stacks.{top_opens, top_tail, top_are, top_raised}
use Rattle.machine_raises.proofs.Passing.{raise_goes, raise_stops}
use Rattle.machine_raises.proofs.Selectors.{raise_selects}
use Rattle.machine_raises.proofs.Passing.{begins_terminating}
use Rattle.machine_raises.proofs.Aiming.{whole_end}
use Rattle.machine_raises.proofs.Onward.{type_base, thrown_known, is_target}
use Rattle.machine_raises.proofs.Entered.{EntersPad, Arrived, pad_entered_runs, compiled_lives}
use Rattle.machine_raises.proofs.Arriving.{LandsTo, lands_to}

pub resume_is : (image : Image) (wish : ℕ) (t : abi.World) → call_effect 9 image wish t ≡ resume_unwind image t
unfolding call_effect numbered
resume_is image wish t = refl

not_zero : (slot : ℕ) → (object_of slot == 0) ≡ false
not_zero slot = grind (arith, nat_tests)

pub resumes_so : (image : Image) (y : abi.World) (slot : ℕ) (h : Header) (thrown : Thrown) → argument y 10 ≡ object_of slot → object_where is_thrown y.exceptions.live (argument y 10) ≡ Some (record { slot = slot; header = h }) →
    thrown_of y.hart h.kind ≡ Some thrown → resume_unwind image y ≡ resumes image (record { slot = slot; header = h }) thrown y
resumes_so image y slot h thrown is found known =
    ap (λ b. if b then needs y y.unwinding (λ n. unwinds image n y) else needs y (object_where is_thrown y.exceptions.live (argument y 10)) (λ o. needs y (thrown_of y.hart o.header.kind) (λ t. resumes image o t y)))
    (ap (λ a. a == 0) is ∙ not_zero slot)
    ∙ ap (λ f. needs y f (λ o. needs y (thrown_of y.hart o.header.kind) (λ t. resumes image o t y))) found ∙ ap (λ f. needs y f (λ t. resumes image (record { slot = slot; header = h }) t y)) known

resume_step : (p : Plan) (n s e d : ℕ) (st next : LinearState) → StepAt p st next n (resume s) → st.top.frame.slots s ≡ flying e d → unwound_above (code_of p.unit) d e (st.top ∷ st.frames) st.world ≡ goes_to next
resume_step p n s e d st next at is = sym (ap (λ y. resumed (code_of p.unit) y st.top st.frames st.world) is) ∙ sym (step_is p n st (resume s) at.runs at.there) ∙ at.step

-- ---- where the unwinder goes on to
module _ (p : Plan) (i : CleanImage) (a : Activation) (fs : List Activation) (v : World) (s : State) (running : IsRunning p i s) (h : OnStack p a fs v s) where
  pub resume_lands : ResumesAgree → (words : ℕ) (R : Plan → abi.World → Type 0) (st : LinearState) → EntersPad i a st words R → (st.top.function ≡ terminating → ⊥) → (k : abi.World) (e d value : ℕ) (t : Option ℕ) → BaseIsThere (length p.unit.types) t →
      type_at v e ≡ t → HasTarget (code_of p.unit) t d (a ∷ fs) → unwound_above (code_of p.unit) d e (a ∷ fs) v ≡ goes_to st → PadsArePlain p → FiltersAreInts p → RuntimeMatches p fs v k → PadGets p v (flying e d) value →
      LandsTo (program_of i).image st words (R p) v k value (target_end p d (x s sp) (a ∷ fs)) 0 IsInt (unwinder.resume (program_of i).image.fdes (thrown_as (records_end p.unit) p.unit.types t) (target_end p d (x s sp) (a ∷ fs)) s)
  resume_lands agree words R st enters live k e d value t known type target to plain ints runtime gets =
      let code = code_of p.unit in
      let fdes = (program_of i).image.fdes in
      let thrown = thrown_as (records_end p.unit) p.unit.types t in
      let opens = top_opens p a fs v s h in
      let tail = top_tail p a fs v s h in
      let are = top_are p a fs v s h in
      let stands = top_raised p i a fs v s running h t known in
      let there = is_target code t fdes (said s fdes thrown) (outer_ip s.pc (calls opens)) d opens tail (a ∷ fs) are stands.ends target in
      let cfa : ℕ = cfa_with d (length tail) (x s sp) opens in
      let is : cfa ≡ target_end p d (x s sp) (a ∷ fs) = whole_end p a fs v s h d (omega (arith, there.depth)) in
      let came : unwound_above code d e (activations opens ++ tail) v ≡ goes_to st = ap (λ xs. unwound_above code d e xs v) are ∙ to in
      subst (λ c. LandsTo (program_of i).image st words (R p) v k value c 0 IsInt (unwinder.resume fdes thrown c s)) is
      (by cfa (unwinder.resume fdes thrown cfa s) came (agree code (operation_byte p.unit) fdes thrown t e d v s (x s sp) opens tail stands type there))
    where
      next : Next
      next = unwound_above (code_of p.unit) d e (activations (top_opens p a fs v s h) ++ top_tail p a fs v s h) v

      by : (cfa : ℕ) (result : Raised × State) → next ≡ goes_to st →
          Lands (code_of p.unit) (operation_byte p.unit) (flying e d) v s (x s sp) (top_opens p a fs v s h) (top_tail p a fs v s h) cfa 0 next result
          ⊎ (IsTerminated v (top_opens p a fs v s h) (top_tail p a fs v s h) next × (result ≡ (Terminate, s))) ⊎ (next ≡ finishes fault v) →
          LandsTo (program_of i).image st words (R p) v k value cfa 0 IsInt result
      by cfa result came (inl lands) =
          let goes = raise_goes (code_of p.unit) d e v in
          let selects = raise_selects (code_of p.unit) d e v goes in
          lands_to p i a fs v s running h words R st enters live (λ b. judged_by (code_of p.unit) b (type_at v e)) (λ xs. unwound_above (code_of p.unit) d e xs v) v k (flying e d) value cfa 0 IsInt result lands goes
          (raise_stops (code_of p.unit) (type_at v e)) selects selects to plain ints refl refl (omega arith) runtime gets
      by cfa result came (inr (inl (ends, is))) =
          absurd (live (begins_terminating v.installed.terminate_handler (record { function = ends.barring.function; place = 0; frame = ends.barring.frame } ∷ ends.outer) v st (sym ends.terminates ∙ came)))
      by cfa result came (inr (inr ends)) = absurd (let both : finishes fault v ≡ goes_to st = sym ends ∙ came in cc both)

-- ---- the header of an exception, and its target
pub aimed_header : (p : Plan) (fs : List Activation) (v : World) (y w : abi.World) (e cfa slot : ℕ) (r : RuntimeMatches p fs v y) (has : HasHeader y.exceptions.live e slot) → y.exceptions ≡ w.exceptions → AimedAt w e cfa → has.header.target ≡ cfa
aimed_header p fs v y w e cfa slot r has same aimed =
    let there : header_of y.exceptions.live aimed.slot ≡ Some aimed.has.header = ap (λ (z : Exceptions). header_of z.live aimed.slot) same ∙ aimed.has.there in
    let other : HasHeader y.exceptions.live e aimed.slot = record { header = aimed.has.header; there = there; number = aimed.has.number } in
    let slots = slots_alike (addresses_of p) (destroyed fs) (exceptions_in v) (kept_by y) e slot aimed.slot r.exceptions has other in
    let both : Some has.header ≡ Some aimed.has.header = sym has.there ∙ ap (header_of y.exceptions.live) slots ∙ there in
    let headers : has.header ≡ aimed.has.header = cc both in
    ap (λ (h : Header). h.target) headers ∙ aimed.aimed

-- an exception goes on: what is known of it, its header and its target
pub record GoesOnAs (p : Plan) (st next : LinearState) (w : abi.World) (e d stack : ℕ) : Type 0 where
  pub exception : Exception
  pub travels : TravelsOn p st e exception
  pub target : HasTarget (code_of p.unit) (exception_type exception) d (st.top ∷ st.frames)
  pub aimed : AimedAt w e (target_end p d stack (st.top ∷ st.frames))
  pub unwinds : unwound_above (code_of p.unit) d e (st.top ∷ st.frames) st.world ≡ goes_to next

-- at the call, with the object's address
pub resume_call : CallsAreMade → ResumesAgree → (pads : ℕ) (R : Plan → abi.World → Type 0) (i : CleanImage) (p : Plan) (e d : ℕ) (st next : LinearState) (w : abi.World) (behind : State) → EntersPad i st.top next pads R → (next.top.function ≡ terminating → ⊥) →
    AtCall p i 9 st.top st.frames st.world w behind → x behind a0 ≡ p.at (of_exception e) → GoesOnAs p st next w e d (x behind sp) → PadsArePlain p → FiltersAreInts p →
    (next.world ≡ st.world) × Matched (program_of i).image (1 + pads) w [] (λ u. R p u × (u.exceptions ≡ w.exceptions))
resume_call made agree pads R i p e d st next w behind enters alive c object asks plains ints =
    let image : Image = (program_of i).image in
    let v : World = st.world in
    let t : Option ℕ = exception_type asks.exception in
    let y : abi.World = asked behind w in
    let r = when_asked p st.frames v behind w c.runtime in
    let live = live_header (addresses_of p) (destroyed st.frames) (exceptions_in v) (kept_by y) e asks.exception r.exceptions asks.travels.live in
    let slot : ℕ = live.slot in
    let header : Header = live.has.header in
    let is : HeaderIs (addresses_of p) false asks.exception header = subst (λ b. HeaderIs (addresses_of p) b asks.exception header) asks.travels.whole live.is in
    let is0 : argument y 10 ≡ object_of slot = object ∙ live.object in
    let found : object_where is_thrown y.exceptions.live (argument y 10) ≡ Some (record { slot = slot; header = header })
    = ap (object_where is_thrown w.exceptions.live) is0 ∙ object_found is_thrown w.exceptions.live slot header live.below live.has.there (thrown_kind (addresses_of p) asks.exception header asks.travels.thrown is) in
    let known = thrown_known p i behind asks.exception header c.running asks.travels.thrown asks.travels.type is in
    let aimed : header.target ≡ target_end p d (x behind sp) (st.top ∷ st.frames) = aimed_header p st.frames v y w e (target_end p d (x behind sp) (st.top ∷ st.frames)) slot r live.has refl asks.aimed in
    let thrown = thrown_as (records_end p.unit) p.unit.types t in
    let lands = resume_lands p i st.top st.frames v behind c.running c.on agree pads R next enters alive y e d (object_of slot) t (type_base p t asks.travels.type) (ap exception_type (exception_is v.live e asks.exception asks.travels.live)) asks.target
    asks.unwinds plains ints r
    (omega (arith, r.exceptions.numbers e asks.exception asks.travels.live), sym live.object, omega (arith, live.below)) in
    let o : Object = record { slot = slot; header = header } in
    let to : abi.World = at_pad (object_of slot) lands.selector (at_hart lands.after y) in
    let installs : resumes image o thrown y ≡ abi.goes to = ap (λ c2. resumed_as image.places o y (unwinder.resume image.fdes thrown c2 behind)) aimed ∙ ap (resumed_as image.places o y) lands.installs in
    let effect : (wish : ℕ) → call_effect 9 image wish y ≡ abi.goes to = λ wish. resume_is image wish y ∙ resumes_so image y slot header thrown is0 found known ∙ installs in
    let called = made.goes_on image 9 w to behind c.calls c.asks effect refl in (
      lands.world,
      record {
        turns = 1 + lands.ran.turns;
        few = omega (arith, lands.ran.few);
        some = λ some. omega arith;
        after = lands.ran.after;
        runs = turns_then image 1 lands.ran.turns w (counted to) lands.ran.after [] [] called lands.ran.runs;
        holds = (lands.ran.holds.0, lands.ran.holds.1.exceptions);
      },
    )

pub resume_runs : CallsAreTurns → CallsAreMade → ResumesAgree → (pads : ℕ) (R : Plan → abi.World → Type 0) (i : CleanImage) (p : Plan) (n s e d : ℕ) (st next : LinearState) (w : abi.World) (back : ℕ) → EntersPad i st.top next pads R →
    (next.top.function ≡ terminating → ⊥) → Stands p n st w back → IsRunning p i w.hart → StepAt p st next n (resume s) → ResumeAsked p n st w s e d → PadsArePlain p → FiltersAreInts p →
    (next.world ≡ st.world) × Matched (program_of i).image (length (linear_code (shape p n) (resume s)) + pads) w [] (λ u. R p u × (u.exceptions ≡ w.exceptions))
resume_runs turns made agree pads R i p n s e d st next w back enters alive h running at asks plains ints =
    let image : Image = (program_of i).image in
    let g : Ground = (setting p n).ground in
    let here : ℕ = first_word p n + op_word (routine p n) st.top.place in
    let code : ℕ = length (linear_code (shape p n) (resume s)) in
    let fs = st.top ∷ st.frames in
    let own = operation_at p w.hart.memory n st.top.place (resume s) h.memory.unit h.memory.top.known at.there in
    let holds : HoldsObject p n st.top.frame s e = record { inside = asks.inside; near = asks.near; is = ap address_in asks.is } in
    let first = object_loaded p n st w back here s e h holds own.code.0 h.pc in
    let ec = ecall_reached turns image g here 1 0 9 w first.goes (omega arith) own.code.1 in
    let c = call_at i image p n st w back g here 1 9 first.goes.after h running ec (record { operation = resume s; there = at.there; word = 2; inside = omega arith; is = ec.pc ∙ omega arith }) in
    let aim = subst (λ a. AimedAt w e (target_end p d a fs)) (sym ec.stack) asks.aimed in
    let still : AimedAt ec.at e (target_end p d (x ec.behind sp) fs) = record {
      slot = aim.slot;
      has = record { header = aim.has.header; there = ap (λ (z : Exceptions). header_of z.live aim.slot) ec.runtime.exceptions ∙ aim.has.there; number = aim.has.number };
      aimed = aim.aimed;
    } in
    let goes : GoesOnAs p st next ec.at e d (x ec.behind sp) = record { exception = asks.exception; travels = asks.travels; target = asks.target; aimed = still; unwinds = resume_step p n s e d st next at asks.is } in
    let went = resume_call made agree pads R i p e d st next ec.at ec.behind enters alive c (ec.kept a0 (λ b. absurd (omega (arith, b))) ∙ first.is ∙ omega arith) goes plains ints in (
      went.0,
      then_called image g here 1 9 pads code w first.goes.after (λ u. R p u × (u.exceptions ≡ w.exceptions)) ec (omega arith)
          (subst (λ es. Matched image (1 + pads) ec.at [] (λ u. R p u × (u.exceptions ≡ es))) ec.runtime.exceptions went.1),
    )

pub resumes_run : CallsAreTurns → CallsAreMade → ResumesAgree → ResumesRun
resumes_run turns made agree i p n m s e d st next w h running at asks plains ints callee =
    let all = resume_runs turns made agree 2 (Arrived next) i p n s e d st next w h.back (pad_entered_runs i st.top next m callee) (compiled_lives next m callee) (stands_by p n st w h at.runs) running at asks plains ints in
    (ap (λ (u : World). u.items) all.0 ∙ sym (append-nil st.world.items), all.1)
