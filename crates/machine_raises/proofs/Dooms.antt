-- An exception without a handler is thrown: the terminate handler kept with it begins.
use Rattle.meaning_forms.specs.Class.{contains}
use Rattle.rv64_isa.specs.State.{State}
use Rattle.rv64_isa.specs.Step.{x}
use Rattle.elf_image.specs.Clean.{CleanImage}
use Rattle.caught_stack.specs.declared.header.Header.{Header}
use Rattle.caught_stack.specs.declared.header.HeaderKind.TheVariants.{Building}
use Rattle.machine_pieces.specs.Turning.{Turns}
use Rattle.cxa_runtime.specs.declared.object.Object.{Object}
use Rattle.cxa_runtime.specs.Types.{type_records}
use Rattle.cxa_runtime.specs.Objects.{object_of, object_where, is_building}
use Rattle.cxa_runtime.specs.World as abi
use Rattle.cxa_runtime.specs.World.{argument, needs}
use Rattle.cxa_runtime.specs.Raising.{Image}
use Rattle.cxa_runtime.specs.Throw.{native_object, flying, throws}
use Rattle.eh_run.specs.Program.{program_of}
use Rattle.region_forms.specs.Form.{throw}
use Rattle.region_forms.specs.World.{World, Exception, building, native, exception_of, exception_in_slot, exception_type}
use Rattle.region_forms.specs.Lives.{is_being_built}
use Rattle.region_forms.specs.Effect.{raises, only_where, flies, kept}
use Rattle.linear_forms.specs.Search.{found_above}
use Rattle.linear_forms.specs.Linear.{plain}
use Rattle.linear_forms.specs.Stub.{terminating}
use Rattle.linear_forms.specs.Activation.{State as LinearState}
use Rattle.linear_forms.specs.Operation.{performed}
use Rattle.linear_forms.specs.UnitRun.{code_of}
use Rattle.machine_forms.specs.Registers.{sp, a0, a1, a2}
use Rattle.machine_forms.specs.OperationCode.{destructor_set}
use Rattle.machine_forms.specs.LinearCode.{linear_code}
use Rattle.machine_forms.specs.Routine.{op_word}
use Rattle.machine_pieces.specs.Standing.{Ground}
use Rattle.machine_pieces.specs.Laws.{CallsAreTurns}
use Rattle.machine_stubs.specs.Calls.{asked}
use Rattle.image_forms.specs.Placed.{record_at}
use Rattle.table_verdicts.specs.Types.{with_bases}
use Rattle.image_tables.specs.Functions.{records_end}
use Rattle.image_tables.proofs.TypesRead.{types_are_read}
use Rattle.raise_simulation.specs.Raises.{RaisesAgree}
use Rattle.machine_simulation.specs.Plan.{Plan, function, shape, routine, first_word, setting}
use Rattle.machine_simulation.specs.Exceptions.{live_in, addresses_of, exceptions_in, kept_by, destroyed, record_address, IsFunction}
use Rattle.machine_simulation.specs.Matches.{RuntimeMatches, MemoryMatches}
use Rattle.machine_simulation.proofs.Words.{operation_at}
use Rattle.machine_simulation.proofs.Matching.{Stands, stands_by, runtime_stays, kept_at}
use Rattle.machine_simulation.proofs.Floors.{caller_above}
use Rattle.machine_pieces.specs.Keeping.{saved_of, AreSmall}
use Rattle.machine_simulation.proofs.Quiet.{step_is, plain_is}
use Rattle.machine_exceptions.proofs.Ecalls.{ecall_reached}
use Rattle.machine_exceptions.proofs.Enters.{exception_is}
use Rattle.machine_exceptions.proofs.Finding.{live_header, object_found}
use Rattle.machine_raises.specs.Stacks.{IsRunning, InCall}
use Rattle.machine_raises.proofs.Replaced.{replaced_in}
use Rattle.machine_raises.proofs.Native.{counts_building, thrown_object}
use Rattle.machine_raises.proofs.ThrowWords.{throw_given}
use Rattle.std.proofs.Common.{is_some, ◌≡◌, ◌∙◌, refl, sym, ap, subst, arith, ℕ, ◌+◌, ◌^◌, ◌<◌, ◌≤◌, [], ◌∷◌, length, map, Option, Some, None, inl, inr}
use Rattle.std.specs.Prelude.{◌⊎◌, slice_get, false, if◌then◌else◌}
use Rattle.raise_core.specs.Raise as unwinder
use Rattle.raise_core.specs.declared.raised.Raised.{Raised}
use Rattle.raise_core.specs.declared.raised.Raised.TheVariants as answers
use Rattle.machine_simulation.specs.Calls.{open_bytes}
use Rattle.cxa_runtime.specs.Raising.{raised_as}
use Rattle.cxa_runtime.specs.Catch.{entered}
use Rattle.cxa_runtime.specs.Terminate.{terminates}
use Rattle.region_forms.specs.Effect.{entered_doomed}
use Rattle.table_verdicts.specs.Types.{thrown_as}
use Rattle.machine_stubs.specs.Stretches.{stub_word}
use Rattle.image_tables.specs.Functions.{operation_at as image_operation_at}
use Rattle.machine_simulation.proofs.Calling.{stack_at}
use Rattle.machine_exceptions.proofs.Terminates.{AtHandler, call_may}
use Rattle.machine_raises.proofs.Stacks.{all_opens, all_tail, opens_are, stack_raised}
use Rattle.machine_raises.specs.Doomed.{AtDoomed, doomed_state, DoomsRun}
use Rattle.machine_exceptions.specs.Leaves.{StepsTo}
use Rattle.machine_exceptions.specs.Terminates.{waiting_terminate, ending_world, in_handler}
use Rattle.machine_exceptions.proofs.Terminates.{handler_from}
use Rattle.machine_exceptions.proofs.Travels.{building_there}
use Rattle.machine_stubs.specs.Terminates.{CallsTerminate}
use Rattle.meaning_forms.specs.Outcome.{aborted}
use Rattle.run_items.specs.declared.item.Item.TheVariants.{Enter}
use Rattle.region_forms.specs.World.{nothing, exception_at}
use Rattle.linear_forms.specs.Activation.{Next, at as linear_at, finishes, by_program, stub_frame, function_word, look}
use Rattle.linear_forms.specs.Search.{found}
use Rattle.linear_forms.specs.Unwinding.{raised_to, unwind, doomed_by}
use Rattle.machine_raises.proofs.Doomed.{doomed_runtime}
use Rattle.machine_raises.proofs.Throwing.{throw_is, throws_as, throw_words}
use Rattle.machine_raises.proofs.AtCalls.{running_still}
use Rattle.machine_raises.specs.Throws.{MayThrow}
use Rattle.machine_simulation.proofs.Holding.{same_number}
use Rattle.machine_simulation.proofs.Lines.{matches_alike}

-- where terminate does not run yet, the handler kept with the exception is used
pub doom_called : CallsAreTurns → RaisesAgree → (i : CleanImage) (p : Plan) (n m s e t : ℕ) (d : Option ℕ) (st : LinearState) (w : abi.World) (back : ℕ) → Stands p n st w back → IsRunning p i w.hart →
    slice_get (function p n).ops st.top.place ≡ Some (plain (throw s t d)) → MayThrow p n st.top.frame s e t d → live_in st.world.live e ≡ Some building → found_above (code_of p.unit) (Some t) (st.top ∷ st.frames) ≡ None →
    st.world.ending ≡ false → st.world.installed.terminate_handler ≡ Some m → (program_of i).image.places.terminate ≡ stub_word p.base terminating 0 →
    (c : AtHandler (program_of i).image p n m (doomed_state e t d st) w back) × (c.turns ≤ length (linear_code (shape p n) (plain (throw s t d)))) × (c.to.shown ≡ Enter e ∷ []) × (c.to.unwinding ≡ c.at.unwinding)
doom_called turns agree i p n m s e t d st w back h running at may being none quiet installed named =
    let image : Image = (program_of i).image in
    let g : Ground = (setting p n).ground in
    let here : ℕ = first_word p n + op_word (routine p n) st.top.place in
    let v : World = st.world in
    let words : ℕ = 3 + length (destructor_set a2 d) in
    let low : record_at (records_end p.unit) t < 2 ^ 64 = omega (arith, running.base, h.memory.unit.stubs.start.0.word.below) in
    let own = operation_at p w.hart.memory n st.top.place (plain (throw s t d)) h.memory.unit h.memory.top.known at in
    let given = throw_given p i n here s e t d st w back h running may.holds may.type may.destructor own.code h.pc low in
    let ec = ecall_reached turns image g here words 0 5 w given.goes (omega arith) given.call in
    let y : abi.World = asked ec.behind ec.at in
    let q = runtime_stays p st.frames v w ec.at ec.runtime h.runtime in
    let r : RuntimeMatches p st.frames v y = record { input = q.input; replies = q.replies; last_number = q.last_number; terminating = q.terminating; exceptions = q.exceptions; plan = q.plan } in
    let live = live_header (addresses_of p) (destroyed st.frames) (exceptions_in v) (kept_by y) e building q.exceptions being in
    let slot : ℕ = live.slot in
    let header : Header = live.has.header in
    let kind : header.kind ≡ Building = counts_building (addresses_of p) (contains (destroyed st.frames) e) header live.is in
    let rec : ℕ = record_address p.base t in
    let types = map (record_at (records_end p.unit)) (with_bases p.unit.types t) in
    let o : Object = thrown_object p y slot t given.function header in
    let is0 : argument y 10 ≡ object_of slot = ec.kept a0 (λ b. absurd (omega (arith, b))) ∙ given.object ∙ live.object in
    let is1 : argument y 11 ≡ rec = ec.kept a1 (λ b. absurd (omega (arith, b))) ∙ given.type ∙ sym (ap (λ b. record_at b t) running.base) in
    let is2 : argument y 12 ≡ given.function = ec.kept a2 (λ b. absurd (omega (arith, b))) ∙ given.destructor in
    let object : object_where is_building y.exceptions.live (argument y 10) ≡ Some (record { slot = slot; header = header })
    = ap (object_where is_building ec.at.exceptions.live) is0 ∙ object_found is_building ec.at.exceptions.live slot header live.below live.has.there (ap is_building kind) in
    let there = running_still p i w.hart ec.behind ec.memory running in
    let read : type_records y.hart rec ≡ Some types = ap (λ b. type_records ec.behind (record_at b t)) running.base ∙ types_are_read p.unit i ec.behind t there.image there.run may.type may.bases in
    let all = throw_words p n s t d in
    let held : MemoryMatches p n st.top.frame st.frames v ec.behind.memory (x ec.behind sp) back = subst (λ ps. MemoryMatches p n st.top.frame st.frames v ps (x ec.behind sp) back) (sym ec.memory)
    (subst (λ a. MemoryMatches p n st.top.frame st.frames v w.hart.memory a back) (sym ec.stack) h.memory) in
    let incall : InCall p n back st.top st.frames v ec.behind = record {
      runs = h.runs;
      registers = ec.registers;
      goes_on = record { operation = plain (throw s t d); there = at; word = words + 1; inside = omega (arith, all); is = ec.pc ∙ omega arith };
      memory = held;
      kept = kept_at p n st (x w.hart sp) w.hart.memory (saved_of w.hart) ec.behind ec.memory ec.stack ec.saved h.kept;
    } in
    let lost = agree.lost (code_of p.unit) (image_operation_at p.unit) image.fdes (thrown_as (records_end p.unit) p.unit.types (Some t)) (Some t) ec.behind (x ec.behind sp) (all_opens p i n back st.top st.frames v ec.behind there incall)
    (all_tail p i n back st.top st.frames v ec.behind there incall) (stack_raised p i n back st.top st.frames v ec.behind there incall (Some t) may.type)
    (ap (found_above (code_of p.unit) (Some t)) (opens_are p i n back st.top st.frames v ec.behind there incall) ∙ none) in
    let flew : abi.World = flying o y in
    let out : abi.World = entered o flew in
    let handlers : y.terminating ≡ false = r.terminating ∙ quiet in
    let end : throws image y o types ≡ terminates image.places y.terminate_handler out = by image y slot rec given.function header (unwinder.raise image.fdes (thrown_as (records_end p.unit) p.unit.types (Some t)) ec.behind) ec.behind handlers lost in
    let known = subst (λ k. IsFunction (addresses_of p) k y.terminate_handler) installed r.exceptions.terminate_handler in
    let u : World = entered_doomed e (kept e t d v) in
    let high = caller_above p n st.top.place st.top.frame v w.hart.memory (x w.hart sp) back (plain (throw s t d)) at refl h.memory.top in
    let m_may = call_may image p n st w back ec.behind ec.at h high named ec.registers ec.memory ec.stack in (
      record {
        turns = ec.turns;
        at = ec.at;
        runs = ec.runs;
        to = out;
        number = 5;
        handler = y.terminate_handler;
        calls = record { behind = ec.behind; calls = ec.calls; asks = ec.asks; effect = λ wish. throw_is image wish y ∙ throws_as image y slot rec given.function header types (terminates image.places y.terminate_handler out) object is1 read is2 end };
        may = record { named = m_may.named; registers = m_may.registers; code = m_may.code; deep = m_may.deep; room = m_may.room };
        known = known;
        memory = matches_alike p n st.top.frame st.frames v u ec.behind.memory (x ec.behind sp) back refl refl (same_number v) held;
        small = subst AreSmall (sym ec.saved) h.kept.small;
        runtime = doomed_runtime p st.frames v y e slot t given.function d r live.has kind being given.is;
        end = ap (λ a. a + open_bytes p (st.top ∷ st.frames)) ec.stack ∙ stack_at p n st w back h;
      },
      omega (arith, ec.few, all),
      ap (λ j. Enter j ∷ []) live.has.number,
      refl,
    )
  where
    by : (image : Image) (y : abi.World) (slot rec k : ℕ) (b : Header) (raised : Raised × State) (s : State) → y.terminating ≡ false → (raised ≡ (answers.Terminate, s)) ⊎ (raised ≡ (answers.NoHandler, s)) →
        let o = native_object y (record { slot = slot; header = b }) rec k in raised_as image.places y.exceptions o (flying o y) raised ≡ terminates image.places y.terminate_handler (entered o (flying o y))
    by image y slot rec k b raised s quiet lost =
        let o = native_object y (record { slot = slot; header = b }) rec k in
        let rest = ap (λ c. if c then terminates image.places o.header.handlers.0 (flying o y) else terminates image.places o.header.handlers.0 (entered o (flying o y))) quiet in
        lost_as lost rest
      where
        lost_as : (raised ≡ (answers.Terminate, s)) ⊎ (raised ≡ (answers.NoHandler, s)) → (let o = native_object y (record { slot = slot; header = b }) rec k in
            (if y.terminating then terminates image.places o.header.handlers.0 (flying o y) else terminates image.places o.header.handlers.0 (entered o (flying o y))) ≡ terminates image.places o.header.handlers.0 (entered o (flying o y))) →
            let o = native_object y (record { slot = slot; header = b }) rec k in raised_as image.places y.exceptions o (flying o y) raised ≡ terminates image.places y.terminate_handler (entered o (flying o y))
        lost_as (inl is) rest = let o = native_object y (record { slot = slot; header = b }) rec k in ap (raised_as image.places y.exceptions o (flying o y)) is ∙ rest
        lost_as (inr is) rest = let o = native_object y (record { slot = slot; header = b }) rec k in ap (raised_as image.places y.exceptions o (flying o y)) is ∙ rest

doom_step : (i : CleanImage) (p : Plan) (n m s e t : ℕ) (d : Option ℕ) (st : LinearState) → AtDoomed i p n s e t d st → live_in st.world.live e ≡ Some building → st.world.ending ≡ false → st.world.installed.terminate_handler ≡ Some m →
    StepsTo (code_of p.unit) 2 st (in_handler p m (doomed_state e t d st))
doom_step i p n m s e t d st at being quiet installed =
    let code = code_of p.unit in
    let v : World = st.world in
    let k : World = kept e t d v in
    let fs = st.top ∷ st.frames in
    let number : exception_in_slot st.top.frame s ≡ e = ap exception_of at.may.holds.is in
    let exception : Exception = native t d v.installed in
    let is : exception_at k e ≡ exception = exception_is k.live e exception (replaced_in v.live e exception building being) in
    let waiting : Option ℕ → Next = λ h. linear_at terminating 0 (stub_frame (function_word h) nothing nothing) fs (record (entered_doomed e k) { ending = is_some h }) in
    let step1 = step_is p n st (plain (throw s t d)) at.runs at.there ∙ plain_is p n st (throw s t d) at.runs ∙ ap (λ c. performed code (only_where (is_being_built v c) (raises c (kept c t d v))) st.top st.frames v) number
    ∙ ap (λ b. performed code (only_where b (raises e k)) st.top st.frames v) at.being
    ∙ ap (λ o. raised_to o e fs k (λ c. unwind code (look code st.top.function st.top.place) c e st.top.function st.top.frame st.frames (flies e k))) (ap (λ o. found code st.top.function (look code st.top.function st.top.place) o st.frames) (ap exception_type is) ∙ at.lost)
    ∙ ap (λ b. if b then finishes (by_program aborted) k else doomed_by e (exception_at k e) fs k) quiet ∙ ap (λ x. doomed_by e x fs k) is
    ∙ ap (λ b. if b then finishes (by_program aborted) (entered_doomed e k) else waiting v.installed.terminate_handler) quiet ∙ ap waiting installed in
    (record { top = waiting_terminate m; frames = fs; world = ending_world (entered_doomed e k) }, step1, (in_handler p m (doomed_state e t d st), refl, refl))

pub dooms_run : CallsAreTurns → CallsTerminate → RaisesAgree → DoomsRun
dooms_run turns calls agree i p n m s e t d st w h running at quiet installed hidden fits =
    let being = building_there st.world e at.being in
    let stood = stands_by p n st w h at.runs in
    let c = doom_called turns agree i p n m s e t d st w h.back stood running at.there at.may being at.lost quiet installed at.named in
    let from = handler_from calls (program_of i).image p n m (doomed_state e t d st) w h.back c.0 at.runs quiet hidden fits c.3 in
    (doom_step i p n m s e t d st at being quiet installed, record { turns = from.turns; few = omega (arith, from.few, c.1); after = from.after; runs = subst (Turns (program_of i).image from.turns w from.after) c.2 from.runs; holds = from.holds })
