-- The newest handled exception is thrown again, and nothing stops it: what the runtime call does.
use Rattle.std.proofs.Common.{◌≡◌, ◌∙◌, refl, sym, ap, subst, arith, ℕ, suc, ◌+◌, ◌==◌, Bool, true, false, pos, negsuc, List, [], ◌∷◌, length, Option, Some, option_map}
use Rattle.std.specs.Prelude.{if◌then◌else◌}
use Rattle.meaning_forms.specs.Class.{contains}
use Rattle.table_forms.specs.Verdict.{Thrown}
use Rattle.rv64_isa.specs.Step.{x}
use Rattle.elf_image.specs.Clean.{CleanImage}
use Rattle.raise_core.specs.Raise as unwinder
use Rattle.caught_stack.specs.declared.header.Header.{Header}
use Rattle.caught_stack.specs.Live.{header_of}
use Rattle.caught_stack.specs.Caught.{Caught}
use Rattle.caught_stack.specs.Exceptions.{Exceptions}
use Rattle.caught_stack.specs.Rethrow.{rethrown_on}
use Rattle.cxa_runtime.specs.declared.object.Object.{Object}
use Rattle.cxa_runtime.specs.Objects.{is_thrown}
use Rattle.cxa_runtime.specs.World as abi
use Rattle.cxa_runtime.specs.World.{needs}
use Rattle.cxa_runtime.specs.Raising.{Image, thrown_of, unhandled, raises as runtime_raises}
use Rattle.cxa_runtime.specs.Throw.{rethrow as rethrow_effect, rethrows, rethrows_object}
use Rattle.cxa_runtime.specs.Call.{call_effect, numbered}
use Rattle.eh_run.specs.Program.{program_of}
use Rattle.region_forms.specs.Form.{rethrow}
use Rattle.region_forms.specs.Caught.{Entry}
use Rattle.region_forms.specs.World.{World, Exception, Live, building, native, foreign, exception_in, exception_at, type_at}
use Rattle.region_forms.specs.Lives.{is_built}
use Rattle.linear_forms.specs.Linear.{plain}
use Rattle.linear_forms.specs.Search.{found_above}
use Rattle.linear_forms.specs.Activation.{State as LinearState}
use Rattle.linear_forms.specs.UnitRun.{code_of}
use Rattle.machine_forms.specs.Registers.{sp}
use Rattle.machine_forms.specs.RuntimeCall.{runtime_call}
use Rattle.machine_forms.specs.LinearCode.{linear_code}
use Rattle.machine_forms.specs.Routine.{op_word}
use Rattle.machine_pieces.specs.Standing.{Ground, PiecesAt}
use Rattle.machine_pieces.specs.Laws.{CallsAreTurns}
use Rattle.machine_pieces.proofs.Going.{goes_none}
use Rattle.machine_stubs.specs.Calls.{asked}
use Rattle.table_verdicts.specs.Types.{thrown_as}
use Rattle.image_tables.specs.Functions.{records_end, operation_at as image_operation_at}
use Rattle.raise_simulation.specs.Raises.{RaisesAgree}
use Rattle.machine_simulation.specs.Plan.{Plan, shape, routine, first_word, setting}
use Rattle.machine_simulation.specs.Exceptions.{Addresses, LinearExceptions, KeptExceptions, addresses_of, exceptions_in, kept_by, destroyed, live_in, HeaderIs, HasHeader, AreCaught, ExceptionsMatch}
use Rattle.machine_simulation.proofs.Words.{operation_at}
use Rattle.machine_simulation.proofs.Matching.{Stands}
use Rattle.machine_exceptions.specs.Enters.{IsThrown}
use Rattle.machine_exceptions.proofs.Ecalls.{ecall_reached}
use Rattle.machine_exceptions.proofs.Freed.{slots_alike}
use Rattle.machine_exceptions.proofs.Finding.{live_header}
use Rattle.machine_raises.specs.Stacks.{IsRunning, InCall}
use Rattle.machine_raises.proofs.Stacks.{all_opens, all_tail, opens_are, stack_raised}
use Rattle.machine_raises.proofs.AtCalls.{running_still}
use Rattle.machine_raises.proofs.Onward.{type_base, thrown_known}
use Rattle.machine_raises.proofs.Rethrowing.{NewestKept}
use Rattle.raise_ends.specs.Rethrows.{AtRethrow}
use Rattle.raise_ends.proofs.Asking.{AtCall, high_at, at_call, lost_as}
use Rattle.raise_ends.proofs.Again.{again_world}

rethrow_is : (image : Image) (wish : ℕ) (t : abi.World) → call_effect 8 image wish t ≡ rethrow_effect image t
unfolding call_effect numbered
rethrow_is image wish t = refl

-- one that can travel is live
pub built_live : (lives : List Live) (e : ℕ) → is_built (exception_in lives e) ≡ true → (live_in lives e ≡ Some (exception_in lives e)) × IsThrown (exception_in lives e)
built_live [] e h = absurd (cc h)
built_live (y ∷ lives) e h = by (y.number == e) (built_live lives e) h
  where
    built : (z : Exception) → is_built z ≡ true → (Some z ≡ Some z) × IsThrown z
    built building h = absurd (cc h)
    built (native t d kept) h = (refl, tt)
    built (foreign k t) h = (refl, tt)

    by : (b : Bool) → (is_built (exception_in lives e) ≡ true → (live_in lives e ≡ Some (exception_in lives e)) × IsThrown (exception_in lives e)) → is_built (if b then y.exception else exception_in lives e) ≡ true →
        ((if b then Some y.exception else live_in lives e) ≡ Some (if b then y.exception else exception_in lives e)) × IsThrown (if b then y.exception else exception_in lives e)
    by true rest h = built y.exception h
    by false rest h = rest h

-- a header is thrown, so no destructor of its exception runs
whole_header : (t : Addresses) (b : Bool) (z : Exception) (h : Header) → HeaderIs t b z h → is_thrown h.kind ≡ true → HeaderIs t false z h
whole_header t false z h is thrown = is
whole_header t true z h is thrown = let both : true ≡ false = sym thrown ∙ ap is_thrown is in absurd (cc both)

rethrows_so : (image : Image) (y : abi.World) (slot n : ℕ) (more : Caught) (h : Header) (thrown : Thrown) → y.exceptions.caught ≡ (slot, pos (suc n)) ∷ more → header_of y.exceptions.live slot ≡ Some h → thrown_of y.hart h.kind ≡ Some thrown →
    rethrow_effect image y ≡ runtime_raises image y.exceptions (record { slot = slot; header = h }) thrown (again_world y slot n more)
rethrows_so image y slot n more h thrown caught there known =
    let e : Exceptions = (again_world y slot n more).exceptions in
    ap (λ ys. rethrows image y (rethrown_on ys y.exceptions)) caught ∙ ap (λ o. needs y (option_map (λ (z : Header). record { slot = slot; header = z }) o) (rethrows_object image y e)) there
    ∙ ap (λ f. needs y f (λ t. runtime_raises image y.exceptions (record { slot = slot; header = h }) t (again_world y slot n more))) known

-- the newest one in the runtime
newest_kept : (t : Addresses) (gone : List ℕ) (v : LinearExceptions) (w : KeptExceptions) (e : Entry) (es : List Entry) → ExceptionsMatch t gone v w → v.caught ≡ e ∷ es → e.again ≡ false → NewestKept w e
newest_kept t gone v w e es m is still = by w.exceptions.caught refl (subst (λ xs. AreCaught w.exceptions.live xs w.exceptions.caught) is m.caught)
  where
    by : (ys : Caught) → w.exceptions.caught ≡ ys → AreCaught w.exceptions.live (e ∷ es) ys → NewestKept w e
    by [] at are = absurd are
    by ((slot, n) ∷ more) at are =
        let count : n ≡ pos (suc e.more) = are.1 ∙ ap (λ b. if b then negsuc e.more else pos (suc e.more)) still in
        record { slot = slot; has = are.0.0; thrown = are.0.1; more = more; caught = at ∙ ap (λ k. (slot, k) ∷ more) count }

-- the exception has its header, and the runtime is left with it
pub record RethrowLost (i : CleanImage) (p : Plan) (n : ℕ) (e : Entry) (st : LinearState) (w : abi.World) (back : ℕ) : Type 0 where
  pub call : AtCall (program_of i).image p n st w back 8 (length (linear_code (shape p n) (plain rethrow)))
  pub slot : ℕ
  pub more : Caught
  pub has : HasHeader call.at.exceptions.live e.number slot
  pub thrown : is_thrown has.header.kind ≡ true
  pub caught : call.at.exceptions.caught ≡ (slot, pos (suc e.more)) ∷ more
  pub is : HeaderIs (addresses_of p) false (exception_at st.world e.number) has.header
  pub flies : IsThrown (exception_at st.world e.number)
  pub effect : (wish : ℕ) → let y = asked call.behind call.at in
      call_effect 8 (program_of i).image wish y ≡ unhandled (program_of i).image.places y.exceptions (record { slot = slot; header = has.header }) (again_world y slot e.more more) has.header.kind

pub rethrow_lost : CallsAreTurns → RaisesAgree → (i : CleanImage) (p : Plan) (n : ℕ) (e : Entry) (others : List Entry) (st : LinearState) (w : abi.World) (back : ℕ) → Stands p n st w back → IsRunning p i w.hart → AtRethrow i p n e others st →
    RethrowLost i p n e st w back
rethrow_lost turns agree i p n e others st w back h running at =
    let image : Image = (program_of i).image in
    let g : Ground = (setting p n).ground in
    let here : ℕ = first_word p n + op_word (routine p n) st.top.place in
    let v : World = st.world in
    let z : Exception = exception_at v e.number in
    let t : Option ℕ = type_at v e.number in
    let own = operation_at p w.hart.memory n st.top.place (plain rethrow) h.memory.unit h.memory.top.known at.there in
    let goes = goes_none g here 0 w.hart h.pc h.registers in
    let ec = ecall_reached turns image g here 0 0 8 w goes (omega arith) (subst (λ k. PiecesAt w.hart.memory g k (runtime_call 8)) (omega arith) own.code) in
    let c = at_call image p n st w back g here 0 8 (length (linear_code (shape p n) (plain rethrow))) goes.after h ec (omega arith) (high_at p n st w back (plain rethrow) h at.there refl) in
    let y : abi.World = asked c.behind c.at in
    let there_live = built_live v.live e.number at.travels in
    let newest = newest_kept (addresses_of p) (destroyed st.frames) (exceptions_in v) (kept_by y) e others c.runtime.exceptions at.caught at.still in
    let slot : ℕ = newest.slot in
    let header : Header = newest.has.header in
    let live = live_header (addresses_of p) (destroyed st.frames) (exceptions_in v) (kept_by y) e.number z c.runtime.exceptions there_live.0 in
    let slots : live.slot ≡ slot = slots_alike (addresses_of p) (destroyed st.frames) (exceptions_in v) (kept_by y) e.number live.slot slot c.runtime.exceptions live.has newest.has in
    let headers : Some live.has.header ≡ Some header = sym live.has.there ∙ ap (header_of y.exceptions.live) slots ∙ newest.has.there in
    let one : live.has.header ≡ header = cc headers in
    let is : HeaderIs (addresses_of p) false z header = whole_header (addresses_of p) (contains (destroyed st.frames) e.number) z header (subst (HeaderIs (addresses_of p) (contains (destroyed st.frames) e.number) z) one live.is) newest.thrown in
    let there = running_still p i w.hart ec.behind ec.memory running in
    let known = thrown_known p i ec.behind z header there there_live.1 at.type is in
    let incall : InCall p n back st.top st.frames v ec.behind = record {
      runs = h.runs;
      registers = ec.registers;
      goes_on = record { operation = plain rethrow; there = at.there; word = 1; inside = omega arith; is = ec.pc ∙ omega arith };
      memory = c.memory;
      kept = c.variables;
    } in
    let lost = agree.lost (code_of p.unit) (image_operation_at p.unit) image.fdes (thrown_as (records_end p.unit) p.unit.types t) t ec.behind (x ec.behind sp) (all_opens p i n back st.top st.frames v ec.behind there incall)
    (all_tail p i n back st.top st.frames v ec.behind there incall) (stack_raised p i n back st.top st.frames v ec.behind there incall t (type_base p t at.type))
    (ap (found_above (code_of p.unit) t) (opens_are p i n back st.top st.frames v ec.behind there incall) ∙ at.lost) in
    let o : Object = record { slot = slot; header = header } in
    let up : abi.World = again_world y slot e.more newest.more in
    let end = lost_as image.places y.exceptions o up (unwinder.raise image.fdes (thrown_as (records_end p.unit) p.unit.types t) ec.behind) ec.behind lost in
    record {
      call = c;
      slot = slot;
      more = newest.more;
      has = newest.has;
      thrown = newest.thrown;
      caught = newest.caught;
      is = is;
      flies = there_live.1;
      effect = λ wish. rethrow_is image wish y ∙ rethrows_so image y slot e.more newest.more header (thrown_as (records_end p.unit) p.unit.types t) newest.caught newest.has.there known ∙ end;
    }
