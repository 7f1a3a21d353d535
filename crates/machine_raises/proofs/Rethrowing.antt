-- The newest handled exception is thrown again on both machines.
use Rattle.std.proofs.Common.{◌≡◌, ◌∙◌, refl, sym, ap, subst, arith, ℕ, suc, ◌+◌, ◌==◌, Bool, true, false, pos, negsuc, List, [], ◌∷◌, length, append-nil, Option, Some, option_map}
use Rattle.std.specs.Prelude.{if◌then◌else◌}
use Rattle.meaning_forms.specs.Class.{contains}
use Rattle.table_forms.specs.Verdict.{Thrown}
use Rattle.rv64_isa.specs.State.{State}
use Rattle.rv64_isa.specs.Step.{x}
use Rattle.elf_image.specs.Clean.{CleanImage}
use Rattle.caught_stack.specs.declared.header.Header.{Header}
use Rattle.caught_stack.specs.Allocate.{with_header}
use Rattle.caught_stack.specs.Live.{header_of}
use Rattle.caught_stack.specs.Caught.{Caught}
use Rattle.caught_stack.specs.Exceptions.{Exceptions}
use Rattle.caught_stack.specs.Rethrow.{rethrown_on}
use Rattle.caught_stack.proofs.Headers.{header_changed}
use Rattle.cxa_runtime.specs.declared.object.Object.{Object}
use Rattle.cxa_runtime.specs.Objects.{object_of, is_thrown}
use Rattle.cxa_runtime.specs.World as abi
use Rattle.cxa_runtime.specs.World.{needs, with_exceptions}
use Rattle.cxa_runtime.specs.Raising.{Image, thrown_of, raises as runtime_raises}
use Rattle.cxa_runtime.specs.Flying.{aimed}
use Rattle.cxa_runtime.specs.Throw.{rethrow as rethrow_effect, rethrows, rethrows_object}
use Rattle.cxa_runtime.specs.Call.{call_effect, numbered}
use Rattle.cxa_runtime.specs.Run.{counted}
use Rattle.eh_run.specs.Program.{program_of}
use Rattle.region_forms.specs.Form.{rethrow}
use Rattle.region_forms.specs.Caught.{Entry}
use Rattle.region_forms.specs.World.{World, Exception, Live, building, native, foreign, exception_in, exception_at, type_at}
use Rattle.region_forms.specs.Lives.{is_built, can_travel}
use Rattle.region_forms.specs.Effect.{terminates, raises, only_where, rethrown, flies, newest_of}
use Rattle.linear_forms.specs.Linear.{plain}
use Rattle.linear_forms.specs.Search.{found_above}
use Rattle.linear_forms.specs.Stub.{terminating}
use Rattle.linear_forms.specs.Activation.{State as LinearState, goes_to}
use Rattle.linear_forms.specs.Operation.{performed}
use Rattle.linear_forms.specs.Unwinding.{raise}
use Rattle.linear_forms.specs.UnitRun.{code_of}
use Rattle.machine_forms.specs.Registers.{sp}
use Rattle.machine_forms.specs.RuntimeCall.{runtime_call}
use Rattle.machine_forms.specs.LinearCode.{linear_code}
use Rattle.machine_forms.specs.Routine.{op_word}
use Rattle.machine_pieces.specs.Standing.{Ground, PiecesAt}
use Rattle.machine_pieces.specs.Turning.{Turns}
use Rattle.machine_pieces.specs.Laws.{CallsAreTurns}
use Rattle.machine_pieces.proofs.Going.{goes_none}
use Rattle.machine_pieces.proofs.Turning.{turns_then}
use Rattle.machine_stubs.specs.Calls.{asked, CallsAreMade}
use Rattle.table_verdicts.specs.Types.{thrown_as}
use Rattle.image_tables.specs.Functions.{records_end}
use Rattle.raise_simulation.specs.Raises.{RaisesAgree}
use Rattle.machine_simulation.specs.Plan.{Plan, shape, routine, first_word, setting}
use Rattle.machine_simulation.specs.Exceptions.{Addresses, LinearExceptions, KeptExceptions, addresses_of, exceptions_in, kept_by, destroyed, live_in, HeaderIs, HasHeader, AreCaught, ExceptionsMatch}
use Rattle.machine_simulation.specs.Matches.{RuntimeMatches}
use Rattle.machine_simulation.specs.Operations.{Matched}
use Rattle.machine_simulation.specs.Steps.{StepAt}
use Rattle.machine_simulation.proofs.Words.{operation_at}
use Rattle.machine_simulation.proofs.Matching.{Stands, stands_by}
use Rattle.machine_simulation.proofs.Quiet.{step_is, plain_is}
use Rattle.machine_exceptions.specs.Enters.{IsThrown}
use Rattle.machine_exceptions.proofs.Ecalls.{ecall_reached}
use Rattle.machine_exceptions.proofs.Freed.{slots_alike}
use Rattle.machine_exceptions.proofs.Finding.{live_header}
use Rattle.machine_exceptions.proofs.Headers.{slot_below}
use Rattle.machine_raises.specs.Stacks.{IsRunning}
use Rattle.machine_raises.specs.Pads.{PadsArePlain, FiltersAreInts}
use Rattle.machine_raises.specs.Targets.{target_end}
use Rattle.machine_raises.specs.Throws.{HasAim, RaisedTo, Raised}
use Rattle.machine_raises.specs.Resumes.{TypeIsThere}
use Rattle.machine_raises.specs.Rethrows.{RethrowsRun}
use Rattle.machine_raises.proofs.AtCalls.{AtCall, call_at, when_asked, then_called}
use Rattle.machine_raises.proofs.Entered.{EntersPad, Arrived, pad_entered_runs, compiled_lives}
use Rattle.machine_raises.proofs.Passing.{begins_terminating}
use Rattle.machine_raises.proofs.Targeted.{targeted}
use Rattle.machine_raises.proofs.Onward.{type_base, thrown_known}
use Rattle.machine_raises.proofs.Again.{aimed_match, again_match}
use Rattle.machine_raises.proofs.Raised.{raise_lands}

pub rethrow_is : (image : Image) (wish : ℕ) (t : abi.World) → call_effect 8 image wish t ≡ rethrow_effect image t
unfolding call_effect numbered
rethrow_is image wish t = refl

-- ---- the step
-- there is a newest handled exception, which is live and built and does not travel, and it is raised
pub record RethrowStep (p : Plan) (st next : LinearState) : Type 0 where
  pub entry : Entry
  pub others : List Entry
  pub caught : st.world.caught ≡ entry ∷ others
  pub still : entry.again ≡ false
  pub live : live_in st.world.live entry.number ≡ Some (exception_at st.world entry.number)
  pub thrown : IsThrown (exception_at st.world entry.number)
  pub raises : raise (code_of p.unit) entry.number st.top st.frames st.world ≡ goes_to next

built_live : (lives : List Live) (e : ℕ) → is_built (exception_in lives e) ≡ true → (live_in lives e ≡ Some (exception_in lives e)) × IsThrown (exception_in lives e)
built_live [] e h = absurd (cc h)
built_live (y ∷ lives) e h = by (y.number == e) (built_live lives e) h
  where
    built : (z : Exception) → is_built z ≡ true → (Some z ≡ Some z) × IsThrown z
    built building h = absurd (cc h)
    built (native t d kept) h = (refl, tt)
    built (foreign k t) h = (refl, tt)

    by : (b : Bool) → (is_built (exception_in lives e) ≡ true → (live_in lives e ≡ Some (exception_in lives e)) × IsThrown (exception_in lives e)) → is_built (if b then y.exception else exception_in lives e) ≡ true →
        ((if b then Some y.exception else live_in lives e) ≡ Some (if b then y.exception else exception_in lives e)) × IsThrown (if b then y.exception else exception_in lives e)
    by true rest h = built y.exception h
    by false rest h = rest h

-- what comes of the operation
pub rethrows_from : (p : Plan) (st next : LinearState) → (next.top.function ≡ terminating → ⊥) → performed (code_of p.unit) (rethrown st.world.caught st.world) st.top st.frames st.world ≡ goes_to next → RethrowStep p st next
rethrows_from p st next runs step = by st.world.caught refl step
  where
    dead : performed (code_of p.unit) (terminates st.world.installed.terminate_handler st.world) st.top st.frames st.world ≡ goes_to next → ⊥
    dead g = runs (begins_terminating st.world.installed.terminate_handler (st.top ∷ st.frames) st.world next g)

    by : (xs : List Entry) → st.world.caught ≡ xs → performed (code_of p.unit) (rethrown xs st.world) st.top st.frames st.world ≡ goes_to next → RethrowStep p st next
    by [] is g = absurd (dead g)
    by (e ∷ es) is g = again e.again refl g
      where
        travels : (b : Bool) → can_travel st.world e.number ≡ b → e.again ≡ false → performed (code_of p.unit) (only_where b (raises e.number st.world)) st.top st.frames st.world ≡ goes_to next → RethrowStep p st next
        travels true can stays g =
            let there = built_live st.world.live e.number can in
            record { entry = e; others = es; caught = is; still = stays; live = there.0; thrown = there.1; raises = g }
        travels false can stays g = absurd (cc g)

        again : (b : Bool) → e.again ≡ b → performed (code_of p.unit) (if b then terminates st.world.installed.terminate_handler st.world else only_where (can_travel st.world e.number) (raises e.number st.world)) st.top st.frames st.world ≡ goes_to next →
            RethrowStep p st next
        again true is_on g = absurd (dead g)
        again false stays g = travels (can_travel st.world e.number) refl stays g

pub rethrow_step : (p : Plan) (n : ℕ) (st next : LinearState) → StepAt p st next n (plain rethrow) → (next.top.function ≡ terminating → ⊥) → RethrowStep p st next
rethrow_step p n st next at runs = rethrows_from p st next runs (sym (plain_is p n st rethrow at.runs) ∙ sym (step_is p n st (plain rethrow) at.runs at.there) ∙ at.step)

-- ---- the newest one in the runtime
pub record NewestKept (w : KeptExceptions) (e : Entry) : Type 0 where
  pub slot : ℕ
  pub has : HasHeader w.exceptions.live e.number slot
  pub thrown : is_thrown has.header.kind ≡ true
  pub more : Caught
  pub caught : w.exceptions.caught ≡ (slot, pos (suc e.more)) ∷ more

pub newest_kept : (t : Addresses) (gone : List ℕ) (v : LinearExceptions) (w : KeptExceptions) (e : Entry) (es : List Entry) → ExceptionsMatch t gone v w → v.caught ≡ e ∷ es → e.again ≡ false → NewestKept w e
newest_kept t gone v w e es m is still = by w.exceptions.caught refl (subst (λ xs. AreCaught w.exceptions.live xs w.exceptions.caught) is m.caught)
  where
    by : (ys : Caught) → w.exceptions.caught ≡ ys → AreCaught w.exceptions.live (e ∷ es) ys → NewestKept w e
    by [] at are = absurd are
    by ((slot, n) ∷ more) at are =
        let count : n ≡ pos (suc e.more) = are.1 ∙ ap (λ b. if b then negsuc e.more else pos (suc e.more)) still in
        record { slot = slot; has = are.0.0; thrown = are.0.1; more = more; caught = at ∙ ap (λ k. (slot, k) ∷ more) count }

-- a header is thrown, so no destructor of its exception runs
pub whole_header : (t : Addresses) (b : Bool) (z : Exception) (h : Header) → HeaderIs t b z h → is_thrown h.kind ≡ true → HeaderIs t false z h
whole_header t false z h is thrown = is
whole_header t true z h is thrown = let both : true ≡ false = sym thrown ∙ ap is_thrown is in absurd (cc both)

-- the exceptions of the runtime behind the call
abbrev pub again_in : abi.World → (slot more : ℕ) → Caught → Exceptions
again_in y slot n more = record y.exceptions { caught = (slot, negsuc n) ∷ more; uncaught = y.exceptions.uncaught + 1 }

pub rethrows_so : (image : Image) (y : abi.World) (slot n : ℕ) (more : Caught) (h : Header) (thrown : Thrown) → y.exceptions.caught ≡ (slot, pos (suc n)) ∷ more → header_of y.exceptions.live slot ≡ Some h → thrown_of y.hart h.kind ≡ Some thrown →
    rethrow_effect image y ≡ runtime_raises image y.exceptions (record { slot = slot; header = h }) thrown (with_exceptions (again_in y slot n more) y)
rethrows_so image y slot n more h thrown caught there known =
    let e : Exceptions = again_in y slot n more in
    ap (λ ys. rethrows image y (rethrown_on ys y.exceptions)) caught ∙ ap (λ o. needs y (option_map (λ (z : Header). record { slot = slot; header = z }) o) (rethrows_object image y e)) there
    ∙ ap (λ f. needs y f (λ t. runtime_raises image y.exceptions (record { slot = slot; header = h }) t (with_exceptions e y))) known

pub again_runtime : (p : Plan) (st : LinearState) (next : LinearState) (y : abi.World) (step : RethrowStep p st next) (r : RuntimeMatches p st.frames st.world y) (k : NewestKept (kept_by y) step.entry) (cfa table : ℕ) →
    RuntimeMatches p st.frames (flies step.entry.number st.world)
    (with_exceptions (with_header k.slot (aimed cfa table k.has.header) (again_in y k.slot step.entry.more k.more)) (with_exceptions (again_in y k.slot step.entry.more k.more) y))
again_runtime p st next y step r k cfa table =
    let places : Addresses = addresses_of p in
    let gone : List ℕ = destroyed st.frames in
    let v : LinearExceptions = exceptions_in st.world in
    let again = again_match places gone v (kept_by y) step.entry step.others k.slot (pos (suc step.entry.more)) k.more r.exceptions step.caught k.caught in
    let flown : LinearExceptions = exceptions_in (flies step.entry.number st.world) in
    let w : KeptExceptions = record (kept_by y) { exceptions = again_in y k.slot step.entry.more k.more } in
    record {
      input = r.input;
      replies = r.replies;
      last_number = r.last_number;
      terminating = r.terminating;
      exceptions = aimed_match places gone flown w k.slot k.has.header (aimed cfa table k.has.header) again k.has.there refl refl refl;
      plan = r.plan;
    }

-- at the call
pub rethrow_call : CallsAreMade → RaisesAgree → (pads : ℕ) (R : Plan → abi.World → Type 0) (i : CleanImage) (p : Plan) (st next : LinearState) (w : abi.World) (behind : State) → EntersPad i st.top next pads R → (next.top.function ≡ terminating → ⊥) →
    AtCall p i 8 st.top st.frames st.world w behind → (step : RethrowStep p st next) → TypeIsThere p (type_at st.world step.entry.number) → PadsArePlain p → FiltersAreInts p →
    (next.world ≡ flies step.entry.number st.world) × RaisedTo p i st next w step.entry.number (x behind sp) (1 + pads) (R p)
rethrow_call made agree pads R i p st next w behind enters alive c step types plains ints =
    let image : Image = (program_of i).image in
    let v : World = st.world in
    let e : ℕ = step.entry.number in
    let t : Option ℕ = type_at v e in
    let y : abi.World = asked behind w in
    let r = when_asked p st.frames v behind w c.runtime in
    let newest = newest_kept (addresses_of p) (destroyed st.frames) (exceptions_in v) (kept_by y) step.entry step.others r.exceptions step.caught step.still in
    let slot : ℕ = newest.slot in
    let header : Header = newest.has.header in
    let live = live_header (addresses_of p) (destroyed st.frames) (exceptions_in v) (kept_by y) e (exception_at v e) r.exceptions step.live in
    let slots : live.slot ≡ slot = slots_alike (addresses_of p) (destroyed st.frames) (exceptions_in v) (kept_by y) e live.slot slot r.exceptions live.has newest.has in
    let headers : Some live.has.header ≡ Some header = sym live.has.there ∙ ap (header_of y.exceptions.live) slots ∙ newest.has.there in
    let one : live.has.header ≡ header = cc headers in
    let is : HeaderIs (addresses_of p) false (exception_at v e) header = whole_header (addresses_of p) (contains (destroyed st.frames) e) (exception_at v e) header (subst (HeaderIs (addresses_of p) (contains (destroyed st.frames) e) (exception_at v e)) one live.is) newest.thrown in
    let known = thrown_known p i behind (exception_at v e) header c.running step.thrown types is in
    let goal = targeted (code_of p.unit) e st.top st.frames v next step.raises alive in
    let flew : World = flies e v in
    let o : Object = record { slot = slot; header = header } in
    let up : abi.World = with_exceptions (again_in y slot step.entry.more newest.more) y in
    let lands = raise_lands p i st.top st.frames v behind c.running c.on agree pads R next enters alive flew up e goal.depth t y.exceptions o refl (type_base p t types) refl goal.found goal.unwound plains ints refl refl (omega arith)
    (λ cfa table. again_runtime p st next y step r newest cfa table)
    (omega (arith, r.exceptions.numbers e (exception_at v e) step.live), sym (live.object ∙ ap object_of slots), omega (arith, live.below, slots)) in
    let effect : (wish : ℕ) → call_effect 8 image wish y ≡ abi.goes lands.next = λ wish. rethrow_is image wish y ∙ rethrows_so image y slot step.entry.more newest.more header (thrown_as (records_end p.unit) p.unit.types t) newest.caught newest.has.there known ∙ lands.effect in
    let called = subst (Turns image 1 w (counted lands.next)) lands.shown (made.goes_on image 8 w lands.next behind c.calls c.asks effect lands.unwinding) in
    let new : Header = aimed (target_end p goal.depth (x behind sp) (st.top ∷ st.frames)) lands.table header in
    let after : abi.World = lands.ran.after in
    let kept_there : header_of after.exceptions.live slot ≡ Some new
    = ap (λ (z : Exceptions). header_of z.live slot) (lands.ran.holds.1.exceptions ∙ lands.exceptions) ∙ header_changed y.exceptions.live slot (Some new) (slot_below y.exceptions.live slot header newest.has.there) in (
      lands.world,
      record {
        depth = goal.depth;
        found = ap (λ (u : World). found_above (code_of p.unit) (type_at u e) (st.top ∷ st.frames)) lands.world ∙ goal.found;
        ran = record {
          turns = 1 + lands.ran.turns;
          few = omega (arith, lands.ran.few);
          some = λ some. omega arith;
          after = after;
          runs = turns_then image 1 lands.ran.turns w (counted lands.next) after [] [] called lands.ran.runs;
          holds = (
            lands.ran.holds.0,
            record { at = record { slot = slot; has = record { header = new; there = kept_there; number = newest.has.number }; aimed = refl }; table = lands.owned },
          );
        };
      },
    )

pub rethrow_runs : CallsAreTurns → CallsAreMade → RaisesAgree → (pads : ℕ) (R : Plan → abi.World → Type 0) (i : CleanImage) (p : Plan) (n : ℕ) (st next : LinearState) (w : abi.World) (back : ℕ) → EntersPad i st.top next pads R →
    (next.top.function ≡ terminating → ⊥) → Stands p n st w back → IsRunning p i w.hart → StepAt p st next n (plain rethrow) → (step : RethrowStep p st next) → TypeIsThere p (type_at st.world step.entry.number) → PadsArePlain p → FiltersAreInts p →
    (next.world ≡ flies step.entry.number st.world) × RaisedTo p i st next w step.entry.number (x w.hart sp) (length (linear_code (shape p n) (plain rethrow)) + pads) (R p)
rethrow_runs turns made agree pads R i p n st next w back enters alive h running at step types plains ints =
    let image : Image = (program_of i).image in
    let g : Ground = (setting p n).ground in
    let here : ℕ = first_word p n + op_word (routine p n) st.top.place in
    let e : ℕ = step.entry.number in
    let code : ℕ = length (linear_code (shape p n) (plain rethrow)) in
    let own = operation_at p w.hart.memory n st.top.place (plain rethrow) h.memory.unit h.memory.top.known at.there in
    let goes = goes_none g here 0 w.hart h.pc h.registers in
    let ec = ecall_reached turns image g here 0 0 8 w goes (omega arith) (subst (λ k. PiecesAt w.hart.memory g k (runtime_call 8)) (omega arith) own.code) in
    let c = call_at i image p n st w back g here 0 8 goes.after h running ec (record { operation = plain rethrow; there = at.there; word = 1; inside = omega arith; is = ec.pc ∙ omega arith }) in
    let raised = rethrow_call made agree pads R i p st next ec.at ec.behind enters alive c step types plains ints in
    let to = raised.1 in (
      raised.0,
      record {
        depth = to.depth;
        found = to.found;
        ran = then_called image g here 0 8 pads code w goes.after (λ u. R p u × HasAim p u e to.depth (x w.hart sp) (st.top ∷ st.frames)) ec (omega arith)
            (subst (λ a. Matched image (1 + pads) ec.at [] (λ u. R p u × HasAim p u e to.depth a (st.top ∷ st.frames))) ec.stack to.ran);
      },
    )

pub rethrows_run : CallsAreTurns → CallsAreMade → RaisesAgree → RethrowsRun
rethrows_run turns made agree i p n m st next w h running at types plains ints callee =
    let alive = compiled_lives next m callee in
    let step = rethrow_step p n st next at alive in
    let number : newest_of st.world.caught ≡ step.entry.number = ap newest_of step.caught in
    let all = rethrow_runs turns made agree 2 (Arrived next) i p n st next w h.back (pad_entered_runs i st.top next m callee) alive (stands_by p n st w h at.runs) running at step (subst (λ k. TypeIsThere p (type_at st.world k)) number types) plains ints in
    (ap (λ (u : World). u.items) all.0 ∙ sym (append-nil st.world.items), subst (λ k. Raised p i st next w k (length (linear_code (shape p n) (plain rethrow)))) (sym number) all.1)
