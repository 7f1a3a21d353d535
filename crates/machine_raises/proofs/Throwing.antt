-- An exception is thrown on both machines.
use Rattle.std.proofs.Common.{◌≡◌, ◌∙◌, refl, sym, ap, subst, arith, ℕ, ◌+◌, ◌^◌, ◌<◌, List, [], ◌∷◌, length, length-append, append-nil, map, Option, Some}
use Rattle.std.specs.Prelude.{not, ◌&&◌, ◌||◌, ◌==◌, Bool, true, false, if◌then◌else◌}
use Rattle.meaning_forms.specs.Class.{contains, some_of}
use Rattle.rv64_isa.specs.State.{State}
use Rattle.rv64_isa.specs.Step.{x}
use Rattle.elf_image.specs.Clean.{CleanImage}
use Rattle.caught_stack.specs.declared.header.Header.{Header}
use Rattle.caught_stack.specs.declared.header.HeaderKind.TheVariants.{Building}
use Rattle.caught_stack.specs.Live.{header_of}
use Rattle.caught_stack.specs.Exceptions.{Exceptions}
use Rattle.cxa_runtime.specs.Flying.{aimed}
use Rattle.machine_pieces.specs.Turning.{Turns}
use Rattle.caught_stack.proofs.Headers.{header_changed}
use Rattle.cxa_runtime.specs.declared.object.Object.{Object}
use Rattle.cxa_runtime.specs.Types.{type_records}
use Rattle.cxa_runtime.specs.Objects.{object_of, object_where, is_building}
use Rattle.cxa_runtime.specs.World as abi
use Rattle.cxa_runtime.specs.World.{argument, needs}
use Rattle.cxa_runtime.specs.Raising.{Image}
use Rattle.cxa_runtime.specs.Throw.{native_object, flying, throws, throw as throw_effect}
use Rattle.cxa_runtime.specs.Call.{call_effect, numbered}
use Rattle.cxa_runtime.specs.Run.{counted}
use Rattle.eh_run.specs.Program.{program_of}
use Rattle.region_forms.specs.Form.{throw}
use Rattle.region_forms.specs.World.{of_exception, World, Exception, building, native, foreign, Live, exception_in, exception_of, exception_in_slot, exception_type, type_at}
use Rattle.region_forms.specs.Lives.{is_built, is_being_built}
use Rattle.region_forms.specs.Effect.{raises, only_where, flies, kept}
use Rattle.linear_forms.specs.Search.{found_above}
use Rattle.linear_forms.specs.Linear.{plain}
use Rattle.linear_forms.specs.Stub.{terminating}
use Rattle.linear_forms.specs.Activation.{State as LinearState, goes_to}
use Rattle.linear_forms.specs.Operation.{performed}
use Rattle.linear_forms.specs.Unwinding.{raise}
use Rattle.linear_forms.specs.UnitRun.{code_of}
use Rattle.machine_forms.specs.Registers.{sp, a0, a1, a2}
use Rattle.machine_forms.specs.RuntimeCall.{runtime_call}
use Rattle.machine_forms.specs.OperationCode.{destructor_set}
use Rattle.machine_forms.specs.LinearCode.{linear_code}
use Rattle.machine_forms.specs.Routine.{op_word}
use Rattle.machine_pieces.specs.Standing.{Ground}
use Rattle.machine_pieces.specs.Laws.{CallsAreTurns}
use Rattle.machine_pieces.proofs.Turning.{turns_then}
use Rattle.machine_stubs.specs.Calls.{asked, CallsAreMade}
use Rattle.image_forms.specs.Placed.{record_at}
use Rattle.table_verdicts.specs.Types.{with_bases, ChainEnds}
use Rattle.image_tables.specs.Functions.{records_end}
use Rattle.image_tables.proofs.TypesRead.{types_are_read}
use Rattle.raise_simulation.specs.Raises.{RaisesAgree}
use Rattle.machine_simulation.specs.Plan.{Plan, shape, routine, first_word, setting}
use Rattle.machine_simulation.specs.Exceptions.{live_in, addresses_of, exceptions_in, kept_by, destroyed, record_address, IsFunction}
use Rattle.machine_simulation.specs.Operations.{Matched}
use Rattle.machine_simulation.specs.Steps.{StepAt}
use Rattle.machine_simulation.proofs.Words.{operation_at}
use Rattle.machine_simulation.proofs.Matching.{Stands, stands_by}
use Rattle.machine_simulation.proofs.Quiet.{step_is, plain_is}
use Rattle.machine_simulation.specs.Objects.{HoldsObject}
use Rattle.machine_exceptions.proofs.Ecalls.{ecall_reached}
use Rattle.machine_exceptions.proofs.Enters.{exception_is}
use Rattle.machine_exceptions.proofs.Finding.{live_header, object_found}
use Rattle.machine_exceptions.proofs.Headers.{slot_below}
use Rattle.machine_raises.specs.Stacks.{IsRunning}
use Rattle.machine_raises.specs.Pads.{PadsArePlain, FiltersAreInts}
use Rattle.machine_raises.specs.Targets.{target_end}
use Rattle.machine_raises.specs.Throws.{MayThrow, HasAim, RaisedTo, ThrowsRun}
use Rattle.machine_raises.proofs.AtCalls.{AtCall, call_at, when_asked, then_called}
use Rattle.machine_raises.proofs.Entered.{EntersPad, Arrived, pad_entered_runs, compiled_lives}
use Rattle.machine_raises.proofs.Replaced.{replaced_in}
use Rattle.machine_raises.proofs.Native.{counts_building, thrown_object, thrown_runtime}
use Rattle.machine_raises.proofs.ThrowWords.{throw_given}
use Rattle.machine_raises.proofs.Targeted.{targeted}
use Rattle.machine_raises.proofs.Raised.{raise_lands}

pub throw_is : (image : Image) (wish : ℕ) (t : abi.World) → call_effect 5 image wish t ≡ throw_effect image t
unfolding call_effect numbered
throw_is image wish t = refl

pub throws_as : (image : Image) (y : abi.World) (slot rec k : ℕ) (h : Header) (types : List ℕ) (out : abi.Outcome) → object_where is_building y.exceptions.live (argument y 10) ≡ Some (record { slot = slot; header = h }) → argument y 11 ≡ rec →
    type_records y.hart rec ≡ Some types → argument y 12 ≡ k → throws image y (native_object y (record { slot = slot; header = h }) rec k) types ≡ out → throw_effect image y ≡ out
throws_as image y slot rec k h types out found type read function effect =
    let o : Object = record { slot = slot; header = h } in
    ap (λ f. needs y f (λ b. needs y (type_records y.hart (argument y 11)) (λ records. throws image y (native_object y b (argument y 11) (argument y 12)) records))) found
    ∙ ap (λ a. needs y (type_records y.hart a) (λ records. throws image y (native_object y o a (argument y 12)) records)) type ∙ ap (λ f. needs y f (λ records. throws image y (native_object y o rec (argument y 12)) records)) read
    ∙ ap (λ a. throws image y (native_object y o rec a) types) function ∙ effect

-- ---- the step
-- an exception is thrown only while it is being built
pub record ThrowStep (p : Plan) (e t : ℕ) (d : Option ℕ) (st next : LinearState) : Type 0 where
  pub building : live_in st.world.live e ≡ Some building
  pub raises : raise (code_of p.unit) e st.top st.frames (kept e t d st.world) ≡ goes_to next

being_built : (lives : List Live) (e : ℕ) → (some_of (λ x. x.number == e) lives && not (is_built (exception_in lives e))) ≡ true → live_in lives e ≡ Some building
being_built [] e h = absurd (cc h)
being_built (y ∷ lives) e h = by (y.number == e) (being_built lives e) h
  where
    built : (x : Exception) → not (is_built x) ≡ true → Some x ≡ Some building
    built building h = refl
    built (native t d kept) h = absurd (cc h)
    built (foreign k t) h = absurd (cc h)

    by : (b : Bool) → ((some_of (λ x. x.number == e) lives && not (is_built (exception_in lives e))) ≡ true → live_in lives e ≡ Some building) →
        ((b || some_of (λ x. x.number == e) lives) && not (is_built (if b then y.exception else exception_in lives e))) ≡ true → (if b then Some y.exception else live_in lives e) ≡ Some building
    by true rest h = built y.exception h
    by false rest h = rest h

-- what comes of the operation
pub throws_from : (p : Plan) (e t : ℕ) (d : Option ℕ) (st next : LinearState) → performed (code_of p.unit) (only_where (is_being_built st.world e) (raises e (kept e t d st.world))) st.top st.frames st.world ≡ goes_to next → ThrowStep p e t d st next
throws_from p e t d st next g = by (is_being_built st.world e) refl g
  where
    by : (b : Bool) → is_being_built st.world e ≡ b → performed (code_of p.unit) (only_where b (raises e (kept e t d st.world))) st.top st.frames st.world ≡ goes_to next → ThrowStep p e t d st next
    by true is g = record { building = being_built st.world.live e is; raises = g }
    by false is g = absurd (cc g)

throw_step : (p : Plan) (n s e t : ℕ) (d : Option ℕ) (st next : LinearState) → StepAt p st next n (plain (throw s t d)) → HoldsObject p n st.top.frame s e → ThrowStep p e t d st next
throw_step p n s e t d st next at holds =
    let number : exception_in_slot st.top.frame s ≡ e = ap exception_of holds.is in
    throws_from p e t d st next
    (ap (λ k. performed (code_of p.unit) (only_where (is_being_built st.world k) (raises k (kept k t d st.world))) st.top st.frames st.world) (sym number) ∙ sym (plain_is p n st (throw s t d) at.runs)
    ∙ sym (step_is p n st (plain (throw s t d)) at.runs at.there) ∙ at.step)

-- ---- the words, and the call
pub throw_words : (p : Plan) (n s t : ℕ) (d : Option ℕ) → length (linear_code (shape p n) (plain (throw s t d))) ≡ 3 + length (destructor_set a2 d) + 2
throw_words p n s t d = omega (arith, length-append (destructor_set a2 d) (runtime_call 5))

-- at the call, with the object's address, that of the type's record, and that of the destructor
pub throw_call : CallsAreMade → RaisesAgree → (pads : ℕ) (R : Plan → abi.World → Type 0) (i : CleanImage) (p : Plan) (e t function : ℕ) (d : Option ℕ) (st next : LinearState) (w : abi.World) (behind : State) → EntersPad i st.top next pads R →
    (next.top.function ≡ terminating → ⊥) → AtCall p i 5 st.top st.frames st.world w behind → x behind a0 ≡ p.at (of_exception e) → x behind a1 ≡ record_at (records_end p.unit) t → x behind a2 ≡ function → IsFunction (addresses_of p) d function →
    t < length p.unit.types → ChainEnds p.unit.types t → ThrowStep p e t d st next → PadsArePlain p → FiltersAreInts p →
    (next.world ≡ flies e (kept e t d st.world)) × RaisedTo p i st next w e (x behind sp) (1 + pads) (R p)
throw_call made agree pads R i p e t function d st next w behind enters alive c object type destructor is_function known bases stepped plains ints =
    let image : Image = (program_of i).image in
    let v : World = st.world in
    let y : abi.World = asked behind w in
    let r = when_asked p st.frames v behind w c.runtime in
    let live = live_header (addresses_of p) (destroyed st.frames) (exceptions_in v) (kept_by y) e building r.exceptions stepped.building in
    let slot : ℕ = live.slot in
    let header : Header = live.has.header in
    let kind : header.kind ≡ Building = counts_building (addresses_of p) (contains (destroyed st.frames) e) header live.is in
    let rec : ℕ = record_address p.base t in
    let types = map (record_at (records_end p.unit)) (with_bases p.unit.types t) in
    let o : Object = thrown_object p y slot t function header in
    let is0 : argument y 10 ≡ object_of slot = object ∙ live.object in
    let is1 : argument y 11 ≡ rec = type ∙ sym (ap (λ b. record_at b t) c.running.base) in
    let found : object_where is_building y.exceptions.live (argument y 10) ≡ Some (record { slot = slot; header = header })
    = ap (object_where is_building w.exceptions.live) is0 ∙ object_found is_building w.exceptions.live slot header live.below live.has.there (ap is_building kind) in
    let read : type_records y.hart rec ≡ Some types = ap (λ b. type_records behind (record_at b t)) c.running.base ∙ types_are_read p.unit i behind t c.running.image c.running.run known bases in
    let goal = targeted (code_of p.unit) e st.top st.frames (kept e t d v) next stepped.raises alive in
    let flew : World = flies e (kept e t d v) in
    let exception : Exception = native t d v.installed in
    let now = replaced_in v.live e exception building stepped.building in
    let type_is : type_at flew e ≡ Some t = ap exception_type (exception_is flew.live e exception now) in
    let lands = raise_lands p i st.top st.frames v behind c.running c.on agree pads R next enters alive flew (flying o y) e goal.depth (Some t) y.exceptions o refl known type_is
    (ap (λ k. found_above (code_of p.unit) k (st.top ∷ st.frames)) (sym type_is) ∙ goal.found) goal.unwound plains ints refl refl (omega arith)
    (λ cfa table. thrown_runtime p st.frames v y e slot t function d cfa table r live.has kind stepped.building is_function)
    (omega (arith, r.exceptions.numbers e building stepped.building), sym live.object, omega (arith, live.below)) in
    let effect : (wish : ℕ) → call_effect 5 image wish y ≡ abi.goes lands.next = λ wish. throw_is image wish y ∙ throws_as image y slot rec function header types (abi.goes lands.next) found is1 read destructor lands.effect in
    let called = subst (Turns image 1 w (counted lands.next)) lands.shown (made.goes_on image 5 w lands.next behind c.calls c.asks effect lands.unwinding) in
    let flown : abi.World = flying o y in
    let new : Header = aimed (target_end p goal.depth (x behind sp) (st.top ∷ st.frames)) lands.table o.header in
    let inside = slot_below w.exceptions.live slot header live.has.there in
    let set : header_of flown.exceptions.live slot ≡ Some o.header = header_changed w.exceptions.live slot (Some o.header) inside in
    let after : abi.World = lands.ran.after in
    let kept_there : header_of after.exceptions.live slot ≡ Some new
    = ap (λ (z : Exceptions). header_of z.live slot) (lands.ran.holds.1.exceptions ∙ lands.exceptions) ∙ header_changed flown.exceptions.live slot (Some new) (slot_below flown.exceptions.live slot o.header set) in (
      lands.world,
      record {
        depth = goal.depth;
        found = ap (λ (u : World). found_above (code_of p.unit) (type_at u e) (st.top ∷ st.frames)) lands.world ∙ goal.found;
        ran = record {
          turns = 1 + lands.ran.turns;
          few = omega (arith, lands.ran.few);
          some = λ some. omega arith;
          after = after;
          runs = turns_then image 1 lands.ran.turns w (counted lands.next) after [] [] called lands.ran.runs;
          holds = (
            lands.ran.holds.0,
            record { at = record { slot = slot; has = record { header = new; there = kept_there; number = live.has.number }; aimed = refl }; table = lands.owned },
          );
        };
      },
    )

pub throw_runs : CallsAreTurns → CallsAreMade → RaisesAgree → (pads : ℕ) (R : Plan → abi.World → Type 0) (i : CleanImage) (p : Plan) (n s e t : ℕ) (d : Option ℕ) (st next : LinearState) (w : abi.World) (back : ℕ) → EntersPad i st.top next pads R →
    (next.top.function ≡ terminating → ⊥) → Stands p n st w back → IsRunning p i w.hart → StepAt p st next n (plain (throw s t d)) → MayThrow p n st.top.frame s e t d → PadsArePlain p → FiltersAreInts p →
    (next.world ≡ flies e (kept e t d st.world)) × RaisedTo p i st next w e (x w.hart sp) (length (linear_code (shape p n) (plain (throw s t d))) + pads) (R p)
throw_runs turns made agree pads R i p n s e t d st next w back enters alive h running at may plains ints =
    let image : Image = (program_of i).image in
    let g : Ground = (setting p n).ground in
    let here : ℕ = first_word p n + op_word (routine p n) st.top.place in
    let words : ℕ = 3 + length (destructor_set a2 d) in
    let code : ℕ = length (linear_code (shape p n) (plain (throw s t d))) in
    let all = throw_words p n s t d in
    let low : record_at (records_end p.unit) t < 2 ^ 64 = omega (arith, running.base, h.memory.unit.stubs.start.0.word.below) in
    let own = operation_at p w.hart.memory n st.top.place (plain (throw s t d)) h.memory.unit h.memory.top.known at.there in
    let given = throw_given p i n here s e t d st w back h running may.holds may.type may.destructor own.code h.pc low in
    let ec = ecall_reached turns image g here words 0 5 w given.goes (omega arith) given.call in
    let c = call_at i image p n st w back g here words 5 given.goes.after h running ec (record { operation = plain (throw s t d); there = at.there; word = words + 1; inside = omega (arith, all); is = ec.pc ∙ omega arith }) in
    let raised = throw_call made agree pads R i p e t given.function d st next ec.at ec.behind enters alive c (ec.kept a0 (λ b. absurd (omega (arith, b))) ∙ given.object) (ec.kept a1 (λ b. absurd (omega (arith, b))) ∙ given.type)
    (ec.kept a2 (λ b. absurd (omega (arith, b))) ∙ given.destructor) given.is may.type may.bases (throw_step p n s e t d st next at may.holds) plains ints in
    let to = raised.1 in (
      raised.0,
      record {
        depth = to.depth;
        found = to.found;
        ran = then_called image g here words 5 pads code w given.goes.after (λ u. R p u × HasAim p u e to.depth (x w.hart sp) (st.top ∷ st.frames)) ec (sym all)
            (subst (λ a. Matched image (1 + pads) ec.at [] (λ u. R p u × HasAim p u e to.depth a (st.top ∷ st.frames))) ec.stack to.ran);
      },
    )

pub throws_run : CallsAreTurns → CallsAreMade → RaisesAgree → ThrowsRun
throws_run turns made agree i p n m s e t d st next w h running at may plains ints callee =
    let all = throw_runs turns made agree 2 (Arrived next) i p n s e t d st next w h.back (pad_entered_runs i st.top next m callee) (compiled_lives next m callee) (stands_by p n st w h at.runs) running at may plains ints in
    (ap (λ (u : World). u.items) all.0 ∙ sym (append-nil st.world.items), all.1)
