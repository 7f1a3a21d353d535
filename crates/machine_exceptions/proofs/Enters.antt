-- Entering an exception is matched.
use Rattle.std.proofs.Common.{◌≡◌, ◌∙◌, refl, sym, ap, subst, arith, ℕ, ◌+◌, ◌-◌, ◌&&◌, ◌==◌, Bool, true, false, List, [], ◌∷◌, length, Some}
use Rattle.std.specs.Prelude.{nat_lt, ◌||◌, if◌then◌else◌}
use Rattle.meaning_forms.specs.Class.{some_of}
use Rattle.std.proofs.lemmas.Bool.Decides.{nat_tests}
use Rattle.run_items.specs.declared.item.Item.TheVariants.{Enter}
use Rattle.rv64_isa.specs.State.{State}
use Rattle.rv64_isa.specs.Step.{x}
use Rattle.caught_stack.specs.declared.header.Header.{Header}
use Rattle.caught_stack.specs.Begin.{begun}
use Rattle.caught_stack.specs.Caught.{handler_count, is_small, is_in_front as is_front_slot}
use Rattle.cxa_runtime.specs.declared.object.Object.{Object}
use Rattle.cxa_runtime.specs.Objects.{object_of, object_where, is_thrown, is_foreign as is_foreign_kind}
use Rattle.cxa_runtime.specs.MayBegin.{may_begin, holds_other as holds_other_slot}
use Rattle.cxa_runtime.specs.World as abi
use Rattle.cxa_runtime.specs.World.{argument, gives, needs, refused}
use Rattle.cxa_runtime.specs.Raising.{Image}
use Rattle.cxa_runtime.specs.Catch.{begin, entered as runtime_entered, is_crowded, begins_catch}
use Rattle.cxa_runtime.specs.Terminate.{terminates_now}
use Rattle.cxa_runtime.specs.Call.{call_effect, numbered}
use Rattle.cxa_runtime.specs.Run.{counted}
use Rattle.region_forms.specs.Form.{enter}
use Rattle.region_forms.specs.Caught.{entered_on, holds_other}
use Rattle.region_forms.specs.World.{of_exception, World, Exception, Live, building, native, foreign, exception_in, exception_at, exception_of, exception_in_slot}
use Rattle.region_forms.specs.Effect.{goes, terminates, is_foreign, entered, enters, only_where, Effect}
use Rattle.linear_forms.specs.Linear.{plain}
use Rattle.linear_forms.specs.Activation.{Code, Activation, State as LinearState, goes_to}
use Rattle.linear_forms.specs.Operation.{performed}
use Rattle.linear_forms.specs.UnitRun.{code_of}
use Rattle.machine_forms.specs.Registers.{sp, a0}
use Rattle.machine_forms.specs.LinearCode.{linear_code}
use Rattle.machine_forms.specs.Routine.{op_word}
use Rattle.machine_pieces.specs.Standing.{Ground}
use Rattle.machine_pieces.specs.Turning.{Turns}
use Rattle.machine_pieces.specs.Laws.{CallsAreTurns}
use Rattle.machine_pieces.proofs.Registers.{set_length, read_other}
use Rattle.machine_pieces.specs.Keeping.{saved_of}
use Rattle.machine_stubs.specs.Calls.{asked, CallsAreMade}
use Rattle.machine_simulation.specs.Plan.{Plan, shape, routine, first_word, setting}
use Rattle.machine_simulation.specs.Exceptions.{Addresses, LinearExceptions, KeptExceptions, addresses_of, exceptions_in, kept_by, destroyed, live_in, HasHeader, HeaderIs, ExceptionsMatch}
use Rattle.machine_simulation.specs.Matches.{MemoryMatches, Matches}
use Rattle.machine_simulation.specs.Operations.{Matched}
use Rattle.machine_simulation.specs.Steps.{StepAt}
use Rattle.machine_simulation.proofs.Words.{operation_at}
use Rattle.machine_simulation.proofs.Matching.{Stands, stands_by, runtime_stays, kept_at}
use Rattle.machine_simulation.proofs.Quiet.{moved, step_is, plain_is}
use Rattle.machine_simulation.proofs.Holding.{same_number}
use Rattle.machine_simulation.proofs.Lines.{matches_alike, registers_alike}
use Rattle.machine_simulation.specs.Objects.{HoldsObject}
use Rattle.machine_exceptions.specs.Enters.{IsThrown, is_crowded as is_crowded_in, EntersRun}
use Rattle.machine_exceptions.proofs.Travels.{CanEnter, can_enter}
use Rattle.machine_exceptions.proofs.Finding.{live_header, object_found}
use Rattle.machine_exceptions.proofs.Freed.{slots_alike}
use Rattle.machine_exceptions.proofs.CaughtLists.{others_alike, front_alike, counts_small, entered_alike, begun_live, begun_once, begun_counted}
use Rattle.machine_exceptions.proofs.Ecalls.{ecall_reached, object_loaded, call_made, given_in_first}
use Rattle.machine_simulation.proofs.Stored.{next_where}
use Rattle.region_forms.specs.Lives.{may_enter}

begin_is : (image : Image) (wish : ℕ) (t : abi.World) → call_effect 6 image wish t ≡ begin image.places t
unfolding call_effect numbered
begin_is image wish t = refl

-- ---- headers of thrown exceptions

pub thrown_kind : (t : Addresses) (x : Exception) (h : Header) → IsThrown x → HeaderIs t false x h → is_thrown h.kind ≡ true
thrown_kind t building h thrown is = absurd thrown
thrown_kind t (native type d kept) h thrown is = ap is_thrown is.0.1
thrown_kind t (foreign k token) h thrown is = ap is_thrown is

pub foreign_kind : (t : Addresses) (x : Exception) (h : Header) → IsThrown x → HeaderIs t false x h → is_foreign_kind h.kind ≡ is_foreign x
foreign_kind t building h thrown is = absurd thrown
foreign_kind t (native type d kept) h thrown is = ap is_foreign_kind is.0.1
foreign_kind t (foreign k token) h thrown is = ap is_foreign_kind is

pub exception_is : (lives : List Live) (e : ℕ) (x : Exception) → live_in lives e ≡ Some x → exception_in lives e ≡ x
exception_is [] e x h = absurd (cc h)
exception_is (y ∷ lives) e x h = by (y.number == e) (exception_is lives e x) h
  where
    by : (b : Bool) → (live_in lives e ≡ Some x → exception_in lives e ≡ x) → (if b then Some y.exception else live_in lives e) ≡ Some x → (if b then y.exception else exception_in lives e) ≡ x
    by true rest h = cc h
    by false rest h = rest h

-- an exception that is found is live
pub live_is : (lives : List Live) (e : ℕ) (x : Exception) → live_in lives e ≡ Some x → some_of (λ y. y.number == e) lives ≡ true
live_is [] e x h = absurd (cc h)
live_is (y ∷ lives) e x h = by (y.number == e) (live_is lives e x) h
  where
    by : (b : Bool) → (live_in lives e ≡ Some x → some_of (λ y. y.number == e) lives ≡ true) → (if b then Some y.exception else live_in lives e) ≡ Some x → (b || some_of (λ y. y.number == e) lives) ≡ true
    by true rest h = refl
    by false rest h = rest h

-- ---- an exception is entered on both machines

pub entered_match : (t : Addresses) (gone : List ℕ) (v : LinearExceptions) (w : KeptExceptions) (e slot : ℕ) (has : HasHeader w.exceptions.live e slot) → ExceptionsMatch t gone v w → is_thrown has.header.kind ≡ true →
    is_front_slot w.exceptions.caught slot ≡ true →
    ExceptionsMatch t gone (record v { caught = entered_on e v.caught; uncaught = v.uncaught - 1 }) (record w { exceptions = begun slot w.exceptions })
entered_match t gone v w e slot has m thrown front =
    let unique : (s : ℕ) → HasHeader w.exceptions.live e s → slot ≡ s = λ s h. slots_alike t gone v w e slot s m has h in
    record {
      sound = record {
        slots = m.sound.slots;
        live = begun_live w.exceptions.live e slot has unique w.exceptions.caught m.sound.live;
        once = begun_once w.exceptions.live e slot has unique w.exceptions.caught front m.sound.once;
        counted = begun_counted w.exceptions.live e slot has unique w.exceptions.caught m.sound.counted;
      };
      headers = m.headers;
      live = m.live;
      count = m.count;
      once = m.once;
      numbers = m.numbers;
      caught = entered_alike w.exceptions.live e slot has unique thrown v.caught w.exceptions.caught m.caught;
      uncaught = ap (λ n. n - 1) m.uncaught;
      terminate_handler = m.terminate_handler;
      unexpected_handler = m.unexpected_handler;
      distinct = m.distinct;
      left = m.left;
    }

-- ---- the step

enter_step : (p : Plan) (n s e : ℕ) (st next : LinearState) → StepAt p st next n (plain (enter s)) → HoldsObject p n st.top.frame s e → is_crowded_in st.world e ≡ false →
    moved st (st.top.place + 1) st.top.frame (entered e st.world) ≡ next
enter_step p n s e st next at holds alone =
    let number : exception_in_slot st.top.frame s ≡ e = ap exception_of holds.is in
    let effect : Bool → Effect = (λ b. if b then terminates st.world.installed.terminate_handler st.world else goes st.top.frame (entered e st.world)) in
    let got : performed (code_of p.unit) (effect (is_foreign (exception_at st.world e) && holds_other e st.world.caught)) st.top st.frames st.world ≡ goes_to next
    = next_where (code_of p.unit) (may_enter st.world e) (effect (is_foreign (exception_at st.world e) && holds_other e st.world.caught)) st.top st.frames st.world next
    (ap (λ k. performed (code_of p.unit) (enters k st.top.frame st.world) st.top st.frames st.world) (sym number)
    ∙ sym (plain_is p n st (enter s) at.runs) ∙ sym (step_is p n st (plain (enter s)) at.runs at.there) ∙ at.step) in
    let whole : goes_to (moved st (st.top.place + 1) st.top.frame (entered e st.world)) ≡ goes_to next
    = ap (λ b. performed (code_of p.unit) (effect b) st.top st.frames st.world) (sym alone) ∙ got in
    cc whole

-- it may be entered
enter_may : (p : Plan) (n s e : ℕ) (st next : LinearState) → StepAt p st next n (plain (enter s)) → HoldsObject p n st.top.frame s e → may_enter st.world e ≡ true
enter_may p n s e st next at holds =
    let number : exception_in_slot st.top.frame s ≡ e = ap exception_of holds.is in
    let effect : Bool → Effect = (λ b. if b then terminates st.world.installed.terminate_handler st.world else goes st.top.frame (entered e st.world)) in
    was_there (code_of p.unit) (may_enter st.world e) (effect (is_crowded_in st.world e)) st.top st.frames st.world next (ap (λ k. performed (code_of p.unit) (enters k st.top.frame st.world) st.top st.frames st.world) (sym number)
    ∙ sym (plain_is p n st (enter s) at.runs) ∙ sym (step_is p n st (plain (enter s)) at.runs at.there) ∙ at.step)
  where
    was_there : (code : Code) (b : Bool) (x : Effect) (a : Activation) (fs : List Activation) (v : World) (to : LinearState) → performed code (only_where b x) a fs v ≡ goes_to to → b ≡ true
    was_there code true x a fs v to e = refl
    was_there code false x a fs v to e = absurd (cc e)

-- what the runtime does with it
begins_is : (image : Image) (t : abi.World) (slot : ℕ) (h : Header) → object_where is_thrown t.exceptions.live (argument t 10) ≡ Some (record { slot = slot; header = h }) → may_begin t.exceptions slot ≡ true →
    (is_foreign_kind h.kind && holds_other_slot t.exceptions.caught slot) ≡ false →
    begin image.places t ≡ abi.goes (gives 10 (object_of slot) (runtime_entered (record { slot = slot; header = h }) t))
begins_is image t slot h found may alone =
    let o : Object = record { slot = slot; header = h } in
    let end : abi.World = gives 10 (object_of slot) (runtime_entered o t) in
    ap (λ k. needs t k (begins_catch image.places t)) found ∙ ap (λ b. if b then (if is_crowded t o then terminates_now image.places t else abi.goes end) else refused t) may
    ∙ ap (λ b. if b then terminates_now image.places t else abi.goes end) alone

all_three : (a b c : Bool) → a ≡ true → b ≡ true → c ≡ true → (a && b && c) ≡ true
all_three true true true x y z = refl
all_three true true false x y z = absurd (cc z)
all_three true false c x y z = absurd (cc y)
all_three false b c x y z = absurd (cc x)

-- the exception's object is found, and the runtime enters it
record CanBegin (p : Plan) (st : LinearState) (e : ℕ) (at : abi.World) : Type 0 where
  slot : ℕ
  has : HasHeader at.exceptions.live e slot
  object : p.at (of_exception e) ≡ object_of slot
  thrown : is_thrown has.header.kind ≡ true
  found : object_where is_thrown at.exceptions.live (p.at (of_exception e)) ≡ Some (record { slot = slot; header = has.header })
  front : is_front_slot at.exceptions.caught slot ≡ true
  may : may_begin at.exceptions slot ≡ true
  crowded : (is_foreign_kind has.header.kind && holds_other_slot at.exceptions.caught slot) ≡ is_crowded_in st.world e

can_begin : (p : Plan) (st : LinearState) (e : ℕ) (at : abi.World) → ExceptionsMatch (addresses_of p) (destroyed st.frames) (exceptions_in st.world) (kept_by at) → CanEnter st.frames st.world e → CanBegin p st e at
can_begin p st e at m ok =
    let v : World = st.world in
    let places : Addresses = addresses_of p in
    let gone : List ℕ = destroyed st.frames in
    let k : KeptExceptions = kept_by at in
    let live = live_header places gone (exceptions_in v) k e ok.exception m ok.live in
    let slot : ℕ = live.slot in
    let header : Header = live.has.header in
    let is : HeaderIs places false ok.exception header = subst (λ b. HeaderIs places b ok.exception header) ok.whole live.is in
    let thrown = thrown_kind places ok.exception header ok.thrown is in
    let unique : (a : ℕ) → HasHeader at.exceptions.live e a → slot ≡ a = λ a b. slots_alike places gone (exceptions_in v) k e slot a m live.has b in
    let front = front_alike at.exceptions.live e slot live.has unique v.caught at.exceptions.caught m.caught ok.front in
    let some : nat_lt 0 at.exceptions.uncaught ≡ true = grind (arith, nat_tests, m.uncaught, ok.travels) in
    record {
      slot = slot;
      has = live.has;
      object = live.object;
      thrown = thrown;
      found = ap (object_where is_thrown at.exceptions.live) live.object ∙ object_found is_thrown at.exceptions.live slot header live.below live.has.there thrown;
      front = front;
      may = all_three (nat_lt 0 at.exceptions.uncaught) (is_small (handler_count at.exceptions.caught slot)) (is_front_slot at.exceptions.caught slot) some
          (counts_small at.exceptions.live e slot live.has unique v.caught at.exceptions.caught m.caught ok.few) front;
      crowded = ap (λ b. b && holds_other_slot at.exceptions.caught slot) (foreign_kind places ok.exception header ok.thrown is ∙ ap is_foreign (sym (exception_is v.live e ok.exception ok.live)))
          ∙ ap (λ b. is_foreign (exception_at v e) && b) (sym (others_alike at.exceptions.live e slot live.has unique v.caught at.exceptions.caught m.caught));
    }

-- or it terminates, where the exception is foreign and another is handled
pub crowded_call : (image : Image) (p : Plan) (st : LinearState) (e : ℕ) (behind : State) (at : abi.World) → ExceptionsMatch (addresses_of p) (destroyed st.frames) (exceptions_in st.world) (kept_by at) → CanEnter st.frames st.world e →
    is_crowded_in st.world e ≡ true → argument (asked behind at) 10 ≡ p.at (of_exception e) → (wish : ℕ) → call_effect 6 image wish (asked behind at) ≡ terminates_now image.places (asked behind at)
crowded_call image p st e behind at m ok crowd given wish =
    let t : abi.World = asked behind at in
    let c = can_begin p st e at m ok in
    let o : Object = record { slot = c.slot; header = c.has.header } in
    let end : abi.World = gives 10 (object_of c.slot) (runtime_entered o t) in
    begin_is image wish t ∙ ap (λ k. needs t k (begins_catch image.places t)) (ap (object_where is_thrown at.exceptions.live) given ∙ c.found)
    ∙ ap (λ b. if b then (if is_crowded t o then terminates_now image.places t else abi.goes end) else refused t) c.may
    ∙ ap (λ b. if b then terminates_now image.places t else abi.goes end) (c.crowded ∙ crowd)

enter_runs : CallsAreTurns → CallsAreMade → (image : Image) (p : Plan) (n s e : ℕ) (st next : LinearState) (w : abi.World) (back : ℕ) → Stands p n st w back → StepAt p st next n (plain (enter s)) →
    HoldsObject p n st.top.frame s e → CanEnter st.frames st.world e → is_crowded_in st.world e ≡ false →
    Matched image (length (linear_code (shape p n) (plain (enter s)))) w (Enter e ∷ []) (λ v. Matches p (moved st (st.top.place + 1) st.top.frame (entered e st.world)) v)
enter_runs turns made image p n s e st next w back h at holds ok alone_here =
    let g : Ground = (setting p n).ground in
    let here : ℕ = first_word p n + op_word (routine p n) st.top.place in
    let v : World = st.world in
    let own = operation_at p w.hart.memory n st.top.place (plain (enter s)) h.memory.unit h.memory.top.known at.there in
    let first = object_loaded p n st w back here s e h holds own.code.0 h.pc in
    let ec = ecall_reached turns image g here 1 0 6 w first.goes (omega arith) own.code.1 in
    let t : abi.World = asked ec.behind ec.at in
    let r = runtime_stays p st.frames v w ec.at ec.runtime h.runtime in
    let m = r.exceptions in
    let places : Addresses = addresses_of p in
    let gone : List ℕ = destroyed st.frames in
    let k : KeptExceptions = kept_by ec.at in
    let c = can_begin p st e ec.at m ok in
    let slot : ℕ = c.slot in
    let header : Header = c.has.header in
    let given : argument t 10 ≡ p.at (of_exception e) = ec.kept a0 (λ d. absurd (omega (arith, d))) ∙ first.is ∙ omega arith in
    let found : object_where is_thrown t.exceptions.live (argument t 10) ≡ Some (record { slot = slot; header = header }) = ap (object_where is_thrown ec.at.exceptions.live) given ∙ c.found in
    let end : abi.World = gives 10 (object_of slot) (runtime_entered (record { slot = slot; header = header }) t) in
    let effect : (wish : ℕ) → call_effect 6 image wish t ≡ abi.goes end = λ wish. begin_is image wish t ∙ begins_is image t slot header found c.may (c.crowded ∙ alone_here) in
    let to : LinearState = moved st (st.top.place + 1) st.top.frame (entered e v) in
    let held = matches_alike p n st.top.frame st.frames v (entered e v) w.hart.memory (x w.hart sp) back refl refl (same_number v) h.memory in
    let stack : x end.hart sp ≡ x w.hart sp = read_other ec.behind.regs 10 sp (object_of slot) (λ d. absurd (omega (arith, d))) ∙ ec.stack in
    record {
      turns = ec.turns + 1;
      few = omega (arith, ec.few);
      some = λ some. omega arith;
      after = counted end;
      runs = subst (λ i. Turns image (ec.turns + 1) w (counted end) (Enter i ∷ [])) c.has.number (call_made made image g here 1 6 w first.goes.after ec end effect refl);
      holds = record {
        number = n;
        back = back;
        runs = h.runs;
        registers = set_length ec.behind.regs 10 (object_of slot) ∙ ec.registers;
        pc = ec.pc ∙ omega (arith, own.next);
        memory = subst (λ ps. MemoryMatches p n st.top.frame st.frames (entered e v) ps (x end.hart sp) back) (sym ec.memory)
            (subst (λ a. MemoryMatches p n st.top.frame st.frames (entered e v) w.hart.memory a back) (sym stack) held);
        kept = kept_at p n to (x w.hart sp) w.hart.memory (saved_of w.hart) end.hart ec.memory stack (given_in_first ec.behind end.hart (object_of slot) refl ∙ ec.saved)
            (registers_alike p n st.top.frame st.frames v (entered e v) w.hart.memory (x w.hart sp) back (saved_of w.hart) refl h.memory h.kept);
        runtime = record {
          input = r.input;
          replies = r.replies;
          last_number = r.last_number;
          terminating = r.terminating;
          exceptions = entered_match places gone (exceptions_in v) k e slot c.has m c.thrown c.front;
          plan = r.plan;
        };
      };
    }

pub enters_run : CallsAreTurns → CallsAreMade → EntersRun
enters_run turns made image p n s e st next w h at holds ok alone =
    let can = can_enter st.frames st.world e ok (enter_may p n s e st next at holds) in
    let went = enter_step p n s e st next at holds alone in (
      ap (λ (y : LinearState). y.world.items) (sym went),
      subst (λ (y : LinearState). Matched image (length (linear_code (shape p n) (plain (enter s)))) w (Enter e ∷ []) (λ v. Matches p y v)) went
          (enter_runs turns made image p n s e st next w h.back (stands_by p n st w h at.runs) at holds can alone),
    )
