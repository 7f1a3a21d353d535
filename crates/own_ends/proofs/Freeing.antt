-- end_catch frees the exception whose destructor it has called, and comes to the runtime call by which it goes on.
use Rattle.std.proofs.Common.{◌≡◌, ◌∙◌, refl, sym, ap, subst, arith, ℕ, ◌+◌, ◌==◌, ◌||◌, Bool, true, false, List, [], ◌∷◌, ◌++◌, Some}
use Rattle.std.proofs.lemmas.Bool.Decides.{nat_tests}
use Rattle.meaning_forms.specs.Class.{contains}
use Rattle.run_items.specs.declared.item.Item.TheVariants.{Free}
use Rattle.rv64_isa.specs.State as hart
use Rattle.rv64_isa.specs.State.{Part}
use Rattle.rv64_isa.specs.Step.{x}
use Rattle.elf_image.specs.Clean.{CleanImage}
use Rattle.caught_stack.specs.declared.header.Header.{Header}
use Rattle.caught_stack.specs.declared.header.HeaderKind.TheVariants.{Building}
use Rattle.caught_stack.specs.Allocate.{freed as slot_freed}
use Rattle.caught_stack.specs.Exceptions.{Exceptions}
use Rattle.cxa_runtime.specs.declared.object.Object.{Object}
use Rattle.cxa_runtime.specs.Objects.{object_of, object_where, is_building}
use Rattle.cxa_runtime.specs.World as abi
use Rattle.cxa_runtime.specs.World.{a0, argument, goes, needs, shows, with_exceptions}
use Rattle.cxa_runtime.specs.Raising.{Image}
use Rattle.cxa_runtime.specs.Allocate.{free as free_effect}
use Rattle.cxa_runtime.specs.Call.{call_effect, numbered}
use Rattle.cxa_runtime.specs.Run.{counted}
use Rattle.eh_run.specs.Program.{program_of}
use Rattle.region_forms.specs.World.{of_exception, Exception, native, exception_of, World}
use Rattle.region_forms.specs.Lives.{is_live}
use Rattle.region_forms.specs.Effect.{freed}
use Rattle.linear_forms.specs.Stub.{end_catch}
use Rattle.linear_forms.specs.Activation.{State, goes_to, next_if, fetch, on}
use Rattle.linear_forms.specs.Machine.{act_on, step}
use Rattle.linear_forms.specs.Operation.{may_free}
use Rattle.linear_forms.specs.UnitRun.{code_of}
use Rattle.machine_forms.specs.Registers.{sp}
use Rattle.machine_pieces.specs.Frames.{AddressAt}
use Rattle.machine_pieces.specs.Turning.{Turns}
use Rattle.machine_pieces.proofs.Turning.{turns_then}
use Rattle.machine_stubs.specs.Calls.{asked, CallsAreMade}
use Rattle.machine_stubs.specs.EndCatch.{object_slot, flying_slot, EndCatchRuns}
use Rattle.machine_stubs.specs.Stretches.{frame_size, Stands}
use Rattle.machine_simulation.specs.Plan.{Plan}
use Rattle.machine_simulation.specs.Exceptions.{Addresses, KeptExceptions, addresses_of, exceptions_in, kept_by, destroyed_by, destroyed, HeaderIs, HasHeader, IsLeft, ExceptionsMatch}
use Rattle.machine_simulation.specs.Matches.{RuntimeMatches}
use Rattle.machine_simulation.specs.Objects.{without_object}
use Rattle.machine_simulation.proofs.Matching.{runtime_stays}
use Rattle.machine_simulation.proofs.Holding.{same_number}
use Rattle.machine_exceptions.proofs.Enters.{live_is}
use Rattle.machine_exceptions.proofs.Finding.{live_header, object_found}
use Rattle.machine_exceptions.proofs.Freed.{freed_match, building_out}
use Rattle.machine_exceptions.proofs.Frees.{plan_without}
use Rattle.machine_raises.specs.Stacks.{IsRunning}
use Rattle.runtime_invariant.specs.Memory.{RunsKeepMemory}
use Rattle.stub_landings.specs.Rests.{StubMemory, StubRests, FreesOnTheWay}
use Rattle.stub_landings.specs.OwnCalls.{GoesOnInOwn}
use Rattle.stub_landings.proofs.Own.{end_catch_resumes}
use Rattle.own_ends.specs.Resumes.{held_back, freed_on_the_way}
use Rattle.own_ends.proofs.Registers.{registers_below, registers_gone, registers_at}
use Rattle.own_ends.proofs.Memory.{stub_beside, stub_alike, stub_without}
use Rattle.own_ends.proofs.Calling.{frame_room, gets_below}
use Rattle.own_ends.proofs.Running.{running_on, ComesToResume}
use Rattle.machine_pieces.specs.Keeping.{saved_of}
use Rattle.machine_simulation.proofs.Freeing.{IsFree}

-- ---- the exception that is freed

pub is_first : (e : ℕ) (gone : List ℕ) → contains (e ∷ gone) e ≡ true
is_first e gone =
    let itself : (e == e) ≡ true = grind (arith, nat_tests) in
    ap (λ b. b || contains gone e) itself

-- while its destructor runs, it counts as building
pub counts_building : (t : Addresses) (b : Bool) (x : Exception) (h : Header) → b ≡ true → HeaderIs t b x h → h.kind ≡ Building
counts_building t true x h e is = is
counts_building t false x h e is = absurd (cc e)

-- it is the first of those whose destructors run
pub held_first : (p : Plan) (st : State) (w : abi.World) → FreesOnTheWay p st w → destroyed (st.top ∷ st.frames) ≡ held_back st ∷ destroyed st.frames
held_first p st w h = ap (λ f. destroyed_by f st.top.frame ++ destroyed st.frames) h.rests.runs

pub held_left : (p : Plan) (st : State) (w : abi.World) → FreesOnTheWay p st w → IsLeft st.world.live (held_back st)
held_left p st w h =
    let m = subst (λ ds. ExceptionsMatch (addresses_of p) ds (exceptions_in st.world) (kept_by w)) (held_first p st w h) h.rests.runtime.exceptions in
    m.left (held_back st) (is_first (held_back st) (destroyed st.frames))

pub frees_step : (p : Plan) (st : State) (w : abi.World) → FreesOnTheWay p st w → step (code_of p.unit) st ≡ goes_to (freed_on_the_way st)
frees_step p st w h =
    let code = code_of p.unit in
    let v : World = st.world in
    let e : ℕ = held_back st in
    let left = held_left p st w h in
    let live : is_live v e ≡ true = live_is v.live e (native left.type left.destructor left.kept) left.live in
    let op : fetch code st.top.function st.top.place ≡ fetch code end_catch 5 = ap (λ f. fetch code f st.top.place) h.rests.runs ∙ ap (fetch code end_catch) h.place in
    ap (λ o. act_on code o st.top st.frames v) op ∙ ap (λ f. next_if (may_free f v e) v (on st.top st.top.frame st.frames (freed e v))) h.rests.runs ∙ ap (λ b. next_if b v (on st.top st.top.frame st.frames (freed e v))) live

-- ---- the runtime call that frees

free_is : (image : Image) (wish : ℕ) (t : abi.World) → call_effect 4 image wish t ≡ free_effect t
unfolding call_effect numbered
free_is image wish t = refl

freed_by : (image : Image) (wish object : ℕ) (o : Object) (was : Exceptions) (t : abi.World) → t.exceptions ≡ was → argument t 10 ≡ object → object_where is_building was.live object ≡ Some o →
    call_effect 4 image wish t ≡ goes (with_exceptions (slot_freed o.slot t.exceptions) (shows (Free o.header.number) t))
freed_by image wish object o was t same given there =
    free_is image wish t
    ∙ ap (λ n. needs t n (λ (y : Object). goes (with_exceptions (slot_freed y.slot t.exceptions) (shows (Free y.header.number) t))))
    (ap (λ es. object_where is_building es.live (argument t 10)) same ∙ ap (object_where is_building was.live) given ∙ there)

catch_stands : (p : Plan) (k : ℕ) (st : State) (w : abi.World) → StubRests p end_catch k st w → Stands p.unit p.base end_catch k (x w.hart sp) (frame_size end_catch) w.hart
catch_stands p k st w r = record { pc = r.pc; registers = r.registers; code = r.memory.unit.stubs.end_catch; room = frame_room p end_catch st.frames st.world w.hart.memory (x w.hart sp) r.back r.memory }

-- the slot of the runtime that is vacant then
pub record Held (p : Plan) (st : State) (w : abi.World) : Type 0 where
  pub slot : ℕ
  pub has : HasHeader w.exceptions.live (held_back st) slot

-- ---- up to the runtime call by which end_catch goes on

abbrev keeping : Exceptions → (terminate unexpected : ℕ) → KeptExceptions
keeping es h k = record { exceptions = es; terminate_handler = h; unexpected_handler = k }

pub record FreedOnTheWay (i : CleanImage) (p : Plan) (st : State) (w : abi.World) (value : ℕ) : Type 0 where
  pub held : Held p st w
  pub comes : ComesToResume i (without_object p (held_back st)) end_catch (freed_on_the_way st) w value 7 (Free (held_back st) ∷ []) (slot_freed held.slot w.exceptions)

pub catch_comes : EndCatchRuns → CallsAreMade → RunsKeepMemory → (i : CleanImage) (p : Plan) (st : State) (w : abi.World) → FreesOnTheWay p st w → IsRunning p i w.hart → FreedOnTheWay i p st w (x w.hart a0)
catch_comes catches made keeps i p st w h running =
    let image : Image = (program_of i).image in
    let r = h.rests in
    let v : World = st.world in
    let s : hart.State = w.hart in
    let low : ℕ = x s sp in
    let e : ℕ = held_back st in
    let q : Plan = without_object p e in
    let st1 : State = freed_on_the_way st in
    let u : World = st1.world in
    let places : Addresses = addresses_of p in
    let gone : List ℕ = destroyed st.frames in
    let kept : KeptExceptions = kept_by w in
    let mm = subst (λ ds. ExceptionsMatch places ds (exceptions_in v) kept) (held_first p st w h) r.runtime.exceptions in
    let flag : contains (e ∷ gone) e ≡ true = is_first e gone in
    let left = mm.left e flag in
    let y : Exception = native left.type left.destructor left.kept in
    let live = live_header places (e ∷ gone) (exceptions_in v) kept e y mm left.live in
    let slot : ℕ = live.slot in
    let header : Header = live.has.header in
    let o : Object = record { slot = slot; header = header } in
    let kind : header.kind ≡ Building = counts_building places (contains (e ∷ gone) e) y header flag live.is in
    let object : ℕ = object_of slot in
    let number : h.object.number ≡ e = sym (ap exception_of h.object.is) in
    let object_is : p.at (of_exception h.object.number) ≡ object = ap (λ k. p.at (of_exception k)) number ∙ live.object in
    let found = object_found is_building w.exceptions.live slot header live.below live.has.there (ap is_building kind) in
    let flying : ℕ = x s a0 in
    let one = catches.frees_on_the_way image p.unit p.base object flying w (catch_stands p 20 st w r) refl (gets_below p v (st.top.frame.slots 2) flying h.gets) (subst (AddressAt s.memory (low + object_slot)) object_is h.object.there) in
    let v1 : abi.World = one.after in
    let h1 = one.holds in
    let b1 : hart.State = h1.behind in
    let t1 : abi.World = asked b1 v1 in
    let next : abi.World = with_exceptions (slot_freed slot t1.exceptions) (shows (Free header.number) t1) in
    let v2 : abi.World = counted next in
    let two : Turns image 1 v1 v2 (Free header.number ∷ []) = made.goes_on image 4 v1 next b1 h1.calls h1.asks (λ wish. freed_by image wish object o w.exceptions t1 h1.kept.runtime.exceptions h1.holds.0 found) refl in
    let three = catches.resumes image p.unit p.base flying v2 (subst (λ a. Stands p.unit p.base end_catch 25 a 48 b1) (sym h1.pointer) h1.stands) (subst (λ a. AddressAt b1.memory (a + flying_slot) flying) (sym h1.pointer) h1.holds.1) in
    let v3 : abi.World = three.after in
    let h3 = three.holds in
    let b3 : hart.State = h3.behind in
    let stack : x b3 sp ≡ low = h3.pointer ∙ h1.pointer in
    let runs : Turns image (one.turns + 1 + three.turns) w v3 (Free e ∷ []) = subst (λ n. Turns image (one.turns + 1 + three.turns) w v3 (Free n ∷ [])) live.has.number
    (turns_then image (one.turns + 1) three.turns w v2 v3 (Free header.number ∷ []) [] (turns_then image one.turns 1 w v1 v2 [] (Free header.number ∷ []) one.runs two) three.runs) in
    let floor = r.memory.stands.above in
    let free : IsFree (low + 48) low 48 = record { low = omega (arith, floor); high = omega arith } in
    let memory1 = stub_beside p end_catch st.frames v s.memory b1.memory low r.back low 48 r.memory free h1.kept.beside (h1.holds.2 r.back r.memory.stands.saved) in
    let regs2 = registers_gone p end_catch st.frames v u b1.memory low r.back e (saved_of s) refl refl (same_number v) memory1
    (registers_below p end_catch st.frames v s.memory b1.memory low r.back low 48 (saved_of s) r.memory free h1.kept.beside r.kept) in
    let memory2 : StubMemory q end_catch st.frames u b1.memory low r.back = stub_without p end_catch st.frames u b1.memory low r.back e (stub_alike p end_catch st.frames v u b1.memory low r.back refl refl (same_number v) memory1) in
    let memory3 : StubMemory q end_catch st.frames u b3.memory (x b3 sp) r.back
    = subst (λ a. StubMemory q end_catch st.frames u b3.memory a r.back) (sym stack) (subst (λ ps. StubMemory q end_catch st.frames u ps low r.back) (sym h3.holds.0) memory2) in
    let m2 = freed_match places (e ∷ gone) gone (exceptions_in v) kept e slot y mm live.has (building_out places (e ∷ gone) (exceptions_in v) kept slot header mm live.has.there kind) left.live mm.distinct.1 mm.distinct.0
    (λ k other. sym (ap (λ d. d || contains gone k) other)) in
    let r1 = runtime_stays p (st.top ∷ st.frames) v w v1 h1.kept.runtime r.runtime in
    let k1 = h1.kept.runtime in
    let runtime2 : RuntimeMatches q st.frames u v2 = record {
      input = r1.input;
      replies = r1.replies;
      last_number = r1.last_number;
      terminating = r1.terminating;
      exceptions = subst (ExceptionsMatch (addresses_of q) gone (exceptions_in u)) (kept_freed slot w v1 k1.exceptions k1.terminate_handler k1.unexpected_handler) m2;
      plan = plan_without p e v.live r.runtime.plan;
    } in
    record {
      held = record { slot = slot; has = live.has };
      comes = record {
        turns = one.turns + 1 + three.turns;
        few = omega (arith, one.few, three.few);
        at = v3;
        runs = runs;
        behind = b3;
        call = record {
          calls = h3.calls;
          asks = h3.asks;
          running = again (running_on keeps p i (one.turns + 1 + three.turns) w v3 (Free e ∷ []) b3 runs h3.calls running);
          back = r.back;
          inside = record {
            own = tt;
            runs = r.runs;
            registers = h3.stands.registers;
            goes_on = subst (λ n. GoesOnInOwn q end_catch n b3.pc) (sym (ap (λ n. n + 1) h.place)) (end_catch_resumes q b3.pc h3.stands.pc);
            memory = memory3;
            kept = registers_at q end_catch st.frames u b1.memory low (saved_of s) b3 h3.holds.0 stack (h3.variables ∙ h1.variables) regs2;
          };
          runtime = runtime_stays q st.frames u v2 v3 h3.kept.runtime runtime2;
        };
        given = h3.holds.1;
        stack = stack;
        exceptions = h3.kept.runtime.exceptions ∙ ap (slot_freed slot) k1.exceptions;
      };
    }
  where
    again : {b : hart.State} → IsRunning p i b → IsRunning (without_object p (held_back st)) i b
    again running = record { image = running.image; lists = running.lists; base = running.base; tables = running.tables; run = running.run }

    kept_freed : (slot : ℕ) (w v1 : abi.World) → v1.exceptions ≡ w.exceptions → v1.terminate_handler ≡ w.terminate_handler → v1.unexpected_handler ≡ w.unexpected_handler →
        keeping (slot_freed slot w.exceptions) w.terminate_handler w.unexpected_handler ≡ keeping (slot_freed slot v1.exceptions) v1.terminate_handler v1.unexpected_handler
    kept_freed slot w v1 a b c =
        ap (λ es. keeping (slot_freed slot es) w.terminate_handler w.unexpected_handler) (sym a) ∙ ap (λ n. keeping (slot_freed slot v1.exceptions) n w.unexpected_handler) (sym b)
        ∙ ap (λ n. keeping (slot_freed slot v1.exceptions) v1.terminate_handler n) (sym c)
