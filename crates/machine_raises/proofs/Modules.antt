-- A module raises an exception on both machines.
use Rattle.std.proofs.Common.{◌≡◌, ◌∙◌, refl, sym, ap, subst, arith, ℕ, ◌+◌, ◌%◌, ◌^◌, ◌<◌, true, false, pos, List, [], ◌∷◌, ◌++◌, length, length-append, Option, Some, None, is_some}
use Rattle.std.specs.Prelude.{nat_le, slice_get, slice_set, if◌then◌else◌}
use Rattle.std.proofs.lemmas.Bool.Decides.{nat_tests}
use Rattle.eh_outer.specs.declared.module.Reply.{Reply}
use Rattle.eh_outer.specs.declared.module.Reply.TheVariants.{Raise}
use Rattle.run_items.specs.declared.item.Item.TheVariants.{Foreign}
use Rattle.rv64_isa.specs.State.{State}
use Rattle.rv64_isa.specs.Step.{x}
use Rattle.elf_image.specs.Clean.{CleanImage}
use Rattle.caught_stack.specs.declared.header.Header.{Header}
use Rattle.caught_stack.specs.Live.{slots, header_of, is_vacant, live_count}
use Rattle.caught_stack.specs.Exceptions.{Exceptions}
use Rattle.caught_stack.proofs.Headers.{vacant_below, header_changed}
use Rattle.cxa_runtime.specs.declared.object.Object.{Object}
use Rattle.cxa_runtime.specs.Frozen.{frozen}
use Rattle.cxa_runtime.specs.World as abi
use Rattle.cxa_runtime.specs.World.{argument, with_exceptions}
use Rattle.cxa_runtime.specs.Raising.{Image}
use Rattle.cxa_runtime.specs.Flying.{one_uncaught, aimed}
use Rattle.cxa_runtime.specs.Foreign.{foreign_object, foreign_made, raised_in, module_call, module_number, asked as module_asked}
use Rattle.cxa_runtime.specs.Call.{call_effect, numbered}
use Rattle.cxa_runtime.specs.Run.{counted}
use Rattle.eh_run.specs.Program.{program_of}
use Rattle.region_forms.specs.Form.{Place}
use Rattle.region_forms.specs.World.{of_exception, World, Exception, foreign, exception_type, type_at}
use Rattle.region_forms.specs.Effect.{terminates, raises, replied, is_full, flies}
use Rattle.linear_forms.specs.Linear.{LinearOp}
use Rattle.linear_forms.specs.Search.{found_above}
use Rattle.linear_forms.specs.Stub.{compiled, terminating}
use Rattle.linear_forms.specs.Activation.{Activation, State as LinearState, goes_to}
use Rattle.linear_forms.specs.Operation.{performed}
use Rattle.linear_forms.specs.Unwinding.{raise}
use Rattle.linear_forms.specs.UnitRun.{code_of}
use Rattle.machine_forms.specs.Registers.{sp, a0}
use Rattle.machine_forms.specs.Piece.{Piece}
use Rattle.machine_forms.specs.RuntimeCall.{runtime_call}
use Rattle.machine_forms.specs.LinearCode.{linear_code}
use Rattle.machine_forms.specs.Routine.{op_word}
use Rattle.machine_pieces.specs.Numbers.{extended}
use Rattle.machine_pieces.specs.Standing.{Ground}
use Rattle.machine_pieces.specs.Laws.{CallsAreTurns}
use Rattle.machine_pieces.proofs.Fetching.{pieces_split}
use Rattle.machine_pieces.proofs.Numbers.{small_pos}
use Rattle.machine_stubs.specs.Calls.{asked, CallsAreMade}
use Rattle.raise_simulation.specs.Raises.{RaisesAgree}
use Rattle.machine_simulation.specs.Plan.{Plan, shape, slot_kinds, routine, first_word, setting}
use Rattle.machine_simulation.specs.Calls.{stored_in}
use Rattle.machine_simulation.specs.Exceptions.{addresses_of, exceptions_in, kept_by, destroyed, live_in}
use Rattle.machine_simulation.specs.Matches.{RuntimeMatches, MemoryMatches}
use Rattle.machine_simulation.specs.Steps.{StepAt}
use Rattle.machine_simulation.proofs.Words.{OperationAt, operation_at}
use Rattle.machine_simulation.proofs.Matching.{Stands, stands_by, runtime_stays, kept_at}
use Rattle.machine_simulation.specs.KeptCalls.{RegistersMatch}
use Rattle.machine_pieces.specs.Keeping.{saved_of}
use Rattle.machine_exceptions.specs.Answers.{CallsModule}
use Rattle.machine_simulation.specs.Objects.{with_object}
use Rattle.machine_exceptions.specs.Picks.{TurnsFor}
use Rattle.machine_exceptions.proofs.ModuleCalls.{module_begins}
use Rattle.machine_exceptions.proofs.Ecalls.{ecall_reached}
use Rattle.machine_exceptions.proofs.Enters.{exception_is}
use Rattle.machine_exceptions.proofs.Headers.{slot_below}
use Rattle.machine_exceptions.proofs.LiveLists.{new_in}
use Rattle.machine_exceptions.proofs.Made.{slot_given, slots_apart}
use Rattle.machine_exceptions.proofs.Making.{Making, matches_made, registers_made, new_at}
use Rattle.machine_exceptions.proofs.Picking.{turns_for, then_for, call_for}
use Rattle.machine_raises.specs.Stacks.{IsRunning, GoesOnIn, InCall}
use Rattle.machine_raises.specs.Pads.{PadsArePlain, FiltersAreInts}
use Rattle.machine_raises.specs.Targets.{target_end}
use Rattle.machine_raises.specs.Throws.{HasAim}
use Rattle.machine_raises.specs.Modules.{RaisedForTo, ModulesRaise}
use Rattle.machine_raises.proofs.OnStack.{call_on_stack}
use Rattle.machine_raises.proofs.Entered.{EntersPad, Arrived, pad_entered_runs, compiled_lives}
use Rattle.machine_raises.proofs.Targeted.{targeted}
use Rattle.machine_raises.proofs.ForeignMade.{foreign_world, no_such, foreign_runtime}
use Rattle.machine_raises.proofs.Raised.{RaiseLands, raise_lands}

module_is : (image : Image) (wish : ℕ) (t : abi.World) → call_effect 14 image wish t ≡ module_call image wish t
unfolding call_effect numbered
module_is image wish t = refl

some_there : (o : Option Exception) → is_some o ≡ true → (z : Exception) × (o ≡ Some z)
some_there None h = absurd (cc h)
some_there (Some z) h = (z, refl)

-- ---- the unwinder's answer
plain_with : (p : Plan) (e slot : ℕ) → PadsArePlain p → PadsArePlain (with_object p e slot)
plain_with p e slot h m place object selector op =
    let both = h m place object selector op in
    (record { inside = both.0.inside; plain = both.0.plain }, record { inside = both.1.inside; plain = both.1.plain })

running_with : (p : Plan) (e slot : ℕ) (i : CleanImage) (s : State) → IsRunning p i s → IsRunning (with_object p e slot) i s
running_with p e slot i s h = record { image = h.image; lists = h.lists; base = h.base; tables = h.tables; run = h.run }

goes_with : (p : Plan) (e slot n place ip : ℕ) → GoesOnIn p n place ip → GoesOnIn (with_object p e slot) n place ip
goes_with p e slot n place ip h = record { operation = h.operation; there = h.there; word = h.word; inside = h.inside; is = h.is }

abbrev left_in : abi.World → ℕ → List Reply → abi.World
left_in y k left = record y { replies = slice_set y.replies k left }

abbrev made_in : abi.World → (slot k token : ℕ) → List Reply → abi.World
made_in y slot k token left = foreign_made k token slot (left_in y k left)

abbrev raised_world : abi.World → (slot k token : ℕ) → List Reply → abi.World
raised_world y slot k token left = with_exceptions (one_uncaught (made_in y slot k token left).exceptions) (made_in y slot k token left)

record ForeignLands (p : Plan) (i : CleanImage) (words : ℕ) (R : Plan → abi.World → Type 0) (st next : LinearState) (y : abi.World) (slot k token : ℕ) (left : List Reply) : Type 0 where
  depth : ℕ
  found : found_above (code_of p.unit) (type_at (flies (st.world.last_number + 1) (foreign_world st.world k token left)) (st.world.last_number + 1)) (st.top ∷ st.frames) ≡ Some depth
  lands : RaiseLands (with_object p (st.world.last_number + 1) slot) i words (R (with_object p (st.world.last_number + 1) slot)) next (flies (st.world.last_number + 1) (foreign_world st.world k token left)) (made_in y slot k token left).exceptions (foreign_object (left_in y k left) k token slot) None depth (st.top ∷ st.frames)
      (raised_world y slot k token left) (target_end p depth (x y.hart sp) (st.top ∷ st.frames))

making_with : (p : Plan) (fs : List Activation) (v : World) (y : abi.World) (slot k token : ℕ) (left : List Reply) → RuntimeMatches p fs v y → is_vacant y.exceptions.live slot ≡ true → Making p (v.last_number + 1) slot v (foreign_world v k token left)
making_with p fs v y slot k token left r vacant = record {
  next = refl;
  number = refl;
  memory = refl;
  calls = refl;
  below = vacant_below y.exceptions.live slot vacant;
  others = λ d live.
      let there = some_there (live_in v.live d) (sym (r.plan.live d) ∙ live) in
      let apart = slots_apart (addresses_of p) (destroyed fs) (exceptions_in v) (kept_by y) slot r.exceptions vacant d there.0 there.1 in
      (apart.0, apart.1, r.plan.size d live, apart.2);
}

foreign_lands : RaisesAgree → (words : ℕ) (R : Plan → abi.World → Type 0) (i : CleanImage) (p : Plan) (n back : ℕ) (st next : LinearState) (y : abi.World) (slot k token : ℕ) (left : List Reply) → EntersPad i st.top next words R → (next.top.function ≡ terminating → ⊥) → st.top.function ≡ compiled n → length y.hart.regs ≡ 32 → GoesOnIn p n st.top.place y.hart.pc →
    MemoryMatches p n st.top.frame st.frames st.world y.hart.memory (x y.hart sp) back → RegistersMatch p n st.top.frame st.frames st.world y.hart.memory (x y.hart sp) (saved_of y.hart) → RuntimeMatches p st.frames st.world y → IsRunning p i y.hart → is_vacant y.exceptions.live slot ≡ true →
    raise (code_of p.unit) (st.world.last_number + 1) st.top st.frames (foreign_world st.world k token left) ≡ goes_to next → PadsArePlain p → FiltersAreInts p → ForeignLands p i words R st next y slot k token left
foreign_lands agree words R i p n back st next y slot k token left enters alive runs registers goes_on memory kept r running vacant step plains ints =
    let v : World = st.world in
    let e : ℕ = v.last_number + 1 in
    let u0 : World = foreign_world v k token left in
    let flew : World = flies e u0 in
    let q : Plan = with_object p e slot in
    let small : slot < 1024 = vacant_below y.exceptions.live slot vacant in
    let making = making_with p st.frames v y slot k token left r vacant in
    let incall : InCall q n back st.top st.frames u0 y.hart
    = record {
      runs = runs;
      registers = registers;
      goes_on = goes_with p e slot n st.top.place y.hart.pc goes_on;
      memory = matches_made p e slot v u0 making n st.top.frame st.frames y.hart.memory (x y.hart sp) back memory;
      kept = registers_made p e slot v u0 making n st.top.frame st.frames y.hart.memory (x y.hart sp) back (saved_of y.hart) memory kept;
    } in
    let goal = targeted (code_of p.unit) e st.top st.frames u0 next step alive in
    let none = no_such v.live e v.last_number r.exceptions.numbers refl in
    let type : type_at flew e ≡ None = ap exception_type (exception_is flew.live e (foreign k token) (new_in v.live e (foreign k token) none)) in
    record {
      depth = goal.depth;
      found = goal.found;
      lands = raise_lands q i st.top st.frames u0 y.hart (running_with p e slot i y.hart running) (call_on_stack q n back st.top st.frames u0 y.hart running.base incall) agree words R next enters alive flew (raised_world y slot k token left) e goal.depth None
          (made_in y slot k token left).exceptions (foreign_object (left_in y k left) k token slot) refl tt type (ap (λ t. found_above (code_of p.unit) t (st.top ∷ st.frames)) (sym type) ∙ goal.found) goal.unwound (plain_with p e slot plains) ints refl refl
          (omega arith)
          (λ cfa table. foreign_runtime p st.frames v y slot k token left cfa table r vacant) (omega arith, sym (new_at p e slot (of_exception e) refl).at, omega (arith, small));
    }

-- fewer than 1,024 are live
few_live : (count lives : ℕ) → count ≡ lives → nat_le 1024 lives ≡ false → count < slots
few_live count lives same free = grind (arith, nat_tests, same, free)

-- where the exception has its slot
pub record RaisedIn (p : Plan) (i : CleanImage) (pick : ℕ → ℕ) (st next : LinearState) (w : abi.World) (k token words : ℕ) (left : List Reply) (R : Plan → abi.World → Type 0) : Type 0 where
  pub slot : ℕ
  pub below : slot < slots
  pub world : next.world ≡ flies (st.world.last_number + 1) (foreign_world st.world k token left)
  pub raised : RaisedForTo p i pick st next w (st.world.last_number + 1) words (Foreign (st.world.last_number + 1) k token ∷ []) (R (with_object p (st.world.last_number + 1) slot))

pub module_runs : CallsAreTurns → CallsAreMade → RaisesAgree → (words : ℕ) (R : Plan → abi.World → Type 0) (i : CleanImage) (pick : ℕ → ℕ) (p : Plan) (n : ℕ) (st next : LinearState) (w : abi.World) (back : ℕ) (o : LinearOp)
    (wants : Option Place) (k token : ℕ) (left : List Reply) → EntersPad i st.top next words R → (next.top.function ≡ terminating → ⊥) → Stands p n st w back → IsRunning p i w.hart → StepAt p st next n o →
    CallsModule p n st wants o (pos k) → slice_get st.world.replies k ≡ Some (Raise token ∷ left) → is_full st.world ≡ false → PadsArePlain p → FiltersAreInts p → RaisedIn p i pick st next w k token (length (linear_code (shape p n) o) + words) left R
module_runs turns made agree words R i pick p n st next w back o wants k token left enters alive h running at calls reply free plains ints =
    let image : Image = (program_of i).image in
    let g : Ground = (setting p n).ground in
    let here : ℕ = first_word p n + op_word (routine p n) st.top.place in
    let v : World = st.world in
    let e : ℕ = v.last_number + 1 in
    let u0 : World = foreign_world v k token left in
    let begins = module_begins p n st w back wants o (pos k) h at.there calls in
    let front : List Piece = begins.front in
    let rest : List Piece = stored_in (shape p n) wants in
    let rear : List Piece = runtime_call 14 ++ rest in
    let pieces : linear_code (shape p n) o ≡ front ++ rear = begins.pieces in
    let own : OperationAt p w.hart.memory n st.top.place (front ++ rear) = subst (OperationAt p w.hart.memory n st.top.place) pieces (operation_at p w.hart.memory n st.top.place o h.memory.unit h.memory.top.known at.there) in
    let sum : length (front ++ rear) ≡ length front + length rear = length-append front rear in
    let total : length (linear_code (shape p n) o) ≡ length front + 2 + length rest = ap length pieces ∙ omega (arith, sum, length-append (runtime_call 14) rest) in
    let parts = pieces_split w.hart.memory g here front rear own.code in
    let call = pieces_split w.hart.memory g (here + length front) (runtime_call 14) rest parts.1 in
    let ec = ecall_reached turns image g here (length front) 0 14 w begins.value.computes.goes (omega arith) call.0 in
    let y : abi.World = asked ec.behind ec.at in
    let b = runtime_stays p st.frames v w ec.at ec.runtime h.runtime in
    let r : RuntimeMatches p st.frames v y = record { input = b.input; replies = b.replies; last_number = b.last_number; terminating = b.terminating; exceptions = b.exceptions; plan = b.plan } in
    let mm = r.exceptions in
    let wish : ℕ = pick (ec.at.last_number + 1) in
    let few : live_count y.exceptions.live < slots = few_live (live_count y.exceptions.live) (length v.live) mm.count free in
    let given = slot_given y.exceptions.live wish mm.sound.slots few in
    let slot : ℕ = given.0 in
    let vacant : is_vacant y.exceptions.live slot ≡ true = given.2 in
    let small : slot < 1024 = vacant_below y.exceptions.live slot vacant in
    let memory : MemoryMatches p n st.top.frame st.frames v ec.behind.memory (x ec.behind sp) back
    = subst (λ ps. MemoryMatches p n st.top.frame st.frames v ps (x ec.behind sp) back) (sym ec.memory) (subst (λ a. MemoryMatches p n st.top.frame st.frames v w.hart.memory a back) (sym ec.stack) h.memory) in
    let kept = kept_at p n st (x w.hart sp) w.hart.memory (saved_of w.hart) ec.behind ec.memory ec.stack ec.saved h.kept in
    let goes_on : GoesOnIn p n st.top.place ec.behind.pc = record { operation = o; there = at.there; word = length front + 1; inside = omega (arith, total); is = ec.pc ∙ omega arith } in
    let there : IsRunning p i ec.behind = record { image = running.image; lists = running.lists; base = running.base; tables = running.tables; run = ap frozen ec.memory ∙ running.run } in
    let step : raise (code_of p.unit) e st.top st.frames u0 ≡ goes_to next
    = ap (λ c. performed (code_of p.unit) (if c then terminates v.installed.terminate_handler (record v { replies = slice_set v.replies k left }) else raises e u0) st.top st.frames v) (sym free)
    ∙ ap (λ a. performed (code_of p.unit) (replied (slot_kinds p n) wants k a st.top.frame v) st.top st.frames v) (sym reply)
    ∙ begins.steps next at.step in
    let answer = foreign_lands agree words R i p n back st next y slot k token left enters alive h.runs ec.registers goes_on memory kept r there vacant step plains ints in
    let lands = answer.lands in
    let y1 : abi.World = left_in y k left in
    let w1 : abi.World = raised_world y slot k token left in
    let ob : Object = foreign_object y1 k token slot in
    let is0 : argument y 10 ≡ extended (pos k) = ec.kept a0 (λ c. absurd (omega (arith, c))) ∙ begins.value.computes.is in
    let low = small_pos k begins.value.int in
    let number : module_number y ≡ k = ap (λ a. a % 2 ^ 32) is0 ∙ omega (arith, low) in
    let replies : slice_get y.replies k ≡ Some (Raise token ∷ left) = ap (λ rs. slice_get rs k) r.replies ∙ reply in
    let effect : call_effect 14 image wish y ≡ abi.goes lands.next
    = module_is image wish y ∙ ap (λ a. module_asked image wish y a (slice_get y.replies a)) number ∙ ap (module_asked image wish y k) replies ∙ ap (raised_in image y1 k token) given.1 ∙ lands.effect in
    let count : ec.at.last_number + 1 ≡ e = ap (λ a. a + 1) r.last_number in
    let shown : lands.next.shown ≡ Foreign e k token ∷ [] = lands.shown ∙ ap (λ a. Foreign a k token ∷ []) count in
    let two : TurnsFor image pick 1 ec.at (counted lands.next) (Foreign e k token ∷ []) = subst (TurnsFor image pick 1 ec.at (counted lands.next)) shown (call_for made image pick 14 ec.at lands.next ec.behind ec.calls ec.asks effect lands.unwinding) in
    let after : abi.World = lands.ran.after in
    let new : Header = aimed (target_end p answer.depth (x ec.behind sp) (st.top ∷ st.frames)) lands.table ob.header in
    let inside : slot < length y.exceptions.live = omega (arith, small, mm.sound.slots) in
    let set : header_of w1.exceptions.live slot ≡ Some ob.header = header_changed y.exceptions.live slot (Some ob.header) inside in
    let kept_there : header_of after.exceptions.live slot ≡ Some new
    = ap (λ (z : Exceptions). header_of z.live slot) (lands.ran.holds.1.exceptions ∙ lands.exceptions) ∙ header_changed w1.exceptions.live slot (Some new) (slot_below w1.exceptions.live slot ob.header set) in
    let aims : HasAim p after e answer.depth (x w.hart sp) (st.top ∷ st.frames) = record {
      at = record { slot = slot; has = record { header = new; there = kept_there; number = count }; aimed = ap (λ a. target_end p answer.depth a (st.top ∷ st.frames)) ec.stack };
      table = lands.owned;
    } in
    record {
      slot = slot;
      below = small;
      world = lands.world;
      raised = record {
        depth = answer.depth;
        found = ap (λ (u : World). found_above (code_of p.unit) (type_at u e) (st.top ∷ st.frames)) lands.world ∙ answer.found;
        ran = record {
          turns = ec.turns + 1 + lands.ran.turns;
          few = omega (arith, ec.few, lands.ran.few, total);
          some = λ some. omega arith;
          after = after;
          runs = then_for image pick (ec.turns + 1) lands.ran.turns w (counted lands.next) after (Foreign e k token ∷ []) []
              (then_for image pick ec.turns 1 w ec.at (counted lands.next) [] (Foreign e k token ∷ []) (turns_for image pick ec.turns w ec.at [] ec.runs) two)
              (turns_for image pick lands.ran.turns (counted lands.next) after [] lands.ran.runs);
          holds = (lands.ran.holds.0, aims);
        };
      };
    }

pub modules_raise : CallsAreTurns → CallsAreMade → RaisesAgree → ModulesRaise
modules_raise turns made agree i pick p n m st next w o wants k token left h running at calls reply free plains ints callee =
    let all = module_runs turns made agree 2 (Arrived next) i pick p n st next w h.back o wants k token left (pad_entered_runs i st.top next m callee) (compiled_lives next m callee) (stands_by p n st w h at.runs) running at calls reply free plains ints in
    (ap (λ (u : World). u.items) all.world, all.slot, all.below, all.raised)
