-- Making an exception is matched.
use Rattle.std.proofs.Common.{◌≡◌, ◌∙◌, refl, sym, ap, subst, arith, ℕ, ◌+◌, ◌^◌, ◌<◌, ◌≤◌, ◌==◌, Bool, true, false, List, [], ◌∷◌, length, Option, Some, None, is_some}
use Rattle.std.specs.Prelude.{if◌then◌else◌}
use Rattle.std.proofs.lemmas.Bool.Decides.{nat_tests}
use Rattle.run_items.specs.declared.item.Item.TheVariants.{Make}
use Rattle.rv64_isa.specs.State.{State, reg_of, with_value, Part}
use Rattle.rv64_isa.specs.Step.{x}
use Rattle.caught_stack.specs.declared.header.HeaderKind.TheVariants.{Building}
use Rattle.caught_stack.specs.Allocate.{with_header}
use Rattle.caught_stack.specs.Live.{slots, is_vacant, live_count}
use Rattle.caught_stack.proofs.Headers.{vacant_below}
use Rattle.cxa_runtime.specs.Objects.{object_of}
use Rattle.cxa_runtime.specs.World as abi
use Rattle.cxa_runtime.specs.World.{gives, shows}
use Rattle.cxa_runtime.specs.Raising.{Image}
use Rattle.cxa_runtime.specs.Allocate.{allocate, made_in, new_header, with_new as runtime_with_new}
use Rattle.cxa_runtime.specs.Call.{call_effect, numbered}
use Rattle.cxa_runtime.specs.Run.{counted}
use Rattle.region_forms.specs.Form.{make}
use Rattle.region_forms.specs.World.{of_exception, World, Frame, Exception, Live, building, address_word, object_address, with_slot, with_item, Word}
use Rattle.region_forms.specs.Effect.{goes, terminates, is_full, with_new}
use Rattle.linear_forms.specs.Linear.{plain}
use Rattle.linear_forms.specs.Activation.{State as LinearState, goes_to}
use Rattle.linear_forms.specs.Operation.{performed}
use Rattle.linear_forms.specs.UnitRun.{code_of}
use Rattle.linear_forms.specs.Stub.{compiled}
use Rattle.machine_forms.specs.Registers.{sp, a0}
use Rattle.machine_forms.specs.Shape.{slot_offset}
use Rattle.machine_forms.specs.PlaceCode.{slot_stored}
use Rattle.machine_forms.specs.RuntimeCall.{runtime_call}
use Rattle.machine_forms.specs.LinearCode.{linear_code}
use Rattle.machine_forms.specs.Routine.{op_word}
use Rattle.machine_pieces.specs.Standing.{Ground, PiecesAt, PieceAt, address}
use Rattle.machine_pieces.specs.Frames.{byte_of}
use Rattle.machine_pieces.specs.Laws.{CallsAreTurns}
use Rattle.machine_pieces.proofs.Fetching.{pieces_split}
use Rattle.machine_pieces.proofs.Going.{goes_none}
use Rattle.machine_pieces.proofs.Registers.{set_length, read_same, read_other}
use Rattle.machine_pieces.proofs.Turning.{executes_turns}
use Rattle.machine_pieces.specs.Keeping.{saved_of}
use Rattle.machine_stubs.specs.Calls.{asked, CallsAreMade}
use Rattle.machine_simulation.specs.Plan.{Plan, shape, routine, first_word, setting}
use Rattle.machine_simulation.specs.Exceptions.{Addresses, addresses_of, exceptions_in, kept_by, destroyed, live_in, ExceptionsMatch, PlanHas}
use Rattle.machine_simulation.specs.Matches.{RuntimeMatches, MemoryMatches, Matches}
use Rattle.machine_simulation.specs.Steps.{StepAt}
use Rattle.machine_simulation.proofs.Words.{operation_at}
use Rattle.machine_simulation.proofs.Matching.{Stands, stands_by, Arrives, memory_at, runtime_stays, kept_at}
use Rattle.machine_simulation.proofs.Quiet.{moved, step_is, plain_is}
use Rattle.machine_simulation.proofs.Holding.{address_matches}
use Rattle.machine_simulation.specs.Objects.{with_object}
use Rattle.machine_simulation.specs.KeptCalls.{RegistersMatch}
use Rattle.machine_exceptions.specs.Picks.{TurnsFor, MatchedFor}
use Rattle.machine_exceptions.specs.Makes.{IsWordSlot, MakesRun}
use Rattle.machine_exceptions.proofs.LiveLists.{with_one, new_in, other_in}
use Rattle.machine_exceptions.proofs.Made.{slot_given, made_match, slots_apart}
use Rattle.machine_exceptions.proofs.Making.{Making, new_at, old_at, matches_made, registers_made}
use Rattle.machine_exceptions.proofs.Ecalls.{ecall_reached, given_in_first}
use Rattle.machine_exceptions.proofs.Picking.{turns_for, then_for, call_for}
use Rattle.machine_exceptions.proofs.Putting.{slot_put, registers_put, Puts}

allocate_is : (image : Image) (wish : ℕ) (t : abi.World) → call_effect 3 image wish t ≡ allocate image.places wish t
unfolding call_effect numbered
allocate_is image wish t = refl

-- the world in which the exception is made
abbrev pub made_world : World → World
made_world v = with_item (Make (v.last_number + 1)) (with_new building v)

abbrev pub made_frame : World → ℕ → Frame → Frame
made_frame v s frame = with_slot s (address_word (object_address (v.last_number + 1))) frame

make_step : (p : Plan) (n s : ℕ) (st next : LinearState) → StepAt p st next n (plain (make s)) → is_full st.world ≡ false → moved st (st.top.place + 1) (made_frame st.world s st.top.frame) (made_world st.world) ≡ next
make_step p n s st next at free =
    let does : goes (made_frame st.world s st.top.frame) (made_world st.world) ≡ (if is_full st.world then terminates st.world.installed.terminate_handler st.world else goes (made_frame st.world s st.top.frame) (made_world st.world))
    = ap (λ b. if b then terminates st.world.installed.terminate_handler st.world else goes (made_frame st.world s st.top.frame) (made_world st.world)) (sym free) in
    let whole : goes_to (moved st (st.top.place + 1) (made_frame st.world s st.top.frame) (made_world st.world)) ≡ goes_to next
    = ap (λ f. performed (code_of p.unit) f st.top st.frames st.world) does ∙ sym (plain_is p n st (make s) at.runs) ∙ sym (step_is p n st (plain (make s)) at.runs at.there) ∙ at.step in
    cc whole

-- the plan has the exception
plan_with : (p : Plan) (e slot : ℕ) (v : World) → live_in v.live e ≡ None → PlanHas p v.live → PlanHas (with_object p e slot) (with_one v.live e building)
plan_with p e slot v none h = record {
  live = λ d. live_at d (e == d) refl;
  size = λ d live. size_at d live (e == d) refl;
  ints = λ d live. ints_at d live (e == d) refl;
}
  where
    one : (d : ℕ) → (e == d) ≡ true → of_exception d ≡ of_exception e
    one d is = let same : e ≡ d = grind (arith, nat_tests, is) in ap of_exception (sym same)

    live_at : (d : ℕ) (b : Bool) → (e == d) ≡ b → (with_object p e slot).live (of_exception d) ≡ is_some (live_in (with_one v.live e building) d)
    live_at d true is =
        let same : e ≡ d = grind (arith, nat_tests, is) in
        (new_at p e slot (of_exception d) (one d is)).live ∙ ap is_some (sym (ap (live_in (with_one v.live e building)) (sym same) ∙ new_in v.live e building none))
    live_at d false is = (old_at p e slot (of_exception d) is).live ∙ h.live d ∙ ap is_some (sym (other_in v.live e d building is))

    size_at : (d : ℕ) → (with_object p e slot).live (of_exception d) ≡ true → (b : Bool) → (e == d) ≡ b → (with_object p e slot).size (of_exception d) ≡ 0x1000
    size_at d live true is = (new_at p e slot (of_exception d) (one d is)).size
    size_at d live false is = let old = old_at p e slot (of_exception d) is in old.size ∙ h.size d (sym old.live ∙ live)

    ints_at : (d : ℕ) → (with_object p e slot).live (of_exception d) ≡ true → (b : Bool) → (e == d) ≡ b → (with_object p e slot).ints (of_exception d) ≡ true
    ints_at d live true is = (new_at p e slot (of_exception d) (one d is)).ints
    ints_at d live false is = let old = old_at p e slot (of_exception d) is in old.ints ∙ h.ints d (sym old.live ∙ live)

some_there : (o : Option Exception) → is_some o ≡ true → (x : Exception) × (o ≡ Some x)
some_there None h = absurd (cc h)
some_there (Some x) h = (x, refl)

none_there : (lives : List Live) (e last : ℕ) → ((d : ℕ) (x : Exception) → live_in lives d ≡ Some x → d ≤ last) → e ≡ last + 1 → live_in lives e ≡ None
none_there lives e last most next = by (live_in lives e) refl
  where
    by : (o : Option Exception) → live_in lives e ≡ o → live_in lives e ≡ None
    by None is = is
    by (Some x) is = absurd (omega (arith, most e x is, next))

-- where the object is made, with its slot
record MadeIn (image : Image) (pick : ℕ → ℕ) (p : Plan) (n s : ℕ) (st : LinearState) (w : abi.World) : Type 0 where
  slot : ℕ
  below : slot < slots
  runs : MatchedFor image pick (length (linear_code (shape p n) (plain (make s)))) w (Make (st.world.last_number + 1) ∷ [])
      (λ v. Matches (with_object p (st.world.last_number + 1) slot) (moved st (st.top.place + 1) (made_frame st.world s st.top.frame) (made_world st.world)) v)

-- the object's address is in the slot
object_put : (q : Plan) (n s e object : ℕ) (st : LinearState) (u : World) (back here : ℕ) (t : State) → st.top.function ≡ compiled n → MemoryMatches q n st.top.frame st.frames u t.memory (x t sp) back →
    RegistersMatch q n st.top.frame st.frames u t.memory (x t sp) (saved_of t) → IsWordSlot q n s → length t.regs ≡ 32 → byte_of (setting q n) (object_address e) ≡ object → object < 2 ^ 64 → e ≤ u.last_number →
    (put : Puts q n here s object t) → here + 1 ≡ first_word q n + op_word (routine q n) (st.top.place + 1) →
    Arrives q n (moved st (st.top.place + 1) (with_slot s (address_word (object_address e)) st.top.frame) u) back put.after
object_put q n s e object st u back here t callee held kept ok many value small made put next =
    let word : Word = address_word (object_address e) in
    let bits : ℕ = byte_of (setting q n) (object_address e) in
    let new : List Part = with_value t.memory (x t sp + slot_offset (shape q n) s) 8 bits in
    let to : LinearState = moved st (st.top.place + 1) (with_slot s word st.top.frame) u in
    let memory : put.after.memory ≡ new = put.memory ∙ ap (with_value t.memory (x t sp + slot_offset (shape q n) s) 8) (sym value) in
    let stored = address_matches q n st.top.frame st.frames u t.memory (x t sp) back s (object_address e) held ok.inside ok.plain (omega (arith, value, small)) (omega (arith, made)) in
    record {
      runs = callee;
      registers = ap length put.regs ∙ many;
      pc = put.pc ∙ ap (address (setting q n).ground) next;
      memory = memory_at q n to back (x t sp) new put.after memory (ap (λ rs. reg_of rs sp) put.regs) stored;
      kept = registers_put q n st.top.frame st.frames u back s bits word t put.after held ok kept put.regs memory;
    }

-- a state that is the same
arrives_too : (q : Plan) (n : ℕ) (to : LinearState) (back : ℕ) (s t : State) → t ≡ s → Arrives q n to back s → Arrives q n to back t
arrives_too q n to back s t same there = subst (Arrives q n to back) (sym same) there

make_runs : CallsAreTurns → CallsAreMade → (image : Image) (pick : ℕ → ℕ) (p : Plan) (n s : ℕ) (st next : LinearState) (w : abi.World) (back : ℕ) → Stands p n st w back → StepAt p st next n (plain (make s)) → IsWordSlot p n s →
    is_full st.world ≡ false → MadeIn image pick p n s st w
make_runs turns made image pick p n s st next w back h at ok free =
    let g : Ground = (setting p n).ground in
    let here : ℕ = first_word p n + op_word (routine p n) st.top.place in
    let v : World = st.world in
    let u : World = made_world v in
    let e : ℕ = v.last_number + 1 in
    let own = operation_at p w.hart.memory n st.top.place (plain (make s)) h.memory.unit h.memory.top.known at.there in
    let parts = pieces_split w.hart.memory g here (runtime_call 3) (slot_stored (shape p n) a0 s ∷ []) own.code in
    let same_here : here ≡ here + 0 = omega arith in
    let none = goes_none g here 0 w.hart h.pc h.registers in
    let ec = ecall_reached turns image g here 0 0 3 w none (omega arith) (subst (λ k. PiecesAt w.hart.memory g k (runtime_call 3)) same_here parts.0) in
    let t : abi.World = asked ec.behind ec.at in
    let r = runtime_stays p st.frames v w ec.at ec.runtime h.runtime in
    let m = r.exceptions in
    let places : Addresses = addresses_of p in
    let gone : List ℕ = destroyed st.frames in
    let wish : ℕ = pick (ec.at.last_number + 1) in
    let few : live_count ec.at.exceptions.live < slots = grind (arith, nat_tests, m.count, free) in
    let given = slot_given ec.at.exceptions.live wish m.sound.slots few in
    let slot : ℕ = given.0 in
    let vacant : is_vacant ec.at.exceptions.live slot ≡ true = given.2 in
    let small : slot < 1024 = vacant_below ec.at.exceptions.live slot vacant in
    let number : ec.at.last_number + 1 ≡ e = ap (λ k. k + 1) r.last_number in
    let object : ℕ = object_of slot in
    let end : abi.World = gives 10 object (shows (Make (ec.at.last_number + 1)) (runtime_with_new slot Building t)) in
    let effect : call_effect 3 image wish t ≡ abi.goes end = allocate_is image wish t ∙ ap (made_in image.places t) given.1 in
    let w2 : abi.World = counted end in
    let two = subst (λ k. TurnsFor image pick 1 ec.at w2 (Make k ∷ [])) number (call_for made image pick 3 ec.at end ec.behind ec.calls ec.asks effect refl) in
    let q : Plan = with_object p e slot in
    let object_there : q.at (of_exception e) ≡ object = (new_at p e slot (of_exception e) refl).at in
    let making : Making p e slot v u = record {
      next = refl;
      number = refl;
      memory = refl;
      calls = refl;
      below = small;
      others = λ d live.
          let there = some_there (live_in v.live d) (sym (r.plan.live d) ∙ live) in
          let o = slots_apart places gone (exceptions_in v) (kept_by ec.at) slot m vacant d there.0 there.1 in
          (o.0, o.1, r.plan.size d live, o.2);
    } in
    let held = matches_made p e slot v u making n st.top.frame st.frames w.hart.memory (x w.hart sp) back h.memory in
    let s2 : State = w2.hart in
    let stack : x s2 sp ≡ x w.hart sp = read_other ec.behind.regs 10 sp object (λ d. absurd (omega (arith, d))) ∙ ec.stack in
    let held2 : MemoryMatches q n st.top.frame st.frames u s2.memory (x s2 sp) back
    = subst (λ ps. MemoryMatches q n st.top.frame st.frames u ps (x s2 sp) back) (sym ec.memory) (subst (λ a. MemoryMatches q n st.top.frame st.frames u w.hart.memory a back) (sym stack) held) in
    let at_u : LinearState = record { top = st.top; frames = st.frames; world = u } in
    let kept2 : RegistersMatch q n st.top.frame st.frames u s2.memory (x s2 sp) (saved_of s2)
    = kept_at q n at_u (x w.hart sp) w.hart.memory (saved_of w.hart) s2 ec.memory stack (given_in_first ec.behind s2 object refl ∙ ec.saved)
    (registers_made p e slot v u making n st.top.frame st.frames w.hart.memory (x w.hart sp) back (saved_of w.hart) h.memory h.kept) in
    let code2 : PieceAt s2.memory g (here + 2) (slot_stored (shape p n) a0 s) = subst (λ ps. PieceAt ps g (here + 2) (slot_stored (shape p n) a0 s)) (sym ec.memory) parts.1.0 in
    let given_a0 : x s2 a0 ≡ object = read_same ec.behind.regs 10 object (λ d. absurd (omega (arith, d))) (omega (arith, ec.registers)) in
    let put = slot_put q n st.top.frame st.frames u back (here + 2) a0 s object s2 held2 (record { inside = ok.inside; plain = ok.plain; near = ok.near }) code2 (ec.pc ∙ omega arith) given_a0 in
    let last = executes_turns image 1 w2 s2 put.after refl put.runs in
    let value : byte_of (setting q n) (object_address e) ≡ object = omega (arith, object_there) in
    let to : LinearState = moved st (st.top.place + 1) (made_frame v s st.top.frame) u in
    let there : Arrives q n to back put.after
    = object_put q n s e object st u back (here + 2) s2 h.runs held2 kept2 (record { inside = ok.inside; plain = ok.plain; near = ok.near }) (set_length ec.behind.regs 10 object ∙ ec.registers) value (omega (arith, small))
    (omega (arith, making.number)) put (omega (arith, own.next)) in
    let end_at : Arrives q n to back last.after.hart = arrives_too q n to back put.after last.after.hart last.hart there in
    let not_live = none_there v.live e v.last_number m.numbers refl in
    let runtime2 : RuntimeMatches q st.frames u w2 = record {
      input = r.input;
      replies = r.replies;
      last_number = number;
      terminating = r.terminating;
      exceptions = subst (λ k. ExceptionsMatch (addresses_of q) gone (exceptions_in u) (record {
        exceptions = with_header slot (new_header k Building) ec.at.exceptions;
        terminate_handler = ec.at.terminate_handler;
        unexpected_handler = ec.at.unexpected_handler;
      })) (sym number) (made_match places (λ d. q.at (of_exception d)) gone (exceptions_in v) (kept_by ec.at) e slot m refl vacant object_there
          (λ d le. (old_at p e slot (of_exception d) (grind (arith, nat_tests, le))).at));
      plan = plan_with p e slot v not_live r.plan;
    } in
    record {
      slot = slot;
      below = small;
      runs = record {
        turns = ec.turns + 1 + 1;
        few = omega (arith, ec.few);
        some = λ words. omega arith;
        after = last.after;
        runs = then_for image pick (ec.turns + 1) 1 w w2 last.after (Make e ∷ []) [] (then_for image pick ec.turns 1 w ec.at w2 [] (Make e ∷ []) (turns_for image pick ec.turns w ec.at [] ec.runs) two)
            (turns_for image pick 1 w2 last.after [] last.turns);
        holds = record {
          number = n;
          back = back;
          runs = end_at.runs;
          registers = end_at.registers;
          pc = end_at.pc;
          memory = end_at.memory;
          kept = end_at.kept;
          runtime = runtime_stays q st.frames u w2 last.after last.runtime runtime2;
        };
      };
    }

pub makes_run : CallsAreTurns → CallsAreMade → MakesRun
makes_run turns made image pick p n s st next w h at ok free =
    let went = make_step p n s st next at free in
    let done = make_runs turns made image pick p n s st next w h.back (stands_by p n st w h at.runs) at ok free in (
      ap (λ (y : LinearState). y.world.items) (sym went),
      done.slot,
      done.below,
      subst (λ (y : LinearState). MatchedFor image pick (length (linear_code (shape p n) (plain (make s)))) w (Make (st.world.last_number + 1) ∷ []) (λ v. Matches (with_object p (st.world.last_number + 1) done.slot) y v)) went done.runs,
    )
