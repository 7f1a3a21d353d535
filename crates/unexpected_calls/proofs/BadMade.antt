-- A bad_exception is made in place of what is not allowed.
use Rattle.std.proofs.Common.{◌≡◌, ◌∙◌, refl, sym, ap, subst, arith, ℕ, ◌+◌, ◌<◌, ◌≤◌, ◌==◌, Bool, true, false, List, [], ◌∷◌, Option, Some, None, is_some}
use Rattle.std.proofs.lemmas.Bool.Decides.{nat_tests}
use Rattle.run_items.specs.declared.item.Item.TheVariants.{Enter, Make}
use Rattle.rv64_isa.specs.State.{Part, State as Hart}
use Rattle.rv64_isa.specs.declared.step.Step.TheVariants.{Ecall}
use Rattle.rv64_isa.specs.Step.{step_of, x}
use Rattle.elf_image.specs.Clean.{CleanImage}
use Rattle.caught_stack.specs.declared.header.HeaderKind.TheVariants.{Building}
use Rattle.caught_stack.specs.Allocate.{with_header}
use Rattle.caught_stack.specs.Live.{slots, is_vacant, live_count}
use Rattle.caught_stack.proofs.Headers.{vacant_below}
use Rattle.cxa_runtime.specs.Objects.{object_of}
use Rattle.cxa_runtime.specs.World as abi
use Rattle.cxa_runtime.specs.World.{gives, shows}
use Rattle.cxa_runtime.specs.Raising.{Image}
use Rattle.cxa_runtime.specs.Allocate.{allocate, made_in, new_header, with_new as runtime_with_new}
use Rattle.cxa_runtime.specs.Call.{call_effect, numbered}
use Rattle.cxa_runtime.specs.Run.{counted}
use Rattle.eh_run.specs.Program.{program_of}
use Rattle.region_forms.specs.World.{of_exception, World, Exception, Live, building}
use Rattle.region_forms.specs.Effect.{entered, is_full}
use Rattle.linear_forms.specs.Stub.{call_unexpected}
use Rattle.linear_forms.specs.Activation.{Activation, State}
use Rattle.machine_forms.specs.Registers.{sp, a0, a7}
use Rattle.machine_pieces.specs.Turning.{Turns}
use Rattle.machine_pieces.proofs.Registers.{set_length, read_same, read_other}
use Rattle.machine_pieces.proofs.Turning.{turns_then}
use Rattle.machine_stubs.specs.Calls.{asked, CallsAreMade}
use Rattle.machine_stubs.specs.CallUnexpected.{UnexpectedAnswers}
use Rattle.machine_stubs.specs.Stretches.{Stands as StubStands, Room}
use Rattle.machine_simulation.specs.Plan.{Plan}
use Rattle.machine_simulation.specs.Exceptions.{Addresses, addresses_of, exceptions_in, kept_by, destroyed, live_in, ExceptionsMatch, PlanHas}
use Rattle.machine_simulation.specs.Matches.{RuntimeMatches}
use Rattle.machine_simulation.specs.Objects.{with_object}
use Rattle.machine_simulation.proofs.Matching.{runtime_stays}
use Rattle.machine_exceptions.specs.Picks.{TurnsFor}
use Rattle.machine_exceptions.proofs.LiveLists.{with_one, new_in, other_in}
use Rattle.machine_exceptions.proofs.Made.{slot_given, made_match, slots_apart}
use Rattle.machine_exceptions.proofs.Makes.{made_world}
use Rattle.machine_exceptions.proofs.Making.{Making, new_at, old_at, matches_made, registers_made}
use Rattle.machine_exceptions.proofs.Picking.{turns_for, then_for, call_for}
use Rattle.machine_raises.specs.Stacks.{IsRunning}
use Rattle.runtime_invariant.specs.Memory.{RunsKeepMemory}
use Rattle.unexpected_calls.proofs.Above.{stack_apart}
use Rattle.unexpected_calls.proofs.OverCall.{OverCall, over_beside, over_at}
use Rattle.unexpected_calls.proofs.Thrown.{Checked, running_then, running_behind}
use Rattle.machine_pieces.specs.Keeping.{saved_of}
use Rattle.machine_exceptions.proofs.Ecalls.{given_in_first}

pub allocate_is : (image : Image) (wish : ℕ) (t : abi.World) → call_effect 3 image wish t ≡ allocate image.places wish t
unfolding call_effect numbered
allocate_is image wish t = refl

-- ---- where the new object is

-- the plan has the exception
plan_with : (p : Plan) (e slot : ℕ) (v : World) → live_in v.live e ≡ None → PlanHas p v.live → PlanHas (with_object p e slot) (with_one v.live e building)
plan_with p e slot v none h = record {
  live = λ d. live_at d (e == d) refl;
  size = λ d live. size_at d live (e == d) refl;
  ints = λ d live. ints_at d live (e == d) refl;
}
  where
    one : (d : ℕ) → (e == d) ≡ true → of_exception d ≡ of_exception e
    one d is = let same : e ≡ d = grind (arith, nat_tests, is) in ap of_exception (sym same)

    live_at : (d : ℕ) (b : Bool) → (e == d) ≡ b → (with_object p e slot).live (of_exception d) ≡ is_some (live_in (with_one v.live e building) d)
    live_at d true is =
        let same : e ≡ d = grind (arith, nat_tests, is) in
        (new_at p e slot (of_exception d) (one d is)).live ∙ ap is_some (sym (ap (live_in (with_one v.live e building)) (sym same) ∙ new_in v.live e building none))
    live_at d false is = (old_at p e slot (of_exception d) is).live ∙ h.live d ∙ ap is_some (sym (other_in v.live e d building is))

    size_at : (d : ℕ) → (with_object p e slot).live (of_exception d) ≡ true → (b : Bool) → (e == d) ≡ b → (with_object p e slot).size (of_exception d) ≡ 0x1000
    size_at d live true is = (new_at p e slot (of_exception d) (one d is)).size
    size_at d live false is = let old = old_at p e slot (of_exception d) is in old.size ∙ h.size d (sym old.live ∙ live)

    ints_at : (d : ℕ) → (with_object p e slot).live (of_exception d) ≡ true → (b : Bool) → (e == d) ≡ b → (with_object p e slot).ints (of_exception d) ≡ true
    ints_at d live true is = (new_at p e slot (of_exception d) (one d is)).ints
    ints_at d live false is = let old = old_at p e slot (of_exception d) is in old.ints ∙ h.ints d (sym old.live ∙ live)

some_there : (o : Option Exception) → is_some o ≡ true → (y : Exception) × (o ≡ Some y)
some_there None h = absurd (cc h)
some_there (Some y) h = (y, refl)

pub none_live : (lives : List Live) (e last : ℕ) → ((d : ℕ) (y : Exception) → live_in lives d ≡ Some y → d ≤ last) → e ≡ last + 1 → live_in lives e ≡ None
none_live lives e last most next = by (live_in lives e) refl
  where
    by : (o : Option Exception) → live_in lives e ≡ o → live_in lives e ≡ None
    by None is = is
    by (Some y) is = absurd (omega (arith, most e y is, next))

-- the calls stand as they stood
over_made : (p : Plan) (e slot : ℕ) (v u : World) → Making p e slot v u → (n : ℕ) (a : Activation) (fs : List Activation) (memory : List Part) (stack back : ℕ) (regs : List ℕ) → OverCall p n a fs v memory stack back regs →
    OverCall (with_object p e slot) n a fs u memory stack back regs
over_made p e slot v u making n a fs memory stack back regs h =
    let m = matches_made p e slot v u making n a.frame fs memory (stack + 80) h.outer h.matches in
    let w = h.waits in
    let floor = h.stands.above in
    record {
      stands = record {
        above = h.stands.above;
        below = h.stands.below;
        saved = h.stands.saved;
        alone = λ b live. stack_apart (with_object p e slot) n a.frame fs u memory (stack + 80) h.outer stack 80 m (omega (arith, floor)) (omega arith) b live;
      };
      outer = h.outer;
      matches = m;
      waits = record { callee = w.callee; op = w.op; there = w.there; calls = w.calls; front = w.front; is = w.is; returns = w.returns; stands = m.top };
      registers = registers_made p e slot v u making n a.frame fs memory (stack + 80) h.outer regs h.matches h.registers;
    }

running_with : (p : Plan) (e slot : ℕ) (i : CleanImage) (s : Hart) → IsRunning p i s → IsRunning (with_object p e slot) i s
running_with p e slot i s h = record { image = h.image; lists = h.lists; base = h.base; tables = h.tables; run = h.run }

-- ---- it is made

-- the ECALL that makes it
pub record AtMake (i : CleanImage) (p : Plan) (e number back : ℕ) (caller : Activation) (others : List Activation) (st : State) (w : abi.World) : Type 0 where
  pub turns : ℕ
  pub few : turns ≤ 22
  pub at : abi.World
  pub runs : Turns (program_of i).image turns w at (Enter e ∷ [])
  pub behind : Hart
  pub calls : step_of at.hart ≡ (Ecall, behind)
  pub asks : x behind a7 ≡ 3
  pub stands : StubStands p.unit p.base call_unexpected 43 (x behind sp) 80 behind
  pub over : OverCall p number caller others (entered e st.world) behind.memory (x behind sp) back (saved_of behind)
  pub pointer : x behind sp ≡ x w.hart sp
  pub running : IsRunning p i behind
  pub runtime : RuntimeMatches p st.frames (entered e st.world) at

pub at_make : UnexpectedAnswers → RunsKeepMemory → (i : CleanImage) (p : Plan) (e number back : ℕ) (caller : Activation) (others : List Activation) (st : State) (w : abi.World) → Checked i p e number back 1 caller others st w → AtMake i p e number back caller others st w
at_make answers keeps i p e number back caller others st w chk =
    let image = (program_of i).image in
    let v : World = entered e st.world in
    let low : ℕ = x chk.after.hart sp in
    let come = answers.makes_a_bad_exception image p.unit p.base chk.after chk.stands chk.given in
    let r = come.holds in
    let over = over_beside p number caller others v chk.after.hart.memory r.behind.memory low back (low + 24) 8 (saved_of chk.after.hart) chk.over (omega arith) (omega arith) r.holds in
    record {
      turns = chk.turns + come.turns;
      few = omega (arith, chk.few, come.few);
      at = come.after;
      runs = turns_then image chk.turns come.turns w chk.after come.after (Enter e ∷ []) [] chk.runs come.runs;
      behind = r.behind;
      calls = r.calls;
      asks = r.asks;
      stands = subst (λ a. StubStands p.unit p.base call_unexpected 43 a 80 r.behind) (sym r.pointer) r.stands;
      over = over_at p number caller others v r.behind.memory low back (saved_of chk.after.hart) r.behind refl r.pointer r.variables over;
      pointer = r.pointer ∙ chk.pointer;
      running = running_behind i p come.after.hart r.behind r.calls (running_then keeps image i p come.turns chk.after come.after [] come.runs chk.running);
      runtime = runtime_stays p st.frames v chk.after come.after r.kept.runtime chk.runtime;
    }

-- the object is in a slot that was vacant
pub record BadMade (i : CleanImage) (pick : ℕ → ℕ) (p : Plan) (e number back slot : ℕ) (caller : Activation) (others : List Activation) (st : State) (w : abi.World) : Type 0 where
  pub turns : ℕ
  pub few : turns ≤ 23
  pub after : abi.World
  pub runs : TurnsFor (program_of i).image pick turns w after (Enter e ∷ Make (st.world.last_number + 1) ∷ [])
  pub stands : StubStands p.unit p.base call_unexpected 43 (x after.hart sp) 80 after.hart
  pub object : (with_object p (st.world.last_number + 1) slot).at (of_exception (st.world.last_number + 1)) ≡ object_of slot
  pub below : slot < 1024
  pub given : x after.hart a0 ≡ object_of slot
  pub over : OverCall (with_object p (st.world.last_number + 1) slot) number caller others (made_world (entered e st.world)) after.hart.memory (x after.hart sp) back (saved_of after.hart)
  pub pointer : x after.hart sp ≡ x w.hart sp
  pub running : IsRunning (with_object p (st.world.last_number + 1) slot) i after.hart
  pub runtime : RuntimeMatches (with_object p (st.world.last_number + 1) slot) st.frames (made_world (entered e st.world)) after

pub bad_made : CallsAreMade → (i : CleanImage) (pick : ℕ → ℕ) (p : Plan) (e number back : ℕ) (caller : Activation) (others : List Activation) (st : State) (w : abi.World) → AtMake i p e number back caller others st w → is_full st.world ≡ false →
    (slot : ℕ) × BadMade i pick p e number back slot caller others st w
bad_made made i pick p e number back caller others st w c free =
    let image = (program_of i).image in
    let v : World = entered e st.world in
    let u : World = made_world v in
    let e2 : ℕ = v.last_number + 1 in
    let t : abi.World = asked c.behind c.at in
    let r = c.runtime in
    let m = r.exceptions in
    let places : Addresses = addresses_of p in
    let gone : List ℕ = destroyed st.frames in
    let wish : ℕ = pick (c.at.last_number + 1) in
    let few : live_count c.at.exceptions.live < slots = grind (arith, nat_tests, m.count, free) in
    let given = slot_given c.at.exceptions.live wish m.sound.slots few in
    let slot : ℕ = given.0 in
    let vacant : is_vacant c.at.exceptions.live slot ≡ true = given.2 in
    let small : slot < 1024 = vacant_below c.at.exceptions.live slot vacant in
    let next : c.at.last_number + 1 ≡ e2 = ap (λ k. k + 1) r.last_number in
    let object : ℕ = object_of slot in
    let end : abi.World = gives 10 object (shows (Make (c.at.last_number + 1)) (runtime_with_new slot Building t)) in
    let effect : call_effect 3 image wish t ≡ abi.goes end = allocate_is image wish t ∙ ap (made_in image.places t) given.1 in
    let w2 : abi.World = counted end in
    let two = subst (λ k. TurnsFor image pick 1 c.at w2 (Make k ∷ [])) next (call_for made image pick 3 c.at end c.behind c.calls c.asks effect refl) in
    let q : Plan = with_object p e2 slot in
    let object_there : q.at (of_exception e2) ≡ object = (new_at p e2 slot (of_exception e2) refl).at in
    let making : Making p e2 slot v u = record {
      next = refl;
      number = refl;
      memory = refl;
      calls = refl;
      below = small;
      others = λ d live.
          let there = some_there (live_in v.live d) (sym (r.plan.live d) ∙ live) in
          let o = slots_apart places gone (exceptions_in v) (kept_by c.at) slot m vacant d there.0 there.1 in
          (o.0, o.1, r.plan.size d live, o.2);
    } in
    let over = over_made p e2 slot v u making number caller others c.behind.memory (x c.behind sp) back (saved_of c.behind) c.over in
    let pointer : x end.hart sp ≡ x c.behind sp = read_other c.behind.regs 10 2 object (λ d. absurd (omega (arith, d))) in
    let not_live = none_live v.live e2 v.last_number m.numbers refl in
    let running = running_with p e2 slot i c.behind c.running in (
      slot,
      record {
        turns = c.turns + 1;
        few = omega (arith, c.few);
        after = w2;
        runs = then_for image pick c.turns 1 w c.at w2 (Enter e ∷ []) (Make e2 ∷ []) (turns_for image pick c.turns w c.at (Enter e ∷ []) c.runs) two;
        stands = record {
          pc = c.stands.pc;
          registers = set_length c.behind.regs 10 object ∙ c.stands.registers;
          code = c.stands.code;
          room = subst (λ a. Room a 80 c.behind.memory) (sym pointer) c.stands.room;
        };
        object = object_there;
        below = small;
        given = read_same c.behind.regs 10 object (λ d. absurd (omega (arith, d))) (omega (arith, c.stands.registers));
        over = over_at q number caller others u c.behind.memory (x c.behind sp) back (saved_of c.behind) w2.hart refl pointer (given_in_first c.behind w2.hart object refl) over;
        pointer = pointer ∙ c.pointer;
        running = record { image = running.image; lists = running.lists; base = running.base; tables = running.tables; run = running.run };
        runtime = record {
          input = r.input;
          replies = r.replies;
          last_number = next;
          terminating = r.terminating;
          exceptions = subst (λ k. ExceptionsMatch (addresses_of q) gone (exceptions_in u) (record {
            exceptions = with_header slot (new_header k Building) c.at.exceptions;
            terminate_handler = c.at.terminate_handler;
            unexpected_handler = c.at.unexpected_handler;
          })) (sym next) (made_match places (λ d. q.at (of_exception d)) gone (exceptions_in v) (kept_by c.at) e2 slot m refl vacant object_there
              (λ d le. (old_at p e2 slot (of_exception d) (grind (arith, nat_tests, le))).at));
          plan = plan_with p e2 slot v not_live r.plan;
        };
      },
    )
