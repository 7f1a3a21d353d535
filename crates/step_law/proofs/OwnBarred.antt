-- A forced unwind goes on from end_catch or from call_unexpected and comes to a call out of which nothing may come, in a whole run.
use Rattle.std.proofs.Common.{◌≡◌, ◌∙◌, refl, sym, ap, subst, arith, ℕ, ◌+◌, ◌≤◌, ℤ, false, List, [], ◌∷◌, append-nil, Some}
use Rattle.run_items.specs.declared.item.Item.TheVariants.{Free}
use Rattle.cxa_runtime.specs.World as abi
use Rattle.eh_run.specs.Program.{program_of}
use Rattle.linear_forms.specs.Stub.{Function, compiled, end_catch, terminating, call_unexpected}
use Rattle.linear_forms.specs.Activation.{Activation, State, Code, goes_to, terminated}
use Rattle.linear_forms.specs.Machine.{step}
use Rattle.linear_forms.specs.UnitRun.{code_of}
use Rattle.flight_homes.specs.Lives.{known_in}
use Rattle.flight_homes.specs.OpenCalls.{CallsStand}
use Rattle.linear_invariant.specs.Calls.{unmarked}
use Rattle.linear_invariant.specs.Stands.{StandsIn}
use Rattle.linear_invariant.proofs.Steps.{steps_stand}
use Rattle.source_bounds.specs.Compiled.{unit_for}
use Rattle.machine_stubs.specs.Stretches.{stub_word, frame_size}
use Rattle.machine_simulation.specs.Calls.{frame_of}
use Rattle.machine_simulation.specs.Objects.{without_object}
use Rattle.machine_simulation.specs.Plan.{Plan}
use Rattle.machine_simulation.specs.Entering.{entry_turns}
use Rattle.machine_exceptions.specs.Terminates.{waiting_terminate}
use Rattle.raise_ends.specs.Ends.{HandlerFits}
use Rattle.own_ends.specs.Overflow.{LacksRoom}
use Rattle.own_ends.specs.Resumes.{held_back, CatchFreesOnTheWay}
use Rattle.own_ends.specs.Unwinds.{last_state, last_plan, last_items, last_turns, OwnBarred, OwnOverflows, OwnUnwindsEnd}
use Rattle.stack_bounds.specs.Taken.{is_terminate_call, StacksHoldCalls}
use Rattle.address_invariant.specs.Extents.{extents_of}
use Rattle.address_invariant.specs.Reaching.{VariablesLie}
use Rattle.address_invariant.proofs.Steps.{steps_reach}
use Rattle.rv64_isa.specs.Step.{x as hart_at}
use Rattle.machine_forms.specs.Registers.{sp}
use Rattle.step_law.specs.Facts.{regions_for, needs_for, code_for}
use Rattle.step_law.specs.Own.{StandsAt}
use Rattle.step_law.specs.OwnUnwindEnds.{GoesOut, OwnBarredFollow}
use Rattle.step_law.specs.Rows.{Run, FollowsIn}
use Rattle.step_law.proofs.Barred.{not_ending}
use Rattle.step_law.proofs.Facing.{runs_image, newest_made}
use Rattle.step_law.proofs.ForcedEnds.{forced_terminates}
use Rattle.step_law.proofs.GoingOff.{GoesOff, goes_off, off_forces, off_calm, off_quiet}
use Rattle.step_law.proofs.OwnLeaving.{own_same, own_stands}
use Rattle.step_law.proofs.OwnBarring.{LastThere, own_either}
use Rattle.step_law.proofs.Rooms.{few_to_enter, own_page}

module _ (x : Run) (q : Plan) (before m : ℕ) (z : ℤ) (st next : State) (w : abi.World) (at : StandsAt x q before st w) (law : OwnUnwindsEnd) (holds : StacksHoldCalls) where
  abbrev run_code : Code
  run_code = code_for x.program

  named_there : (program_of x.image).image.places.terminate ≡ stub_word q.base terminating 0
  named_there = at.facts.named ∙ ap (λ b. stub_word b terminating 0) (sym at.stands.base)

  stands_there : StandsIn (unmarked (known_in (regions_for x.program))) run_code x.carrying at.stands.steps st
  stands_there = own_stands x q before st w at

  -- terminate is called where the unwind comes to
  terminates_by : (f : Function) (g : GoesOff x q f z st w) → step run_code (last_state f st) ≡ goes_to next → next.top.function ≡ terminating →
      (gs : List Activation) × (step run_code (last_state f st) ≡ terminated (last_state f st).world.installed.terminate_handler gs (last_state f st).world) × ((last_state f st).world.ending ≡ false)
  terminates_by f g e ends =
      let last : State = last_state f st in
      let forces = off_forces x q before z st w at f g in
      let t = forced_terminates run_code z last.world next ends last.top last.frames (sym forces ∙ e) in
      (t.0, forces ∙ t.1, not_ending last.world.installed.terminate_handler t.0 last.world next (sym t.1 ∙ sym forces ∙ e))

  module _ (f : Function) (g : GoesOff x q f z st w) (e : step run_code (last_state f st) ≡ goes_to next) (ends : next.top.function ≡ terminating) (some : (last_state f st).world.installed.terminate_handler ≡ Some m) where
    in_own : step (code_of q.unit) (last_state f st) ≡ goes_to next
    in_own = ap (λ c. step c (last_state f st)) (own_same x q before st w at) ∙ e

    fits_by : CallsStand (last_state f st) → HandlerFits (last_plan f q st) m (last_state f st) → OwnBarred (last_plan f q st) x.image m (last_state f st) w (last_turns f + 6 + entry_turns (last_plan f q st) m) (last_items f st)
    fits_by stand fits = law.calls_the_handler x.image q f m z st next w g.unwinds (runs_image x q before st w at.facts at.stands) g.called in_own ends stand named_there some fits

    over_by : (last_plan f q st).hidden ≡ 0 → LacksRoom (last_plan f q st) m (waiting_terminate m ∷ (last_state f st).top ∷ (last_state f st).frames) → (j : ℕ) → last_turns f + 12 ≤ j →
        OwnOverflows (last_plan f q st) x.image x.pick j m (last_state f st) w (last_items f st)
    over_by none lacks j many = law.handlers_overflow x.image x.pick j q f m z st next w g.unwinds (runs_image x q before st w at.facts at.stands) g.called in_own ends named_there some none lacks many

  from_unexpected : (out : GoesOut call_unexpected q st w z) → GoesOff x q call_unexpected z st w → step run_code st ≡ goes_to next → next.top.function ≡ terminating → st.world.installed.terminate_handler ≡ Some m → FollowsIn x before st w
  from_unexpected out g e ends some =
      let t = terminates_by call_unexpected g e ends in
      let function_is = out.0.rests.runs in
      let there : LastThere x q q st.top.place st.world [] t.0 m st w = record {
        steps = at.stands.steps;
        inv = stands_there;
        reaches = record { objects = at.stands.reaches.objects; calls = at.stands.reaches.calls };
        calm = off_calm x q before z st w at call_unexpected g;
        quiet_pay = off_quiet x q before z st w at call_unexpected g;
        terminates = t.1;
        unit = refl;
        base = refl;
        tables = refl;
        hidden = refl;
        ending = refl;
        caught = refl;
        quiet = t.2;
        some = some;
        off = out.0.rests.runtime.terminating;
        size = subst (λ f. frame_of q.unit q.hidden f ≤ 80) (sym function_is) (omega arith);
        page = (let free = own_page q call_unexpected st.frames st.world w.hart.memory (hart_at w.hart sp) out.0.rests.back out.0.rests.memory in let top : frame_of q.unit q.hidden st.top.function ≡ frame_size call_unexpected = ap (frame_of q.unit q.hidden) function_is in omega (arith, free, top));
        own = ap is_terminate_call function_is;
        shows = sym (append-nil st.world.items);
        entered = λ k. refl;
        more = λ n. n;
        more_some = λ n less. less;
        one_more = λ n. omega arith;
        calmly = λ n y rest. rest;
        spent = last_turns call_unexpected + 6 + entry_turns q m;
        few = (let entry = few_to_enter q m in omega (arith, entry));
        paid = λ n. refl;
      } in
      own_either x q q before st.top.place st.world [] t.0 m st w at there 15 (omega arith) (fits_by call_unexpected g e ends some stands_there.stand)
      (λ lacks. over_by call_unexpected g e ends some (at.stands.hides t.2) lacks) holds

  from_catch : (out : GoesOut end_catch q st w z) → CatchFreesOnTheWay → GoesOff x q end_catch z st w → step run_code (last_state end_catch st) ≡ goes_to next → next.top.function ≡ terminating → st.world.installed.terminate_handler ≡ Some m → FollowsIn x before st w
  from_catch out run g e ends some =
      let middle : State = last_state end_catch st in
      let freed_plan : Plan = without_object q (held_back st) in
      let t = terminates_by end_catch g e ends in
      let function_is = out.0.rests.runs in
      let frees : step run_code st ≡ goes_to middle = subst (λ c. step c st ≡ goes_to middle) (own_same x q before st w at) (run.frees x.image q st w out.0) in
      let behind = steps_stand (regions_for x.program) x.carrying at.stands.steps st middle at.facts.fits stands_there frees in
      let there : LastThere x q freed_plan (st.top.place + 1) middle.world (Free (held_back st) ∷ []) t.0 m st w = record {
        steps = at.stands.steps + 1;
        inv = behind;
        reaches = steps_reach (extents_of q) (extents_of freed_plan) (unit_for x.program) (needs_for x.program) st middle at.facts.reach at.stands.reaches
            (newest_made (unmarked (known_in (regions_for x.program))) run_code x.carrying at.stands.steps st stands_there) frees (record {
              same = λ b begun. (refl, refl);
              objects = record { globals = at.stands.reaches.objects.globals; exceptions = at.stands.reaches.objects.exceptions };
              opened = λ new. subst (λ f. VariablesLie (extents_of freed_plan) (unit_for x.program) f st.top.frame.call) (sym function_is) tt;
            });
        calm = off_calm x q before z st w at end_catch g;
        quiet_pay = off_quiet x q before z st w at end_catch g;
        terminates = t.1;
        unit = refl;
        base = refl;
        tables = refl;
        hidden = refl;
        ending = refl;
        caught = refl;
        quiet = t.2;
        some = some;
        off = out.0.rests.runtime.terminating;
        size = subst (λ f. frame_of q.unit q.hidden f ≤ 80) (sym function_is) (omega arith);
        page = (let free = own_page q end_catch st.frames st.world w.hart.memory (hart_at w.hart sp) out.0.rests.back out.0.rests.memory in let top : frame_of q.unit q.hidden st.top.function ≡ frame_size end_catch = ap (frame_of q.unit q.hidden) function_is in omega (arith, free, top));
        own = ap is_terminate_call function_is;
        shows = refl;
        entered = λ k. refl;
        more = g.more;
        more_some = g.some;
        one_more = g.one_more;
        calmly = g.calmly;
        spent = last_turns end_catch + 6 + entry_turns freed_plan m;
        few = (let entry = few_to_enter freed_plan m in omega (arith, entry));
        paid = g.paid;
      } in
      own_either x q freed_plan before (st.top.place + 1) middle.world (Free (held_back st) ∷ []) t.0 m st w at there 20 (omega arith) (fits_by end_catch g e ends some behind.stand)
      (λ lacks. over_by end_catch g e ends some (at.stands.hides t.2) lacks) holds

pub own_barred_follow : OwnUnwindsEnd → CatchFreesOnTheWay → StacksHoldCalls → OwnBarredFollow
own_barred_follow law run holds x q before (compiled n) m z st next w at out e ends some = absurd out
own_barred_follow law run holds x q before end_catch m z st next w at out e ends some = from_catch x q before m z st next w at law holds out run (goes_off x q before z st w at run end_catch out) e ends some
own_barred_follow law run holds x q before terminating m z st next w at out e ends some = absurd out
own_barred_follow law run holds x q before call_unexpected m z st next w at out e ends some = from_unexpected x q before m z st next w at law holds out (goes_off x q before z st w at run call_unexpected out) e ends some
