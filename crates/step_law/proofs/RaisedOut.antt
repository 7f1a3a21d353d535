-- call_unexpected throws an exception behind some steps, and something stops it, in a whole run.
use Rattle.std.proofs.Common.{◌≡◌, ◌∙◌, refl, sym, ap, subst, arith, ℕ, ◌+◌, ◌≤◌, ◌<◌, ◌⊎◌, inl, inr, ℤ, true, false, List, ◌∷◌, length, length-append, Some, None}
use Rattle.meaning_forms.specs.Class.{contains}
use Rattle.run_items.specs.declared.item.Item.{Item}
use Rattle.cxa_runtime.specs.World as abi
use Rattle.eh_run.specs.Program.{program_of}
use Rattle.region_forms.specs.Form.{Op}
use Rattle.region_forms.specs.Lives.{can_travel}
use Rattle.region_forms.specs.World.{Word, flying, World, type_at}
use Rattle.region_forms.specs.Effect.{raises, cancels, flies, effect}
use Rattle.linear_forms.specs.Defined.{RunsAt}
use Rattle.linear_forms.specs.Linear.{plain}
use Rattle.linear_forms.specs.Search.{found, found_above}
use Rattle.linear_forms.specs.Stub.{Function, compiled, end_catch, terminating, call_unexpected, linear}
use Rattle.linear_forms.specs.Activation.{Activation, State, Code, goes_to, finishes, Final, by_program, fault, fetch, kinds, look}
use Rattle.linear_forms.specs.Machine.{act_on, step, go_on, exec}
use Rattle.linear_forms.specs.Operation.{performed}
use Rattle.linear_forms.specs.Pace.{paying, Leads}
use Rattle.linear_forms.specs.Unwinding.{raise}
use Rattle.linear_forms.proofs.Paces
use Rattle.exceptions_in_flight.specs.Targets.{AimsAt}
use Rattle.exceptions_in_flight.specs.Aims.{ComesToPad}
use Rattle.exceptions_in_flight.proofs.Targets.{searches_aim, flights_come_to_pads}
use Rattle.flight_homes.specs.Keeps.{TravelsAgain, gone}
use Rattle.flight_homes.specs.Lives.{known_in}
use Rattle.linear_invariant.specs.Calls.{Marks, unmarked}
use Rattle.linear_invariant.specs.Forced.{newest_forced, ForcedStays}
use Rattle.linear_invariant.specs.Handled.{open_handlers}
use Rattle.linear_invariant.specs.Held.{NoneHolds}
use Rattle.linear_invariant.specs.Stands.{NewMarked, StandsIn}
use Rattle.linear_invariant.proofs.Calls.{all_spared, others_spared}
use Rattle.linear_invariant.proofs.ForcedRuns.{steps_keep_forced}
use Rattle.linear_invariant.proofs.Marks.{marks_change}
use Rattle.linear_invariant.proofs.Steps.{run_stands, step_stands}
use Rattle.linear_invariant.proofs.Worlds.{But}
use Rattle.kept_selectors.proofs.Runs.{leads_keep}
use Rattle.source_bounds.specs.Compiled.{unit_for}
use Rattle.machine_simulation.specs.Plan.{Plan}
use Rattle.machine_simulation.specs.Calls.{stack_end, open_bytes}
use Rattle.machine_simulation.specs.Objects.{Shows}
use Rattle.machine_raises.specs.Throws.{HasAim}
use Rattle.runtime_invariant.specs.Aims.{is_entered}
use Rattle.stack_bounds.specs.Taken.{is_terminate_call, terminate_calls}
use Rattle.address_invariant.specs.Extents.{extents_of}
use Rattle.address_invariant.specs.Reaching.{IsBegunCall, VariablesLie, CallsReach, ObjectsReach, Reaches}
use Rattle.address_invariant.specs.Laws.{GoesOn}
use Rattle.address_invariant.proofs.Steps.{steps_reach}
use Rattle.stub_landings.specs.Landings.{resting}
use Rattle.stub_landings.specs.Rests.{Rests}
use Rattle.whole_runs.specs.Turns.{Made}
use Rattle.whole_runs.specs.Steps.{StaysBehind}
use Rattle.whole_runs.proofs.Staying.{deepest_grows}
use Rattle.whole_runs.proofs.Counts.{at_most}
use Rattle.whole_runs.proofs.Spending.{first_among}
use Rattle.cost_words.specs.Spends.{spends}
use Rattle.step_law.specs.Facts.{regions_for, needs_for, code_for, Facts}
use Rattle.step_law.specs.Standing.{HeaderAims, IsAimed, aims, StandsBy}
use Rattle.step_law.specs.Rows.{Run, FollowsIn}
use Rattle.step_law.proofs.Handled.{leads_handled}
use Rattle.step_law.proofs.Aligned.{CallsAlign, align_same, align_then, itself}
use Rattle.step_law.proofs.Bounded.{bounded, stands_bounded, aims_below}
use Rattle.step_law.proofs.Calm.{CalmSteps, calm_leads, calm_before, newest_stays}
use Rattle.step_law.proofs.Facing.{newest_made}
use Rattle.step_law.proofs.Founded.{leads_founded}
use Rattle.step_law.proofs.Keeping.{RuntimeKept, NotEntered, calm_marked, unmarked_stands, PlanGoes}
use Rattle.step_law.proofs.Landing.{begun_in, LandsIn, lands_in, lands_outside, lands_aligned, lands_once}
use Rattle.step_law.proofs.Raised.{raised_aims}
use Rattle.step_law.proofs.RaiseLeads.{still_whole, target_open}
use Rattle.step_law.proofs.Several.{no_pad_faults}

-- words that were aimed, of any exception but one
abbrev pub OtherAimed : Plan → List Activation → abi.World → ℕ → Word → Type 0
OtherAimed q fs w i (flying e d) = HeaderAims q fs w e d × But i e
OtherAimed q fs w i word = Unit {0}

-- what is known of an exception where it begins to travel, in the world in which it is raised
pub record MayTravelOut (raising : State) (e : ℕ) (v : World) : Type 0 where
  pub can : can_travel v e ≡ true
  pub whole : contains (gone (raising.top ∷ raising.frames)) e ≡ false
  pub again : TravelsAgain e (flies e v).caught

-- Steps lead from a state that stands to one of the same call that raises an exception. None of the calls has another, which is entered on the way.
module _ (x : Run) (q : Plan) (before : ℕ) (st : State) (w : abi.World) (facts : Facts x.program x.image x.carrying x.tables) (stands : StandsBy x.program x.image x.carrying x.tables q before st w)
    (i : ℕ) (none : NoneHolds x.carrying None (st.top ∷ st.frames) i) (n : ℕ) (raising : State) (own : CalmSteps (code_for x.program) n st raising) (function : raising.top.function ≡ st.top.function) (frames : raising.frames ≡ st.frames)
    (op : Op) (runs : RunsAt (code_for x.program) raising (linear (plain op))) (e : ℕ) (v : World) (does : effect (kinds (code_for x.program) raising.top.function) op raising.top.frame raising.world ≡ raises e v)
    (d : ℕ) (found_it : found_above (code_for x.program) (type_at v e) (raising.top ∷ raising.frames) ≡ Some d) where
  abbrev code : Code
  code = code_for x.program

  abbrev here : List Activation
  here = st.top ∷ st.frames

  abbrev calls : List Activation
  calls = raising.top ∷ raising.frames

  leads : Leads code n st (goes_to raising)
  leads = calm_leads code n st raising own

  raises_it : step code raising ≡ raise code e raising.top raising.frames v
  raises_it = ap (λ o. act_on code o raising.top raising.frames raising.world) runs ∙ ap (λ y. performed code y raising.top raising.frames raising.world) does

  pub comes : ComesToPad code (type_at v e) d e calls (flies e v) (step code raising)
  comes = subst (ComesToPad code (type_at v e) d e calls (flies e v)) (sym raises_it) ((flights_come_to_pads code e raising.top raising.frames v).raised d found_it)

  -- the pad is none
  pub no_pad : (f : Final) (u : World) → step code raising ≡ finishes f u → n ≤ 60 → StaysBehind (program_of x.image).image x.pick code (n + 1) st w → FollowsIn x before st w
  no_pad f u h least stays =
      let c : ComesToPad code (type_at v e) d e calls (flies e v) (finishes f u) = subst (ComesToPad code (type_at v e) d e calls (flies e v)) h comes in
      let faulty = no_pad_faults (fetch code c.call.function c.pad) (flying e d) c.number c.call.function c.pad c.call.frame c.outer (flies e v) u f (sym c.comes) in
      inr (inr (inr (record {
        steps = n + 1;
        how = f;
        world = u;
        over = Paces.leads_run code n 1 st (goes_to raising) leads ∙ ap (go_on (exec code 0)) h;
        stays = stays;
        no_end = λ why ends. let no : fault ≡ by_program why = sym faulty ∙ ends in absurd (cc no);
        few = let most = at_most code (n + 1) st in omega (arith, most, least);
      })))

  inv : StandsIn (unmarked (known_in (regions_for x.program))) code x.carrying stands.steps st
  inv = unmarked_stands x.program x.image x.carrying x.tables q before st w stands

  pub inv_raising : StandsIn (unmarked (known_in (regions_for x.program))) code x.carrying (stands.steps + n) raising
  inv_raising = run_stands (unmarked (known_in (regions_for x.program))) code x.carrying facts.fits n stands.steps st raising
      (λ j middle less l. calm_marked (unmarked (known_in (regions_for x.program))) code middle (λ z. tt) (calm_before code n st raising own j middle less l)) inv leads

  -- the one operation there
  same_op : (other : Op) → RunsAt code raising (linear (plain other)) → op ≡ other
  same_op other also = let same : Some (linear (plain op)) ≡ Some (linear (plain other)) = sym runs ∙ also in cc same

  module _ (next : State) (goes : step code raising ≡ goes_to next) where
    abbrev there : List Activation
    there = next.top ∷ next.frames

    landed : ComesToPad code (type_at v e) d e calls (flies e v) (goes_to next)
    landed = subst (ComesToPad code (type_at v e) d e calls (flies e v)) goes comes

    pub lands : LandsIn calls (flies e v) next
    lands = lands_in code (type_at v e) d e calls (flies e v) next landed

    pub on : next.top.function ≡ terminating → ⊥
    on ends = lands_outside code (type_at v e) d e calls (flies e v) next landed ends

    pub leads_all : Leads code (n + 1) st (goes_to next)
    leads_all = Paces.leads_both code n 1 st raising (goes_to next) leads (Paces.one_step code raising (goes_to next) goes)

    abbrev aimed_out : Word → Type 0
    aimed_out word = OtherAimed q here w i word ⊎ (word ≡ flying e d)

    abbrev marks : Marks
    marks = record { known = known_in (regions_for x.program); words = aimed_out }

    new_marked : NewMarked marks code raising
    new_marked = record { raised = λ other f u b also begins some. inr (marked other f u b also begins some); cancelled = λ other z u also begins. inl tt }
      where
        marked : (other : Op) (f : ℕ) (u : World) (b : ℕ) → RunsAt code raising (linear (plain other)) → effect (kinds code raising.top.function) other raising.top.frame raising.world ≡ raises f u →
            found code raising.top.function (look code raising.top.function raising.top.place) (type_at u f) raising.frames ≡ Some b → flying f b ≡ flying e d
        marked other f u b also begins some =
            let same : raises f u ≡ raises e v = sym begins ∙ ap (λ y. effect (kinds code raising.top.function) y raising.top.frame raising.world) (sym (same_op other also)) ∙ does in
            let first : f ≡ e = cc same in
            let second : u ≡ v = cc same in
            let mine = subst (λ y. found code raising.top.function (look code raising.top.function raising.top.place) (type_at v y) raising.frames ≡ Some b) first
            (subst (λ y. found code raising.top.function (look code raising.top.function raising.top.place) (type_at y f) raising.frames ≡ Some b) second some) in
            let third : Some b ≡ Some d = sym mine ∙ found_it in
            let fourth : b ≡ d = cc third in
            ap (λ y. flying y b) first ∙ ap (λ y. flying e y) fourth

    first_stands : StandsIn marks code x.carrying stands.steps st
    first_stands = marks_change (known_in (regions_for x.program)) (IsAimed q here w) aimed_out code x.carrying stands.steps st (But i) (others_spared x.carrying i None here none) (λ y b other can m. inl (m, other)) (λ z m. inl tt) stands.stands

    last_stands : StandsIn marks code x.carrying (stands.steps + n + 1) next
    last_stands = step_stands marks code x.carrying (stands.steps + n) raising next facts.fits new_marked
        (run_stands marks code x.carrying facts.fits n stands.steps st raising (λ j middle less l. calm_marked marks code middle (λ z. inl tt) (calm_before code n st raising own j middle less l)) first_stands leads) goes

    -- the forced unwind that goes on next
    newest_there : (newest_forced x.carrying None there ≡ None) ⊎ (newest_forced x.carrying None there ≡ newest_forced x.carrying None here)
    newest_there = by (steps_keep_forced (regions_for x.program) x.carrying (stands.steps + n) raising next facts.fits inv_raising goes) (newest_stays x.program x.image x.carrying x.tables facts n stands.steps st raising inv own)
      where
        by : ForcedStays code x.carrying raising next → (newest_forced x.carrying None calls ≡ None) ⊎ (newest_forced x.carrying None calls ≡ newest_forced x.carrying None here) →
            (newest_forced x.carrying None there ≡ None) ⊎ (newest_forced x.carrying None there ≡ newest_forced x.carrying None here)
        by (inl gone_on) first = inl gone_on
        by (inr (inl stays)) (inl gone_on) = inl (stays ∙ gone_on)
        by (inr (inl stays)) (inr same) = inr (stays ∙ same)
        by (inr (inr (z, begins, is))) first =
            let no : raises e v ≡ cancels z begins.world = sym does ∙ ap (λ y. effect (kinds code raising.top.function) y raising.top.frame raising.world) (same_op begins.op begins.runs) ∙ begins.begins in absurd (cc no)

    aligned_first : CallsAlign q q here calls
    aligned_first = subst (λ gs. CallsAlign q q here (raising.top ∷ gs)) (sym frames) (align_same q q (itself q) st.top raising.top st.frames function)

    module _ (may : MayTravelOut raising e v) (more : ℕ) (handlers : open_handlers (flies e v).caught ≤ open_handlers st.world.caught + more) (ending : v.ending ≡ st.world.ending) (p : Plan) (plan : PlanGoes q p)
        (reach : Reaches (extents_of p) (unit_for x.program) (needs_for x.program) raising) (numbers : v.last_number ≡ raising.world.last_number) where
      abbrev r : Plan
      r = resting p next

      plan_goes : GoesOn (extents_of p) (extents_of r) (unit_for x.program) raising.world next
      plan_goes = record {
        same = λ b begun. (refl, refl);
        objects = subst (ObjectsReach (extents_of p)) (sym lands.world) (record { globals = reach.objects.globals; exceptions = λ k made. reach.objects.exceptions k (omega (arith, made, numbers)) });
        opened = λ new. by next.top.function lands.function new;
      }
        where
          begun : IsBegunCall raising.world lands.call.function lands.call.frame.call
          begun = begun_in (extents_of p) (unit_for x.program) (needs_for x.program) raising.world lands.inner lands.call lands.outer
              (subst (λ fs. CallsReach (extents_of p) (unit_for x.program) (needs_for x.program) raising.world fs) lands.split reach.calls)

          by : (f : Function) → f ≡ lands.call.function → next.top.frame.call ≡ raising.world.calls → VariablesLie (extents_of r) (unit_for x.program) f next.top.frame.call
          by (compiled m) same new =
              let older : lands.call.frame.call < raising.world.calls = subst (λ g. IsBegunCall raising.world g lands.call.frame.call) (sym same) begun in
              absurd (omega (arith, older, new, lands.number))
          by end_catch same new = tt
          by terminating same new = tt
          by call_unexpected same new = tt

      aligned_last : CallsAlign p r calls there
      aligned_last = lands_aligned p r (record { unit = refl; hidden = refl }) calls (flies e v) next lands

      shorter : length there ≤ length calls
      shorter = let rest = ap length lands.frames in let whole = ap length lands.split ∙ length-append lands.inner (lands.call ∷ lands.outer) in omega (arith, rest, whole)

      aligned : CallsAlign q r here there
      aligned = align_then q q r here calls there shorter aligned_first (lands_aligned q r (record { unit = plan.frames.unit; hidden = plan.frames.hidden }) calls (flies e v) next lands)

      reach_there : Reaches (extents_of r) (unit_for x.program) (needs_for x.program) next
      reach_there = steps_reach (extents_of p) (extents_of r) (unit_for x.program) (needs_for x.program) raising next facts.reach reach (newest_made (unmarked (known_in (regions_for x.program))) code x.carrying (stands.steps + n) raising inv_raising) goes plan_goes

      module _ (turns : ℕ) (u : abi.World) (items : List Item) (others : (y : ℕ) → But i y → NotEntered items y) (kept : RuntimeKept w u items) (rests : Rests r next u) (stack : ℕ) (aim : HasAim p u e d stack calls)
          (stack_whole : stack + open_bytes p calls ≡ stack_end) where
        aims_there : AimsAt code (type_at v e) d calls
        aims_there = (searches_aim code (type_at v e) d calls).aims found_it

        aimed : HeaderAims r there u e d
        aimed = raised_aims code (type_at v e) p r calls next u e d stack aim aims_there stack_whole aligned_last refl rests (subst (λ (y : World). can_travel y e ≡ true) (sym lands.world) may.can)
            (still_whole code (type_at v e) d e calls (flies e v) next landed may.whole) (subst (λ (y : World). TravelsAgain e y.caught) (sym lands.world) may.again) (aims_below code (type_at v e) d calls aims_there)
            (target_open code (type_at v e) d e calls (flies e v) next landed)

        still : (y b : ℕ) → NotEntered items y → HeaderAims q here w y b → b < length there → HeaderAims r there u y b
        still y b none a below = record {
          inside = below;
          slot = a.slot;
          header = a.header;
          way = kept.headers a.slot a.header a.way (subst (λ k. is_entered k items ≡ false) (sym a.number) none);
          number = a.number;
          target = a.target ∙ sym (aligned.targets b a.inside below);
          table = λ m is. a.table m (sym (aligned.calls b a.inside below) ∙ is) ∙ ap (λ t. t m) (sym plan.tables);
        }

        now : (y b : ℕ) → aimed_out (flying y b) → b < length there → HeaderAims r there u y b
        now y b (inl a) below = still y b (others y a.1) a.0 below
        now y b (inr same) below =
            let one : e ≡ y = cc same in let two : d ≡ b = cc same in subst (λ k. HeaderAims r there u k b) one (subst (λ k. HeaderAims r there u e k) two aimed)

        stands_there : StandsIn (aims x.program r there u) code x.carrying (stands.steps + n + 1) next
        stands_there = marks_change (known_in (regions_for x.program)) (bounded (length there) aimed_out) (IsAimed r there u) code x.carrying (stands.steps + n + 1) next (λ y. Unit {0})
            (all_spared x.carrying (λ y. Unit {0}) (λ y. tt) None there) (λ y b any can m. now y b m.0 m.1) (λ z m. tt) (stands_bounded (known_in (regions_for x.program)) aimed_out code x.carrying (stands.steps + n + 1) next last_stands)

        once : terminate_calls there ≤ 1
        once =
            let fewer = lands_once calls (flies e v) next lands in
            let top : is_terminate_call raising.top.function ≡ is_terminate_call st.top.function = ap is_terminate_call function in
            let rest : terminate_calls raising.frames ≡ terminate_calls st.frames = ap terminate_calls frames in
            let least = stands.once in omega (arith, fewer, top, rest, least)

        pub pad_stands : more ≤ turns → StandsBy x.program x.image x.carrying x.tables r (before + turns) next u
        pad_stands enough = record {
          unit = plan.frames.unit ∙ stands.unit;
          base = plan.base ∙ stands.base;
          tables_are = plan.tables ∙ stands.tables_are;
          rests = rests;
          frozen = kept.memory ∙ stands.frozen;
          steps = stands.steps + n + 1;
          stands = stands_there;
          founded = leads_founded code (n + 1) st next stands.founded leads_all;
          selectors = leads_keep (regions_for x.program) x.carrying facts.fits facts.stops (n + 1) stands.steps st next inv stands.selectors leads_all;
          handlers = leads_handled x.program x.carrying (n + 1) stands.steps st next facts.fits inv stands.handlers leads_all;
          few = let same = ap (λ (y : World). open_handlers y.caught) lands.world in omega (arith, same, handlers, enough, stands.few);
          reaches = reach_there;
          hides = λ quiet. plan.frames.hidden ∙ stands.hides (sym ending ∙ sym (ap (λ (y : World). y.ending) lands.world) ∙ quiet);
          hidden = let grown = deepest_grows code (n + 1) st next leads_all in omega (arith, stands.hidden, plan.frames.hidden, grown);
          once = once;
          forced = λ z later. by z later newest_there;
        }
          where
            by : (z : ℤ) → newest_forced x.carrying None there ≡ Some z → (newest_forced x.carrying None there ≡ None) ⊎ (newest_forced x.carrying None there ≡ newest_forced x.carrying None here) → u.unwinding ≡ Some z
            by z later (inl gone_on) = let no : None ≡ Some z = sym gone_on ∙ later in absurd (cc no)
            by z later (inr same) = kept.unwinding ∙ stands.forced z (sym same ∙ later)

        pub pad_follows : more ≤ turns → Made (program_of x.image).image x.pick turns w u items → paying code (n + 1) st ≤ turns → turns ≤ spends code 1 st → StaysBehind (program_of x.image).image x.pick code (n + 1) st w → Shows st next items → FollowsIn x before st w
        pad_follows enough made paid least stays shows = inl (record {
          steps = n + 1;
          some = omega arith;
          next = next;
          leads = leads_all;
          stays = stays;
          items = items;
          shows = shows;
          turns = turns;
          paid = paid;
          few = (let all = first_among code (n + 1) st (omega arith) in omega (arith, least, all));
          soon = omega (arith, least);
          after = u;
          made = made;
          stands = (r, pad_stands enough);
        })
