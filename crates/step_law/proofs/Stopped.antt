-- An exception that an operation of a compiled function raises, and that something stops, in a whole run.
use Rattle.std.proofs.Common.{◌≡◌, ◌∙◌, refl, sym, ap, subst, arith, ℕ, ◌+◌, ◌≤◌, ◌<◌, inl, inr, ℤ, true, false, List, ◌∷◌, Option, Some, None, length}
use Rattle.run_items.specs.declared.item.Item.{Item}
use Rattle.meaning_forms.specs.Class.{contains}
use Rattle.cxx_ast.specs.Plain.{Checked}
use Rattle.elf_image.specs.Clean.{CleanImage}
use Rattle.rv64_isa.specs.Step as isa
use Rattle.cxa_runtime.specs.World as abi
use Rattle.eh_run.specs.Program.{program_of}
use Rattle.region_forms.specs.Caught.{flown}
use Rattle.region_forms.specs.Form.{Op}
use Rattle.region_forms.specs.Lives.{can_travel}
use Rattle.region_forms.specs.World.{Base, flying, World, type_at}
use Rattle.region_forms.specs.Effect.{raises, cancels, flies, effect}
use Rattle.linear_forms.specs.Linear.{LinearOp, plain}
use Rattle.linear_forms.specs.Stub.{Function, compiled, end_catch, terminating, call_unexpected, linear}
use Rattle.linear_forms.specs.Activation.{Activation, State, Code, Next, goes_to, look, kinds}
use Rattle.linear_forms.specs.Defined.{RunsAt}
use Rattle.linear_forms.specs.Machine.{step}
use Rattle.linear_forms.specs.Operation.{act, performed}
use Rattle.linear_forms.specs.Pace.{pays_at, one_if, linear_pays}
use Rattle.linear_forms.specs.Search.{found, found_above}
use Rattle.linear_forms.specs.UnitRun.{code_of}
use Rattle.linear_forms.specs.Unwinding.{doomed, raised_to, unwind, raise}
use Rattle.exceptions_in_flight.specs.Targets.{AimsAt}
use Rattle.exceptions_in_flight.specs.Aims.{ComesToPad}
use Rattle.exceptions_in_flight.proofs.Targets.{searches_aim, flights_come_to_pads}
use Rattle.flight_homes.specs.Keeps.{Carrying, TravelsAgain, gone}
use Rattle.linear_invariant.specs.Forced.{newest_forced, ForcedStays}
use Rattle.linear_invariant.specs.Handled.{open_handlers}
use Rattle.linear_invariant.specs.Stands.{NewMarked}
use Rattle.linear_invariant.proofs.Calls.{all_spared}
use Rattle.linear_invariant.proofs.ForcedRuns.{steps_keep_forced}
use Rattle.linear_invariant.proofs.Lists.{few_flown}
use Rattle.source_bounds.specs.Compiled.{unit_for}
use Rattle.machine_forms.specs.Registers.{sp}
use Rattle.machine_simulation.specs.Plan.{Plan, shape}
use Rattle.machine_simulation.specs.Calls.{IsBegun}
use Rattle.machine_simulation.specs.Objects.{Shows}
use Rattle.machine_raises.specs.Throws.{HasAim}
use Rattle.address_invariant.specs.Extents.{extents_of}
use Rattle.address_invariant.specs.Reaching.{IsBegunCall, VariablesLie, CallsReach, ObjectsReach}
use Rattle.address_invariant.specs.Laws.{GoesOn}
use Rattle.address_invariant.proofs.Newest.{newest_was_made}
use Rattle.address_invariant.proofs.Steps.{steps_reach}
use Rattle.stub_landings.specs.Landings.{GoesOn as NotDoomed, pad_words}
use Rattle.stub_landings.specs.Rests.{Rests}
use Rattle.whole_runs.specs.Turns.{Made}
use Rattle.whole_runs.proofs.Rounds.{pays_known}
use Rattle.whole_runs.proofs.Single.{goes_on_one}
use Rattle.machine_forms.specs.LinearCode.{linear_code}
use Rattle.cost_turns.specs.Runs.{may_land}
use Rattle.whole_runs.proofs.Landing.{AtPad, Lands, raise_lands, at_pad}
use Rattle.step_law.specs.Facts.{regions_for, needs_for, code_for, Facts}
use Rattle.step_law.specs.Standing.{HeaderAims, StandsBy, Standing}
use Rattle.step_law.specs.Rows.{Run, IsAt, FollowsIn}
use Rattle.step_law.proofs.Aligned.{CallsAlign}
use Rattle.step_law.proofs.At.{fetches, same_code, step_acts, pad_paid}
use Rattle.step_law.proofs.Bounded.{aims_below}
use Rattle.step_law.proofs.Keeping.{RuntimeKept, NotEntered, unmarked_stands, PlanGoes, ShownBehind}
use Rattle.step_law.proofs.Landing.{LandsIn, lands_in, lands_aligned, lands_once}
use Rattle.step_law.proofs.Raised.{raised_aims}
use Rattle.step_law.proofs.RaiseLeads.{doomed_there, still_whole, target_open}
use Rattle.step_law.proofs.Raises.{stack_whole}
use Rattle.step_law.proofs.Raising.{raised_marks, raised_behind}
use Rattle.step_law.proofs.Landing.{begun_in}

-- ---- the forced unwind that goes on next

-- is that which was, or none, where none begins
pub uncancelled_forced : (p : Checked) (i : CleanImage) (k : Carrying) (tables : ℕ → ℕ) (q : Plan) (before : ℕ) (st next : State) (w u : abi.World) → Facts p i k tables → StandsBy p i k tables q before st w → step (code_for p) st ≡ goes_to next →
    ((o : Op) (z : ℤ) (v : World) → RunsAt (code_for p) st (linear (plain o)) → effect (kinds (code_for p) st.top.function) o st.top.frame st.world ≡ cancels z v → ⊥) → u.unwinding ≡ w.unwinding →
    (z : ℤ) → newest_forced k None (next.top ∷ next.frames) ≡ Some z → u.unwinding ≡ Some z
uncancelled_forced p i k tables q before st next w u f h e none same z now = by (steps_keep_forced (regions_for p) k h.steps st next f.fits (unmarked_stands p i k tables q before st w h) e)
  where
    by : ForcedStays (code_for p) k st next → u.unwinding ≡ Some z
    by (inl no_more) = let no : None ≡ Some z = sym no_more ∙ now in absurd (cc no)
    by (inr (inl stays)) = same ∙ h.forced z (sym stays ∙ now)
    by (inr (inr (y, begins, is))) = absurd (none begins.op y begins.world begins.runs begins.begins)

-- ---- an exception is raised

-- what is known where it begins to travel, in a world: it can, no open call waits for its destructor, and no handler has it that could leave it
pub record MayTravel (st : State) (e : ℕ) (v : World) : Type 0 where
  pub can : can_travel v e ≡ true
  pub whole : contains (gone (st.top ∷ st.frames)) e ≡ false
  pub again : TravelsAgain e (flies e v).caught
  pub caught : v.caught ≡ st.world.caught
  pub ending : v.ending ≡ st.world.ending

-- what a plan behind it has of the one before
pub record PlanGains (q r : Plan) (st : State) (e : ℕ) (v : World) : Type 0 where
  pub goes : PlanGoes q r
  pub same : (b : Base) → IsBegun st.world b → (r.ints b ≡ q.ints b) × (r.size b ≡ q.size b)
  pub objects : ObjectsReach (extents_of r) (flies e v)

-- what laws say of the world of the ABI machine there
pub record LandsAbove (x : Run) (q r : Plan) (st next : State) (w u : abi.World) (e most turns : ℕ) (items : List Item) : Type 0 where
  pub shows : Shows st next items
  pub made : Made (program_of x.image).image x.pick turns w u items
  pub few : turns ≤ most
  pub kept : RuntimeKept w u items
  pub none : (y : ℕ) → NotEntered items y
  pub rests : Rests r next u
  pub depth : ℕ
  pub found : found_above (code_of q.unit) (type_at next.world e) (st.top ∷ st.frames) ≡ Some depth
  pub aim : HasAim q u e depth (isa.x w.hart sp) (st.top ∷ st.frames)

module _ (x : Run) (q : Plan) (before n : ℕ) (o : LinearOp) (st next : State) (w : abi.World) (here_at : IsAt x q before n o st w) (op : Op) (is : o ≡ plain op) (unpaid : linear_pays o ≡ false) (e : ℕ) (v : World)
    (does : effect (kinds (code_for x.program) st.top.function) op st.top.frame st.world ≡ raises e v) (goes : step (code_for x.program) st ≡ goes_to next) (on : NotDoomed next) where
  abbrev code : Code
  code = code_for x.program

  abbrev here : List Activation
  here = st.top ∷ st.frames

  abbrev there : List Activation
  there = next.top ∷ next.frames

  raises_it : step code st ≡ raise code e st.top st.frames v
  raises_it = step_acts x q before n o st w here_at ∙ ap (λ y. act code y st.top st.frames st.world) is ∙ ap (λ y. performed code y st.top st.frames st.world) does

  -- it comes to a landing pad
  lands_at : AtPad code next
  lands_at = at_pad code (step code st) next (subst (Lands code) (sym raises_it) (raise_lands code e st.top st.frames v)) goes on

  -- something stops it
  record IsStopped : Type 0 where
    depth : ℕ
    finds : found code st.top.function (look code st.top.function st.top.place) (type_at v e) st.frames ≡ Some depth
    comes : ComesToPad code (type_at v e) depth e here (flies e v) (goes_to next)

  is_stopped : IsStopped
  is_stopped = by (found code st.top.function (look code st.top.function st.top.place) (type_at v e) st.frames) refl
    where
      onward : ℕ → Next
      onward t = unwind code (look code st.top.function st.top.place) t e st.top.function st.top.frame st.frames (flies e v)

      by : (y : Option ℕ) → found code st.top.function (look code st.top.function st.top.place) (type_at v e) st.frames ≡ y → IsStopped
      by None none =
          let lost : raise code e st.top st.frames v ≡ doomed e here v = ap (λ y. raised_to y e here v onward) none in
          absurd (on (doomed_there e here v next (sym lost ∙ sym raises_it ∙ goes)))
      by (Some d) some = record {
        depth = d;
        finds = some;
        comes = subst (ComesToPad code (type_at v e) d e here (flies e v)) (sym raises_it ∙ goes) ((flights_come_to_pads code e st.top st.frames v).raised d some);
      }

  -- the one operation there
  same_op : (other : Op) → RunsAt code st (linear (plain other)) → op ≡ other
  same_op other runs =
      let same : Some (linear o) ≡ Some (linear (plain other)) = sym (fetches x q before n o st w here_at) ∙ runs in
      let one : o ≡ plain other = cc same in
      let two : plain op ≡ plain other = sym is ∙ one in
      cc two

  not_cancelled : (other : Op) (z : ℤ) (u : World) → RunsAt code st (linear (plain other)) → effect (kinds code st.top.function) other st.top.frame st.world ≡ cancels z u → ⊥
  not_cancelled other z u runs begins =
      let no : raises e v ≡ cancels z u = sym does ∙ ap (λ y. effect (kinds code st.top.function) y st.top.frame st.world) (same_op other runs) ∙ begins in cc no

  module _ (s : IsStopped) where
    lands : LandsIn here (flies e v) next
    lands = lands_in code (type_at v e) s.depth e here (flies e v) next s.comes

    -- it alone is newly marked
    new_marked : NewMarked (raised_marks x.program q here w e s.depth) code st
    new_marked = record {
      raised = λ other f u d runs begins some. inr (marked other f u d runs begins some);
      cancelled = λ other z u runs begins. inl tt;
    }
      where
        marked : (other : Op) (f : ℕ) (u : World) (d : ℕ) → RunsAt code st (linear (plain other)) → effect (kinds code st.top.function) other st.top.frame st.world ≡ raises f u →
            found code st.top.function (look code st.top.function st.top.place) (type_at u f) st.frames ≡ Some d → flying f d ≡ flying e s.depth
        marked other f u d runs begins some =
            let same : raises f u ≡ raises e v = sym begins ∙ ap (λ y. effect (kinds code st.top.function) y st.top.frame st.world) (sym (same_op other runs)) ∙ does in
            let first : f ≡ e = cc same in
            let second : u ≡ v = cc same in
            let own = subst (λ y. found code st.top.function (look code st.top.function st.top.place) (type_at v y) st.frames ≡ Some d) first
            (subst (λ y. found code st.top.function (look code st.top.function st.top.place) (type_at y f) st.frames ≡ Some d) second some) in
            let third : Some d ≡ Some s.depth = sym own ∙ s.finds in
            let fourth : d ≡ s.depth = cc third in
            ap (λ y. flying y d) first ∙ ap (λ y. flying e y) fourth

    module _ (may : MayTravel st e v) (r : Plan) (gains : PlanGains q r st e v) where
      plan_goes : GoesOn (extents_of q) (extents_of r) (unit_for x.program) st.world next
      plan_goes = record { same = gains.same; objects = subst (ObjectsReach (extents_of r)) (sym lands.world) gains.objects; opened = λ new. by next.top.function lands.function new }
        where
          begun : IsBegunCall st.world lands.call.function lands.call.frame.call
          begun = begun_in (extents_of q) (unit_for x.program) (needs_for x.program) st.world lands.inner lands.call lands.outer
              (subst (λ fs. CallsReach (extents_of q) (unit_for x.program) (needs_for x.program) st.world fs) lands.split here_at.stands.reaches.calls)

          by : (f : Function) → f ≡ lands.call.function → next.top.frame.call ≡ st.world.calls → VariablesLie (extents_of r) (unit_for x.program) f next.top.frame.call
          by (compiled m) same new =
              let older : lands.call.frame.call < st.world.calls = subst (λ g. IsBegunCall st.world g lands.call.frame.call) (sym same) begun in
              absurd (omega (arith, older, new, lands.number))
          by end_catch same new = tt
          by terminating same new = tt
          by call_unexpected same new = tt

      module _ (turns : ℕ) (u : abi.World) (items : List Item) (l : LandsAbove x q r st next w u e (length (linear_code (shape q n) o) + pad_words next.top.function) turns items) where
        aligned : CallsAlign q r here there
        aligned = lands_aligned q r gains.goes.frames here (flies e v) next lands

        shown : ShownBehind x.program x.carrying q r turns st next w u items
        shown = record {
          plan = gains.goes;
          aligned = aligned;
          spared = all_spared x.carrying (NotEntered items) l.none None there;
          rests = l.rests;
          few = few;
          reaches = steps_reach (extents_of q) (extents_of r) (unit_for x.program) (needs_for x.program) st next here_at.facts.reach here_at.stands.reaches (newest_was_made q st w here_at.matches) goes plan_goes;
          ending = λ none. sym may.ending ∙ sym (ap (λ (y : World). y.ending) lands.world) ∙ none;
          once = let fewer = lands_once here (flies e v) next lands in let least = here_at.stands.once in omega (arith, fewer, least);
          forced = uncancelled_forced x.program x.image x.carrying x.tables q before st next w u here_at.facts here_at.stands goes not_cancelled l.kept.unwinding;
        }
          where
            few : open_handlers next.world.caught ≤ open_handlers st.world.caught + turns
            few =
                let handlers : open_handlers next.world.caught ≡ open_handlers (flown e v.caught) = ap (λ (y : World). open_handlers y.caught) lands.world in
                let same = few_flown e v.caught in
                let as_were : open_handlers v.caught ≡ open_handlers st.world.caught = ap open_handlers may.caught in
                omega (arith, handlers, same, as_were)

        -- what the search finds
        same_depth : l.depth ≡ s.depth
        same_depth =
            let own : found_above code (type_at next.world e) here ≡ Some l.depth = subst (λ c. found_above c (type_at next.world e) here ≡ Some l.depth) (same_code x q before n o st w here_at) l.found in
            let again : found_above code (type_at v e) here ≡ Some l.depth = subst (λ (y : World). found_above code (type_at y e) here ≡ Some l.depth) lands.world own in
            let both : Some l.depth ≡ Some s.depth = sym again ∙ s.finds in
            cc both

        aimed : HeaderAims r there u e s.depth
        aimed =
            let aims : AimsAt code (type_at v e) s.depth here = (searches_aim code (type_at v e) s.depth here).aims s.finds in
            let aim = subst (λ d. HasAim q u e d (isa.x w.hart sp) here) same_depth l.aim in
            raised_aims code (type_at v e) q r here next u e s.depth (isa.x w.hart sp) aim aims (stack_whole x q before n o st w here_at) aligned gains.goes.tables l.rests
            (subst (λ (y : World). can_travel y e ≡ true) (sym lands.world) may.can) (still_whole code (type_at v e) s.depth e here (flies e v) next s.comes may.whole)
            (subst (λ (y : World). TravelsAgain e y.caught) (sym lands.world) may.again) (aims_below code (type_at v e) s.depth here aims) (target_open code (type_at v e) s.depth e here (flies e v) next s.comes)

        follows_by : FollowsIn x before st w
        follows_by =
            let paid : pays_at code st ≡ false = subst (λ c. pays_at c st ≡ false) (same_code x q before n o st w here_at) (pays_known (program_of x.image).image x.pick q st w n o here_at.runs here_at.there ∙ unpaid) in
            let none = ap one_if paid in
            inl (goes_on_one (program_of x.image).image x.pick code st w (Standing x.program x.image x.carrying x.tables) before next items turns u goes l.shows (omega (arith, none)) (pad_paid x q before n o st w here_at next turns goes (ap (λ y. may_land (Some (linear y))) is) lands_at l.few) l.made (
              r,
              raised_behind x.program x.image x.carrying x.tables here_at.facts q r before turns st next w u items here_at.stands e s.depth goes new_marked l.kept shown aimed,
            ))

  -- a raise that lands is followed
  pub stopped_follows : MayTravel st e v → (r : Plan) → PlanGains q r st e v → (turns : ℕ) (u : abi.World) (items : List Item) → LandsAbove x q r st next w u e (length (linear_code (shape q n) o) + pad_words next.top.function) turns items → FollowsIn x before st w
  stopped_follows may r gains turns u items l = follows_by is_stopped may r gains turns u items l
