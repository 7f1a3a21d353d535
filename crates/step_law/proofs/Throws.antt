-- An exception is thrown in a whole run: something stops it, or nothing does.
use Rattle.std.proofs.Common.{◌≡◌, ◌∙◌, refl, sym, ap, subst, arith, ℕ, Bool, true, false, [], ◌∷◌, ◌++◌, ◌≤◌, Option, Some, None}
use Rattle.meaning_forms.specs.Class.{contains}
use Rattle.rv64_isa.specs.Step as isa
use Rattle.cxa_runtime.specs.World as abi
use Rattle.eh_run.specs.Program.{program_of}
use Rattle.region_forms.specs.Caught.{flown}
use Rattle.region_forms.specs.Form.{throw}
use Rattle.region_forms.specs.Lives.{is_being_built}
use Rattle.region_forms.specs.World.{World, building, native, exception_in_slot, exception_type, type_at}
use Rattle.region_forms.specs.Effect.{raises, only_where, kept}
use Rattle.linear_forms.specs.Linear.{plain}
use Rattle.linear_forms.specs.Search.{found_above}
use Rattle.linear_forms.specs.Activation.{State, Code, goes_to, not_defined}
use Rattle.linear_forms.specs.Defined.{IsDefined}
use Rattle.linear_forms.specs.Machine.{step}
use Rattle.linear_forms.specs.Operation.{performed}
use Rattle.flight_homes.specs.Keeps.{destroyed_in, gone}
use Rattle.flight_homes.specs.Lives.{known_in}
use Rattle.linear_invariant.specs.Asked.{ThrowAsked}
use Rattle.linear_invariant.proofs.Asked.{throws_are_asked}
use Rattle.linear_invariant.proofs.Lists.{unhandled_flown, unhandled_again}
use Rattle.linear_invariant.proofs.Worlds.{kept_can}
use Rattle.machine_forms.specs.Registers.{sp}
use Rattle.machine_simulation.specs.Plan.{Plan}
use Rattle.machine_simulation.specs.Objects.{Shows}
use Rattle.machine_exceptions.proofs.Enters.{exception_is}
use Rattle.machine_exceptions.proofs.Travels.{building_there}
use Rattle.machine_raises.proofs.Replaced.{replaced_in}
use Rattle.machine_raises.specs.Throws.{RaisedTo}
use Rattle.address_invariant.specs.Extents.{extents_of}
use Rattle.address_invariant.specs.Reaching.{ObjectsReach}
use Rattle.stub_landings.specs.Landings.{resting, GoesOn, ThrowsLand}
use Rattle.stub_landings.specs.Rests.{Rests}
use Rattle.whole_runs.proofs.Single.{made_by_turns}
use Rattle.step_law.specs.Facts.{regions_for, code_for}
use Rattle.step_law.specs.Dooms.{DoomsFollow}
use Rattle.step_law.specs.Rows.{Run, IsAt, FollowsIn}
use Rattle.step_law.specs.Throws.{ThrowsFollow}
use Rattle.step_law.proofs.At.{fetches, step_acts, step_at}
use Rattle.step_law.proofs.Keeping.{kept_by_turns, unmarked_stands}
use Rattle.step_law.proofs.Raises.{is_running, may_throw}
use Rattle.step_law.proofs.RaiseLeads.{raise_follows}
use Rattle.step_law.proofs.Returns.{undefined_breaks}
use Rattle.step_law.proofs.Stopped.{MayTravel, PlanGains, LandsAbove, stopped_follows}

-- a plan behind which no exception is new
pub rests_gains : (q : Plan) (st next : State) (e : ℕ) (v : World) → v.last_number ≡ st.world.last_number → ObjectsReach (extents_of q) st.world → PlanGains q (resting q next) st e v
rests_gains q st next e v last objects = record {
  goes = record { frames = record { unit = refl; hidden = refl }; base = refl; tables = refl };
  same = λ b begun. (refl, refl);
  objects = record { globals = objects.globals; exceptions = λ m made. let earlier : m ≤ v.last_number = made in objects.exceptions m (omega (arith, earlier, last)) };
}

-- what laws of landings say, where nothing is shown
pub lands_above : (x : Run) (q : Plan) (st next : State) (w : abi.World) (e words : ℕ) → Shows st next [] →
    (ran : RaisedTo q x.image st next w e (isa.x w.hart sp) words (λ u. Rests (resting q next) next u)) → LandsAbove x q (resting q next) st next w ran.ran.after e words ran.ran.turns []
lands_above x q st next w e words shows ran = record {
  shows = shows;
  made = made_by_turns (program_of x.image).image x.pick ran.ran.turns w ran.ran.after [] ran.ran.runs;
  few = ran.ran.few;
  kept = kept_by_turns (program_of x.image).image ran.ran.turns w ran.ran.after [] ran.ran.runs;
  none = λ y. refl;
  rests = ran.ran.holds.0;
  depth = ran.depth;
  found = ran.found;
  aim = ran.ran.holds.1;
}

-- ---- an exception is thrown, and something stops it

module _ (x : Run) (q : Plan) (before n s t : ℕ) (d : Option ℕ) (st next : State) (w : abi.World) (at : IsAt x q before n (plain (throw s t d)) st w) (goes : step (code_for x.program) st ≡ goes_to next) (on : GoesOn next) where
  abbrev e : ℕ
  e = exception_in_slot st.top.frame s

  abbrev v : World
  v = kept e t d st.world

  defined : IsDefined (step (code_for x.program) st)
  defined = subst IsDefined (sym goes) tt

  asked : ThrowAsked (known_in (regions_for x.program)) x.carrying st s t d
  asked =
      throws_are_asked (regions_for x.program) x.carrying at.stands.steps s t d st at.facts.fits (unmarked_stands x.program x.image x.carrying x.tables q before st w at.stands)
      (fetches x q before n (plain (throw s t d)) st w at) defined

  thrown_travels : MayTravel st e v
  thrown_travels = record {
    can = kept_can e t d st.world asked.building;
    whole = subst (λ f. contains (destroyed_in f st.top.frame ++ gone st.frames) e ≡ false) (sym at.runs) asked.has.whole;
    again = unhandled_again e (flown e st.world.caught) (unhandled_flown e e st.world.caught asked.unhandled);
    caught = refl;
    ending = refl;
  }

  pub thrown_follows : ThrowsLand → FollowsIn x before st w
  thrown_follows run =
      let ran = run x.image q n s e t d st next w at.matches (is_running x q before n (plain (throw s t d)) st w at) (step_at x q before n (plain (throw s t d)) st w at next goes) (may_throw x q before n s st w t d at defined)
      (at.facts.pads q at.stands.unit) (at.facts.filters q at.stands.unit) on in
      stopped_follows x q before n (plain (throw s t d)) st next w at (throw s t d) refl refl e v (ap (λ b. only_where b (raises e v)) asked.building) goes on thrown_travels (resting q next)
      (rests_gains q st next e v refl at.stands.reaches.objects) ran.1.ran.turns ran.1.ran.after [] (lands_above x q st next w e _ ran.0 ran.1)

-- whatever comes of it
module _ (x : Run) (q : Plan) (before n s t : ℕ) (d : Option ℕ) (st : State) (w : abi.World) (at : IsAt x q before n (plain (throw s t d)) st w) (run : ThrowsLand) (dooms : DoomsFollow) where
  abbrev own : Code
  own = code_for x.program

  abbrev number : ℕ
  number = exception_in_slot st.top.frame s

  abbrev thrown : World
  thrown = kept number t d st.world

  module _ (built : is_being_built st.world number ≡ true) where
    -- it has the type that it is thrown as
    has_type : type_at thrown number ≡ Some t
    has_type = ap exception_type (exception_is thrown.live number (native t d st.world.installed) (replaced_in st.world.live number (native t d st.world.installed) building (building_there st.world number built)))

    throws_it : FollowsIn x before st w
    throws_it = by (found_above own (Some t) (st.top ∷ st.frames)) refl
      where
        by : (y : Option ℕ) → found_above own (Some t) (st.top ∷ st.frames) ≡ y → FollowsIn x before st w
        by None none = dooms x q before n s t d st w at none
        by (Some a) some =
            let found_it : found_above own (type_at thrown number) (st.top ∷ st.frames) ≡ Some a = ap (λ y. found_above own y (st.top ∷ st.frames)) has_type ∙ some in
            raise_follows x q before n (plain (throw s t d)) st w at (throw s t d) refl number thrown (ap (λ b. only_where b (raises number thrown)) built) a found_it
            (λ next goes on. thrown_follows x q before n s t d st next w at goes on run)

  throws_there : FollowsIn x before st w
  throws_there = by (is_being_built st.world number) refl
    where
      by : (b : Bool) → is_being_built st.world number ≡ b → FollowsIn x before st w
      by true built = throws_it built
      by false none =
          undefined_breaks x q before n (plain (throw s t d)) st w at not_defined st.world
          (step_acts x q before n (plain (throw s t d)) st w at ∙ ap (λ b. performed own (only_where b (raises number thrown)) st.top st.frames st.world) none) refl

pub throws_follow : ThrowsLand → DoomsFollow → ThrowsFollow
throws_follow run dooms x q before n s t d st w at = throws_there x q before n s t d st w at run dooms
