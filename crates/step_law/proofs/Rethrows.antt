-- The newest exception that is handled is thrown again in a whole run: something stops it, nothing does, or none is there.
use Rattle.std.proofs.Common.{◌≡◌, ◌∙◌, refl, sym, ap, subst, arith, ℕ, Bool, true, false, ◌==◌, List, [], ◌∷◌, inl, inr, Option, Some, None, if◌then◌else◌}
use Rattle.std.proofs.lemmas.Bool.Decides.{nat_tests}
use Rattle.meaning_forms.specs.Class.{contains}
use Rattle.cxa_runtime.specs.World as abi
use Rattle.region_forms.specs.Caught.{Entry, flown}
use Rattle.region_forms.specs.Form.{rethrow}
use Rattle.region_forms.specs.Lives.{can_travel}
use Rattle.region_forms.specs.World.{type_at}
use Rattle.region_forms.specs.Effect.{raises, terminates, only_where, newest_of, rethrown}
use Rattle.linear_forms.specs.Linear.{plain}
use Rattle.linear_forms.specs.Search.{found_above}
use Rattle.linear_forms.specs.Activation.{State, Code, goes_to}
use Rattle.linear_forms.specs.Machine.{step}
use Rattle.flight_homes.specs.Keeps.{TravelsAgain, gone}
use Rattle.flight_homes.specs.Lives.{known_in}
use Rattle.linear_invariant.specs.Asked.{NewestAsked}
use Rattle.linear_invariant.proofs.Asked.{leaves_are_asked}
use Rattle.linear_invariant.proofs.Lists.{unhandled_again}
use Rattle.machine_simulation.specs.Plan.{Plan}
use Rattle.machine_exceptions.specs.Terminates.{IsNothing}
use Rattle.machine_raises.specs.Resumes.{TypeIsThere}
use Rattle.stub_landings.specs.Landings.{resting, GoesOn, RethrowsLand}
use Rattle.step_law.specs.Facts.{regions_for, code_for}
use Rattle.step_law.specs.RethrowDooms.{RethrowDoomsFollow}
use Rattle.step_law.specs.Rows.{Run, IsAt, FollowsIn, AbortsFollow}
use Rattle.step_law.specs.Terminates.{TerminatesFollow}
use Rattle.step_law.specs.Throws.{RethrowsFollow}
use Rattle.step_law.proofs.At.{step_at}
use Rattle.step_law.proofs.Keeping.{unmarked_stands}
use Rattle.step_law.proofs.Raises.{is_running, raises_are_asked}
use Rattle.step_law.proofs.RaiseLeads.{raise_follows}
use Rattle.step_law.proofs.Stopped.{MayTravel, stopped_follows}
use Rattle.step_law.proofs.Throws.{rests_gains, lands_above}

same_number : (m : ℕ) → (m == m) ≡ true
same_number m = grind (arith, nat_tests)

module _ (x : Run) (q : Plan) (before n : ℕ) (st : State) (w : abi.World) (at : IsAt x q before n (plain rethrow) st w) where
  abbrev own : Code
  own = code_for x.program

  module _ (y : Entry) (ys : List Entry) (is : st.world.caught ≡ y ∷ ys) (stays : y.again ≡ false) where
    number : newest_of st.world.caught ≡ y.number
    number = ap newest_of is

    known : NewestAsked (known_in (regions_for x.program)) x.carrying st y ys
    known = leaves_are_asked (regions_for x.program) x.carrying at.stands.steps st y ys at.facts.fits (unmarked_stands x.program x.image x.carrying x.tables q before st w at.stands) is

    can : can_travel st.world (newest_of st.world.caught) ≡ true
    can = ap (can_travel st.world) number ∙ known.can

    raises_again : rethrown st.world.caught st.world ≡ raises (newest_of st.world.caught) st.world
    raises_again = subst (λ es. rethrown es st.world ≡ raises (newest_of es) st.world) (sym is)
        (ap (λ b. if b then terminates st.world.installed.terminate_handler st.world else only_where (can_travel st.world y.number) (raises y.number st.world)) stays
        ∙ ap (λ b. only_where b (raises y.number st.world)) known.can)

    flown_again : TravelsAgain y.number (flown y.number (y ∷ ys))
    flown_again =
        let self : (y.number == y.number) ≡ true = same_number y.number in
        subst (λ b. TravelsAgain y.number ((if b then record y { again = true } else y) ∷ ys)) (sym self) ((λ same. refl), unhandled_again y.number ys known.once)

    rethrown_travels : MayTravel st (newest_of st.world.caught) st.world
    rethrown_travels = record {
      can = can;
      whole = ap (λ m. contains (gone (st.top ∷ st.frames)) m) number ∙ known.whole;
      again = subst (λ es. TravelsAgain (newest_of es) (flown (newest_of es) es)) (sym is) flown_again;
      caught = refl;
      ending = refl;
    }

    rethrown_follows : RethrowsLand → (next : State) → step own st ≡ goes_to next → GoesOn next → FollowsIn x before st w
    rethrown_follows run next goes on =
        let type = subst (λ m. TypeIsThere q (type_at st.world m)) (sym number) (raises_are_asked.newest x q before n (plain rethrow) st w y ys at is) in
        let ran = run x.image q n st next w at.matches (is_running x q before n (plain rethrow) st w at) (step_at x q before n (plain rethrow) st w at next goes) type
        (at.facts.pads q at.stands.unit) (at.facts.filters q at.stands.unit) on in
        stopped_follows x q before n (plain rethrow) st next w at rethrow refl refl (newest_of st.world.caught) st.world raises_again goes on rethrown_travels (resting q next)
        (rests_gains q st next (newest_of st.world.caught) st.world refl at.stands.reaches.objects) ran.1.ran.turns ran.1.ran.after [] (lands_above x q st next w (newest_of st.world.caught) _ ran.0 ran.1)

    -- something stops it, or nothing does
    goes_again : RethrowsLand → RethrowDoomsFollow → FollowsIn x before st w
    goes_again run dooms = by (found_above own (type_at st.world y.number) (st.top ∷ st.frames)) refl
      where
        by : (a : Option ℕ) → found_above own (type_at st.world y.number) (st.top ∷ st.frames) ≡ a → FollowsIn x before st w
        by None none = dooms x q before n y ys st w at is stays none
        by (Some a) some =
            let found_it : found_above own (type_at st.world (newest_of st.world.caught)) (st.top ∷ st.frames) ≡ Some a = ap (λ m. found_above own (type_at st.world m) (st.top ∷ st.frames)) number ∙ some in
            raise_follows x q before n (plain rethrow) st w at rethrow refl (newest_of st.world.caught) st.world raises_again a found_it (λ next goes on. rethrown_follows run next goes on)

  -- none is handled, or the newest travels already
  nothing_again : AbortsFollow → TerminatesFollow → IsNothing st.world.caught → FollowsIn x before st w
  nothing_again aborts begins nothing = by st.world.ending st.world.installed.terminate_handler refl refl
    where
      by : (b : Bool) (h : Option ℕ) → st.world.ending ≡ b → st.world.installed.terminate_handler ≡ h → FollowsIn x before st w
      by true h is same = aborts x q before n (plain rethrow) st w at (inr (inr (refl, nothing))) (inl is)
      by false None is same = aborts x q before n (plain rethrow) st w at (inr (inr (refl, nothing))) (inr same)
      by false (Some m) is same = begins x q before n m (plain rethrow) st w at (inr (inr (refl, nothing))) is same

pub rethrows_follow : RethrowsLand → RethrowDoomsFollow → AbortsFollow → TerminatesFollow → RethrowsFollow
rethrows_follow run dooms aborts begins x q before n st w at = by st.world.caught refl
  where
    nothing : IsNothing st.world.caught → FollowsIn x before st w
    nothing h = nothing_again x q before n st w at aborts begins h

    by : (es : List Entry) → st.world.caught ≡ es → FollowsIn x before st w
    by [] is = nothing (subst IsNothing (sym is) tt)
    by (y ∷ ys) is = once y.again refl
      where
        once : (b : Bool) → y.again ≡ b → FollowsIn x before st w
        once true again = nothing (subst IsNothing (sym is) again)
        once false stays = goes_again x q before n st w at y ys is stays run dooms
