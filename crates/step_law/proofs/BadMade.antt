-- bad_exception is listed: call_unexpected comes to where one is made, and to where it is thrown, in a whole run.
use Rattle.std.proofs.Common.{◌≡◌, ◌∙◌, refl, sym, ap, subst, arith, ℕ, zero, suc, ◌+◌, pos, Bool, true, false, Option, Some, None, if◌then◌else◌}
use Rattle.std.specs.Prelude.{◌&&◌, not}
use Rattle.meaning_forms.specs.World.{Installed}
use Rattle.cxa_runtime.specs.World as abi
use Rattle.region_forms.specs.Ending.{bad_row}
use Rattle.region_forms.specs.Effect.{goes, raises, terminates, only_where, is_full, entered, kept as kept_in, effect}
use Rattle.region_forms.specs.Form.{make, throw}
use Rattle.region_forms.specs.Lives.{is_built, is_being_built}
use Rattle.region_forms.specs.Unexpected.{made}
use Rattle.region_forms.specs.World.{Frame, World, building, native, address_word, object_address, exception_at, with_slot}
use Rattle.linear_forms.specs.Defined.{IsDefined}
use Rattle.linear_forms.specs.Stub.{call_unexpected}
use Rattle.linear_forms.specs.Activation.{State, Code, goes_to, kinds}
use Rattle.linear_forms.specs.Machine.{step}
use Rattle.linear_forms.specs.Operation.{performed}
use Rattle.flight_homes.specs.Lives.{known_in}
use Rattle.linear_invariant.specs.Asked.{ThrowAsked}
use Rattle.linear_invariant.specs.Calls.{unmarked}
use Rattle.linear_invariant.specs.Stands.{StandsIn}
use Rattle.linear_invariant.proofs.Asked.{throws_are_asked}
use Rattle.linear_invariant.proofs.Steps.{run_stands}
use Rattle.source_bounds.specs.Compiled.{unit_for}
use Rattle.machine_simulation.specs.Plan.{Plan}
use Rattle.machine_simulation.specs.Exceptions.{live_in}
use Rattle.machine_simulation.specs.Objects.{with_object}
use Rattle.machine_exceptions.proofs.Enters.{exception_is, live_is}
use Rattle.machine_exceptions.proofs.LiveLists.{new_in}
use Rattle.machine_raises.proofs.Replaced.{replaced_in}
use Rattle.address_invariant.specs.Extents.{extents_of}
use Rattle.address_invariant.specs.Reaching.{Reaches}
use Rattle.address_invariant.specs.Laws.{GoesOn}
use Rattle.address_invariant.proofs.Plans.{plans_go_on}
use Rattle.address_invariant.proofs.Steps.{steps_reach}
use Rattle.unexpected_calls.specs.Bad.{bad_state}
use Rattle.unexpected_calls.specs.Thrown.{checked_state}
use Rattle.unexpected_calls.proofs.BadMade.{none_live}
use Rattle.step_law.specs.Facts.{regions_for, needs_for, code_for}
use Rattle.step_law.specs.Rows.{Run}
use Rattle.step_law.specs.Thrown.{IsAnswered}
use Rattle.step_law.proofs.Calm.{CalmSteps, calm_leads, calm_before}
use Rattle.step_law.proofs.ComesOut.{inv, own_from}
use Rattle.step_law.proofs.Facing.{newest_made}
use Rattle.step_law.proofs.Keeping.{IsCalm, CalmAt, calm_marked}
use Rattle.step_law.proofs.OwnSteps.{OwnSteps, own_calm_steps, own_reach}

-- steps one after the other
calm_both : (code : Code) (a b : ℕ) (st mid last : State) → CalmSteps code a st mid → CalmSteps code b mid last → CalmSteps code (a + b) st last
calm_both code zero b st mid last h k = subst (λ n. CalmSteps code n st last) (sym (none_more b)) (subst (λ m. CalmSteps code b m last) (sym h) k)
  where
    none_more : (n : ℕ) → 0 + n ≡ n
    none_more n = omega arith
calm_both code (suc a) b st mid last h k = subst (λ n. CalmSteps code n st last) (sym (one_more a b)) (h.0, h.1, h.2, calm_both code a b h.1 mid last h.3 k)
  where
    one_more : (n m : ℕ) → suc n + m ≡ suc (n + m)
    one_more n m = omega arith

module _ (x : Run) (q : Plan) (before e d type : ℕ) (destructor : Option ℕ) (kept : Installed) (st : State) (w : abi.World) (a : IsAnswered x q before st w e d type destructor kept 1) where
  abbrev code : Code
  code = code_for x.program

  -- where it would be made
  abbrev pub eleven : State
  eleven = checked_state 11 e (pos 1) st

  pub own_eleven : OwnSteps code 5 st eleven
  own_eleven = own_from x q before st w e d a.out a.few type destructor kept a.native a.may (pos 1) a.says 2 eleven (calm_seven, eight, refl, refl, refl, (calm_eight, eleven, refl, refl, refl, refl))
    where
      eight : State
      eight = checked_state 8 e (pos 1) st

      calm_seven : CalmAt code (checked_state 7 e (pos 1) st)
      calm_seven op hit = absurd (cc hit)

      calm_eight : CalmAt code (checked_state 8 e (pos 1) st)
      calm_eight op hit = absurd (cc hit)

  pub reach_eleven : Reaches (extents_of q) (unit_for x.program) (needs_for x.program) eleven
  reach_eleven = own_reach x q a.out.here.facts 5 a.out.here.stands.steps st eleven (inv x q before st w e d a.out) a.out.here.stands.reaches own_eleven

  module _ (free : is_full st.world ≡ false) where
    abbrev pub bad : ℕ
    bad = st.world.last_number + 1

    abbrev twelve_frame : Frame
    twelve_frame = with_slot 7 (address_word (object_address bad)) eleven.top.frame

    abbrev pub twelve : State
    twelve = record { top = record { function = call_unexpected; place = 12; frame = twelve_frame }; frames = st.frames; world = made (entered e st.world) }

    -- where it is thrown
    abbrev pub raising : State
    raising = bad_state e st

    makes : step code eleven ≡ goes_to twelve
    makes =
        let v : World = entered e st.world in
        ap (λ b. performed code (if b then terminates v.installed.terminate_handler v else goes twelve_frame (made v)) eleven.top st.frames v) free

    calm_eleven : CalmAt code eleven
    calm_eleven op hit =
        let same : make 7 ≡ op = cc hit in
        subst (λ o. IsCalm (effect (kinds code call_unexpected) o eleven.top.frame eleven.world)) same (either (is_full (entered e st.world)))
      where
        either : (b : Bool) → IsCalm (if b then terminates st.world.installed.terminate_handler (entered e st.world) else goes twelve_frame (made (entered e st.world)))
        either true = tt
        either false = tt

    calm_twelve : CalmAt code twelve
    calm_twelve op hit = absurd (cc hit)

    pub own_bad : CalmSteps code 7 st raising
    own_bad = calm_both code 5 2 st eleven raising (own_calm_steps code 5 st eleven own_eleven) (calm_eleven, twelve, makes, (calm_twelve, raising, refl, refl))

    inv_at : (n : ℕ) (last : State) → CalmSteps code n st last → StandsIn (unmarked (known_in (regions_for x.program))) code x.carrying (a.out.here.stands.steps + n) last
    inv_at n last h = run_stands (unmarked (known_in (regions_for x.program))) code x.carrying a.out.here.facts.fits n a.out.here.stands.steps st last
        (λ j middle less l. calm_marked (unmarked (known_in (regions_for x.program))) code middle (λ z. tt) (calm_before code n st last h j middle less l)) (inv x q before st w e d a.out) (calm_leads code n st last h)

    pub inv_bad : StandsIn (unmarked (known_in (regions_for x.program))) code x.carrying (a.out.here.stands.steps + 7) raising
    inv_bad = inv_at 7 raising own_bad

    -- it is being built
    pub live_bad : live_in raising.world.live bad ≡ Some building
    live_bad = new_in st.world.live bad building (none_live st.world.live bad st.world.last_number a.out.rests.rests.runtime.exceptions.numbers refl)

    pub built_bad : is_being_built raising.world bad ≡ true
    built_bad =
        ap (λ b. b && not (is_built (exception_at raising.world bad))) (live_is raising.world.live bad building live_bad)
        ∙ ap (λ z. true && not (is_built z)) (exception_is raising.world.live bad building live_bad)

    -- what it is where it is thrown
    abbrev pub v : World
    v = kept_in bad bad_row None raising.world

    pub bad_is : exception_at v bad ≡ native bad_row None st.world.installed
    bad_is = exception_is v.live bad (native bad_row None st.world.installed) (replaced_in raising.world.live bad (native bad_row None st.world.installed) building live_bad)

    pub raises_bad : effect (kinds code raising.top.function) (throw 7 bad_row None) raising.top.frame raising.world ≡ raises bad v
    raises_bad = ap (λ b. only_where b (raises bad v)) built_bad

    pub asked_bad : IsDefined (step code raising) → ThrowAsked (known_in (regions_for x.program)) x.carrying raising 7 bad_row None
    asked_bad defined = throws_are_asked (regions_for x.program) x.carrying (a.out.here.stands.steps + 7) 7 bad_row None raising a.out.here.facts.fits inv_bad refl defined

    -- what lies behind addresses there, wherever its object is
    module _ (slot : ℕ) where
      abbrev pub with_bad : Plan
      with_bad = with_object q bad slot

      made_on : GoesOn (extents_of q) (extents_of with_bad) (unit_for x.program) eleven.world twelve
      made_on =
          let other : State = record { top = record { function = call_unexpected; place = 12; frame = record { call = st.world.calls + 1; slots = twelve_frame.slots } }; frames = st.frames; world = twelve.world } in
          let goes : GoesOn (extents_of q) (extents_of with_bad) q.unit eleven.world other = plans_go_on.made q slot eleven.world other reach_eleven.objects refl (λ same. omega (arith, same)) in
          record { same = goes.same; objects = goes.objects; opened = λ new. tt }

      pub reach_bad : Reaches (extents_of with_bad) (unit_for x.program) (needs_for x.program) raising
      reach_bad =
          let five = inv_at 5 eleven (own_calm_steps code 5 st eleven own_eleven) in
          let six = inv_at 6 twelve (calm_both code 5 1 st eleven twelve (own_calm_steps code 5 st eleven own_eleven) (calm_eleven, twelve, makes, refl)) in
          let first = steps_reach (extents_of q) (extents_of with_bad) (unit_for x.program) (needs_for x.program) eleven twelve a.out.here.facts.reach reach_eleven
          (newest_made (unmarked (known_in (regions_for x.program))) code x.carrying (a.out.here.stands.steps + 5) eleven five) makes made_on in
          steps_reach (extents_of with_bad) (extents_of with_bad) (unit_for x.program) (needs_for x.program) twelve raising a.out.here.facts.reach first
          (newest_made (unmarked (known_in (regions_for x.program))) code x.carrying (a.out.here.stands.steps + 6) twelve six) refl
          (record { same = λ b begun. (refl, refl); objects = record { globals = first.objects.globals; exceptions = first.objects.exceptions }; opened = λ new. tt })
