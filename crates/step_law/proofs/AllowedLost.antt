-- What comes out of an unexpected handler is thrown again, and nothing stops it, in a whole run.
use Rattle.std.proofs.Common.{◌≡◌, ◌∙◌, refl, sym, ap, subst, arith, ℕ, pos, false, List, [], ◌∷◌, Option, Some, None, if◌then◌else◌}
use Rattle.std.proofs.lemmas.Bool.Decides.{nat_tests}
use Rattle.meaning_forms.specs.World.{Installed}
use Rattle.run_items.specs.declared.item.Item.{Item}
use Rattle.run_items.specs.declared.item.Item.TheVariants.{Enter}
use Rattle.cxa_runtime.specs.World as abi
use Rattle.eh_run.specs.Program.{program_of}
use Rattle.region_forms.specs.Effect.{raises, terminates, only_where, rethrown, entered, entered_doomed, effect}
use Rattle.region_forms.specs.Form.{Op, rethrow}
use Rattle.region_forms.specs.Lives.{is_built, can_travel}
use Rattle.region_forms.specs.World.{World, native, exception_type, type_at}
use Rattle.linear_forms.specs.Defined.{RunsAt}
use Rattle.linear_forms.specs.Linear.{plain}
use Rattle.linear_forms.specs.Search.{found, found_above}
use Rattle.linear_forms.specs.Stub.{call_unexpected, linear}
use Rattle.linear_forms.specs.Activation.{State, Code, kinds, look, terminated}
use Rattle.linear_forms.specs.Machine.{step}
use Rattle.linear_invariant.proofs.Lists.{few_entered}
use Rattle.linear_invariant.proofs.Worlds.{But}
use Rattle.machine_simulation.specs.Plan.{Plan}
use Rattle.raise_ends.specs.Ends.{unless_ending}
use Rattle.stack_bounds.specs.Taken.{StacksHoldCalls}
use Rattle.unexpected_calls.specs.Doomed.{NothingStops, AllowedIsDoomed}
use Rattle.unexpected_calls.specs.Thrown.{checked_state}
use Rattle.unexpected_calls.specs.TerminateOverflow.{TerminateHandlersOverflow}
use Rattle.unexpected_calls.proofs.Doomed.{entered_newest, doomed_handler}
use Rattle.whole_runs.proofs.Single.{made_by_turns}
use Rattle.step_law.specs.Facts.{code_for}
use Rattle.step_law.specs.Rows.{Run, FollowsIn}
use Rattle.step_law.specs.Thrown.{IsAnswered}
use Rattle.step_law.proofs.Aligned.{align_same, itself}
use Rattle.step_law.proofs.ComesOut.{same_code, inv, live, unheld, number, thrown, known_handler, own_from, list_answers, handler_takes, out_page}
use Rattle.step_law.proofs.Dooms.{newest_entered}
use Rattle.step_law.proofs.Exceptions.{spared_all}
use Rattle.step_law.proofs.Keeping.{NotEntered, CalmAt, kept_by_turns}
use Rattle.step_law.proofs.LostBehind.{IsLostBehind, fits_or_not, with_or_without}
use Rattle.step_law.proofs.OutLost.{out_named, out_aborts, out_begins, out_overflows}
use Rattle.step_law.proofs.OwnSteps.{OwnSteps, own_leads, own_calm, own_reach}
use Rattle.step_law.proofs.Rooms.{few_to_enter}

entered_twice : (e y : ℕ) → But e y → NotEntered (Enter e ∷ Enter e ∷ []) y
entered_twice e y other = grind (arith, nat_tests, other)

module _ (x : Run) (q : Plan) (before e d type : ℕ) (destructor : Option ℕ) (kept : Installed) (st : State) (w : abi.World) (a : IsAnswered x q before st w e d type destructor kept 0) where
  abbrev code : Code
  code = code_for x.program

  -- where it is thrown again
  abbrev pub raising : State
  raising = checked_state 10 e (pos 0) st

  pub own_allowed : OwnSteps code 4 st raising
  own_allowed = own_from x q before st w e d a.out a.few type destructor kept a.native a.may (pos 0) a.says 1 raising (calm_seven, raising, refl, refl, refl, refl)
    where
      calm_seven : CalmAt code (checked_state 7 e (pos 0) st)
      calm_seven op hit = absurd (cc hit)

  -- it is raised
  pub raises_it : effect (kinds code raising.top.function) rethrow raising.top.frame raising.world ≡ raises e raising.world
  raises_it =
      let v : World = raising.world in
      let n = entered_newest e st.world.caught in
      ap (λ xs. rethrown xs v) n.is
      ∙ ap (λ b. if b then terminates v.installed.terminate_handler v else only_where (can_travel v n.entry.number) (raises n.entry.number v)) n.still
      ∙ ap (λ k. only_where (can_travel v k) (raises k v)) n.number
      ∙ ap (λ z. only_where (is_built z) (raises e v)) a.native

  pub same_op : (op : Op) → RunsAt code raising (linear (plain op)) → rethrow ≡ op
  same_op op hit = cc hit

  module _ (none : NothingStops q type raising) where
    abbrev v : World
    v = entered_doomed e raising.world

    abbrev items : List Item
    items = Enter e ∷ Enter e ∷ []

    not_found : found code raising.top.function (look code raising.top.function raising.top.place) (type_at raising.world e) raising.frames ≡ None
    not_found =
        ap (λ y. found code raising.top.function (look code raising.top.function raising.top.place) (exception_type y) raising.frames) a.native
        ∙ subst (λ c. found_above c (Some type) (raising.top ∷ raising.frames) ≡ None) (same_code x q before st w e d a.out) none

    no_target : (op : Op) (y : ℕ) (u : World) (b : ℕ) → RunsAt code raising (linear (plain op)) → effect (kinds code raising.top.function) op raising.top.frame raising.world ≡ raises y u →
        found code raising.top.function (look code raising.top.function raising.top.place) (type_at u y) raising.frames ≡ Some b → ⊥
    no_target op y u b hit begins found_it =
        let same : raises e raising.world ≡ raises y u = sym raises_it ∙ ap (λ o. effect (kinds code raising.top.function) o raising.top.frame raising.world) (same_op op hit) ∙ begins in
        let number : e ≡ y = cc same in
        let world : raising.world ≡ u = cc same in
        let there : found code raising.top.function (look code raising.top.function raising.top.place) (type_at raising.world e) raising.frames ≡ Some b =
        ap (λ z. found code raising.top.function (look code raising.top.function raising.top.place) (type_at z e) raising.frames) world
        ∙ ap (λ z. found code raising.top.function (look code raising.top.function raising.top.place) (type_at u z) raising.frames) number ∙ found_it in
        let no : None ≡ Some b = sym not_found ∙ there in cc no

    ends : st.world.ending ≡ false → step code raising ≡ terminated kept.terminate_handler (raising.top ∷ raising.frames) v
    ends quiet = subst (λ c. step c raising ≡ terminated kept.terminate_handler (raising.top ∷ raising.frames) v) (same_code x q before st w e d a.out)
        (doomed_handler q e type destructor kept st (live x q before st w e d a.out a.few type destructor kept a.native a.may) none false quiet)

    lost : IsLostBehind x q st 4 raising v items 2 kept.terminate_handler
    lost = record {
      leads = own_leads code 4 st raising own_allowed;
      runs = refl;
      quiet = refl;
      still = refl;
      ends = ends;
      last_number = refl;
      newest = (let number = newest_entered e (entered e st.world).caught in let made = a.out.rests.rests.runtime.exceptions.numbers e (native type destructor kept) (live x q before st w e d a.out a.few type destructor kept a.native a.may) in omega (arith, number, made));
      calm = own_calm code 4 st raising own_allowed;
      none = no_target;
      aligned = align_same q q (itself q) st.top raising.top st.frames (sym a.out.rests.rests.runs);
      spared = (tt, tt, spared_all x.carrying items e (entered_twice e) (Some call_unexpected) st.frames (unheld x q before st w e d a.out a.few type destructor kept a.native a.may));
      known = known_handler x q before st w e d a.out a.few type destructor kept a.native a.may;
      takes = handler_takes x q before st w e d a.out a.few type destructor kept a.native a.may;
      page = out_page x q before st w e d a.out;
      frames = a.out.rests.rests.memory.unit.frames;
      few = (let once = few_entered e st.world.caught in let twice = few_entered e (entered e st.world).caught in omega (arith, once, twice));
    }

    pub allowed_lost : AllowedIsDoomed → TerminateHandlersOverflow → StacksHoldCalls → FollowsIn x before st w
    allowed_lost run over holds =
        let named = out_named x q before st w e d a.out in
        let out = thrown x q before st w e d a.out a.few type destructor kept a.native a.may in
        let j = number x q before st w e d a.out a.few type destructor kept a.native a.may in
        let says = list_answers x q before st w e d a.out a.few type destructor kept a.native a.may (pos 0) a.says in
        with_or_without x q before st w a.out.here.facts a.out.here.stands 4 raising v items 2 kept.terminate_handler lost
        (λ without. out_aborts x q before st w e d a.out a.few type destructor kept a.native a.may 4 raising v (Enter e) (Enter e ∷ []) 2 kept.terminate_handler lost (omega arith) (omega arith) 7 26
        (Enter e ∷ unless_ending st.world (Enter e ∷ [])) (omega arith) (omega arith) (λ k many. run.aborts x.image x.pick k q e d type destructor kept j st w out says none named without many))
        (λ m quiet some.
        let hidden = a.out.here.stands.hides quiet in
        fits_or_not x q before st w a.out.here.facts a.out.here.stands 4 raising v items 2 kept.terminate_handler lost m quiet some
        (λ room.
        let ran = run.calls_the_handler x.image q e d type destructor kept j m st w out says none named quiet some hidden room in
        let reaches = ran.2 in
        out_begins x q before st w e d a.out a.few type destructor kept a.native a.may 4 raising v (Enter e) (Enter e ∷ []) 2 kept.terminate_handler lost (omega arith) (omega arith) m quiet some q (record { frames = itself q; base = refl; tables = refl })
        (own_reach x q a.out.here.facts 4 a.out.here.stands.steps st raising (inv x q before st w e d a.out) a.out.here.stands.reaches own_allowed) reaches.turns reaches.after (let entry = few_to_enter q m in omega (arith, reaches.few, entry))
        (made_by_turns (program_of x.image).image x.pick reaches.turns w reaches.after items reaches.runs) (kept_by_turns (program_of x.image).image reaches.turns w reaches.after items reaches.runs) reaches.holds ran.1)
        (λ lacks.
        out_overflows x q before st w e d a.out a.few type destructor kept a.native a.may 4 raising v (Enter e) (Enter e ∷ []) 2 kept.terminate_handler lost (omega arith) (omega arith) m quiet some lacks holds 31 6 (omega arith)
        (λ k many. over.doomed x.image x.pick k q e d type destructor kept j m st w out says none (record { named = named; quiet = quiet; some = some; hidden = hidden; lacks = lacks }) many)))
