-- What comes out of an unexpected handler: what is known where call_unexpected has it behind its first pad.
use Rattle.std.proofs.Common.{◌≡◌, ◌∙◌, refl, sym, ap, subst, arith, ℕ, zero, suc, ◌+◌, ◌<◌, ◌≤◌, ◌^◌, inr, ℤ, pos, negsuc, Bool, true, false, [], ◌∷◌, length, Option, Some, if◌then◌else◌}
use Rattle.std.specs.Prelude.{unwrap_or, ◌&&◌}
use Rattle.meaning_forms.specs.Class.{contains}
use Rattle.meaning_forms.specs.World.{Installed}
use Rattle.cxa_runtime.specs.World as abi
use Rattle.cxx_ast.specs.Plain.{Checked}
use Rattle.elf_image.specs.Clean.{CleanImage}
use Rattle.eh_run.specs.Program.{program_of, no_places}
use Rattle.region_forms.specs.Ending.{bad_row}
use Rattle.region_forms.specs.Form.{enter}
use Rattle.region_forms.specs.Effect.{Effect, goes, terminates, only_where, is_foreign, entered, effect}
use Rattle.region_forms.specs.Caught.{holds_other}
use Rattle.region_forms.specs.Lives.{is_built, may_enter}
use Rattle.region_forms.specs.World.{World, native, number_word, with_slot, exception_of, exception_in_slot, exception_at, exception_type, type_at}
use Rattle.linear_forms.specs.Defined.{IsDefined}
use Rattle.linear_forms.specs.Linear.{plain, jump_filter}
use Rattle.linear_forms.specs.Stub.{call_unexpected, linear, stub_op}
use Rattle.linear_forms.specs.Activation.{Activation, State, Code, Next, goes_to, finishes, not_defined, fetch, kinds, on}
use Rattle.linear_forms.specs.Machine.{step}
use Rattle.linear_forms.specs.Operation.{performed}
use Rattle.linear_forms.specs.Pace.{pays, pays_at, one_if, paying}
use Rattle.linear_forms.specs.StubOperation.{checked, sense_held}
use Rattle.linear_forms.specs.UnitRun.{code_of}
use Rattle.flight_homes.specs.Keeps.{is_help_in}
use Rattle.flight_homes.specs.Lives.{ExceptionKnown, known_in}
use Rattle.kept_selectors.specs.Selectors.{SelectorsNamed}
use Rattle.linear_invariant.specs.Asked.{EnterAsked}
use Rattle.linear_invariant.specs.Calls.{unmarked, IsStopped, StubHolds}
use Rattle.linear_invariant.specs.Held.{NoneHolds}
use Rattle.linear_invariant.specs.Stands.{StandsIn}
use Rattle.linear_invariant.proofs.Asked.{none_gone, enters_are_asked}
use Rattle.linear_invariant.proofs.Steps.{steps_stand}
use Rattle.machine_stubs.specs.CallUnexpected.{bad_record}
use Rattle.machine_stubs.specs.Stretches.{frame_size}
use Rattle.image_tables.specs.Functions.{records_end}
use Rattle.image_tables.specs.Read.{IsImageOf}
use Rattle.machine_simulation.specs.Plan.{Plan, function}
use Rattle.machine_simulation.specs.Exceptions.{live_in}
use Rattle.machine_simulation.specs.Calls.{open_bytes}
use Rattle.machine_simulation.proofs.LiveThere.{built_there}
use Rattle.machine_exceptions.specs.Enters.{MayEnter}
use Rattle.source_bounds.specs.Compiled.{unit_for}
use Rattle.unexpected_calls.specs.ListKept.{ListKept}
use Rattle.unexpected_calls.specs.Thrown.{ThrownOut, checked_state}
use Rattle.unexpected_calls.proofs.CheckSteps.{at_place, goes_on, number_is, enter_step}
use Rattle.unexpected_calls.proofs.ListKept.{lists_are_kept}
use Rattle.whole_runs.specs.Turns.{Made}
use Rattle.whole_runs.specs.Steps.{StaysBehind}
use Rattle.whole_runs.proofs.Counts.{at_most, quiet_then}
use Rattle.whole_runs.proofs.Single.{made_by_turns}
use Rattle.whole_runs.proofs.Spending.{own_spends}
use Rattle.cost_turns.specs.Weights.{is_own}
use Rattle.cost_words.specs.Spends.{spends}
use Rattle.rv64_isa.specs.Step.{x as hart_at}
use Rattle.machine_forms.specs.Registers.{sp}
use Rattle.step_law.specs.Facts.{regions_for, code_for}
use Rattle.step_law.specs.Rows.{Run, FollowsIn}
use Rattle.step_law.specs.Thrown.{ComesOut, OutOfHandlerBreaks}
use Rattle.step_law.proofs.Checking.{FirstUnshown, checks_unshown}
use Rattle.step_law.proofs.Exceptions.{gone_destroyed, handlers_open}
use Rattle.step_law.proofs.Facing.{runs_image, code_same, type_known}
use Rattle.step_law.proofs.Keeping.{IsCalm, CalmAt, unmarked_stands}
use Rattle.step_law.proofs.OwnSteps.{OwnSteps, own_both}
use Rattle.step_law.proofs.Rooms.{own_page, handler_there, takes_nothing}
use Rattle.step_law.proofs.Several.{breaks_behind}
use Rattle.step_law.proofs.Unshown.{unshown_stays}

-- the runtime's record in the image has the address of the record of bad_exception's type
pub bad_named : (p : Checked) (i : CleanImage) → IsImageOf (unit_for p) i → (program_of i).image.places.bad_exception ≡ bad_record (records_end (unit_for p))
bad_named p i h = ap (λ r. (unwrap_or r no_places).bad_exception) h.stands.image.runtime

module _ (x : Run) (q : Plan) (before : ℕ) (st : State) (w : abi.World) (e d : ℕ) (out : ComesOut x q before st w e d) where
  abbrev code : Code
  code = code_for x.program

  abbrev steps : ℕ
  steps = out.here.stands.steps

  pub same_code : code_of q.unit ≡ code
  same_code = code_same x q before st w out.here.facts out.here.stands

  pub inv : StandsIn (unmarked (known_in (regions_for x.program))) code x.carrying steps st
  inv = unmarked_stands x.program x.image x.carrying x.tables q before st w out.here.stands

  stopped : IsStopped (unmarked (known_in (regions_for x.program))) (st.top.frame.slots 4) (st.top.frame.slots 5)
  stopped =
      let first : StubHolds (unmarked (known_in (regions_for x.program))) call_unexpected st.top.place st.top.frame = subst (λ f. StubHolds (unmarked (known_in (regions_for x.program))) f st.top.place st.top.frame) out.rests.rests.runs inv.calls.0.slots in
      subst (λ k. StubHolds (unmarked (known_in (regions_for x.program))) call_unexpected k st.top.frame) out.rests.place first

  pub selector : st.top.frame.slots 5 ≡ number_word (pos 1)
  selector = subst (λ y. IsStopped (unmarked (known_in (regions_for x.program))) y (st.top.frame.slots 5)) out.flies stopped

  pub fetch_first : fetch code st.top.function st.top.place ≡ Some (linear (jump_filter 5 (pos 0) 16))
  fetch_first = ap (λ f. fetch code f st.top.place) out.rests.rests.runs ∙ ap (stub_op call_unexpected) out.rests.place

  -- the first step pays for what comes of it
  pub checks_pay : (k : ℕ) → k ≤ 44 → k ≤ spends code 1 st
  checks_pay k least = own_spends code st (linear (jump_filter 5 (pos 0) 16)) k (ap is_own out.rests.rests.runs) fetch_first least

  -- call_unexpected leaves so much of the stack
  pub out_page : frame_size call_unexpected + open_bytes q st.frames + 0xD00 ≤ 0x100_0000
  out_page = own_page q call_unexpected st.frames st.world w.hart.memory (hart_at w.hart sp) out.rests.rests.back out.rests.rests.memory

  pub unpaid : pays_at code st ≡ false
  unpaid = ap pays fetch_first

  pub calm_first : CalmAt code st
  calm_first op hit = let no : Some (linear (jump_filter 5 (pos 0) 16)) ≡ Some (linear (plain op)) = sym fetch_first ∙ hit in absurd (cc no)

  abbrev pub five : State
  five = at_place 5 st.world st

  pub one : step code st ≡ goes_to five
  one = subst (λ c. step c st ≡ goes_to five) same_code (goes_on q st out.rests.rests.runs out.rests.place selector)

  pub inv_five : StandsIn (unmarked (known_in (regions_for x.program))) code x.carrying (steps + 1) five
  inv_five = steps_stand (regions_for x.program) x.carrying steps st five out.here.facts.fits inv one

  pub held : exception_in_slot st.top.frame 4 ≡ e
  held = number_is st e d out.flies

  pub first_turns : FirstUnshown (program_of x.image).image 7 w
  first_turns = checks_unshown (program_of x.image).image q e d st w out.rests out.called out.flies selector

  abbrev pub quiet_world : abi.World
  quiet_world = first_turns.after

  pub nothing : Made (program_of x.image).image x.pick 7 w quiet_world []
  nothing = made_by_turns (program_of x.image).image x.pick 7 w first_turns.after [] first_turns.runs

  -- it may not be entered
  breaks : may_enter st.world e ≡ false → FollowsIn x before st w
  breaks none = inr (inr (inr (breaks_behind x st five w not_defined st.world one two (ap one_if unpaid) refl (λ why by. cc by))))
    where
      or_ends : ℕ → Bool → Effect
      or_ends k b = only_where b (if is_foreign (exception_at st.world k) && holds_other k st.world.caught then terminates st.world.installed.terminate_handler st.world else goes st.top.frame (entered k st.world))

      two : step code five ≡ finishes not_defined st.world
      two =
          ap (λ k. performed code (or_ends k (may_enter st.world k)) five.top five.frames st.world) held
          ∙ ap (λ b. performed code (or_ends e b) five.top five.frames st.world) none

  -- the exception that was stopped is kept
  pub stopped_held : exception_in_slot st.top.frame 0 ≡ out.rests.kept.stopped.number
  stopped_held = ap exception_of out.rests.kept.stopped.is

  pub stopped_whole : NoneHolds x.carrying (Some st.top.function) st.frames out.rests.kept.stopped.number
  stopped_whole = inv.calls.0.forgets 0 out.rests.kept.stopped.number (subst (λ f. is_help_in code f 0) (sym out.rests.rests.runs) tt) out.rests.kept.stopped.is

  module _ (few : before < 2 ^ 40) (type : ℕ) (destructor : Option ℕ) (kept : Installed) (is : exception_at st.world e ≡ native type destructor kept) (may : may_enter st.world e ≡ true) where
    abbrev pub six : State
    six = at_place 6 (entered e st.world) st

    pub live : live_in st.world.live e ≡ Some (native type destructor kept)
    live = built_there st.world.live e (ap is_built is) ∙ ap (λ y. Some y) is

    pub two : step code five ≡ goes_to six
    two = subst (λ c. step c five ≡ goes_to six) same_code (enter_step q st e d type destructor kept out.flies live may)

    pub asked : EnterAsked (known_in (regions_for x.program)) x.carrying (steps + 1) five 4
    asked = enters_are_asked (regions_for x.program) x.carrying (steps + 1) 4 five out.here.facts.fits inv_five refl (subst IsDefined (sym two) tt)

    pub unheld : NoneHolds x.carrying (Some call_unexpected) st.frames e
    unheld = subst (λ k. NoneHolds x.carrying (Some call_unexpected) st.frames k) held asked.has.unheld

    pub known_exception : ExceptionKnown (known_in (regions_for x.program)) (native type destructor kept)
    known_exception = subst (ExceptionKnown (known_in (regions_for x.program))) (ap (exception_at st.world) held ∙ is) asked.exception

    pub may_enter_it : MayEnter st.frames st.world e
    may_enter_it =
        let handlers = handlers_open st.world.caught e in
        let turns_few = out.here.stands.few in
        record { whole = ap (λ es. contains es e) (gone_destroyed st.frames) ∙ none_gone x.carrying (Some call_unexpected) st.frames e unheld; few = omega (arith, handlers, turns_few, few) }

    pub list : ListKept q out.rests.kept.selector out.rests.kept.owner
    list = lists_are_kept q x.carrying st w out.rests (subst (λ c. SelectorsNamed c x.carrying (st.top ∷ st.frames)) (sym same_code) out.here.stands.selectors)

    abbrev pub number : ℕ
    number = list.number

    abbrev pub thrown : ThrownOut x.image q e d type destructor kept number st w
    thrown = record {
      rests = out.rests;
      called = out.called;
      running = runs_image x q before st w out.here.facts out.here.stands;
      flies = out.flies;
      selector = selector;
      native = live;
      type_is = type_known x q before st w out.here.facts out.here.stands (native type destructor kept) known_exception;
      defined = may;
      may = may_enter_it;
      list = list.list;
      known = list.known;
      filter = list.filter;
      bad = subst (λ u. bad_row < length u.types) (sym out.here.stands.unit) out.here.facts.bad;
      named = bad_named x.program x.image out.here.facts.image ∙ ap bad_record (sym out.here.stands.base);
    }

    -- a handler that is kept with it is a function
    pub known_handler : (m : ℕ) → kept.terminate_handler ≡ Some m → m < length q.unit.functions
    known_handler m some =
        handler_there x.program q kept.terminate_handler m out.here.stands.unit known_exception.2.terminate some

    -- it takes nothing
    pub handler_takes : (m : ℕ) → kept.terminate_handler ≡ Some m → 0 ≡ (function q m).parameters
    handler_takes m some = takes_nothing x.program q kept.terminate_handler m out.here.stands.unit known_exception.2.terminate some

    -- runs with few turns stay behind
    pub stays : (n : ℕ) → n ≤ 10 → StaysBehind (program_of x.image).image x.pick code n st w
    stays zero few = unshown_stays (program_of x.image).image x.pick 7 w quiet_world nothing code 0 st (omega arith)
    stays (suc zero) few = let most = at_most code 1 st in unshown_stays (program_of x.image).image x.pick 7 w quiet_world nothing code 1 st (omega (arith, most))
    stays (suc (suc n)) few =
        let first = quiet_then code (suc n) st five unpaid one in
        let second = quiet_then code n five six refl two in
        let most = at_most code n six in
        unshown_stays (program_of x.image).image x.pick 7 w quiet_world nothing code (suc (suc n)) st (omega (arith, first, second, most, few))

    pub paid : (n : ℕ) → n ≤ 10 → paying code n st ≤ 8
    paid zero few = omega arith
    paid (suc zero) few = let most = at_most code 1 st in omega (arith, most)
    paid (suc (suc n)) few =
        let first = quiet_then code (suc n) st five unpaid one in
        let second = quiet_then code n five six refl two in
        let most = at_most code n six in
        omega (arith, first, second, most, few)

    module _ (answer : ℤ) (says : checked q.unit.types ((code_of q.unit).sense_at out.rests.kept.owner out.rests.kept.selector) (Some type) ≡ answer) where
      abbrev pub seven : State
      seven = checked_state 7 e answer st

      three : step (code_of q.unit) six ≡ goes_to seven
      three =
          let c = code_of q.unit in
          let v : World = entered e st.world in
          let a : Activation = six.top in
          let to : ℤ → Next = λ n. on a (with_slot 6 (number_word n) a.frame) st.frames v in
          ap (λ k. to (checked c.rows (sense_held c (a.frame.slots 2) (a.frame.slots 1)) (type_at v k))) held
          ∙ ap (λ y. to (checked c.rows (sense_held c (a.frame.slots 2) (a.frame.slots 1)) (exception_type y))) is
          ∙ ap (λ k. to (checked c.rows (sense_held c k (a.frame.slots 1)) (Some type))) out.rests.kept.owner_is
          ∙ ap (λ k. to (checked c.rows (sense_held c (number_word (pos out.rests.kept.owner)) k) (Some type))) out.rests.kept.selector_is ∙ ap to says

      pub own_checked : OwnSteps code 3 st seven
      own_checked = (calm_first, five, one, refl, refl, (calm_five, six, two, refl, refl, (calm_six, seven, subst (λ c. step c six ≡ goes_to seven) same_code three, refl, refl, refl)))
        where
          or_else : Bool → Bool → Effect
          or_else b c = only_where b (if c then terminates st.world.installed.terminate_handler st.world else goes st.top.frame (entered (exception_in_slot st.top.frame 4) st.world))

          calm_or : (b c : Bool) → IsCalm (or_else b c)
          calm_or true true = tt
          calm_or true false = tt
          calm_or false c = tt

          calm_five : CalmAt code five
          calm_five op hit =
              let same : enter 4 ≡ op = cc hit in
              let k = exception_in_slot st.top.frame 4 in
              subst (λ o. IsCalm (effect (kinds code call_unexpected) o st.top.frame st.world)) same (calm_or (may_enter st.world k) (is_foreign (exception_at st.world k) && holds_other k st.world.caught))

          calm_six : CalmAt code six
          calm_six op hit = absurd (cc hit)

      pub own_from : (n : ℕ) (last : State) → OwnSteps code n seven last → OwnSteps code (3 + n) st last
      own_from n last rest = own_both code 3 n st seven last own_checked rest

      pub list_answers : checked q.unit.types ((code_of q.unit).sense_at out.rests.kept.owner (negsuc number)) (Some type) ≡ answer
      list_answers = ap (λ z. checked q.unit.types ((code_of q.unit).sense_at out.rests.kept.owner z) (Some type)) (sym list.list) ∙ says

pub out_of_handler_breaks : OutOfHandlerBreaks
out_of_handler_breaks x q before e d st w out none = breaks x q before st w e d out none
