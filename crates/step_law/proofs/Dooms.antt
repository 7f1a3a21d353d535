-- An exception is thrown that nothing stops, in a whole run.
use Rattle.std.proofs.Common.{◌≡◌, ◌∙◌, refl, sym, ap, subst, arith, ℕ, ◌+◌, ◌≤◌, ◌⊎◌, Bool, true, false, ◌==◌, List, [], ◌∷◌, length, Option, Some, None, if◌then◌else◌}
use Rattle.std.specs.List.{AllByRecursion}
use Rattle.std.proofs.lemmas.Bool.Decides.{nat_tests}
use Rattle.meaning_forms.specs.Outcome.{aborted}
use Rattle.run_items.specs.declared.item.Item.TheVariants.{Enter}
use Rattle.cxa_runtime.specs.World as abi
use Rattle.eh_run.specs.Program.{program_of}
use Rattle.region_forms.specs.Caught.{Entry, counted, entered_on}
use Rattle.region_forms.specs.Form.{Op, throw}
use Rattle.region_forms.specs.Lives.{is_being_built}
use Rattle.region_forms.specs.World.{World, Exception, building, native, exception_in_slot, exception_at, exception_type, type_at}
use Rattle.region_forms.specs.Effect.{raises, only_where, flies, kept, entered_doomed, newest_of, effect}
use Rattle.linear_forms.specs.Defined.{IsDefined, RunsAt}
use Rattle.linear_forms.specs.Linear.{LinearOp, plain}
use Rattle.linear_forms.specs.Search.{found, found_above}
use Rattle.linear_forms.specs.Stub.{Function, compiled, terminating, linear}
use Rattle.linear_forms.specs.Activation.{Activation, State, Code, finishes, by_program, not_defined, kinds, look, terminated}
use Rattle.linear_forms.specs.Machine.{step}
use Rattle.linear_forms.specs.Operation.{performed}
use Rattle.linear_forms.specs.Unwinding.{raised_to, unwind, doomed_by}
use Rattle.flight_homes.specs.Keeps.{Carried, flying_in, carried_in, destroyed_in}
use Rattle.flight_homes.specs.Lives.{known_in}
use Rattle.linear_invariant.specs.Asked.{ThrowAsked}
use Rattle.linear_invariant.specs.Handled.{open_handlers}
use Rattle.linear_invariant.specs.Stands.{NewMarked}
use Rattle.linear_invariant.proofs.Asked.{throws_are_asked}
use Rattle.linear_invariant.proofs.Calls.{Spared, others_spared}
use Rattle.linear_invariant.proofs.Lists.{few_entered}
use Rattle.linear_invariant.proofs.Worlds.{But}
use Rattle.machine_forms.specs.LinearCode.{linear_code}
use Rattle.machine_stubs.specs.Stretches.{stub_word}
use Rattle.machine_pieces.specs.Turning.{Turns}
use Rattle.machine_simulation.specs.Plan.{Plan, shape}
use Rattle.machine_simulation.specs.Exceptions.{live_in}
use Rattle.machine_simulation.specs.Entering.{entry_turns}
use Rattle.machine_exceptions.proofs.Enters.{exception_is}
use Rattle.machine_exceptions.proofs.Travels.{building_there}
use Rattle.machine_raises.specs.Doomed.{AtDoomed, DoomsRun}
use Rattle.machine_raises.proofs.Replaced.{replaced_in}
use Rattle.raise_ends.specs.Ends.{unless_ending}
use Rattle.raise_ends.specs.Throws.{DoomsAbort}
use Rattle.handler_overflows.specs.Throws.{DoomsOverflow}
use Rattle.stack_bounds.specs.Taken.{StacksHoldCalls}
use Rattle.whole_runs.proofs.Rounds.{some_shown}
use Rattle.whole_runs.proofs.Single.{made_by_turns}
use Rattle.step_law.specs.Facts.{regions_for, code_for}
use Rattle.step_law.specs.Standing.{aims}
use Rattle.step_law.specs.Rows.{Run, IsAt, FollowsIn}
use Rattle.step_law.specs.Dooms.{DoomsFollow}
use Rattle.step_law.proofs.At.{in_unit, fetches, same_code, step_acts}
use Rattle.step_law.proofs.Keeping.{NotEntered, unmarked_stands}
use Rattle.step_law.proofs.Lost.{IsLost, aborts_here, nothing_hidden, begins_here, overflows_here, either_here, whatever_here}
use Rattle.step_law.proofs.Raises.{is_running, may_throw}
use Rattle.step_law.proofs.Returns.{undefined_breaks}
use Rattle.step_law.proofs.Rooms.{takes_nothing, few_to_enter}
use Rattle.step_law.proofs.Terminates.{known_handler, terminated_defined}

-- the newest handler is that of what is entered
pub newest_entered : (e : ℕ) (xs : List Entry) → newest_of (entered_on e xs) ≡ e
newest_entered e [] = refl
newest_entered e (y ∷ ys) = by (y.number == e)
  where
    by : (b : Bool) → newest_of (counted b e false y ys) ≡ e
    by true = refl
    by false = refl

-- only that one is entered
entered_alone : (e d : ℕ) → But e d → NotEntered (Enter e ∷ []) d
entered_alone e d other = grind (arith, nat_tests, other)

pub all_alone : (e : ℕ) (xs : List ℕ) → AllByRecursion (But e) xs → AllByRecursion (NotEntered (Enter e ∷ [])) xs
all_alone e [] h = tt
all_alone e (y ∷ ys) h = (entered_alone e y h.0, all_alone e ys h.1)

-- where something is shown, there is room for a further handler
pub one_entered : (x : Run) (v : World) (w : abi.World) (e turns : ℕ) (u : abi.World) → Turns (program_of x.image).image turns w u (Enter e ∷ []) → open_handlers (entered_on e v.caught) ≤ open_handlers v.caught + turns
one_entered x v w e turns u turned =
    let shows = some_shown (program_of x.image).image x.pick turns w u (Enter e) [] (made_by_turns (program_of x.image).image x.pick turns w u (Enter e ∷ []) turned) in
    let more = few_entered e v.caught in
    omega (arith, shows, more)

module _ (x : Run) (q : Plan) (before n : ℕ) (o : LinearOp) (st : State) (w : abi.World) (at_op : IsAt x q before n o st w) (e : ℕ) where
  pub spared_but : (f : Option Function) (fs : List Activation) → Spared x.carrying (But e) f fs → Spared x.carrying (NotEntered (Enter e ∷ [])) f fs
  spared_but f [] h = tt
  spared_but f (a ∷ fs) h = (all_alone e _ h.0, all_alone e _ h.1, spared_but (Some a.function) fs h.2)

  abbrev Alone : List ℕ → Type 0
  Alone = AllByRecursion (NotEntered (Enter e ∷ []))

  -- what raises has nothing on its way
  spared_top : x.carrying.carries n st.top.place ≡ false → (f : Function) → f ≡ compiled n → Alone (flying_in (carried_in x.carrying f st.top)) × Alone (destroyed_in f st.top.frame)
  spared_top none f is = subst (λ g. Alone (flying_in (carried_in x.carrying g st.top)) × Alone (destroyed_in g st.top.frame)) (sym is) (subst (λ b. Alone (flying_in (carried_if b))) (sym none) tt, tt)
    where
      carried_if : Bool → Option Carried
      carried_if b =
          if b then Some (record {
            word = st.top.frame.slots (x.carrying.object n);
            home = x.carrying.home n st.top.place;
            number = st.top.frame.slots (x.carrying.selector n);
            left = x.carrying.left n st.top.place;
          }) else None

module _ (x : Run) (q : Plan) (before n s t : ℕ) (d : Option ℕ) (st : State) (w : abi.World) (at_op : IsAt x q before n (plain (throw s t d)) st w) (none_stops : found_above (code_for x.program) (Some t) (st.top ∷ st.frames) ≡ None) where
  abbrev code : Code
  code = code_for x.program

  abbrev o : LinearOp
  o = plain (throw s t d)

  abbrev here : List Activation
  here = st.top ∷ st.frames

  abbrev e : ℕ
  e = exception_in_slot st.top.frame s

  -- the world in which the exception is thrown, and that in which the program terminates
  abbrev thrown : World
  thrown = kept e t d st.world

  abbrev v : World
  v = entered_doomed e thrown

  abbrev handler : Option ℕ
  handler = st.world.installed.terminate_handler

  -- nothing is carried where an exception is thrown
  none_carried : x.carrying.carries n st.top.place ≡ false
  none_carried = by (x.carrying.carries n st.top.place) refl
    where
      by : (b : Bool) → x.carrying.carries n st.top.place ≡ b → x.carrying.carries n st.top.place ≡ false
      by false is = is
      by true is = let no : false ≡ true = at_op.facts.fits.carries.form n st.top.place o (in_unit x q before n o st w at_op) is in absurd (cc no)

  module _ (built : is_being_built st.world e ≡ true) where
    being : live_in st.world.live e ≡ Some building
    being = building_there st.world e built

    abbrev exception : Exception
    exception = native t d st.world.installed

    is_native : exception_at thrown e ≡ exception
    is_native = exception_is thrown.live e exception (replaced_in st.world.live e exception building being)

    not_found : found code st.top.function (look code st.top.function st.top.place) (type_at thrown e) st.frames ≡ None
    not_found = ap (λ y. found code st.top.function (look code st.top.function st.top.place) y st.frames) (ap exception_type is_native) ∙ none_stops

    throws_it : effect (kinds code st.top.function) (throw s t d) st.top.frame st.world ≡ raises e thrown
    throws_it = ap (λ b. only_where b (raises e thrown)) built

    steps : step code st ≡ (if st.world.ending then finishes (by_program aborted) thrown else terminated handler here v)
    steps =
        step_acts x q before n o st w at_op ∙ ap (λ y. performed code y st.top st.frames st.world) throws_it
        ∙ ap (λ y. raised_to y e here thrown (λ c. unwind code (look code st.top.function st.top.place) c e st.top.function st.top.frame st.frames (flies e thrown))) not_found
        ∙ ap (λ y. if st.world.ending then finishes (by_program aborted) thrown else doomed_by e y here thrown) is_native

    ends_defined : (b : Bool) → IsDefined (if b then finishes (by_program aborted) thrown else terminated handler here v)
    ends_defined true = tt
    ends_defined false = terminated_defined handler here v

    defined : IsDefined (step code st)
    defined = subst IsDefined (sym steps) (ends_defined st.world.ending)

    asked : ThrowAsked (known_in (regions_for x.program)) x.carrying st s t d
    asked = throws_are_asked (regions_for x.program) x.carrying at_op.stands.steps s t d st at_op.facts.fits (unmarked_stands x.program x.image x.carrying x.tables q before st w at_op.stands) (fetches x q before n o st w at_op) defined

    doomed_here : AtDoomed x.image q n s e t d st
    doomed_here = record {
      runs = at_op.runs;
      there = at_op.there;
      may = may_throw x q before n s st w t d at_op defined;
      being = built;
      lost = subst (λ c. found_above c (Some t) here ≡ None) (sym (same_code x q before n o st w at_op)) none_stops;
      named = at_op.facts.named ∙ ap (λ b. stub_word b terminating 0) (sym at_op.stands.base);
    }

    -- it aims at none
    marked : NewMarked (aims x.program q here w) code st
    marked = record { raised = λ op y u a runs is found_it. absurd (no_target op y u a (same_op op runs) is found_it); cancelled = λ op z u runs is. tt }
      where
        same_op : (op : Op) → RunsAt code st (linear (plain op)) → throw s t d ≡ op
        same_op op runs =
            let same : Some (linear o) ≡ Some (linear (plain op)) = sym (fetches x q before n o st w at_op) ∙ runs in
            let one : plain (throw s t d) ≡ plain op = cc same in cc one

        no_target : (op : Op) (y : ℕ) (u : World) (a : ℕ) → throw s t d ≡ op → effect (kinds code st.top.function) op st.top.frame st.world ≡ raises y u →
            found code st.top.function (look code st.top.function st.top.place) (type_at u y) st.frames ≡ Some a → ⊥
        no_target op y u a same is found_it =
            let raised : raises e thrown ≡ raises y u = sym throws_it ∙ ap (λ z. effect (kinds code st.top.function) z st.top.frame st.world) same ∙ is in
            let number : e ≡ y = cc raised in
            let world : thrown ≡ u = cc raised in
            let there : found code st.top.function (look code st.top.function st.top.place) (type_at thrown e) st.frames ≡ Some a =
            ap (λ z. found code st.top.function (look code st.top.function st.top.place) (type_at z e) st.frames) world ∙ ap (λ z. found code st.top.function (look code st.top.function st.top.place) (type_at u z) st.frames) number ∙ found_it in
            let no : None ≡ Some a = sym not_found ∙ there in cc no

    lost : IsLost x q o st w v thrown (Enter e ∷ []) handler
    lost = record {
      beside = (let number = newest_entered e st.world.caught in let made = at_op.matches.runtime.exceptions.numbers e building being in record { last = refl; newest = omega (arith, number, made) });
      still = refl;
      falls = refl;
      unpaid = refl;
      steps = steps;
      marked = marked;
      spared = (let top = spared_top x q before n o st w at_op e none_carried st.top.function at_op.runs in
          (top.0, top.1, spared_but x q before n o st w at_op e (Some st.top.function) st.frames (others_spared x.carrying e (Some st.top.function) st.frames asked.has.unheld)));
      known = λ m some. known_handler q handler m w.terminate_handler some at_op.matches.runtime.exceptions.terminate_handler;
      takes = λ m some. takes_nothing x.program q handler m at_op.stands.unit at_op.stands.stands.lives.handlers.terminate some;
      leaves = refl;
      few = λ turns u turned. one_entered x st.world w e turns u turned;
    }

    -- no handler is called
    aborts : DoomsAbort → (st.world.ending ≡ true) ⊎ (handler ≡ None) → FollowsIn x before st w
    aborts run none =
        aborts_here x q before n o st w at_op v thrown (Enter e ∷ []) handler lost none (unless_ending st.world (Enter e ∷ [])) (length (linear_code (shape q n) o) + 10) (omega arith)
        (λ k many. run x.image x.pick k q n s e t d st w at_op.matches (is_running x q before n o st w at_op) doomed_here none many)

    either : DoomsRun → DoomsOverflow → StacksHoldCalls → (m : ℕ) → st.world.ending ≡ false → handler ≡ Some m → FollowsIn x before st w
    either run over holds m quiet some =
        let hidden = nothing_hidden x q before n o st w at_op v thrown (Enter e ∷ []) handler lost m quiet some in
        either_here x q before n o st w at_op v thrown (Enter e ∷ []) handler lost m quiet some
        (λ room.
        let ran = run x.image q n m s e t d st w at_op.matches (is_running x q before n o st w at_op) doomed_here quiet some hidden room in
        begins_here x q before n o st w at_op v thrown (Enter e ∷ []) handler lost m quiet some (length (linear_code (shape q n) o) + 7 + entry_turns q m) (let few = few_to_enter q m in omega (arith, few)) ran.0 refl ran.1)
        (λ lacks.
        overflows_here x q before n o st w at_op v thrown (Enter e ∷ []) handler lost m quiet some lacks holds (length (linear_code (shape q n) o) + 13) (omega arith)
        (λ k many. over x.image x.pick k q n m s e t d st w at_op.matches (is_running x q before n o st w at_op) doomed_here quiet some hidden lacks many))

    dooms : DoomsRun → DoomsAbort → DoomsOverflow → StacksHoldCalls → FollowsIn x before st w
    dooms run abort over holds = whatever_here x q before n o st w at_op v thrown (Enter e ∷ []) handler lost (aborts abort) (either run over holds)

  whatever : DoomsRun → DoomsAbort → DoomsOverflow → StacksHoldCalls → FollowsIn x before st w
  whatever run abort over holds = by (is_being_built st.world e) refl
    where
      by : (b : Bool) → is_being_built st.world e ≡ b → FollowsIn x before st w
      by true built = dooms built run abort over holds
      by false none =
          undefined_breaks x q before n o st w at_op not_defined st.world
          (step_acts x q before n o st w at_op ∙ ap (λ b. performed code (only_where b (raises e thrown)) st.top st.frames st.world) none) refl

pub dooms_follow : DoomsRun → DoomsAbort → DoomsOverflow → StacksHoldCalls → DoomsFollow
dooms_follow run abort over holds x q before n s t d st w at_op none_stops = whatever x q before n s t d st w at_op none_stops run abort over holds
