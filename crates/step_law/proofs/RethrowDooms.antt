-- The newest exception that is handled is thrown again, and nothing stops it, in a whole run.
use Rattle.std.proofs.Common.{◌≡◌, ◌∙◌, refl, sym, ap, subst, arith, ℕ, ◌+◌, ◌≤◌, ◌<◌, ◌⊎◌, true, false, List, [], ◌∷◌, length, Option, Some, None, if◌then◌else◌}
use Rattle.meaning_forms.specs.Outcome.{aborted}
use Rattle.run_items.specs.declared.item.Item.{Item}
use Rattle.cxa_runtime.specs.World as abi
use Rattle.eh_run.specs.Program.{program_of}
use Rattle.region_forms.specs.Caught.{Entry}
use Rattle.region_forms.specs.Form.{Op, rethrow}
use Rattle.region_forms.specs.Lives.{can_travel}
use Rattle.region_forms.specs.World.{World, Exception, building, native, foreign, exception_at, type_at}
use Rattle.region_forms.specs.Effect.{Effect, raises, terminates, only_where, rethrown, flies, newest_of, effect}
use Rattle.linear_forms.specs.Defined.{RunsAt}
use Rattle.linear_forms.specs.Linear.{LinearOp, plain}
use Rattle.linear_forms.specs.Search.{found, found_above}
use Rattle.linear_forms.specs.Stub.{terminating, linear}
use Rattle.linear_forms.specs.Activation.{Activation, State, Code, finishes, by_program, kinds, look, terminated}
use Rattle.linear_forms.specs.Machine.{step}
use Rattle.linear_forms.specs.Operation.{performed}
use Rattle.linear_forms.specs.Unwinding.{raised_to, unwind, doomed_by}
use Rattle.flight_homes.specs.Lives.{ExceptionKnown, known_in}
use Rattle.linear_invariant.specs.Asked.{NewestAsked}
use Rattle.linear_invariant.specs.Handled.{open_handlers}
use Rattle.linear_invariant.specs.Stands.{NewMarked}
use Rattle.linear_invariant.proofs.Asked.{leaves_are_asked}
use Rattle.linear_invariant.proofs.Calls.{Spared, all_spared, others_spared}
use Rattle.linear_invariant.proofs.Worlds.{But}
use Rattle.machine_forms.specs.LinearCode.{linear_code}
use Rattle.machine_stubs.specs.Stretches.{stub_word}
use Rattle.machine_pieces.specs.Turning.{Turns}
use Rattle.machine_simulation.specs.Plan.{Plan, shape, function}
use Rattle.machine_simulation.specs.Entering.{entry_turns}
use Rattle.machine_simulation.proofs.LiveThere.{built_there}
use Rattle.raise_ends.specs.Ends.{unless_ending}
use Rattle.raise_ends.specs.Rethrows.{handler_used, entered_where_native, entering, AtRethrow, RethrowsDoom}
use Rattle.handler_overflows.specs.Rethrows.{RethrowsOverflow}
use Rattle.stack_bounds.specs.Taken.{StacksHoldCalls}
use Rattle.address_invariant.proofs.Newest.{newest_was_made}
use Rattle.step_law.specs.Facts.{regions_for, code_for}
use Rattle.step_law.specs.Standing.{aims}
use Rattle.step_law.specs.Rows.{Run, IsAt, FollowsIn}
use Rattle.step_law.specs.RethrowDooms.{RethrowDoomsFollow}
use Rattle.step_law.proofs.At.{fetches, same_code, step_acts}
use Rattle.step_law.proofs.Dooms.{newest_entered, one_entered, spared_but}
use Rattle.step_law.proofs.HandlerBegins.{EndsIn}
use Rattle.step_law.proofs.Keeping.{NotEntered, unmarked_stands}
use Rattle.step_law.proofs.Lost.{IsLost, aborts_here, nothing_hidden, begins_here, overflows_here, either_here, whatever_here}
use Rattle.step_law.proofs.Raises.{is_running, raises_are_asked}
use Rattle.step_law.proofs.Rooms.{few_to_enter, takes_nothing, handler_there}
use Rattle.step_law.proofs.Terminates.{known_handler}

-- what terminate does of an exception that is lost
doomed_is : (z : Exception) (e : ℕ) (fs : List Activation) (v : World) → doomed_by e z fs v ≡ terminated (handler_used z v) fs (entered_where_native z e v)
doomed_is building e fs v = refl
doomed_is (native t d kept) e fs v = refl
doomed_is (foreign k token) e fs v = refl

lost_ending : (z : Exception) (e : ℕ) (v : World) → (entered_where_native z e v).ending ≡ v.ending
lost_ending building e v = refl
lost_ending (native t d kept) e v = refl
lost_ending (foreign k token) e v = refl

lost_beside : (z : Exception) (e : ℕ) (v : World) → e ≤ v.last_number → newest_of v.caught ≤ v.last_number → EndsIn v (entered_where_native z e v)
lost_beside building e v made newest = record { last = refl; newest = newest }
lost_beside (native t d kept) e v made newest = let number = newest_entered e v.caught in record { last = refl; newest = omega (arith, number, made) }
lost_beside (foreign k token) e v made newest = record { last = refl; newest = newest }

lost_few : (x : Run) (z : Exception) (e : ℕ) (v : World) (w : abi.World) (turns : ℕ) (u : abi.World) → Turns (program_of x.image).image turns w u (entering z e) → open_handlers (entered_where_native z e v).caught ≤ open_handlers v.caught + turns
lost_few x building e v w turns u turned = omega arith
lost_few x (native t d kept) e v w turns u turned = one_entered x v w e turns u turned
lost_few x (foreign k token) e v w turns u turned = omega arith

module _ (x : Run) (q : Plan) (before n : ℕ) (y : Entry) (ys : List Entry) (st : State) (w : abi.World) (at_op : IsAt x q before n (plain rethrow) st w) (caught : st.world.caught ≡ y ∷ ys) (still : y.again ≡ false)
    (none_stops : found_above (code_for x.program) (type_at st.world y.number) (st.top ∷ st.frames) ≡ None) where
  abbrev code : Code
  code = code_for x.program

  abbrev o : LinearOp
  o = plain rethrow

  abbrev here : List Activation
  here = st.top ∷ st.frames

  abbrev e : ℕ
  e = y.number

  abbrev z : Exception
  z = exception_at st.world e

  abbrev v : World
  v = entered_where_native z e st.world

  abbrev items : List Item
  items = entering z e

  abbrev handler : Option ℕ
  handler = handler_used z st.world

  asked : NewestAsked (known_in (regions_for x.program)) x.carrying st y ys
  asked = leaves_are_asked (regions_for x.program) x.carrying at_op.stands.steps st y ys at_op.facts.fits (unmarked_stands x.program x.image x.carrying x.tables q before st w at_op.stands) caught

  -- it is raised
  throws_it : effect (kinds code st.top.function) rethrow st.top.frame st.world ≡ raises e st.world
  throws_it =
      ap (λ xs. rethrown xs st.world) caught ∙ ap (λ b. if b then terminates st.world.installed.terminate_handler st.world else only_where_it) still
      ∙ ap (λ b. only_where b (raises e st.world)) asked.can
    where
      only_where_it : Effect
      only_where_it = only_where (can_travel st.world e) (raises e st.world)

  steps : step code st ≡ (if st.world.ending then finishes (by_program aborted) st.world else terminated handler here v)
  steps =
      step_acts x q before n o st w at_op ∙ ap (λ f. performed code f st.top st.frames st.world) throws_it
      ∙ ap (λ f. raised_to f e here st.world (λ c. unwind code (look code st.top.function st.top.place) c e st.top.function st.top.frame st.frames (flies e st.world))) none_stops
      ∙ ap (λ f. if st.world.ending then finishes (by_program aborted) st.world else f) (doomed_is z e here st.world)

  -- it aims at none
  marked : NewMarked (aims x.program q here w) code st
  marked = record { raised = λ op i u a runs is found_it. absurd (no_target op i u a (same_op op runs) is found_it); cancelled = λ op j u runs is. tt }
    where
      same_op : (op : Op) → RunsAt code st (linear (plain op)) → rethrow ≡ op
      same_op op runs =
          let same : Some (linear o) ≡ Some (linear (plain op)) = sym (fetches x q before n o st w at_op) ∙ runs in
          let one : plain rethrow ≡ plain op = cc same in cc one

      no_target : (op : Op) (i : ℕ) (u : World) (a : ℕ) → rethrow ≡ op → effect (kinds code st.top.function) op st.top.frame st.world ≡ raises i u →
          found code st.top.function (look code st.top.function st.top.place) (type_at u i) st.frames ≡ Some a → ⊥
      no_target op i u a same is found_it =
          let raised : raises e st.world ≡ raises i u = sym throws_it ∙ ap (λ f. effect (kinds code st.top.function) f st.top.frame st.world) same ∙ is in
          let number : e ≡ i = cc raised in
          let world : st.world ≡ u = cc raised in
          let there : found code st.top.function (look code st.top.function st.top.place) (type_at st.world e) st.frames ≡ Some a =
          ap (λ f. found code st.top.function (look code st.top.function st.top.place) (type_at f e) st.frames) world ∙ ap (λ f. found code st.top.function (look code st.top.function st.top.place) (type_at u f) st.frames) number ∙ found_it in
          let no : None ≡ Some a = sym none_stops ∙ there in cc no

  made : e ≤ st.world.last_number
  made = at_op.matches.runtime.exceptions.numbers e z (built_there st.world.live e asked.can)

  -- the handler is a function of the unit
  known_kept : (i : Exception) → ExceptionKnown (known_in (regions_for x.program)) i → (m : ℕ) → handler_used i st.world ≡ Some m → m < length q.unit.functions
  known_kept building h m some = known_handler q st.world.installed.terminate_handler m w.terminate_handler some at_op.matches.runtime.exceptions.terminate_handler
  known_kept (foreign k token) h m some = known_handler q st.world.installed.terminate_handler m w.terminate_handler some at_op.matches.runtime.exceptions.terminate_handler
  known_kept (native t d kept) h m some = handler_there x.program q kept.terminate_handler m at_op.stands.unit h.2.terminate some

  -- and takes nothing
  takes_kept : (i : Exception) → ExceptionKnown (known_in (regions_for x.program)) i → (m : ℕ) → handler_used i st.world ≡ Some m → 0 ≡ (function q m).parameters
  takes_kept building h m some = takes_nothing x.program q st.world.installed.terminate_handler m at_op.stands.unit at_op.stands.stands.lives.handlers.terminate some
  takes_kept (foreign k token) h m some = takes_nothing x.program q st.world.installed.terminate_handler m at_op.stands.unit at_op.stands.stands.lives.handlers.terminate some
  takes_kept (native t d kept) h m some = takes_nothing x.program q kept.terminate_handler m at_op.stands.unit h.2.terminate some

  others : Spared x.carrying (But e) (Some terminating) here
  others = let all = others_spared x.carrying e None here (asked.unheld still) in (all.0, all.1, all.2)

  spared_by : (i : Exception) → Spared x.carrying (NotEntered (entering i e)) (Some terminating) here
  spared_by building = all_spared x.carrying (NotEntered []) (λ j. refl) (Some terminating) here
  spared_by (foreign k token) = all_spared x.carrying (NotEntered []) (λ j. refl) (Some terminating) here
  spared_by (native t d kept) = spared_but x q before n o st w at_op e (Some terminating) here others

  lost : IsLost x q o st w v st.world items handler
  lost = record {
    beside = lost_beside z e st.world made (newest_was_made q st w at_op.matches);
    still = lost_ending z e st.world;
    falls = refl;
    unpaid = refl;
    steps = steps;
    marked = marked;
    spared = spared_by z;
    known = λ m some. known_kept z asked.exception m some;
    takes = λ m some. takes_kept z asked.exception m some;
    leaves = refl;
    few = λ turns u turned. lost_few x z e st.world w turns u turned;
  }

  rethrows_here : AtRethrow x.image q n y ys st
  rethrows_here = record {
    runs = at_op.runs;
    there = at_op.there;
    caught = caught;
    still = still;
    travels = asked.can;
    type = raises_are_asked.newest x q before n o st w y ys at_op caught;
    lost = subst (λ c. found_above c (type_at st.world e) here ≡ None) (sym (same_code x q before n o st w at_op)) none_stops;
    named = at_op.facts.named ∙ ap (λ b. stub_word b terminating 0) (sym at_op.stands.base);
  }

  aborts : RethrowsDoom → (st.world.ending ≡ true) ⊎ (handler ≡ None) → FollowsIn x before st w
  aborts run none =
      aborts_here x q before n o st w at_op v st.world items handler lost none (unless_ending st.world items) (length (linear_code (shape q n) o) + 10) (omega arith)
      (λ k many. run.aborts x.image x.pick k q n y ys st w at_op.matches (is_running x q before n o st w at_op) rethrows_here none many)

  either : RethrowsDoom → RethrowsOverflow → StacksHoldCalls → (m : ℕ) → st.world.ending ≡ false → handler ≡ Some m → FollowsIn x before st w
  either run over holds m quiet some =
      let hidden = nothing_hidden x q before n o st w at_op v st.world items handler lost m quiet some in
      either_here x q before n o st w at_op v st.world items handler lost m quiet some
      (λ room.
      let ran = run.calls_the_handler x.image q n m y ys st w at_op.matches (is_running x q before n o st w at_op) rethrows_here quiet some hidden room in
      begins_here x q before n o st w at_op v st.world items handler lost m quiet some (length (linear_code (shape q n) o) + 7 + entry_turns q m) (let few = few_to_enter q m in omega (arith, few)) ran.0.0 ran.0.1 ran.1)
      (λ lacks.
      overflows_here x q before n o st w at_op v st.world items handler lost m quiet some lacks holds (length (linear_code (shape q n) o) + 13) (omega arith)
      (λ k many. over x.image x.pick k q n m y ys st w at_op.matches (is_running x q before n o st w at_op) rethrows_here quiet some hidden lacks many))

  whatever : RethrowsDoom → RethrowsOverflow → StacksHoldCalls → FollowsIn x before st w
  whatever run over holds = whatever_here x q before n o st w at_op v st.world items handler lost (aborts run) (either run over holds)

pub rethrow_dooms_follow : RethrowsDoom → RethrowsOverflow → StacksHoldCalls → RethrowDoomsFollow
rethrow_dooms_follow run over holds x q before n y ys st w at_op caught still none_stops = whatever x q before n y ys st w at_op caught still none_stops run over holds
