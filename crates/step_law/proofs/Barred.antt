-- A forced unwind comes to a call out of which nothing may come, in a whole run: the terminate handler in effect begins below the frames that were left,
-- or the run is over for want of stack, with 4,096 calls open.
use Rattle.std.proofs.Common.{◌≡◌, ◌⊎◌, ◌∙◌, refl, sym, ap, subst, arith, ℕ, zero, suc, ◌+◌, ◌*◌, ◌≤◌, ◌<◌, inl, inr, ℤ, Bool, true, false, List, [], ◌∷◌, length, Option, Some, is_some, if◌then◌else◌}
use Rattle.meaning_forms.specs.Outcome.{aborted}
use Rattle.cxa_runtime.specs.Raising.{Image}
use Rattle.cxa_runtime.specs.World as abi
use Rattle.cxa_runtime.specs.declared.effect.End.TheVariants.{Stack}
use Rattle.eh_run.specs.Program.{program_of}
use Rattle.region_forms.specs.Form.{Op}
use Rattle.region_forms.specs.World.{nothing, World}
use Rattle.linear_forms.specs.Linear.{LinearOp, plain, resume}
use Rattle.linear_forms.specs.Stub.{terminating, linear, stub_op}
use Rattle.linear_forms.specs.Activation.{Activation, State, Code, goes_to, finishes, by_program, not_defined, depth_of, stub_frame, function_word, terminated}
use Rattle.linear_forms.specs.Machine.{step}
use Rattle.linear_forms.specs.Operation.{resumed}
use Rattle.linear_forms.specs.Pace.{pays_at, linear_pays, paying, Leads}
use Rattle.linear_forms.specs.UnitRun.{code_of}
use Rattle.linear_forms.proofs.Paces
use Rattle.flight_homes.specs.Nest.{CallsNest, waits_terminate}
use Rattle.linear_invariant.specs.Stands.{NewMarked}
use Rattle.source_bounds.specs.Compiled.{unit_for}
use Rattle.machine_forms.specs.LinearCode.{linear_code}
use Rattle.machine_stubs.specs.Stretches.{stub_word}
use Rattle.machine_pieces.specs.Turning.{ForcedTurns}
use Rattle.machine_simulation.specs.Calls.{open_bytes}
use Rattle.machine_simulation.specs.Entering.{frame_for, begin_room}
use Rattle.machine_simulation.specs.Matches.{Matches}
use Rattle.machine_simulation.specs.Plan.{Plan, shape}
use Rattle.machine_exceptions.specs.Terminates.{waiting_terminate, ending_world, in_handler}
use Rattle.raise_ends.specs.Barriers.{barred_state, Left, Barred, ForcedUnwindsTerminate}
use Rattle.raise_ends.specs.Ends.{RunEnds, HandlerBegins, hiding, plan_in_handler, HandlerFits}
use Rattle.raise_ends.specs.Unwinds.{BeginsUnwind, GoesOnUnwinding, AtUnwind}
use Rattle.handler_overflows.specs.Unwinds.{BarredOverflows, ForcedUnwindsOverflow}
use Rattle.handler_overflows.specs.Overflow.{HandlerLacksRoom}
use Rattle.handler_overflows.proofs.Above.{unwind_leaves}
use Rattle.stack_bounds.specs.Taken.{is_terminate_call, terminate_calls, StacksHoldCalls}
use Rattle.address_invariant.specs.Extents.{extents_of}
use Rattle.address_invariant.specs.Laws.{GoesOn}
use Rattle.address_invariant.specs.Reaching.{Reaches}
use Rattle.address_invariant.proofs.Newest.{newest_was_made}
use Rattle.address_invariant.proofs.Plans.{plans_go_on}
use Rattle.address_invariant.proofs.Steps.{steps_reach}
use Rattle.whole_runs.specs.Steps.{Overflows}
use Rattle.whole_runs.proofs.Counts.{quiet_once}
use Rattle.whole_runs.proofs.Rounds.{pays_known, some_ending, steps_overflow}
use Rattle.whole_runs.proofs.Single.{made_by_forced}
use Rattle.whole_runs.proofs.Staying.{once_stays, deepest_grows}
use Rattle.whole_runs.proofs.Spending.{terminate_turns, first_among}
use Rattle.cost_words.specs.Spends.{spends}
use Rattle.step_law.specs.Barred.{BarredFollow}
use Rattle.step_law.specs.Facts.{needs_for, code_for}
use Rattle.step_law.specs.Standing.{aims, StandsBy}
use Rattle.step_law.specs.Rows.{Run, IsAt, FollowsIn}
use Rattle.step_law.proofs.At.{same_code, step_acts, own_end_paid, turn_paid}
use Rattle.step_law.proofs.BarredStands.{IsBarred, barred_stands}
use Rattle.step_law.proofs.Barring.{own_bytes, own_depth}
use Rattle.step_law.proofs.Exceptions.{calm_other}
use Rattle.step_law.proofs.Forced.{cancels_unpaid, begun, cancels_marked}
use Rattle.step_law.proofs.ForcedEnds.{begins_unwind, forced_terminates}
use Rattle.step_law.proofs.HandlerBegins.{none_terminate}
use Rattle.step_law.proofs.Rooms.{few_to_enter, takes_nothing, room_or_none, page_here}
use Rattle.step_law.proofs.Terminates.{known_handler}
use Rattle.step_law.proofs.Keeping.{CalmAt, calm_marked, WayKept, kept_by_forced}
use Rattle.step_law.proofs.Raises.{is_running, forced_asked}
use Rattle.step_law.proofs.Calm.{rest_of, led_one}

-- terminate raises nothing itself
pub none_plain : (p : ℕ) (op : Op) → stub_op terminating p ≡ Some (linear (plain op)) → ⊥
none_plain zero op e = cc e
none_plain (suc zero) op e = cc e
none_plain (suc (suc p)) op e = cc e

module _ (x : Run) (q : Plan) (before n m : ℕ) (o : LinearOp) (st : State) (w : abi.World) (at : IsAt x q before n o st w) (gs : List Activation)
    (terminates : step (code_for x.program) st ≡ terminated st.world.installed.terminate_handler gs st.world) (quiet : st.world.ending ≡ false) (some : st.world.installed.terminate_handler ≡ Some m) (unpaid : linear_pays o ≡ false)
    (news : NewMarked (aims x.program q (st.top ∷ st.frames) w) (code_for x.program) st) where
  abbrev code : Code
  code = code_for x.program

  abbrev own : Code
  own = code_of q.unit

  abbrev image : Image
  image = (program_of x.image).image

  abbrev here : List Activation
  here = st.top ∷ st.frames

  -- terminate waits for the handler
  abbrev middle : State
  middle = record { top = waiting_terminate m; frames = gs; world = ending_world st.world }

  one : step code st ≡ goes_to middle
  one = terminates ∙ ap (λ h. terminated h gs st.world) some ∙ ap (λ b. if b then finishes (by_program aborted) st.world else goes_to middle) quiet

  known : m < length q.unit.functions
  known = known_handler q st.world.installed.terminate_handler m w.terminate_handler some at.matches.runtime.exceptions.terminate_handler

  unpaid_own : pays_at own st ≡ false
  unpaid_own = pays_known image x.pick q st w n o at.runs at.there ∙ unpaid

  none_open : terminate_calls here ≡ 0
  none_open =
      let top : is_terminate_call st.top.function ≡ 0 = ap is_terminate_call at.runs in
      let others = none_terminate st.frames (by (waits_terminate st.frames) refl) in
      omega (arith, top, others)
    where
      by : (b : Bool) → waits_terminate st.frames ≡ b → waits_terminate st.frames ≡ false
      by true is = let no : false ≡ true = sym quiet ∙ at.stands.stands.stand.waits is in absurd (cc no)
      by false is = is

  module _ (left : Left st) (begins : HandlerBegins q m st (barred_state left.barring left.outer st.world) []) where
    abbrev waiting : State
    waiting = barred_state left.barring left.outer st.world

    abbrev rest : List Activation
    rest = waiting.top ∷ left.outer

    abbrev go : State
    go = in_handler q m waiting

    two : step code middle ≡ goes_to go
    two =
        let last = rest_of own 1 st middle go begins.0 (ap (λ c. step c st) (same_code x q before n o st w at) ∙ one) in
        ap (λ c. step c middle) (sym (same_code x q before n o st w at)) ∙ last.1 ∙ ap goes_to last.2

    pub leads : Leads code 2 st (goes_to go)
    leads = Paces.stepped code 1 st middle (goes_to go) one (Paces.one_step code middle (goes_to go) two)

    -- the frames of the calls that were left lie between terminate and those below it
    abbrev hidden : ℕ
    hidden = open_bytes q left.calls

    abbrev r : Plan
    r = plan_in_handler (hiding q hidden) m waiting

    first_reaches : Reaches (extents_of q) (unit_for x.program) (needs_for x.program) middle
    first_reaches =
        let older = at.matches.memory.newest in
        let goes : GoesOn (extents_of q) (extents_of q) (unit_for x.program) st.world middle =
        subst (λ u. GoesOn (extents_of q) (extents_of q) u st.world middle) at.stands.unit (plans_go_on.same q q st.world middle refl at.stands.reaches.objects (omega arith) (λ is. omega (arith, is, older))) in
        steps_reach (extents_of q) (extents_of q) (unit_for x.program) (needs_for x.program) st middle at.facts.reach at.stands.reaches (newest_was_made q st w at.matches) one goes

    go_reaches : Reaches (extents_of r) (unit_for x.program) (needs_for x.program) go
    go_reaches =
        let goes : GoesOn (extents_of q) (extents_of r) (unit_for x.program) middle.world go =
        subst (λ u. GoesOn (extents_of q) (extents_of r) u middle.world go) at.stands.unit (plans_go_on.called (hiding q hidden) m (frame_for (hiding q hidden) m (waiting_terminate m ∷ rest)) middle.world go (at.matches.memory.unit.frames m known) first_reaches.objects refl refl) in
        steps_reach (extents_of q) (extents_of r) (unit_for x.program) (needs_for x.program) middle go at.facts.reach first_reaches (newest_was_made q st w at.matches) two goes

    -- few frames were left
    hidden_few : hidden ≤ 1728 * go.world.deepest + 128
    hidden_few =
        let bytes = own_bytes q (at.facts.frames q at.stands.unit) left.calls left.own in
        let depth = own_depth left.calls (left.barring ∷ left.outer) left.own in
        let whole = ap depth_of left.split in
        let depth_now = at.stands.stands.stand.deep in
        let more = deepest_grows code 2 st go leads in
        omega (arith, bytes, depth, whole, depth_now, more)

    module _ (turns : ℕ) (u : abi.World) (kept : WayKept w u []) (matches : Matches r go u) where
      next_news : (j : ℕ) (s : State) → j < 2 → Leads code j st (goes_to s) → NewMarked (aims x.program q here w) code s
      next_news zero s less led = let same : st ≡ s = cc led in subst (λ y. NewMarked (aims x.program q here w) code y) same news
      next_news (suc zero) s less led =
          let calm : CalmAt code middle = λ op runs. absurd (none_plain 0 op runs) in
          let same : middle ≡ s = led_one code st middle s one led in
          subst (λ y. NewMarked (aims x.program q here w) code y) same (calm_marked (aims x.program q here w) code middle (λ z. tt) calm)
      next_news (suc (suc j)) s less led = absurd (omega (arith, less))

      barred_there : IsBarred x q r turns m 2 left.calls left.barring left.outer st.world st w u []
      barred_there = record {
        split = left.split;
        unit = refl;
        base = refl;
        tables = refl;
        hidden = hidden_few;
        leads = leads;
        news = next_news;
        none_open = none_open;
        few = omega arith;
        reaches = go_reaches;
        entered = λ e. refl;
        kept = kept;
        matches = matches;
      }

      stands : StandsBy x.program x.image x.carrying x.tables r (before + turns) go u
      stands = barred_stands x q r before turns m 2 left.calls left.barring left.outer st.world st w u [] at.facts at.stands barred_there

    first_pays : (turns : ℕ) → turns ≤ length (linear_code (shape q n) o) + 64 → turns ≤ spends code 1 st
    first_pays turns least = turn_paid x q before n o st w at middle turns one (terminate_turns code st middle refl) least

    goes_on : (turns : ℕ) → turns ≤ length (linear_code (shape q n) o) + 64 → (u : abi.World) → ForcedTurns image turns w u [] → Matches r go u → FollowsIn x before st w
    goes_on turns least u turned matches =
        let made = made_by_forced image x.pick turns w u [] turned in
        let many = some_ending image x.pick turns w u [] made (at.matches.runtime.terminating ∙ quiet) matches.runtime.terminating in
        let once : paying code 2 st ≤ 1 = subst (λ c. paying c 2 st ≤ 1) (same_code x q before n o st w at) (quiet_once own st unpaid_own) in
        inl (record {
          steps = 2;
          some = omega arith;
          next = go;
          leads = leads;
          stays = once_stays image x.pick code 2 st w once;
          items = [];
          shows = begins.1;
          turns = turns;
          paid = omega (arith, once, many);
          few = (let first = first_pays turns least in let all = first_among code 2 st (omega arith) in omega (arith, first, all));
          soon = (let first = first_pays turns least in omega (arith, first));
          after = u;
          made = made;
          stands = (r, stands turns u (kept_by_forced image turns w u [] turned) matches);
        })

    -- no room for it
    runs_over : StacksHoldCalls → (most : ℕ) → most ≤ length (linear_code (shape q n) o) + 64 → 0x100_0000 < open_bytes q (waiting_terminate m ∷ here) + (shape q m).size + 0x1000 → ((j : ℕ) → most ≤ j → RunEnds image x.pick j w [] Stack) → FollowsIn x before st w
    runs_over holds most least lacks ran =
        let none = none_open in
        let depth_now = at.stands.stands.stand.deep in
        let nest : CallsNest (waiting_terminate m ∷ here) = (refl, at.stands.stands.stand.nest) in
        let deep = holds q (waiting_terminate m ∷ here) m st.world.deepest (at.facts.frames q at.stands.unit) nest (omega (arith, none)) at.stands.hidden (omega (arith, depth_now)) lacks in
        let more = deepest_grows code 2 st go leads in
        inr (inr (inl (subst (λ c. Overflows image x.pick c st w) (same_code x q before n o st w at)
        (steps_overflow image x.pick q st w 2 go most [] begins.0 (quiet_once own st unpaid_own) (own_end_paid x q before n o st w at most least) (omega (arith, deep, more)) begins.1 (λ j many. ran j many)))))

  -- the handler begins, or finds no room
  module _ (k : ℤ) (unwinds : BeginsUnwind q n st o k ⊎ GoesOnUnwinding q n st w o k) where
    abbrev words : ℕ
    words = length (linear_code (shape q n) o)

    abbrev at_unwind : AtUnwind q n st w k
    at_unwind = record { operation = o; runs = at.runs; there = at.there; unwinds = unwinds }

    named : image.places.terminate ≡ stub_word q.base terminating 0
    named = at.facts.named ∙ ap (λ b. stub_word b terminating 0) (sym at.stands.base)

    own_one : step own st ≡ goes_to middle
    own_one = ap (λ c. step c st) (same_code x q before n o st w at) ∙ one

    barred : ForcedUnwindsTerminate → HandlerFits q m st → Barred q x.image m st w words k
    barred run fits = run.calls_the_handler x.image q n m k st middle w at.matches (is_running x q before n o st w at) at_unwind own_one refl at.stands.stands.stand named some fits

    over_by : ForcedUnwindsOverflow → HandlerLacksRoom q m st → (j : ℕ) → words + 13 ≤ j → BarredOverflows image x.pick j q m st w
    over_by over lacks j many = over x.image x.pick j q n m k st middle w at.matches (is_running x q before n o st w at) at_unwind own_one refl at.stands.stands.stand named some (at.stands.hides quiet) lacks many

    pub either : ForcedUnwindsTerminate → ForcedUnwindsOverflow → StacksHoldCalls → FollowsIn x before st w
    either run over holds =
        by (room_or_none (shape q m).leaf (open_bytes q (waiting_terminate m ∷ here)) (shape q m).size
        (let page = page_here x q before n o st w at (unwind_leaves q n st w k at_unwind) in let none = at.stands.hides quiet in omega (arith, page, none)))
      where
        by : (open_bytes q (waiting_terminate m ∷ here) + begin_room (shape q m).leaf (shape q m).size ≤ 0x100_0000) ⊎ (((shape q m).leaf ≡ false) × (0x100_0000 < open_bytes q (waiting_terminate m ∷ here) + (shape q m).size + 0x1000)) → FollowsIn x before st w
        by (inl room) =
            let b = barred run (record { taken = takes_nothing x.program q st.world.installed.terminate_handler m at.stands.unit at.stands.stands.lives.handlers.terminate some; room = room }) in
            let entry = few_to_enter q m in
            goes_on b.left b.begins b.ran.turns (omega (arith, b.ran.few, entry)) b.ran.after b.ran.runs b.ran.holds.0
        by (inr none) =
            let lacks : HandlerLacksRoom q m st = record { looks = none.0; lacks = none.1 } in
            let first = over_by over lacks (words + 13) (omega arith) in
            runs_over first.left first.overflows.0 holds (words + 13) (omega arith) none.1 (λ j many. (over_by over lacks j many).overflows.1)

-- a step that comes to terminate does while that does not run yet
pub not_ending : (h : Option ℕ) (gs : List Activation) (v : World) (next : State) → terminated h gs v ≡ goes_to next → v.ending ≡ false
not_ending h gs v next e = by v.ending refl e
  where
    begun : State
    begun = record { top = record { function = terminating; place = 0; frame = stub_frame (function_word h) nothing nothing }; frames = gs; world = record v { ending = is_some h } }

    by : (b : Bool) → v.ending ≡ b → (if b then finishes (by_program aborted) v else goes_to begun) ≡ goes_to next → v.ending ≡ false
    by false is e = is
    by true is e = absurd (cc e)

pub barred_follow : ForcedUnwindsTerminate → ForcedUnwindsOverflow → StacksHoldCalls → BarredFollow
barred_follow run over holds = record {
  resumed = λ x q before n s m z st next w at is e ends some.
      let code : Code = code_for x.program in
      let forces = sym (step_acts x q before n (resume s) st w at ∙ ap (λ y. resumed code y st.top st.frames st.world) is) ∙ e in
      let t = forced_terminates code z st.world next ends st.top st.frames forces in
      let terminates = e ∙ sym forces ∙ t.1 in
      let calm : CalmAt code st = calm_other x q before n (resume s) st w at (λ op same. cc same) in
      either x q before n m (resume s) st w at t.0 terminates (not_ending st.world.installed.terminate_handler t.0 st.world next (sym terminates ∙ e)) some refl
      (calm_marked (aims x.program q (st.top ∷ st.frames) w) code st (λ k. tt) calm) z (inr (record { slot = s; is = refl; asked = forced_asked x q before n s st w at z is })) run over holds;
  cancelled = λ x q before n m o value st next w at begins e ends some.
      let code : Code = code_for x.program in
      let defined : finishes not_defined st.world ≡ goes_to next → ⊥ = λ no. cc no in
      let b = begun x q before n o value st w at begins (goes_to next) e defined in
      let t = forced_terminates code b.number st.world next ends st.top st.frames b.forces in
      let terminates = e ∙ sym b.forces ∙ t.1 in
      either x q before n m o st w at t.0 terminates (not_ending st.world.installed.terminate_handler t.0 st.world next (sym terminates ∙ e)) some (cancels_unpaid value o begins)
      (cancels_marked x q before n o value st w at begins) b.number (inl (begins_unwind x q before n o value st w at begins (goes_to next) e defined)) run over holds;
}
