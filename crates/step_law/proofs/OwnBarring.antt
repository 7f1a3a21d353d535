-- What must be shown of one of the runtime's own functions from which a forced unwind goes on to a call out of which nothing may come: the terminate handler
-- in effect begins below the frames that were left, or the run is over for want of stack, with 4,096 calls open.
use Rattle.std.proofs.Common.{◌≡◌, ◌≢◌, ◌⊎◌, ◌∙◌, refl, sym, ap, subst, arith, ℕ, ◌+◌, ◌*◌, ◌≤◌, ◌<◌, inl, inr, Bool, true, false, List, [], ◌∷◌, ◌++◌, length, append-nil, Some, if◌then◌else◌, suc}
use Rattle.run_items.specs.declared.item.Item.{Item}
use Rattle.meaning_forms.specs.Outcome.{aborted}
use Rattle.cxa_runtime.specs.declared.effect.End.TheVariants.{Stack}
use Rattle.cxa_runtime.specs.Raising.{Image}
use Rattle.cxa_runtime.specs.World as abi
use Rattle.eh_run.specs.Program.{program_of}
use Rattle.region_forms.specs.World.{World}
use Rattle.region_forms.specs.Effect.{new_world}
use Rattle.linear_forms.specs.Linear.{UnitCode}
use Rattle.linear_forms.specs.Activation.{Activation, State, Code, goes_to, finishes, by_program, depth_of, terminated}
use Rattle.linear_forms.specs.Machine.{step}
use Rattle.linear_forms.specs.Pace.{pays_at, paying, Leads}
use Rattle.linear_forms.specs.UnitRun.{code_at, code_of}
use Rattle.flight_homes.specs.Lives.{known_in}
use Rattle.flight_homes.specs.Nest.{CallsNest, waits_terminate}
use Rattle.linear_invariant.specs.Calls.{unmarked}
use Rattle.linear_invariant.specs.Handled.{open_handlers}
use Rattle.linear_invariant.specs.Stands.{StandsIn}
use Rattle.source_bounds.specs.Compiled.{unit_for}
use Rattle.machine_pieces.specs.Turning.{Turns}
use Rattle.machine_simulation.specs.Calls.{frame_of, open_bytes}
use Rattle.machine_simulation.specs.Entering.{frame_for, begin_room}
use Rattle.machine_simulation.specs.Matches.{FrameIs, Matches}
use Rattle.machine_simulation.specs.Plan.{Plan, function, shape, slot_kinds}
use Rattle.machine_exceptions.specs.Terminates.{waiting_terminate, ending_world, in_handler}
use Rattle.raise_ends.specs.Barriers.{barred_state}
use Rattle.raise_ends.specs.Ends.{RunEnds, HandlerBegins, hiding, plan_in_handler, HandlerFits}
use Rattle.own_ends.specs.Unwinds.{OwnLeft, OwnBarred, OwnOverflows}
use Rattle.own_ends.specs.Overflow.{LacksRoom}
use Rattle.stack_bounds.specs.Taken.{is_terminate_call, terminate_calls, StacksHoldCalls}
use Rattle.address_bounds.specs.Reaches.{Needs}
use Rattle.address_invariant.specs.Extents.{Extents, extents_of}
use Rattle.address_invariant.specs.Laws.{GoesOn}
use Rattle.address_invariant.specs.Reaching.{IsBegunCall, CallsReach, Reaches}
use Rattle.address_invariant.proofs.Plans.{plans_go_on}
use Rattle.address_invariant.proofs.Steps.{steps_reach}
use Rattle.whole_runs.proofs.Counts.{quiet_once}
use Rattle.whole_runs.proofs.Rounds.{some_ending}
use Rattle.whole_runs.proofs.Single.{made_by_turns}
use Rattle.whole_runs.proofs.Staying.{once_stays, deepest_grows}
use Rattle.whole_runs.proofs.Spending.{call_turns, last_turn_spends}
use Rattle.cost_words.specs.Spends.{spends}
use Rattle.step_law.specs.Facts.{regions_for, needs_for, code_for}
use Rattle.step_law.specs.Own.{StandsAt}
use Rattle.step_law.specs.Rows.{Run, FollowsIn}
use Rattle.step_law.specs.Standing.{IsFounded, aims}
use Rattle.step_law.proofs.At.{there_is}
use Rattle.step_law.proofs.Barred.{none_plain}
use Rattle.step_law.proofs.BarredStands.{IsBarred, barred_stands}
use Rattle.step_law.proofs.Barring.{own_bytes, own_depth}
use Rattle.step_law.proofs.Calm.{CalmSteps, calm_leads, calm_before, rest_of}
use Rattle.step_law.proofs.Facing.{newest_made}
use Rattle.step_law.proofs.HandlerBegins.{none_terminate}
use Rattle.step_law.proofs.Keeping.{NotEntered, CalmAt, calm_marked, way_kept, kept_by_turns}
use Rattle.step_law.proofs.Rooms.{takes_nothing, handler_there, room_or_none}

-- where the outermost call is of a compiled function, calls were made
calls_made : (y : Extents) (u : UnitCode) (needs : Needs) (v : World) (a : Activation) (fs : List Activation) → IsFounded a.function fs → CallsReach y u needs v (a ∷ fs) → 0 < v.calls
calls_made y u needs v a [] founded h = let begun : a.frame.call < v.calls = subst (λ f. IsBegunCall v f a.frame.call) founded.1 h.0.begun in omega (arith, begun)
calls_made y u needs v a (b ∷ fs) founded h = calls_made y u needs v b fs founded h.1

-- the function's last operation, from which the unwind goes on, where things stand then, and what was shown up to it
pub record LastThere (x : Run) (q lq : Plan) (p : ℕ) (v : World) (items : List Item) (gs : List Activation) (m : ℕ) (st : State) (w : abi.World) : Type 0 where
  pub steps : ℕ
  pub inv : StandsIn (unmarked (known_in (regions_for x.program))) (code_for x.program) x.carrying steps (record { top = record { function = st.top.function; place = p; frame = st.top.frame }; frames = st.frames; world = v })
  pub reaches : Reaches (extents_of lq) (unit_for x.program) (needs_for x.program) (record { top = record { function = st.top.function; place = p; frame = st.top.frame }; frames = st.frames; world = v })
  pub calm : CalmAt (code_for x.program) (record { top = record { function = st.top.function; place = p; frame = st.top.frame }; frames = st.frames; world = v })
  pub quiet_pay : pays_at (code_for x.program) (record { top = record { function = st.top.function; place = p; frame = st.top.frame }; frames = st.frames; world = v }) ≡ false
  pub terminates : step (code_for x.program) (record { top = record { function = st.top.function; place = p; frame = st.top.frame }; frames = st.frames; world = v }) ≡ terminated v.installed.terminate_handler gs v
  pub unit : lq.unit ≡ q.unit
  pub base : lq.base ≡ q.base
  pub tables : lq.tables ≡ q.tables
  pub hidden : lq.hidden ≡ q.hidden
  pub ending : v.ending ≡ st.world.ending
  pub caught : v.caught ≡ st.world.caught
  pub quiet : v.ending ≡ false
  pub some : v.installed.terminate_handler ≡ Some m
  pub off : w.terminating ≡ st.world.ending
  pub size : frame_of lq.unit lq.hidden st.top.function ≤ 80
  pub page : open_bytes lq (st.top ∷ st.frames) + 0xD00 ≤ 0x100_0000
  pub own : is_terminate_call st.top.function ≡ 0
  pub shows : v.items ≡ st.world.items ++ items
  pub entered : (e : ℕ) → NotEntered items e
  pub more : ℕ → ℕ
  pub more_some : (n : ℕ) → 0 < n → 0 < more n
  pub one_more : (n : ℕ) → more (suc n) ≡ more n + 1
  pub calmly : (n : ℕ) (next : State) → CalmSteps (code_for x.program) n (record { top = record { function = st.top.function; place = p; frame = st.top.frame }; frames = st.frames; world = v }) next → CalmSteps (code_for x.program) (more n) st next
  pub spent : ℕ
  pub few : spent ≤ spends (code_for x.program) 1 st + 64
  pub paid : (n : ℕ) → paying (code_for x.program) (more n) st ≡ paying (code_for x.program) n (record { top = record { function = st.top.function; place = p; frame = st.top.frame }; frames = st.frames; world = v })

module _ (x : Run) (q lq : Plan) (before p : ℕ) (v : World) (items : List Item) (gs : List Activation) (m : ℕ) (st : State) (w : abi.World) (at : StandsAt x q before st w) (l : LastThere x q lq p v items gs m st w) where
  abbrev code : Code
  code = code_for x.program

  abbrev own : Code
  own = code_of q.unit

  abbrev image : Image
  image = (program_of x.image).image

  abbrev here : List Activation
  here = st.top ∷ st.frames

  abbrev last : State
  last = record { top = record { function = st.top.function; place = p; frame = st.top.frame }; frames = st.frames; world = v }

  -- terminate waits for the handler
  abbrev middle : State
  middle = record { top = waiting_terminate m; frames = gs; world = ending_world v }

  one : step code last ≡ goes_to middle
  one = l.terminates ∙ ap (λ h. terminated h gs v) l.some ∙ ap (λ b. if b then finishes (by_program aborted) v else goes_to middle) l.quiet

  lq_unit : lq.unit ≡ unit_for x.program
  lq_unit = l.unit ∙ at.stands.unit

  known_by : m < length (unit_for x.program).functions
  known_by =
      subst (λ u. m < length u.functions) lq_unit (handler_there x.program lq v.installed.terminate_handler m lq_unit l.inv.lives.handlers.terminate l.some)

  frame_is : FrameIs (function lq m)
  frame_is = subst (λ u. FrameIs (code_at u m)) (sym lq_unit) (at.facts.known.frames m (code_at (unit_for x.program) m) (there_is (unit_for x.program).functions m known_by))

  none_open : terminate_calls here ≡ 0
  none_open =
      let top = l.own in
      let others = none_terminate st.frames (by (waits_terminate st.frames) refl) in
      omega (arith, top, others)
    where
      by : (b : Bool) → waits_terminate st.frames ≡ b → waits_terminate st.frames ≡ false
      by true is = let no : false ≡ true = sym l.quiet ∙ l.ending ∙ at.stands.stands.stand.waits is in absurd (cc no)
      by false is = is

  no_call : 0 ≢ v.calls
  no_call zero_is =
      let made = calls_made (extents_of lq) (unit_for x.program) (needs_for x.program) v last.top st.frames at.stands.founded l.reaches.calls in omega (arith, zero_is, made)

  middle_reaches : Reaches (extents_of lq) (unit_for x.program) (needs_for x.program) middle
  middle_reaches =
      let goes : GoesOn (extents_of lq) (extents_of lq) (unit_for x.program) v middle =
      subst (λ u. GoesOn (extents_of lq) (extents_of lq) u v middle) lq_unit (plans_go_on.same lq lq v middle refl l.reaches.objects (omega arith) no_call) in
      steps_reach (extents_of lq) (extents_of lq) (unit_for x.program) (needs_for x.program) last middle at.facts.reach l.reaches (newest_made (unmarked (known_in (regions_for x.program))) code x.carrying l.steps last l.inv) one goes

  module _ (left : OwnLeft last) (begins : HandlerBegins lq m last (barred_state left.barring left.outer v) []) where
    abbrev waiting : State
    waiting = barred_state left.barring left.outer v

    abbrev go : State
    go = in_handler lq m waiting

    same_own : code_of lq.unit ≡ code
    same_own = ap code_of lq_unit

    two : step code middle ≡ goes_to go
    two =
        let rest = rest_of (code_of lq.unit) 1 last middle go begins.0 (ap (λ k. step k last) same_own ∙ one) in
        ap (λ k. step k middle) (sym same_own) ∙ rest.1 ∙ ap goes_to rest.2

    calm_middle : CalmAt code middle
    calm_middle op runs = absurd (none_plain 0 op runs)

    calm : CalmSteps code 2 last go
    calm = (l.calm, middle, one, (calm_middle, go, two, refl))

    all_calm : CalmSteps code (l.more 2) st go
    all_calm = l.calmly 2 go calm

    leads : Leads code (l.more 2) st (goes_to go)
    leads = calm_leads code (l.more 2) st go all_calm

    -- it is called where terminate waits
    abbrev called_there : State
    called_there = record { top = go.top; frames = middle.top ∷ middle.frames; world = new_world (slot_kinds lq m) [] (depth_of (middle.top ∷ middle.frames) + 1) middle.world }

    called_from : go.frames ≡ middle.top ∷ middle.frames
    called_from =
        let there : step (code_of lq.unit) middle ≡ goes_to called_there = refl in
        let both : goes_to go ≡ goes_to called_there = sym (ap (λ c. step c middle) same_own ∙ two) ∙ there in
        let same : go ≡ called_there = cc both in
        ap (λ (s : State). s.frames) same

    -- the last step, in which terminate calls the handler, pays for its beginning
    last_paid : spends code 1 st + 64 ≤ spends code (l.more 2) st
    last_paid =
        let up_to : CalmSteps code (l.more 1) st middle = l.calmly 1 middle (l.calm, middle, one, refl) in
        let paid = last_turn_spends code (l.more 1) st middle go (l.more_some 1 (omega arith)) (calm_leads code (l.more 1) st middle up_to) two (call_turns code middle go m refl called_from) in
        subst (λ n. spends code 1 st + 64 ≤ spends code n st) (sym (l.one_more 1)) paid

    abbrev kept_calls : List Activation
    kept_calls = last.top ∷ left.calls

    abbrev hidden : ℕ
    hidden = open_bytes lq kept_calls

    abbrev r : Plan
    r = plan_in_handler (hiding lq hidden) m waiting

    once : paying code (l.more 2) st ≤ 1
    once = let paid = l.paid 2 in let few = quiet_once code last l.quiet_pay in omega (arith, paid, few)

    go_reaches : Reaches (extents_of r) (unit_for x.program) (needs_for x.program) go
    go_reaches =
        let goes : GoesOn (extents_of lq) (extents_of r) (unit_for x.program) middle.world go =
        subst (λ u. GoesOn (extents_of lq) (extents_of r) u middle.world go) lq_unit
        (plans_go_on.called (hiding lq hidden) m (frame_for (hiding lq hidden) m (waiting_terminate m ∷ waiting.top ∷ left.outer)) middle.world go frame_is middle_reaches.objects refl refl) in
        steps_reach (extents_of lq) (extents_of r) (unit_for x.program) (needs_for x.program) middle go at.facts.reach middle_reaches (newest_made (unmarked (known_in (regions_for x.program))) code x.carrying l.steps last l.inv) two goes

    -- few frames were left
    hidden_few : hidden ≤ 1728 * go.world.deepest + 128
    hidden_few =
        let bytes = own_bytes lq (at.facts.frames lq lq_unit) left.calls left.own in
        let depth = own_depth left.calls (left.barring ∷ left.outer) left.own in
        let whole = ap depth_of left.split in
        let depth_now = at.stands.stands.stand.deep in
        let more = deepest_grows code (l.more 2) st go leads in
        let top = l.size in
        omega (arith, bytes, depth, whole, depth_now, more, top)

    shows_all : go.world.items ≡ st.world.items ++ items
    shows_all = begins.1 ∙ append-nil v.items ∙ l.shows

    goes_on : (turns : ℕ) → turns ≤ l.spent → (u : abi.World) → Turns image turns w u items → Matches r go u → FollowsIn x before st w
    goes_on turns least u turned matches =
        let made = made_by_turns image x.pick turns w u items turned in
        let many = some_ending image x.pick turns w u items made (l.off ∙ sym l.ending ∙ l.quiet) matches.runtime.terminating in
        let handlers = ap open_handlers l.caught in
        let barred : IsBarred x q r turns m (l.more 2) (st.top ∷ left.calls) left.barring left.outer v st w u items = record {
          split = ap (λ fs. st.top ∷ fs) left.split;
          unit = l.unit;
          base = l.base;
          tables = l.tables;
          hidden = hidden_few;
          leads = leads;
          news = λ j s less led. calm_marked (aims x.program q here w) code s (λ z. tt) (calm_before code (l.more 2) st go all_calm j s less led);
          none_open = none_open;
          few = omega (arith, handlers);
          reaches = go_reaches;
          entered = l.entered;
          kept = way_kept w u items (kept_by_turns image turns w u items turned);
          matches = matches;
        } in
        inl (record {
          steps = l.more 2;
          some = l.more_some 2 (omega arith);
          next = go;
          leads = leads;
          stays = once_stays image x.pick code (l.more 2) st w once;
          items = items;
          shows = shows_all;
          turns = turns;
          paid = let few = once in omega (arith, few, many);
          few = (let all = last_paid in let first = l.few in omega (arith, least, first, all));
          soon = omega (arith, least, l.few);
          after = u;
          made = made;
          stands = (r, barred_stands x q r before turns m (l.more 2) (st.top ∷ left.calls) left.barring left.outer v st w u items at.facts at.stands barred);
        })

    runs_over : StacksHoldCalls → (most : ℕ) → most ≤ 64 → 0x100_0000 < open_bytes lq (waiting_terminate m ∷ last.top ∷ st.frames) + (shape lq m).size + 0x1000 → ((j : ℕ) → most ≤ j → RunEnds image x.pick j w items Stack) → FollowsIn x before st w
    runs_over holds most least lacks ran =
        let none = none_open in
        let depth = l.inv.stand.deep in
        let nest : CallsNest (waiting_terminate m ∷ last.top ∷ st.frames) = (refl, l.inv.stand.nest) in
        let some_hidden : lq.hidden ≤ 1728 * v.deepest + 128 = let zero_is = l.hidden ∙ at.stands.hides (sym l.ending ∙ l.quiet) in omega (arith, zero_is) in
        let deep = holds lq (waiting_terminate m ∷ last.top ∷ st.frames) m v.deepest (at.facts.frames lq lq_unit) nest (omega (arith, none)) some_hidden (omega (arith, depth)) lacks in
        let more = deepest_grows code 2 last go (calm_leads code 2 last go calm) in
        inr (inr (inl (record {
          steps = l.more 2;
          next = go;
          leads = leads;
          stays = once_stays image x.pick code (l.more 2) st w once;
          deep = omega (arith, deep, more);
          items = items;
          shows = shows_all;
          ends = record { turns = most; shows = λ j many. (ran j many).0; ends = λ j many. (ran j many).1 };
          few = omega (arith, least);
        })))

  takes : 0 ≡ (function lq m).parameters
  takes = takes_nothing x.program lq v.installed.terminate_handler m lq_unit l.inv.lives.handlers.terminate l.some

  pub own_either : (most : ℕ) → most ≤ 64 → (HandlerFits lq m last → OwnBarred lq x.image m last w l.spent items) →
      (LacksRoom lq m (waiting_terminate m ∷ last.top ∷ st.frames) → (j : ℕ) → most ≤ j → OwnOverflows lq x.image x.pick j m last w items) → StacksHoldCalls → FollowsIn x before st w
  own_either most least fits over holds =
      by (room_or_none (shape lq m).leaf (open_bytes lq (waiting_terminate m ∷ last.top ∷ st.frames)) (shape lq m).size (let page = l.page in let none = l.hidden ∙ at.stands.hides (sym l.ending ∙ l.quiet) in omega (arith, page, none)))
    where
      by : (open_bytes lq (waiting_terminate m ∷ last.top ∷ st.frames) + begin_room (shape lq m).leaf (shape lq m).size ≤ 0x100_0000)
          ⊎ (((shape lq m).leaf ≡ false) × (0x100_0000 < open_bytes lq (waiting_terminate m ∷ last.top ∷ st.frames) + (shape lq m).size + 0x1000)) → FollowsIn x before st w
      by (inl room) = let b = fits (record { taken = takes; room = room }) in goes_on b.left b.begins b.ran.turns b.ran.few b.ran.after b.ran.runs b.ran.holds
      by (inr none) =
          let lacks : LacksRoom lq m (waiting_terminate m ∷ last.top ∷ st.frames) = record { known = subst (λ u. m < length u.functions) (sym lq_unit) known_by; looks = none.0; lacks = none.1 } in
          let first = over lacks most (omega arith) in
          runs_over first.left first.begins holds most least none.1 (λ j many. (over lacks j many).ran)
