-- Calls of compiled functions, in a whole run: where the stack has room they begin, else the run is over with 4,096 calls open.
use Rattle.std.proofs.Common.{◌≡◌, ◌∙◌, refl, sym, ap, subst, arith, ℕ, zero, suc, ◌+◌, ◌≤◌, ◌<◌, ◌⊎◌, inl, inr, false, List, [], ◌∷◌, length, append-nil, Option, Some, None}
use Rattle.cxa_runtime.specs.World as abi
use Rattle.eh_run.specs.Program.{program_of}
use Rattle.region_forms.specs.Form.{Place}
use Rattle.region_forms.specs.World.{Word, World}
use Rattle.region_forms.specs.Effect.{effect}
use Rattle.linear_forms.specs.Linear.{LinearOp, plain}
use Rattle.linear_forms.specs.Stub.{compiled, linear}
use Rattle.linear_forms.specs.Activation.{State, Code, goes_to, finishes, Final, by_program, not_defined, kinds}
use Rattle.linear_forms.specs.Machine.{step}
use Rattle.linear_forms.specs.Operation.{act, performed}
use Rattle.linear_forms.specs.Pace.{Leads}
use Rattle.linear_forms.proofs.Paces
use Rattle.linear_invariant.specs.Handled.{open_handlers}
use Rattle.linear_invariant.proofs.Calls.{all_spared}
use Rattle.source_bounds.specs.Compiled.{unit_for}
use Rattle.machine_forms.specs.LinearCode.{linear_code}
use Rattle.machine_pieces.specs.Turning.{Turns}
use Rattle.machine_simulation.specs.Plan.{Plan, function, shape, slot_kinds}
use Rattle.machine_simulation.specs.Asked.{ObjectAsked, ArgumentsAsked}
use Rattle.machine_simulation.specs.Calls.{CallOf, call_of, open_bytes}
use Rattle.machine_simulation.specs.Entering.{opened, given_to, CallFits, frame_for, CallsRun, begin_room, entry_turns}
use Rattle.machine_simulation.specs.Matches.{Matches}
use Rattle.machine_simulation.specs.Steps.{StepAt, StepMade}
use Rattle.machine_simulation.proofs.Calling.{same_next, enters_to}
use Rattle.machine_simulation.proofs.Entering.{call_step}
use Rattle.machine_simulation.proofs.Given.{same_beside}
use Rattle.stack_bounds.specs.Overflow.{CallLacksRoom, CallsOverflow}
use Rattle.stack_bounds.specs.Taken.{terminate_calls, is_terminate_call, StacksHoldCalls}
use Rattle.address_invariant.specs.Extents.{extents_of}
use Rattle.address_invariant.specs.Laws.{GoesOn}
use Rattle.address_invariant.proofs.Newest.{newest_was_made}
use Rattle.address_invariant.proofs.Plans.{plans_go_on}
use Rattle.address_invariant.proofs.Steps.{steps_reach}
use Rattle.operation_premises.proofs.Asked.{all_is_asked}
use Rattle.whole_runs.specs.Steps.{GoesOn as RoundGoesOn, Overflows}
use Rattle.whole_runs.proofs.Rounds.{matched_goes_on, step_overflows}
use Rattle.whole_runs.proofs.Single.{breaks_one}
use Rattle.whole_runs.proofs.Staying.{deepest_grows}
use Rattle.cost_words.specs.Spends.{spends}
use Rattle.whole_runs.proofs.Spending.{call_turns}
use Rattle.step_law.specs.Facts.{needs_for, code_for}
use Rattle.step_law.specs.Standing.{Standing}
use Rattle.step_law.specs.Rows.{Run, IsAt, FollowsIn, CallsFollow}
use Rattle.step_law.proofs.Aligned.{SameFrames, CallsAlign, align_push}
use Rattle.step_law.proofs.At.{is_inside, is_static, reaches_there, fetches, same_code, step_acts, step_at, turn_paid, own_paid, own_end_paid}
use Rattle.step_law.proofs.Builtins.{kinds_same}
use Rattle.step_law.proofs.CallForms.{IsCallOp, call_is, call_leaves, calls_or, CallKnown, call_known, ObjectKnown, filled, GivenFits, given_fits}
use Rattle.step_law.proofs.Keeping.{NotEntered, CalmAt, IsCalm, kept_by_turns, calm_forced, stands_behind}
use Rattle.step_law.proofs.Rooms.{room_or_none, page_here, few_to_enter}
use Rattle.machine_simulation.proofs.Items.{step_items}

calls_calmly : (wants : Option Place) (n : ℕ) (o : Option (List Word)) → IsCalm (calls_or wants n o)
calls_calmly wants n None = tt
calls_calmly wants n (Some given) = tt

module _ (x : Run) (q : Plan) (before n : ℕ) (o : LinearOp) (st : State) (w : abi.World) (a : IsAt x q before n o st w) (c : CallOf) (calling : call_of o ≡ Some c) where
  abbrev code : Code
  code = code_for x.program

  known : CallKnown q.unit (function q n) (needs_for x.program) ((needs_for x.program) n) c
  known = call_known q.unit (function q n) (needs_for x.program) ((needs_for x.program) n) o c calling (is_static x q before n o st w a) (reaches_there x q before n o st w a)

  form : IsCallOp o c
  form = call_is o c calling

  call_calm : CalmAt code st
  call_calm op runs =
      let same : Some (linear o) ≡ Some (linear (plain op)) = sym (fetches x q before n o st w a) ∙ runs in
      let one : plain form.op ≡ plain op = let both : o ≡ plain op = cc same in sym form.is ∙ both in
      let it : form.op ≡ op = cc one in
      subst (λ y. IsCalm (effect (kinds code st.top.function) y st.top.frame st.world)) it
      (subst IsCalm (sym (form.does (kinds code st.top.function) st.top.frame st.world)) (calls_calmly form.wants c.number (given_to (kinds code st.top.function) st.top.frame st.world c)))

  module _ (given : List Word) (passed : given_to (slot_kinds q n) st.top.frame st.world c ≡ Some given) where
    fit : GivenFits q n q.unit (function q n) st.top.frame st.world a.matches.runtime.plan (slot_kinds q c.number) c.object c.arguments given
    fit = given_fits q n q.unit (function q n) st.top.frame st.world a.matches.runtime.plan (slot_kinds q c.number) ((needs_for x.program) c.number) ((needs_for x.program) n) c.object c.arguments given known.object known.static passed

    object_asked : (object : Option Place) → ObjectKnown q.unit (function q n) ((needs_for x.program) n) ((needs_for x.program) c.number) (slot_kinds q c.number) object → ObjectAsked q n st.top.frame object
    object_asked None k = tt
    object_asked (Some d) k = all_is_asked.addresses q (needs_for x.program) n ((needs_for x.program) c.number 0) st d (is_inside x q before n o st w a) k.0 k.1

    arguments_asked : ArgumentsAsked q n st.top.frame st.world c.arguments
    arguments_asked = all_is_asked.arguments q (needs_for x.program) ((needs_for x.program) c.number) n (filled c.object) st (slot_kinds q c.number) c.arguments (is_inside x q before n o st w a) known.static known.room fit.live

    few_passed : length given ≤ length (shape q c.number).slots
    few_passed = let count = fit.count in let few = known.few in omega (arith, count, few)

    all_taken : length given ≡ (function q c.number).parameters
    all_taken = fit.count ∙ known.taken

    module _ (next : State) (e : step code st ≡ goes_to next) where
      at : StepAt q st next n o
      at = step_at x q before n o st w a next e

      next_is : enters_to q c.number given st ≡ next
      next_is = same_next (enters_to q c.number given st) next (call_step q n st next o c given a.runs a.there calling passed at.step)

      -- the call is a turn
      call_paid : length (linear_code (shape q n) o) + entry_turns q c.number ≤ spends code 1 st
      call_paid =
          turn_paid x q before n o st w a next (length (linear_code (shape q n) o) + entry_turns q c.number) e
          (call_turns code st next c.number (ap (λ (m : State). m.top.function) (sym next_is)) (ap (λ (m : State). m.frames) (sym next_is))) (let few = few_to_enter q c.number in omega (arith, few))

      begins : (room : open_bytes q (st.top ∷ st.frames) + begin_room (shape q c.number).leaf (shape q c.number).size ≤ 0x100_0000) → CallsRun → FollowsIn x before st w
      begins room run =
          let fits : CallFits q n st.top.frame st.world (st.top ∷ st.frames) c given =
          record { object = object_asked c.object known.object; arguments = arguments_asked; known = known.known; passed = few_passed; taken = all_taken; words = fit.fit; room = room } in
          let stack : ℕ = frame_for q c.number (st.top ∷ st.frames) in
          let r : Plan = opened q c.number st.world.calls stack in
          let made : StepMade q st next r (length (linear_code (shape q n) o) + entry_turns q c.number) [] =
          inr (inr (inr (inl (record { number = n; operation = o; at = at; call = c; given = given; is = calling; passed = passed; fits = fits; plan = refl; turns = refl; nothing_shown = refl })))) in
          inl (subst (λ y. RoundGoesOn (program_of x.image).image x.pick y (Standing x.program x.image x.carrying x.tables) before st w) (same_code x q before n o st w a)
          (matched_goes_on (program_of x.image).image x.pick q st w (Standing x.program x.image x.carrying x.tables) before next n o (length (linear_code (shape q n) o) + entry_turns q c.number) [] (λ u. Matches r next u) at (omega arith)
          (own_paid x q before n o st w a (length (linear_code (shape q n) o) + entry_turns q c.number) call_paid)
          (step_items q r st next (length (linear_code (shape q n) o) + entry_turns q c.number) [] made)
          (run (program_of x.image).image q n st next w o c given a.matches a.runs a.there calling passed fits at.step) (λ turns u turned matches. stands r stack refl turns u turned matches)))
        where
          stands : (r : Plan) (stack : ℕ) → r ≡ opened q c.number st.world.calls stack → (turns : ℕ) (u : abi.World) → Turns (program_of x.image).image turns w u [] → Matches r next u → Standing x.program x.image x.carrying x.tables (before + turns) next u
          stands r stack is turns u turned matches =
              let same = same_beside (slot_kinds q c.number) st.world.calls 0 given st.world in
              let beside = subst (λ (m : State). (m.top.function ≡ compiled c.number) × (m.frames ≡ st.top ∷ st.frames) × (m.world.last_number ≡ st.world.last_number) × (m.world.ending ≡ st.world.ending) × (m.world.caught ≡ st.world.caught)) next_is
              (refl, refl, ap (λ k. k.last_number) same.kept, same.ending, ap (λ k. k.caught) same.kept) in
              let goes : GoesOn (extents_of q) (extents_of r) (unit_for x.program) st.world next =
              subst (λ y. GoesOn (extents_of q) (extents_of y) (unit_for x.program) st.world next) (sym is) (subst (λ v. GoesOn (extents_of q) (extents_of (opened q c.number st.world.calls stack)) v st.world next) a.stands.unit
              (plans_go_on.called q c.number stack st.world next (a.matches.memory.unit.frames c.number known.known) a.stands.reaches.objects beside.2 beside.0)) in (
                r,
                stands_behind x.program x.image x.carrying x.tables a.facts q r before turns 1 st next w u [] a.stands (Paces.one_step code st (goes_to next) e) first_calm
                    (kept_by_turns (program_of x.image).image turns w u [] turned) (record {
                      plan = record { frames = same_frames; base = ap (λ y. y.base) is; tables = ap (λ y. y.tables) is };
                      aligned = subst (λ fs. CallsAlign q r (st.top ∷ st.frames) (next.top ∷ fs)) (sym beside.1) (align_push q r same_frames next.top (st.top ∷ st.frames));
                      spared = all_spared x.carrying (NotEntered []) (λ d. refl) None (next.top ∷ next.frames);
                      rests = inl matches;
                      few = let handlers = ap open_handlers beside.4 in omega (arith, handlers);
                      reaches = steps_reach (extents_of q) (extents_of r) (unit_for x.program) (needs_for x.program) st next a.facts.reach a.stands.reaches (newest_was_made q st w a.matches) e goes;
                      ending = λ not. sym beside.3 ∙ not;
                      once =
                          let tops = ap is_terminate_call beside.0 in let others = ap terminate_calls beside.1 in let few = a.stands.once in omega (arith, tops, others, few);
                      forced = calm_forced x.program x.image x.carrying x.tables q before st next w u a.facts a.stands e call_calm turned.unwinding;
                    }),
              )
            where
              same_frames : SameFrames q r
              same_frames = record { unit = ap (λ y. y.unit) is; hidden = ap (λ y. y.hidden) is }

              first_calm : (j : ℕ) (middle : State) → j < 1 → Leads code j st (goes_to middle) → CalmAt code middle
              first_calm zero middle few leads = let one : st ≡ middle = cc leads in subst (λ m. CalmAt code m) one call_calm
              first_calm (suc j) middle few leads = absurd (omega (arith, few))

      -- there is no room
      runs_over : (looks : (shape q c.number).leaf ≡ false) → (lacks : 0x100_0000 < open_bytes q (st.top ∷ st.frames) + (shape q c.number).size + 0x1000) → CallsOverflow → StacksHoldCalls → FollowsIn x before st w
      runs_over looks lacks over holds =
          let lack : CallLacksRoom q n st.top.frame st.world (st.top ∷ st.frames) c given =
          record { object = object_asked c.object known.object; arguments = arguments_asked; known = known.known; passed = few_passed; words = fit.fit; looks = looks; lacks = lacks } in
          let deep = holds q (st.top ∷ st.frames) c.number st.world.deepest (a.facts.frames q a.stands.unit) a.stands.stands.stand.nest a.stands.once a.stands.hidden a.stands.stands.stand.deep lacks in
          let more = deepest_grows code 1 st next (Paces.one_step code st (goes_to next) e) in
          let items = ap (λ (m : State). m.world.items) (sym next_is) ∙ (same_beside (slot_kinds q c.number) st.world.calls 0 given st.world).items in
          inr (inr (inl (subst (λ y. Overflows (program_of x.image).image x.pick y st w) (same_code x q before n o st w a)
          (step_overflows (program_of x.image).image x.pick q st w next n o (length (linear_code (shape q n) o) + 6) [] at
          (own_end_paid x q before n o st w a (length (linear_code (shape q n) o) + 6) (omega arith)) (omega (arith, deep, more)) (items ∙ sym (append-nil st.world.items))
          (λ k many. let ran = over (program_of x.image).image x.pick k q n st w o c given a.matches a.runs a.there calling passed lack many in (ran.items, ran.end))))))

      either : CallsRun → CallsOverflow → StacksHoldCalls → FollowsIn x before st w
      either run over holds = by (room_or_none (shape q c.number).leaf (open_bytes q (st.top ∷ st.frames)) (shape q c.number).size (let page = page_here x q before n o st w a (call_leaves o c calling) in omega (arith, page)))
        where
          by : (open_bytes q (st.top ∷ st.frames) + begin_room (shape q c.number).leaf (shape q c.number).size ≤ 0x100_0000)
              ⊎ (((shape q c.number).leaf ≡ false) × (0x100_0000 < open_bytes q (st.top ∷ st.frames) + (shape q c.number).size + 0x1000)) → FollowsIn x before st w
          by (inl room) = begins room run
          by (inr lacks) = runs_over lacks.0 lacks.1 over holds

  stopped : (v : World) (f : Final) → step code st ≡ finishes f v → f ≡ not_defined → FollowsIn x before st w
  stopped v f e is = inr (inr (inr (breaks_one (program_of x.image).image x.pick code st w f v e (λ why by. let no : not_defined ≡ by_program why = sym is ∙ by in absurd (cc no)))))

  performs : step code st ≡ performed code (calls_or form.wants c.number (given_to (slot_kinds q n) st.top.frame st.world c)) st.top st.frames st.world
  performs =
      step_acts x q before n o st w a ∙ ap (λ y. act code y st.top st.frames st.world) form.is
      ∙ ap (λ y. performed code y st.top st.frames st.world) (form.does (kinds code st.top.function) st.top.frame st.world)
      ∙ ap (λ ks. performed code (calls_or form.wants c.number (given_to ks st.top.frame st.world c)) st.top st.frames st.world) (kinds_same x q before n o st w a)

  pub called : CallsRun → CallsOverflow → StacksHoldCalls → FollowsIn x before st w
  called run over holds = by (given_to (slot_kinds q n) st.top.frame st.world c) refl performs
    where
      by : (g : Option (List Word)) → given_to (slot_kinds q n) st.top.frame st.world c ≡ g → step code st ≡ performed code (calls_or form.wants c.number g) st.top st.frames st.world → FollowsIn x before st w
      by None is e = stopped st.world not_defined e refl
      by (Some given) is e = either given is _ e run over holds

pub calls_follow : CallsRun → CallsOverflow → StacksHoldCalls → CallsFollow
calls_follow run over holds x q before n o c st w a calling = called x q before n o st w a c calling run over holds
