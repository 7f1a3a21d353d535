-- What is known where a compiled function is at an operation.
use Rattle.std.proofs.Common.{◌≡◌, ◌∙◌, refl, sym, ap, subst, arith, ℕ, zero, suc, ◌+◌, ◌≤◌, ◌<◌, inl, inr, true, false, List, [], ◌∷◌, length, Some, None}
use Rattle.std.specs.Prelude.{slice_get, unwrap_or}
use Rattle.run_items.specs.declared.item.Item.{Item}
use Rattle.cxa_runtime.specs.World as abi
use Rattle.eh_run.specs.Program.{program_of}
use Rattle.linear_forms.specs.Linear.{LinearOp, FunctionCode, plain}
use Rattle.linear_forms.specs.Stub.{Function, compiled, end_catch, terminating, call_unexpected, linear}
use Rattle.linear_forms.specs.Defined.{RunsAt}
use Rattle.linear_forms.specs.Activation.{State, Code, Next, goes_to, finishes, by_program, not_defined, compiled_op, fetch}
use Rattle.linear_forms.specs.Machine.{step}
use Rattle.linear_forms.specs.Operation.{act}
use Rattle.linear_forms.specs.UnitRun.{code_at, code_of, no_code}
use Rattle.linear_forms.specs.Pace.{Leads}
use Rattle.linear_forms.proofs.Paces
use Rattle.linear_invariant.specs.Handled.{open_handlers}
use Rattle.linear_invariant.proofs.Calls.{all_spared}
use Rattle.source_bounds.specs.Compiled.{unit_for}
use Rattle.machine_forms.specs.LinearCode.{linear_code}
use Rattle.machine_pieces.specs.Turning.{Turns}
use Rattle.machine_simulation.specs.Plan.{Plan, function, shape}
use Rattle.machine_simulation.specs.Matches.{Matches}
use Rattle.machine_simulation.specs.Objects.{Shows}
use Rattle.machine_simulation.specs.Operations.{Matched}
use Rattle.machine_simulation.specs.Steps.{StepAt}
use Rattle.machine_simulation.proofs.Quiet.{step_is}
use Rattle.stack_bounds.specs.Taken.{terminate_calls, is_terminate_call}
use Rattle.address_bounds.specs.Reaches.{LinearReaches}
use Rattle.address_invariant.specs.Extents.{extents_of}
use Rattle.address_invariant.specs.Reaching.{Reaches}
use Rattle.address_invariant.specs.Laws.{GoesOn}
use Rattle.address_invariant.proofs.Newest.{newest_was_made}
use Rattle.address_invariant.proofs.Plans.{plans_go_on}
use Rattle.address_invariant.proofs.Steps.{steps_reach}
use Rattle.operation_premises.specs.Asked.{IsInside}
use Rattle.operation_premises.specs.Static.{LinearStatic}
use Rattle.operation_premises.proofs.Coded.{code_is_static}
use Rattle.cost_turns.specs.Runs.{may_land}
use Rattle.cost_turns.specs.Turns.{turned}
use Rattle.cost_words.specs.Spends.{spends, op_weight}
use Rattle.cost_words.proofs.Counts.{words_weigh}
use Rattle.stub_landings.specs.Landings.{pad_words}
use Rattle.whole_runs.specs.Steps.{GoesOn as RoundGoesOn}
use Rattle.whole_runs.proofs.Landing.{AtPad, pad_weighs}
use Rattle.whole_runs.proofs.Spending.{op_spends, op_turn_spends, op_pad_spends}
use Rattle.whole_runs.proofs.Rounds.{matched_goes_on}
use Rattle.whole_runs.proofs.Single.{breaks_one}
use Rattle.step_law.specs.Facts.{regions_for, needs_for, code_for}
use Rattle.step_law.specs.Standing.{Standing}
use Rattle.step_law.specs.Rows.{Run, IsAt, FollowsIn}
use Rattle.step_law.proofs.Aligned.{CallsAlign, align_same, itself}
use Rattle.step_law.proofs.Keeping.{NotEntered, CalmAt, kept_by_turns, calm_forced, ShownBehind, stands_behind}
use Rattle.step_law.proofs.Settling.{StaysIn, StaysOrStops, StaysCalmly}

-- a function of a unit
pub there_is : (xs : List FunctionCode) (n : ℕ) → n < length xs → slice_get xs n ≡ Some (unwrap_or (slice_get xs n) no_code)
there_is [] n less = absurd (omega (arith, less))
there_is (y ∷ xs) zero less = refl
there_is (y ∷ xs) (suc n) less = there_is xs n (omega (arith, less))

-- at most two words of a pad are done
pub few_pad_words : (f : Function) → pad_words f ≤ 2
few_pad_words (compiled n) = omega arith
few_pad_words end_catch = omega arith
few_pad_words terminating = omega arith
few_pad_words call_unexpected = omega arith

module _ (x : Run) (q : Plan) (before n : ℕ) (o : LinearOp) (st : State) (w : abi.World) (a : IsAt x q before n o st w) where
  abbrev code : Code
  code = code_for x.program

  pub same_code : code_of q.unit ≡ code
  same_code = ap code_of a.stands.unit

  -- the operation in the unit's own code
  pub in_unit : slice_get (code_at (unit_for x.program) n).ops st.top.place ≡ Some o
  in_unit = subst (λ u. slice_get (code_at u n).ops st.top.place ≡ Some o) a.stands.unit a.there

  pub step_at : (next : State) → step code st ≡ goes_to next → StepAt q st next n o
  step_at next e = record { runs = a.runs; there = a.there; step = ap (λ c. step c st) same_code ∙ e }

  pub step_acts : step code st ≡ act code o st.top st.frames st.world
  step_acts = subst (λ c. step c st ≡ act c o st.top st.frames st.world) same_code (step_is q n st o a.runs a.there)

  pub acts_to : (next : State) → StepAt q st next n o → act code o st.top st.frames st.world ≡ goes_to next
  acts_to next at = sym step_acts ∙ ap (λ c. step c st) (sym same_code) ∙ at.step

  pub fetches : RunsAt code st (linear o)
  fetches = ap (λ f. fetch code f st.top.place) a.runs ∙ ap compiled_op in_unit

  pub calm_at : StaysCalmly code st o → CalmAt code st
  calm_at h op runs = let same : Some (linear o) ≡ Some (linear (plain op)) = sym fetches ∙ runs in let one : o ≡ plain op = cc same in h.calm op one

  -- what the first step pays for: what its operation weighs, so its words,
  pub weight_paid : (k : ℕ) → k ≤ op_weight false (linear o) → k ≤ spends code 1 st
  weight_paid k le = op_spends code st n o a.runs fetches k le

  pub words_paid : (k : ℕ) → k ≤ length (linear_code (shape q n) o) → k ≤ spends code 1 st
  words_paid k le = let weigh = words_weigh (shape q n) o in op_spends code st n o a.runs fetches k (omega (arith, le, weigh))

  -- with 64 beside them where it is a turn,
  pub turn_paid : (next : State) (k : ℕ) → step code st ≡ goes_to next → 1 ≤ turned code st next → k ≤ length (linear_code (shape q n) o) + 64 → k ≤ spends code 1 st
  turn_paid next k e turn le = let weigh = words_weigh (shape q n) o in op_turn_spends code st n o a.runs fetches next k e (omega (arith, le, weigh)) turn

  -- with those of the landing pad to which it comes,
  pub pad_paid : (next : State) (k : ℕ) → step code st ≡ goes_to next → may_land (Some (linear o)) ≡ true → AtPad code next → k ≤ length (linear_code (shape q n) o) + pad_words next.top.function → k ≤ spends code 1 st
  pad_paid next k e may pad le =
      let weigh = words_weigh (shape q n) o in
      let two = pad_weighs code st next (ap may_land fetches ∙ may) pad in
      let most = few_pad_words next.top.function in
      op_pad_spends code st n o a.runs fetches next k e (omega (arith, le, weigh, two, most))

  -- and where the run ends a few more
  pub end_paid : (k : ℕ) → k ≤ length (linear_code (shape q n) o) + 64 → k ≤ spends code 1 st + 64
  end_paid k le = let words = words_paid (length (linear_code (shape q n) o)) (omega arith) in omega (arith, le, words)

  -- so it is in the plan's unit
  pub own_paid : (k : ℕ) → k ≤ spends code 1 st → k ≤ spends (code_of q.unit) 1 st
  own_paid k le = subst (λ c. k ≤ spends c 1 st) (sym same_code) le

  pub own_end_paid : (k : ℕ) → k ≤ length (linear_code (shape q n) o) + 64 → k ≤ spends (code_of q.unit) 1 st + 64
  own_end_paid k le = subst (λ c. k ≤ spends c 1 st + 64) (sym same_code) (end_paid k le)

  -- the function is there
  pub less : n < length (unit_for x.program).functions
  less =
      let same : compiled a.matches.number ≡ compiled n = sym a.matches.runs ∙ a.runs in
      let one : a.matches.number ≡ n = cc same in
      subst (λ u. n < length u.functions) a.stands.unit (subst (λ m. m < length q.unit.functions) one a.matches.memory.top.known)

  pub function_there : slice_get (unit_for x.program).functions n ≡ Some (code_at (unit_for x.program) n)
  function_there = there_is (unit_for x.program).functions n less

  pub static_there : LinearStatic (unit_for x.program) (code_at (unit_for x.program) n) o
  static_there = code_is_static (regions_for x.program) (needs_for x.program) a.facts.known n st.top.place (code_at (unit_for x.program) n) o function_there in_unit

  pub is_static : LinearStatic q.unit (function q n) o
  is_static = subst (λ u. LinearStatic u (code_at u n) o) (sym a.stands.unit) static_there

  pub reaches_there : LinearReaches (needs_for x.program) ((needs_for x.program) n) (function q n).slots o
  reaches_there = subst (λ u. LinearReaches (needs_for x.program) ((needs_for x.program) n) (code_at u n).slots o) (sym a.stands.unit)
      (a.facts.reach.code n (code_at (unit_for x.program) n) st.top.place o function_there in_unit)

  pub is_inside : IsInside q (needs_for x.program) n st
  is_inside = record { runs = a.runs; reaches = subst (λ u. Reaches (extents_of q) u (needs_for x.program) st) (sym a.stands.unit) a.stands.reaches }

  -- an operation that stays in its call
  module _ (stays : StaysCalmly code st o) where
    abbrev items_not_entered : List Item → Type 0
    items_not_entered items = (e : ℕ) → NotEntered items e

    stays_reach : (next : State) → step code st ≡ goes_to next → StaysIn st next → Reaches (extents_of q) (unit_for x.program) (needs_for x.program) next
    stays_reach next e s =
        let older = a.matches.memory.newest in
        let goes : GoesOn (extents_of q) (extents_of q) (unit_for x.program) st.world next =
        subst (λ u. GoesOn (extents_of q) (extents_of q) u st.world next) a.stands.unit
        (plans_go_on.same q q st.world next refl a.stands.reaches.objects (omega (arith, s.world.last)) (λ is. omega (arith, is, s.call, older))) in
        steps_reach (extents_of q) (extents_of q) (unit_for x.program) (needs_for x.program) st next a.facts.reach a.stands.reaches (newest_was_made q st w a.matches) e goes

    stays_shown : (next : State) (turns : ℕ) (u : abi.World) (items : List Item) → step code st ≡ goes_to next → StaysIn st next → items_not_entered items → Turns (program_of x.image).image turns w u items → Matches q next u →
        ShownBehind x.program x.carrying q q turns st next w u items
    stays_shown next turns u items e s none made matches = record {
      plan = record { frames = itself q; base = refl; tables = refl };
      aligned = subst (λ fs. CallsAlign q q (st.top ∷ st.frames) (next.top ∷ fs)) (sym s.frames) (align_same q q (itself q) st.top next.top st.frames s.function);
      spared = all_spared x.carrying (NotEntered items) none None (next.top ∷ next.frames);
      rests = inl matches;
      few = let same = ap open_handlers s.world.caught in omega (arith, same);
      reaches = stays_reach next e s;
      ending = λ not. sym s.world.ending ∙ not;
      once = let tops = ap is_terminate_call s.function in let others = ap terminate_calls s.frames in let few = a.stands.once in omega (arith, tops, others, few);
      forced = calm_forced x.program x.image x.carrying x.tables q before st next w u a.facts a.stands e (calm_at stays) made.unwinding;
    }

    stays_on : (next : State) (turns : ℕ) (u : abi.World) (items : List Item) → step code st ≡ goes_to next → StaysIn st next → items_not_entered items → Turns (program_of x.image).image turns w u items → Matches q next u →
        Standing x.program x.image x.carrying x.tables (before + turns) next u
    stays_on next turns u items e s none made matches = (
      q,
      stands_behind x.program x.image x.carrying x.tables a.facts q q before turns 1 st next w u items a.stands (Paces.one_step code st (goes_to next) e)
          (λ j middle few leads. first_calm j middle few leads) (kept_by_turns (program_of x.image).image turns w u items made) (stays_shown next turns u items e s none made matches),
    )
      where
        first_calm : (j : ℕ) (middle : State) → j < 1 → Leads code j st (goes_to middle) → CalmAt code middle
        first_calm zero middle few leads = let same : st ≡ middle = cc leads in subst (λ m. CalmAt code m) same (calm_at stays)
        first_calm (suc j) middle few leads = absurd (omega (arith, few))

    -- what a law of such an operation concludes
    abbrev pub IsMatched : State → Type 0
    IsMatched next = (items : List Item) × items_not_entered items × Shows st next items × Matched (program_of x.image).image (length (linear_code (shape q n) o)) w items (λ u. Matches q next u)

    pub stays_follow : ((next : State) → StepAt q st next n o → StaysIn st next → IsMatched next) → FollowsIn x before st w
    stays_follow law = by (step code st) refl (subst (StaysOrStops st) (sym step_acts) stays.stays)
      where
        by : (y : Next) → step code st ≡ y → StaysOrStops st y → FollowsIn x before st w
        by (goes_to next) e s =
            let at = step_at next e in
            let m = law next at s in
            inl (subst (λ c. RoundGoesOn (program_of x.image).image x.pick c (Standing x.program x.image x.carrying x.tables) before st w) same_code
            (matched_goes_on (program_of x.image).image x.pick q st w (Standing x.program x.image x.carrying x.tables) before next n o (length (linear_code (shape q n) o)) m.0 (λ u. Matches q next u) at (omega arith)
            (own_paid (length (linear_code (shape q n) o)) (words_paid (length (linear_code (shape q n) o)) (omega arith))) m.2 m.3
            (λ turns u made matches. stays_on next turns u m.0 e s m.1 made matches)))
        by (finishes f v) e s =
            inr (inr (inr (breaks_one (program_of x.image).image x.pick code st w f v e (λ why is. let no : not_defined ≡ by_program why = sym s ∙ is in absurd (cc no)))))
