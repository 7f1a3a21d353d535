-- Returns to calls of compiled functions, and the ends of a run by main and by exit.
use Rattle.std.proofs.Common.{◌≡◌, ◌∙◌, refl, sym, ap, subst, arith, ℕ, zero, suc, ◌+◌, ◌≤◌, ◌<◌, inl, inr, ℤ, List, [], ◌∷◌, length, append-nil, Option, Some, None, false}
use Rattle.std.specs.Prelude.{slice_get}
use Rattle.cxx_ast.specs.declared.name.Builtin.TheVariants.{Exit}
use Rattle.rv64_isa.specs.Step as isa
use Rattle.cxa_runtime.specs.World as abi
use Rattle.eh_run.specs.Program.{program_of}
use Rattle.meaning_forms.specs.Outcome.{exit}
use Rattle.region_forms.specs.Form.{SlotKind, int_slot, address_slot, object_slot, help_slot, Place, Value, Arguments, store, int_argument, no_arguments, argument_then, Root, in_slot, through, in_global}
use Rattle.region_forms.specs.World.{Word, Frame, World}
use Rattle.region_forms.specs.Evaluation.{Location, locate, words_in}
use Rattle.region_forms.specs.Effect.{Effect, goes, calls, raises, terminates, ends, cancels, leaves_newest, meaningless, stored_at, finished, if_some, number_at, result_in}
use Rattle.linear_forms.specs.Linear.{FunctionCode, UnitCode, LinearOp, plain, return}
use Rattle.linear_forms.specs.Stub.{compiled, linear}
use Rattle.linear_forms.specs.Activation.{Activation, State, Code, Next, goes_to, finishes, Final, by_program, not_defined, kinds}
use Rattle.linear_forms.specs.Machine.{step}
use Rattle.linear_forms.specs.Operation.{act, performed, settled, returned_with}
use Rattle.linear_forms.specs.UnitRun.{code_at}
use Rattle.linear_forms.specs.Pace.{Leads}
use Rattle.linear_forms.proofs.Paces
use Rattle.linear_invariant.specs.Handled.{open_handlers}
use Rattle.linear_invariant.proofs.Calls.{all_spared}
use Rattle.source_bounds.specs.Compiled.{unit_for}
use Rattle.machine_forms.specs.Registers.{sp}
use Rattle.machine_forms.specs.LinearCode.{linear_code}
use Rattle.machine_pieces.specs.Frames.{SlotFits}
use Rattle.machine_pieces.specs.Turning.{Turns}
use Rattle.machine_simulation.specs.Plan.{Plan, function, shape, slot_kinds}
use Rattle.machine_simulation.specs.Asked.{WantedAsked}
use Rattle.machine_simulation.specs.Calls.{CallsWait, wanted, stored_behind, stored_in, given_in}
use Rattle.machine_simulation.specs.Ending.{MainsEnd}
use Rattle.machine_simulation.specs.Exits.{CallsExit, ExitsEnd}
use Rattle.machine_simulation.specs.Matches.{Matches}
use Rattle.machine_simulation.specs.Returns.{closed, ResultStands, ReturnsRun}
use Rattle.machine_simulation.specs.Steps.{StepAt, StepMade}
use Rattle.machine_simulation.proofs.Closing.{plan_popped}
use Rattle.machine_simulation.proofs.Returning.{ReturnStep, return_step, CallWaits, call_waits}
use Rattle.machine_exceptions.specs.Answers.{CallsBuiltin}
use Rattle.stack_bounds.specs.Taken.{terminate_calls, is_terminate_call}
use Rattle.address_bounds.specs.Rooms.{Reach}
use Rattle.address_bounds.specs.Reaches.{Needs, LinearReaches}
use Rattle.address_invariant.specs.Extents.{extents_of}
use Rattle.address_invariant.specs.Reaching.{CallsReach, Reaches}
use Rattle.address_invariant.specs.Laws.{GoesOn}
use Rattle.address_invariant.proofs.Newest.{newest_was_made}
use Rattle.address_invariant.proofs.Plans.{plans_go_on}
use Rattle.address_invariant.proofs.Steps.{steps_reach}
use Rattle.operation_premises.specs.Asked.{IsInside}
use Rattle.operation_premises.specs.Static.{LinearStatic}
use Rattle.operation_premises.proofs.Asked.{all_is_asked}
use Rattle.operation_premises.proofs.Coded.{code_is_static}
use Rattle.whole_runs.specs.Steps.{GoesOn as RoundGoesOn}
use Rattle.whole_runs.proofs.Rounds.{matched_goes_on}
use Rattle.whole_runs.proofs.Single.{breaks_one, ends_one}
use Rattle.cost_words.specs.Spends.{op_weight}
use Rattle.cost_words.proofs.Counts.{return_words}
use Rattle.machine_forms.specs.PlaceCode.{root_stored}
use Rattle.machine_forms.specs.Shape.{Shape}
use Rattle.machine_forms.specs.Registers.{register}
use Rattle.machine_forms.specs.KeptCode.{root_register}
use Rattle.step_law.specs.Facts.{regions_for, needs_for, code_for}
use Rattle.step_law.specs.Standing.{Standing}
use Rattle.step_law.specs.Rows.{Run, IsAt, FollowsIn, ReturnsFollow, MainsFollow, ExitsFollow}
use Rattle.step_law.proofs.Aligned.{CallsAlign, align_return}
use Rattle.step_law.proofs.At.{there_is, is_static, fetches, same_code, step_acts, step_at, own_paid, weight_paid, end_paid}
use Rattle.step_law.proofs.Builtins.{WantedStatic, WantedRoom, given_effect, builtin_is, one_value, one_asked, kinds_same}
use Rattle.step_law.proofs.Keeping.{NotEntered, CalmAt, kept_by_turns, calm_forced, stands_behind}
use Rattle.machine_simulation.proofs.Items.{step_items}
use Rattle.step_law.proofs.Quiet.{stored_live}
use Rattle.step_law.proofs.Settling.{Settles, SameBeside, unchanged, finished_settles}

-- where the value of a call goes
wanted_static : (u : UnitCode) (g : FunctionCode) (o : LinearOp) → LinearStatic u g o → WantedStatic u g (wanted o)
wanted_static u g (plain (store q v)) s = s.0
wanted_static u g o s = tt

wanted_room : (needs : Needs) (reach : Reach) (g : FunctionCode) (o : LinearOp) → LinearReaches needs reach g.slots o → WantedRoom reach g (wanted o)
wanted_room needs reach g (plain (store q v)) s = s.0
wanted_room needs reach g o s = tt

-- a step that ends is one that is not defined
abbrev pub OnlyUndefined : Next → Type 0
OnlyUndefined (goes_to m) = Unit {0}
OnlyUndefined (finishes f v) = f ≡ not_defined

settled_only : (e : Effect) (a : Activation) (fs : List Activation) (w : World) → OnlyUndefined (settled e a fs w)
settled_only (goes y v) a fs w = tt
settled_only meaningless a fs w = refl
settled_only (calls o n given) a fs w = refl
settled_only (raises n v) a fs w = refl
settled_only (terminates m v) a fs w = refl
settled_only (ends n v) a fs w = refl
settled_only (cancels z v) a fs w = refl
settled_only leaves_newest a fs w = refl

pub returned_only : (code : Code) (o : Option ℤ) (a : Activation) (fs : List Activation) (w : World) → OnlyUndefined (returned_with code o (a ∷ fs) w)
returned_only code None a fs w = refl
returned_only code (Some z) a fs w = settled_only _ a fs w

-- a store has few words
root_words : (f : Shape) (r : Root) (n : ℕ) → length (root_stored f (register 0) (register 1) r n) ≤ 2
root_words f (in_slot s) n = omega arith
root_words f (through s) n = omega arith
root_words f (in_global g) n = omega arith

stored_words : (f : Shape) (q : Option Place) → length (stored_in f q) ≤ 2
stored_words f None = omega arith
stored_words f (Some p) = by (root_register f p.root)
  where
    by : (k : Option ℕ) → length (given_in f k p) ≤ 2
    by (Some rd) = omega arith
    by None = root_words f p.root p.offset

module _ (x : Run) (q : Plan) (before n : ℕ) (o : LinearOp) (st : State) (w : abi.World) (at : IsAt x q before n o st w) where
  pub undefined_breaks : (f : Final) (v : World) → step (code_for x.program) st ≡ finishes f v → f ≡ not_defined → FollowsIn x before st w
  undefined_breaks f v e is = inr (inr (inr (breaks_one (program_of x.image).image x.pick (code_for x.program) st w f v e (λ why by. let no : not_defined ≡ by_program why = sym is ∙ by in absurd (cc no)))))

  -- the slot of a result
  pub result_stands : (r : Option ℕ) → o ≡ return r → ResultStands q n st.top.frame r
  result_stands r is = by r (subst (λ y. LinearStatic q.unit (function q n) y) is (is_static x q before n o st w at))
    where
      by : (s : Option ℕ) → LinearStatic q.unit (function q n) (return s) → ResultStands q n st.top.frame s
      by None h = tt
      by (Some s) h = let near = h.near in (h.inside, omega (arith, near), plain_fits (slot_kinds q n s), λ k e. refl)
        where
          plain_fits : (k : SlotKind) → SlotFits k 0
          plain_fits int_slot = tt
          plain_fits address_slot = refl
          plain_fits object_slot = tt
          plain_fits help_slot = refl

module _ (x : Run) (q : Plan) (before n : ℕ) (r : Option ℕ) (st : State) (w : abi.World) (at : IsAt x q before n (return r) st w) where
  abbrev code : Code
  code = code_for x.program

  pub return_calm : CalmAt code st
  return_calm op runs = let same : Some (linear (return r)) ≡ Some (linear (plain op)) = sym (fetches x q before n (return r) st w at) ∙ runs in absurd (cc same)

  module _ (a : Activation) (fs : List Activation) (m : ℕ) (frames : st.frames ≡ a ∷ fs) (callee : a.function ≡ compiled m) where
    abbrev stack : ℕ
    stack = isa.x w.hart sp

    waits : CallWaits q m a fs st.world w.hart.memory (stack + (shape q at.matches.number).size) at.matches.back st.top.frame.call
    waits = call_waits q m a fs st.world w.hart.memory (stack + (shape q at.matches.number).size) at.matches.back st.top.frame.call callee
        (subst (λ gs. CallsWait q gs st.world w.hart.memory (stack + (shape q at.matches.number).size) at.matches.back st.top.frame.call) frames at.matches.memory.waiting)

    abbrev p : Plan
    p = closed q a.frame.call

    -- the caller's function
    less : m < length (unit_for x.program).functions
    less = subst (λ u. m < length u.functions) at.stands.unit waits.waits.stands.known

    in_unit : slice_get (code_at (unit_for x.program) m).ops a.place ≡ Some waits.waits.op
    in_unit = subst (λ u. slice_get (code_at u m).ops a.place ≡ Some waits.waits.op) at.stands.unit waits.waits.there

    function_there : slice_get (unit_for x.program).functions m ≡ Some (code_at (unit_for x.program) m)
    function_there = there_is (unit_for x.program).functions m less

    caller_static : LinearStatic q.unit (function q m) waits.waits.op
    caller_static = subst (λ u. LinearStatic u (code_at u m) waits.waits.op) (sym at.stands.unit)
        (code_is_static (regions_for x.program) (needs_for x.program) at.facts.known m a.place (code_at (unit_for x.program) m) waits.waits.op function_there in_unit)

    caller_room : LinearReaches (needs_for x.program) ((needs_for x.program) m) (function q m).slots waits.waits.op
    caller_room = subst (λ u. LinearReaches (needs_for x.program) ((needs_for x.program) m) (code_at u m).slots waits.waits.op) (sym at.stands.unit)
        (at.facts.reach.code m (code_at (unit_for x.program) m) a.place waits.waits.op function_there in_unit)

    -- the state of the caller, as if it were the newest call
    abbrev caller_state : State
    caller_state = record { top = a; frames = fs; world = st.world }

    caller_inside : IsInside p (needs_for x.program) m caller_state
    caller_inside = record {
      runs = callee;
      reaches = subst (λ u. Reaches (extents_of q) u (needs_for x.program) caller_state) (sym at.stands.unit) (record {
        objects = at.stands.reaches.objects;
        calls = subst (λ gs. CallsReach (extents_of q) (unit_for x.program) (needs_for x.program) st.world gs) frames at.stands.reaches.calls.1;
      });
    }

    wants_asked : (wants : Option Place) (z : ℤ) (y : Frame) (v : World) → WantedStatic q.unit (function q m) wants → WantedRoom ((needs_for x.program) m) (function q m) wants → finished (slot_kinds q m) wants z a.frame st.world ≡ goes y v →
        WantedAsked p m a.frame wants
    wants_asked None z y v static room e = tt
    wants_asked (Some d) z y v static room e = by (locate (slot_kinds q m) a.frame d) refl e
      where
        by : (l : Option Location) → locate (slot_kinds q m) a.frame d ≡ l → if_some l (λ k. stored_at k z a.frame st.world) ≡ goes y v → WantedAsked p m a.frame (Some d)
        by None is got = absurd (cc got)
        by (Some l) is got =
            all_is_asked.targets p (needs_for x.program) m caller_state d caller_inside static room
            (stored_live p m a.frame y st.world v d l z (plan_popped q a.frame.call st.world.live at.matches.runtime.plan) is got)

    module _ (next : State) (e : step code st ≡ goes_to next) where
      step_is_at : StepAt q st next n (return r)
      step_is_at = step_at x q before n (return r) st w at next e

      went : ReturnStep q n m r waits.waits.op a fs st next
      went = return_step q n m st next a fs r waits.waits.op at.runs at.there frames callee waits.waits.there step_is_at.step

      beside : (went.frame.call ≡ a.frame.call) × SameBeside st.world went.world
      beside = subst (Settles a.frame st.world) went.stored (finished_settles (slot_kinds q m) (wanted waits.waits.op) went.value a.frame st.world st.world (unchanged st.world))

      asked : WantedAsked p m a.frame (wanted waits.waits.op)
      asked = wants_asked (wanted waits.waits.op) went.value went.frame went.world (wanted_static q.unit (function q m) waits.waits.op caller_static)
          (wanted_room (needs_for x.program) ((needs_for x.program) m) (function q m) waits.waits.op caller_room) went.stored

      -- the state behind it
      record Behind (s : State) : Type 0 where
        function : s.top.function ≡ a.function
        others : s.frames ≡ fs
        call : s.top.frame.call ≡ a.frame.call
        world : SameBeside st.world s.world

      behind : Behind next
      behind = subst Behind went.next_is (record { function = refl; others = refl; call = beside.0; world = beside.1 })

      plan_goes : GoesOn (extents_of q) (extents_of p) (unit_for x.program) st.world next
      plan_goes =
          let older = waits.less in let newest = at.matches.memory.newest in
          subst (λ u. GoesOn (extents_of q) (extents_of p) u st.world next) at.stands.unit
          (plans_go_on.same q p st.world next refl at.stands.reaches.objects (omega (arith, behind.world.last)) (λ is. omega (arith, is, behind.call, older, newest)))

      fewer : terminate_calls (next.top ∷ next.frames) ≤ 1
      fewer =
          let tops = ap is_terminate_call behind.function in let others = ap terminate_calls behind.others in
          let below : terminate_calls st.frames ≡ terminate_calls (a ∷ fs) = ap terminate_calls frames in
          let few = at.stands.once in omega (arith, tops, others, below, few)

      stands : (turns : ℕ) (u : abi.World) → Turns (program_of x.image).image turns w u [] → Matches p next u → Standing x.program x.image x.carrying x.tables (before + turns) next u
      stands turns u turned matches = (
        p,
        stands_behind x.program x.image x.carrying x.tables at.facts q p before turns 1 st next w u [] at.stands (Paces.one_step code st (goes_to next) e) first_calm
            (kept_by_turns (program_of x.image).image turns w u [] turned) (record {
              plan = record { frames = record { unit = refl; hidden = refl }; base = refl; tables = refl };
              aligned = subst (λ gs. CallsAlign q p (st.top ∷ gs) (next.top ∷ next.frames)) (sym frames)
                  (subst (λ gs. CallsAlign q p (st.top ∷ (a ∷ fs)) (next.top ∷ gs)) (sym behind.others) (align_return q p (record { unit = refl; hidden = refl }) st.top a next.top fs behind.function));
              spared = all_spared x.carrying (NotEntered []) (λ d. refl) None (next.top ∷ next.frames);
              rests = inl matches;
              few = let handlers = ap open_handlers behind.world.caught in omega (arith, handlers);
              reaches = steps_reach (extents_of q) (extents_of p) (unit_for x.program) (needs_for x.program) st next at.facts.reach at.stands.reaches (newest_was_made q st w at.matches) e plan_goes;
              ending = λ not. sym behind.world.ending ∙ not;
              once = fewer;
              forced = calm_forced x.program x.image x.carrying x.tables q before st next w u at.facts at.stands e return_calm turned.unwinding;
            }),
      )
        where
          first_calm : (j : ℕ) (middle : State) → j < 1 → Leads code j st (goes_to middle) → CalmAt code middle
          first_calm zero middle few leads = let one : st ≡ middle = cc leads in subst (λ s. CalmAt code s) one return_calm
          first_calm (suc j) middle few leads = absurd (omega (arith, few))

      -- a return and a store have few words
      return_weighs : length (linear_code (shape q n) (return r)) + length (stored_behind (shape q m) waits.waits.op) ≤ op_weight false (linear (return r))
      return_weighs =
          let back = return_words (shape q n) r in
          let stored = stored_words (shape q m) (wanted waits.waits.op) in
          omega (arith, back, stored)

      returns_on : ReturnsRun → FollowsIn x before st w
      returns_on run =
          let most : ℕ = length (linear_code (shape q n) (return r)) + length (stored_behind (shape q m) waits.waits.op) in
          let result = result_stands x q before n (return r) st w at r refl in
          let made : StepMade q st next p most [] =
          inr (inr (inr (inr (record {
            number = n;
            result = r;
            at = step_is_at;
            caller = m;
            waiting = a;
            others = fs;
            operation = waits.waits.op;
            frames = frames;
            callee = callee;
            waits = waits.waits.there;
            stands = result;
            wants = asked;
            plan = refl;
            turns = refl;
            nothing_shown = refl;
          })))) in
          inl (subst (λ y. RoundGoesOn (program_of x.image).image x.pick y (Standing x.program x.image x.carrying x.tables) before st w) (same_code x q before n (return r) st w at)
          (matched_goes_on (program_of x.image).image x.pick q st w (Standing x.program x.image x.carrying x.tables) before next n (return r) most [] (λ u. Matches p next u) step_is_at (omega arith)
          (own_paid x q before n (return r) st w at most (weight_paid x q before n (return r) st w at most return_weighs)) (step_items q p st next most [] made)
          (run (program_of x.image).image q n m st next w a fs r waits.waits.op at.matches at.runs at.there frames callee waits.waits.there result asked step_is_at.step) (λ turns u turned matches. stands turns u turned matches)))

    pub returns_to : ReturnsRun → FollowsIn x before st w
    returns_to run = by (step code st) refl (subst OnlyUndefined (sym acts) (returned_only code (result_in r st.top.frame st.world (kinds code st.top.function)) a fs st.world))
      where
        acts : step code st ≡ returned_with code (result_in r st.top.frame st.world (kinds code st.top.function)) (a ∷ fs) st.world
        acts = step_acts x q before n (return r) st w at ∙ ap (λ gs. returned_with code (result_in r st.top.frame st.world (kinds code st.top.function)) gs st.world) frames

        by : (y : Next) → step code st ≡ y → OnlyUndefined y → FollowsIn x before st w
        by (goes_to next) e h = returns_on next e run
        by (finishes f v) e h = undefined_breaks x q before n (return r) st w at f v e h

pub returns_follow : ReturnsRun → ReturnsFollow
returns_follow run x q before n r a fs m st w at frames callee = returns_to x q before n r st w at a fs m frames callee run

-- ---- main returns

pub mains_follow : MainsEnd → MainsFollow
mains_follow over x q before n r st w at alone = by (result_in r st.top.frame st.world (kinds (code_for x.program) st.top.function)) acts
  where
    acts : step (code_for x.program) st ≡ returned_with (code_for x.program) (result_in r st.top.frame st.world (kinds (code_for x.program) st.top.function)) [] st.world
    acts = step_acts x q before n (return r) st w at ∙ ap (λ gs. returned_with (code_for x.program) (result_in r st.top.frame st.world (kinds (code_for x.program) st.top.function)) gs st.world) alone

    by : (o : Option ℤ) → step (code_for x.program) st ≡ returned_with (code_for x.program) o [] st.world → FollowsIn x before st w
    by None e = undefined_breaks x q before n (return r) st w at not_defined st.world e refl
    by (Some z) e =
        let own = ap (λ c. step c st) (same_code x q before n (return r) st w at) ∙ e in
        let result = result_stands x q before n (return r) st w at r refl in
        inr (inl (ends_one (program_of x.image).image x.pick (code_for x.program) st w (exit z) st.world [] e (sym (append-nil st.world.items)) (record {
          turns = length (linear_code (shape q n) (return r)) + 2;
          shows = λ k many. (over (program_of x.image).image x.pick k q n st w r z st.world at.matches at.runs at.there alone result own many).0;
          ends = λ k many. (over (program_of x.image).image x.pick k q n st w r z st.world at.matches at.runs at.there alone result own many).1;
        }) (end_paid x q before n (return r) st w at (length (linear_code (shape q n) (return r)) + 2) (omega arith))))

-- ---- exit is called

exit_one : (v : Value) (o : LinearOp) → CallsExit v o → CallsBuiltin Exit (argument_then (int_argument v) no_arguments) None o
exit_one v o (inl is) = inr (inr (refl, is))
exit_one v o (inr is) = inr (inl (refl, is))

pub exits_follow : ExitsEnd → ExitsFollow
exits_follow over x q before n v o st w at exits = by (words_in (slot_kinds q n) st.top.frame st.world args) refl performs
  where
    args : Arguments
    args = argument_then (int_argument v) no_arguments

    performs : step (code_for x.program) st ≡ performed (code_for x.program) (given_effect Exit None args (slot_kinds q n) st.top.frame st.world) st.top st.frames st.world
    performs =
        let form = builtin_is Exit args None o (exit_one v o exits) in
        step_acts x q before n o st w at ∙ ap (λ y. act (code_for x.program) y st.top st.frames st.world) form.1
        ∙ ap (λ y. performed (code_for x.program) y st.top st.frames st.world) (form.2 (kinds (code_for x.program) st.top.function) st.top.frame st.world)
        ∙ ap (λ ks. performed (code_for x.program) (given_effect Exit None args ks st.top.frame st.world) st.top st.frames st.world) (kinds_same x q before n o st w at)

    by : (g : Option (List Word)) → words_in (slot_kinds q n) st.top.frame st.world args ≡ g →
        step (code_for x.program) st ≡ performed (code_for x.program) (if_some g (λ given. ends (exit (number_at given 0)) st.world)) st.top st.frames st.world → FollowsIn x before st w
    by None is e = undefined_breaks x q before n o st w at not_defined st.world e refl
    by (Some given) is e =
        let one = one_value (slot_kinds q n) st.top.frame st.world v given is in
        let asked = one_asked x q before n o st w at Exit v None one.0 (exit_one v o exits) one.1 in
        let own = ap (λ c. step c st) (same_code x q before n o st w at) ∙ e in
        inr (inl (ends_one (program_of x.image).image x.pick (code_for x.program) st w (exit (number_at given 0)) st.world [] e (sym (append-nil st.world.items)) (record {
          turns = length (linear_code (shape q n) o);
          shows = λ k many. (over (program_of x.image).image x.pick k q n st w o v (number_at given 0) st.world at.matches at.runs at.there exits asked own many).0;
          ends = λ k many. (over (program_of x.image).image x.pick k q n st w o v (number_at given 0) st.world at.matches at.runs at.there exits asked own many).1;
        }) (end_paid x q before n o st w at (length (linear_code (shape q n) o)) (omega arith))))
