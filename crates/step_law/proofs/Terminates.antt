-- Operations that terminate at once, in a whole run.
use Rattle.std.proofs.Common.{◌≡◌, ◌∙◌, refl, sym, ap, subst, arith, ℕ, suc, ◌+◌, ◌≤◌, ◌<◌, ◌⊎◌, inl, inr, Bool, true, false, ◌==◌, List, [], ◌∷◌, length, append-nil, Option, Some, None, if◌then◌else◌}
use Rattle.std.specs.Prelude.{is_some}
use Rattle.meaning_forms.specs.Class.{contains}
use Rattle.meaning_forms.specs.Outcome.{aborted}
use Rattle.cxx_ast.specs.declared.name.Builtin.TheVariants.{Terminate}
use Rattle.cxa_runtime.specs.World as abi
use Rattle.eh_run.specs.Program.{program_of}
use Rattle.region_forms.specs.Caught.{Entry}
use Rattle.region_forms.specs.Form.{Op, no_arguments, make, rethrow, enter}
use Rattle.region_forms.specs.Lives.{may_enter}
use Rattle.region_forms.specs.World.{World, nothing, exception_in_slot}
use Rattle.region_forms.specs.Effect.{Effect, goes, raises, terminates, only_where, rethrown, entered, effect}
use Rattle.linear_forms.specs.Defined.{IsDefined, RunsAt}
use Rattle.linear_forms.specs.Linear.{LinearOp, plain}
use Rattle.linear_forms.specs.Stub.{terminating, linear}
use Rattle.linear_forms.specs.Activation.{Activation, State, Code, finishes, by_program, not_defined, at, kinds, stub_frame, function_word, terminated}
use Rattle.linear_forms.specs.Machine.{step}
use Rattle.linear_forms.specs.Operation.{act, performed}
use Rattle.linear_forms.specs.Pace.{linear_pays}
use Rattle.linear_invariant.specs.Handled.{open_handlers}
use Rattle.linear_invariant.specs.Stands.{NewMarked}
use Rattle.linear_invariant.proofs.Asked.{enters_are_asked}
use Rattle.linear_invariant.proofs.Calls.{all_spared}
use Rattle.machine_forms.specs.LinearCode.{linear_code}
use Rattle.machine_forms.specs.Leaf.{linear_stays}
use Rattle.machine_stubs.specs.Stretches.{stub_word}
use Rattle.machine_simulation.specs.Plan.{Plan, shape}
use Rattle.machine_simulation.specs.Exceptions.{IsFunction, addresses_of}
use Rattle.machine_simulation.specs.Objects.{HoldsObject}
use Rattle.machine_simulation.specs.Entering.{entry_turns}
use Rattle.machine_exceptions.specs.Answers.{CallsBuiltin}
use Rattle.machine_exceptions.specs.Enters.{handlers_of, MayEnter, is_crowded}
use Rattle.machine_exceptions.specs.Terminates.{IsNothing, TerminatesAtOnce, EntersCrowded, AtTerminating, TerminatesRun}
use Rattle.handler_overflows.specs.AtOnce.{TerminatesOverflow}
use Rattle.handler_overflows.proofs.Above.{builtin_leaves}
use Rattle.stack_bounds.specs.Taken.{StacksHoldCalls}
use Rattle.address_invariant.proofs.Newest.{newest_was_made}
use Rattle.step_law.specs.Facts.{regions_for, code_for}
use Rattle.step_law.specs.Standing.{aims}
use Rattle.step_law.specs.Rows.{Run, IsAt, FollowsIn}
use Rattle.step_law.specs.Terminates.{TerminatesFollow, CrowdsFollow}
use Rattle.step_law.proofs.At.{is_static, fetches, step_acts}
use Rattle.step_law.proofs.Builtins.{builtin_is}
use Rattle.step_law.proofs.Exceptions.{gone_destroyed}
use Rattle.step_law.proofs.Keeping.{NotEntered, unmarked_stands}
use Rattle.step_law.proofs.Lost.{IsLost, aborts_here, nothing_hidden, begins_here, overflows_here, either_here, whatever_here}
use Rattle.step_law.proofs.Returns.{undefined_breaks}
use Rattle.step_law.proofs.Rooms.{takes_nothing, few_to_enter}

-- an operation of regions that terminates
record Terminating (code : Code) (st : State) (o : LinearOp) : Type 0 where
  op : Op
  is : o ≡ plain op
  does : effect (kinds code st.top.function) op st.top.frame st.world ≡ terminates st.world.installed.terminate_handler st.world
  unpaid : linear_pays o ≡ false
  leaves : linear_stays o ≡ false

rethrown_nothing : (v : World) (xs : List Entry) → IsNothing xs → rethrown xs v ≡ terminates v.installed.terminate_handler v
rethrown_nothing v [] h = refl
rethrown_nothing v (y ∷ xs) h = rw (h) refl

terminating_at : (code : Code) (st : State) (o : LinearOp) → TerminatesAtOnce st.world o → Terminating code st o
terminating_at code st o (inl calls) =
    let form = builtin_is Terminate no_arguments None o calls in
    record { op = form.0; is = form.1; does = form.2 (kinds code st.top.function) st.top.frame st.world; unpaid = unpaid calls; leaves = builtin_leaves Terminate no_arguments None o calls }
  where
    unpaid : CallsBuiltin Terminate no_arguments None o → linear_pays o ≡ false
    unpaid (inl (d, some, is)) = absurd (cc some)
    unpaid (inr (inl (none, is))) = ap linear_pays is
    unpaid (inr (inr (none, is))) = ap linear_pays is
terminating_at code st o (inr (inl (s, is, full))) = record { op = make s; is = is; does = rw (full) refl; unpaid = ap linear_pays is; leaves = ap linear_stays is }
terminating_at code st o (inr (inr (is, none))) = record { op = rethrow; is = is; does = rethrown_nothing st.world st.world.caught none; unpaid = ap linear_pays is; leaves = ap linear_stays is }

-- a handler in effect is a function of the unit
pub known_handler : (q : Plan) (o : Option ℕ) (m a : ℕ) → o ≡ Some m → IsFunction (addresses_of q) o a → m < length q.unit.functions
known_handler q None m a is h = absurd (cc is)
known_handler q (Some k) m a is h = let same : k ≡ m = cc is in subst (λ j. j < length q.unit.functions) same h.1

module _ (x : Run) (q : Plan) (before n : ℕ) (o : LinearOp) (st : State) (w : abi.World) (at_op : IsAt x q before n o st w) (why : TerminatesAtOnce st.world o ⊎ EntersCrowded q n st o) (t : Terminating (code_for x.program) st o) where
  abbrev code : Code
  code = code_for x.program

  abbrev here : List Activation
  here = st.top ∷ st.frames

  abbrev handler : Option ℕ
  handler = st.world.installed.terminate_handler

  steps : step code st ≡ (if st.world.ending then finishes (by_program aborted) st.world else terminated handler here st.world)
  steps =
      step_acts x q before n o st w at_op ∙ ap (λ y. act code y st.top st.frames st.world) t.is ∙ ap (λ e. performed code e st.top st.frames st.world) t.does
      ∙ by st.world.ending refl
    where
      by : (b : Bool) → st.world.ending ≡ b → terminated handler here st.world ≡ (if b then finishes (by_program aborted) st.world else terminated handler here st.world)
      by true is = ap (λ b. if b then finishes (by_program aborted) st.world else at terminating 0 (stub_frame (function_word handler) nothing nothing) here (record st.world { ending = is_some handler })) is
      by false is = refl

  marked : NewMarked (aims x.program q here w) code st
  marked = record { raised = λ op e v a runs is found. absurd (none op e v (same_op op runs) is); cancelled = λ op z v runs is. tt }
    where
      same_op : (op : Op) → RunsAt code st (linear (plain op)) → t.op ≡ op
      same_op op runs =
          let same : Some (linear o) ≡ Some (linear (plain op)) = sym (fetches x q before n o st w at_op) ∙ runs in
          let one : o ≡ plain op = cc same in
          let two : plain t.op ≡ plain op = sym t.is ∙ one in cc two

      none : (op : Op) (e : ℕ) (v : World) → t.op ≡ op → effect (kinds code st.top.function) op st.top.frame st.world ≡ raises e v → ⊥
      none op e v same is = let no : terminates handler st.world ≡ raises e v = sym t.does ∙ ap (λ y. effect (kinds code st.top.function) y st.top.frame st.world) same ∙ is in cc no

  lost : IsLost x q o st w st.world st.world [] handler
  lost = record {
    beside = record { last = refl; newest = newest_was_made q st w at_op.matches };
    still = refl;
    falls = refl;
    unpaid = t.unpaid;
    steps = steps;
    marked = marked;
    spared = all_spared x.carrying (NotEntered []) (λ e. refl) (Some terminating) here;
    known = λ m some. known_handler q handler m w.terminate_handler some at_op.matches.runtime.exceptions.terminate_handler;
    takes = λ m some. takes_nothing x.program q handler m at_op.stands.unit at_op.stands.stands.lives.handlers.terminate some;
    leaves = t.leaves;
    few = λ turns u turned. omega arith;
  }

  abbrev at_end : AtTerminating (program_of x.image).image q n st
  at_end = record { operation = o; runs = at_op.runs; there = at_op.there; terminates = why; named = at_op.facts.named ∙ ap (λ b. stub_word b terminating 0) (sym at_op.stands.base) }

  aborts : TerminatesRun → (st.world.ending ≡ true) ⊎ (handler ≡ None) → FollowsIn x before st w
  aborts run none =
      aborts_here x q before n o st w at_op st.world st.world [] handler lost none [] (length (linear_code (shape q n) o) + 10) (omega arith)
      (λ k many. let ended = run.aborts (program_of x.image).image x.pick k q n st w at_op.matches at_end none many in ((ended.0.0, ended.0.1, ended.0.2 ∙ sym (append-nil st.world.items)), ended.1))

  either : TerminatesRun → TerminatesOverflow → StacksHoldCalls → (m : ℕ) → st.world.ending ≡ false → handler ≡ Some m → FollowsIn x before st w
  either run over holds m quiet some =
      let hidden = nothing_hidden x q before n o st w at_op st.world st.world [] handler lost m quiet some in
      either_here x q before n o st w at_op st.world st.world [] handler lost m quiet some
      (λ room.
      let ran = run.calls_the_handler (program_of x.image).image q n m st w at_op.matches at_end quiet some hidden room in
      begins_here x q before n o st w at_op st.world st.world [] handler lost m quiet some (length (linear_code (shape q n) o) + 9 + entry_turns q m) (let few = few_to_enter q m in omega (arith, few)) ran.0 (ran.1 ∙ sym (append-nil st.world.items)) ran.2)
      (λ lacks.
      overflows_here x q before n o st w at_op st.world st.world [] handler lost m quiet some lacks holds 15 (omega arith)
      (λ k many. over (program_of x.image).image x.pick k q n m st w at_op.matches at_end quiet some hidden lacks many))

  whatever : TerminatesRun → TerminatesOverflow → StacksHoldCalls → FollowsIn x before st w
  whatever run over holds = whatever_here x q before n o st w at_op st.world st.world [] handler lost (aborts run) (either run over holds)

pub terminates_follow : TerminatesRun → TerminatesOverflow → StacksHoldCalls → TerminatesFollow
terminates_follow run over holds x q before n m o st w at_op why quiet some = either x q before n o st w at_op (inl why) (terminating_at (code_for x.program) st o why) run over holds m quiet some

-- ---- a foreign exception is entered while another is handled

handlers_open : (xs : List Entry) (e : ℕ) → handlers_of xs e ≤ open_handlers xs
handlers_open [] e = omega arith
handlers_open (y ∷ xs) e = let rest = handlers_open xs e in by (y.number == e) rest
  where
    by : (b : Bool) → handlers_of xs e ≤ open_handlers xs → (if b then suc y.more else handlers_of xs e) ≤ y.more + 1 + open_handlers xs
    by true rest = omega arith
    by false rest = omega (arith, rest)

pub terminated_defined : (h : Option ℕ) (fs : List Activation) (v : World) → IsDefined (terminated h fs v)
terminated_defined h fs v = by v.ending
  where
    by : (b : Bool) → IsDefined (if b then finishes (by_program aborted) v else at terminating 0 (stub_frame (function_word h) nothing nothing) fs (record v { ending = is_some h }))
    by true = tt
    by false = tt

pub crowds_follow : TerminatesRun → TerminatesOverflow → StacksHoldCalls → CrowdsFollow
crowds_follow run over holds x q before n s st w at_op few crowded = by (may_enter st.world e) refl
  where
    code : Code
    code = code_for x.program

    e : ℕ
    e = exception_in_slot st.top.frame s

    enters_or : Bool → Bool → Effect
    enters_or b c = only_where b (if c then terminates st.world.installed.terminate_handler st.world else goes st.top.frame (entered e st.world))

    ends : may_enter st.world e ≡ true → FollowsIn x before st w
    ends may =
        let does : enters_or (may_enter st.world e) (is_crowded st.world e) ≡ terminates st.world.installed.terminate_handler st.world = ap (λ b. enters_or b (is_crowded st.world e)) may ∙ ap (enters_or true) crowded in
        let to : step code st ≡ terminated st.world.installed.terminate_handler (st.top ∷ st.frames) st.world =
        step_acts x q before n (plain (enter s)) st w at_op ∙ ap (λ y. performed code y st.top st.frames st.world) does in
        let slot = is_static x q before n (plain (enter s)) st w at_op in
        let asked = enters_are_asked (regions_for x.program) x.carrying at_op.stands.steps s st at_op.facts.fits (unmarked_stands x.program x.image x.carrying x.tables q before st w at_op.stands)
        (fetches x q before n (plain (enter s)) st w at_op) (subst IsDefined (sym to) (terminated_defined st.world.installed.terminate_handler (st.top ∷ st.frames) st.world)) in
        let holds_it : HoldsObject q n st.top.frame s e = record { inside = slot.inside; near = slot.near; is = asked.has.object } in
        let handlers = handlers_open st.world.caught e in
        let turns_few = at_op.stands.few in
        let may_it : MayEnter st.frames st.world e = record { whole = ap (λ es. contains es e) (gone_destroyed st.frames) ∙ asked.has.whole; few = omega (arith, handlers, turns_few, few) } in
        let why : EntersCrowded q n st (plain (enter s)) = record { slot = s; number = e; is = refl; holds = holds_it; defined = may; may = may_it; crowded = crowded } in
        whatever x q before n (plain (enter s)) st w at_op (inr why) (record { op = enter s; is = refl; does = does; unpaid = refl; leaves = refl }) run over holds

    by : (b : Bool) → may_enter st.world e ≡ b → FollowsIn x before st w
    by true may = ends may
    by false may =
        undefined_breaks x q before n (plain (enter s)) st w at_op not_defined st.world
        (step_acts x q before n (plain (enter s)) st w at_op ∙ ap (λ b. performed code (enters_or b (is_crowded st.world e)) st.top st.frames st.world) may) refl
