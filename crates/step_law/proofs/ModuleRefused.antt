-- A module raises in a whole run while 1,024 exceptions are live: terminate's handler begins, or there is no room for it, or none is called.
use Rattle.std.proofs.Common.{◌≡◌, ◌∙◌, refl, sym, ap, arith, ℕ, ◌+◌, ◌⊎◌, pos, Bool, true, false, List, [], ◌∷◌, length, Option, Some, None, is_some, if◌then◌else◌}
use Rattle.std.specs.Prelude.{slice_get, slice_set}
use Rattle.eh_outer.specs.declared.module.Reply.{Reply}
use Rattle.eh_outer.specs.declared.module.Reply.TheVariants.{Raise}
use Rattle.meaning_forms.specs.Outcome.{aborted}
use Rattle.cxa_runtime.specs.World as abi
use Rattle.region_forms.specs.Form.{Place, Op}
use Rattle.region_forms.specs.World.{World, nothing}
use Rattle.region_forms.specs.Effect.{raises, terminates, is_full, effect}
use Rattle.linear_forms.specs.Defined.{RunsAt}
use Rattle.linear_forms.specs.Linear.{LinearOp, plain}
use Rattle.linear_forms.specs.Stub.{terminating, linear}
use Rattle.linear_forms.specs.Activation.{Activation, State, Code, finishes, by_program, kinds, at, stub_frame, function_word, terminated}
use Rattle.linear_forms.specs.Machine.{step}
use Rattle.linear_forms.specs.Operation.{act, performed}
use Rattle.linear_forms.specs.Pace.{linear_pays}
use Rattle.linear_invariant.specs.Stands.{NewMarked}
use Rattle.linear_invariant.proofs.Calls.{all_spared}
use Rattle.machine_forms.specs.LinearCode.{linear_code}
use Rattle.machine_stubs.specs.Stretches.{stub_word}
use Rattle.machine_simulation.specs.Plan.{Plan, shape}
use Rattle.machine_simulation.specs.Entering.{entry_turns}
use Rattle.machine_exceptions.specs.Answers.{CallsModule, both_ints}
use Rattle.raise_ends.specs.Full.{ModulesAreRefusedWhenFull}
use Rattle.raise_ends.specs.Modules.{AtRaise}
use Rattle.handler_overflows.specs.Modules.{ModulesOverflow}
use Rattle.handler_overflows.proofs.Above.{builtin_leaves}
use Rattle.stack_bounds.specs.Taken.{StacksHoldCalls}
use Rattle.address_invariant.proofs.Newest.{newest_was_made}
use Rattle.cxx_ast.specs.declared.name.Builtin.TheVariants.{Module}
use Rattle.step_law.specs.Facts.{code_for}
use Rattle.step_law.specs.Standing.{aims}
use Rattle.step_law.specs.Rows.{Run, IsAt, FollowsIn}
use Rattle.step_law.proofs.At.{fetches, step_acts}
use Rattle.step_law.proofs.Keeping.{NotEntered}
use Rattle.step_law.proofs.Lost.{IsLost, aborts_here, nothing_hidden, begins_here, overflows_here, either_here, whatever_here}
use Rattle.step_law.proofs.Rooms.{takes_nothing, few_to_enter}
use Rattle.step_law.proofs.Terminates.{known_handler}

-- an operation calls a module whose next reply raises, and there is no room for an exception
pub record RefusedHere (x : Run) (q : Plan) (n : ℕ) (o : LinearOp) (wants : Option Place) (st : State) : Type 0 where
  pub op : Op
  pub is : o ≡ plain op
  pub unpaid : linear_pays o ≡ false
  pub k : ℕ
  pub token : ℕ
  pub left : List Reply
  pub called : CallsModule q n st wants o (pos k)
  pub reply : slice_get st.world.replies k ≡ Some (Raise token ∷ left)
  pub full : is_full st.world ≡ true
  pub does : effect (kinds (code_for x.program) st.top.function) op st.top.frame st.world ≡ terminates st.world.installed.terminate_handler (record (st.world) { replies = slice_set st.world.replies k left })

module _ (x : Run) (q : Plan) (before n : ℕ) (o : LinearOp) (wants : Option Place) (st : State) (w : abi.World) (at_op : IsAt x q before n o st w) (r : RefusedHere x q n o wants st) where
  abbrev code : Code
  code = code_for x.program

  abbrev here : List Activation
  here = st.top ∷ st.frames

  abbrev v : World
  v = record (st.world) { replies = slice_set st.world.replies r.k r.left }

  abbrev handler : Option ℕ
  handler = st.world.installed.terminate_handler

  steps : step code st ≡ (if st.world.ending then finishes (by_program aborted) v else terminated handler here v)
  steps =
      step_acts x q before n o st w at_op ∙ ap (λ y. act code y st.top st.frames st.world) r.is ∙ ap (λ y. performed code y st.top st.frames st.world) r.does
      ∙ by st.world.ending refl
    where
      by : (b : Bool) → st.world.ending ≡ b → terminated handler here v ≡ (if b then finishes (by_program aborted) v else terminated handler here v)
      by true is = ap (λ b. if b then finishes (by_program aborted) v else at terminating 0 (stub_frame (function_word handler) nothing nothing) here (record v { ending = is_some handler })) is
      by false is = refl

  marked : NewMarked (aims x.program q here w) code st
  marked = record { raised = λ op e u a runs is found. absurd (none op e u (same_op op runs) is); cancelled = λ op z u runs is. tt }
    where
      same_op : (op : Op) → RunsAt code st (linear (plain op)) → r.op ≡ op
      same_op op runs =
          let same : Some (linear o) ≡ Some (linear (plain op)) = sym (fetches x q before n o st w at_op) ∙ runs in
          let one : o ≡ plain op = cc same in
          let two : plain r.op ≡ plain op = sym r.is ∙ one in cc two

      none : (op : Op) (e : ℕ) (u : World) → r.op ≡ op → effect (kinds code st.top.function) op st.top.frame st.world ≡ raises e u → ⊥
      none op e u same is = let no : terminates handler v ≡ raises e u = sym r.does ∙ ap (λ y. effect (kinds code st.top.function) y st.top.frame st.world) same ∙ is in cc no

  lost : IsLost x q o st w v v [] handler
  lost = record {
    beside = record { last = refl; newest = newest_was_made q st w at_op.matches };
    still = refl;
    falls = refl;
    unpaid = r.unpaid;
    steps = steps;
    marked = marked;
    spared = all_spared x.carrying (NotEntered []) (λ e. refl) (Some terminating) here;
    known = λ m some. known_handler q handler m w.terminate_handler some at_op.matches.runtime.exceptions.terminate_handler;
    takes = λ m some. takes_nothing x.program q handler m at_op.stands.unit at_op.stands.stands.lives.handlers.terminate some;
    leaves = builtin_leaves Module (both_ints r.called.number r.called.other) wants o r.called.calls;
    few = λ turns u turned. omega arith;
  }

  abbrev raises_here : AtRaise x.image q n r.k r.token r.left st
  raises_here = record {
    operation = o;
    wants = wants;
    runs = at_op.runs;
    there = at_op.there;
    calls = r.called;
    reply = r.reply;
    named = at_op.facts.named ∙ ap (λ b. stub_word b terminating 0) (sym at_op.stands.base);
  }

  aborts : ModulesAreRefusedWhenFull → (st.world.ending ≡ true) ⊎ (handler ≡ None) → FollowsIn x before st w
  aborts run none =
      aborts_here x q before n o st w at_op v v [] handler lost none [] (length (linear_code (shape q n) o) + 10) (omega arith)
      (λ j many. run.aborts x.image x.pick j q n r.k r.token r.left st w at_op.matches raises_here r.full none many)

  either : ModulesAreRefusedWhenFull → ModulesOverflow → StacksHoldCalls → (m : ℕ) → st.world.ending ≡ false → handler ≡ Some m → FollowsIn x before st w
  either run over holds m quiet some =
      let hidden = nothing_hidden x q before n o st w at_op v v [] handler lost m quiet some in
      either_here x q before n o st w at_op v v [] handler lost m quiet some
      (λ room.
      let ran = run.calls_the_handler x.image q n m r.k r.token r.left st w at_op.matches raises_here r.full quiet some hidden room in
      begins_here x q before n o st w at_op v v [] handler lost m quiet some (length (linear_code (shape q n) o) + 7 + entry_turns q m) (let few = few_to_enter q m in omega (arith, few)) ran.0.0 ran.0.1 ran.1)
      (λ lacks.
      overflows_here x q before n o st w at_op v v [] handler lost m quiet some lacks holds (length (linear_code (shape q n) o) + 13) (omega arith)
      (λ j many. over.full x.image x.pick j q n m r.k r.token r.left st w at_op.matches raises_here r.full quiet some hidden lacks many))

  pub refused_here : ModulesAreRefusedWhenFull → ModulesOverflow → StacksHoldCalls → FollowsIn x before st w
  refused_here run over holds = whatever_here x q before n o st w at_op v v [] handler lost (aborts run) (either run over holds)
