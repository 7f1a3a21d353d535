-- A module is called in a whole run, with two ints, whatever comes of it.
use Rattle.std.proofs.Common.{◌≡◌, ◌∙◌, refl, ap, subst, ℕ, ◌⊎◌, inl, inr, Option, Some, None, List, ◌∷◌}
use Rattle.cxx_ast.specs.declared.name.Builtin.TheVariants.{Module}
use Rattle.cxa_runtime.specs.World as abi
use Rattle.region_forms.specs.Form.{Kinds, Place, Value}
use Rattle.region_forms.specs.World.{World, exception_type, type_at}
use Rattle.linear_forms.specs.Linear.{LinearOp}
use Rattle.linear_forms.specs.Activation.{Activation, State, Code, finishes, not_defined, kinds}
use Rattle.linear_forms.specs.Machine.{step}
use Rattle.linear_forms.specs.Search.{found_above}
use Rattle.machine_simulation.specs.Plan.{Plan}
use Rattle.machine_exceptions.specs.Answers.{CallsBuiltin, both_ints, CallsModule, AnswersRun}
use Rattle.raise_ends.specs.Full.{ModulesAreRefusedWhenFull}
use Rattle.raise_ends.specs.Modules.{ModulesDoom}
use Rattle.handler_overflows.specs.Modules.{ModulesOverflow}
use Rattle.stack_bounds.specs.Taken.{StacksHoldCalls}
use Rattle.stub_landings.specs.Landings.{ModulesLand}
use Rattle.step_law.specs.Facts.{code_for}
use Rattle.step_law.specs.Rows.{Run, IsAt, FollowsIn}
use Rattle.step_law.specs.Modules.{ModulesFollow}
use Rattle.step_law.proofs.Foreign.{RaisesHere, new, raised, is_foreign_there, raised_follows}
use Rattle.step_law.proofs.ForeignDooms.{dooms_here}
use Rattle.step_law.proofs.ModuleCalls.{IsNumbered, numbered_or_not, answers_there}
use Rattle.step_law.proofs.ModuleRefused.{RefusedHere, refused_here}
use Rattle.step_law.proofs.RaiseLeads.{raise_follows}
use Rattle.step_law.proofs.Replies.{RaisesFor, IsRefused, Answer, answer_for}
use Rattle.step_law.proofs.Returns.{undefined_breaks}

-- ---- an exception is raised, and something stops it or nothing does

module _ (x : Run) (q : Plan) (before n : ℕ) (o : LinearOp) (wants : Option Place) (st : State) (w : abi.World) (at : IsAt x q before n o st w) (r : RaisesHere x q n o wants st) where
  abbrev code : Code
  code = code_for x.program

  abbrev here : List Activation
  here = st.top ∷ st.frames

  abbrev e : ℕ
  e = new x q before n o wants st w at r

  abbrev v : World
  v = raised x q before n o wants st w at r

  stopped : ModulesLand → (d : ℕ) → found_above code None here ≡ Some d → FollowsIn x before st w
  stopped run d some =
      let type : type_at v e ≡ None = ap exception_type (is_foreign_there x q before n o wants st w at r) in
      raise_follows x q before n o st w at r.op r.is e v r.does d (ap (λ t. found_above code t here) type ∙ some) (λ next h on. raised_follows x q before n o wants st w at r run next h on)

  raises_there : ModulesLand → ModulesDoom → ModulesOverflow → StacksHoldCalls → FollowsIn x before st w
  raises_there run doom over holds = by (found_above code None here) refl
    where
      by : (y : Option ℕ) → found_above code None here ≡ y → FollowsIn x before st w
      by None none = dooms_here x q before n o wants st w at r none doom over holds
      by (Some d) some = stopped run d some

-- ---- all of it

module _ (x : Run) (q : Plan) (before n : ℕ) (o : LinearOp) (wants : Option Place) (v u : Value) (st : State) (w : abi.World) (at : IsAt x q before n o st w) (calls : CallsBuiltin Module (both_ints v u) wants o) where
  abbrev ks : Kinds
  ks = kinds (code_for x.program) st.top.function

  abbrev Numbered : Type 0
  Numbered = IsNumbered x q before n o wants v u st w at calls

  raises_here : (c : Numbered) → RaisesFor ks wants st.top.frame st.world c.z → RaisesHere x q n o wants st
  raises_here c r = record {
    op = c.op;
    is = c.is;
    unpaid = c.unpaid;
    k = r.k;
    token = r.token;
    left = r.left;
    called = subst (λ z. CallsModule q n st wants o z) r.number c.called;
    reply = r.reply;
    room = r.room;
    does = c.does ∙ r.does;
  }

  refused : (c : Numbered) → IsRefused ks wants st.top.frame st.world c.z → RefusedHere x q n o wants st
  refused c r = record {
    op = c.op;
    is = c.is;
    unpaid = c.unpaid;
    k = r.k;
    token = r.token;
    left = r.left;
    called = subst (λ z. CallsModule q n st wants o z) r.number c.called;
    reply = r.reply;
    full = r.full;
    does = c.does ∙ r.does;
  }

  module _ (answers : AnswersRun) (land : ModulesLand) (doom : ModulesDoom) (full : ModulesAreRefusedWhenFull) (over : ModulesOverflow) (holds : StacksHoldCalls) where
    by_answer : (c : Numbered) → Answer ks wants st.top.frame st.world c.z → FollowsIn x before st w
    by_answer c (inl a) = answers_there x q before n o wants v u st w at calls c a answers
    by_answer c (inr (inl r)) = raises_there x q before n o wants st w at (raises_here c r) land doom over holds
    by_answer c (inr (inr r)) = refused_here x q before n o wants st w at (refused c r) full over holds

    module_follows : FollowsIn x before st w
    module_follows = by (numbered_or_not x q before n o wants v u st w at calls)
      where
        by : Numbered ⊎ (step (code_for x.program) st ≡ finishes not_defined st.world) → FollowsIn x before st w
        by (inl c) = by_answer c (answer_for ks wants st.top.frame st.world at.stands.stands.world.given.fit c.z)
        by (inr e) = undefined_breaks x q before n o st w at not_defined st.world e refl

pub modules_follow : AnswersRun → ModulesLand → ModulesDoom → ModulesAreRefusedWhenFull → ModulesOverflow → StacksHoldCalls → ModulesFollow
modules_follow answers land doom full over holds x q before n o wants v u st w at calls = module_follows x q before n o wants v u st w at calls answers land doom full over holds
