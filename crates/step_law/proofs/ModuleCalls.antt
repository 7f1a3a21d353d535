-- A module is called in a whole run, with two ints: what the step is, and where it answers with a value.
use Rattle.std.proofs.Common.{◌≡◌, ◌∙◌, refl, sym, ap, subst, arith, append-nil, ℕ, ◌⊎◌, inl, inr, ℤ, false, List, [], Option, Some, None}
use Rattle.cxx_ast.specs.declared.name.Builtin.TheVariants.{Module}
use Rattle.cxa_runtime.specs.World as abi
use Rattle.eh_run.specs.Program.{program_of}
use Rattle.region_forms.specs.Form.{Kinds, Place, Value, Op}
use Rattle.region_forms.specs.World.{Word, Frame, World}
use Rattle.region_forms.specs.Evaluation.{value_in, words_in}
use Rattle.region_forms.specs.Effect.{goes, if_some, finished, module_called, built_in, effect}
use Rattle.linear_forms.specs.Linear.{LinearOp, plain}
use Rattle.linear_forms.specs.Activation.{State, Code, finishes, not_defined, goes_to, kinds}
use Rattle.linear_forms.specs.Machine.{step}
use Rattle.linear_forms.specs.Operation.{act, performed}
use Rattle.linear_forms.specs.Pace.{linear_pays}
use Rattle.machine_simulation.specs.Plan.{Plan, function}
use Rattle.machine_simulation.specs.Exceptions.{PlanHas}
use Rattle.machine_exceptions.specs.Answers.{CallsBuiltin, both_ints, CallsModule, AnswersRun}
use Rattle.operation_premises.specs.Static.{BuiltinArguments}
use Rattle.operation_premises.proofs.Asked.{all_is_asked}
use Rattle.step_law.specs.Facts.{needs_for, code_for}
use Rattle.step_law.specs.Rows.{Run, IsAt, FollowsIn}
use Rattle.step_law.proofs.At.{is_static, reaches_there, step_acts, acts_to, stays_follow}
use Rattle.step_law.proofs.Builtins.{given_effect, builtin_is, settled_goes, finished_items, WantedStatic, builtin_static, builtin_room, wanted_asked, kinds_same}
use Rattle.step_law.proofs.Replies.{two_values, AnswersWith}
use Rattle.step_law.proofs.Settling.{Settles, finished_settles, StaysCalmly, op_stays}

module _ (x : Run) (q : Plan) (before n : ℕ) (o : LinearOp) (wants : Option Place) (v u : Value) (st : State) (w : abi.World) (at : IsAt x q before n o st w) (calls : CallsBuiltin Module (both_ints v u) wants o) where
  abbrev code : Code
  code = code_for x.program

  abbrev ks : Kinds
  ks = kinds code st.top.function

  abbrev frame : Frame
  frame = st.top.frame

  abbrev world : World
  world = st.world

  form : (op : Op) × (o ≡ plain op) × ((ks : Kinds) (x : Frame) (w : World) → effect ks op x w ≡ given_effect Module wants (both_ints v u) ks x w)
  form = builtin_is Module (both_ints v u) wants o calls

  unpaid : linear_pays o ≡ false
  unpaid = by calls
    where
      by : CallsBuiltin Module (both_ints v u) wants o → linear_pays o ≡ false
      by (inl (d, some, is)) = ap linear_pays is
      by (inr (inl (none, is))) = ap linear_pays is
      by (inr (inr (none, is))) = ap linear_pays is

  acts : step code st ≡ performed code (given_effect Module wants (both_ints v u) ks frame world) st.top st.frames world
  acts = step_acts x q before n o st w at ∙ ap (λ y. act code y st.top st.frames world) form.1 ∙ ap (λ y. performed code y st.top st.frames world) (form.2 ks frame world)

  -- both ints are computed, and the operation calls the module with that number
  pub record IsNumbered : Type 0 where
    pub op : Op
    pub is : o ≡ plain op
    pub unpaid : linear_pays o ≡ false
    pub z : ℤ
    pub does : effect ks op frame world ≡ module_called ks wants z frame world
    pub called : CallsModule q n st wants o z

  static : BuiltinArguments q.unit (function q n) (both_ints v u) × WantedStatic q.unit (function q n) wants
  static = builtin_static q.unit (function q n) Module (both_ints v u) wants o calls (is_static x q before n o st w at)

  numbered : (given : List Word) → words_in ks frame world (both_ints v u) ≡ Some given → IsNumbered
  numbered given is =
      let two = two_values ks frame world v u given is in
      let first = subst (λ k. value_in k frame world v ≡ Some two.first) (kinds_same x q before n o st w at) two.first_is in
      let second = subst (λ k. value_in k frame world u ≡ Some two.second) (kinds_same x q before n o st w at) two.second_is in
      record {
        op = form.0;
        is = form.1;
        unpaid = unpaid;
        z = two.first;
        does = form.2 ks frame world ∙ ap (λ y. if_some y (λ given. built_in ks Module wants given frame world)) is ∙ ap (λ given. built_in ks Module wants given frame world) two.are;
        called = record {
          number = v;
          other = u;
          calls = calls;
          asked = all_is_asked.values q n frame world v static.0.0 (all_is_asked.loads q n frame world v two.first at.matches.runtime.plan first);
          other_asked = all_is_asked.values q n frame world u static.0.1.0 (all_is_asked.loads q n frame world u two.second at.matches.runtime.plan second);
          is = first;
          given = two.second;
          other_is = second;
        };
      }

  pub numbered_or_not : IsNumbered ⊎ (step code st ≡ finishes not_defined world)
  numbered_or_not = by (words_in ks frame world (both_ints v u)) refl
    where
      by : (y : Option (List Word)) → words_in ks frame world (both_ints v u) ≡ y → IsNumbered ⊎ (step code st ≡ finishes not_defined world)
      by None is = inr (acts ∙ ap (λ y. performed code (if_some y (λ given. built_in ks Module wants given frame world)) st.top st.frames world) is)
      by (Some given) is = inl (numbered given is)

  -- ---- with a value

  module _ (c : IsNumbered) (a : AnswersWith ks wants frame world c.z) where
    settles : Settles frame world (finished ks wants a.value frame a.behind)
    settles = finished_settles ks wants a.value frame world a.behind a.beside

    op_does : effect ks c.op frame world ≡ finished ks wants a.value frame a.behind
    op_does = c.does ∙ a.does

    stays_there : StaysCalmly code st o
    stays_there = subst (StaysCalmly code st) (sym c.is) (op_stays code st c.op (subst (Settles frame world) (sym op_does) settles))

    pub answers_there : AnswersRun → FollowsIn x before st w
    answers_there run =
        stays_follow x q before n o st w at stays_there
        (λ middle st_at stays.
        let performs : performed code (finished ks wants a.value frame a.behind) st.top st.frames world ≡ goes_to middle =
        sym (ap (λ y. act code y st.top st.frames world) c.is ∙ ap (λ y. performed code y st.top st.frames world) op_does) ∙ acts_to x q before n o st w at middle st_at in
        let went = settled_goes code (finished ks wants a.value frame a.behind) st.top st.frames world middle settles performs in
        let room = builtin_room (needs_for x.program) ((needs_for x.program) n) (function q n) Module (both_ints v u) wants o calls (reaches_there x q before n o st w at) in
        let does = subst (λ k. finished k wants a.value frame a.behind ≡ goes went.0 went.1) (kinds_same x q before n o st w at) went.2 in
        let has = subst (PlanHas q) (sym a.live) at.matches.runtime.plan in
        let wanted = wanted_asked x q before n o st w at wants a.value a.behind went.1 went.0 static.1 room has does in
        let few = at.stands.stands.world.given.few in (
          [],
          (λ e. refl),
          ap (λ (k : World). k.items) went.3 ∙ finished_items ks wants a.value frame went.0 a.behind went.1 went.2 ∙ a.items ∙ sym (append-nil world.items),
          run.module_called (program_of x.image).image q n st middle w o wants c.z a.value a.replies at.matches st_at c.called wanted (omega (arith, few)) a.answer a.int,
        ))
