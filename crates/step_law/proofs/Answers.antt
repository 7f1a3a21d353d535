-- Built-in functions that ask whether an exception travels, or set a handler, in a whole run.
use Rattle.std.proofs.Common.{◌≡◌, ◌∙◌, refl, sym, ap, subst, ℕ, pos, List, [], append-nil, Option, None}
use Rattle.cxx_ast.specs.declared.name.Builtin.TheVariants.{SetTerminate, SetUnexpected, Uncaught}
use Rattle.cxa_runtime.specs.World as abi
use Rattle.eh_run.specs.Program.{program_of}
use Rattle.meaning_forms.specs.Arithmetic.{truth}
use Rattle.region_forms.specs.Form.{Kinds, Place, no_arguments, argument_then, handler_argument}
use Rattle.region_forms.specs.World.{Word, Frame, World}
use Rattle.region_forms.specs.Effect.{goes, some_travel, built_in}
use Rattle.linear_forms.specs.Linear.{LinearOp}
use Rattle.linear_forms.specs.Activation.{State, kinds}
use Rattle.machine_simulation.specs.Plan.{Plan, function}
use Rattle.machine_exceptions.specs.Answers.{CallsBuiltin, AnswersRun}
use Rattle.step_law.specs.Facts.{needs_for, code_for}
use Rattle.step_law.specs.Rows.{Run, IsAt, FollowsIn, AnswersFollow}
use Rattle.step_law.proofs.At.{is_static, reaches_there, acts_to, stays_follow}
use Rattle.step_law.proofs.Builtins.{builtin_stays, is_given, builtin_static, builtin_room, wanted_asked, kinds_same, finished_items}
use Rattle.step_law.proofs.Settling.{Settles, finished_settles, unchanged}

asked_settles : (ks : Kinds) (x : Frame) (w : World) (wants : Option Place) (given : List Word) → Settles x w (built_in ks Uncaught wants given x w)
asked_settles ks x w wants given = finished_settles ks wants (truth (some_travel w.uncaught)) x w w (unchanged w)

module _ (x : Run) (q : Plan) (before n : ℕ) (o : LinearOp) (st : State) (w : abi.World) (at : IsAt x q before n o st w) where
  uncaught_follows : AnswersRun → (wants : Option Place) → CallsBuiltin Uncaught no_arguments wants o → FollowsIn x before st w
  uncaught_follows run wants calls =
      let ks = kinds (code_for x.program) st.top.function in
      stays_follow x q before n o st w at (builtin_stays (code_for x.program) st Uncaught no_arguments wants o calls (λ given. asked_settles ks st.top.frame st.world wants given))
      (λ next st_at stays.
      let g = is_given (code_for x.program) st next Uncaught no_arguments wants o calls (λ given. asked_settles ks st.top.frame st.world wants given) (acts_to x q before n o st w at next st_at) in
      let static = builtin_static q.unit (function q n) Uncaught no_arguments wants o calls (is_static x q before n o st w at) in
      let room = builtin_room (needs_for x.program) ((needs_for x.program) n) (function q n) Uncaught no_arguments wants o calls (reaches_there x q before n o st w at) in
      let does = subst (λ k. built_in k Uncaught wants g.given st.top.frame st.world ≡ goes g.frame g.world) (kinds_same x q before n o st w at) g.does in
      let asked = wanted_asked x q before n o st w at wants (truth (some_travel st.world.uncaught)) st.world g.world g.frame static.1 room at.matches.runtime.plan does in
      ([], (λ e. refl), ap (λ (k : World). k.items) g.behind ∙ finished_items ks wants (truth (some_travel st.world.uncaught)) st.top.frame g.frame st.world g.world g.does ∙ sym (append-nil st.world.items), run.uncaught (program_of x.image).image q n st next w o wants at.matches st_at calls asked))

  terminate_follows : AnswersRun → (m : ℕ) → CallsBuiltin SetTerminate (argument_then (handler_argument m) no_arguments) None o → FollowsIn x before st w
  terminate_follows run m calls =
      stays_follow x q before n o st w at (builtin_stays (code_for x.program) st SetTerminate (argument_then (handler_argument m) no_arguments) None o calls
      (λ given. (refl, record { calls = refl; deepest = refl; ending = refl; last = refl; caught = refl })))
      (λ next st_at stays.
      let static = builtin_static q.unit (function q n) SetTerminate (argument_then (handler_argument m) no_arguments) None o calls (is_static x q before n o st w at) in
      let g = is_given (code_for x.program) st next SetTerminate (argument_then (handler_argument m) no_arguments) None o calls
      (λ given. (refl, record { calls = refl; deepest = refl; ending = refl; last = refl; caught = refl })) (acts_to x q before n o st w at next st_at) in
      ([], (λ e. refl), ap (λ (k : World). k.items) g.behind ∙ finished_items (kinds (code_for x.program) st.top.function) None (pos 0) st.top.frame g.frame _ g.world g.does ∙ sym (append-nil st.world.items), run.terminate_set (program_of x.image).image q n m st next w o at.matches st_at calls static.0.0))

  unexpected_follows : AnswersRun → (m : ℕ) → CallsBuiltin SetUnexpected (argument_then (handler_argument m) no_arguments) None o → FollowsIn x before st w
  unexpected_follows run m calls =
      stays_follow x q before n o st w at (builtin_stays (code_for x.program) st SetUnexpected (argument_then (handler_argument m) no_arguments) None o calls
      (λ given. (refl, record { calls = refl; deepest = refl; ending = refl; last = refl; caught = refl })))
      (λ next st_at stays.
      let static = builtin_static q.unit (function q n) SetUnexpected (argument_then (handler_argument m) no_arguments) None o calls (is_static x q before n o st w at) in
      let g = is_given (code_for x.program) st next SetUnexpected (argument_then (handler_argument m) no_arguments) None o calls
      (λ given. (refl, record { calls = refl; deepest = refl; ending = refl; last = refl; caught = refl })) (acts_to x q before n o st w at next st_at) in
      ([], (λ e. refl), ap (λ (k : World). k.items) g.behind ∙ finished_items (kinds (code_for x.program) st.top.function) None (pos 0) st.top.frame g.frame _ g.world g.does ∙ sym (append-nil st.world.items), run.unexpected_set (program_of x.image).image q n m st next w o at.matches st_at calls static.0.0))

pub answers_follow : AnswersRun → AnswersFollow
answers_follow run = record {
  uncaught = λ x q before n wants o st w at calls. uncaught_follows x q before n o st w at run wants calls;
  terminate_set = λ x q before n m o st w at calls. terminate_follows x q before n o st w at run m calls;
  unexpected_set = λ x q before n m o st w at calls. unexpected_follows x q before n o st w at run m calls;
}
