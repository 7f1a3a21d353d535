-- Lines and bytes, in a whole run.
use Rattle.std.proofs.Common.{◌≡◌, refl, sym, subst, ℕ, inl, inr, ◌<◌, pos, false, List, [], ◌∷◌, length, Option, Some, None}
use Rattle.std.specs.List.{AllByRecursion}
use Rattle.cxx_ast.specs.declared.name.Builtin.TheVariants.{WriteInt, ReadByte}
use Rattle.eh_run.specs.Program.{program_of}
use Rattle.region_forms.specs.Form.{Kinds, Place, Value, int_argument, no_arguments, argument_then}
use Rattle.region_forms.specs.World.{Word, Frame, World}
use Rattle.region_forms.specs.Evaluation.{value_in}
use Rattle.region_forms.specs.Effect.{goes, byte_of, built_in}
use Rattle.linear_forms.specs.Linear.{LinearOp}
use Rattle.linear_forms.specs.Activation.{kinds}
use Rattle.machine_forms.specs.LinearCode.{linear_code}
use Rattle.machine_simulation.specs.Plan.{shape, function}
use Rattle.machine_simulation.specs.Lines.{Writes, LinesRun}
use Rattle.machine_simulation.specs.Bytes.{Reads, AreBytes, BytesRun}
use Rattle.machine_simulation.specs.Steps.{StepMade}
use Rattle.machine_exceptions.specs.Answers.{CallsBuiltin}
use Rattle.runtime_invariant.specs.Aims.{is_entered}
use Rattle.step_law.specs.Facts.{needs_for, code_for}
use Rattle.step_law.specs.Rows.{LinesFollow, BytesFollow}
use Rattle.step_law.proofs.At.{is_static, reaches_there, acts_to, stays_follow}
use Rattle.step_law.proofs.Builtins.{builtin_stays, is_given, one_value, builtin_static, builtin_room, wanted_asked, kinds_same, one_asked}
use Rattle.machine_simulation.proofs.Items.{step_items}
use Rattle.step_law.proofs.Settling.{Settles, finished_settles}

writes_one : (v : Value) (o : LinearOp) → Writes v o → CallsBuiltin WriteInt (argument_then (int_argument v) no_arguments) None o
writes_one v o (inl is) = inr (inr (refl, is))
writes_one v o (inr is) = inr (inl (refl, is))

written_settles : (ks : Kinds) (x : Frame) (w : World) (wants : Option Place) (given : List Word) → Settles x w (built_in ks WriteInt wants given x w)
written_settles ks x w wants given = finished_settles ks wants (pos 0) x w _ (record { calls = refl; deepest = refl; ending = refl; last = refl; caught = refl })

read_settles : (ks : Kinds) (x : Frame) (w : World) (wants : Option Place) (given : List Word) → Settles x w (built_in ks ReadByte wants given x w)
read_settles ks x w wants given = finished_settles ks wants (byte_of w.input) x w _ (record { calls = refl; deepest = refl; ending = refl; last = refl; caught = refl })

pub lines_follow : LinesRun → LinesFollow
lines_follow run x q before n v o st w a writes =
    let ks = kinds (code_for x.program) st.top.function in
    let calls = writes_one v o writes in
    stays_follow x q before n o st w a (builtin_stays (code_for x.program) st WriteInt (argument_then (int_argument v) no_arguments) None o calls (λ given. written_settles ks st.top.frame st.world None given))
    (λ next at stays.
    let g = is_given (code_for x.program) st next WriteInt (argument_then (int_argument v) no_arguments) None o calls (λ given. written_settles ks st.top.frame st.world None given) (acts_to x q before n o st w a next at) in
    let z = one_value ks st.top.frame st.world v g.given g.passed in
    let value = subst (λ k. value_in k st.top.frame st.world v ≡ Some z.0) (kinds_same x q before n o st w a) z.1 in
    let asked = one_asked x q before n o st w a WriteInt v None z.0 calls value in
    let ran = run (program_of x.image).image q n st next w o v a.matches at.runs at.there writes asked at.step in
    (ran.0, (λ e. subst (λ is. is_entered e is ≡ false) (sym ran.1.shown) refl), ran.1.more, ran.2))

are_bytes : (bytes : List ℕ) → AllByRecursion (λ b. b < 256) bytes → AreBytes bytes
are_bytes [] h = tt
are_bytes (b ∷ bytes) h = (h.0, are_bytes bytes h.1)

reads_one : (wants : Option Place) (o : LinearOp) → Reads wants o → CallsBuiltin ReadByte no_arguments wants o
reads_one wants o r = r.is

pub bytes_follow : BytesRun → BytesFollow
bytes_follow run x q before n wants o st w a reads =
    let ks = kinds (code_for x.program) st.top.function in
    let calls = reads_one wants o reads in
    stays_follow x q before n o st w a (builtin_stays (code_for x.program) st ReadByte no_arguments wants o calls (λ given. read_settles ks st.top.frame st.world wants given))
    (λ next at stays.
    let g = is_given (code_for x.program) st next ReadByte no_arguments wants o calls (λ given. read_settles ks st.top.frame st.world wants given) (acts_to x q before n o st w a next at) in
    let static = builtin_static q.unit (function q n) ReadByte no_arguments wants o calls (is_static x q before n o st w a) in
    let room = builtin_room (needs_for x.program) ((needs_for x.program) n) (function q n) ReadByte no_arguments wants o calls (reaches_there x q before n o st w a) in
    let does = subst (λ k. built_in k ReadByte wants g.given st.top.frame st.world ≡ goes g.frame g.world) (kinds_same x q before n o st w a) g.does in
    let asked = wanted_asked x q before n o st w a wants (byte_of st.world.input) _ g.world g.frame static.1 room a.matches.runtime.plan does in
    let bytes = are_bytes st.world.input a.stands.stands.world.given.bytes in
    let made : StepMade q st next q (length (linear_code (shape q n) o)) [] =
    inr (inr (inl (record { number = n; operation = o; at = at; wants = wants; reads = reads; bytes = bytes; asked = asked; plan = refl; turns = refl; nothing_shown = refl }))) in
    ([], (λ e. refl), step_items q q st next (length (linear_code (shape q n) o)) [] made, run (program_of x.image).image q n st next w o wants a.matches at.runs at.there reads bytes asked at.step))
