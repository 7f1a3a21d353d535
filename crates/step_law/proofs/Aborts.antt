-- The program aborts, in a whole run: where it terminates and no handler is called, and where terminate's handler returns.
use Rattle.std.proofs.Common.{◌≡◌, ◌∙◌, refl, sym, ap, subst, arith, ℕ, ◌+◌, ◌⊎◌, inl, inr, true, false, List, [], ◌∷◌, length, append-nil, None}
use Rattle.cxx_ast.specs.declared.name.Builtin.TheVariants.{Terminate}
use Rattle.cxa_runtime.specs.World as abi
use Rattle.eh_run.specs.Program.{program_of}
use Rattle.meaning_forms.specs.Outcome.{aborted}
use Rattle.region_forms.specs.Caught.{Entry}
use Rattle.region_forms.specs.Form.{no_arguments, make}
use Rattle.region_forms.specs.Effect.{terminates, is_full, rethrown, result_in}
use Rattle.linear_forms.specs.Linear.{LinearOp, plain, return}
use Rattle.linear_forms.specs.Stub.{terminating}
use Rattle.linear_forms.specs.Activation.{State, Code, Next, goes_to, finishes, kinds, terminated}
use Rattle.linear_forms.specs.Machine.{step}
use Rattle.linear_forms.specs.Operation.{act, performed, returned_with}
use Rattle.linear_forms.specs.Pace.{pays_at, linear_pays}
use Rattle.linear_forms.specs.UnitRun.{code_of}
use Rattle.machine_forms.specs.LinearCode.{linear_code}
use Rattle.machine_stubs.specs.Stretches.{stub_word}
use Rattle.machine_simulation.specs.Plan.{Plan, shape}
use Rattle.machine_exceptions.specs.Answers.{CallsBuiltin}
use Rattle.machine_exceptions.specs.Terminates.{IsNothing, TerminatesAtOnce, AtTerminating, TerminatesRun}
use Rattle.whole_runs.specs.Steps.{Ends}
use Rattle.whole_runs.proofs.Counts.{aborts_once, quiet_once}
use Rattle.whole_runs.proofs.Rounds.{pays_known, runs_end}
use Rattle.step_law.specs.Facts.{code_for}
use Rattle.step_law.specs.Rows.{Run, IsAt, FollowsIn, AbortsFollow, HandlersAbort}
use Rattle.step_law.proofs.At.{same_code, step_acts, step_at, own_end_paid}
use Rattle.step_law.proofs.Builtins.{builtin_is}
use Rattle.step_law.proofs.Returns.{OnlyUndefined, returned_only, undefined_breaks, result_stands}

module _ (x : Run) (q : Plan) (before n : ℕ) (o : LinearOp) (st : State) (w : abi.World) (at : IsAt x q before n o st w) where
  abbrev code : Code
  code = code_for x.program

  abbrev Terminates : Type 0
  Terminates = (step code st ≡ terminated st.world.installed.terminate_handler (st.top ∷ st.frames) st.world) × (linear_pays o ≡ false)

  rethrown_nothing : (xs : List Entry) → IsNothing xs → rethrown xs st.world ≡ terminates st.world.installed.terminate_handler st.world
  rethrown_nothing [] h = refl
  rethrown_nothing (y ∷ xs) h = rw (h) refl

  terminates_at : TerminatesAtOnce st.world o → Terminates
  terminates_at (inl calls) = let form = builtin_is Terminate no_arguments None o calls in
      (step_acts x q before n o st w at ∙ ap (λ y. act code y st.top st.frames st.world) form.1 ∙ ap (λ y. performed code y st.top st.frames st.world) (form.2 (kinds code st.top.function) st.top.frame st.world), unpaid calls)
    where
      unpaid : CallsBuiltin Terminate no_arguments None o → linear_pays o ≡ false
      unpaid (inl (d, some, is)) = absurd (cc some)
      unpaid (inr (inl (none, is))) = ap linear_pays is
      unpaid (inr (inr (none, is))) = ap linear_pays is
  terminates_at (inr (inl (s, is, full))) =
      (step_acts x q before n o st w at ∙ ap (λ y. act code y st.top st.frames st.world) is ∙ full_terminates s full, ap linear_pays is)
    where
      full_terminates : (s : ℕ) → is_full st.world ≡ true → act code (plain (make s)) st.top st.frames st.world ≡ terminated st.world.installed.terminate_handler (st.top ∷ st.frames) st.world
      full_terminates s full = rw (full) refl
  terminates_at (inr (inr (is, nothing))) =
      (step_acts x q before n o st w at ∙ ap (λ y. act code y st.top st.frames st.world) is ∙ ap (λ e. performed code e st.top st.frames st.world) (rethrown_nothing st.world.caught nothing), ap linear_pays is)

  named : (program_of x.image).image.places.terminate ≡ stub_word q.base terminating 0
  named = at.facts.named ∙ ap (λ b. stub_word b terminating 0) (sym at.stands.base)

  unpaid_at : linear_pays o ≡ false → pays_at (code_of q.unit) st ≡ false
  unpaid_at h = pays_known (program_of x.image).image x.pick q st w n o at.runs at.there ∙ h

  aborts_at : TerminatesRun → TerminatesAtOnce st.world o → (st.world.ending ≡ true) ⊎ (st.world.installed.terminate_handler ≡ None) → FollowsIn x before st w
  aborts_at run h none =
      let t = terminates_at h in
      let own = ap (λ c. step c st) (same_code x q before n o st w at) ∙ t.0 in
      let at_end : AtTerminating (program_of x.image).image q n st = record { operation = o; runs = at.runs; there = at.there; terminates = inl h; named = named } in
      let most : ℕ = length (linear_code (shape q n) o) + 10 in
      let ends = run.aborts (program_of x.image).image x.pick most q n st w at.matches at_end none (omega arith) in
      let once = aborts_once (code_of q.unit) st st.world.installed.terminate_handler (st.top ∷ st.frames) st.world (unpaid_at t.1) own none in
      inr (inl (subst (λ c. Ends (program_of x.image).image x.pick c st w) (same_code x q before n o st w at)
      (runs_end (program_of x.image).image x.pick q st w 3 most aborted ends.0.0 [] ends.0.1 once (own_end_paid x q before n o st w at most (omega arith)) (ends.0.2 ∙ sym (append-nil st.world.items))
      (λ k many. (run.aborts (program_of x.image).image x.pick k q n st w at.matches at_end none many).1))))

pub aborts_follow : TerminatesRun → AbortsFollow
aborts_follow run x q before n o st w at h none = aborts_at x q before n o st w at run h none

pub handlers_abort : TerminatesRun → HandlersAbort
handlers_abort run x q before n r a fs st w at frames callee = by (step (code_for x.program) st) refl
    (subst OnlyUndefined (sym acts) (returned_only (code_for x.program) (result_in r st.top.frame st.world (kinds (code_for x.program) st.top.function)) a fs st.world))
  where
    acts : step (code_for x.program) st ≡ returned_with (code_for x.program) (result_in r st.top.frame st.world (kinds (code_for x.program) st.top.function)) (a ∷ fs) st.world
    acts = step_acts x q before n (return r) st w at ∙ ap (λ gs. returned_with (code_for x.program) (result_in r st.top.frame st.world (kinds (code_for x.program) st.top.function)) gs st.world) frames

    by : (y : Next) → step (code_for x.program) st ≡ y → OnlyUndefined y → FollowsIn x before st w
    by (goes_to middle) e h =
        let result = result_stands x q before n (return r) st w at r refl in
        let st_at = step_at x q before n (return r) st w at middle e in
        let most : ℕ = length (linear_code (shape q n) (return r)) + 2 in
        let ends = run.aborts_behind (program_of x.image).image x.pick most q n st middle a fs r w at.matches st_at frames callee result (omega arith) in
        let once = quiet_once (code_of q.unit) st (unpaid_at x q before n (return r) st w at refl) in
        inr (inl (subst (λ c. Ends (program_of x.image).image x.pick c st w) (same_code x q before n (return r) st w at)
        (runs_end (program_of x.image).image x.pick q st w 2 most aborted ends.0.0 [] ends.0.1 once (own_end_paid x q before n (return r) st w at most (omega arith)) (ends.0.2 ∙ sym (append-nil st.world.items))
        (λ k many. (run.aborts_behind (program_of x.image).image x.pick k q n st middle a fs r w at.matches st_at frames callee result many).1))))
    by (finishes f v) e h = undefined_breaks x q before n (return r) st w at f v e h
