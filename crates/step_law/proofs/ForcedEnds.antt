-- Forced unwinds that go on from a compiled function, or begin there, and come to no landing pad, in a whole run: the program exits or aborts.
use Rattle.std.proofs.Common.{◌≡◌, ◌⊎◌, ◌∙◌, refl, sym, ap, subst, arith, ℕ, ◌+◌, ◌≤◌, inl, inr, ℤ, pos, Bool, true, false, List, [], ◌∷◌, length, append-nil, None}
use Rattle.cxx_ast.specs.declared.name.Builtin.TheVariants.{Cancel}
use Rattle.cxa_runtime.specs.Raising.{Image}
use Rattle.cxa_runtime.specs.World as abi
use Rattle.cxa_runtime.specs.declared.effect.End.TheVariants.{Exit}
use Rattle.eh_run.specs.Program.{program_of}
use Rattle.meaning_forms.specs.Outcome.{End, exit, aborted}
use Rattle.region_forms.specs.Form.{Value}
use Rattle.region_forms.specs.World.{unwinding, World}
use Rattle.linear_forms.specs.Linear.{LinearOp, resume}
use Rattle.linear_forms.specs.Stub.{terminating}
use Rattle.linear_forms.specs.Tables.{Cover, bare, unpadded, padded}
use Rattle.linear_forms.specs.Verdict.{has_cleanup}
use Rattle.linear_forms.specs.Activation.{Activation, State, Code, Next, goes_to, finishes, Final, by_program, not_defined, fetch, look, sense, terminated}
use Rattle.linear_forms.specs.Machine.{step}
use Rattle.linear_forms.specs.Operation.{resumed}
use Rattle.linear_forms.specs.Pace.{pays_at, linear_pays, after, tally, paying}
use Rattle.linear_forms.specs.Forced.{forced_by, forced_at, forced_above, force}
use Rattle.linear_forms.specs.UnitRun.{code_of}
use Rattle.linear_forms.proofs.Paces
use Rattle.linear_invariant.proofs.Landing.{no_pads}
use Rattle.machine_forms.specs.LinearCode.{linear_code}
use Rattle.machine_stubs.specs.Stretches.{stub_word}
use Rattle.machine_simulation.specs.Plan.{Plan, shape}
use Rattle.machine_raises.specs.Cancels.{Cancels}
use Rattle.raise_ends.specs.Ends.{BothAbort, RunEnds}
use Rattle.raise_ends.specs.Exits.{ForcedUnwindsExit}
use Rattle.raise_ends.specs.Barriers.{ForcedUnwindsTerminate}
use Rattle.raise_ends.specs.Unwinds.{BeginsUnwind, GoesOnUnwinding, AtUnwind}
use Rattle.whole_runs.specs.Steps.{Ends}
use Rattle.whole_runs.proofs.Counts.{aborts_once}
use Rattle.whole_runs.proofs.Rounds.{pays_known, runs_end}
use Rattle.whole_runs.proofs.Single.{ends_one}
use Rattle.step_law.specs.Facts.{code_for}
use Rattle.step_law.specs.ForcedEnds.{ForcedEndsFollow}
use Rattle.step_law.specs.Rows.{Run, IsAt, FollowsIn}
use Rattle.step_law.proofs.At.{same_code, step_acts, own_end_paid, end_paid}
use Rattle.step_law.proofs.Builtins.{one_asked}
use Rattle.step_law.proofs.Forced.{cancels_one, cancels_unpaid, begun}
use Rattle.step_law.proofs.Landing.{enters_pad}
use Rattle.step_law.proofs.Raises.{is_running, forced_asked}

-- ---- terminate is called for some of the open calls

module _ (code : Code) (z : ℤ) (w : World) (next : State) (ends : next.top.function ≡ terminating) where
  abbrev Terminates : Next → Type 0
  Terminates y = (gs : List Activation) × (y ≡ terminated w.installed.terminate_handler gs w)

  here : (a : Activation) (fs : List Activation) (rest : Next) → (rest ≡ goes_to next → Terminates rest) → (cv : Cover) → look code a.function a.place ≡ cv → forced_at code cv z a.function a.frame fs w rest ≡ goes_to next →
      Terminates (forced_at code cv z a.function a.frame fs w rest)
  here a fs rest on bare covers e = (record { function = a.function; place = 0; frame = a.frame } ∷ fs, refl)
  here a fs rest on unpadded covers e = on e
  here a fs rest on (padded p chain) covers e = by (has_cleanup (sense code a.function) chain) e
    where
      by : (b : Bool) → forced_by code b p z a.function a.frame fs w rest ≡ goes_to next → Terminates (forced_by code b p z a.function a.frame fs w rest)
      by true e =
          let pad = enters_pad (fetch code a.function p) (unwinding z) (pos 0) a.function p a.frame fs w next e in
          absurd (no_pads a.place p chain (ap (λ f. look code f a.place) (sym (sym pad.function ∙ ends)) ∙ covers))
      by false e = on e

  above : (fs : List Activation) → forced_above code z fs w ≡ goes_to next → Terminates (forced_above code z fs w)
  above [] e = absurd (cc e)
  above (a ∷ fs) e = here a fs (forced_above code z fs w) (above fs) (look code a.function a.place) refl e

  pub forced_terminates : (a : Activation) (fs : List Activation) → force code (look code a.function a.place) z a.function a.frame fs w ≡ goes_to next → Terminates (force code (look code a.function a.place) z a.function a.frame fs w)
  forced_terminates a fs e = here a fs (forced_above code z fs w) (above fs) (look code a.function a.place) refl e

-- a step that ends is one
pub finished_once : (code : Code) (st : State) (f : Final) (v : World) → step code st ≡ finishes f v → paying code 3 st ≤ 1
finished_once code st f v e = let one = Paces.one_at_most (pays_at code st) in let rest = ap (after (tally (pays_at code) code 2)) e in omega (arith, one, rest)

-- ---- rows

module _ (x : Run) (q : Plan) (before n : ℕ) (o : LinearOp) (st : State) (w : abi.World) (at : IsAt x q before n o st w) (k : ℤ) (unwinds : BeginsUnwind q n st o k ⊎ GoesOnUnwinding q n st w o k) where
  abbrev code : Code
  code = code_for x.program

  abbrev own : Code
  own = code_of q.unit

  abbrev image : Image
  image = (program_of x.image).image

  abbrev most : ℕ
  most = length (linear_code (shape q n) o)

  abbrev at_unwind : AtUnwind q n st w k
  at_unwind = record { operation = o; runs = at.runs; there = at.there; unwinds = unwinds }

  in_own : (z : Next) → step code st ≡ z → step own st ≡ z
  in_own z e = ap (λ c. step c st) (same_code x q before n o st w at) ∙ e

  exits_by : ForcedUnwindsExit → (z : ℤ) (v : World) → step code st ≡ finishes (by_program (exit z)) v → (j : ℕ) → most ≤ j → (z ≡ k) × (v ≡ st.world) × RunEnds image x.pick j w [] (Exit k)
  exits_by run z v e j many = run x.image x.pick j q n k z st v w at.matches (is_running x q before n o st w at) at_unwind (in_own (finishes (by_program (exit z)) v) e) many

  exits : ForcedUnwindsExit → (z : ℤ) (v : World) → step code st ≡ finishes (by_program (exit z)) v → FollowsIn x before st w
  exits run z v e =
      let first = exits_by run z v e most (omega arith) in
      inr (inl (ends_one image x.pick code st w (exit z) v [] e (ap (λ (u : World). u.items) first.1 ∙ sym (append-nil st.world.items)) (record {
        turns = most;
        shows = λ j many. (exits_by run z v e j many).2.0;
        ends = λ j many. (exits_by run z v e j many).2.1 ∙ ap Exit (sym first.0);
      }) (end_paid x q before n o st w at most (omega arith))))

  -- both abort
  both_abort : (turns : ℕ) → turns ≤ most + 64 → paying own 3 st ≤ 1 → ((j : ℕ) → turns ≤ j → BothAbort image x.pick j q st w []) → FollowsIn x before st w
  both_abort turns least once abort =
      let first = abort turns (omega arith) in
      inr (inl (subst (λ c. Ends image x.pick c st w) (same_code x q before n o st w at) (runs_end image x.pick q st w 3 turns aborted first.0.0 [] first.0.1 once (own_end_paid x q before n o st w at turns least) first.0.2 (λ j many. (abort j many).1))))

  aborts_again : ForcedUnwindsTerminate → (v : World) → step code st ≡ finishes (by_program aborted) v → FollowsIn x before st w
  aborts_again run v e =
      let goes = in_own (finishes (by_program aborted) v) e in
      both_abort most (omega arith) (finished_once own st (by_program aborted) v goes) (λ j many. run.aborts_again x.image x.pick j q n k st v w at.matches (is_running x q before n o st w at) at_unwind goes many)

  pub ends_by : ForcedUnwindsExit → ForcedUnwindsTerminate → (why : End) (v : World) → step code st ≡ finishes (by_program why) v → FollowsIn x before st w
  ends_by exit_run abort_run (exit z) v e = exits exit_run z v e
  ends_by exit_run abort_run aborted v e = aborts_again abort_run v e

  -- no handler is in effect
  pub aborts_without : ForcedUnwindsTerminate → linear_pays o ≡ false → (next : State) → step code st ≡ goes_to next → next.top.function ≡ terminating → st.world.installed.terminate_handler ≡ None →
      force code (look code st.top.function st.top.place) k st.top.function st.top.frame st.frames st.world ≡ goes_to next → FollowsIn x before st w
  aborts_without run unpaid next e ends none forces =
      let goes = in_own (goes_to next) e in
      let t = forced_terminates code k st.world next ends st.top st.frames forces in
      let quiet : pays_at own st ≡ false = pays_known image x.pick q st w n o at.runs at.there ∙ unpaid in
      let terminates = goes ∙ sym forces ∙ t.1 in
      let named : (program_of x.image).image.places.terminate ≡ stub_word q.base terminating 0 = at.facts.named ∙ ap (λ b. stub_word b terminating 0) (sym at.stands.base) in
      both_abort (most + 10) (omega arith) (aborts_once own st st.world.installed.terminate_handler t.0 st.world quiet terminates (inr none))
      (λ j many. run.aborts_without x.image x.pick j q n k st next w at.matches (is_running x q before n o st w at) at_unwind goes ends named none many)

module _ (x : Run) (q : Plan) (before n : ℕ) (o : LinearOp) (v : Value) (st : State) (w : abi.World) (at : IsAt x q before n o st w) (begins : Cancels v o) (z : Next) (e : step (code_for x.program) st ≡ z)
    (defined : finishes not_defined st.world ≡ z → ⊥) where
  pub begins_unwind : BeginsUnwind q n st o (begun x q before n o v st w at begins z e defined).number
  begins_unwind =
      let b = begun x q before n o v st w at begins z e defined in
      record { value = v; is = begins; asked = one_asked x q before n o st w at Cancel v None b.number (cancels_one v o begins) b.value; number = b.value }

pub forced_ends_follow : ForcedUnwindsExit → ForcedUnwindsTerminate → ForcedEndsFollow
forced_ends_follow run_exits run_aborts = record {
  resumed = λ x q before n s z why st v w at is e. ends_by x q before n (resume s) st w at z (inr (record { slot = s; is = refl; asked = forced_asked x q before n s st w at z is })) run_exits run_aborts why v e;
  cancelled = λ x q before n o value why st v w at begins e.
      let defined : finishes not_defined st.world ≡ finishes (by_program why) v → ⊥ = λ no. cc no in
      let b = begun x q before n o value st w at begins (finishes (by_program why) v) e defined in
      ends_by x q before n o st w at b.number (inl (begins_unwind x q before n o value st w at begins (finishes (by_program why) v) e defined)) run_exits run_aborts why v e;
  resumed_aborts = λ x q before n s z st next w at is e ends none.
      aborts_without x q before n (resume s) st w at z (inr (record { slot = s; is = refl; asked = forced_asked x q before n s st w at z is })) run_aborts refl next e ends none
      (sym (step_acts x q before n (resume s) st w at ∙ ap (λ y. resumed (code_for x.program) y st.top st.frames st.world) is) ∙ e);
  cancelled_aborts = λ x q before n o value st next w at begins e ends none.
      let defined : finishes not_defined st.world ≡ goes_to next → ⊥ = λ no. cc no in
      let b = begun x q before n o value st w at begins (goes_to next) e defined in
      aborts_without x q before n o st w at b.number (inl (begins_unwind x q before n o value st w at begins (goes_to next) e defined)) run_aborts (cancels_unpaid value o begins) next e ends none b.forces;
}
