-- A forced unwind goes on from one of the runtime's own functions: what leads there, and what is known.
use Rattle.std.proofs.Common.{◌≡◌, ◌∙◌, refl, sym, ap, subst, arith, ℕ, suc, ◌+◌, ◌<◌, inl, inr, ℤ, true, false, List, [], ◌∷◌, ◌++◌, append-nil, Some}
use Rattle.cxa_runtime.specs.World as abi
use Rattle.region_forms.specs.World.{unwinding}
use Rattle.linear_forms.specs.Defined.{RunsAt}
use Rattle.linear_forms.specs.Linear.{plain, free, resume}
use Rattle.linear_forms.specs.Stub.{Function, compiled, end_catch, terminating, call_unexpected, linear, stub_op}
use Rattle.linear_forms.specs.Activation.{Activation, State, Code, goes_to, fetch, look}
use Rattle.linear_forms.specs.Machine.{step, exec, go_on}
use Rattle.linear_forms.specs.Pace.{pays, pays_at, paying}
use Rattle.linear_forms.specs.Forced.{force}
use Rattle.flight_homes.specs.Nest.{is_called_by, CallsNest}
use Rattle.linear_invariant.proofs.ForcedRuns.{forced_are_newest}
use Rattle.linear_invariant.proofs.Steps.{steps_stand}
use Rattle.machine_simulation.specs.Plan.{Plan}
use Rattle.own_ends.specs.Callers.{CalledBelow}
use Rattle.own_ends.specs.Resumes.{CatchFreesOnTheWay}
use Rattle.own_ends.specs.Unwinds.{OwnUnwind, last_state, last_items}
use Rattle.whole_runs.proofs.Counts.{quiet_then}
use Rattle.step_law.specs.Facts.{regions_for, code_for}
use Rattle.step_law.specs.Own.{StandsAt}
use Rattle.step_law.specs.OwnUnwindEnds.{GoesOut}
use Rattle.step_law.specs.Rows.{Run}
use Rattle.step_law.specs.Standing.{IsFounded}
use Rattle.step_law.proofs.Calm.{CalmSteps}
use Rattle.step_law.proofs.Keeping.{CalmAt}
use Rattle.step_law.proofs.OwnLeaving.{called_by, own_same, own_stands}
use Rattle.step_law.proofs.OwnUnwinds.{resumes_by, resumes_calmly}
use Rattle.step_law.proofs.Several.{forced_behind}

-- In a step or none the function is at its last operation, and what follows there follows.
pub record GoesOff (x : Run) (q : Plan) (f : Function) (z : ℤ) (st : State) (w : abi.World) : Type 0 where
  pub unwinds : OwnUnwind f q st w z
  pub called : CalledBelow st.frames
  pub slot : ℕ
  pub runs : RunsAt (code_for x.program) (last_state f st) (linear (resume slot))
  pub is : (last_state f st).top.frame.slots slot ≡ unwinding z
  pub more : ℕ → ℕ
  pub some : (n : ℕ) → 0 < n → 0 < more n
  pub one_more : (n : ℕ) → more (suc n) ≡ more n + 1
  pub calmly : (n : ℕ) (next : State) → CalmSteps (code_for x.program) n (last_state f st) next → CalmSteps (code_for x.program) (more n) st next
  pub paid : (n : ℕ) → paying (code_for x.program) (more n) st ≡ paying (code_for x.program) n (last_state f st)
  pub runs_on : (n : ℕ) → exec (code_for x.program) (more n) st ≡ exec (code_for x.program) n (last_state f st)
  pub shows : (last_state f st).world.items ≡ st.world.items ++ last_items f st

-- who called end_catch
called_below : (a : Activation) (fs : List Activation) → a.function ≡ end_catch → IsFounded a.function fs → CallsNest (a ∷ fs) → CalledBelow fs
called_below a [] is founded nest = let no : compiled founded.0 ≡ end_catch = sym founded.1 ∙ is in absurd (cc no)
called_below a (b ∷ fs) is founded nest = by b.function refl (subst (λ f. is_called_by f b.function ≡ true) is nest.0)
  where
    by : (g : Function) → b.function ≡ g → is_called_by end_catch g ≡ true → CalledBelow (b ∷ fs)
    by (compiled n) same h = inl (record { number = n; caller = b; others = fs; frames = refl; is = same })
    by end_catch same h = absurd (cc h)
    by terminating same h = absurd (cc h)
    by call_unexpected same h = inr (record { unexpected = b; others = fs; frames = refl; is = same; called = called_by b fs same founded nest.1 })

module _ (x : Run) (q : Plan) (before : ℕ) (z : ℤ) (st : State) (w : abi.World) (at : StandsAt x q before st w) where
  abbrev code : Code
  code = code_for x.program

  from_unexpected : GoesOut call_unexpected q st w z → GoesOff x q call_unexpected z st w
  from_unexpected h =
      let runs : RunsAt code st (linear (resume 4)) = ap (λ f. fetch code f st.top.place) h.0.rests.runs ∙ ap (stub_op call_unexpected) h.0.there in
      record {
        unwinds = (h.0, record { is = h.1; on = at.stands.forced z (forced_are_newest (regions_for x.program) x.carrying at.stands.steps 4 z st at.facts.fits (own_stands x q before st w at) runs h.1) });
        called = inl (called_by st.top st.frames h.0.rests.runs at.stands.founded at.stands.stands.stand.nest);
        slot = 4;
        runs = runs;
        is = h.1;
        more = λ n. n;
        some = λ n less. less;
        one_more = λ n. omega arith;
        calmly = λ n next rest. rest;
        paid = λ n. refl;
        runs_on = λ n. refl;
        shows = sym (append-nil st.world.items);
      }

  from_catch : CatchFreesOnTheWay → GoesOut end_catch q st w z → GoesOff x q end_catch z st w
  from_catch run h =
      let middle : State = last_state end_catch st in
      let first : RunsAt code st (linear (free 0)) = ap (λ f. fetch code f st.top.place) h.0.rests.runs ∙ ap (stub_op end_catch) h.0.place in
      let runs : RunsAt code middle (linear (resume 2)) = ap (λ f. fetch code f (st.top.place + 1)) h.0.rests.runs ∙ ap (λ p. stub_op end_catch (p + 1)) h.0.place in
      let one : step code st ≡ goes_to middle = subst (λ c. step c st ≡ goes_to middle) (own_same x q before st w at) (run.frees x.image q st w h.0) in
      let inv = own_stands x q before st w at in
      let last = steps_stand (regions_for x.program) x.carrying at.stands.steps st middle at.facts.fits inv one in
      record {
        unwinds = (
          h.0,
          record {
            is = h.1;
            on = forced_behind x at.facts at.stands.steps st middle inv one (calm first) w.unwinding at.stands.forced w.unwinding refl z
                (forced_are_newest (regions_for x.program) x.carrying (at.stands.steps + 1) 2 z middle at.facts.fits last runs h.1);
          },
        );
        called = called_below st.top st.frames h.0.rests.runs at.stands.founded at.stands.stands.stand.nest;
        slot = 2;
        runs = runs;
        is = h.1;
        more = λ n. suc n;
        some = λ n less. omega arith;
        one_more = λ n. omega arith;
        calmly = λ n next rest. (calm first, middle, one, rest);
        paid = λ n. quiet_then code n st middle (ap pays first) one;
        runs_on = λ n. ap (go_on (exec code n)) one;
        shows = refl;
      }
    where
      calm : RunsAt code st (linear (free 0)) → CalmAt code st
      calm first other also = let no : Some (linear (free 0)) ≡ Some (linear (plain other)) = sym first ∙ also in absurd (cc no)

  pub goes_off : CatchFreesOnTheWay → (f : Function) → GoesOut f q st w z → GoesOff x q f z st w
  goes_off run (compiled n) h = absurd h
  goes_off run end_catch h = from_catch run h
  goes_off run terminating h = absurd h
  goes_off run call_unexpected h = from_unexpected h

  module _ (f : Function) (g : GoesOff x q f z st w) where
    abbrev last : State
    last = last_state f st

    pub off_forces : step code last ≡ force code (look code last.top.function last.top.place) z last.top.function last.top.frame last.frames last.world
    off_forces = resumes_by code g.slot z last g.runs g.is

    pub off_calm : CalmAt code last
    off_calm = resumes_calmly code g.slot last g.runs

    pub off_quiet : pays_at code last ≡ false
    off_quiet = ap pays g.runs
