-- How call_unexpected comes to one of its `leave`s, and what is known there.
use Rattle.std.proofs.Common.{◌≡◌, ◌∙◌, refl, sym, ap, subst, arith, ℕ, suc, ◌+◌, ◌<◌, inl, inr, pos, true, false, List, [], ◌∷◌, Some, ◌≤◌}
use Rattle.cxa_runtime.specs.Raising.{Image}
use Rattle.cxa_runtime.specs.World as abi
use Rattle.eh_run.specs.Program.{program_of}
use Rattle.region_forms.specs.Effect.{effect}
use Rattle.region_forms.specs.Form.{leave}
use Rattle.linear_forms.specs.Defined.{RunsAt}
use Rattle.linear_forms.specs.Linear.{plain, jump_filter}
use Rattle.linear_forms.specs.Stub.{Function, compiled, end_catch, terminating, call_unexpected, linear, stub_op}
use Rattle.linear_forms.specs.Activation.{Activation, State, Code, Next, goes_to, fetch, kinds}
use Rattle.linear_forms.specs.Machine.{act_on, step, exec, go_on}
use Rattle.linear_forms.specs.Pace.{pays, pays_at, paying}
use Rattle.linear_forms.specs.UnitRun.{code_of}
use Rattle.flight_homes.specs.Lives.{known_in}
use Rattle.flight_homes.specs.Nest.{is_called_by, CallsNest}
use Rattle.linear_invariant.specs.Calls.{unmarked}
use Rattle.linear_invariant.specs.Stands.{StandsIn}
use Rattle.machine_pieces.specs.Turning.{Turns}
use Rattle.machine_pieces.proofs.Turning.{no_turns}
use Rattle.machine_simulation.specs.Plan.{Plan}
use Rattle.machine_exceptions.proofs.CatchSteps.{in_catch, no_words}
use Rattle.stub_landings.specs.Rests.{ChecksThrown, LeavesOn, Rests}
use Rattle.own_ends.specs.Callers.{CalledBy}
use Rattle.own_ends.specs.Canceled.{CanceledLeaves}
use Rattle.own_ends.specs.Leaving.{IsLeaving as IsAtLeave, Leaving}
use Rattle.whole_runs.proofs.Counts.{quiet_then}
use Rattle.whole_runs.proofs.Spending.{own_spends}
use Rattle.cost_turns.specs.Weights.{is_own}
use Rattle.cost_words.specs.Spends.{spends}
use Rattle.step_law.specs.Facts.{regions_for, code_for}
use Rattle.step_law.specs.Own.{StandsAt}
use Rattle.step_law.specs.OwnLeaves.{IsLeaving}
use Rattle.step_law.specs.Rows.{Run}
use Rattle.step_law.specs.Standing.{IsFounded}
use Rattle.step_law.proofs.Calm.{CalmSteps}
use Rattle.step_law.proofs.Facing.{code_same}
use Rattle.step_law.proofs.Keeping.{CalmAt, IsCalm, unmarked_stands}

-- the newest call at a place
abbrev pub at_place : ℕ → State → State
at_place p st = record { top = record { function = st.top.function; place = p; frame = st.top.frame }; frames = st.frames; world = st.world }

-- In a step or none, and in some turns, call_unexpected is at a `leave`, and what follows there follows.
pub record Comes (x : Run) (q : Plan) (st : State) (w : abi.World) : Type 0 where
  pub place : ℕ
  pub word : ℕ
  pub there : abi.World
  pub turns : ℕ
  pub turned : Turns (program_of x.image).image turns w there []
  pub leaving : Leaving q place word (at_place place st) there
  pub runs : st.top.function ≡ call_unexpected
  pub more : ℕ → ℕ
  pub some : (n : ℕ) → 0 < n → 0 < more n
  pub one_more : (n : ℕ) → more (suc n) ≡ more n + 1
  pub calmly : (n : ℕ) (next : State) → CalmSteps (code_for x.program) n (at_place place st) next → CalmSteps (code_for x.program) (more n) st next
  pub paid : (n : ℕ) → paying (code_for x.program) (more n) st ≡ paying (code_for x.program) n (at_place place st)
  pub runs_on : (n : ℕ) → exec (code_for x.program) (more n) st ≡ exec (code_for x.program) n (at_place place st)
  pub few : turns + 24 ≤ spends (code_for x.program) 1 st

-- who called it
pub called_by : (a : Activation) (fs : List Activation) → a.function ≡ call_unexpected → IsFounded a.function fs → CallsNest (a ∷ fs) → CalledBy fs
called_by a [] is founded nest = let no : compiled founded.0 ≡ call_unexpected = sym founded.1 ∙ is in absurd (cc no)
called_by a (b ∷ fs) is founded nest = by b.function refl (subst (λ f. is_called_by f b.function ≡ true) is nest.0)
  where
    by : (g : Function) → b.function ≡ g → is_called_by call_unexpected g ≡ true → CalledBy (b ∷ fs)
    by (compiled n) same h = record { number = n; caller = b; others = fs; frames = refl; is = same }
    by end_catch same h = absurd (cc h)
    by terminating same h = absurd (cc h)
    by call_unexpected same h = absurd (cc h)

module _ (x : Run) (q : Plan) (before : ℕ) (st : State) (w : abi.World) (at : StandsAt x q before st w) where
  abbrev code : Code
  code = code_for x.program

  abbrev image : Image
  image = (program_of x.image).image

  pub own_same : code_of q.unit ≡ code
  own_same = code_same x q before st w at.facts at.stands

  pub own_step : (a : State) (z : Next) → step (code_of q.unit) a ≡ z → step code a ≡ z
  own_step a z e = ap (λ c. step c a) (sym own_same) ∙ e

  pub own_stands : StandsIn (unmarked (known_in (regions_for x.program))) code x.carrying at.stands.steps st
  own_stands = unmarked_stands x.program x.image x.carrying x.tables q before st w at.stands

  comes_at : (place word : ℕ) → stub_op call_unexpected place ≡ Some (linear (plain leave)) → st.top.place ≡ place → Leaving q place word st w → st.top.function ≡ call_unexpected → Comes x q st w
  comes_at place word op is leaving runs = record {
    place = place;
    word = word;
    there = w;
    turns = 0;
    turned = no_turns image w;
    leaving = subst (λ p. Leaving q place word (at_place p st) w) is leaving;
    runs = runs;
    more = λ n. n;
    some = λ n h. h;
    one_more = λ n. omega arith;
    calmly = λ n next h. subst (λ p. CalmSteps code n (at_place p st) next) (sym is) h;
    paid = λ n. ap (λ p. paying code n (at_place p st)) is;
    runs_on = λ n. ap (λ p. exec code n (at_place p st)) is;
    few = own_spends code st (linear (plain leave)) 24 (ap is_own runs) (ap (λ f. fetch code f st.top.place) runs ∙ ap (stub_op call_unexpected) is ∙ op) (omega arith);
  }

  canceled : CanceledLeaves → (h : ChecksThrown q st w) → h.filter ≡ pos 0 → Comes x q st w
  canceled run h none =
      let law = run image q st w h none in
      let one : step code st ≡ goes_to (at_place 16 st) = own_step st (goes_to (at_place 16 st)) law.0 in
      let op : RunsAt code st (linear (jump_filter 5 (pos 0) 16)) = ap (λ f. fetch code f st.top.place) h.rests.runs ∙ ap (stub_op call_unexpected) h.place in
      record {
        place = 16;
        word = 57;
        there = law.1.after;
        turns = law.1.turns;
        turned = law.1.runs;
        leaving = inr (inr law.1.holds);
        runs = h.rests.runs;
        more = λ n. suc n;
        some = λ n some. omega arith;
        one_more = λ n. omega arith;
        calmly = λ n next rest. (calm op, at_place 16 st, one, rest);
        paid = λ n. quiet_then code n st (at_place 16 st) (ap pays op) one;
        runs_on = λ n. ap (go_on (exec code n)) one;
        few = own_spends code st (linear (jump_filter 5 (pos 0) 16)) (law.1.turns + 24) (ap is_own h.rests.runs) op (omega (arith, law.1.few));
      }
    where
      calm : RunsAt code st (linear (jump_filter 5 (pos 0) 16)) → CalmAt code st
      calm op other also = let same : Some (linear (jump_filter 5 (pos 0) 16)) ≡ Some (linear (plain other)) = sym op ∙ also in absurd (cc same)

  pub comes : CanceledLeaves → IsLeaving q st w → Comes x q st w
  comes run (inl h) = comes_at 15 55 refl h.place (inl (h, refl, refl)) h.rests.runs
  comes run (inr (inl h)) = comes_at 16 57 refl h.there (inr (inl (h, refl, refl))) h.rests.runs
  comes run (inr (inr h)) = canceled run h.0 h.1

  module _ (c : Comes x q st w) where
    abbrev here : State
    here = at_place c.place st

    pub which : IsAtLeave c.place c.word
    which = by c.leaving
      where
        by : Leaving q c.place c.word here c.there → IsAtLeave c.place c.word
        by (inl h) = inl (h.1, h.2)
        by (inr (inl h)) = inr (h.1, h.2)
        by (inr (inr h)) = h.which

    op_there : RunsAt code here (linear (plain leave))
    op_there = ap (λ f. fetch code f c.place) c.runs ∙ by which
      where
        by : IsAtLeave c.place c.word → stub_op call_unexpected c.place ≡ Some (linear (plain leave))
        by (inl h) = ap (stub_op call_unexpected) h.0
        by (inr h) = ap (stub_op call_unexpected) h.0

    abbrev pub catch_first : State
    catch_first = in_catch here 0 no_words st.world

    pub own_begins : step code here ≡ goes_to catch_first
    own_begins = ap (λ o. act_on code o here.top here.frames here.world) op_there

    pub own_quiet : pays_at code here ≡ false
    own_quiet = ap pays op_there

    pub own_calm : CalmAt code here
    own_calm other also =
        let same : Some (linear (plain leave)) ≡ Some (linear (plain other)) = sym op_there ∙ also in
        let one : leave ≡ other = cc same in subst (λ y. IsCalm (effect (kinds code here.top.function) y here.top.frame here.world)) one tt

    pub own_called : CalledBy st.frames
    own_called = called_by st.top st.frames c.runs at.stands.founded at.stands.stands.stand.nest

-- behind it call_unexpected rests
pub rests_behind : (p : Plan) (place word : ℕ) (next : State) (u : abi.World) → IsAtLeave place word → LeavesOn p word (place + 1) next u → Rests p next u
rests_behind p place word next u (inl at) h = inr (inr (inr (inr (inl (subst (λ k. LeavesOn p k 16 next u) at.1 (subst (λ i. LeavesOn p word (i + 1) next u) at.0 h))))))
rests_behind p place word next u (inr at) h = inr (inr (inr (inr (inr (subst (λ k. LeavesOn p k 17 next u) at.1 (subst (λ i. LeavesOn p word (i + 1) next u) at.0 h))))))
