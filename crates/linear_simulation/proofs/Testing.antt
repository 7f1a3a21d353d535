-- Branches and loops.
use Rattle.std.proofs.Common.{◌≡◌, ℕ, zero, suc, ◌+◌, ◌<◌, ◌≤◌, Bool, true, false, List, [], ◌∷◌, length, Option, Some, None, refl, ap, ◌∙◌, arith}
use Rattle.std.specs.Prelude.{ℤ, if◌then◌else◌}
use Rattle.meaning_forms.specs.Arithmetic.{is_zero}
use Rattle.region_forms.specs.Form.{Value}
use Rattle.region_forms.specs.World.{Frame}
use Rattle.region_forms.specs.Evaluation.{value_in}
use Rattle.region_forms.specs.Mentioned.{slots_of_value}
use Rattle.region_forms.specs.Outcome.{State as RegionState, Flow, normal, leaves, Result, done, stopped, Action, continued, pure, some, ◌>>=◌}
use Rattle.region_forms.specs.Ending.{Running, spend}
use Rattle.region_forms.specs.Meaning.{followed, value_of, loop_of}
use Rattle.linear_forms.specs.Linear.{jump_zero, label, jump}
use Rattle.linear_forms.specs.Stub.{compiled}
use Rattle.linear_forms.specs.Activation.{Code, Activation, goes_to, finishes, not_defined, at, compiled_op}
use Rattle.linear_forms.specs.Operation.{jumped_zero}
use Rattle.linear_forms.specs.Machine.{step}
use Rattle.linear_forms.specs.Sites.{Placed}
use Rattle.linear_forms.specs.Emission.{quiet, loop_code}
use Rattle.linear_forms.specs.Counted.{counts_at}
use Rattle.linear_forms.specs.Pace.{pays, pays_at}
use Rattle.linear_forms.specs.CodeRuns.{HasAt, Site, SameBelow, ExitsAt, Any, Runs, here, SameKinds}
use Rattle.linear_forms.proofs.Running
use Rattle.linear_forms.proofs.Slots
use Rattle.linear_simulation.proofs.Parts

module _ (code : Code) (most n : ℕ) (run : Running) (s : Site) (same_kinds : SameKinds code s.func n run) where
  -- a jump where a value is 0
  test_step : (p l q : ℕ) (v : Value) (f : Frame) (st : RegionState) → slots_of_value v ≤ n → SameBelow n st.frame f
      → code.op_at s.func p ≡ Some (jump_zero v l)
      → step code (here s p f st.world) ≡ jumped_zero code (value_in run.kinds st.frame st.world v) l (record { function = compiled s.func; place = p; frame = f }) s.frames st.world
  test_step p l q v f st le same e =
      Running.step_at code most n s p f st.world (jump_zero v l) e ∙
      ap (λ x. jumped_zero code x l (record { function = compiled s.func; place = p; frame = f }) s.frames st.world)
      (Slots.value_same n run.kinds (code.kinds_at s.func) same_kinds st.frame f same st.world v le)

  -- what follows a test: the jump where the value is 0, the next place where it is not
  pub tested : {c : ℕ} {L : ExitsAt} {p' : ℕ} (p l q : ℕ) (v : Value) (f : Frame) (st : RegionState) (a b : Action Flow) → slots_of_value v ≤ n → SameBelow n st.frame f
      → code.op_at s.func p ≡ Some (jump_zero v l) → code.label_at s.func l ≡ q
      → Runs code most n c Any L s p' (here s q f st.world) st.turns (a st)
      → Runs code most n c Any L s p' (here s (p + 1) f st.world) st.turns (b st)
      → Runs code most n (c + 1) Any L s p' (here s p f st.world) st.turns (continued (value_of run v st) (λ x. if is_zero x then a else b))
  tested {c} {L} {p'} p l q v f st a b le same op to ra rb = go (value_in run.kinds st.frame st.world v) (test_step p l q v f st le same op)
    where
      act : Activation
      act = record { function = compiled s.func; place = p; frame = f }

      quiet_test : counts_at code (here s p f st.world) ≡ false
      quiet_test = Running.test_quiet code most n s p v l f st.world op

      side : (y : Bool) → step code (here s p f st.world) ≡ (if y then at (compiled s.func) (code.label_at s.func l) f s.frames st.world else at (compiled s.func) (p + 1) f s.frames st.world)
          → Runs code most n (c + 1) Any L s p' (here s p f st.world) st.turns ((if y then a else b) st)
      side true e =
          Running.runs_slower code most n (c + 1) (omega arith)
          (Running.runs_after code most n (Running.free_step code most n st.turns (e ∙ ap (λ z. at (compiled s.func) z f s.frames st.world) to) quiet_test) ra)
      side false e = Running.runs_slower code most n (c + 1) (omega arith) (Running.runs_after code most n (Running.free_step code most n st.turns e quiet_test) rb)

      go : (x : Option ℤ) → step code (here s p f st.world) ≡ jumped_zero code x l act s.frames st.world
          → Runs code most n (c + 1) Any L s p' (here s p f st.world) st.turns (continued (some x st) (λ x. if is_zero x then a else b))
      go None e = record {
        next = finishes not_defined st.world;
        reaches = Running.slower code most n (c + 1) (omega arith) (Running.free_step code most n st.turns e quiet_test);
        meets = refl;
      }
      go (Some z) e = side (is_zero z) e

  -- what follows a loop's test, which pays for a turn
  turned : {L : ExitsAt} {p' : ℕ} (p l : ℕ) (v : Value) (f : Frame) (st : RegionState) (a b : Action Flow) → 1 ≤ most → slots_of_value v ≤ n → SameBelow n st.frame f
      → code.op_at s.func p ≡ Some (jump_zero v l)
      → (step code (here s p f st.world) ≡ at (compiled s.func) (code.label_at s.func l) f s.frames st.world → Runs code most n 0 Any L s p' (here s p f st.world) (suc st.turns) (a st))
      → (step code (here s p f st.world) ≡ at (compiled s.func) (p + 1) f s.frames st.world → Runs code most n 0 Any L s p' (here s p f st.world) (suc st.turns) (b st))
      → Runs code most n 0 Any L s p' (here s p f st.world) (suc st.turns) (continued (value_of run v st) (λ x. if is_zero x then a else b))
  turned {L} {p'} p l v f st a b room le same op ra rb = go (value_in run.kinds st.frame st.world v) (test_step p l p v f st le same op)
    where
      act : Activation
      act = record { function = compiled s.func; place = p; frame = f }

      side : (y : Bool) → step code (here s p f st.world) ≡ (if y then at (compiled s.func) (code.label_at s.func l) f s.frames st.world else at (compiled s.func) (p + 1) f s.frames st.world)
          → Runs code most n 0 Any L s p' (here s p f st.world) (suc st.turns) ((if y then a else b) st)
      side true e = ra e
      side false e = rb e

      go : (x : Option ℤ) → step code (here s p f st.world) ≡ jumped_zero code x l act s.frames st.world
          → Runs code most n 0 Any L s p' (here s p f st.world) (suc st.turns) (continued (some x st) (λ x. if is_zero x then a else b))
      go None e = record {
        next = finishes not_defined st.world;
        reaches = Running.last_turn code most n st.turns e (ap (λ z. pays (compiled_op z)) op) room;
        meets = refl;
      }
      go (Some z) e = side (is_zero z) e

  -- a loop, whose test pays for the turn of its round
  module _ (b0 fuel : ℕ) (small : b0 + 3 ≤ most) (L : ExitsAt) (v : Value) (le : slots_of_value v ≤ n) (body : Action Flow) (l p : ℕ) (bc : List Placed)
      (has : HasAt code s.func p (loop_code v l bc))
      (rb : (f : Frame) (st : RegionState) → SameBelow n st.frame f → st.turns < fuel
      → Runs code most n b0 Any L s (p + 1 + 1 + length bc) (here s (p + 1 + 1) f st.world) st.turns (body st)) where
    abbrev last : ℕ
    last = p + 1 + 1 + length bc

    at_last : HasAt code s.func last (quiet (jump (l + 1)) ∷ quiet (label l) ∷ [])
    at_last = Parts.has_back code s.func (p + 1 + 1) bc (quiet (jump (l + 1)) ∷ quiet (label l) ∷ []) has.3.3

    abbrev LoopRuns : ℕ → Type 0
    LoopRuns k = (f : Frame) (st : RegionState) → SameBelow n st.frame f → st.turns < k → st.turns < fuel
        → Runs code most n 1 Any L s (last + 1) (here s p f st.world) st.turns (loop_of k (value_of run v) body st)

    turn_runs : (k : ℕ) (f : Frame) (st : RegionState) (t : ℕ) → SameBelow n st.frame f → LoopRuns k → t < suc k → t < fuel
        → Runs code most n 1 Any L s (last + 1) (here s p f st.world) t
        (continued (spend t st) (λ u. value_of run v >>= (λ z. if is_zero z then pure normal else (body >>= followed (loop_of k (value_of run v) body)))))
    turn_runs k f st zero same next lt le2 =
        record {
          next = goes_to (here s (p + 1) f st.world);
          reaches = Running.free_step code most n 0 (Parts.label_step code most n s p (l + 1) f st.world has.0) (Running.label_quiet code most n s p (l + 1) f st.world has.0);
          meets = (here s (p + 1) f st.world, refl, refl, ap (λ z. pays (compiled_op z)) has.3.0);
        }
    turn_runs k f st (suc t) same next lt le2 =
        let st1 : RegionState = record st { turns = t } in
        let rounds = turned {L = L} {p' = last + 1} (p + 1) l v f st1 (pure normal) (body >>= followed (loop_of k (value_of run v) body)) (omega (arith, small)) le same has.3.0
        ended (λ e. round e (body st1) (rb f st1 same (omega (arith, le2)))) in
        Running.runs_slower code most n 1 (omega arith) (Running.runs_after code most n
        (Running.free_step code most n (suc t) (Parts.label_step code most n s p (l + 1) f st.world has.0) (Running.label_quiet code most n s p (l + 1) f st.world has.0)) rounds)
      where
        pay : pays_at code (here s (p + 1) f st.world) ≡ true
        pay = ap (λ z. pays (compiled_op z)) has.3.0

        quiet_test : counts_at code (here s (p + 1) f st.world) ≡ false
        quiet_test = Running.test_quiet code most n s (p + 1) v l f st.world has.3.0

        ended : step code (here s (p + 1) f st.world) ≡ at (compiled s.func) (code.label_at s.func l) f s.frames st.world
            → Runs code most n 0 Any L s (last + 1) (here s (p + 1) f st.world) (suc t) (done normal (record st { turns = t }))
        ended e = record {
          next = goes_to (here s (last + 1) f st.world);
          reaches = Running.last_turn code most n t (e ∙ ap (λ z. at (compiled s.func) z f s.frames st.world) at_last.3.2) pay (omega (arith, small));
          meets = (f, same, tt, refl);
        }

        -- a round, which may turn back: its turn pays for the jump too
        round : step code (here s (p + 1) f st.world) ≡ at (compiled s.func) (p + 1 + 1) f s.frames st.world → (r : Result Flow)
            → Runs code most n b0 Any L s last (here s (p + 1 + 1) f st.world) t r
            → Runs code most n 0 Any L s (last + 1) (here s (p + 1) f st.world) (suc t) (continued r (followed (loop_of k (value_of run v) body)))
        round e (done normal st2) r =
            let x = r.meets in
            let fewer = r.reaches.falls in
            let rest = next x.0 st2 x.1 (omega (arith, fewer, lt)) (omega (arith, fewer, le2)) in
            record {
              next = rest.next;
              reaches = Running.turn_round code most n t e pay quiet_test (Running.reaches_to code most n x.3 r.reaches)
                  (Parts.jump_step code most n s last (l + 1) p x.0 st2.world at_last.0 has.2) rest.reaches (omega (arith, small));
              meets = rest.meets;
            }
        round e (done (leaves j) st2) r = record { next = r.next; reaches = Running.turn_step code most n t e pay r.reaches (omega (arith, small)); meets = r.meets }
        round e (stopped y st2) r = record {
          next = r.next;
          reaches = Running.turn_step code most n t e pay r.reaches (omega (arith, small));
          meets = Running.stop_meets code most n Any Any L L s last (last + 1) y st2 r.next r.meets;
        }

    pub loop_runs : (k : ℕ) → LoopRuns k
    loop_runs zero f st same lt le2 = absurd (omega (arith, lt))
    loop_runs (suc k) f st same lt le2 = turn_runs k f st st.turns same (loop_runs k) lt le2
