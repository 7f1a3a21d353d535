-- Behind the cleanup of a pad: what comes out of it, and how the exception or the forced unwind goes on.
use Rattle.std.proofs.Common.{◌≡◌, ℕ, ◌+◌, ◌<◌, inl, inr, Bool, true, false, List, Option, Some, None, refl, sym, ap, ◌∙◌, subst, arith}
use Rattle.std.specs.Prelude.{ℤ, ◌==◌}
use Rattle.std.proofs.lemmas.Bool.Decides.{nat_tests}
use Rattle.meaning_forms.specs.Outcome.{Stop, thrown, cancelled, ended, undefined, out_of_turns, deep}
use Rattle.region_forms.specs.World.{flying, unwinding, Frame, World, type_at}
use Rattle.region_forms.specs.Guard.{Guard}
use Rattle.region_forms.specs.Outcome.{State as RegionState, Result, done, stopped, continued, stop}
use Rattle.region_forms.specs.Ending.{Running, after_barrier}
use Rattle.linear_forms.specs.Linear.{resume}
use Rattle.linear_forms.specs.Tables.{bare}
use Rattle.linear_forms.specs.Stub.{compiled}
use Rattle.linear_forms.specs.Activation.{Code, Activation, State, Next, goes_to, look}
use Rattle.linear_forms.specs.Operation.{resumed}
use Rattle.linear_forms.specs.Search.{found}
use Rattle.linear_forms.specs.Unwinding.{unwind}
use Rattle.linear_forms.specs.Forced.{force}
use Rattle.linear_forms.specs.Machine.{step}
use Rattle.linear_forms.specs.Emission.{Emitting}
use Rattle.linear_forms.specs.Pace.{Paced}
use Rattle.linear_forms.specs.CodeRuns.{Site, SameBelow, ExitsAt, Any, Runs, here, context_of}
use Rattle.linear_forms.proofs.Running
use Rattle.linear_simulation.specs.Watched.{same_type, still, kept_type}
use Rattle.linear_simulation.specs.Comes.{turns_at, Comes, goes_on, IsEnd, BackOrEnd, CallsRun}
use Rattle.linear_simulation.proofs.Coming
use Rattle.linear_simulation.proofs.Operations

same_number : (a b : ℕ) → (a == b) ≡ true → b ≡ a
same_number a b e = grind (arith, nat_tests)

pub same_type_is : (a b : Option ℕ) → same_type a b ≡ true → b ≡ a
same_type_is None None e = refl
same_type_is None (Some u) e = absurd (cc e)
same_type_is (Some t) None e = absurd (cc e)
same_type_is (Some t) (Some u) e = ap (λ x. Some x) (same_number t u e)

-- what comes out where there is no site
module _ (code : Code) (most fuel : ℕ) (run : Running) (calls_run : CallsRun code most fuel run) where
  pub barred : {m : State} {t c : ℕ} (x0 : Frame) (a : Activation) (fs : List Activation) (gs : List Guard) → look code a.function a.place ≡ bare → t < fuel → (r : Result (Unit {0}))
      → Comes code most x0 a fs (goes_on x0 a fs) m t r c → BackOrEnd code most x0 a fs m t (after_barrier run (context_of gs a fs) r) (c + 2)
  barred {c = c} x0 a fs gs lo lt (done v st) k =
      inl (st, refl, k.comes.0, Running.slower code most 0 (c + 2) (omega arith) (Running.reaches_to code most 0 k.comes.1 k.reaches))
  barred x0 a fs gs lo lt (stopped (thrown e) st) k =
      let no = sym (ap (λ y. found code a.function y (type_at st.world e) fs) lo) ∙ k.comes.1 in absurd (cc no)
  barred x0 a fs gs lo lt (stopped (cancelled z) st) k =
      inr (Coming.terminate_ends code most fuel run calls_run st.world.installed.terminate_handler (record { function = a.function; place = 0; frame = a.frame }) fs gs st
      (omega (arith, k.reaches.falls, lt))
      (Running.reaches_to code most 0 (k.comes.1 ∙ ap (λ y. force code y z a.function a.frame fs st.world) lo) k.reaches))
  barred {c = c} x0 a fs gs lo lt (stopped (ended e) st) k =
      inr (record { why = ended e; state = st; is = refl; next = k.next; reaches = Running.slower code most 0 (c + 2) (omega arith) k.reaches; ends = k.comes })
  barred {c = c} x0 a fs gs lo lt (stopped undefined st) k =
      inr (record { why = undefined; state = st; is = refl; next = k.next; reaches = Running.slower code most 0 (c + 2) (omega arith) k.reaches; ends = k.comes })
  barred {c = c} x0 a fs gs lo lt (stopped out_of_turns st) k =
      inr (record { why = out_of_turns; state = st; is = refl; next = k.next; reaches = Running.slower code most 0 (c + 2) (omega arith) k.reaches; ends = k.comes })
  barred {c = c} x0 a fs gs lo lt (stopped deep st) k =
      inr (record { why = deep; state = st; is = refl; next = k.next; reaches = Running.slower code most 0 (c + 2) (omega arith) k.reaches; ends = k.comes })

module _ (code : Code) (most n : ℕ) (em : Emitting) (s : Site) where
  -- the interrupted raise or forced unwind goes on from where the pad resumes
  pub resume_flying : (q e t : ℕ) (x : Frame) (w : World) → code.op_at s.func q ≡ Some (resume em.object) → code.cover_at s.func q ≡ s.cover
      → x.slots em.object ≡ flying e t → step code (here s q x w) ≡ unwind code s.cover t e (compiled s.func) x s.frames w
  resume_flying q e t x w op cov slot =
      Running.step_at code most n s q x w (resume em.object) op ∙
      ap (λ y. resumed code y (record { function = compiled s.func; place = q; frame = x }) s.frames w) slot ∙
      ap (λ y. unwind code y t e (compiled s.func) x s.frames w) cov

  pub resume_forced : (q : ℕ) (k : ℤ) (x : Frame) (w : World) → code.op_at s.func q ≡ Some (resume em.object) → code.cover_at s.func q ≡ s.cover
      → x.slots em.object ≡ unwinding k → step code (here s q x w) ≡ force code s.cover k (compiled s.func) x s.frames w
  resume_forced q k x w op cov slot =
      Running.step_at code most n s q x w (resume em.object) op ∙
      ap (λ y. resumed code y (record { function = compiled s.func; place = q; frame = x }) s.frames w) slot ∙
      ap (λ y. force code y k (compiled s.func) x s.frames w) cov

  end_kept : {c : ℕ} {L : ExitsAt} {m : State} {t p' : ℕ} (ty : Option ℕ) (e : ℕ) (x : Stop) (st : RegionState) (y : Next)
      → Paced code most m t y (turns_at x st) c → IsEnd code x st y
      → Runs code most n c Any L s p' m t (kept_type ty (continued {A = Unit {0}} (stopped x st) (λ u. stop (thrown e))))
  end_kept ty e (thrown f) st y r h = absurd h
  end_kept ty e (cancelled k) st y r h = absurd h
  end_kept ty e (ended z) st y r h = record { next = y; reaches = r; meets = h }
  end_kept ty e undefined st y r h = record { next = y; reaches = r; meets = h }
  end_kept ty e out_of_turns st y r h = record { next = y; reaches = r; meets = h }
  end_kept ty e deep st y r h = record { next = y; reaches = r; meets = h }

  -- behind a pad's cleanup the exception goes on, if it has its type
  pub thrown_on : {c : ℕ} {L : ExitsAt} {m : State} {t p' : ℕ} (e tg : ℕ) (ty : Option ℕ) (q : ℕ) (x0 x : Frame) (r : Result (Unit {0}))
      → found code (compiled s.func) s.cover ty s.frames ≡ Some tg → code.op_at s.func (q + 1) ≡ Some (resume em.object) → code.cover_at s.func (q + 1) ≡ s.cover
      → x.slots em.object ≡ flying e tg → SameBelow n x0 x
      → BackOrEnd code most x0 (record { function = compiled s.func; place = q; frame = x }) s.frames m t r c
      → Runs code most n (c + 1) Any L s p' m t (kept_type ty (continued r (λ u. stop (thrown e))))
  thrown_on {c} {L} {m} {t} {p'} e tg ty q x0 x r fd op cov slot same (inr k) =
      subst (λ z. Runs code most n (c + 1) Any L s p' m t (kept_type ty (continued z (λ u. stop (thrown e))))) (sym k.is)
      (end_kept {L = L} ty e k.why k.state k.next (Running.slower code most n (c + 1) (omega arith) k.reaches) k.ends)
  thrown_on {c} {L} {m} {t} {p'} e tg ty q x0 x r fd op cov slot same (inl (st, is, fr, re)) =
      subst (λ z. Runs code most n (c + 1) Any L s p' m t (kept_type ty (continued z (λ u. stop (thrown e))))) (sym is)
      (go (same_type ty (type_at st.world e)) refl)
    where
      go : (b : Bool) → same_type ty (type_at st.world e) ≡ b → Runs code most n (c + 1) Any L s p' m t (still b e st)
      go false h = record {
        next = goes_to (here s (q + 1) x st.world);
        reaches = Running.slower code most n (c + 1) (omega arith) re;
        meets = (here s (q + 1) x st.world, refl, refl);
      }
      go true h = record {
        next = unwind code s.cover tg e (compiled s.func) x s.frames st.world;
        reaches = Coming.on_step code most re (resume_flying (q + 1) e tg x st.world op cov slot) (Running.uncounted code most n s (q + 1) x st.world (resume em.object) op refl);
        meets = (
          tg,
          x,
          ap (λ y. found code (compiled s.func) s.cover y s.frames) (same_type_is ty (type_at st.world e) h) ∙ fd,
          subst (λ y. SameBelow n y x) (sym fr) same,
          refl,
        );
      }

  -- so does a forced unwind
  pub cancelled_on : {c : ℕ} {L : ExitsAt} {m : State} {t p' : ℕ} (k : ℤ) (q : ℕ) (x0 x : Frame) (r : Result (Unit {0}))
      → code.op_at s.func (q + 1) ≡ Some (resume em.object) → code.cover_at s.func (q + 1) ≡ s.cover
      → x.slots em.object ≡ unwinding k → SameBelow n x0 x
      → BackOrEnd code most x0 (record { function = compiled s.func; place = q; frame = x }) s.frames m t r c
      → Runs code most n (c + 1) Any L s p' m t (continued r (λ u. stop (cancelled k)))
  cancelled_on {c} {L} {m} {t} {p'} k q x0 x r op cov slot same (inr e) =
      Operations.end_all code most n {L = L} (λ u. stop (cancelled k)) (Coming.ends_slower code most (c + 1) (omega arith) e)
  cancelled_on {c} {L} {m} {t} {p'} k q x0 x r op cov slot same (inl (st, is, fr, re)) =
      subst (λ z. Runs code most n (c + 1) Any L s p' m t (continued z (λ u. stop (cancelled k)))) (sym is)
      (record {
        next = force code s.cover k (compiled s.func) x s.frames st.world;
        reaches = Coming.on_step code most re (resume_forced (q + 1) k x st.world op cov slot) (Running.uncounted code most n s (q + 1) x st.world (resume em.object) op refl);
        meets = (x, subst (λ y. SameBelow n y x) (sym fr) same, refl);
      })
