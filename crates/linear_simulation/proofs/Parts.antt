-- Parts of code, exits of parts, and jumps between parts.
use Rattle.std.proofs.Common.{◌≡◌, ℕ, zero, suc, ◌+◌, ◌<◌, ◌≤◌, Bool, true, false, List, [], ◌∷◌, ◌++◌, length, Option, Some, None, refl, ap, ◌∙◌, subst, arith}
use Rattle.std.specs.Prelude.{◌==◌, ◌||◌}
use Rattle.std.proofs.lemmas.Bool.Decides.{nat_tests}
use Rattle.meaning_forms.specs.Class.{contains}
use Rattle.region_forms.specs.Form.{Op}
use Rattle.region_forms.specs.World.{Frame, World}
use Rattle.region_forms.specs.Outcome.{Flow, normal, leaves, Result, done, stopped}
use Rattle.linear_forms.specs.Linear.{label, jump}
use Rattle.linear_forms.specs.Tables.{Cover}
use Rattle.linear_forms.specs.Stub.{compiled}
use Rattle.linear_forms.specs.Activation.{Code, State, at}
use Rattle.linear_forms.specs.Machine.{step}
use Rattle.linear_forms.specs.Sites.{Placed}
use Rattle.linear_forms.specs.Exits.{Exit, exit_to, beyond}
use Rattle.linear_forms.specs.Emission.{Emitting, quiet, exit_code}
use Rattle.linear_forms.specs.CodeRuns.{HasAt, Site, LeftAt, ExitsAt, Any, Runs, here}
use Rattle.linear_forms.proofs.Running
use Rattle.linear_simulation.specs.Simulates.{GoInside, ExitsAhead}

-- what has an exit among the exits of a part
pub has_left : (a b : List ℕ) (k : ℕ) → contains a k ≡ true → contains (a ++ b) k ≡ true
has_left [] b k h = absurd (cc h)
has_left (m ∷ a) b k h = go (m == k) h (has_left a b k)
  where
    go : (c : Bool) → (c || contains a k) ≡ true → (contains a k ≡ true → contains (a ++ b) k ≡ true) → (c || contains (a ++ b) k) ≡ true
    go true e f = refl
    go false e f = f e

pub has_right : (a b : List ℕ) (k : ℕ) → contains b k ≡ true → contains (a ++ b) k ≡ true
has_right [] b k h = h
has_right (m ∷ a) b k h = go (m == k) (has_right a b k h)
  where
    go : (c : Bool) → contains (a ++ b) k ≡ true → (c || contains (a ++ b) k) ≡ true
    go true e = refl
    go false e = e

or_right : (a b : Bool) → a ≡ false → (a || b) ≡ true → b ≡ true
or_right true b e h = absurd (cc e)
or_right false b e h = h

none_same : (k : ℕ) → (zero == suc k) ≡ false
none_same k = grind (arith, nat_tests)

-- an exit beyond a region is one of those that the region outside counts
pub has_beyond : (outs : List ℕ) (k : ℕ) → contains outs (suc k) ≡ true → contains (beyond outs) k ≡ true
has_beyond [] k h = absurd (cc h)
has_beyond (zero ∷ outs) k h = has_beyond outs k (or_right (zero == suc k) (contains outs (suc k)) (none_same k) h)
has_beyond (suc m ∷ outs) k h = go (suc m == suc k) refl h (has_beyond outs k)
  where
    same : (b : Bool) → (suc m == suc k) ≡ b → (m == k) ≡ b
    same b e = grind (arith, nat_tests)

    go : (c : Bool) → (suc m == suc k) ≡ c → (c || contains outs (suc k)) ≡ true → (contains outs (suc k) ≡ true → contains (beyond outs) k ≡ true)
        → ((m == k) || contains (beyond outs) k) ≡ true
    go true q e f = ap (λ b. b || contains (beyond outs) k) (same true q)
    go false q e f = ap (λ b. b || contains (beyond outs) k) (same false q) ∙ f e

pub inside_beyond : (d : ℕ) (outs : List ℕ) → GoInside d (beyond outs) → GoInside (suc d) outs
inside_beyond d outs h zero e = omega arith
inside_beyond d outs h (suc k) e = let lt = h k (has_beyond outs k e) in omega (arith, lt)

pub inside_left : (d : ℕ) (a b : List ℕ) → GoInside d (a ++ b) → GoInside d a
inside_left d a b h k e = h k (has_left a b k e)

pub inside_right : (d : ℕ) (a b : List ℕ) → GoInside d (a ++ b) → GoInside d b
inside_right d a b h k e = h k (has_right a b k e)

-- exits stand ahead of what is a part of more, and so does a new one whose label does
module _ (code : Code) (f : ℕ) where
  pub ahead_less : (q r : ℕ) (xs : List Exit) → q ≤ r → ExitsAhead code f r xs → ExitsAhead code f q xs
  ahead_less q r xs le h k lt = let far = h k lt in omega (arith, le, far)

  pub ahead_in : (q l : ℕ) (xs : List Exit) → q ≤ code.label_at f l → ExitsAhead code f q xs → ExitsAhead code f q (exit_to l ∷ xs)
  ahead_in q l xs own h zero lt = own
  ahead_in q l xs own h (suc k) lt = h k (omega (arith, lt))

  -- with a cleanup of normal exits, all go there first
  pub ahead_behind : (em : Emitting) (o : Option Op) (c : Cover) (xs : List Exit) (l q q0 : ℕ) (outs : List ℕ) → q ≤ q0 → q ≤ code.label_at f l
      → HasAt code f q0 (exit_code em o c xs l outs ++ quiet (label l) ∷ []) → ExitsAhead code f q xs
      → ExitsAhead code f q (record { cleanup = elim o [ None ↦ None | Some x ↦ Some (l + 2) ]; end = l } ∷ xs)
  ahead_behind em None c xs l q q0 outs le own has h zero lt = own
  ahead_behind em None c xs l q q0 outs le own has h (suc k) lt = h k (omega (arith, lt))
  ahead_behind em (Some o) c xs l q q0 [] le own has h zero lt = let at_label = has.2 in omega (arith, le, at_label)
  ahead_behind em (Some o) c xs l q q0 [] le own has h (suc k) lt = let at_label = has.2 in omega (arith, le, at_label)
  ahead_behind em (Some o) c xs l q q0 (m ∷ outs) le own has h zero lt = let at_label = has.3.2 in omega (arith, le, at_label)
  ahead_behind em (Some o) c xs l q q0 (m ∷ outs) le own has h (suc k) lt = let at_label = has.3.2 in omega (arith, le, at_label)

module _ (code : Code) where
  pub has_front : (f p : ℕ) (a b : List Placed) → HasAt code f p (a ++ b) → HasAt code f p a
  has_front f p [] b h = tt
  has_front f p (i ∷ a) b h = (h.0, h.1, h.2, has_front f (p + 1) a b h.3)

  pub has_back : (f p : ℕ) (a b : List Placed) → HasAt code f p (a ++ b) → HasAt code f (p + length a) b
  has_back f p [] b h = let e : p ≡ p + 0 = omega arith in subst (λ n. HasAt code f n b) e h
  has_back f p (i ∷ a) b h =
      let e : p + 1 + length a ≡ p + length (i ∷ a) = omega arith in
      subst (λ n. HasAt code f n b) e (has_back f (p + 1) a b h.3)

module _ (code : Code) (most n : ℕ) where
  pub label_step : (s : Site) (p l : ℕ) (f : Frame) (w : World) → code.op_at s.func p ≡ Some (label l)
      → step code (here s p f w) ≡ at (compiled s.func) (p + 1) f s.frames w
  label_step s p l f w e = Running.step_at code most n s p f w (label l) e

  pub jump_step : (s : Site) (p l q : ℕ) (f : Frame) (w : World) → code.op_at s.func p ≡ Some (jump l) → code.label_at s.func l ≡ q
      → step code (here s p f w) ≡ at (compiled s.func) q f s.frames w
  jump_step s p l q f w e to = Running.step_at code most n s p f w (jump l) e ∙ ap (λ z. at (compiled s.func) z f s.frames w) to

  -- the exits of a part are among those of the whole
  pub widened : {c : ℕ} {em : Emitting} {xs : List Exit} {p' : ℕ} {m : State} {t : ℕ} (s : Site) (outs more : List ℕ) → ((k : ℕ) → contains outs k ≡ true → contains more k ≡ true)
      → (r : Result Flow) → Runs code most n c Any (LeftAt code em n s xs outs) s p' m t r → Runs code most n c Any (LeftAt code em n s xs more) s p' m t r
  widened s outs more h (done normal st) a = record { next = a.next; reaches = a.reaches; meets = a.meets }
  widened s outs more h (done (leaves k) st) a =
      let x = a.meets in
      record { next = a.next; reaches = a.reaches; meets = record { frame = x.frame; same = x.same; is = x.is; way = x.way; known = h _ x.known; inside = x.inside } }
  widened {c} {em} {xs} s outs more h (stopped x st) a =
      Running.stop_runs code most n {L = LeftAt code em n s xs outs} {M = LeftAt code em n s xs more} c (omega arith) x st a

  -- a part whose end is followed by a jump
  pub then_jump : {c : ℕ} {L : ExitsAt} {m : State} {t : ℕ} (s : Site) (q l p1 : ℕ) → code.op_at s.func q ≡ Some (jump l) → code.label_at s.func l ≡ p1 → q < p1
      → (r : Result Flow) → Runs code most n c Any L s q m t r → Runs code most n (c + 1) Any L s p1 m t r
  then_jump s q l p1 e to ahead (done normal st) a =
      let x = a.meets in
      record {
        next = at (compiled s.func) p1 x.0 s.frames st.world;
        reaches = Running.reaches_on code most n (Running.reaches_to code most n x.3 a.reaches) (Running.free_step code most n st.turns (jump_step s q l p1 x.0 st.world e to)
            (Running.jump_quiet code most n s q l p1 x.0 st.world e to ahead));
        meets = (x.0, x.1, tt, refl);
      }
  then_jump {c} s q l p1 e to ahead (done (leaves k) st) a = record { next = a.next; reaches = Running.slower code most n (c + 1) (omega arith) a.reaches; meets = a.meets }
  then_jump {c} {L} s q l p1 e to ahead (stopped x st) a = Running.stop_runs code most n {L = L} {M = L} (c + 1) (omega arith) x st a

  -- what runs to a place, where the place is said otherwise
  pub runs_at : {c : ℕ} {P : Frame → Type 0} {L : ExitsAt} {s : Site} {p q : ℕ} {m : State} {t : ℕ} {r : Result Flow} → p ≡ q
      → Runs code most n c P L s p m t r → Runs code most n c P L s q m t r
  runs_at {c} {P} {L} {s} {p} {q} {m} {t} {r} e a = subst (λ z. Runs code most n c P L s z m t r) e a
