-- Terminate, calls and raised exceptions, whichever open call they are made in.
use Rattle.std.proofs.Common.{◌≡◌, ℕ, ◌+◌, ◌<◌, ◌≤◌, ◌⊎◌, inl, inr, Bool, true, false, List, [], ◌∷◌, Option, Some, None, refl, sym, ap, ◌∙◌, subst, arith}
use Rattle.std.specs.Prelude.{ℤ, pos, is_none, is_some, if◌then◌else◌}
use Rattle.meaning_forms.specs.Outcome.{Stop, thrown, cancelled, ended, undefined, out_of_turns, deep, aborted}
use Rattle.region_forms.specs.World.{Word, Frame, nothing, number_word, Exception, building, native, foreign, exception_at, type_at}
use Rattle.region_forms.specs.Guard.{Guard, everything, is_doomed}
use Rattle.region_forms.specs.Effect.{entered_doomed, flies}
use Rattle.region_forms.specs.Outcome.{State as RegionState, Result, done, stopped, stop, change, ◌>>◌}
use Rattle.region_forms.specs.Ending.{Running, after_terminate_handler, run_terminate_handler, terminate_with, enter_and_terminate, terminate_because, raise}
use Rattle.linear_forms.specs.Stub.{terminating}
use Rattle.linear_forms.specs.Activation.{Code, Activation, State, Next, depth_of, goes_to, finishes, by_program, look, at, stub_frame, function_word, terminated, enters_function}
use Rattle.linear_forms.specs.Search.{found}
use Rattle.linear_forms.specs.Unwinding.{unwind, doomed, doomed_by, raised_to}
use Rattle.linear_forms.specs.Unwinding.{raise as raise_at}
use Rattle.linear_forms.specs.Machine.{step}
use Rattle.linear_forms.specs.Agrees.{Agrees}
use Rattle.linear_forms.specs.Counted.{counts_at}
use Rattle.linear_forms.specs.Pace.{pays_at, Paced}
use Rattle.linear_forms.specs.CodeRuns.{context_of, called_from}
use Rattle.linear_forms.proofs.Running
use Rattle.linear_simulation.specs.Comes.{StopsAt, Answered, Comes, comes_back, IsEnd, ComesToEnd, IsNotOpened, Opened, CallsRun, state_after}

-- an open call of the runtime's own counts for none
pub none_more : (d : ℕ) → d + 0 ≡ d
none_more d = omega arith

module _ (code : Code) (most : ℕ) where
  -- one step with no turn spent, which is no call nor a jump back
  pub on_step : {m mid : State} {t u c : ℕ} {x : Next} → Paced code most m t (goes_to mid) u c → step code mid ≡ x → counts_at code mid ≡ false → Paced code most m t x u (c + 1)
  on_step {u = u} r e q = Running.reaches_on code most 0 r (Running.free_step code most 0 u e q)

  end_stops : (f : Frame) (a : Activation) (fs : List Activation) (x : Stop) (st : RegionState) (y : Next) → IsEnd code x st y → StopsAt code f a fs x st y
  end_stops f a fs (thrown e) st y h = absurd h
  end_stops f a fs (cancelled k) st y h = absurd h
  end_stops f a fs (ended e) st y h = h
  end_stops f a fs undefined st y h = h
  end_stops f a fs out_of_turns st y h = h
  end_stops f a fs deep st y h = h

  pub ends_come : {A : Type 0} {f : Frame} {m : State} {t c : ℕ} {r : Result A} (a : Activation) (fs : List Activation) (D : Answered A)
      → ComesToEnd code most m t r c → Comes code most f a fs D m t r c
  ends_come {A} {f} {m} {t} {c} {r} a fs D e =
      subst (λ z. Comes code most f a fs D m t z c) (sym e.is)
      (record { next = e.next; reaches = e.reaches; comes = end_stops f a fs e.why e.state e.next e.ends })

  pub ends_slower : {A : Type 0} {m : State} {t c : ℕ} {r : Result A} (d : ℕ) → c ≤ d → ComesToEnd code most m t r c → ComesToEnd code most m t r d
  ends_slower d le e = record { why = e.why; state = e.state; is = e.is; next = e.next; reaches = Running.slower code most 0 d le e.reaches; ends = e.ends }

  pub comes_slower : {A : Type 0} {f : Frame} {m : State} {t c : ℕ} {r : Result A} {a : Activation} {fs : List Activation} {D : Answered A} (d : ℕ) → c ≤ d
      → Comes code most f a fs D m t r c → Comes code most f a fs D m t r d
  comes_slower d le e = record { next = e.next; reaches = Running.slower code most 0 d le e.reaches; comes = e.comes }

  -- a function is called in a step, and comes back as it does
  module _ (fuel : ℕ) (run : Running) (calls : CallsRun code most fuel run) where
    pub call_comes : {m : State} {t c : ℕ} (g : ℕ) (words : List Word) (a : Activation) (fs : List Activation) (gs : List Guard) (st : RegionState) (mid : State)
        → mid.world ≡ st.world → step code mid ≡ enters_function code g words (a ∷ fs) st.world → pays_at code mid ≡ true → st.turns < fuel
        → Agrees code a.function gs (look code a.function a.place) fs → Paced code most m t (goes_to mid) st.turns c
        → Comes code most st.frame a fs (comes_back code a fs) m t (run.call g words (context_of gs a fs) st) (c + 1)
    call_comes {m} {t} {c} g words a fs gs st mid we se pay lt ag r = go (run.call g words (context_of gs a fs) st) (calls.runs g a fs gs words st lt ag)
      where
        go : (x : Result ℤ) → (IsNotOpened x st ⊎ Opened code most a fs (called_from code g words a fs st.world) st x)
            → Comes code most st.frame a fs (comes_back code a fs) m t x (c + 1)
        go x (inl (inl (e, z))) = subst (λ y. Comes code most st.frame a fs (comes_back code a fs) m t y (c + 1)) (sym e) (record {
          next = goes_to mid;
          reaches = Running.slower code most 0 (c + 1) (omega arith) (subst (λ u. Paced code most m t (goes_to mid) u c) z r);
          comes = (mid, refl, we, pay);
        })
        go x (inl (inr e)) = subst (λ y. Comes code most st.frame a fs (comes_back code a fs) m t y (c + 1)) (sym e) (record {
          next = goes_to mid;
          reaches = Running.slower code most 0 (c + 1) (omega arith) r;
          comes = (mid, refl, we);
        })
        go x (inr k) = record {
          next = k.comes.next;
          reaches = Running.slower code most 0 (c + 1) (omega arith) (Running.reaches_on code most 0
              (subst (λ u. Paced code most m t (goes_to mid) u c) k.spent r) (Running.turn_step code most 0 k.left se pay k.comes.reaches k.paid));
          comes = k.comes.comes;
        }

    -- what terminate's handler comes to
    terminating_ends : {A : Type 0} {f : Frame} {m : State} {t c : ℕ} (x : Frame) (b : List Activation) (r : Result ℤ) → (state_after r).world.ending ≡ true
        → Comes code most f (record { function = terminating; place = 0; frame = x }) b (comes_back code (record { function = terminating; place = 0; frame = x }) b) m t r c
        → ComesToEnd {A = A} code most m t (after_terminate_handler r) (c + 1)
    terminating_ends x b (done v s) en k = record {
      why = ended aborted;
      state = s;
      is = refl;
      next = finishes (by_program aborted) s.world;
      reaches = on_step (Running.reaches_to code most 0 k.comes k.reaches) refl refl;
      ends = refl;
    }
    terminating_ends x b (stopped (thrown e) s) en k = let m = k.comes.1 in absurd (cc m)
    terminating_ends {c = c} x b (stopped (cancelled z) s) en k = record {
      why = ended aborted;
      state = s;
      is = refl;
      next = finishes (by_program aborted) s.world;
      reaches = Running.slower code most 0 (c + 1) (omega arith) (Running.reaches_to code most 0
          (k.comes.1 ∙ ap (λ y. if y then finishes (by_program aborted) s.world else at terminating 0 (stub_frame (function_word s.world.installed.terminate_handler) nothing nothing)
          (record { function = terminating; place = 0; frame = x } ∷ b) (record (s.world) { ending = is_some s.world.installed.terminate_handler })) en) k.reaches);
      ends = refl;
    }
    terminating_ends {c = c} x b (stopped (ended y) s) en k =
        record { why = ended y; state = s; is = refl; next = k.next; reaches = Running.slower code most 0 (c + 1) (omega arith) k.reaches; ends = k.comes }
    terminating_ends {c = c} x b (stopped undefined s) en k =
        record { why = undefined; state = s; is = refl; next = k.next; reaches = Running.slower code most 0 (c + 1) (omega arith) k.reaches; ends = k.comes }
    terminating_ends {c = c} x b (stopped out_of_turns s) en k =
        record { why = out_of_turns; state = s; is = refl; next = k.next; reaches = Running.slower code most 0 (c + 1) (omega arith) k.reaches; ends = k.comes }
    terminating_ends {c = c} x b (stopped deep s) en k =
        record { why = deep; state = s; is = refl; next = k.next; reaches = Running.slower code most 0 (c + 1) (omega arith) k.reaches; ends = k.comes }

    -- terminate with a handler ends the program, or never comes back
    terminated_by : {A : Type 0} {m : State} {t c : ℕ} (h : Option ℕ) (a : Activation) (fs : List Activation) (gs : List Guard) (st : RegionState) → st.turns < fuel
        → st.world.ending ≡ false
        → Paced code most m t (at terminating 0 (stub_frame (function_word h) nothing nothing) (a ∷ fs) (record (st.world) { ending = is_some h })) st.turns c
        → ComesToEnd {A = A} code most m t (run_terminate_handler run h (context_of gs a fs) st) (c + 2)
    terminated_by {c = c} None a fs gs st lt en r = record {
      why = ended aborted;
      state = st;
      is = refl;
      next = finishes (by_program aborted) (record (st.world) { ending = false });
      reaches = Running.slower code most 0 (c + 2) (omega arith) (on_step (on_step r refl refl) refl refl);
      ends = ap (λ b. finishes (by_program aborted) (record (st.world) { ending = b })) (sym en);
    }
    terminated_by {A} {m} {t} {c} (Some h) a fs gs st lt en r =
        let x = stub_frame (number_word (pos h)) nothing nothing in
        let b : Activation = record { function = terminating; place = 0; frame = x } in
        let s2 : RegionState = record st { world = record (st.world) { ending = true } } in
        let k = call_comes h [] b (a ∷ fs) (everything ∷ gs) s2 (record { top = b; frames = a ∷ fs; world = s2.world }) refl refl refl lt (record { same = λ y. refl }) r in
        subst (λ d. ComesToEnd {A = A} code most m t (after_terminate_handler (run.call h [] (record { guards = everything ∷ gs; depth = d }) s2)) (c + 2)) (none_more (depth_of (a ∷ fs)))
        (ends_slower (c + 2) (omega arith) (terminating_ends x (a ∷ fs) (run.call h [] (context_of (everything ∷ gs) b (a ∷ fs)) s2)
        (calls.ending h [] b (a ∷ fs) (everything ∷ gs) s2 refl) k))

    pub terminate_ends : {A : Type 0} {m : State} {t c : ℕ} (h : Option ℕ) (a : Activation) (fs : List Activation) (gs : List Guard) (st : RegionState) → st.turns < fuel
        → Paced code most m t (terminated h (a ∷ fs) st.world) st.turns c
        → ComesToEnd {A = A} code most m t (terminate_with run h (context_of gs a fs) st) (c + 2)
    terminate_ends {A} {m} {t} {c} h a fs gs st lt r = go (st.world.ending) refl r
      where
        go : (b : Bool) → st.world.ending ≡ b
            → Paced code most m t (if b then finishes (by_program aborted) st.world else
            at terminating 0 (stub_frame (function_word h) nothing nothing) (a ∷ fs) (record (st.world) { ending = is_some h })) st.turns c
            → ComesToEnd {A = A} code most m t ((if b then stop (ended aborted) else run_terminate_handler run h (context_of gs a fs)) st) (c + 2)
        go true e k = record { why = ended aborted; state = st; is = refl; next = finishes (by_program aborted) st.world; reaches = Running.slower code most 0 (c + 2) (omega arith) k; ends = refl }
        go false e k = terminated_by h a fs gs st lt e k

    -- an exception that the search finds no target for
    doomed_ends : {A : Type 0} {m : State} {t c : ℕ} (e : ℕ) (a : Activation) (fs : List Activation) (gs : List Guard) (st : RegionState) (x : Exception)
        → st.turns < fuel → Paced code most m t (doomed_by e x (a ∷ fs) st.world) st.turns c
        → ComesToEnd {A = A} code most m t (enter_and_terminate run e x (context_of gs a fs) st) (c + 2)
    doomed_ends e a fs gs st (native ty d kept) lt r = terminate_ends kept.terminate_handler a fs gs (record st { world = entered_doomed e st.world }) lt r
    doomed_ends e a fs gs st building lt r = terminate_ends st.world.installed.terminate_handler a fs gs st lt r
    doomed_ends e a fs gs st (foreign k ty) lt r = terminate_ends st.world.installed.terminate_handler a fs gs st lt r

    because_ends : {A : Type 0} {m : State} {t c : ℕ} (e : ℕ) (a : Activation) (fs : List Activation) (gs : List Guard) (st : RegionState)
        → st.turns < fuel → Paced code most m t (doomed e (a ∷ fs) st.world) st.turns c
        → ComesToEnd {A = A} code most m t (terminate_because run e (context_of gs a fs) st) (c + 2)
    because_ends {A} {m} {t} {c} e a fs gs st lt r = go (st.world.ending) r
      where
        go : (b : Bool) → Paced code most m t (if b then finishes (by_program aborted) st.world else doomed_by e (exception_at st.world e) (a ∷ fs) st.world) st.turns c
            → ComesToEnd {A = A} code most m t ((if b then stop (ended aborted) else enter_and_terminate run e (exception_at st.world e) (context_of gs a fs)) st) (c + 2)
        go true k = record { why = ended aborted; state = st; is = refl; next = finishes (by_program aborted) st.world; reaches = Running.slower code most 0 (c + 2) (omega arith) k; ends = refl }
        go false k = doomed_ends e a fs gs st (exception_at st.world e) lt k

    pub raise_comes : {A : Type 0} {m : State} {t c : ℕ} (D : Answered A) (e : ℕ) (a : Activation) (fs : List Activation) (gs : List Guard) (st : RegionState)
        → st.turns < fuel → Agrees code a.function gs (look code a.function a.place) fs
        → Paced code most m t (raise_at code e a fs st.world) st.turns c
        → Comes code most st.frame a fs D m t (raise run e (context_of gs a fs) st) (c + 2)
    raise_comes {A} {m} {t} {c} D e a fs gs st lt ag r =
        let same = ap (λ rows. is_doomed rows gs (type_at st.world e)) calls.types ∙ ag.same (type_at st.world e) in
        subst (λ b. Comes code most st.frame a fs D m t ((if b then terminate_because run e (context_of gs a fs) else (change (flies e) >> stop (thrown e))) st) (c + 2)) (sym same)
        (go (found code a.function (look code a.function a.place) (type_at st.world e) fs) refl r)
      where
        go : (o : Option ℕ) → found code a.function (look code a.function a.place) (type_at st.world e) fs ≡ o
            → Paced code most m t (raised_to o e (a ∷ fs) st.world (λ t. unwind code (look code a.function a.place) t e a.function a.frame fs (flies e st.world))) st.turns c
            → Comes code most st.frame a fs D m t ((if is_none o then terminate_because run e (context_of gs a fs) else (change (flies e) >> stop (thrown e))) st) (c + 2)
        go None q k = ends_come a fs D (because_ends e a fs gs st lt k)
        go (Some z) q k = record {
          next = unwind code (look code a.function a.place) z e a.function a.frame fs (flies e st.world);
          reaches = Running.slower code most 0 (c + 2) (omega arith) k;
          comes = (z, q, refl, refl);
        }
