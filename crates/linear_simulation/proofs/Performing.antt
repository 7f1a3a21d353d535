-- Operations: what one does in regions it does at the machine.
use Rattle.std.proofs.Common.{◌≡◌, ℕ, ◌+◌, ◌<◌, Bool, true, List, Option, refl, sym, ap, ◌∙◌, subst, arith}
use Rattle.std.specs.Prelude.{ℤ}
use Rattle.region_forms.specs.Form.{Place}
use Rattle.region_forms.specs.World.{Frame}
use Rattle.region_forms.specs.Guard.{Guard}
use Rattle.region_forms.specs.Effect.{Effect, goes, calls, raises, terminates, ends, cancels, leaves_newest, meaningless, finished}
use Rattle.region_forms.specs.Outcome.{State as RegionState, Result, done, stopped, continued}
use Rattle.region_forms.specs.Ending.{Running, settled, perform}
use Rattle.linear_forms.specs.Activation.{Code, Activation, State, goes_to, finishes, by_program, not_defined, fetch, look, kinds, on}
use Rattle.linear_forms.specs.Operation.{wanted_by, performed, returned}
use Rattle.linear_forms.specs.Operation
use Rattle.linear_forms.specs.Forced.{force}
use Rattle.linear_forms.specs.Machine.{step}
use Rattle.linear_forms.specs.Agrees.{Agrees}
use Rattle.linear_forms.specs.Counted.{is_calling, counts_at}
use Rattle.linear_forms.specs.Pace.{pays_at, Paced}
use Rattle.linear_forms.specs.CodeRuns.{SameBelow, context_of}
use Rattle.linear_forms.proofs.Running
use Rattle.linear_simulation.specs.Alike.{Alike, InSlots}
use Rattle.linear_simulation.specs.Comes.{Comes, comes_back, goes_alike, CallsRun, state_after}
use Rattle.linear_simulation.proofs.Effects
use Rattle.linear_simulation.proofs.Coming

module _ (code : Code) (most fuel : ℕ) (run : Running) (calls_run : CallsRun code most fuel run) (n : ℕ) where
  -- an effect that needs nothing more
  settled_comes : {x0 : Frame} {m : State} {t c : ℕ} (a : Activation) (fs : List Activation) (want : Option Place) (b : Bool) (x y : Effect) (st : RegionState) → Alike n want b x y
      → Paced code most m t (Operation.settled y a fs st.world) st.turns c → Comes code most x0 a fs (goes_alike n a fs) m t (settled x st) c
  settled_comes a fs want b (goes f w) y st h r = record {
    next = on a h.0 fs w;
    reaches = Running.reaches_to code most n (ap (λ z. Operation.settled z a fs st.world) h.2) r;
    comes = (h.0, h.1, refl);
  }
  settled_comes a fs want b (calls p k given) y st h r =
      record { next = finishes not_defined st.world; reaches = Running.reaches_to code most n (ap (λ z. Operation.settled z a fs st.world) h.2) r; comes = refl }
  settled_comes a fs want b (raises e w) y st h r =
      record { next = finishes not_defined st.world; reaches = Running.reaches_to code most n (ap (λ z. Operation.settled z a fs st.world) h.1) r; comes = refl }
  settled_comes a fs want b (terminates k w) y st h r =
      record { next = finishes not_defined st.world; reaches = Running.reaches_to code most n (ap (λ z. Operation.settled z a fs st.world) h) r; comes = refl }
  settled_comes a fs want b (ends e w) y st h r =
      record { next = finishes not_defined st.world; reaches = Running.reaches_to code most n (ap (λ z. Operation.settled z a fs st.world) h) r; comes = refl }
  settled_comes a fs want b (cancels z w) y st h r =
      record { next = finishes not_defined st.world; reaches = Running.reaches_to code most n (ap (λ z. Operation.settled z a fs st.world) h.1) r; comes = refl }
  settled_comes a fs want b leaves_newest y st h r = absurd h
  settled_comes a fs want b meaningless y st h r =
      record { next = finishes not_defined st.world; reaches = Running.reaches_to code most n (ap (λ z. Operation.settled z a fs st.world) h) r; comes = refl }

  -- a call whose value goes to a place
  module _ (a : Activation) (fs : List Activation) (gs : List Guard) (same_kinds : (s : ℕ) → s < n → kinds code a.function s ≡ run.kinds s) where
    stored_comes : {x0 : Frame} {m : State} {t c : ℕ} (want : Option Place) → wanted_by (fetch code a.function a.place) ≡ want → InSlots n want → (r : Result ℤ)
        → SameBelow n (state_after r).frame a.frame
        → Comes code most x0 a fs (comes_back code a fs) m t r c
        → Comes code most x0 a fs (goes_alike n a fs) m t (continued r (λ v s. settled (finished run.kinds want v s.frame s.world) s)) c
    stored_comes want we h (done v s) same k =
        settled_comes a fs want true (finished run.kinds want v s.frame s.world) (finished (kinds code a.function) want v a.frame s.world) s
        (Effects.finished_same n run.kinds (kinds code a.function) same_kinds want true want v s.frame a.frame s.world h same)
        (Running.reaches_to code most n (k.comes ∙ ap (λ p. Operation.settled (finished (kinds code a.function) p v a.frame s.world) a fs s.world) we) k.reaches)
    stored_comes want we h (stopped x s) same k = record { next = k.next; reaches = k.reaches; comes = k.comes }

    -- an effect of an operation that may raise
    pub perform_comes : {m : State} {t c : ℕ} (want : Option Place) (x y : Effect) (st : RegionState) (mid : State) → mid.world ≡ st.world → Alike n want true x y
        → wanted_by (fetch code a.function a.place) ≡ want → InSlots n want → SameBelow n st.frame a.frame → st.turns < fuel
        → Agrees code a.function gs (look code a.function a.place) fs
        → step code mid ≡ performed code y a fs st.world → (is_calling x ≡ true → pays_at code mid ≡ true)
        → counts_at code mid ≡ is_calling y → Paced code most m t (goes_to mid) st.turns c
        → Comes code most st.frame a fs (goes_alike n a fs) m t (perform run x (context_of gs a fs) st) (c + 3)
    perform_comes {c = c} want (goes f w) y st mid we h wa hs same lt ag se pay count r = record {
      next = on a h.0 fs w;
      reaches = Running.slower code most n (c + 3) (omega arith) (Coming.on_step code most r (se ∙ ap (λ z. performed code z a fs st.world) h.2) (count ∙ ap is_calling h.2));
      comes = (h.0, h.1, refl);
    }
    perform_comes {m} {t} {c} want (calls p k given) y st mid we h wa hs same lt ag se pay count r =
        let q = Coming.call_comes code most fuel run calls_run k given a fs gs st mid we (se ∙ ap (λ z. performed code z a fs st.world) h.2) (pay refl) lt ag r in
        let f = calls_run.frames k given a fs gs st in
        let e = stored_comes want wa hs (run.call k given (context_of gs a fs) st) (subst (λ z. SameBelow n z a.frame) (sym f) same) q in
        subst (λ z. Comes code most st.frame a fs (goes_alike n a fs) m t (continued (run.call k given (context_of gs a fs) st) (λ v s. settled (finished run.kinds z v s.frame s.world) s)) (c + 3))
        (sym h.0) (Coming.comes_slower code most (c + 3) (omega arith) e)
    perform_comes {c = c} want (raises e w) y st mid we h wa hs same lt ag se pay count r =
        Coming.comes_slower code most (c + 3) (omega arith) (Coming.raise_comes code most fuel run calls_run (goes_alike n a fs) e a fs gs (record st { world = w }) lt ag
        (Coming.on_step code most r (se ∙ ap (λ z. performed code z a fs st.world) h.1) (count ∙ ap is_calling h.1)))
    perform_comes {c = c} want (terminates k w) y st mid we h wa hs same lt ag se pay count r =
        Coming.comes_slower code most (c + 3) (omega arith) (Coming.ends_come code most a fs (goes_alike n a fs)
        (Coming.terminate_ends code most fuel run calls_run k a fs gs (record st { world = w }) lt
        (Coming.on_step code most r (se ∙ ap (λ z. performed code z a fs st.world) h) (count ∙ ap is_calling h))))
    perform_comes {c = c} want (ends e w) y st mid we h wa hs same lt ag se pay count r = record {
      next = finishes (by_program e) w;
      reaches = Running.slower code most n (c + 3) (omega arith) (Coming.on_step code most r (se ∙ ap (λ z. performed code z a fs st.world) h) (count ∙ ap is_calling h));
      comes = refl;
    }
    perform_comes {c = c} want (cancels z w) y st mid we h wa hs same lt ag se pay count r = record {
      next = force code (look code a.function a.place) z a.function a.frame fs w;
      reaches = Running.slower code most n (c + 3) (omega arith) (Coming.on_step code most r (se ∙ ap (λ z. performed code z a fs st.world) h.1) (count ∙ ap is_calling h.1));
      comes = (refl, refl);
    }
    perform_comes want leaves_newest y st mid we h wa hs same lt ag se pay count r = absurd h
    perform_comes {c = c} want meaningless y st mid we h wa hs same lt ag se pay count r = record {
      next = finishes not_defined st.world;
      reaches = Running.slower code most n (c + 3) (omega arith) (Coming.on_step code most r (se ∙ ap (λ z. performed code z a fs st.world) h) (count ∙ ap is_calling h));
      comes = refl;
    }
