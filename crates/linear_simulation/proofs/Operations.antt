-- One operation of a function, where it stands.
use Rattle.std.proofs.Common.{◌≡◌, ℕ, ◌+◌, ◌<◌, ◌≤◌, Bool, true, false, List, [], ◌∷◌, Option, Some, None, refl, sym, ap, ◌∙◌, subst, arith}
use Rattle.std.specs.Prelude.{if◌then◌else◌}
use Rattle.meaning_forms.specs.Outcome.{Stop, thrown, cancelled, ended, undefined, out_of_turns, deep}
use Rattle.region_forms.specs.Form.{Place, Op, evaluate, store, bind, call, construct, destroy, make, throw, rethrow, enter, leave}
use Rattle.region_forms.specs.World.{address_word, Address, Frame, type_at}
use Rattle.region_forms.specs.Guard.{Guard}
use Rattle.region_forms.specs.Evaluation.{address_of}
use Rattle.region_forms.specs.Effect.{Effect, goes, calls, raises, terminates, ends, cancels, leaves_newest, meaningless, if_some, effect}
use Rattle.region_forms.specs.Mentioned.{slots_of_root, slots_of_op, slots_of_value}
use Rattle.region_forms.specs.Outcome.{State as RegionState, Context, Flow, normal, Result, done, stopped, pure, continued, Action}
use Rattle.region_forms.specs.Ending.{Running, perform}
use Rattle.region_forms.specs.Meaning.{operation}
use Rattle.linear_forms.specs.Linear.{plain}
use Rattle.linear_forms.specs.Tables.{bare}
use Rattle.linear_forms.specs.Stub.{compiled}
use Rattle.linear_forms.specs.Activation.{Code, Activation, State, Next, finishes, by_program, not_defined, fetch, at, compiled_op}
use Rattle.linear_forms.specs.Operation.{wanted_by, performed}
use Rattle.linear_forms.specs.Machine.{step}
use Rattle.linear_forms.specs.Emission.{may_raise, put}
use Rattle.linear_forms.specs.Search.{found}
use Rattle.linear_forms.specs.Unwinding.{unwind}
use Rattle.linear_forms.specs.Forced.{force}
use Rattle.linear_forms.specs.Agrees.{Agrees}
use Rattle.linear_forms.specs.Counted.{is_calling, counts_op, counts_at}
use Rattle.linear_forms.specs.Pace.{pays, pays_at, Paced}
use Rattle.linear_forms.specs.CodeRuns.{Site, context_at, SameBelow, ExitsAt, Any, Runs, here, context_of, SameKinds}
use Rattle.linear_forms.proofs.Running
use Rattle.linear_forms.proofs.Slots
use Rattle.linear_simulation.specs.Alike.{Alike, InSlots, want_of, IsOther}
use Rattle.linear_simulation.specs.Watched.{watched_leave, watched_operation}
use Rattle.linear_simulation.specs.Comes.{turns_at, Comes, goes_on, goes_alike, IsEnd, ComesToEnd, CallsRun}
use Rattle.linear_simulation.proofs.Effects.{max_left}
use Rattle.linear_simulation.proofs.Paying.{calls_pay, quiet_no_call}
use Rattle.linear_simulation.proofs.Effects
use Rattle.linear_simulation.proofs.Coming
use Rattle.linear_simulation.proofs.Leaving
use Rattle.linear_simulation.proofs.Performing

-- the place that an operation's value goes to is among its slots
want_in : (n : ℕ) (o : Op) → slots_of_op o ≤ n → InSlots n (want_of o)
want_in n (evaluate v) h = tt
want_in n (store p v) h = max_left (slots_of_root p.root) (slots_of_value v) n h
want_in n (bind s p) h = tt
want_in n (call c args) h = tt
want_in n (construct p m args) h = tt
want_in n (destroy p m) h = tt
want_in n (make s) h = tt
want_in n (throw s t d) h = tt
want_in n rethrow h = tt
want_in n (enter s) h = tt
want_in n leave h = tt

module _ (code : Code) (most n : ℕ) where
  pub end_runs : {c : ℕ} {P : Frame → Type 0} {L : ExitsAt} {s : Site} {p' : ℕ} {m : State} {t : ℕ} (x : Stop) (st : RegionState) (y : Next)
      → Paced code most m t y (turns_at x st) c → IsEnd code x st y → Runs code most n c P L s p' m t (stopped x st)
  end_runs (thrown e) st y r h = absurd h
  end_runs (cancelled k) st y r h = absurd h
  end_runs (ended e) st y r h = record { next = y; reaches = r; meets = h }
  end_runs undefined st y r h = record { next = y; reaches = r; meets = h }
  end_runs out_of_turns st y r h = record { next = y; reaches = r; meets = h }
  end_runs deep st y r h = record { next = y; reaches = r; meets = h }

  -- what ends, ends whatever follows
  pub end_all : {A : Type 0} {c : ℕ} {P : Frame → Type 0} {L : ExitsAt} {s : Site} {p' : ℕ} {m : State} {t : ℕ} {r : Result A} (go : A → Action Flow)
      → ComesToEnd code most m t r c → Runs code most n c P L s p' m t (continued r go)
  end_all {A} {c} {P} {L} {s} {p'} {m} {t} {r} go e =
      subst (λ z. Runs code most n c P L s p' m t (continued z go)) (sym e.is) (end_runs e.why e.state e.next e.reaches e.ends)

  abbrev pub act_of : Site → ℕ → Frame → Activation
  act_of s p f = record { function = compiled s.func; place = p; frame = f }

  -- an operation in the cover of its site
  pub comes_runs : {c : ℕ} {L : ExitsAt} {m : State} {t : ℕ} (s : Site) (p : ℕ) (x f : Frame) → SameBelow n x f → code.cover_at s.func p ≡ s.cover → (r : Result (Unit {0}))
      → Comes code most x (act_of s p f) s.frames (goes_alike n (act_of s p f) s.frames) m t r c
      → Runs code most n c Any L s (p + 1) m t (continued r (λ u. pure normal))
  comes_runs s p x f same cov (done v st) k = record { next = k.next; reaches = k.reaches; meets = (k.comes.0, k.comes.1, tt, k.comes.2) }
  comes_runs s p x f same cov (stopped (thrown e) st) k = record {
    next = k.next;
    reaches = k.reaches;
    meets = (
      k.comes.0,
      f,
      ap (λ y. found code (compiled s.func) y (type_at st.world e) s.frames) (sym cov) ∙ k.comes.1,
      subst (λ y. SameBelow n y f) (sym k.comes.2) same,
      k.comes.3 ∙ ap (λ y. unwind code y k.comes.0 e (compiled s.func) f s.frames st.world) cov,
    );
  }
  comes_runs s p x f same cov (stopped (cancelled z) st) k = record {
    next = k.next;
    reaches = k.reaches;
    meets = (
      f,
      subst (λ y. SameBelow n y f) (sym k.comes.0) same,
      k.comes.1 ∙ ap (λ y. force code y z (compiled s.func) f s.frames st.world) cov,
    );
  }
  comes_runs s p x f same cov (stopped (ended e) st) k = record { next = k.next; reaches = k.reaches; meets = k.comes }
  comes_runs s p x f same cov (stopped undefined st) k = record { next = k.next; reaches = k.reaches; meets = k.comes }
  comes_runs s p x f same cov (stopped out_of_turns st) k = record { next = k.next; reaches = k.reaches; meets = k.comes }
  comes_runs s p x f same cov (stopped deep st) k = record { next = k.next; reaches = k.reaches; meets = k.comes }

  module _ (fuel : ℕ) (run : Running) (calls_run : CallsRun code most fuel run) (s : Site) (same_kinds : SameKinds code s.func n run) where
    -- an effect of an operation that never raises
    quiet_runs : {c : ℕ} {L : ExitsAt} {m : State} {t : ℕ} (want : Option Place) (p : ℕ) (f : Frame) (x y : Effect) (st : RegionState) → Alike n want false x y
        → st.turns < fuel → Paced code most m t (performed code y (act_of s p f) s.frames st.world) st.turns c
        → Runs code most n (c + 2) Any L s (p + 1) m t (continued (perform run x (context_at s) st) (λ u. pure normal))
    quiet_runs {c = c} want p f (goes g w) y st h lt r = record {
      next = at (compiled s.func) (p + 1) h.0 s.frames w;
      reaches = Running.slower code most n (c + 2) (omega arith) (Running.reaches_to code most n (ap (λ z. performed code z (act_of s p f) s.frames st.world) h.2) r);
      meets = (h.0, h.1, tt, refl);
    }
    quiet_runs want p f (calls q k given) y st h lt r = let no = h.1 in absurd (cc no)
    quiet_runs want p f (raises e w) y st h lt r = let no = h.0 in absurd (cc no)
    quiet_runs {L = L} want p f (terminates k w) y st h lt r =
        end_all {L = L} (λ u. pure normal) (Coming.terminate_ends code most fuel run calls_run k (act_of s p f) s.frames s.guards (record st { world = w }) lt
        (Running.reaches_to code most n (ap (λ z. performed code z (act_of s p f) s.frames st.world) h) r))
    quiet_runs {c = c} want p f (ends e w) y st h lt r = record {
      next = finishes (by_program e) w;
      reaches = Running.slower code most n (c + 2) (omega arith) (Running.reaches_to code most n (ap (λ z. performed code z (act_of s p f) s.frames st.world) h) r);
      meets = refl;
    }
    quiet_runs want p f (cancels z w) y st h lt r = let no = h.0 in absurd (cc no)
    quiet_runs want p f leaves_newest y st h lt r = absurd h
    quiet_runs {c = c} want p f meaningless y st h lt r = record {
      next = finishes not_defined st.world;
      reaches = Running.slower code most n (c + 2) (omega arith) (Running.reaches_to code most n (ap (λ z. performed code z (act_of s p f) s.frames st.world) h) r);
      meets = refl;
    }

    module _ (agrees : Agrees code (compiled s.func) s.guards s.cover s.frames) where
      other_runs : {L : ExitsAt} (o : Op) (p : ℕ) (f : Frame) (st : RegionState) → IsOther o → slots_of_op o ≤ n → st.turns < fuel
          → SameBelow n st.frame f → code.op_at s.func p ≡ Some (plain o) → code.cover_at s.func p ≡ (put o s.cover).cover
          → Runs code most n 8 Any L s (p + 1) (here s p f st.world) st.turns (continued (operation run o (context_at s) st) (λ u. pure normal))
      other_runs {L} o p f st other le lt same op cov = go (may_raise o) refl (Effects.effect_same n run.kinds (code.kinds_at s.func) same_kinds st.frame f same o st.world other le)
        where
          x : Effect
          x = effect run.kinds o st.frame st.world

          y : Effect
          y = effect (code.kinds_at s.func) o f st.world

          se : step code (here s p f st.world) ≡ performed code y (act_of s p f) s.frames st.world
          se = Running.step_at code most n s p f st.world (plain o) op

          pay : is_calling x ≡ true → pays_at code (here s p f st.world) ≡ true
          pay h = ap (λ z. pays (compiled_op z)) op ∙ calls_pay run.kinds st.frame o st.world h

          count : counts_at code (here s p f st.world) ≡ is_calling y
          count = ap (λ z. counts_op code (compiled_op z) (here s p f st.world)) op

          want : wanted_by (fetch code (compiled s.func) p) ≡ want_of o
          want = ap (λ z. wanted_by (compiled_op z)) op

          go : (b : Bool) → may_raise o ≡ b → Alike n (want_of o) b x y
              → Runs code most n 8 Any L s (p + 1) (here s p f st.world) st.turns (continued (perform run x (context_at s) st) (λ u. pure normal))
          go true e h =
              let c = cov ∙ ap (λ b. if b then s.cover else bare) e in
              Running.runs_slower code most n 8 (omega arith) (comes_runs s p st.frame f same c (perform run x (context_at s) st)
              (Performing.perform_comes code most fuel run calls_run n (act_of s p f) s.frames s.guards same_kinds (want_of o) x y st (here s p f st.world) refl h want
              (want_in n o le) same lt (subst (λ z. Agrees code (compiled s.func) s.guards z s.frames) (sym c) agrees) se pay count (Running.reaches_now code most n _ st.turns)))
          go false e h = Running.runs_slower code most n 8 (omega arith) (quiet_runs (want_of o) p f x y st h lt (Running.free_step code most n st.turns se (count ∙ quiet_no_call n (want_of o) x y h)))

  -- a frame that is as it was is as good as any
  on_alike : {m : State} {t c : ℕ} (s : Site) (p : ℕ) (x f : Frame) → SameBelow n x f → (r : Result (Unit {0}))
      → Comes code most x (act_of s p f) s.frames (goes_on x (act_of s p f) s.frames) m t r c
      → Comes code most x (act_of s p f) s.frames (goes_alike n (act_of s p f) s.frames) m t r c
  on_alike s p x f same (done v st) k =
      record { next = k.next; reaches = k.reaches; comes = (f, subst (λ y. SameBelow n y f) (sym k.comes.0) same, k.comes.1) }
  on_alike s p x f same (stopped y st) k = record { next = k.next; reaches = k.reaches; comes = k.comes }

  -- what a cleanup is, wherever it stands: it comes back to the frame as it was
  pub record Cleans (fuel : ℕ) (s : Site) (o : Op) (clean : Context → Action (Unit {0})) : Type 0 where
    pub runs : (gs : List Guard) (p : ℕ) (f : Frame) (st : RegionState) → st.turns < fuel → SameBelow n st.frame f
        → Agrees code (compiled s.func) gs (code.cover_at s.func p) s.frames → code.op_at s.func p ≡ Some (plain o)
        → Comes code most st.frame (act_of s p f) s.frames (goes_on st.frame (act_of s p f) s.frames) (here s p f st.world) st.turns
        (clean (context_of gs (act_of s p f) s.frames) st) 8

  module _ (fuel : ℕ) (run : Running) (calls_run : CallsRun code most fuel run) (s : Site) (same_kinds : SameKinds code s.func n run) where
    pub leave_cleans : Cleans fuel s leave (watched_leave run)
    leave_cleans = record {
      runs = λ gs p f st lt same ag op. Leaving.leave_comes code most fuel run calls_run (act_of s p f) s.frames gs ag
          (ap (λ z. wanted_by (compiled_op z)) op) st lt
          (Running.free_step code most n st.turns (Running.step_at code most n s p f st.world (plain leave) op)
          (Running.uncounted code most n s p f st.world (plain leave) op refl));
    }

    destroy_at : (d : ℕ) (gs : List Guard) (p : ℕ) (f : Frame) (st : RegionState) (x : Option Address) → st.turns < fuel → SameBelow n st.frame f
        → Agrees code (compiled s.func) gs (code.cover_at s.func p) s.frames → wanted_by (fetch code (compiled s.func) p) ≡ None
        → step code (here s p f st.world) ≡ performed code (if_some x (λ a. calls None d (address_word a ∷ []))) (act_of s p f) s.frames st.world
        → pays_at code (here s p f st.world) ≡ true
        → counts_at code (here s p f st.world) ≡ is_calling (if_some x (λ a. calls None d (address_word a ∷ [])))
        → Comes code most st.frame (act_of s p f) s.frames (goes_on st.frame (act_of s p f) s.frames) (here s p f st.world) st.turns
        (perform run (if_some x (λ a. calls None d (address_word a ∷ []))) (context_of gs (act_of s p f) s.frames) st) 8
    destroy_at d gs p f st None lt same ag want se pay count = record {
      next = finishes not_defined st.world;
      reaches = Running.slower code most n 8 (omega arith) (Running.free_step code most n st.turns se count);
      comes = refl;
    }
    destroy_at d gs p f st (Some x) lt same ag want se pay count =
        Coming.comes_slower code most 8 (omega arith) (Leaving.dropped_comes code most fuel run calls_run (act_of s p f) s.frames want _
        (calls_run.frames d (address_word x ∷ []) (act_of s p f) s.frames gs st)
        (Coming.call_comes code most fuel run calls_run d (address_word x ∷ []) (act_of s p f) s.frames gs st (here s p f st.world) refl se pay lt ag
        (Running.reaches_now code most n _ st.turns)))

    pub destroy_cleans : (q : Place) (d : ℕ) → slots_of_root q.root ≤ n → Cleans fuel s (destroy q d) (operation run (destroy q d))
    destroy_cleans q d le = record {
      runs = λ gs p f st lt same ag op. destroy_at d gs p f st (address_of run.kinds st.frame q) lt same ag (ap (λ z. wanted_by (compiled_op z)) op)
          (Running.step_at code most n s p f st.world (plain (destroy q d)) op ∙
          ap (λ x. performed code (if_some x (λ a. calls None d (address_word a ∷ []))) (act_of s p f) s.frames st.world)
          (Slots.address_same n run.kinds (code.kinds_at s.func) same_kinds st.frame f same st.world q le))
          (ap (λ z. pays (compiled_op z)) op)
          (ap (λ z. counts_op code (compiled_op z) (here s p f st.world)) op ∙ ap (λ x. is_calling (if_some x (λ a. calls None d (address_word a ∷ []))))
          (Slots.address_same n run.kinds (code.kinds_at s.func) same_kinds st.frame f same st.world q le));
    }

    module _ (agrees : Agrees code (compiled s.func) s.guards s.cover s.frames) where
      -- an operation in its cover
      pub op_runs : {L : ExitsAt} (o : Op) (p : ℕ) (f : Frame) (st : RegionState) → slots_of_op o ≤ n → st.turns < fuel
          → SameBelow n st.frame f → code.op_at s.func p ≡ Some (plain o) → code.cover_at s.func p ≡ (put o s.cover).cover
          → Runs code most n 8 Any L s (p + 1) (here s p f st.world) st.turns (continued (watched_operation run o (context_at s) st) (λ u. pure normal))
      op_runs (evaluate v) p f st le lt same op cov = other_runs fuel run calls_run s same_kinds agrees (evaluate v) p f st tt le lt same op cov
      op_runs (store q v) p f st le lt same op cov = other_runs fuel run calls_run s same_kinds agrees (store q v) p f st tt le lt same op cov
      op_runs (bind x q) p f st le lt same op cov = other_runs fuel run calls_run s same_kinds agrees (bind x q) p f st tt le lt same op cov
      op_runs (call k args) p f st le lt same op cov = other_runs fuel run calls_run s same_kinds agrees (call k args) p f st tt le lt same op cov
      op_runs (construct q k args) p f st le lt same op cov = other_runs fuel run calls_run s same_kinds agrees (construct q k args) p f st tt le lt same op cov
      op_runs (destroy q k) p f st le lt same op cov = other_runs fuel run calls_run s same_kinds agrees (destroy q k) p f st tt le lt same op cov
      op_runs (make x) p f st le lt same op cov = other_runs fuel run calls_run s same_kinds agrees (make x) p f st tt le lt same op cov
      op_runs (throw x ty d) p f st le lt same op cov = other_runs fuel run calls_run s same_kinds agrees (throw x ty d) p f st tt le lt same op cov
      op_runs rethrow p f st le lt same op cov = other_runs fuel run calls_run s same_kinds agrees rethrow p f st tt le lt same op cov
      op_runs (enter x) p f st le lt same op cov = other_runs fuel run calls_run s same_kinds agrees (enter x) p f st tt le lt same op cov
      op_runs leave p f st le lt same op cov =
          comes_runs s p st.frame f same cov (watched_leave run (context_at s) st) (on_alike s p st.frame f same (watched_leave run (context_at s) st)
          (leave_cleans.runs s.guards p f st lt same (subst (λ z. Agrees code (compiled s.func) s.guards z s.frames) (sym cov) agrees) op))
