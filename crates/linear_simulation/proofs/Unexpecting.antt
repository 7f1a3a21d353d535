-- What becomes of an exception that a specification stopped: the runtime's function does what is said of regions.
use Rattle.std.proofs.Common.{◌≡◌, ℕ, ◌+◌, ◌<◌, ◌≤◌, inl, inr, Bool, true, false, List, [], ◌∷◌, length, Option, Some, None, refl, sym, ap, ◌∙◌, subst, arith, is_none}
use Rattle.std.specs.Prelude.{ℤ, pos, ◌==◌, ◌&&◌, if◌then◌else◌}
use Rattle.std.proofs.lemmas.Bool.Decides.{nat_tests}
use Rattle.meaning_forms.specs.Class.{contains}
use Rattle.meaning_forms.specs.Outcome.{Stop, thrown, cancelled, ended, undefined, out_of_turns, deep}
use Rattle.region_forms.specs.Caught.{Entry, entered_on, counted, holds_other}
use Rattle.region_forms.specs.World.{Word, nothing, number_word, address_word, object_address, flying, unwinding, Frame, World, with_slot, type_at, exception_at}
use Rattle.region_forms.specs.Guard.{Guard, clauses, everything, allows, is_doomed}
use Rattle.region_forms.specs.Effect.{goes, raises, terminates, rethrown, entered, enters, is_foreign, is_full, kept, only_where}
use Rattle.region_forms.specs.Outcome.{State as RegionState, Context, Result, done, stopped, Action, continued, stop, change, ◌>>◌, only_if}
use Rattle.region_forms.specs.Ending.{Running, after_scope, after_barrier, behind_barrier, terminate_with, terminate, raise, perform, empty_call, bad_row}
use Rattle.region_forms.specs.Unexpected.{kept_with, made, throw_bad, keep_bad}
use Rattle.linear_forms.specs.Linear.{plain}
use Rattle.region_forms.specs.Form.{make, throw, rethrow, enter, leave}
use Rattle.linear_forms.specs.Tables.{bare, padded, list_of}
use Rattle.linear_forms.specs.Stub.{linear, call_unexpected}
use Rattle.linear_forms.specs.Activation.{Code, Activation, State, Next, finishes, fault, fetch, look, kinds, at, stub_frame, function_word, depth_of, terminated, next_if, not_defined}
use Rattle.linear_forms.specs.Search.{found}
use Rattle.linear_forms.specs.Unwinding.{unwind, pad_entered}
use Rattle.linear_forms.specs.Unwinding.{raise as raise_at}
use Rattle.linear_forms.specs.Forced.{force}
use Rattle.linear_forms.specs.Machine.{act_on, step}
use Rattle.linear_forms.specs.Operation.{wanted_by, resumed, performed}
use Rattle.linear_forms.specs.StubOperation.{checked}
use Rattle.linear_forms.specs.Agrees.{Agrees}
use Rattle.linear_forms.specs.Counted.{counts_op, counts_at}
use Rattle.linear_forms.specs.Pace.{Paced}
use Rattle.linear_forms.specs.CodeRuns.{context_of}
use Rattle.linear_forms.proofs.Running
use Rattle.linear_simulation.specs.Watched.{same_type, still, kept_type, kept_on, watched_leave, watched_handled, watched_pass, terminate_for, watched_after, watched_handler, watched_unexpected}
use Rattle.linear_simulation.specs.Comes.{turns_at, turns_left, Answered, Comes, comes_back, IsEnd, ComesToEnd, BackOrEnd, CallsRun}
use Rattle.linear_simulation.proofs.Coming.{none_more}
use Rattle.linear_simulation.proofs.Paying.{no_call}
use Rattle.linear_simulation.proofs.Coming
use Rattle.linear_simulation.proofs.Leaving
use Rattle.linear_simulation.proofs.Resuming
use Rattle.region_forms.specs.Lives.{is_native, is_being_built, can_travel, may_enter}

-- nothing is answered
abbrev pub NoAnswer : {A : Type 0} → Answered A
NoAnswer v st x = ⊥

module _ (code : Code) (most fuel : ℕ) (run : Running) (calls_run : CallsRun code most fuel run) (a : Activation) (fs : List Activation) (gs : List Guard)
    (agrees : Agrees code a.function gs (look code a.function a.place) fs) (f0 : Frame) where
  abbrev frames : List Activation
  frames = a ∷ fs

  abbrev ctx : Context
  ctx = context_of gs a fs

  -- the runtime's function is at a place, with what goes on in its slot 4
  abbrev AtMeets : {A : Type 0} → ℕ → Result A → Next → Type 0
  AtMeets q (done v st) x = ⊥
  AtMeets q (stopped (thrown e) st) x =
      (t : ℕ) × (y : Frame) × (y.slots 4 ≡ flying e t) × (found code a.function (look code a.function a.place) (type_at st.world e) fs ≡ Some t) ×
      (st.frame ≡ f0) × (x ≡ at call_unexpected q y frames st.world)
  AtMeets q (stopped (cancelled k) st) x =
      (y : Frame) × (y.slots 4 ≡ unwinding k) × (st.frame ≡ f0) × (x ≡ at call_unexpected q y frames st.world)
  AtMeets q (stopped (ended e) st) x = IsEnd code (ended e) st x
  AtMeets q (stopped undefined st) x = IsEnd code undefined st x
  AtMeets q (stopped out_of_turns st) x = IsEnd code out_of_turns st x
  AtMeets q (stopped deep st) x = IsEnd code deep st x

  pub record ComesAt {A : Type 0} (m : State) (t : ℕ) (q : ℕ) (r : Result A) (c : ℕ) : Type 0 where
    pub next : Next
    pub reaches : Paced code most m t next (turns_left r) c
    pub meets : AtMeets q r next

  at_slower : {A : Type 0} {m : State} {t q c : ℕ} {r : Result A} (d : ℕ) → c ≤ d → ComesAt m t q r c → ComesAt m t q r d
  at_slower d le k = record { next = k.next; reaches = Running.slower code most 0 d le k.reaches; meets = k.meets }

  end_at : {A : Type 0} {m : State} {t q c : ℕ} (x : Stop) (st : RegionState) (y : Next) → Paced code most m t y (turns_at x st) c → IsEnd code x st y → ComesAt {A = A} m t q (stopped x st) c
  end_at (thrown e) st y r h = absurd h
  end_at (cancelled k) st y r h = absurd h
  end_at (ended e) st y r h = record { next = y; reaches = r; meets = h }
  end_at undefined st y r h = record { next = y; reaches = r; meets = h }
  end_at out_of_turns st y r h = record { next = y; reaches = r; meets = h }
  end_at deep st y r h = record { next = y; reaches = r; meets = h }

  ends_at : {A : Type 0} {m : State} {t q c : ℕ} (r : Result A) → ComesToEnd code most m t r c → ComesAt m t q r c
  ends_at {A} {m} {t} {q} {c} r e = subst (λ z. ComesAt {A = A} m t q z c) (sym e.is) (end_at e.why e.state e.next e.reaches e.ends)

  -- the leaving of a handler, at a place of the runtime's function
  leave_back : {m : State} {t c : ℕ} (q : ℕ) (y : Frame) (st : RegionState) → fetch code call_unexpected q ≡ Some (linear (plain leave)) → look code call_unexpected q ≡ bare → t < fuel
      → Paced code most m t (at call_unexpected q y frames st.world) st.turns c
      → BackOrEnd code most st.frame (record { function = call_unexpected; place = q; frame = y }) frames m t (behind_barrier run ctx (watched_leave run) st) (c + 10)
  leave_back {m} {t} {c} q y st op lo lt r =
      let b : Activation = record { function = call_unexpected; place = q; frame = y } in
      let k = Leaving.leave_comes code most fuel run calls_run b frames (everything ∷ gs)
      (subst (λ z. Agrees code call_unexpected (everything ∷ gs) z frames) (sym lo) (record { same = λ x. refl }))
      (ap wanted_by op) st (omega (arith, r.falls, lt))
      (Coming.on_step code most r (ap (λ z. act_on code z b frames st.world) op)
      (ap (λ z. counts_op code z (record { top = b; frames = frames; world = st.world })) op)) in
      subst (λ d. BackOrEnd code most st.frame b frames m t
      (after_barrier run (record { guards = gs; depth = d }) (watched_leave run (record { guards = everything ∷ gs; depth = d }) st)) (c + 10)) (none_more (depth_of frames))
      (slow b (Resuming.barred code most fuel run calls_run st.frame b frames gs lo lt _ k))
    where
      slow : (b : Activation) {r : Result (Unit {0})} → BackOrEnd code most st.frame b frames m t r (c + 1 + 7 + 2) → BackOrEnd code most st.frame b frames m t r (c + 10)
      slow b (inl (s, is, fr, re)) = inl (s, is, fr, Running.slower code most 0 (c + 10) (omega arith) re)
      slow b (inr e) = inr (Coming.ends_slower code most (c + 10) (omega arith) e)

  -- what goes on has its type, and goes on behind the leaving
  thrown_left : {A : Type 0} {m : State} {t c : ℕ} (q e tg : ℕ) (y : Frame) (st : RegionState) (r : Result (Unit {0})) → y.slots 4 ≡ flying e tg
      → found code a.function (look code a.function a.place) (type_at st.world e) fs ≡ Some tg → st.frame ≡ f0
      → BackOrEnd code most st.frame (record { function = call_unexpected; place = q; frame = y }) frames m t r c
      → ComesAt {A = A} m t (q + 1) (kept_type (type_at st.world e) (continued r (λ u. stop (thrown e)))) c
  thrown_left {A} {m} {t} {c} q e tg y st r slot fd fr (inr k) =
      subst (λ z. ComesAt {A = A} m t (q + 1) (kept_type (type_at st.world e) (continued z (λ u. stop (thrown e)))) c) (sym k.is) (ended_so k.why k.state k.next k.reaches k.ends)
    where
      ended_so : (x : Stop) (s2 : RegionState) (z : Next) → Paced code most m t z (turns_at x s2) c → IsEnd code x s2 z
          → ComesAt {A = A} m t (q + 1) (kept_type (type_at st.world e) (continued {A = Unit {0}} (stopped x s2) (λ u. stop (thrown e)))) c
      ended_so (thrown g) s2 z r h = absurd h
      ended_so (cancelled k) s2 z r h = absurd h
      ended_so (ended g) s2 z r h = record { next = z; reaches = r; meets = h }
      ended_so undefined s2 z r h = record { next = z; reaches = r; meets = h }
      ended_so out_of_turns s2 z r h = record { next = z; reaches = r; meets = h }
      ended_so deep s2 z r h = record { next = z; reaches = r; meets = h }
  thrown_left {A} {m} {t} {c} q e tg y st r slot fd fr (inl (s2, is, fr2, re)) =
      subst (λ z. ComesAt {A = A} m t (q + 1) (kept_type (type_at st.world e) (continued z (λ u. stop (thrown e)))) c) (sym is) (go (same_type (type_at st.world e) (type_at s2.world e)) refl)
    where
      go : (b : Bool) → same_type (type_at st.world e) (type_at s2.world e) ≡ b → ComesAt {A = A} m t (q + 1) (still b e s2) c
      go false h = record { next = at call_unexpected (q + 1) y frames s2.world; reaches = re; meets = (_, refl, refl) }
      go true h = record {
        next = at call_unexpected (q + 1) y frames s2.world;
        reaches = re;
        meets = (tg, y, slot, ap (λ z. found code a.function (look code a.function a.place) z fs) (Resuming.same_type_is (type_at st.world e) (type_at s2.world e) h) ∙ fd, fr2 ∙ fr, refl);
      }

  cancelled_left : {A : Type 0} {m : State} {t c : ℕ} (q : ℕ) (k : ℤ) (y : Frame) (st : RegionState) (r : Result (Unit {0})) → y.slots 4 ≡ unwinding k → st.frame ≡ f0
      → BackOrEnd code most st.frame (record { function = call_unexpected; place = q; frame = y }) frames m t r c
      → ComesAt {A = A} m t (q + 1) (continued r (λ u. stop (cancelled k))) c
  cancelled_left {A} {m} {t} {c} q k y st r slot fr (inr e) =
      subst (λ z. ComesAt {A = A} m t (q + 1) (continued z (λ u. stop (cancelled k))) c) (sym e.is) (end_at e.why e.state e.next e.reaches e.ends)
  cancelled_left {A} {m} {t} {c} q k y st r slot fr (inl (s2, is, fr2, re)) =
      subst (λ z. ComesAt {A = A} m t (q + 1) (continued z (λ u. stop (cancelled k))) c) (sym is)
      (record { next = at call_unexpected (q + 1) y frames s2.world; reaches = re; meets = (y, slot, fr2 ∙ fr, refl) })

  left_from : {A : Type 0} {m : State} {t c : ℕ} (q : ℕ) (r : Result A) → fetch code call_unexpected q ≡ Some (linear (plain leave)) → look code call_unexpected q ≡ bare → t < fuel
      → ComesAt m t q r c → ComesAt m t (q + 1) (kept_on r (after_scope run ctx (watched_leave run) r)) (c + 10)
  left_from q (done v st) op lo lt k = absurd k.meets
  left_from q (stopped (thrown e) st) op lo lt k =
      let x = k.meets in
      thrown_left q e x.0 x.1 st (behind_barrier run ctx (watched_leave run) st) x.2 x.3 x.4 (leave_back q x.1 st op lo lt (Running.reaches_to code most 0 x.5 k.reaches))
  left_from q (stopped (cancelled z) st) op lo lt k =
      let x = k.meets in
      cancelled_left q z x.0 st (behind_barrier run ctx (watched_leave run) st) x.1 x.2 (leave_back q x.0 st op lo lt (Running.reaches_to code most 0 x.3 k.reaches))
  left_from {c = c} q (stopped (ended e) st) op lo lt k = record { next = k.next; reaches = Running.slower code most 0 (c + 10) (omega arith) k.reaches; meets = k.meets }
  left_from {c = c} q (stopped undefined st) op lo lt k = record { next = k.next; reaches = Running.slower code most 0 (c + 10) (omega arith) k.reaches; meets = k.meets }
  left_from {c = c} q (stopped out_of_turns st) op lo lt k = record { next = k.next; reaches = Running.slower code most 0 (c + 10) (omega arith) k.reaches; meets = k.meets }
  left_from {c = c} q (stopped deep st) op lo lt k = record { next = k.next; reaches = Running.slower code most 0 (c + 10) (omega arith) k.reaches; meets = k.meets }

  -- the end of the runtime's function
  resumed_from : {A : Type 0} {m : State} {t c : ℕ} (r : Result A) → ComesAt m t 17 r c → Comes code most f0 a fs NoAnswer m t r (c + 1)
  resumed_from (done v st) k = absurd k.meets
  resumed_from {c = c} (stopped (thrown e) st) k =
      let x = k.meets in
      record {
        next = unwind code (look code a.function a.place) x.0 e a.function a.frame fs st.world;
        reaches = Coming.on_step code most (Running.reaches_to code most 0 x.5 k.reaches)
            (ap (λ w. resumed code w (record { function = call_unexpected; place = 17; frame = x.1 }) frames st.world) x.2) refl;
        comes = (x.0, x.3, x.4, refl);
      }
  resumed_from {c = c} (stopped (cancelled z) st) k =
      let x = k.meets in
      record {
        next = force code (look code a.function a.place) z a.function a.frame fs st.world;
        reaches = Coming.on_step code most (Running.reaches_to code most 0 x.3 k.reaches)
            (ap (λ w. resumed code w (record { function = call_unexpected; place = 17; frame = x.0 }) frames st.world) x.1) refl;
        comes = (x.2, refl);
      }
  resumed_from {c = c} (stopped (ended e) st) k = record { next = k.next; reaches = Running.slower code most 0 (c + 1) (omega arith) k.reaches; comes = k.meets }
  resumed_from {c = c} (stopped undefined st) k = record { next = k.next; reaches = Running.slower code most 0 (c + 1) (omega arith) k.reaches; comes = k.meets }
  resumed_from {c = c} (stopped out_of_turns st) k = record { next = k.next; reaches = Running.slower code most 0 (c + 1) (omega arith) k.reaches; comes = k.meets }
  resumed_from {c = c} (stopped deep st) k = record { next = k.next; reaches = Running.slower code most 0 (c + 1) (omega arith) k.reaches; comes = k.meets }

  -- what is raised in the extent of the pad at 14 comes to the leaving
  from_pad : {A : Type 0} {m : State} {t c : ℕ} (q : ℕ) (y : Frame) (r : Result A) → look code call_unexpected q ≡ padded 14 (pos 0 ∷ [])
      → Comes code most f0 (record { function = call_unexpected; place = q; frame = y }) frames NoAnswer m t r c → ComesAt m t 15 r c
  from_pad q y (done v st) lo k = absurd k.comes
  from_pad q y (stopped (thrown e) st) lo k =
      let x = k.comes in
      let z = with_slot 5 (number_word (pos 0)) (with_slot 4 (flying e x.0) y) in
      record {
        next = at call_unexpected 15 z frames st.world;
        reaches = Running.reaches_to code most 0 (x.3 ∙ ap (λ w. unwind code w x.0 e call_unexpected y frames st.world) lo) k.reaches;
        meets = (x.0, z, refl, ap (λ w. found code call_unexpected w (type_at st.world e) frames) (sym lo) ∙ x.1, x.2, refl);
      }
  from_pad q y (stopped (cancelled j) st) lo k =
      let x = k.comes in
      let z = with_slot 5 (number_word (pos 0)) (with_slot 4 (unwinding j) y) in
      record {
        next = at call_unexpected 15 z frames st.world;
        reaches = Running.reaches_to code most 0 (x.1 ∙ ap (λ w. force code w j call_unexpected y frames st.world) lo) k.reaches;
        meets = (z, refl, x.0, refl);
      }
  from_pad q y (stopped (ended e) st) lo k = record { next = k.next; reaches = k.reaches; meets = k.comes }
  from_pad q y (stopped undefined st) lo k = record { next = k.next; reaches = k.reaches; meets = k.comes }
  from_pad q y (stopped out_of_turns st) lo k = record { next = k.next; reaches = k.reaches; meets = k.comes }
  from_pad q y (stopped deep st) lo k = record { next = k.next; reaches = k.reaches; meets = k.comes }

  in_pad : (q : ℕ) → look code call_unexpected q ≡ padded 14 (pos 0 ∷ []) → Agrees code call_unexpected gs (look code call_unexpected q) frames
  in_pad q lo = subst (λ z. Agrees code call_unexpected gs z frames) (sym lo) (record { same = agrees.same })

  -- terminate with the handler that an exception has
  terminates_at : {A : Type 0} {m : State} {t q c : ℕ} (h : Option ℕ) (p : ℕ) (y : Frame) (st : RegionState) → t < fuel
      → Paced code most m t (terminated h (record { function = call_unexpected; place = p; frame = y } ∷ frames) st.world) st.turns c
      → ComesAt {A = A} m t q (terminate_with run h ctx st) (c + 2)
  terminates_at {A} {m} {t} {q} {c} h p y st lt r =
      subst (λ d. ComesAt {A = A} m t q (terminate_with run h (record { guards = gs; depth = d }) st) (c + 2)) (none_more (depth_of frames))
      (ends_at _ (Coming.terminate_ends code most fuel run calls_run h (record { function = call_unexpected; place = p; frame = y }) frames gs st (omega (arith, r.falls, lt)) r))

  -- terminate with the handler kept with an exception, where the runtime's function reads it
  for_at : {A : Type 0} {m : State} {t q c : ℕ} (e : ℕ) (h : Option ℕ) (p : ℕ) (y : Frame) (st : RegionState) → t < fuel
      → step code (record { top = record { function = call_unexpected; place = p; frame = y }; frames = frames; world = st.world })
      ≡ terminated (kept_with (exception_at st.world e)).terminate_handler (record { function = call_unexpected; place = p; frame = y } ∷ frames) st.world
      → counts_at code (record { top = record { function = call_unexpected; place = p; frame = y }; frames = frames; world = st.world }) ≡ false
      → Paced code most m t (at call_unexpected p y frames st.world) st.turns c
      → ComesAt {A = A} m t q (terminate_for run e h ctx st) (c + 3)
  for_at {A} {m} {t} {q} {c} e h p y st lt se quiet r = go (same_type h (kept_with (exception_at st.world e)).terminate_handler) refl
    where
      b : Activation
      b = record { function = call_unexpected; place = p; frame = y }

      go : (d : Bool) → same_type h (kept_with (exception_at st.world e)).terminate_handler ≡ d
          → ComesAt {A = A} m t q ((if d then terminate_with run h ctx else stop deep) st) (c + 3)
      go false z = record { next = at call_unexpected p y frames st.world; reaches = Running.slower code most 0 (c + 3) (omega arith) r; meets = (_, refl, refl) }
      go true z =
          let same = Resuming.same_type_is h (kept_with (exception_at st.world e)).terminate_handler z in
          at_slower (c + 3) (omega arith) (terminates_at h p y st lt (Coming.on_step code most r (se ∙ ap (λ x. terminated x (b ∷ frames) st.world) same) quiet))

  raises_at : {A : Type 0} {m : State} {t c : ℕ} (e q : ℕ) (y : Frame) (st : RegionState) → st.frame ≡ f0 → look code call_unexpected q ≡ padded 14 (pos 0 ∷ []) → t < fuel
      → Paced code most m t (raise_at code e (record { function = call_unexpected; place = q; frame = y }) frames st.world) st.turns c
      → ComesAt {A = A} m t 15 (raise run e ctx st) (c + 2)
  raises_at {A} {m} {t} {c} e q y st fr lo lt r =
      let b : Activation = record { function = call_unexpected; place = q; frame = y } in
      subst (λ d. ComesAt {A = A} m t 15 (raise run e (record { guards = gs; depth = d }) st) (c + 2)) (none_more (depth_of frames))
      (from_pad q y _ lo (subst (λ z. Comes {A = A} code most z b frames NoAnswer m t (raise run e (context_of gs b frames) st) (c + 2)) fr
      (Coming.raise_comes code most fuel run calls_run (NoAnswer {A = A}) e b frames gs st (omega (arith, r.falls, lt)) (in_pad q lo) r)))

  -- the newest handled exception, just entered, is thrown again
  rethrown_top : (f : ℕ) (xs : List Entry) (w : World) → can_travel w f ≡ true → rethrown (entered_on f xs) w ≡ raises f w
  rethrown_top f [] w can = ap (λ b. only_where b (raises f w)) can
  rethrown_top f (x ∷ xs) w can = go (x.number == f)
    where
      go : (b : Bool) → rethrown (counted b f false x xs) w ≡ raises f w
      go true = ap (λ b. only_where b (raises f w)) can
      go false = ap (λ b. only_where b (raises f w)) can

  module _ (e tg g : ℕ) (k : ℤ) (types : List ℕ) (means : code.sense_at g k ≡ list_of types) (th : Option ℕ) where
    -- the frame of the runtime's function, with the handler, then with what came out of it, then with the answer
    abbrev entry : Frame
    entry = stub_frame (flying e tg) (number_word k) (number_word (pos g))

    abbrev with_handler : Word → Frame
    with_handler h = with_slot 3 h entry

    abbrev with_thrown : Word → ℕ → ℕ → Frame
    with_thrown h f t = with_slot 5 (number_word (pos 1)) (with_slot 4 (flying f t) (with_handler h))

    abbrev with_answer : Word → ℕ → ℕ → ℤ → Frame
    with_answer h f t v = with_slot 6 (number_word v) (with_thrown h f t)

    -- a bad_exception is thrown
    bad_at : {A : Type 0} {m : State} {t c : ℕ} (h : Word) (f tf : ℕ) (st : RegionState) → st.frame ≡ f0 → t < fuel
        → Paced code most m t (at call_unexpected 11 (with_answer h f tf (pos 1)) frames st.world) st.turns c
        → ComesAt {A = A} m t 15 (throw_bad run ctx st) (c + 6)
    bad_at {A} {m} {t} {c} h f tf st fr lt r = go (is_full st.world) (Coming.on_step code most r refl (no_call (kinds code call_unexpected) (with_answer h f tf (pos 1)) (make 7) st.world refl))
      where
        e2 : ℕ
        e2 = st.world.last_number + 1

        y : Frame
        y = with_slot 7 (address_word (object_address e2)) (with_answer h f tf (pos 1))

        st2 : RegionState
        st2 = record st { world = made st.world }

        after : Action A
        after = keep_bad e2 >> raise run e2 ctx

        b12 : Activation
        b12 = record { function = call_unexpected; place = 12; frame = y }

        either : (s : RegionState) → s.frame ≡ f0 → (b : Bool)
            → Paced code most m t (performed code (only_where b (raises e2 (kept e2 bad_row None s.world))) (record { function = call_unexpected; place = 13; frame = y }) frames s.world) s.turns (c + 1 + 1)
            → ComesAt {A = A} m t 15 (continued (only_if b (change (kept e2 bad_row None)) s) (λ u. raise run e2 ctx)) (c + 4)
        either s fr true k = at_slower (c + 4) (omega arith) (raises_at e2 13 y (record s { world = kept e2 bad_row None s.world }) fr refl lt k)
        either s fr false k = at_slower (c + 4) (omega arith) (end_at undefined s (finishes not_defined s.world) k refl)

        thrown_bad : (r : Result (Unit {0})) → BackOrEnd code most st2.frame b12 frames m t r (c + 1) → ComesAt {A = A} m t 15 (continued r (λ u. after)) (c + 6)
        thrown_bad r (inl (s, is, fr2, re)) =
            subst (λ z. ComesAt {A = A} m t 15 (continued z (λ u. after)) (c + 6)) (sym is)
            (at_slower (c + 6) (omega arith) (either s (fr2 ∙ fr) (is_being_built s.world e2) (Coming.on_step code most re refl
            (no_call (kinds code call_unexpected) y (throw 7 bad_row None) s.world refl))))
        thrown_bad r (inr e) = subst (λ z. ComesAt {A = A} m t 15 (continued z (λ u. after)) (c + 6)) (sym e.is)
            (at_slower (c + 6) (omega arith) (end_at e.why e.state e.next e.reaches e.ends))

        go : (b : Bool) → Paced code most m t (performed code (if b then terminates st.world.installed.terminate_handler st.world else goes y (made st.world))
            (record { function = call_unexpected; place = 11; frame = with_answer h f tf (pos 1) }) frames st.world) st.turns (c + 1)
            → ComesAt {A = A} m t 15 ((if b then terminate run ctx else (change made >> (empty_call run ctx >> after))) st) (c + 6)
        go true k = at_slower (c + 6) (omega arith) (terminates_at st.world.installed.terminate_handler 11 (with_answer h f tf (pos 1)) st lt k)
        go false k = thrown_bad (empty_call run ctx st2) (Leaving.empty_back code most fuel run calls_run a b12 fs frames gs st2 _ refl refl refl k)

    -- what came out of the handler, entered, is passed on
    passed_on : {A : Type 0} {m : State} {t c : ℕ} (h : Word) (f tf : ℕ) (st : RegionState) → st.frame ≡ f0 → t < fuel → rethrown st.world.caught st.world ≡ raises f st.world
        → Paced code most m t (at call_unexpected 6 (with_thrown h f tf) frames st.world) st.turns c
        → ComesAt {A = A} m t 15 (watched_pass run types e th f ctx st) (c + 10)
    passed_on {A} {m} {t} {c} h f tf st fr lt top r =
        subst (λ rows. ComesAt {A = A} m t 15 ((if allows rows types ty then raise run f ctx else (if contains types bad_row then throw_bad run ctx else
        terminate_for run e th ctx)) st) (c + 10)) (sym calls_run.types)
        (go (allows code.rows types ty) (contains types bad_row)
        (Coming.on_step code most r (ap (λ z. at call_unexpected 7 (with_answer h f tf (checked code.rows z ty)) frames st.world) means) refl))
      where
        ty : Option ℕ
        ty = type_at st.world f

        go : (b d : Bool) → Paced code most m t (at call_unexpected 7 (with_answer h f tf (if b then pos 0 else (if d then pos 1 else pos 2))) frames st.world) st.turns (c + 1)
            → ComesAt {A = A} m t 15 ((if b then raise run f ctx else (if d then throw_bad run ctx else
            terminate_for run e th ctx)) st) (c + 10)
        go true d k =
            let y = with_answer h f tf (pos 0) in
            let k2 = Coming.on_step code most k refl refl in
            at_slower (c + 10) (omega arith) (raises_at f 10 y st fr refl lt (Coming.on_step code most k2
            (ap (λ z. performed code z (record { function = call_unexpected; place = 10; frame = y }) frames st.world) top)
            (no_call (kinds code call_unexpected) y rethrow st.world refl)))
        go false true k =
            let k2 = Coming.on_step code most (Coming.on_step code most k refl refl) refl refl in
            at_slower (c + 10) (omega arith) (bad_at h f tf st fr lt k2)
        go false false k =
            let k2 = Coming.on_step code most (Coming.on_step code most k refl refl) refl refl in
            at_slower (c + 10) (omega arith) (for_at e th 9 (with_answer h f tf (pos 2)) st lt refl refl k2)

    end_then : {A : Type 0} {m : State} {t q c : ℕ} (r : Result (Unit {0})) (go : Action A) → ComesToEnd code most m t r c → ComesAt {A = A} m t q (continued r (λ u. go)) c
    end_then {A} {m} {t} {q} {c} r go k =
        subst (λ z. ComesAt {A = A} m t q (continued z (λ u. go)) c) (sym k.is) (end_at k.why k.state k.next k.reaches k.ends)

    -- an exception that came out of the handler
    thrown_at : {A : Type 0} {m : State} {t c : ℕ} (h : Word) (f tf : ℕ) (s : RegionState) → s.frame ≡ f0 → t < fuel
        → Paced code most m t (at call_unexpected 5 (with_thrown h f tf) frames s.world) s.turns c
        → ComesAt {A = A} m t 16 (continued {A = Unit {0}} (perform run (enters f s.frame s.world) ctx s) (λ u. watched_handled run ctx (watched_pass run types e th f ctx))) (c + 21)
    thrown_at {A} {m} {t} {c} h f tf s fr lt r = either (may_enter s.world f) refl (Coming.on_step code most r refl (no_call (kinds code call_unexpected) (with_thrown h f tf) (enter 4) s.world refl))
      where
        y : Frame
        y = with_thrown h f tf

        b5 : Activation
        b5 = record { function = call_unexpected; place = 5; frame = y }

        next : Action A
        next = watched_handled run ctx (watched_pass run types e th f ctx)

        s2 : RegionState
        s2 = record s { world = entered f s.world }

        first : (b d : Bool) → (b && d) ≡ true → b ≡ true
        first true d h = refl
        first false d h = absurd (cc h)

        go : may_enter s.world f ≡ true → (b : Bool)
            → Paced code most m t (performed code (if b then terminates s.world.installed.terminate_handler s.world else goes y (entered f s.world)) b5 frames s.world) s.turns (c + 1)
            → ComesAt {A = A} m t 16 (continued {A = Unit {0}} (perform run (if b then terminates s.world.installed.terminate_handler s.world else goes s.frame (entered f s.world)) ctx s) (λ u. next)) (c + 21)
        go can true k =
            subst (λ d. ComesAt {A = A} m t 16 (continued {A = Unit {0}} (terminate_with run s.world.installed.terminate_handler (record { guards = gs; depth = d }) s) (λ u. next)) (c + 21)) (none_more (depth_of frames))
            (at_slower (c + 21) (omega arith) (end_then _ next (Coming.terminate_ends code most fuel run calls_run s.world.installed.terminate_handler b5 frames gs s (omega (arith, k.falls, lt)) k)))
        go can false k =
            let p = passed_on {A = A} h f tf s2 fr lt (rethrown_top f s.world.caught (entered f s.world) (first (can_travel s.world f) _ can)) k in
            at_slower (c + 21) (omega arith) (left_from 15 (watched_pass run types e th f ctx s2) refl refl lt p)

        either : (b : Bool) → may_enter s.world f ≡ b
            → Paced code most m t (performed code (only_where b (if is_foreign (exception_at s.world f) && holds_other f s.world.caught then terminates s.world.installed.terminate_handler s.world
            else goes y (entered f s.world))) b5 frames s.world) s.turns (c + 1)
            → ComesAt {A = A} m t 16 (continued {A = Unit {0}} (perform run (only_where b (if is_foreign (exception_at s.world f) && holds_other f s.world.caught
            then terminates s.world.installed.terminate_handler s.world else goes s.frame (entered f s.world))) ctx s) (λ u. next)) (c + 21)
        either true can k = go can (is_foreign (exception_at s.world f) && holds_other f s.world.caught) k
        either false can k = at_slower (c + 21) (omega arith) (end_at undefined s (finishes not_defined s.world) k refl)

    -- what comes out of the handler
    handler_at : {A : Type 0} {m : State} {t c : ℕ} (h : Word) (r : Result ℤ) → t < fuel
        → Comes code most f0 (record { function = call_unexpected; place = 1; frame = with_handler h }) frames
        (comes_back code (record { function = call_unexpected; place = 1; frame = with_handler h }) frames) m t r c
        → ComesAt {A = A} m t 16 (watched_after run types e th ctx r) (c + 23)
    handler_at {c = c} h (done v s) lt k =
        let b : Activation = record { function = call_unexpected; place = 1; frame = with_handler h } in
        let r2 = Running.reaches_to code most 0 (k.comes ∙ Leaving.drops code most fuel run calls_run b frames v s.world refl) k.reaches in
        at_slower (c + 23) (omega arith) (for_at e th 2 (with_handler h) s lt refl refl r2)
    handler_at {c = c} h (stopped (thrown f) s) lt k =
        let x = k.comes in
        let y = with_handler h in
        let len : length frames ≡ x.0 = cc x.1 in
        let enters_pad = ap (λ b. if b then pad_entered (fetch code call_unexpected 3) (flying f x.0) (pos 1) call_unexpected 3 y frames s.world else finishes fault s.world)
        (ap (λ d. d == x.0) len ∙ itself x.0) in
        let r2 = Coming.on_step code most (Running.reaches_to code most 0 (x.3 ∙ enters_pad) k.reaches) refl refl in
        at_slower (c + 23) (omega arith) (thrown_at h f x.0 s x.2 lt r2)
      where
        itself : (z : ℕ) → (z == z) ≡ true
        itself z = grind (arith, nat_tests)
    handler_at {c = c} h (stopped (cancelled z) s) lt k =
        let y = with_slot 5 (number_word (pos 0)) (with_slot 4 (unwinding z) (with_handler h)) in
        record {
          next = at call_unexpected 16 y frames s.world;
          reaches = Running.slower code most 0 (c + 23) (omega arith) (Coming.on_step code most (Running.reaches_to code most 0 k.comes.1 k.reaches) refl refl);
          meets = (y, refl, k.comes.0, refl);
        }
    handler_at {c = c} h (stopped (ended x) s) lt k = record { next = k.next; reaches = Running.slower code most 0 (c + 23) (omega arith) k.reaches; meets = k.comes }
    handler_at {c = c} h (stopped undefined s) lt k = record { next = k.next; reaches = Running.slower code most 0 (c + 23) (omega arith) k.reaches; meets = k.comes }
    handler_at {c = c} h (stopped out_of_turns s) lt k = record { next = k.next; reaches = Running.slower code most 0 (c + 23) (omega arith) k.reaches; meets = k.comes }
    handler_at {c = c} h (stopped deep s) lt k = record { next = k.next; reaches = Running.slower code most 0 (c + 23) (omega arith) k.reaches; meets = k.comes }

    -- the handler is called, if there is one
    called_at : {A : Type 0} {m : State} {t c : ℕ} (h : Option ℕ) (st : RegionState) → st.frame ≡ f0 → t < fuel
        → Paced code most m t (at call_unexpected 1 (with_handler (function_word h)) frames st.world) st.turns c
        → ComesAt {A = A} m t 16 (watched_handler run types e th h ctx st) (c + 24)
    called_at {c = c} None st fr lt r = at_slower (c + 24) (omega arith) (for_at e th 2 (with_handler nothing) st lt refl refl (Coming.on_step code most r refl refl))
    called_at {A} {m} {t} {c} (Some u) st fr lt r =
        let w = number_word (pos u) in
        let b : Activation = record { function = call_unexpected; place = 1; frame = with_handler w } in
        let k = Coming.call_comes code most fuel run calls_run u [] b frames (clauses (None ∷ []) ∷ gs) st (record { top = b; frames = frames; world = st.world }) refl refl refl
        (omega (arith, r.falls, lt)) (record { same = all_stopped }) r in
        subst (λ d. ComesAt {A = A} m t 16 (watched_after run types e th ctx (run.call u [] (record { guards = clauses (None ∷ []) ∷ gs; depth = d }) st)) (c + 24)) (none_more (depth_of frames))
        (at_slower (c + 24) (omega arith) (handler_at w _ lt (subst (λ z. Comes code most z b frames (comes_back code b frames) m t (run.call u [] (context_of (clauses (None ∷ []) ∷ gs) b frames) st) (c + 1)) fr k)))
      where
        all_stopped : (ty : Option ℕ) → is_doomed code.rows (clauses (None ∷ []) ∷ gs) ty ≡ is_none (found code call_unexpected (padded 3 (pos 1 ∷ pos 0 ∷ [])) ty frames)
        all_stopped None = refl
        all_stopped (Some ty) = refl

  -- an exception that a specification stops
  pub unexpected_comes : {A : Type 0} {m : State} {t c : ℕ} (e tg g : ℕ) (k : ℤ) (types : List ℕ) → code.sense_at g k ≡ list_of types → (st : RegionState) → st.frame ≡ f0 → t < fuel
      → Paced code most m t (at call_unexpected 0 (stub_frame (flying e tg) (number_word k) (number_word (pos g))) frames st.world) st.turns c
      → Comes {A = A} code most f0 a fs NoAnswer m t (watched_unexpected run types e ctx st) (c + 36)
  unexpected_comes {A} {m} {t} {c} e tg g k types means st fr lt r =
      let h = (kept_with (exception_at st.world e)).unexpected_handler in
      let th = (kept_with (exception_at st.world e)).terminate_handler in
      let s1 : RegionState = record st { world = entered e st.world } in
      either th h s1 (is_native (exception_at st.world e) && may_enter st.world e) (Coming.on_step code most r refl refl)
    where
      either : (th h : Option ℕ) (s1 : RegionState) (b : Bool)
          → Paced code most m t (next_if b st.world (at call_unexpected 1 (with_handler e tg g k types means th (function_word h)) frames (entered e st.world))) st.turns (c + 1)
          → Comes {A = A} code most f0 a fs NoAnswer m t (continued (only_if b (change (entered e)) st) (λ u. watched_handled run ctx (watched_handler run types e th h ctx))) (c + 36)
      either th h s1 true k0 =
          let s1 : RegionState = record st { world = entered e st.world } in
          let k2 = called_at e tg g k types means th {A = A} h s1 fr lt k0 in
          Coming.comes_slower code most (c + 36) (omega arith) (resumed_from _ (left_from 16 (watched_handler run types e th h ctx s1) refl refl lt k2))
      either th h s1 false k0 = record { next = finishes not_defined st.world; reaches = Running.slower code most 0 (c + 36) (omega arith) k0; comes = refl }
