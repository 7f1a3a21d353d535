-- A region that is protected by a cleanup.
use Rattle.std.proofs.Common.{◌≡◌, ℕ, zero, suc, ◌+◌, ◌<◌, ◌≤◌, inl, inr, true, List, [], ◌∷◌, ◌++◌, length, Some, None, refl, sym, ap, ◌∙◌, subst, arith, length-append, Bool, false}
use Rattle.std.specs.Prelude.{ℤ, pos}
use Rattle.meaning_forms.specs.Class.{contains}
use Rattle.meaning_forms.specs.Outcome.{Stop, thrown, cancelled, ended, undefined, out_of_turns, deep}
use Rattle.region_forms.specs.Form.{Place, Op, destroy, leave, Cleanup, destroy_scope, destroy_part, free_object, leave_handler}
use Rattle.region_forms.specs.World.{flying, unwinding, address_in, exception_of, exception_in_slot, Frame, type_at, World}
use Rattle.region_forms.specs.Guard.{everything}
use Rattle.region_forms.specs.Effect.{freed}
use Rattle.region_forms.specs.Mentioned.{slots_of_cleanup}
use Rattle.region_forms.specs.Outcome.{State as RegionState, Context, Flow, normal, leaves, Result, done, stopped, Action, continued, pure, stop, change, guarded_by, only_if}
use Rattle.region_forms.specs.Ending.{Running, behind_barrier}
use Rattle.region_forms.specs.Meaning.{operation, outwards, give_up}
use Rattle.linear_forms.specs.Linear.{plain, label, pad, free, resume}
use Rattle.linear_forms.specs.Tables.{bare, cleanup}
use Rattle.linear_forms.specs.Stub.{compiled}
use Rattle.linear_forms.specs.Activation.{Code, Activation, State, goes_to, at, next_if, Next, finishes, not_defined}
use Rattle.linear_forms.specs.Search.{found}
use Rattle.linear_forms.specs.Unwinding.{unwind}
use Rattle.linear_forms.specs.Forced.{force}
use Rattle.linear_forms.specs.Sites.{Placed}
use Rattle.linear_forms.specs.Exits.{Exit, exit_to, inner, first_label, crosses, beyond}
use Rattle.linear_forms.specs.Distinct.{distinct}
use Rattle.linear_forms.specs.Emission.{Emitting, quiet, put, cleaned, exit_cleanup, exit_code, protect_exit, protect_code}
use Rattle.linear_forms.specs.Means.{Means}
use Rattle.linear_forms.specs.Agrees.{Agrees}
use Rattle.linear_forms.specs.Pace.{Paced}
use Rattle.linear_forms.specs.CodeRuns.{HasAt, Site, context_at, SameBelow, LeftAt, ExitsAt, Any, Runs, here}
use Rattle.linear_forms.proofs.Running
use Rattle.linear_simulation.specs.Watched.{kept_type, watched_leave, watched_protect}
use Rattle.linear_simulation.specs.Comes.{BackOrEnd, CallsRun}
use Rattle.linear_simulation.specs.Simulates.{Fits, IsChained, GoInside}
use Rattle.linear_simulation.proofs.Operations.{act_of, Cleans}
use Rattle.linear_simulation.proofs.Operations
use Rattle.linear_simulation.proofs.Parts
use Rattle.linear_simulation.proofs.Padding.{pad_frame}
use Rattle.linear_simulation.proofs.Padding
use Rattle.linear_simulation.proofs.Resuming
use Rattle.linear_simulation.proofs.Passing
use Rattle.linear_simulation.proofs.Exiting
use Rattle.region_forms.specs.Lives.{is_being_built}

-- what is protected, then the cleanup of exceptional exits alone
abbrev part_after : Action (Unit {0}) → Result Flow → Result Flow
part_after act (done a st) = done a st
part_after act (stopped (thrown e) st) = kept_type (type_at st.world e) (continued (act st) (λ u. stop (thrown e)))
part_after act (stopped (cancelled k) st) = continued (act st) (λ u. stop (cancelled k))
part_after act (stopped x st) = stopped x st

-- what is protected, then the cleanup of every exit, which is `act` at exceptional ones
abbrev scope_after : Action (Unit {0}) → Action (Unit {0}) → Result Flow → Result Flow
scope_after act clean (done a st) = continued (clean st) (λ u. pure a)
scope_after act clean (stopped x st) = part_after act (stopped x st)

module _ (run : Running) (c : Context) where
  scope_is : (q : Place) (d : ℕ) (r : Result Flow)
      → scope_after (behind_barrier run c (operation run (destroy q d))) (operation run (destroy q d) c) r ≡ watched_protect run (destroy_scope q d) c r
  scope_is q d (done a st) = refl
  scope_is q d (stopped (thrown e) st) = refl
  scope_is q d (stopped (cancelled k) st) = refl
  scope_is q d (stopped (ended e) st) = refl
  scope_is q d (stopped undefined st) = refl
  scope_is q d (stopped out_of_turns st) = refl
  scope_is q d (stopped deep st) = refl

  leave_is : (r : Result Flow) → scope_after (behind_barrier run c (watched_leave run)) (watched_leave run c) r ≡ watched_protect run leave_handler c r
  leave_is (done a st) = refl
  leave_is (stopped (thrown e) st) = refl
  leave_is (stopped (cancelled k) st) = refl
  leave_is (stopped (ended e) st) = refl
  leave_is (stopped undefined st) = refl
  leave_is (stopped out_of_turns st) = refl
  leave_is (stopped deep st) = refl

  part_is : (q : Place) (d : ℕ) (r : Result Flow) → part_after (behind_barrier run c (operation run (destroy q d))) r ≡ watched_protect run (destroy_part q d) c r
  part_is q d (done a st) = refl
  part_is q d (stopped (thrown e) st) = refl
  part_is q d (stopped (cancelled k) st) = refl
  part_is q d (stopped (ended e) st) = refl
  part_is q d (stopped undefined st) = refl
  part_is q d (stopped out_of_turns st) = refl
  part_is q d (stopped deep st) = refl

  free_is : (y : ℕ) (r : Result Flow) → part_after (λ st. give_up (exception_in_slot st.frame y) st) r ≡ watched_protect run (free_object y) c r
  free_is y (done a st) = refl
  free_is y (stopped (thrown e) st) = refl
  free_is y (stopped (cancelled k) st) = refl
  free_is y (stopped (ended e) st) = refl
  free_is y (stopped undefined st) = refl
  free_is y (stopped out_of_turns st) = refl
  free_is y (stopped deep st) = refl

module _ (code : Code) (most fuel n : ℕ) (run : Running) (calls_run : CallsRun code most fuel run) (em : Emitting) (s : Site)
    (fits : Fits code run em n s.func) (chained : IsChained s.cover) (agrees : Agrees code (compiled s.func) s.guards s.cover s.frames)
    (means : Means (code.sense_at s.func) em.filter cleanup) (p : ℕ) where
  abbrev pub inside : Site
  inside = record { func = s.func; cover = cleaned em (p + 1) s.cover; frames = s.frames; guards = s.guards }

  -- what the cleanup of the pad does
  pub record PadRuns (act : Action (Unit {0})) : Type 0 where
    pub runs : (x : Frame) (st : RegionState) → st.turns < fuel → SameBelow n st.frame x
        → BackOrEnd code most st.frame (act_of code most n s (p + 1 + 1) x) s.frames (here s (p + 1 + 1) x st.world) st.turns (act st) 10

  pub clean_pad : (o : Op) (clean : Context → Action (Unit {0})) → Cleans code most n fuel s o clean → code.op_at s.func (p + 1 + 1) ≡ Some (plain o)
      → code.cover_at s.func (p + 1 + 1) ≡ bare → PadRuns (behind_barrier run (context_at s) clean)
  clean_pad o clean cleans op cov = record {
    runs = λ x st lt same.
        Resuming.barred code most fuel run calls_run st.frame (act_of code most n s (p + 1 + 1) x) s.frames s.guards cov lt
        (clean (guarded_by everything (context_at s)) st)
        (cleans.runs (everything ∷ s.guards) (p + 1 + 1) x st lt same
        (subst (λ z. Agrees code (compiled s.func) (everything ∷ s.guards) z s.frames) (sym cov) (record { same = λ t. refl })) op);
  }

  pub free_pad : (y : ℕ) → y < n → code.op_at s.func (p + 1 + 1) ≡ Some (free y) → PadRuns (λ st. give_up (exception_in_slot st.frame y) st)
  free_pad y lt op = record { runs = λ x st lt2 same. go x st same (is_being_built st.world (exception_in_slot st.frame y)) refl }
    where
      -- the object is freed, or nothing is defined
      frees : Frame → World → ℕ → Bool → Next
      frees x w e b = next_if b w (at (compiled s.func) (p + 1 + 1 + 1) x s.frames (freed e w))

      reaches : (x : Frame) (st : RegionState) → SameBelow n st.frame x → (b : Bool) → is_being_built st.world (exception_in_slot st.frame y) ≡ b
          → Paced code most (record { top = act_of code most n s (p + 1 + 1) x; frames = s.frames; world = st.world }) st.turns (frees x st.world (exception_in_slot st.frame y) b) st.turns 10
      reaches x st same b is =
          Running.slower code most n 10 (omega arith) (Running.free_step code most n st.turns (Running.step_at code most n s (p + 1 + 1) x st.world (free y) op ∙
          ap (λ z. frees x st.world (exception_of (address_in z)) (is_being_built st.world (exception_of (address_in z)))) (same.slots y lt) ∙
          ap (frees x st.world (exception_in_slot st.frame y)) is) (Running.uncounted code most n s (p + 1 + 1) x st.world (free y) op refl))

      go : (x : Frame) (st : RegionState) → SameBelow n st.frame x → (b : Bool) → is_being_built st.world (exception_in_slot st.frame y) ≡ b
          → BackOrEnd code most st.frame (act_of code most n s (p + 1 + 1) x) s.frames (here s (p + 1 + 1) x st.world) st.turns
          (only_if b (change (freed (exception_in_slot st.frame y))) st) 10
      go x st same true is = inl (record st { world = freed (exception_in_slot st.frame y) st.world }, refl, refl, reaches x st same true is)
      go x st same false is =
          inr (record { why = undefined; state = st; is = refl; next = finishes not_defined st.world; reaches = reaches x st same false is; ends = refl })

  module _ (act : Action (Unit {0})) (pads : PadRuns act) (pad_op : code.op_at s.func (p + 1) ≡ Some (pad em.object em.selector))
      (resume_op : code.op_at s.func (p + 1 + 1 + 1) ≡ Some (resume em.object)) (resume_cover : code.cover_at s.func (p + 1 + 1 + 1) ≡ s.cover) where
    from : {m mid : State} {t u c : ℕ} {x0 : Frame} (a : Activation) (r : Result (Unit {0})) → Paced code most m t (goes_to mid) u c
        → BackOrEnd code most x0 a s.frames mid u r 10 → BackOrEnd code most x0 a s.frames m t r (c + 10)
    from a r k (inl (st, is, fr, re)) = inl (st, is, fr, Running.reaches_on code most n k re)
    from a r k (inr e) = inr (record { why = e.why; state = e.state; is = e.is; next = e.next; reaches = Running.reaches_on code most n k e.reaches; ends = e.ends })

    -- an exception comes out of what is protected
    pub thrown_out : {c : ℕ} {L : ExitsAt} {m : State} {t p' : ℕ} (e tg : ℕ) (f : Frame) (st : RegionState) → t < fuel → SameBelow n st.frame f
        → found code (compiled s.func) inside.cover (type_at st.world e) s.frames ≡ Some tg
        → Paced code most m t (unwind code inside.cover tg e (compiled s.func) f s.frames st.world) st.turns c
        → Runs code most n (c + 11) Any L s p' m t (kept_type (type_at st.world e) (continued (act st) (λ u. stop (thrown e))))
    thrown_out {L = L} e tg f st lt same fd r =
        let en = Padding.entered_flying code em s (p + 1) chained means tg e f st.world pad_op fd in
        let x = pad_frame em (flying e tg) en.0 f in
        let same2 = Padding.pad_same code s.func n em fits.behind (flying e tg) en.0 st.frame f same in
        Running.runs_slower code most n _ (omega arith)
        (Resuming.thrown_on code most n em s {L = L} e tg (type_at st.world e) (p + 1 + 1) st.frame x (act st)
        (sym (Padding.found_outside code em s (p + 1) chained means (type_at st.world e)) ∙ fd) resume_op resume_cover
        (Padding.pad_object code s.func n em fits.behind (flying e tg) en.0 f) same2
        (from (act_of code most n s (p + 1 + 1) x) (act st) (Running.reaches_to code most n en.1 r) (pads.runs x st (omega (arith, r.falls, lt)) same2)))

    pub cancelled_out : {c : ℕ} {L : ExitsAt} {m : State} {t p' : ℕ} (k : ℤ) (f : Frame) (st : RegionState) → t < fuel → SameBelow n st.frame f
        → Paced code most m t (force code inside.cover k (compiled s.func) f s.frames st.world) st.turns c
        → Runs code most n (c + 11) Any L s p' m t (continued (act st) (λ u. stop (cancelled k)))
    cancelled_out {L = L} k f st lt same r =
        let en = Padding.entered_forced code em s (p + 1) chained means k f st.world pad_op in
        let x = pad_frame em (unwinding k) (pos 0) f in
        let same2 = Padding.pad_same code s.func n em fits.behind (unwinding k) (pos 0) st.frame f same in
        Running.runs_slower code most n _ (omega arith)
        (Resuming.cancelled_on code most n em s {L = L} k (p + 1 + 1) st.frame x (act st) resume_op resume_cover
        (Padding.pad_object code s.func n em fits.behind (unwinding k) (pos 0) f) same2
        (from (act_of code most n s (p + 1 + 1) x) (act st) (Running.reaches_to code most n en r) (pads.runs x st (omega (arith, r.falls, lt)) same2)))

    -- what is protected, then the cleanup of exceptional exits alone
    stop_out : {c : ℕ} {L M : ExitsAt} {m : State} {t q0 p' : ℕ} (x : Stop) (st : RegionState) → t < fuel
        → Runs code most n c Any L inside q0 m t (stopped x st) → Runs code most n (c + 11) Any M s p' m t (part_after act (stopped x st))
    stop_out {M = M} (thrown e) st lt a =
        let x = a.meets in thrown_out {L = M} e x.0 x.1 st lt x.3 x.2 (Running.reaches_to code most n x.4 a.reaches)
    stop_out {M = M} (cancelled k) st lt a =
        let x = a.meets in cancelled_out {L = M} k x.0 st lt x.1 (Running.reaches_to code most n x.2 a.reaches)
    stop_out {c} (ended e) st lt a = record { next = a.next; reaches = Running.slower code most n (c + 11) (omega arith) a.reaches; meets = a.meets }
    stop_out {c} undefined st lt a = record { next = a.next; reaches = Running.slower code most n (c + 11) (omega arith) a.reaches; meets = a.meets }
    stop_out {c} out_of_turns st lt a = record { next = a.next; reaches = Running.slower code most n (c + 11) (omega arith) a.reaches; meets = a.meets }
    stop_out {c} deep st lt a = record { next = a.next; reaches = Running.slower code most n (c + 11) (omega arith) a.reaches; meets = a.meets }

    pub part_out : {c : ℕ} {xs : List Exit} {outs0 : List ℕ} {m : State} {t q0 : ℕ} (r : Result Flow) → t < fuel
        → Runs code most n c Any (LeftAt code em n inside xs outs0) inside q0 m t r
        → Runs code most n (c + 11) Any (LeftAt code em n s xs outs0) s q0 m t (part_after act r)
    part_out {c} (done normal st) lt a = record { next = a.next; reaches = Running.slower code most n (c + 11) (omega arith) a.reaches; meets = a.meets }
    part_out {c} (done (leaves k) st) lt a =
        let x = a.meets in
        record {
          next = a.next;
          reaches = Running.slower code most n (c + 11) (omega arith) a.reaches;
          meets = record { frame = x.frame; same = x.same; is = x.is; way = x.way; known = x.known; inside = x.inside };
        }
    part_out {xs = xs} {outs0 = outs0} (stopped x st) lt a = stop_out {L = LeftAt code em n inside xs outs0} {M = LeftAt code em n s xs outs0} x st lt a

    -- what is protected, then the cleanup of every exit
    module _ (o : Op) (clean : Context → Action (Unit {0})) (cleans : Cleans code most n fuel s o clean) (cov : (put o s.cover).cover ≡ s.cover) (xs : List Exit) (l : ℕ)
        (outs0 outs : List ℕ) (known : (k : ℕ) → contains outs0 (suc k) ≡ true → k < length xs) (listed : (k : ℕ) → contains outs0 (suc k) ≡ true → contains outs k ≡ true)
        (within : (k : ℕ) → contains outs k ≡ true → k < length xs) (q0 : ℕ)
        (has : HasAt code s.func q0 (exit_code em (Some o) s.cover xs l outs ++ quiet (label l) ∷ [])) where
      abbrev own_exit : Exit
      own_exit = record { cleanup = Some (l + 2); end = l }

      first_own : (j : ℕ) → first_label j (own_exit ∷ xs) ≡ l + 2
      first_own zero = refl
      first_own (suc j) = refl

      crosses_own : (j : ℕ) → crosses j (own_exit ∷ xs) ≡ true
      crosses_own zero = refl
      crosses_own (suc j) = refl

      loc : Exiting.Located code most n fuel em s fits.behind agrees o clean cleans cov xs l outs0 known outs q0
      loc = Exiting.located code most n fuel em s fits.behind agrees o clean cleans cov xs l outs0 known outs q0 has

      abbrev last : ℕ
      last = q0 + length (exit_code em (Some o) s.cover xs l outs)

      pub scope_out : {c : ℕ} {m : State} {t : ℕ} (r : Result Flow) → t < fuel
          → Runs code most n c Any (LeftAt code em n inside (own_exit ∷ xs) outs0) inside q0 m t r
          → Runs code most n (c + (length outs + 12)) Any (LeftAt code em n s (exit_to l ∷ xs) outs0) s last m t (scope_after act (clean (context_at s)) r)
      scope_out {c} (done normal st) lt a =
          let x = a.meets in
          let k = loc.comes x.0 st.world st.turns in
          let reached = Running.reaches_on code most n (Running.reaches_to code most n x.3 a.reaches) k.3 in
          Running.runs_slower code most n (c + (length outs + 12)) (omega arith) (Running.runs_after code most n reached
          (Parts.runs_at code most n {L = LeftAt code em n s (exit_to l ∷ xs) outs0} loc.place
          (Exiting.normal_runs code most n fuel em s fits.behind agrees o clean cleans cov xs l outs0 known outs loc.qc loc.has loc.last listed within
          k.0 st (omega (arith, a.reaches.falls, lt)) (k.1 st.frame x.1) k.2)))
      scope_out {c} (done (leaves k) st) lt a =
          let x = a.meets in
          let there = x.is ∙ ap (λ y. at (compiled s.func) (code.label_at s.func y) x.frame s.frames st.world) (first_own (inner k)) ∙
          ap (λ y. at (compiled s.func) y x.frame s.frames st.world) loc.has.2 in
          Running.runs_slower code most n (c + (length outs + 12)) (omega arith) (Running.runs_after code most n (Running.reaches_to code most n there a.reaches)
          (Parts.runs_at code most n {L = LeftAt code em n s (exit_to l ∷ xs) outs0} loc.place
          (Exiting.leaves_runs code most n fuel em s fits.behind agrees o clean cleans cov xs l outs0 known outs loc.qc loc.has loc.last listed within
          k (inner k) refl x.frame st (omega (arith, a.reaches.falls, lt)) x.same (x.way (crosses_own (inner k))) x.known)))
      scope_out {c} (stopped x st) lt a =
          Running.runs_slower code most n (c + (length outs + 12)) (omega arith)
          (stop_out {L = LeftAt code em n inside (own_exit ∷ xs) outs0} {M = LeftAt code em n s (exit_to l ∷ xs) outs0} x st lt a)

  -- the whole, where outs0 are the exits out of what is protected
  module _ (xs : List Exit) (l : ℕ) (outs0 : List ℕ) (go_inside : GoInside (length xs) (beyond outs0)) (b : ℕ) (f : Frame) (st : RegionState) (same : SameBelow n st.frame f)
      (lt : st.turns < fuel) (r : Result Flow) (body : List Placed) where
    abbrev outs : List ℕ
    outs = distinct (beyond outs0)

    abbrev start : ℕ
    start = p + 1 + 1 + 1 + 1 + 1

    abbrev BodyRuns : Cleanup → Type 0
    BodyRuns cl = Runs code most n b Any (LeftAt code em n inside (protect_exit cl l ∷ xs) outs0) inside (start + length body) (here s start f st.world) st.turns r

    abbrev Whole : Cleanup → Type 0
    Whole cl = Runs code most n (b + length outs + 16) Any (LeftAt code em n s xs (beyond outs0)) s (p + length (protect_code em cl s.cover xs l outs body))
        (here s p f st.world) st.turns (continued (watched_protect run cl (context_at s) r) (λ flow. pure (outwards flow)))

    -- to what is protected
    entered : (cl : Cleanup) → HasAt code s.func p (protect_code em cl s.cover xs l outs body) → Paced code most (here s p f st.world) st.turns (goes_to (here s start f st.world)) st.turns 2
    entered cl has = Running.reaches_on code most n
        (Running.free_step code most n st.turns (Parts.jump_step code most n s p (l + 1) (p + 1 + 1 + 1 + 1) f st.world has.0 has.3.3.3.3.2)
        (Running.jump_quiet code most n s p (l + 1) (p + 1 + 1 + 1 + 1) f st.world has.0 has.3.3.3.3.2 (omega arith)))
        (Running.free_step code most n st.turns (Parts.label_step code most n s (p + 1 + 1 + 1 + 1) (l + 1) f st.world has.3.3.3.3.0)
        (Running.label_quiet code most n s (p + 1 + 1 + 1 + 1) (l + 1) f st.world has.3.3.3.3.0))

    -- from there to the end
    closed : (cl : Cleanup) → HasAt code s.func p (protect_code em cl s.cover xs l outs body)
        → Runs code most n (b + (length outs + 12)) Any (LeftAt code em n s (exit_to l ∷ xs) outs0) s (start + length body + length (exit_code em (exit_cleanup cl) s.cover xs l outs))
        (here s start f st.world) st.turns (watched_protect run cl (context_at s) r) → Whole cl
    closed cl has a =
        let rest = exit_code em (exit_cleanup cl) s.cover xs l outs in
        let tail = Parts.has_back code s.func start body (rest ++ quiet (label l) ∷ []) has.3.3.3.3.3 in
        let end = Parts.has_back code s.func (start + length body) rest (quiet (label l) ∷ []) tail in
        let e : start + length body + length rest + 1 ≡ p + length (protect_code em cl s.cover xs l outs body) =
        omega (arith, length-append body (rest ++ quiet (label l) ∷ []), length-append rest (quiet (label l) ∷ [])) in
        Parts.runs_at code most n {L = LeftAt code em n s xs (beyond outs0)} e
        (Running.runs_slower code most n (b + length outs + 16) (omega arith) (Running.bounded_runs code most n l s (start + length body + length rest) (here s p f st.world) st.turns
        (watched_protect run cl (context_at s) r) end.0 end.2 (Running.runs_after code most n (entered cl has) a)))

    -- the code of the exits
    tail_of : (cl : Cleanup) → HasAt code s.func p (protect_code em cl s.cover xs l outs body)
        → HasAt code s.func (start + length body) (exit_code em (exit_cleanup cl) s.cover xs l outs ++ quiet (label l) ∷ [])
    tail_of cl has = Parts.has_back code s.func start body (exit_code em (exit_cleanup cl) s.cover xs l outs ++ quiet (label l) ∷ []) has.3.3.3.3.3

    -- without a cleanup at normal exits
    part_closed : (cl : Cleanup) (act : Action (Unit {0})) → PadRuns act → HasAt code s.func p (protect_code em cl s.cover xs l outs body)
        → exit_cleanup cl ≡ None → part_after act r ≡ watched_protect run cl (context_at s) r → BodyRuns cl → Whole cl
    part_closed cl act pads has none is a =
        let a2 = subst (λ o. Runs code most n b Any (LeftAt code em n inside (record { cleanup = elim o [ None ↦ None | Some x ↦ Some (l + 2) ]; end = l } ∷ xs) outs0) inside (start + length body) (here s start f st.world) st.turns r) none a in
        let out = part_out act pads has.3.0 has.3.3.3.0 has.3.3.3.1 {xs = exit_to l ∷ xs} {outs0 = outs0} r lt a2 in
        let e : start + length body ≡ start + length body + length (exit_code em (exit_cleanup cl) s.cover xs l outs) =
        subst (λ o. start + length body ≡ start + length body + length (exit_code em o s.cover xs l outs)) (sym none) (omega arith) in
        closed cl has (subst (λ z. Runs code most n (b + (length outs + 12)) Any (LeftAt code em n s (exit_to l ∷ xs) outs0) s
        (start + length body + length (exit_code em (exit_cleanup cl) s.cover xs l outs)) (here s start f st.world) st.turns z) is
        (Parts.runs_at code most n {L = LeftAt code em n s (exit_to l ∷ xs) outs0} e (Running.runs_slower code most n (b + (length outs + 12)) (omega arith) out)))

    -- with one
    known : (k : ℕ) → contains outs0 (suc k) ≡ true → k < length xs
    known k h = go_inside k (Parts.has_beyond outs0 k h)

    listed : (k : ℕ) → contains outs0 (suc k) ≡ true → contains outs k ≡ true
    listed k h = Passing.distinct_has (beyond outs0) k (Parts.has_beyond outs0 k h)

    within : (k : ℕ) → contains outs k ≡ true → k < length xs
    within k h = go_inside k (Passing.distinct_of (beyond outs0) k h)

    scope_closed : (cl : Cleanup) (o : Op) (clean : Context → Action (Unit {0})) → Cleans code most n fuel s o clean → PadRuns (behind_barrier run (context_at s) clean)
        → (put o s.cover).cover ≡ s.cover → HasAt code s.func p (protect_code em cl s.cover xs l outs body)
        → exit_cleanup cl ≡ Some o → scope_after (behind_barrier run (context_at s) clean) (clean (context_at s)) r ≡ watched_protect run cl (context_at s) r → BodyRuns cl → Whole cl
    scope_closed cl o clean cleans pads cov has some is a =
        let q0 = start + length body in
        let a2 = subst (λ o. Runs code most n b Any (LeftAt code em n inside (record { cleanup = elim o [ None ↦ None | Some x ↦ Some (l + 2) ]; end = l } ∷ xs) outs0) inside q0 (here s start f st.world) st.turns r) some a in
        let tail = subst (λ o. HasAt code s.func q0 (exit_code em o s.cover xs l outs ++ quiet (label l) ∷ [])) some (tail_of cl has) in
        let out = scope_out (behind_barrier run (context_at s) clean) pads has.3.0 has.3.3.3.0 has.3.3.3.1 o clean cleans cov xs l outs0 outs known listed within q0 tail r lt a2 in
        closed cl has (subst (λ z. Runs code most n (b + (length outs + 12)) Any (LeftAt code em n s (exit_to l ∷ xs) outs0) s
        (q0 + length (exit_code em (exit_cleanup cl) s.cover xs l outs)) (here s start f st.world) st.turns z) is
        (subst (λ o. Runs code most n (b + (length outs + 12)) Any (LeftAt code em n s (exit_to l ∷ xs) outs0) s
        (q0 + length (exit_code em o s.cover xs l outs)) (here s start f st.world) st.turns (scope_after (behind_barrier run (context_at s) clean) (clean (context_at s)) r)) (sym some) out))

    pub protect_runs : (cl : Cleanup) → slots_of_cleanup cl ≤ n → HasAt code s.func p (protect_code em cl s.cover xs l outs body) → BodyRuns cl → Whole cl
    protect_runs (destroy_scope q d) le has a =
        let cleans = Operations.destroy_cleans code most n fuel run calls_run s fits.kinds q d le in
        scope_closed (destroy_scope q d) (destroy q d) (operation run (destroy q d)) cleans (clean_pad (destroy q d) (operation run (destroy q d)) cleans has.3.3.0 has.3.3.1)
        refl has refl (scope_is run (context_at s) q d r) a
    protect_runs (destroy_part q d) le has a =
        let cleans = Operations.destroy_cleans code most n fuel run calls_run s fits.kinds q d le in
        part_closed (destroy_part q d) (behind_barrier run (context_at s) (operation run (destroy q d)))
        (clean_pad (destroy q d) (operation run (destroy q d)) cleans has.3.3.0 has.3.3.1) has refl (part_is run (context_at s) q d r) a
    protect_runs (free_object y) le has a =
        part_closed (free_object y) (λ st. give_up (exception_in_slot st.frame y) st) (free_pad y (omega (arith, le)) has.3.3.0) has refl (free_is run (context_at s) y r) a
    protect_runs leave_handler le has a =
        let cleans = Operations.leave_cleans code most n fuel run calls_run s fits.kinds in
        scope_closed leave_handler leave (watched_leave run) cleans (clean_pad leave (watched_leave run) cleans has.3.3.0 has.3.3.1)
        refl has refl (leave_is run (context_at s) r) a
