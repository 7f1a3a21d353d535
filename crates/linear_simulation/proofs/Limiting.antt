-- A region with a specification: its pad, and what the runtime's function makes of what the list does not allow.
use Rattle.std.proofs.Common.{◌≡◌, ℕ, ◌+◌, ◌<◌, inl, inr, Bool, true, false, List, [], ◌∷◌, length, Option, Some, None, refl, sym, ap, ◌∙◌, subst, arith}
use Rattle.std.specs.Prelude.{ℤ, pos, if◌then◌else◌}
use Rattle.meaning_forms.specs.Outcome.{thrown, cancelled, ended, undefined, out_of_turns, deep}
use Rattle.region_forms.specs.World.{number_word, flying, unwinding, Frame, type_at}
use Rattle.region_forms.specs.Guard.{listed, allows}
use Rattle.region_forms.specs.Outcome.{State as RegionState, Flow, normal, leaves, Result, done, stopped, stop}
use Rattle.region_forms.specs.Ending.{Running}
use Rattle.linear_forms.specs.Linear.{jump_filter, resume, unexpected}
use Rattle.linear_forms.specs.Tables.{Cover, Sense, cleanup, clause, list_of}
use Rattle.linear_forms.specs.Verdict.{Verdict, target, no_way, clean, nothing_here, verdict, pad_verdict, is_cleanup, some_cleanup}
use Rattle.linear_forms.specs.Stub.{compiled, call_unexpected}
use Rattle.linear_forms.specs.Activation.{Code, Activation, State, Next, at, fetch, stub_frame}
use Rattle.linear_forms.specs.Search.{found, found_by, found_above}
use Rattle.linear_forms.specs.Unwinding.{pad_entered, unwound_by, unwound_above, unwind}
use Rattle.linear_forms.specs.Forced.{forced_by, forced_above, force}
use Rattle.linear_forms.specs.Sites.{Placed}
use Rattle.linear_forms.specs.Exits.{Exit}
use Rattle.linear_forms.specs.Emission.{Emitting, chain_of, guarded, limit_code}
use Rattle.linear_forms.specs.Means.{Means}
use Rattle.linear_forms.specs.Agrees.{Agrees}
use Rattle.linear_forms.specs.Pace.{Paced}
use Rattle.linear_forms.specs.CodeRuns.{HasAt, Site, context_at, SameBelow, LeftAt, ExitsAt, Any, Runs}
use Rattle.linear_forms.proofs.Running
use Rattle.linear_forms.proofs.Choosing.{handlers_are_chosen}
use Rattle.linear_simulation.specs.Watched.{watched_limit, watched_unexpected}
use Rattle.linear_simulation.specs.Comes.{Comes, CallsRun}
use Rattle.linear_simulation.specs.Simulates.{Fits, IsChained}
use Rattle.linear_simulation.proofs.Operations.{act_of}
use Rattle.linear_simulation.proofs.Parts
use Rattle.linear_simulation.proofs.Padding.{pad_frame}
use Rattle.linear_simulation.proofs.Padding
use Rattle.linear_simulation.proofs.Resuming
use Rattle.linear_simulation.proofs.Selecting.{Stopping}
use Rattle.linear_simulation.proofs.Selecting
use Rattle.linear_simulation.proofs.Catching.{pad_selector, no_pad, no_cleanup}
use Rattle.linear_simulation.proofs.Catching
use Rattle.linear_simulation.proofs.Unexpecting.{NoAnswer}
use Rattle.linear_simulation.proofs.Unexpecting

-- the types of a list
abbrev list_types : Sense → List ℕ
list_types (list_of types) = types
list_types _ = []

module _ (code : Code) (most fuel n : ℕ) (run : Running) (calls_run : CallsRun code most fuel run) (em : Emitting) (s : Site) (fits : Fits code run em n s.func)
    (chained : IsChained s.cover) (agrees : Agrees code (compiled s.func) s.guards s.cover s.frames) (types : List ℕ) (means : Means (code.sense_at s.func) em.filter (list_of types))
    (l p : ℕ) (body : List Placed) (has : HasAt code s.func p (limit_code em (em.filter (list_of types)) s.cover l body)) where
  abbrev k : ℤ
  k = em.filter (list_of types)

  abbrev senses : ℤ → Sense
  senses = code.sense_at s.func

  abbrev pub limit_cover : Cover
  limit_cover = guarded (p + 1) (k ∷ []) s.cover

  abbrev pub in_limit : Site
  in_limit = record { func = s.func; cover = limit_cover; frames = s.frames; guards = listed types ∷ s.guards }

  -- what the runtime's function gives, at the operation that calls it
  answer_runs : {c : ℕ} {L : ExitsAt} {m : State} {t p' : ℕ} (q : ℕ) (x0 x : Frame) → SameBelow n x0 x → code.cover_at s.func q ≡ s.cover → (r : Result Flow)
      → Comes code most x0 (act_of code most n s q x) s.frames NoAnswer m t r c → Runs code most n c Any L s p' m t r
  answer_runs q x0 x same cov (done v st) a = absurd a.comes
  answer_runs q x0 x same cov (stopped (thrown e) st) a = record {
    next = a.next;
    reaches = a.reaches;
    meets = (
      a.comes.0,
      x,
      ap (λ y. found code (compiled s.func) y (type_at st.world e) s.frames) (sym cov) ∙ a.comes.1,
      subst (λ y. SameBelow n y x) (sym a.comes.2) same,
      a.comes.3 ∙ ap (λ y. unwind code y a.comes.0 e (compiled s.func) x s.frames st.world) cov,
    );
  }
  answer_runs q x0 x same cov (stopped (cancelled z) st) a = record {
    next = a.next;
    reaches = a.reaches;
    meets = (x, subst (λ y. SameBelow n y x) (sym a.comes.0) same, a.comes.1 ∙ ap (λ y. force code y z (compiled s.func) x s.frames st.world) cov);
  }
  answer_runs q x0 x same cov (stopped (ended e) st) a = record { next = a.next; reaches = a.reaches; meets = a.comes }
  answer_runs q x0 x same cov (stopped undefined st) a = record { next = a.next; reaches = a.reaches; meets = a.comes }
  answer_runs q x0 x same cov (stopped out_of_turns st) a = record { next = a.next; reaches = a.reaches; meets = a.comes }
  answer_runs q x0 x same cov (stopped deep st) a = record { next = a.next; reaches = a.reaches; meets = a.comes }

  -- an exception goes on that the list allows
  module _ (e tg : ℕ) (f : Frame) (st : RegionState) (same : SameBelow n st.frame f) where
    goes_on_with : {c : ℕ} {L : ExitsAt} {m : State} {t p' : ℕ} (sel : ℤ) → (sel ≡ k → ⊥) → found code (compiled s.func) s.cover (type_at st.world e) s.frames ≡ Some tg
        → Paced code most m t (pad_entered (fetch code (compiled s.func) (p + 1)) (flying e tg) sel (compiled s.func) (p + 1) f s.frames st.world) st.turns c
        → Runs code most n (c + 2) Any L s p' m t (stopped (thrown e) st)
    goes_on_with {L = L} {p' = p'} sel ne fd r =
        let x = pad_frame em (flying e tg) sel f in
        let r1 = Running.reaches_to code most n (Padding.at_pad code em s.func (p + 1) (flying e tg) sel f s.frames st.world has.3.0) r in
        let s1 = Catching.filter_step code most n em s (p + 1 + 1) (l + 2) k sel x st.world false has.3.3.0 (pad_selector em (flying e tg) sel f) (Selecting.fails sel k ne) in
        Running.runs_slower code most n _ (omega arith) (Running.runs_after code most n (Running.reaches_on code most n r1 (Running.free_step code most n st.turns s1
        (Running.uncounted code most n s (p + 1 + 1) x st.world (jump_filter em.selector k (l + 2)) has.3.3.0 refl)))
        (Catching.goes_farther code most n em s {L = L} e tg (p + 1 + 1 + 1) p' x st (Padding.pad_object code s.func n em fits.behind (flying e tg) sel f)
        (Padding.pad_same code s.func n em fits.behind (flying e tg) sel st.frame f same) fd has.3.3.3.0 has.3.3.3.1))

    out_of : (v : Verdict) → verdict code.rows senses (chain_of s.cover) (type_at st.world e) ≡ v → found_by v (length s.frames) (found_above code (type_at st.world e) s.frames) ≡ Some tg
        → found code (compiled s.func) s.cover (type_at st.world e) s.frames ≡ Some tg
    out_of v q h =
        sym (Padding.found_chain code s.func s.cover chained (type_at st.world e) s.frames) ∙
        ap (λ x. found_by x (length s.frames) (found_above code (type_at st.world e) s.frames)) q ∙ h

    -- a filter that stops what the list allows is not the list's
    not_this : (j : ℤ) → allows code.rows types (type_at st.world e) ≡ true → Stopping code.rows senses (type_at st.world e) j → j ≡ k → ⊥
    not_this j al (inl (u, su, hu)) q = let no : clause u ≡ list_of types = sym su ∙ ap senses q ∙ means in cc no
    not_this j al (inr (ts, su, hu)) q =
        let same_list : ts ≡ types = ap list_types (sym su ∙ ap senses q ∙ means) in
        let no : false ≡ true = sym hu ∙ ap (λ z. allows code.rows z (type_at st.world e)) same_list ∙ al in
        cc no

    not_zero : pos 0 ≡ k → ⊥
    not_zero q = let no : cleanup ≡ list_of types = sym fits.zero ∙ ap senses q ∙ means in cc no

    allowed_on : {c : ℕ} {L : ExitsAt} {m : State} {t p' : ℕ} (v : Verdict) → verdict code.rows senses (chain_of s.cover) (type_at st.world e) ≡ v
        → allows code.rows types (type_at st.world e) ≡ true → found_by v (length s.frames) (found_above code (type_at st.world e) s.frames) ≡ Some tg
        → Paced code most m t (unwound_by code v (p + 1) tg e (compiled s.func) f s.frames st.world (unwound_above code tg e s.frames st.world)) st.turns c
        → Runs code most n (c + 39) Any L s p' m t (stopped (thrown e) st)
    allowed_on {c} {L} (target j) q al h r =
        Running.runs_slower code most n (c + 39) (omega arith) (goes_on_with {L = L} j (not_this j al (Selecting.stops_so code.rows senses (chain_of s.cover) (type_at st.world e) j q)) (out_of (target j) q h)
        (Running.reaches_to code most n (Padding.target_entered code j (p + 1) tg e s.func f s.frames st.world (unwound_above code tg e s.frames st.world) (cc h)) r))
    allowed_on no_way q al h r = absurd (cc h)
    allowed_on {c} {L} clean q al h r = Running.runs_slower code most n (c + 39) (omega arith) (goes_on_with {L = L} (pos 0) not_zero (out_of clean q h) r)
    allowed_on {c} nothing_here q al h r = record {
      next = unwind code s.cover tg e (compiled s.func) f s.frames st.world;
      reaches = Running.slower code most n (c + 39) (omega arith) (Running.reaches_to code most n (sym (no_pad code s.cover chained tg e s.func f s.frames st.world q)) r);
      meets = (tg, f, out_of nothing_here q h, same, refl);
    }

    -- one that the list does not allow is passed to the runtime
    stopped_on : {c : ℕ} {L : ExitsAt} {m : State} {t p' : ℕ} → t < fuel
        → Paced code most m t (pad_entered (fetch code (compiled s.func) (p + 1)) (flying e tg) k (compiled s.func) (p + 1) f s.frames st.world) st.turns c
        → Runs code most n (c + 39) Any L s p' m t (watched_unexpected run types e (context_at s) st)
    stopped_on {c} {L} {m} {t} lt r =
        let x = pad_frame em (flying e tg) k f in
        let same2 = Padding.pad_same code s.func n em fits.behind (flying e tg) k st.frame f same in
        let obj = Padding.pad_object code s.func n em fits.behind (flying e tg) k f in
        let slot = pad_selector em (flying e tg) k f in
        let q = p + 1 + 1 + 1 + 1 + 1 in
        let a : Activation = act_of code most n s q x in
        let r1 = Running.reaches_to code most n (Padding.at_pad code em s.func (p + 1) (flying e tg) k f s.frames st.world has.3.0) r in
        let s1 = Catching.filter_step code most n em s (p + 1 + 1) (l + 2) k k x st.world true has.3.3.0 slot (Catching.holds_itself code most n em s k k refl) ∙
        ap (λ z. at (compiled s.func) z x s.frames st.world) has.3.3.3.3.2 in
        let s2 = Parts.label_step code most n s (p + 1 + 1 + 1 + 1) (l + 2) x st.world has.3.3.3.3.0 in
        let s3 = Running.step_at code most n s q x st.world (unexpected em.object em.selector) has.3.3.3.3.3.0 ∙
        ap (λ y. at call_unexpected 0 (stub_frame y (x.slots em.selector) (number_word (pos s.func))) (a ∷ s.frames) st.world) obj ∙
        ap (λ y. at call_unexpected 0 (stub_frame (flying e tg) y (number_word (pos s.func))) (a ∷ s.frames) st.world) slot in
        let q1 = Running.uncounted code most n s (p + 1 + 1) x st.world (jump_filter em.selector k (l + 2)) has.3.3.0 refl in
        let q2 = Running.label_quiet code most n s (p + 1 + 1 + 1 + 1) (l + 2) x st.world has.3.3.3.3.0 in
        let q3 = Running.uncounted code most n s q x st.world (unexpected em.object em.selector) has.3.3.3.3.3.0 refl in
        let r4 = Running.reaches_on code most n (Running.reaches_on code most n (Running.reaches_on code most n r1 (Running.free_step code most n st.turns s1 q1)) (Running.free_step code most n st.turns s2 q2))
        (Running.free_step code most n st.turns s3 q3) in
        let cov = has.3.3.3.3.3.1 in
        Running.runs_slower code most n (c + 39) (omega arith) (answer_runs {L = L} q st.frame x same2 cov _
        (Unexpecting.unexpected_comes code most fuel run calls_run a s.frames s.guards (subst (λ z. Agrees code (compiled s.func) s.guards z s.frames) (sym cov) agrees) st.frame
        e tg s.func k types means st refl lt r4))

    -- an exception comes to the pad, or goes past it
    pub thrown_in : {c : ℕ} {L : ExitsAt} {m : State} {t p' : ℕ} → t < fuel → found code (compiled s.func) limit_cover (type_at st.world e) s.frames ≡ Some tg
        → Paced code most m t (unwind code limit_cover tg e (compiled s.func) f s.frames st.world) st.turns c
        → Runs code most n (c + 39) Any L s p' m t (watched_limit run types (context_at s) (stopped (thrown e) st))
    thrown_in {c} {L} {m} {t} {p'} lt fd r = typed (type_at st.world e) refl
      where
        rest : Next
        rest = unwound_above code tg e s.frames st.world

        typed : (ty : Option ℕ) → type_at st.world e ≡ ty → Runs code most n (c + 39) Any L s p' m t (watched_limit run types (context_at s) (stopped (thrown e) st))
        typed None q =
            let v = ap (pad_verdict code.rows senses (k ∷ chain_of s.cover)) q ∙ handlers_are_chosen.foreign code.rows senses k types (chain_of s.cover) means in
            let no = sym (ap (λ x. found_by x (length s.frames) (found_above code (type_at st.world e) s.frames)) v) ∙ fd in
            absurd (cc no)
        typed (Some y) q =
            let v = ap (pad_verdict code.rows senses (k ∷ chain_of s.cover)) q ∙ handlers_are_chosen.list code.rows senses k types (chain_of s.cover) y means ∙
            ap (λ x. if allows code.rows types x then verdict code.rows senses (chain_of s.cover) x else target k) (sym q) in
            subst (λ rows. Runs code most n (c + 39) Any L s p' m t ((if allows rows types (type_at st.world e) then stop (thrown e) else watched_unexpected run types e (context_at s)) st)) (sym calls_run.types)
            (go (allows code.rows types (type_at st.world e)) refl
            (sym (ap (λ x. found_by x (length s.frames) (found_above code (type_at st.world e) s.frames)) v) ∙ fd)
            (Running.reaches_to code most n (ap (λ x. unwound_by code x (p + 1) tg e (compiled s.func) f s.frames st.world rest) v) r))
          where
            go : (b : Bool) → allows code.rows types (type_at st.world e) ≡ b
                → found_by (if b then verdict code.rows senses (chain_of s.cover) (type_at st.world e) else target k) (length s.frames) (found_above code (type_at st.world e) s.frames) ≡ Some tg
                → Paced code most m t (unwound_by code (if b then verdict code.rows senses (chain_of s.cover) (type_at st.world e) else target k) (p + 1) tg e (compiled s.func) f s.frames st.world rest) st.turns c
                → Runs code most n (c + 39) Any L s p' m t ((if b then stop (thrown e) else watched_unexpected run types e (context_at s)) st)
            go true al h z = allowed_on {L = L} (verdict code.rows senses (chain_of s.cover) (type_at st.world e)) refl al h z
            go false al h z = stopped_on {L = L} lt (Running.reaches_to code most n (Padding.target_entered code k (p + 1) tg e s.func f s.frames st.world rest (cc h)) z)

  -- a forced unwind comes to the pad and goes on, or goes past it
  pub cancelled_in : {c : ℕ} {L : ExitsAt} {m : State} {t p' : ℕ} (z : ℤ) (f : Frame) (st : RegionState) → SameBelow n st.frame f
      → Paced code most m t (force code limit_cover z (compiled s.func) f s.frames st.world) st.turns c
      → Runs code most n (c + 39) Any L s p' m t (stopped (cancelled z) st)
  cancelled_in {c} {L} {m} {t} {p'} z f st same r =
      go (some_cleanup senses (chain_of s.cover)) refl
      (Running.reaches_to code most n (ap (λ x. forced_by code (if is_cleanup x then true else some_cleanup senses (chain_of s.cover)) (p + 1) z (compiled s.func) f s.frames st.world (forced_above code z s.frames st.world)) means) r)
    where
      go : (b : Bool) → some_cleanup senses (chain_of s.cover) ≡ b
          → Paced code most m t (forced_by code b (p + 1) z (compiled s.func) f s.frames st.world (forced_above code z s.frames st.world)) st.turns c
          → Runs code most n (c + 39) Any L s p' m t (stopped (cancelled z) st)
      go false q re = record {
        next = force code s.cover z (compiled s.func) f s.frames st.world;
        reaches = Running.slower code most n (c + 39) (omega arith) (Running.reaches_to code most n (sym (no_cleanup code s.cover chained z s.func f s.frames st.world q)) re);
        meets = (f, same, refl);
      }
      go true q re =
          let x = pad_frame em (unwinding z) (pos 0) f in
          let ne : pos 0 ≡ k → ⊥ = λ y. let no : cleanup ≡ list_of types = sym fits.zero ∙ ap senses y ∙ means in absurd (cc no) in
          let r1 = Running.reaches_to code most n (Padding.at_pad code em s.func (p + 1) (unwinding z) (pos 0) f s.frames st.world has.3.0) re in
          let s1 = Catching.filter_step code most n em s (p + 1 + 1) (l + 2) k (pos 0) x st.world false has.3.3.0 (pad_selector em (unwinding z) (pos 0) f) (Selecting.fails (pos 0) k ne) in
          let q1 = Running.uncounted code most n s (p + 1 + 1) x st.world (jump_filter em.selector k (l + 2)) has.3.3.0 refl in
          let q2 = Running.uncounted code most n s (p + 1 + 1 + 1) x st.world (resume em.object) has.3.3.3.0 refl in
          let s2 = Resuming.resume_forced code most n em s (p + 1 + 1 + 1) z x st.world has.3.3.3.0 has.3.3.3.1 (Padding.pad_object code s.func n em fits.behind (unwinding z) (pos 0) f) in
          record {
            next = force code s.cover z (compiled s.func) x s.frames st.world;
            reaches = Running.slower code most n (c + 39) (omega arith) (Running.reaches_on code most n (Running.reaches_on code most n r1 (Running.free_step code most n st.turns s1 q1)) (Running.free_step code most n st.turns s2 q2));
            meets = (x, Padding.pad_same code s.func n em fits.behind (unwinding z) (pos 0) st.frame f same, refl);
          }

  -- what is guarded, then the rest
  pub limited_out : {c : ℕ} {xs : List Exit} {outs : List ℕ} {m : State} {t p1 : ℕ} (r : Result Flow) → t < fuel → Runs code most n c Any (LeftAt code em n in_limit xs outs) in_limit p1 m t r
      → Runs code most n (c + 39) Any (LeftAt code em n s xs outs) s p1 m t (watched_limit run types (context_at s) r)
  limited_out {c} (done normal st) lt a = record { next = a.next; reaches = Running.slower code most n (c + 39) (omega arith) a.reaches; meets = a.meets }
  limited_out {c} (done (leaves j) st) lt a =
      let x = a.meets in
      record {
        next = a.next;
        reaches = Running.slower code most n (c + 39) (omega arith) a.reaches;
        meets = record { frame = x.frame; same = x.same; is = x.is; way = x.way; known = x.known; inside = x.inside };
      }
  limited_out {xs = xs} {outs = outs} (stopped (thrown e) st) lt a =
      let x = a.meets in thrown_in e x.0 x.1 st x.3 {L = LeftAt code em n s xs outs} lt x.2 (Running.reaches_to code most n x.4 a.reaches)
  limited_out {xs = xs} {outs = outs} (stopped (cancelled z) st) lt a =
      let x = a.meets in cancelled_in {L = LeftAt code em n s xs outs} z x.0 st x.1 (Running.reaches_to code most n x.2 a.reaches)
  limited_out {c} (stopped (ended e) st) lt a = record { next = a.next; reaches = Running.slower code most n (c + 39) (omega arith) a.reaches; meets = a.meets }
  limited_out {c} (stopped undefined st) lt a = record { next = a.next; reaches = Running.slower code most n (c + 39) (omega arith) a.reaches; meets = a.meets }
  limited_out {c} (stopped out_of_turns st) lt a = record { next = a.next; reaches = Running.slower code most n (c + 39) (omega arith) a.reaches; meets = a.meets }
  limited_out {c} (stopped deep st) lt a = record { next = a.next; reaches = Running.slower code most n (c + 39) (omega arith) a.reaches; meets = a.meets }
