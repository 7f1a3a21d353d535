-- Regions that catch: the pad, its tests, and the handlers.
use Rattle.std.proofs.Common.{◌≡◌, ℕ, ◌+◌, ◌<◌, ◌≤◌, Bool, true, false, List, [], ◌∷◌, ◌++◌, length, Option, Some, None, refl, sym, ap, ◌∙◌, subst, arith}
use Rattle.std.specs.Prelude.{ℤ, pos, negsuc, find, ◌==◌, if◌then◌else◌}
use Rattle.std.proofs.lemmas.Bool.Decides.{nat_tests}
use Rattle.meaning_forms.specs.Arithmetic.{int_equal}
use Rattle.meaning_forms.specs.Class.{contains}
use Rattle.meaning_forms.specs.Outcome.{thrown, cancelled, ended, undefined, out_of_turns, deep}
use Rattle.region_forms.specs.Form.{Clauses, no_clauses, clause_then, through, bind, TypeRow}
use Rattle.region_forms.specs.World.{Word, number_word, address_word, flying, unwinding, object_address, with_slot, address_in, Frame, World, type_at}
use Rattle.region_forms.specs.Evaluation.{location_behind, location_address, with_some}
use Rattle.region_forms.specs.Effect.{if_some, goes}
use Rattle.region_forms.specs.Guard.{clauses, matches, types_of}
use Rattle.region_forms.specs.Outcome.{State as RegionState, Flow, normal, leaves, Result, done, stopped, Action}
use Rattle.region_forms.specs.Ending.{Running}
use Rattle.region_forms.specs.Meaning.{after_try, with_object}
use Rattle.linear_forms.specs.Linear.{plain, jump, pad, jump_filter, resume}
use Rattle.linear_forms.specs.Tables.{Cover, bare, unpadded, padded, Sense, cleanup, clause}
use Rattle.linear_forms.specs.Verdict.{Verdict, target, no_way, clean, nothing_here, verdict, pad_verdict, is_cleanup, some_cleanup}
use Rattle.linear_forms.specs.Stub.{compiled}
use Rattle.linear_forms.specs.Activation.{Code, Activation, State, Next, goes_to, at, on, fetch}
use Rattle.linear_forms.specs.Operation.{holds_number, jumped, performed}
use Rattle.linear_forms.specs.Search.{found, found_by, found_above}
use Rattle.linear_forms.specs.Unwinding.{pad_entered, unwound_by, unwound_above, unwind}
use Rattle.linear_forms.specs.Forced.{forced_by, forced_above, force}
use Rattle.linear_forms.specs.Machine.{step}
use Rattle.linear_forms.specs.Sites.{Placed}
use Rattle.linear_forms.specs.Exits.{Exit}
use Rattle.linear_forms.specs.Emission.{Emitting, chain_of, guarded, filters_of, quiet, handler_code}
use Rattle.linear_forms.specs.Code.{clause_tests}
use Rattle.linear_forms.specs.Means.{Means, AllMean}
use Rattle.linear_forms.specs.Laws.{chosen}
use Rattle.linear_forms.specs.Counted.{is_calling, counts_at}
use Rattle.linear_forms.specs.Pace.{Paced}
use Rattle.linear_forms.specs.CodeRuns.{HasAt, Site, SameBelow, LeftAt, ExitsAt, Any, Runs, here}
use Rattle.linear_forms.proofs.Running
use Rattle.linear_forms.proofs.Choosing.{handlers_are_chosen}
use Rattle.linear_simulation.specs.Simulates.{Fits, IsChained}
use Rattle.linear_simulation.proofs.Effects.{same_slot}
use Rattle.linear_simulation.proofs.Parts
use Rattle.linear_simulation.proofs.Padding.{pad_frame}
use Rattle.linear_simulation.proofs.Padding
use Rattle.linear_simulation.proofs.Resuming
use Rattle.linear_simulation.proofs.Selecting.{NoOther}
use Rattle.linear_simulation.proofs.Selecting

-- the selector that a pad is entered with is that of the first clause that matches, if one does
abbrev pub Hits : Emitting → Option (Option ℕ) → ℤ → Type 0
Hits em found sel = (u : Option ℕ) → found ≡ Some u → sel ≡ em.filter (clause u)

module _ (code : Code) (most n : ℕ) (em : Emitting) (s : Site) where
  pub filter_step : (q lb : ℕ) (k sel : ℤ) (f : Frame) (w : World) (b : Bool) → code.op_at s.func q ≡ Some (jump_filter em.selector k lb) → f.slots em.selector ≡ number_word sel
      → holds_number (number_word sel) k ≡ b
      → step code (here s q f w) ≡ (if b then at (compiled s.func) (code.label_at s.func lb) f s.frames w else at (compiled s.func) (q + 1) f s.frames w)
  filter_step q lb k sel f w b op slot h =
      let a : Activation = record { function = compiled s.func; place = q; frame = f } in
      Running.step_at code most n s q f w (jump_filter em.selector k lb) op ∙
      ap (λ y. if holds_number y k then jumped code lb a s.frames w else on a f s.frames w) slot ∙
      ap (λ y. if y then jumped code lb a s.frames w else on a f s.frames w) h

  pub holds_itself : (sel k : ℤ) → sel ≡ k → holds_number (number_word sel) k ≡ true
  holds_itself sel k e = ap (λ z. int_equal z k) e ∙ same k
    where
      same : (k : ℤ) → int_equal k k ≡ true
      same (pos a) = grind (arith, nat_tests)
      same (negsuc a) = grind (arith, nat_tests)

  -- a handler's slot gets the object's address
  bind_step : (q x e tg : ℕ) (f : Frame) (w : World) → code.op_at s.func q ≡ Some (plain (bind x (record { root = through em.object; offset = 0 }))) → f.slots em.object ≡ flying e tg
      → step code (here s q f w) ≡ at (compiled s.func) (q + 1) (with_slot x (address_word (object_address e)) f) s.frames w
  bind_step q x e tg f w op slot =
      let a : Activation = record { function = compiled s.func; place = q; frame = f } in
      Running.step_at code most n s q f w (plain (bind x (record { root = through em.object; offset = 0 }))) op ∙
      ap (λ y. performed code (if_some (with_some (location_behind 0 (address_in y)) location_address) (λ z. goes (with_slot x (address_word z) f) w)) a s.frames w) slot

  bind_quiet : (q x e tg : ℕ) (f : Frame) (w : World) → code.op_at s.func q ≡ Some (plain (bind x (record { root = through em.object; offset = 0 }))) → f.slots em.object ≡ flying e tg
      → counts_at code (here s q f w) ≡ false
  bind_quiet q x e tg f w op slot =
      Running.uncounted code most n s q f w (plain (bind x (record { root = through em.object; offset = 0 }))) op
      (ap (λ y. is_calling (if_some (with_some (location_behind 0 (address_in y)) location_address) (λ z. goes (with_slot x (address_word z) f) w))) slot)

  filter_quiet : (q l : ℕ) (k : ℤ) (f : Frame) (w : World) → code.op_at s.func q ≡ Some (jump_filter em.selector k l) → counts_at code (here s q f w) ≡ false
  filter_quiet q l k f w op = Running.uncounted code most n s q f w (jump_filter em.selector k l) op refl

  -- one clause
  pub clause_step : {cb cr : ℕ} {L : ExitsAt} (e tg : ℕ) (t : Option ℕ) (x lb l q h p' : ℕ) (a rest : List Placed) (f : Frame) (st : RegionState) (sel : ℤ) (go1 go2 : Action Flow) (b : Bool)
      → f.slots em.selector ≡ number_word sel → f.slots em.object ≡ flying e tg → SameBelow n st.frame f
      → (b ≡ true → sel ≡ em.filter (clause t)) → (b ≡ false → sel ≡ em.filter (clause t) → ⊥)
      → code.op_at s.func q ≡ Some (jump_filter em.selector (em.filter (clause t)) lb)
      → HasAt code s.func h (handler_code em x l lb a rest) → code.label_at s.func l ≡ p' → h + 1 + 1 + length a < p'
      → ((g : Frame) → SameBelow n (with_object x e st).frame g → Runs code most n cb Any L s (h + 1 + 1 + length a) (here s (h + 1 + 1) g st.world) st.turns (go1 (with_object x e st)))
      → (b ≡ false → Runs code most n cr Any L s p' (here s (q + 1) f st.world) st.turns (go2 st))
      → Runs code most n (cb + cr + 4) Any L s p' (here s q f st.world) st.turns ((if b then (λ u. go1 (with_object x e u)) else go2) st)
  clause_step {cb} {cr} {L} e tg t x lb l q h p' a rest f st sel go1 go2 true slot obj same hit miss op has to ahead body next =
      let k = em.filter (clause t) in
      let s1 = filter_step q lb k sel f st.world true op slot (holds_itself sel k (hit refl)) ∙ ap (λ z. at (compiled s.func) z f s.frames st.world) has.2 in
      let s2 = Parts.label_step code most n s h lb f st.world has.0 in
      let s3 = bind_step (h + 1) x e tg f st.world has.3.0 obj in
      let tail = Parts.has_back code s.func (h + 1 + 1) a (quiet (jump l) ∷ rest) has.3.3 in
      let g = with_slot x (address_word (object_address e)) f in
      Running.runs_slower code most n (cb + cr + 4) (omega arith) (Running.runs_after code most n
      (Running.reaches_on code most n (Running.reaches_on code most n (Running.free_step code most n st.turns s1 (filter_quiet q lb k f st.world op))
      (Running.free_step code most n st.turns s2 (Running.label_quiet code most n s h lb f st.world has.0)))
      (Running.free_step code most n st.turns s3 (bind_quiet (h + 1) x e tg f st.world has.3.0 obj)))
      (Parts.then_jump code most n {L = L} s (h + 1 + 1 + length a) l p' tail.0 to ahead (go1 (with_object x e st)) (body g (same_slot n x (address_word (object_address e)) st.frame f same))))
  clause_step {cb} {cr} {L} e tg t x lb l q h p' a rest f st sel go1 go2 false slot obj same hit miss op has to ahead body next =
      let k = em.filter (clause t) in
      let s1 = filter_step q lb k sel f st.world false op slot (Selecting.fails sel k (miss refl)) in
      Running.runs_slower code most n (cb + cr + 4) (omega arith) (Running.runs_after code most n (Running.free_step code most n st.turns s1 (filter_quiet q lb k f st.world op)) (next refl))

  -- behind the tests of a pad of clauses the exception goes on
  pub goes_farther : {L : ExitsAt} (e tg q p' : ℕ) (f : Frame) (st : RegionState) → f.slots em.object ≡ flying e tg → SameBelow n st.frame f
      → found code (compiled s.func) s.cover (type_at st.world e) s.frames ≡ Some tg
      → code.op_at s.func q ≡ Some (resume em.object) → code.cover_at s.func q ≡ s.cover
      → Runs code most n 1 Any L s p' (here s q f st.world) st.turns (stopped (thrown e) st)
  goes_farther e tg q p' f st obj same fd op cov = record {
    next = unwind code s.cover tg e (compiled s.func) f s.frames st.world;
    reaches = Running.free_step code most n st.turns (Resuming.resume_flying code most n em s q e tg f st.world op cov obj)
        (Running.uncounted code most n s q f st.world (resume em.object) op refl);
    meets = (tg, f, fd, same, refl);
  }

  -- the tests are passed by a forced unwind
  tests_pass : (cs : Clauses) (lb q : ℕ) (f : Frame) (w : World) (t : ℕ) → AllMean (code.sense_at s.func) em.filter (types_of cs) → code.sense_at s.func (pos 0) ≡ cleanup
      → f.slots em.selector ≡ number_word (pos 0) → HasAt code s.func q (clause_tests em lb cs)
      → Paced code most (here s q f w) t (goes_to (here s (q + length (clause_tests em lb cs)) f w)) t (length (clause_tests em lb cs))
  tests_pass no_clauses lb q f w t means z slot has =
      subst (λ y. Paced code most (here s q f w) t (goes_to (here s y f w)) t 0) (omega arith) (Running.reaches_now code most n _ t)
  tests_pass (clause_then u x r cs) lb q f w t means z slot has =
      let k = em.filter (clause u) in
      let ne : pos 0 ≡ k → ⊥ = λ y. let no : cleanup ≡ clause u = sym z ∙ ap (code.sense_at s.func) y ∙ means.0 in absurd (cc no) in
      let s1 = filter_step q lb k (pos 0) f w false has.0 slot (Selecting.fails (pos 0) k ne) in
      let rest = tests_pass cs (lb + 1) (q + 1) f w t means.1 z slot has.3 in
      let e : q + 1 + length (clause_tests em (lb + 1) cs) ≡ q + length (clause_tests em lb (clause_then u x r cs)) = omega arith in
      Running.slower code most n _ (omega arith) (Running.reaches_on code most n (Running.free_step code most n t s1 (filter_quiet q lb k f w has.0))
      (subst (λ y. Paced code most (here s (q + 1) f w) t (goes_to (here s y f w)) t (length (clause_tests em (lb + 1) cs))) e rest))

pub pad_selector : (em : Emitting) (x : Word) (m : ℤ) (f : Frame) → (pad_frame em x m f).slots em.selector ≡ number_word m
pad_selector em x m f = ap (λ y. if y then number_word m else if em.object == em.selector then x else f.slots em.selector) (itself em.selector)
  where
    itself : (a : ℕ) → (a == a) ≡ true
    itself a = grind (arith, nat_tests)

pub filters_chained : (em : Emitting) (p : ℕ) (c : Cover) (t : Option ℕ) (ts : List (Option ℕ)) → IsChained (guarded p (filters_of em (t ∷ ts)) c)
filters_chained em p c t ts = tt

pad_is : (rows : List TypeRow) (senses : ℤ → Sense) (p : ℕ) (chain : List ℤ) (ty : Option ℕ) → IsChained (padded p chain) → pad_verdict rows senses chain ty ≡ verdict rows senses chain ty
pad_is rows senses p [] ty h = absurd h
pad_is rows senses p (k ∷ chain) ty h = refl

-- the clause that is found matches, and its filter means it
found_is : (rows : List TypeRow) (senses : ℤ → Sense) (filter : Sense → ℤ) (ty : Option ℕ) (ts : List (Option ℕ)) (u : Option ℕ) → AllMean senses filter ts
    → find (matches rows ty) ts ≡ Some u → (matches rows ty u ≡ true) × Means senses filter (clause u)
found_is rows senses filter ty [] u m e = absurd (cc e)
found_is rows senses filter ty (t ∷ ts) u m e = go (matches rows ty t) refl e (found_is rows senses filter ty ts u m.1)
  where
    same : Some t ≡ Some u → t ≡ u
    same q = cc q

    go : (b : Bool) → matches rows ty t ≡ b → (if b then Some t else find (matches rows ty) ts) ≡ Some u
        → (find (matches rows ty) ts ≡ Some u → (matches rows ty u ≡ true) × Means senses filter (clause u)) → (matches rows ty u ≡ true) × Means senses filter (clause u)
    go true h q rest = subst (λ z. (matches rows ty z ≡ true) × Means senses filter (clause z)) (same q) (h, m.0)
    go false h q rest = rest q

-- where a cover's chain says nothing, the unwind goes past it
pub no_pad : (code : Code) (c : Cover) → IsChained c → (t e g : ℕ) (f : Frame) (fs : List Activation) (w : World) → verdict code.rows (code.sense_at g) (chain_of c) (type_at w e) ≡ nothing_here
    → unwind code c t e (compiled g) f fs w ≡ unwound_above code t e fs w
no_pad code bare h t e g f fs w v = absurd h
no_pad code unpadded h t e g f fs w v = refl
no_pad code (padded p []) h t e g f fs w v = absurd h
no_pad code (padded p (k ∷ chain)) h t e g f fs w v = ap (λ x. unwound_by code x p t e (compiled g) f fs w (unwound_above code t e fs w)) v

-- so does a forced unwind where it has no cleanup
pub no_cleanup : (code : Code) (c : Cover) → IsChained c → (k : ℤ) (g : ℕ) (f : Frame) (fs : List Activation) (w : World) → some_cleanup (code.sense_at g) (chain_of c) ≡ false
    → force code c k (compiled g) f fs w ≡ forced_above code k fs w
no_cleanup code bare h k g f fs w v = absurd h
no_cleanup code unpadded h k g f fs w v = refl
no_cleanup code (padded p []) h k g f fs w v = absurd h
no_cleanup code (padded p (m ∷ chain)) h k g f fs w v = ap (λ b. forced_by code b p k (compiled g) f fs w (forced_above code k fs w)) v

clauses_clean : (senses : ℤ → Sense) (em : Emitting) (ts : List (Option ℕ)) (chain : List ℤ) → AllMean senses em.filter ts → some_cleanup senses (filters_of em ts ++ chain) ≡ some_cleanup senses chain
clauses_clean senses em [] chain m = refl
clauses_clean senses em (t ∷ ts) chain m =
    ap (λ x. if is_cleanup x then true else some_cleanup senses (filters_of em ts ++ chain)) m.0 ∙ clauses_clean senses em ts chain m.1

module _ (code : Code) (most n : ℕ) (run : Running) (em : Emitting) (s : Site) (fits : Fits code run em n s.func) (chained : IsChained s.cover) (p : ℕ)
    (t0 : Option ℕ) (ts0 : List (Option ℕ)) (means : AllMean (code.sense_at s.func) em.filter (t0 ∷ ts0)) (pad_op : code.op_at s.func (p + 1) ≡ Some (pad em.object em.selector)) where
  abbrev ts : List (Option ℕ)
  ts = t0 ∷ ts0

  abbrev pub caught_cover : Cover
  caught_cover = guarded (p + 1) (filters_of em ts) s.cover

  abbrev senses : ℤ → Sense
  senses = code.sense_at s.func

  -- an exception comes to the pad, or goes past it
  pub thrown_in : {c : ℕ} {L : ExitsAt} {m : State} {t : ℕ} (d e tg p' : ℕ) (f : Frame) (st : RegionState) (r : Result Flow) → SameBelow n st.frame f
      → found code (compiled s.func) caught_cover (type_at st.world e) s.frames ≡ Some tg
      → Paced code most m t (unwind code caught_cover tg e (compiled s.func) f s.frames st.world) st.turns c
      → ((x : Frame) (sel : ℤ) → x.slots em.selector ≡ number_word sel → x.slots em.object ≡ flying e tg → SameBelow n st.frame x
      → Hits em (find (matches code.rows (type_at st.world e)) ts) sel → NoOther code.rows senses em.filter (type_at st.world e) sel
      → (find (matches code.rows (type_at st.world e)) ts ≡ None → found code (compiled s.func) s.cover (type_at st.world e) s.frames ≡ Some tg)
      → Runs code most n d Any L s p' (here s (p + 1 + 1) x st.world) st.turns r)
      → (find (matches code.rows (type_at st.world e)) ts ≡ None → r ≡ stopped (thrown e) st)
      → Runs code most n (c + d) Any L s p' m t r
  thrown_in {c} {L} {m} {t} d e tg p' f st r same fd re next none =
      go (find (matches code.rows ty) ts) refl (verdict code.rows senses (chain_of s.cover) ty) refl
      (ap (λ v. found_by v (length s.frames) above) (sym said) ∙ fd)
      (Running.reaches_to code most n (ap (λ v. unwound_by code v (p + 1) tg e (compiled s.func) f s.frames st.world rest) said) re)
    where
      ty : Option ℕ
      ty = type_at st.world e

      above : Option ℕ
      above = found_above code ty s.frames

      rest : Next
      rest = unwound_above code tg e s.frames st.world

      said : pad_verdict code.rows senses (filters_of em ts ++ chain_of s.cover) ty ≡ chosen em.filter (find (matches code.rows ty) ts) (verdict code.rows senses (chain_of s.cover) ty)
      said = handlers_are_chosen.clauses code.rows senses em ts (chain_of s.cover) ty means

      at_it : (sel : ℤ) → Paced code most m t (pad_entered (fetch code (compiled s.func) (p + 1)) (flying e tg) sel (compiled s.func) (p + 1) f s.frames st.world) st.turns c
          → Hits em (find (matches code.rows ty) ts) sel → NoOther code.rows senses em.filter ty sel
          → (find (matches code.rows ty) ts ≡ None → found code (compiled s.func) s.cover ty s.frames ≡ Some tg)
          → Runs code most n (c + d) Any L s p' m t r
      at_it sel k hits others out =
          Running.runs_after code most n (Running.reaches_to code most n (Padding.at_pad code em s.func (p + 1) (flying e tg) sel f s.frames st.world pad_op) k)
          (next (pad_frame em (flying e tg) sel f) sel (pad_selector em (flying e tg) sel f) (Padding.pad_object code s.func n em fits.behind (flying e tg) sel f)
          (Padding.pad_same code s.func n em fits.behind (flying e tg) sel st.frame f same) hits others out)

      none_hits : (o : Option (Option ℕ)) (sel : ℤ) → o ≡ None → Hits em o sel
      none_hits o sel q u h = let no : Some u ≡ None = sym h ∙ q in absurd (cc no)

      some_same : (u v : Option ℕ) → Some u ≡ Some v → u ≡ v
      some_same u v h = cc h

      out_of : (v : Verdict) → verdict code.rows senses (chain_of s.cover) ty ≡ v → found_by v (length s.frames) above ≡ Some tg → found code (compiled s.func) s.cover ty s.frames ≡ Some tg
      out_of v q h = sym (Padding.found_chain code s.func s.cover chained ty s.frames) ∙ ap (λ x. found_by x (length s.frames) above) q ∙ h

      go : (o : Option (Option ℕ)) → find (matches code.rows ty) ts ≡ o → (v : Verdict) → verdict code.rows senses (chain_of s.cover) ty ≡ v
          → found_by (chosen em.filter o v) (length s.frames) above ≡ Some tg
          → Paced code most m t (unwound_by code (chosen em.filter o v) (p + 1) tg e (compiled s.func) f s.frames st.world rest) st.turns c
          → Runs code most n (c + d) Any L s p' m t r
      go (Some u) q v qv h k =
          let is = found_is code.rows senses em.filter ty ts u means q in
          at_it (em.filter (clause u)) (Running.reaches_to code most n (Padding.target_entered code (em.filter (clause u)) (p + 1) tg e s.func f s.frames st.world rest (cc h)) k)
          (λ z y. ap (λ x. em.filter (clause x)) (some_same u z (sym q ∙ y)))
          (Selecting.clause_no_other code.rows senses em.filter ty u is.1 is.0)
          (λ y. let no : Some u ≡ None = sym q ∙ y in absurd (cc no))
      go None q (target j) qv h k =
          at_it j (Running.reaches_to code most n (Padding.target_entered code j (p + 1) tg e s.func f s.frames st.world rest (cc h)) k)
          (none_hits (find (matches code.rows ty) ts) j q)
          (Selecting.outer_no_other code.rows senses em.filter ty j (Selecting.stops_so code.rows senses (chain_of s.cover) ty j qv))
          (λ y. out_of (target j) qv h)
      go None q no_way qv h k = absurd (cc h)
      go None q clean qv h k =
          at_it (pos 0) k (none_hits (find (matches code.rows ty) ts) (pos 0) q) (Selecting.zero_no_other code.rows senses em.filter ty fits.zero) (λ y. out_of clean qv h)
      go None q nothing_here qv h k =
          subst (λ z. Runs code most n (c + d) Any L s p' m t z) (sym (none q)) (record {
            next = unwind code s.cover tg e (compiled s.func) f s.frames st.world;
            reaches = Running.slower code most n (c + d) (omega arith) (Running.reaches_to code most n (sym (no_pad code s.cover chained tg e s.func f s.frames st.world qv)) k);
            meets = (tg, f, out_of nothing_here qv h, same, refl);
          })

  -- a forced unwind comes to the pad and goes on, or goes past it
  pub cancelled_in : {c : ℕ} {L : ExitsAt} {m : State} {t : ℕ} (k : ℤ) (lb p' : ℕ) (cs : Clauses) (f : Frame) (st : RegionState) → SameBelow n st.frame f
      → AllMean (code.sense_at s.func) em.filter (types_of cs)
      → HasAt code s.func (p + 1 + 1) (clause_tests em lb cs)
      → code.op_at s.func (p + 1 + 1 + length (clause_tests em lb cs)) ≡ Some (resume em.object)
      → code.cover_at s.func (p + 1 + 1 + length (clause_tests em lb cs)) ≡ s.cover
      → Paced code most m t (force code caught_cover k (compiled s.func) f s.frames st.world) st.turns c
      → Runs code most n (c + (length (clause_tests em lb cs) + 1)) Any L s p' m t (stopped (cancelled k) st)
  cancelled_in {c} {L} {m} {t} k lb p' cs f st same mean has op cov re =
      go (some_cleanup senses (chain_of s.cover)) refl
      (Running.reaches_to code most n (ap (λ b. forced_by code b (p + 1) k (compiled s.func) f s.frames st.world (forced_above code k s.frames st.world)) (clauses_clean senses em ts (chain_of s.cover) means)) re)
    where
      go : (b : Bool) → some_cleanup senses (chain_of s.cover) ≡ b
          → Paced code most m t (forced_by code b (p + 1) k (compiled s.func) f s.frames st.world (forced_above code k s.frames st.world)) st.turns c
          → Runs code most n (c + (length (clause_tests em lb cs) + 1)) Any L s p' m t (stopped (cancelled k) st)
      go false q r = record {
        next = force code s.cover k (compiled s.func) f s.frames st.world;
        reaches = Running.slower code most n (c + (length (clause_tests em lb cs) + 1)) (omega arith)
            (Running.reaches_to code most n (sym (no_cleanup code s.cover chained k s.func f s.frames st.world q)) r);
        meets = (f, same, refl);
      }
      go true q r =
          let x = pad_frame em (unwinding k) (pos 0) f in
          let r1 = Running.reaches_to code most n (Padding.at_pad code em s.func (p + 1) (unwinding k) (pos 0) f s.frames st.world pad_op) r in
          let r2 = Running.reaches_on code most n r1 (tests_pass code most n em s cs lb (p + 1 + 1) x st.world st.turns mean fits.zero (pad_selector em (unwinding k) (pos 0) f) has) in
          let r3 = Running.reaches_on code most n r2 (Running.free_step code most n st.turns (Resuming.resume_forced code most n em s
          (p + 1 + 1 + length (clause_tests em lb cs)) k x st.world op cov (Padding.pad_object code s.func n em fits.behind (unwinding k) (pos 0) f))
          (Running.uncounted code most n s (p + 1 + 1 + length (clause_tests em lb cs)) x st.world (resume em.object) op refl)) in
          record {
            next = force code s.cover k (compiled s.func) x s.frames st.world;
            reaches = Running.slower code most n (c + (length (clause_tests em lb cs) + 1)) (omega arith) r3;
            meets = (x, Padding.pad_same code s.func n em fits.behind (unwinding k) (pos 0) st.frame f same, refl);
          }

  abbrev pub in_catch : Site
  in_catch = record { func = s.func; cover = caught_cover; frames = s.frames; guards = clauses ts ∷ s.guards }

  -- what is guarded, then the handlers
  pub caught_out : {c : ℕ} {xs : List Exit} {m : State} {t : ℕ} (d p1 : ℕ) (outs more : List ℕ) → ((k : ℕ) → contains outs k ≡ true → contains more k ≡ true) → (r : Result Flow) (go : ℕ → Action Flow)
      → Runs code most n c Any (LeftAt code em n in_catch xs outs) in_catch p1 m t r
      → ((e tg : ℕ) (f : Frame) (st : RegionState) → st.turns ≤ t → SameBelow n st.frame f
      → found code (compiled s.func) caught_cover (type_at st.world e) s.frames ≡ Some tg
      → Paced code most m t (unwind code caught_cover tg e (compiled s.func) f s.frames st.world) st.turns c
      → Runs code most n (c + d) Any (LeftAt code em n s xs more) s p1 m t (go e st))
      → ((k : ℤ) (f : Frame) (st : RegionState) → SameBelow n st.frame f
      → Paced code most m t (force code caught_cover k (compiled s.func) f s.frames st.world) st.turns c
      → Runs code most n (c + d) Any (LeftAt code em n s xs more) s p1 m t (stopped (cancelled k) st))
      → Runs code most n (c + d) Any (LeftAt code em n s xs more) s p1 m t (after_try go r)
  caught_out {c} d p1 outs more wide (done normal st) go a th ca = record { next = a.next; reaches = Running.slower code most n (c + d) (omega arith) a.reaches; meets = a.meets }
  caught_out {c} d p1 outs more wide (done (leaves k) st) go a th ca =
      let x = a.meets in
      record {
        next = a.next;
        reaches = Running.slower code most n (c + d) (omega arith) a.reaches;
        meets = record { frame = x.frame; same = x.same; is = x.is; way = x.way; known = wide _ x.known; inside = x.inside };
      }
  caught_out d p1 outs more wide (stopped (thrown e) st) go a th ca =
      let x = a.meets in th e x.0 x.1 st a.reaches.falls x.3 x.2 (Running.reaches_to code most n x.4 a.reaches)
  caught_out d p1 outs more wide (stopped (cancelled k) st) go a th ca =
      let x = a.meets in ca k x.0 st x.1 (Running.reaches_to code most n x.2 a.reaches)
  caught_out {c} d p1 outs more wide (stopped (ended e) st) go a th ca = record { next = a.next; reaches = Running.slower code most n (c + d) (omega arith) a.reaches; meets = a.meets }
  caught_out {c} d p1 outs more wide (stopped undefined st) go a th ca = record { next = a.next; reaches = Running.slower code most n (c + d) (omega arith) a.reaches; meets = a.meets }
  caught_out {c} d p1 outs more wide (stopped out_of_turns st) go a th ca = record { next = a.next; reaches = Running.slower code most n (c + d) (omega arith) a.reaches; meets = a.meets }
  caught_out {c} d p1 outs more wide (stopped deep st) go a th ca = record { next = a.next; reaches = Running.slower code most n (c + d) (omega arith) a.reaches; meets = a.meets }
