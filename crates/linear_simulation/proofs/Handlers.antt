-- Regions that catch: the handlers in order, and the whole.
use Rattle.std.proofs.Common.{◌≡◌, ℕ, ◌+◌, ◌<◌, ◌≤◌, Bool, true, false, List, [], ◌∷◌, ◌++◌, length, Option, Some, None, refl, sym, ap, ◌∙◌, subst, arith, length-append}
use Rattle.std.specs.Prelude.{ℤ, max, find, if◌then◌else◌}
use Rattle.meaning_forms.specs.Outcome.{thrown}
use Rattle.region_forms.specs.Form.{Region, catch, Clauses, no_clauses, clause_then, TypeRow}
use Rattle.region_forms.specs.World.{number_word, flying, Frame, type_at}
use Rattle.region_forms.specs.Guard.{clauses, matches, types_of}
use Rattle.region_forms.specs.Mentioned.{slots_of, slots_of_clauses}
use Rattle.region_forms.specs.Outcome.{State as RegionState, Context, stopped, guarded_by}
use Rattle.region_forms.specs.Ending.{Running}
use Rattle.region_forms.specs.Meaning.{with_object}
use Rattle.linear_forms.specs.Linear.{label, jump, resume}
use Rattle.linear_forms.specs.Stub.{compiled}
use Rattle.linear_forms.specs.Activation.{Code}
use Rattle.linear_forms.specs.Search.{found}
use Rattle.linear_forms.specs.Exits.{Exit, exit_to, beyond, outs_of, outs_of_clauses}
use Rattle.linear_forms.specs.Emission.{Emitting, quiet, outward, guarded, filters_of}
use Rattle.linear_forms.specs.Code.{labels, labels_clauses, clause_tests, region_code, clauses_code}
use Rattle.linear_forms.specs.Means.{AllMean, ClauseFiltersMean}
use Rattle.linear_forms.specs.Agrees.{Agrees}
use Rattle.linear_forms.specs.CodeRuns.{HasAt, Site, context_at, SameBelow, LeftAt, Any, Runs, here}
use Rattle.linear_forms.specs.Cost.{cost, cost_clauses, is_barred, clauses_barred}
use Rattle.linear_forms.proofs.Agreeing.{search_is_right}
use Rattle.linear_forms.proofs.Integers.{both_hold}
use Rattle.linear_forms.proofs.Running
use Rattle.linear_simulation.specs.Watched.{watched, watched_caught}
use Rattle.linear_simulation.specs.Comes.{CallsRun}
use Rattle.linear_simulation.specs.Simulates.{Fits, IsChained, has_clauses, clauses_have_clauses, GoInside, ExitsAhead, RegionRuns}
use Rattle.linear_simulation.proofs.Parts
use Rattle.linear_simulation.proofs.Padding.{sited}
use Rattle.linear_simulation.proofs.Selecting.{NoOther}
use Rattle.linear_simulation.proofs.Catching.{Hits}
use Rattle.linear_simulation.proofs.Catching
use Rattle.linear_simulation.proofs.Cases.{At}
use Rattle.linear_simulation.proofs.Effects.{max_left, max_right}

-- the tests are no more than what the handlers cost
tests_cost : (em : Emitting) (l : ℕ) (cs : Clauses) → length (clause_tests em l cs) ≤ cost_clauses cs
tests_cost em l no_clauses = omega arith
tests_cost em l (clause_then t x r cs) = let h = tests_cost em (l + 1) cs in omega (arith, h)

-- an exception that no clause matches is not caught
none_caught : (run : Running) (rows : List TypeRow) → run.types ≡ rows → (cs : Clauses) (c : Context) (e : ℕ) (st : RegionState)
    → find (matches rows (type_at st.world e)) (types_of cs) ≡ None → watched_caught run cs c e st ≡ stopped (thrown e) st
none_caught run rows same no_clauses c e st h = refl
none_caught run rows same (clause_then t x r cs) c e st h =
    ap (λ z. (if matches z (type_at st.world e) t then (λ u. watched run r c (with_object x e u)) else watched_caught run cs c e) st) same ∙
    go (matches rows (type_at st.world e) t) h (none_caught run rows same cs c e st)
  where
    go : (b : Bool) → (if b then Some t else find (matches rows (type_at st.world e)) (types_of cs)) ≡ None
        → (find (matches rows (type_at st.world e)) (types_of cs) ≡ None → watched_caught run cs c e st ≡ stopped (thrown e) st)
        → (if b then (λ u. watched run r c (with_object x e u)) else watched_caught run cs c e) st ≡ stopped (thrown e) st
    go true q f = absurd (cc q)
    go false q f = f q

module _ (code : Code) (most fuel : ℕ) (run : Running) (calls_run : CallsRun code most fuel run) where
  -- handlers in order, from the test of the first
  abbrev pub ClausesRun : Clauses → Type 0
  ClausesRun cs =
      (em : Emitting) (n : ℕ) (s : Site) (xs : List Exit) (end lb lh q h p' e tg : ℕ) (sel : ℤ) (f : Frame) (st : RegionState)
      → cost_clauses cs ≤ most → st.turns < fuel → IsChained s.cover → Agrees code (compiled s.func) s.guards s.cover s.frames → Fits code run em n s.func
      → AllMean (code.sense_at s.func) em.filter (types_of cs) → ClauseFiltersMean (code.sense_at s.func) em.filter cs
      → clauses_barred cs ≡ true → clauses_have_clauses cs ≡ true → GoInside (length xs) (outs_of_clauses cs)
      → h + length (clauses_code em s.cover xs end lb lh h cs) ≤ p' → ExitsAhead code s.func (h + length (clauses_code em s.cover xs end lb lh h cs)) xs → slots_of_clauses cs ≤ n
      → SameBelow n st.frame f → f.slots em.selector ≡ number_word sel → f.slots em.object ≡ flying e tg
      → Hits em (find (matches code.rows (type_at st.world e)) (types_of cs)) sel → NoOther code.rows (code.sense_at s.func) em.filter (type_at st.world e) sel
      → (find (matches code.rows (type_at st.world e)) (types_of cs) ≡ None → found code (compiled s.func) s.cover (type_at st.world e) s.frames ≡ Some tg)
      → HasAt code s.func q (clause_tests em lb cs)
      → code.op_at s.func (q + length (clause_tests em lb cs)) ≡ Some (resume em.object) → code.cover_at s.func (q + length (clause_tests em lb cs)) ≡ s.cover
      → HasAt code s.func h (clauses_code em s.cover xs end lb lh h cs) → code.label_at s.func end ≡ p'
      → Runs code most n (cost_clauses cs + 1) Any (LeftAt code em n s xs (outs_of_clauses cs)) s p' (here s q f st.world) st.turns (watched_caught run cs (context_at s) e st)

  pub no_clause_case : ClausesRun no_clauses
  no_clause_case em n s xs end lb lh q h p' e tg sel f st co lt ch ag fi am me ba hc go be ah le same slot obj hits others fd tests op cov handlers to =
      let q0 : q + 0 ≡ q = omega arith in
      Catching.goes_farther code most n em s {L = LeftAt code em n s xs []} e tg q p' f st obj same (fd refl)
      (ap (code.op_at s.func) (sym q0) ∙ op) (ap (code.cover_at s.func) (sym q0) ∙ cov)

  pub clause_case : (t : Option ℕ) (x : ℕ) (r : Region) (cs : Clauses) → RegionRuns code most fuel run r → ClausesRun cs → ClausesRun (clause_then t x r cs)
  clause_case t x r cs body rest em n s xs end lb lh q h p' e tg sel f st co lt ch ag fi am me ba hc go be ah le same slot obj hits others fd tests op cov handlers to =
      let ty = type_at st.world e in
      let a = region_code em s.cover xs lh (h + 2) r in
      let more = clauses_code em s.cover xs end (lb + 1) (lh + labels r) (h + 3 + length a) cs in
      let all = h + length (clauses_code em s.cover xs end lb lh h (clause_then t x r cs)) in
      let outs = outs_of r ++ outs_of_clauses cs in
      let bar = both_hold (is_barred r) (clauses_barred cs) ba in
      let cls = both_hold (has_clauses r) (clauses_have_clauses cs) hc in
      let q2 : h + 2 ≡ h + 1 + 1 = omega arith in
      let q3 : h + 3 + length a ≡ h + 1 + 1 + length a + 1 = omega arith in
      let tail = Parts.has_back code s.func (h + 1 + 1) a (quiet (jump end) ∷ more) handlers.3.3 in
      let in_body = subst (λ z. HasAt code s.func z a) (sym q2) (Parts.has_front code s.func (h + 1 + 1) a (quiet (jump end) ∷ more) handlers.3.3) in
      let in_more = subst (λ z. HasAt code s.func z more) (sym q3) tail.3 in
      let sl = max_right (x + 1) (max (slots_of r) (slots_of_clauses cs)) n le in
      let qn : q + length (clause_tests em lb (clause_then t x r cs)) ≡ q + 1 + length (clause_tests em (lb + 1) cs) = omega arith in
      subst (λ rows. Runs code most n (cost r + cost_clauses cs + 4 + 1) Any (LeftAt code em n s xs outs) s p' (here s q f st.world) st.turns
      ((if matches rows ty t then (λ u. watched run r (context_at s) (with_object x e u)) else watched_caught run cs (context_at s) e) st)) (sym calls_run.types)
      (Running.runs_slower code most n (cost r + cost_clauses cs + 4 + 1) (omega arith)
      (Catching.clause_step code most n em s {L = LeftAt code em n s xs outs} e tg t x lb end q h p' a more f st sel (watched run r (context_at s)) (watched_caught run cs (context_at s) e)
      (matches code.rows ty t) slot obj same
      (λ b. hits t (ap (λ c. if c then Some t else find (matches code.rows ty) (types_of cs)) b))
      (λ b. others t am.0 b) tests.0 handlers to (omega (arith, be, length-append a (quiet (jump end) ∷ more)))
      (λ g same2. Parts.widened code most n s (outs_of r) outs (Parts.has_left (outs_of r) (outs_of_clauses cs)) (watched run r (context_at s) (with_object x e st))
      (subst (At code most fuel run calls_run r em n s xs lh (h + 2) g (with_object x e st)) q2
      (body em n s xs lh (h + 2) g (with_object x e st) (omega (arith, co)) lt ch ag fi me.0 bar.0 cls.0 (Parts.inside_left (length xs) (outs_of r) (outs_of_clauses cs) go)
      (Parts.ahead_less code s.func (h + 2 + length a) all xs (omega (arith, length-append a (quiet (jump end) ∷ more))) ah) (max_left (slots_of r) (slots_of_clauses cs) n sl) same2 in_body)))
      (λ b. Parts.widened code most n s (outs_of_clauses cs) outs (Parts.has_right (outs_of r) (outs_of_clauses cs)) (watched_caught run cs (context_at s) e st)
      (rest em n s xs end (lb + 1) (lh + labels r) (q + 1) (h + 3 + length a) p' e tg sel f st (omega (arith, co)) lt ch ag fi am.1 me.1 bar.1 cls.1
      (Parts.inside_right (length xs) (outs_of r) (outs_of_clauses cs) go) (omega (arith, be, length-append a (quiet (jump end) ∷ more)))
      (Parts.ahead_less code s.func (h + 3 + length a + length more) all xs (omega (arith, length-append a (quiet (jump end) ∷ more))) ah) (max_right (slots_of r) (slots_of_clauses cs) n sl) same slot obj
      (λ u y. hits u (ap (λ c. if c then Some t else find (matches code.rows ty) (types_of cs)) b ∙ y)) others
      (λ y. fd (ap (λ c. if c then Some t else find (matches code.rows ty) (types_of cs)) b ∙ y)) tests.3
      (ap (code.op_at s.func) (sym qn) ∙ op) (ap (code.cover_at s.func) (sym qn) ∙ cov) in_more to))))

  pub catch_case : (r : Region) (cs : Clauses) → RegionRuns code most fuel run r → ClausesRun cs → RegionRuns code most fuel run (catch r cs)
  catch_case r no_clauses body rest em n s xs l p f st co lt ch ag fi me ba hc go ah le same has = absurd (cc hc)
  catch_case r (clause_then t0 x0 r0 cs0) body rest em n s xs l p f st co lt ch ag fi me ba hc go ah le same has =
      let cs = clause_then t0 x0 r0 cs0 in
      let ts0 = types_of cs0 in
      let nt = length (types_of cs) in
      let ex = exit_to l ∷ xs in
      let tests = clause_tests em (l + 2) cs in
      let handlers = clauses_code em s.cover ex l (l + 2) (l + 2 + nt) (p + 3 + length tests) cs in
      let cover = guarded (p + 1) (filters_of em (types_of cs)) s.cover in
      let in_catch : Site = record { func = s.func; cover = cover; frames = s.frames; guards = clauses (types_of cs) ∷ s.guards } in
      let bc = region_code em cover ex (l + 2 + nt + labels_clauses cs) (p + 4 + length tests + length handlers) r in
      let bar = both_hold (is_barred r) (clauses_barred cs) ba in
      let cls = both_hold (has_clauses r) (clauses_have_clauses cs) hc in
      let outs = outs_of_clauses cs ++ outs_of r in
      let within = Parts.inside_beyond (length xs) outs go in
      let after_tests = outward (resume em.object) s.cover ∷ (handlers ++ quiet (label (l + 1)) ∷ (bc ++ quiet (label l) ∷ [])) in
      let tests_at = Parts.has_front code s.func (p + 1 + 1) tests after_tests has.3.3 in
      let resume_at = Parts.has_back code s.func (p + 1 + 1) tests after_tests has.3.3 in
      let pr = p + 1 + 1 + length tests in
      let handlers_at = Parts.has_front code s.func (pr + 1) handlers (quiet (label (l + 1)) ∷ (bc ++ quiet (label l) ∷ [])) resume_at.3 in
      let begin_at = Parts.has_back code s.func (pr + 1) handlers (quiet (label (l + 1)) ∷ (bc ++ quiet (label l) ∷ [])) resume_at.3 in
      let pl = pr + 1 + length handlers in
      let pb = pl + 1 in
      let body_at = Parts.has_front code s.func pb bc (quiet (label l) ∷ []) begin_at.3 in
      let end = Parts.has_back code s.func pb bc (quiet (label l) ∷ []) begin_at.3 in
      let pe = pb + length bc in
      let q3 : p + 3 + length tests ≡ pr + 1 = omega arith in
      let q4 : p + 4 + length tests + length handlers ≡ pb = omega arith in
      let sl = max_left (slots_of r) (slots_of_clauses cs) n le in
      let whole : pe + 1 ≡ p + length (region_code em s.cover xs l p (catch r cs)) =
      omega (arith, length-append tests after_tests, length-append handlers (quiet (label (l + 1)) ∷ (bc ++ quiet (label l) ∷ [])), length-append bc (quiet (label l) ∷ [])) in
      let far = Parts.ahead_in code s.func pe l xs (omega (arith, end.2)) (Parts.ahead_less code s.func pe (p + length (region_code em s.cover xs l p (catch r cs))) xs (omega (arith, whole)) ah) in
      let a = subst (At code most fuel run calls_run r em n in_catch ex (l + 2 + nt + labels_clauses cs) (p + 4 + length tests + length handlers) f st) q4
      (body em n in_catch ex (l + 2 + nt + labels_clauses cs) (p + 4 + length tests + length handlers) f st (omega (arith, co)) lt tt
      ((search_is_right code s.func em).caught s.guards s.cover s.frames (p + 1) (types_of cs) (sited s.cover ch) me.0 ag) fi me.1 bar.0 cls.0
      (Parts.inside_right (length ex) (outs_of_clauses cs) (outs_of r) within)
      (Parts.ahead_less code s.func (p + 4 + length tests + length handlers + length bc) pe ex (omega arith) far) sl same (subst (λ z. HasAt code s.func z bc) (sym q4) body_at)) in
      let tc = tests_cost em (l + 2) cs in
      let out = Catching.caught_out code most n run em s fi ch p t0 ts0 me.0 has.3.0 {xs = ex} (cost_clauses cs + 1) pe (outs_of r) outs (Parts.has_right (outs_of_clauses cs) (outs_of r))
      (watched run r (guarded_by (clauses (types_of cs)) (context_at s)) st) (watched_caught run cs (context_at s)) a
      (λ e tg g st2 lv same2 fd re. Catching.thrown_in code most n run em s fi ch p t0 ts0 me.0 has.3.0 {L = LeftAt code em n s ex outs} (cost_clauses cs + 1) e tg pe g st2
      (watched_caught run cs (context_at s) e st2) same2 fd re
      (λ x sel slot obj same3 hits others fd2. Parts.widened code most n s (outs_of_clauses cs) outs (Parts.has_left (outs_of_clauses cs) (outs_of r)) (watched_caught run cs (context_at s) e st2)
      (rest em n s ex l (l + 2) (l + 2 + nt) (p + 1 + 1) (p + 3 + length tests) pe e tg sel x st2 (omega (arith, co)) (omega (arith, lv, lt)) ch ag fi me.0 me.2 bar.1 cls.1
      (Parts.inside_left (length ex) (outs_of_clauses cs) (outs_of r) within) (omega arith)
      (Parts.ahead_less code s.func (p + 3 + length tests + length handlers) pe ex (omega arith) far) (max_right (slots_of r) (slots_of_clauses cs) n le) same3 slot obj hits others fd2 tests_at
      resume_at.0 resume_at.1 (subst (λ z. HasAt code s.func z handlers) (sym q3) handlers_at) end.2))
      (λ none. none_caught run code.rows calls_run.types cs (context_at s) e st2 none))
      (λ k g st2 same2 re. Running.runs_slower code most n _ (omega (arith, tc)) (Catching.cancelled_in code most n run em s fi ch p t0 ts0 me.0 has.3.0 {L = LeftAt code em n s ex outs} k (l + 2) pe cs g st2 same2 me.0
      tests_at resume_at.0 resume_at.1 re)) in
      let s1 = Parts.jump_step code most n s p (l + 1) pl f st.world has.0 begin_at.2 in
      let s2 = Parts.label_step code most n s pl (l + 1) f st.world begin_at.0 in
      let q1 = Running.jump_quiet code most n s p (l + 1) pl f st.world has.0 begin_at.2 (omega arith) in
      let q2 = Running.label_quiet code most n s pl (l + 1) f st.world begin_at.0 in
      let e : pe + 1 ≡ p + length (region_code em s.cover xs l p (catch r cs)) =
      omega (arith, length-append tests after_tests, length-append handlers (quiet (label (l + 1)) ∷ (bc ++ quiet (label l) ∷ [])), length-append bc (quiet (label l) ∷ [])) in
      Parts.runs_at code most n {L = LeftAt code em n s xs (beyond outs)} e (Running.runs_slower code most n (cost r + cost_clauses cs + 6) (omega arith)
      (Running.bounded_runs code most n l s pe (here s p f st.world) st.turns _ end.0 end.2
      (Running.runs_after code most n (Running.reaches_on code most n (Running.free_step code most n st.turns s1 q1) (Running.free_step code most n st.turns s2 q2)) out)))
