-- The code of each form of region does what the region does, where that of its parts does.
use Rattle.std.proofs.Common.{◌≡◌, ℕ, zero, suc, ◌+◌, ◌<◌, ◌≤◌, true, false, List, [], ◌∷◌, ◌++◌, length, refl, sym, ap, subst, arith, length-append}
use Rattle.std.specs.Prelude.{max, ◌==◌, ◌||◌, ◌*◌}
use Rattle.std.proofs.lemmas.Bool.Decides.{nat_tests}
use Rattle.meaning_forms.specs.Class.{contains}
use Rattle.region_forms.specs.Form.{Value, Op, Cleanup, Region, seq, op, branch, loop, protect, catch, limit, barrier, leave_region, RegionList, no_regions, region_then}
use Rattle.region_forms.specs.World.{Frame}
use Rattle.region_forms.specs.Guard.{listed, everything}
use Rattle.region_forms.specs.Mentioned.{slots_of, slots_of_all, slots_of_value, slots_of_cleanup}
use Rattle.region_forms.specs.Outcome.{State as RegionState, guarded_by}
use Rattle.region_forms.specs.Ending.{Running, behind_barrier}
use Rattle.linear_forms.specs.Linear.{label, jump}
use Rattle.linear_forms.specs.Tables.{bare, list_of}
use Rattle.linear_forms.specs.Stub.{compiled}
use Rattle.linear_forms.specs.Activation.{Code, goes_to}
use Rattle.linear_forms.specs.Exits.{Exit, exit_to, beyond, outs_of, outs_of_all}
use Rattle.linear_forms.specs.Emission.{Emitting, quiet, put, leave_code, guarded, protect_exit, exit_cleanup, exit_code}
use Rattle.linear_forms.specs.Code.{labels, region_code, all_code}
use Rattle.linear_forms.specs.Distinct.{distinct}
use Rattle.linear_forms.specs.Means.{AllFiltersMean}
use Rattle.linear_forms.specs.Agrees.{Agrees}
use Rattle.linear_forms.specs.CodeRuns.{HasAt, Site, context_at, SameBelow, LeftAt, Any, Never, Runs, here}
use Rattle.linear_forms.specs.Cost.{op_cost, cost, cost_all, is_barred, all_barred}
use Rattle.linear_forms.proofs.Agreeing.{search_is_right}
use Rattle.linear_forms.proofs.Integers.{both_hold}
use Rattle.linear_forms.proofs.Running
use Rattle.linear_simulation.specs.Watched.{watched, watched_all}
use Rattle.linear_simulation.specs.Comes.{CallsRun}
use Rattle.linear_simulation.specs.Simulates.{Fits, IsChained, has_clauses, all_have_clauses, GoInside, ExitsAhead, RegionRuns}
use Rattle.linear_simulation.proofs.Effects.{max_left, max_right}
use Rattle.linear_simulation.proofs.Operations
use Rattle.linear_simulation.proofs.Parts
use Rattle.linear_simulation.proofs.Testing
use Rattle.linear_simulation.proofs.Padding.{sited, cleaned_chained}
use Rattle.linear_simulation.proofs.Protecting
use Rattle.linear_simulation.proofs.Barring
use Rattle.linear_simulation.proofs.Limiting

module _ (code : Code) (most fuel : ℕ) (run : Running) (calls_run : CallsRun code most fuel run) where
  -- rows of regions
  abbrev pub RowRuns : RegionList → Type 0
  RowRuns rs =
      (em : Emitting) (n : ℕ) (s : Site) (xs : List Exit) (l p : ℕ) (f : Frame) (st : RegionState)
      → cost_all rs ≤ most → st.turns < fuel → IsChained s.cover → Agrees code (compiled s.func) s.guards s.cover s.frames
      → Fits code run em n s.func → AllFiltersMean (code.sense_at s.func) em.filter rs → all_barred rs ≡ true → all_have_clauses rs ≡ true
      → GoInside (length xs) (outs_of_all rs) → ExitsAhead code s.func (p + length (all_code em s.cover xs l p rs)) xs → slots_of_all rs ≤ n
      → SameBelow n st.frame f → HasAt code s.func p (all_code em s.cover xs l p rs)
      → Runs code most n (cost_all rs) Any (LeftAt code em n s xs (outs_of_all rs)) s (p + length (all_code em s.cover xs l p rs)) (here s p f st.world) st.turns
      (watched_all run rs (context_at s) st)

  pub none_case : RowRuns no_regions
  none_case em n s xs l p f st co lt ch ag fi me ba hc go ah le same has =
      Parts.runs_at code most n {L = LeftAt code em n s xs []} (omega arith)
      (record { next = goes_to (here s p f st.world); reaches = Running.reaches_now code most n _ st.turns; meets = (f, same, tt, refl) })

  pub then_case : (r : Region) (rs : RegionList) → RegionRuns code most fuel run r → RowRuns rs → RowRuns (region_then r rs)
  then_case r rs first rest em n s xs l p f st co lt ch ag fi me ba hc go ah le same has =
      let a = region_code em s.cover xs l p r in
      let b = all_code em s.cover xs (l + labels r) (p + length a) rs in
      let bar = both_hold (is_barred r) (all_barred rs) ba in
      let cls = both_hold (has_clauses r) (all_have_clauses rs) hc in
      let outs = outs_of r ++ outs_of_all rs in
      let one = first em n s xs l p f st (omega (arith, co)) lt ch ag fi me.0 bar.0 cls.0 (Parts.inside_left (length xs) (outs_of r) (outs_of_all rs) go)
      (Parts.ahead_less code s.func (p + length a) (p + length (a ++ b)) xs (omega (arith, length-append a b)) ah)
      (max_left (slots_of r) (slots_of_all rs) n le) same (Parts.has_front code s.func p a b has) in
      let wide = Parts.widened code most n s (outs_of r) outs (Parts.has_left (outs_of r) (outs_of_all rs)) (watched run r (context_at s) st) one in
      let e : p + length a + length b ≡ p + length (a ++ b) = omega (arith, length-append a b) in
      Parts.runs_at code most n {L = LeftAt code em n s xs outs} e (Running.seq_runs code most n {L = LeftAt code em n s xs outs} (watched run r (context_at s) st) (watched_all run rs (context_at s)) wide
      (λ g st2 q same2 lv. Parts.widened code most n s (outs_of_all rs) outs (Parts.has_right (outs_of r) (outs_of_all rs)) (watched_all run rs (context_at s) st2)
      (rest em n s xs (l + labels r) (p + length a) g st2 (omega (arith, co)) (omega (arith, lv, lt)) ch ag fi me.1 bar.1 cls.1 (Parts.inside_right (length xs) (outs_of r) (outs_of_all rs) go)
      (Parts.ahead_less code s.func (p + length a + length b) (p + length (a ++ b)) xs (omega (arith, length-append a b)) ah)
      (max_right (slots_of r) (slots_of_all rs) n le) same2 (Parts.has_back code s.func p a b has))))

  pub seq_case : (rs : RegionList) → RowRuns rs → RegionRuns code most fuel run (seq rs)
  seq_case rs rows em n s xs l p f st co lt ch ag fi me ba hc go ah le same has =
      let a = all_code em s.cover (exit_to l ∷ xs) (l + 1) p rs in
      let end = Parts.has_back code s.func p a (quiet (label l) ∷ []) has in
      let e : p + length a + 1 ≡ p + length (a ++ quiet (label l) ∷ []) = omega (arith, length-append a (quiet (label l) ∷ [])) in
      let r = rows em n s (exit_to l ∷ xs) (l + 1) p f st (omega (arith, co)) lt ch ag fi me ba hc (Parts.inside_beyond (length xs) (outs_of_all rs) go)
      (Parts.ahead_in code s.func (p + length a) l xs (omega (arith, end.2)) (Parts.ahead_less code s.func (p + length a) (p + length (a ++ quiet (label l) ∷ [])) xs
      (omega (arith, length-append a (quiet (label l) ∷ []))) ah)) le same
      (Parts.has_front code s.func p a (quiet (label l) ∷ []) has) in
      Parts.runs_at code most n {L = LeftAt code em n s xs (beyond (outs_of_all rs))} e (Running.runs_slower code most n (cost_all rs + 2) (omega arith)
      (Running.bounded_runs code most n l s (p + length a) (here s p f st.world) st.turns (watched_all run rs (context_at s) st) end.0 end.2 r))

  pub op_case : (o : Op) → RegionRuns code most fuel run (op o)
  op_case o em n s xs l p f st co lt ch ag fi me ba hc go ah le same has =
      Running.runs_slower code most n op_cost (omega arith)
      (Operations.op_runs code most n fuel run calls_run s fi.kinds ag {L = LeftAt code em n s xs []} o p f st le lt same has.0 has.1)

  own_exit : (k : ℕ) → contains (k ∷ []) k ≡ true
  own_exit k = ap (λ b. b || false) (itself k)
    where
      itself : (a : ℕ) → (a == a) ≡ true
      itself a = grind (arith, nat_tests)

  pub leave_case : (k : ℕ) → RegionRuns code most fuel run (leave_region k)
  leave_case zero em n s xs l p f st co lt ch ag fi me ba hc go ah le same has =
      let a = Running.leave_runs code most n em xs 0 s p (p + length (leave_code em 0 xs)) f st (go 0 (own_exit 0)) fi.behind same (ah 0 (go 0 (own_exit 0))) has in
      record { next = a.next; reaches = a.reaches; meets = a.meets }
  leave_case (suc k) em n s xs l p f st co lt ch ag fi me ba hc go ah le same has =
      Running.leave_runs code most n em xs k s p (p + length (leave_code em k xs)) f st (go k (own_exit k)) fi.behind same (ah k (go k (own_exit k))) has

  pub barrier_case : (r : Region) → RegionRuns code most fuel run (barrier r)
  barrier_case (op o) em n s xs l p f st co lt ch ag fi me ba hc go ah le same has =
      let b = Barring.barred_site code most fuel n run calls_run s in
      let a = Operations.op_runs code most n fuel run calls_run b fi.kinds (record { same = λ t. refl }) {L = Never} o p f st le lt same has.0 has.1 in
      let out = Barring.barrier_out code most fuel n run calls_run s {L = LeftAt code em n s (exit_to l ∷ xs) []} (watched run (op o) (guarded_by everything (context_at s)) st) lt a in
      let e : p + 1 + 1 ≡ p + length (put o bare ∷ quiet (label l) ∷ []) = omega arith in
      Parts.runs_at code most n {L = LeftAt code em n s xs []} e (Running.runs_slower code most n (op_cost + op_cost + 2) (omega arith)
      (Running.bounded_runs code most n l s (p + 1) (here s p f st.world) st.turns (behind_barrier run (context_at s) (watched run (op o)) st) has.3.0 has.3.2 out))
  barrier_case (seq rs) em n s xs l p f st co lt ch ag fi me ba hc go ah le same has = absurd (cc ba)
  barrier_case (branch v a b) em n s xs l p f st co lt ch ag fi me ba hc go ah le same has = absurd (cc ba)
  barrier_case (loop v a) em n s xs l p f st co lt ch ag fi me ba hc go ah le same has = absurd (cc ba)
  barrier_case (protect a c) em n s xs l p f st co lt ch ag fi me ba hc go ah le same has = absurd (cc ba)
  barrier_case (catch a cs) em n s xs l p f st co lt ch ag fi me ba hc go ah le same has = absurd (cc ba)
  barrier_case (limit a types) em n s xs l p f st co lt ch ag fi me ba hc go ah le same has = absurd (cc ba)
  barrier_case (barrier a) em n s xs l p f st co lt ch ag fi me ba hc go ah le same has = absurd (cc ba)
  barrier_case (leave_region k) em n s xs l p f st co lt ch ag fi me ba hc go ah le same has = absurd (cc ba)

  -- a region's runs at a place that is said otherwise
  abbrev pub At : Region → Emitting → (n : ℕ) → Site → List Exit → (l p : ℕ) → Frame → RegionState → ℕ → Type 0
  At r em n s xs l p f st q =
      Runs code most n (cost r) Any (LeftAt code em n s xs (outs_of r)) s (q + length (region_code em s.cover xs l p r)) (here s q f st.world) st.turns (watched run r (context_at s) st)

  pub branch_case : (v : Value) (a b : Region) → RegionRuns code most fuel run a → RegionRuns code most fuel run b → RegionRuns code most fuel run (branch v a b)
  branch_case v a b ra rb em n s xs l p f st co lt ch ag fi me ba hc go ah le same has =
      let ex = exit_to l ∷ xs in
      let first = region_code em s.cover ex (l + 2) (p + 1) a in
      let second = region_code em s.cover ex (l + 2 + labels a) (p + 3 + length first) b in
      let bar = both_hold (is_barred a) (is_barred b) ba in
      let cls = both_hold (has_clauses a) (has_clauses b) hc in
      let outs = outs_of a ++ outs_of b in
      let within = Parts.inside_beyond (length xs) outs go in
      let pj = p + 1 + length first in
      let behind = Parts.has_back code s.func (p + 1) first (quiet (jump l) ∷ quiet (label (l + 1)) ∷ (second ++ quiet (label l) ∷ [])) has.3 in
      let pe = pj + 1 + 1 + length second in
      let end = Parts.has_back code s.func (pj + 1 + 1) second (quiet (label l) ∷ []) behind.3.3 in
      let q : p + 3 + length first ≡ pj + 1 + 1 = omega arith in
      let max_v = max_right (slots_of_value v) (max (slots_of a) (slots_of b)) n le in
      let in_second = subst (λ z. HasAt code s.func z second) (sym q) (Parts.has_front code s.func (pj + 1 + 1) second (quiet (label l) ∷ []) behind.3.3) in
      let whole : pe + 1 ≡ p + length (region_code em s.cover xs l p (branch v a b)) =
      omega (arith, length-append first (quiet (jump l) ∷ quiet (label (l + 1)) ∷ (second ++ quiet (label l) ∷ [])), length-append second (quiet (label l) ∷ [])) in
      let beyond_end = Parts.ahead_less code s.func pe (p + length (region_code em s.cover xs l p (branch v a b))) xs (omega (arith, whole)) ah in
      let far = Parts.ahead_in code s.func pe l xs (omega (arith, end.2)) beyond_end in
      let one = ra em n s ex (l + 2) (p + 1) f st (omega (arith, co)) lt ch ag fi me.0 bar.0 cls.0 (Parts.inside_left (length ex) (outs_of a) (outs_of b) within)
      (Parts.ahead_less code s.func (p + 1 + length first) pe ex (omega arith) far)
      (max_left (slots_of a) (slots_of b) n max_v) same (Parts.has_front code s.func (p + 1) first (quiet (jump l) ∷ quiet (label (l + 1)) ∷ (second ++ quiet (label l) ∷ [])) has.3) in
      let two = subst (At b em n s ex (l + 2 + labels a) (p + 3 + length first) f st) q (rb em n s ex (l + 2 + labels a) (p + 3 + length first) f st (omega (arith, co)) lt ch ag fi me.1 bar.1 cls.1
      (Parts.inside_right (length ex) (outs_of a) (outs_of b) within)
      (Parts.ahead_less code s.func (p + 3 + length first + length second) pe ex (omega arith) far) (max_right (slots_of a) (slots_of b) n max_v) same in_second) in
      let side_a = Running.runs_slower code most n (cost a + cost b + 2) (omega arith) (Parts.then_jump code most n {L = LeftAt code em n s ex outs} s pj l pe behind.0 end.2 (omega arith) (watched run a (context_at s) st)
      (Parts.widened code most n s (outs_of a) outs (Parts.has_left (outs_of a) (outs_of b)) (watched run a (context_at s) st) one)) in
      let side_b = Running.runs_slower code most n (cost a + cost b + 2) (omega arith) (Running.runs_after code most n
      (Running.free_step code most n st.turns (Parts.label_step code most n s (pj + 1) (l + 1) f st.world behind.3.0)
      (Running.label_quiet code most n s (pj + 1) (l + 1) f st.world behind.3.0))
      (Parts.widened code most n s (outs_of b) outs (Parts.has_right (outs_of a) (outs_of b)) (watched run b (context_at s) st) two)) in
      let tested = Testing.tested code most n run s fi.kinds {L = LeftAt code em n s ex outs} {p' = pe} p (l + 1) (pj + 1) v f st (watched run b (context_at s)) (watched run a (context_at s))
      (max_left (slots_of_value v) (max (slots_of a) (slots_of b)) n le) same has.0 behind.3.2 side_b side_a in
      let e : pe + 1 ≡ p + length (region_code em s.cover xs l p (branch v a b)) =
      omega (arith, length-append first (quiet (jump l) ∷ quiet (label (l + 1)) ∷ (second ++ quiet (label l) ∷ [])), length-append second (quiet (label l) ∷ [])) in
      Parts.runs_at code most n {L = LeftAt code em n s xs (beyond outs)} e (Running.runs_slower code most n (cost a + cost b + 4) (omega arith)
      (Running.bounded_runs code most n l s pe (here s p f st.world) st.turns _ end.0 end.2 tested))

  pub loop_case : (v : Value) (r : Region) → RegionRuns code most fuel run r → RegionRuns code most fuel run (loop v r)
  loop_case v r body em n s xs l p f st co lt ch ag fi me ba hc go ah le same has =
      let ex = exit_to l ∷ xs in
      let bc = region_code em s.cover ex (l + 2) (p + 2) r in
      let q : p + 2 ≡ p + 1 + 1 = omega arith in
      let last = p + 1 + 1 + length bc in
      let tail = Parts.has_back code s.func (p + 1 + 1) bc (quiet (jump (l + 1)) ∷ quiet (label l) ∷ []) has.3.3 in
      let in_body = subst (λ z. HasAt code s.func z bc) (sym q) (Parts.has_front code s.func (p + 1 + 1) bc (quiet (jump (l + 1)) ∷ quiet (label l) ∷ []) has.3.3) in
      let whole : last + 1 + 1 ≡ p + length (region_code em s.cover xs l p (loop v r)) = omega (arith, length-append bc (quiet (jump (l + 1)) ∷ quiet (label l) ∷ [])) in
      let far = Parts.ahead_in code s.func last l xs (omega (arith, tail.3.2)) (Parts.ahead_less code s.func last (p + length (region_code em s.cover xs l p (loop v r))) xs (omega (arith, whole)) ah) in
      let rounds = Testing.loop_runs code most n run s fi.kinds (cost r) fuel (omega (arith, co)) (LeftAt code em n s ex (outs_of r)) v (max_left (slots_of_value v) (slots_of r) n le)
      (watched run r (context_at s)) l p bc has
      (λ g st2 same2 lt2. subst (At r em n s ex (l + 2) (p + 2) g st2) q (body em n s ex (l + 2) (p + 2) g st2 (omega (arith, co)) lt2 ch ag fi me ba hc
      (Parts.inside_beyond (length xs) (outs_of r) go) (Parts.ahead_less code s.func (p + 2 + length bc) last ex (omega arith) far)
      (max_right (slots_of_value v) (slots_of r) n le) same2 in_body))
      (suc st.turns) f st same (omega arith) lt in
      let e : last + 1 + 1 ≡ p + length (region_code em s.cover xs l p (loop v r)) = omega (arith, length-append bc (quiet (jump (l + 1)) ∷ quiet (label l) ∷ [])) in
      Parts.runs_at code most n {L = LeftAt code em n s xs (beyond (outs_of r))} e (Running.runs_slower code most n (cost r + 4) (omega arith)
      (Running.bounded_runs code most n l s (last + 1) (here s p f st.world) st.turns _ tail.3.0 tail.3.2 rounds))

  pub protect_case : (r : Region) (cl : Cleanup) → RegionRuns code most fuel run r → RegionRuns code most fuel run (protect r cl)
  protect_case r cl body em n s xs l p f st co lt ch ag fi me ba hc go ah le same has =
      let inner_site = Protecting.inside code most fuel n run calls_run em s fi ch ag me.0 p in
      let ex = protect_exit cl l ∷ xs in
      let bc = region_code em inner_site.cover ex (l + 3) (p + 5) r in
      let q : p + 5 ≡ p + 1 + 1 + 1 + 1 + 1 = omega arith in
      let rest = exit_code em (exit_cleanup cl) s.cover xs l (distinct (beyond (outs_of r))) ++ quiet (label l) ∷ [] in
      let in_body = subst (λ z. HasAt code s.func z bc) (sym q) (Parts.has_front code s.func (p + 1 + 1 + 1 + 1 + 1) bc rest has.3.3.3.3.3) in
      let p5 = p + 1 + 1 + 1 + 1 + 1 in
      let behind = exit_code em (exit_cleanup cl) s.cover xs l (distinct (beyond (outs_of r))) in
      let tail = Parts.has_back code s.func p5 bc rest has.3.3.3.3.3 in
      let end = Parts.has_back code s.func (p5 + length bc) behind (quiet (label l) ∷ []) tail in
      let whole : p5 + length bc + length behind + 1 ≡ p + length (region_code em s.cover xs l p (protect r cl)) =
      omega (arith, length-append bc rest, length-append behind (quiet (label l) ∷ [])) in
      let far = Parts.ahead_behind code s.func em (exit_cleanup cl) s.cover xs l (p + 5 + length bc) (p5 + length bc) (distinct (beyond (outs_of r))) (omega arith) (omega (arith, end.2)) tail
      (Parts.ahead_less code s.func (p + 5 + length bc) (p + length (region_code em s.cover xs l p (protect r cl))) xs (omega (arith, whole)) ah) in
      let a = subst (At r em n inner_site ex (l + 3) (p + 5) f st) q (body em n inner_site ex (l + 3) (p + 5) f st (omega (arith, co)) lt (cleaned_chained em (p + 1) s.cover)
      ((search_is_right code s.func em).cleaned s.guards s.cover s.frames (p + 1) (sited s.cover ch) me.0 ag) fi me.1 ba hc
      (Parts.inside_beyond (length xs) (outs_of r) go) far (max_left (slots_of r) (slots_of_cleanup cl) n le) same in_body) in
      Running.runs_slower code most n (cost r + op_cost + length (distinct (beyond (outs_of r))) + 12) (omega arith)
      (Protecting.protect_runs code most fuel n run calls_run em s fi ch ag me.0 p xs l (outs_of r) go (cost r) f st same lt (watched run r (context_at s) st) bc cl
      (max_right (slots_of r) (slots_of_cleanup cl) n le) has a)

  pub limit_case : (r : Region) (types : List ℕ) → RegionRuns code most fuel run r → RegionRuns code most fuel run (limit r types)
  limit_case r types body em n s xs l p f st co lt ch ag fi me ba hc go ah le same has =
      let ex = exit_to l ∷ xs in
      let cover = guarded (p + 1) (em.filter (list_of types) ∷ []) s.cover in
      let inner_site : Site = record { func = s.func; cover = cover; frames = s.frames; guards = listed types ∷ s.guards } in
      let bc = region_code em cover ex (l + 3) (p + 7) r in
      let q : p + 7 ≡ p + 1 + 1 + 1 + 1 + 1 + 1 + 1 = omega arith in
      let p7 = p + 1 + 1 + 1 + 1 + 1 + 1 + 1 in
      let in_body = subst (λ z. HasAt code s.func z bc) (sym q) (Parts.has_front code s.func p7 bc (quiet (label l) ∷ []) has.3.3.3.3.3.3.3) in
      let end = Parts.has_back code s.func p7 bc (quiet (label l) ∷ []) has.3.3.3.3.3.3.3 in
      let whole : p7 + length bc + 1 ≡ p + length (region_code em s.cover xs l p (limit r types)) = omega (arith, length-append bc (quiet (label l) ∷ [])) in
      let far = Parts.ahead_in code s.func (p + 7 + length bc) l xs (omega (arith, end.2))
      (Parts.ahead_less code s.func (p + 7 + length bc) (p + length (region_code em s.cover xs l p (limit r types))) xs (omega (arith, whole)) ah) in
      let a = subst (At r em n inner_site ex (l + 3) (p + 7) f st) q (body em n inner_site ex (l + 3) (p + 7) f st (omega (arith, co)) lt tt
      ((search_is_right code s.func em).limited s.guards s.cover s.frames (p + 1) types (sited s.cover ch) me.0 ag) fi me.1 ba hc
      (Parts.inside_beyond (length xs) (outs_of r) go) far le same in_body) in
      let s1 = Parts.jump_step code most n s p (l + 1) (p + 1 + 1 + 1 + 1 + 1 + 1) f st.world has.0 has.3.3.3.3.3.3.2 in
      let s2 = Parts.label_step code most n s (p + 1 + 1 + 1 + 1 + 1 + 1) (l + 1) f st.world has.3.3.3.3.3.3.0 in
      let q1 = Running.jump_quiet code most n s p (l + 1) (p + 1 + 1 + 1 + 1 + 1 + 1) f st.world has.0 has.3.3.3.3.3.3.2 (omega arith) in
      let q2 = Running.label_quiet code most n s (p + 1 + 1 + 1 + 1 + 1 + 1) (l + 1) f st.world has.3.3.3.3.3.3.0 in
      let out = Limiting.limited_out code most fuel n run calls_run em s fi ch ag types me.0 l p bc has {xs = ex} {outs = outs_of r} _ lt a in
      let e : p7 + length bc + 1 ≡ p + length (region_code em s.cover xs l p (limit r types)) = omega (arith, length-append bc (quiet (label l) ∷ [])) in
      Parts.runs_at code most n {L = LeftAt code em n s xs (beyond (outs_of r))} e (Running.runs_slower code most n (cost r + op_cost * 6) (omega arith)
      (Running.bounded_runs code most n l s (p7 + length bc) (here s p f st.world) st.turns _ end.0 end.2
      (Running.runs_after code most n (Running.reaches_on code most n (Running.free_step code most n st.turns s1 q1) (Running.free_step code most n st.turns s2 q2)) out)))
