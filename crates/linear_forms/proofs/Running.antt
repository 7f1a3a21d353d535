-- The code of a region does what the region does: steps, ends of regions, rows of regions, exits.
use Rattle.std.proofs.Common.{length, ◌≡◌, ℕ, zero, suc, ◌+◌, ◌*◌, ◌<◌, ◌≤◌, Bool, true, false, List, [], ◌∷◌, Some, None, refl, sym, ap, ◌∙◌, subst, arith}
use Rattle.std.specs.Prelude.{pos, nat_le, ◌==◌, ◌||◌, if◌then◌else◌}
use Rattle.std.proofs.lemmas.Bool.Decides.{nat_tests}
use Rattle.meaning_forms.specs.Class.{contains}
use Rattle.meaning_forms.specs.Outcome.{Stop, thrown, cancelled, ended, undefined, out_of_turns, deep}
use Rattle.region_forms.specs.Form.{Value, number, store}
use Rattle.region_forms.specs.World.{number_word, Frame, World, with_slot}
use Rattle.region_forms.specs.Evaluation.{slot_location}
use Rattle.region_forms.specs.Effect.{stored_at}
use Rattle.region_forms.specs.Outcome.{State as RegionState, Flow, normal, leaves, Result, done, stopped, Action, continued, pure}
use Rattle.region_forms.specs.Meaning.{outwards, followed}
use Rattle.linear_forms.specs.Linear.{LinearOp, plain, label, jump, jump_zero}
use Rattle.linear_forms.specs.Stub.{linear, compiled}
use Rattle.linear_forms.specs.Activation.{Code, State, Next, goes_to, at, compiled_op}
use Rattle.linear_forms.specs.Operation.{act, performed}
use Rattle.linear_forms.specs.Machine.{act_on, step}
use Rattle.linear_forms.specs.Exits.{beyond, Exit, exit_to, first_label, crosses, name_of}
use Rattle.linear_forms.specs.Emission.{quiet, Emitting, way_place, set_way, leave_code}
use Rattle.linear_forms.specs.Counted.{is_calling, counts_op, counts_at}
use Rattle.linear_forms.specs.Pace.{pays_at, one_if, Paced}
use Rattle.linear_forms.specs.CodeRuns.{HasAt, Site, SameBelow, LeftAt, ExitsAt, Any, Meets, Runs, here, SlotsBehind}
use Rattle.linear_forms.proofs.Paces

or_right : (a b : Bool) → a ≡ false → (a || b) ≡ true → b ≡ true
or_right true b e h = absurd (cc e)
or_right false b e h = h

beyond_zero : (k : ℕ) (b : Bool) → ((zero == suc k) || b) ≡ true → b ≡ true
beyond_zero k b h = let e : (zero == suc k) ≡ false = grind (arith, nat_tests) in or_right (zero == suc k) b e h

same_suc : (m k : ℕ) → (suc m == suc k) ≡ (m == k)
same_suc m k = grind (arith, nat_tests)

beyond_suc : (a b c d : Bool) → a ≡ b → (a || c) ≡ true → (c ≡ true → d ≡ true) → (b || d) ≡ true
beyond_suc true true c d e h f = refl
beyond_suc true false c d e h f = absurd (cc e)
beyond_suc false true c d e h f = refl
beyond_suc false false c d e h f = f h

module _ (code : Code) (most n : ℕ) where
  pub reaches_now : (m : State) (t : ℕ) → Paced code most m t (goes_to m) t 0
  reaches_now m t = record { falls = omega arith; steps = 0; leads = refl; quick = omega arith; paid = omega arith; counts = omega arith }

  pub reaches_on : {m mid : State} {t u v c d : ℕ} {x : Next} → Paced code most m t (goes_to mid) u c → Paced code most mid u x v d → Paced code most m t x v (c + d)
  reaches_on {m} {mid} {t} {u} {v} {c} {d} {x} a b = record {
    falls = omega (arith, a.falls, b.falls);
    steps = a.steps + b.steps;
    leads = Paces.leads_both code a.steps b.steps m mid x a.leads b.leads;
    quick = omega (arith, a.quick, b.quick);
    paid = omega (arith, a.paid, b.paid, Paces.tally_both code (pays_at code) a.steps b.steps m mid a.leads);
    counts = omega (arith, a.counts, b.counts, Paces.tally_both code (counts_at code) a.steps b.steps m mid a.leads);
  }

  pub reaches_to : {m : State} {t u c : ℕ} {x y : Next} → x ≡ y → Paced code most m t x u c → Paced code most m t y u c
  reaches_to {m} {t} {u} {c} e r = subst (λ z. Paced code most m t z u c) e r

  pub slower : {m : State} {t u c : ℕ} {x : Next} (d : ℕ) → c ≤ d → Paced code most m t x u c → Paced code most m t x u d
  slower d le r = record { falls = r.falls; steps = r.steps; leads = r.leads; quick = omega (arith, r.quick, le); paid = r.paid; counts = r.counts }

  -- one step that spends no turn, and is no call nor a jump back
  pub free_step : {m : State} {x : Next} (t : ℕ) → step code m ≡ x → counts_at code m ≡ false → Paced code most m t x t 1
  free_step {m} {x} t e q =
      let none : one_if (counts_at code m) ≡ 0 = ap one_if q in
      record {
        falls = omega arith;
        steps = 1;
        leads = Paces.one_step code m x e;
        quick = omega arith;
        paid = omega arith;
        counts = omega (arith, none, Paces.tally_once code (counts_at code) m);
      }

  -- a step that pays for a turn, which pays for what follows
  pub turn_step : {m mid : State} {x : Next} {u d : ℕ} (t : ℕ) → step code m ≡ goes_to mid → pays_at code m ≡ true → Paced code most mid t x u d → d + 1 ≤ most
      → Paced code most m (suc t) x u 0
  turn_step {m} {mid} {x} {u} {d} t e p r le =
      let w : suc t * most ≡ t * most + most = omega arith in
      let one : one_if (pays_at code m) ≡ 1 = ap one_if p in
      record {
        falls = omega (arith, r.falls);
        steps = suc r.steps;
        leads = Paces.stepped code r.steps m mid x e r.leads;
        quick = omega (arith, r.quick, le, w);
        paid = omega (arith, r.paid, one, Paces.tally_step code (pays_at code) r.steps m mid e);
        counts = omega (arith, r.counts, Paces.one_at_most (counts_at code m), Paces.tally_step code (counts_at code) r.steps m mid e);
      }

  -- a step that pays for a turn, and comes to what is next
  pub last_turn : {m : State} {x : Next} (t : ℕ) → step code m ≡ x → pays_at code m ≡ true → 1 ≤ most → Paced code most m (suc t) x t 0
  last_turn {m} {x} t e p le =
      let w : suc t * most ≡ t * most + most = omega arith in
      let one : one_if (pays_at code m) ≡ 1 = ap one_if p in
      record {
        falls = omega arith;
        steps = 1;
        leads = Paces.one_step code m x e;
        quick = omega (arith, le, w);
        paid = omega (arith, one, Paces.tally_once code (pays_at code) m);
        counts = omega (arith, Paces.one_at_most (counts_at code m), Paces.tally_once code (counts_at code) m);
      }

  -- a loop's test, which pays for a turn, what is done in the loop, the jump back that this turn pays for too, and what follows
  pub turn_round : {m mid end back : State} {x : Next} {u v d e : ℕ} (t : ℕ) → step code m ≡ goes_to mid → pays_at code m ≡ true → counts_at code m ≡ false
      → Paced code most mid t (goes_to end) u d → step code end ≡ goes_to back → Paced code most back u x v e → d + e + 2 ≤ most → Paced code most m (suc t) x v 0
  turn_round {m} {mid} {end} {back} {x} {u} {v} {d} {e} t se p q a sb b le =
      let w : suc t * most ≡ t * most + most = omega arith in
      let one : one_if (pays_at code m) ≡ 1 = ap one_if p in
      let none : one_if (counts_at code m) ≡ 0 = ap one_if q in
      let behind = Paces.stepped code b.steps end back x sb b.leads in
      record {
        falls = omega (arith, a.falls, b.falls);
        steps = suc (a.steps + suc b.steps);
        leads = Paces.stepped code (a.steps + suc b.steps) m mid x se (Paces.leads_both code a.steps (suc b.steps) mid end x a.leads behind);
        quick = omega (arith, a.quick, b.quick, le, w);
        paid = omega (
          arith,
          a.paid,
          b.paid,
          one,
          Paces.tally_step code (pays_at code) (a.steps + suc b.steps) m mid se,
          Paces.tally_both code (pays_at code) a.steps (suc b.steps) mid end a.leads,
          Paces.tally_step code (pays_at code) b.steps end back sb,
        );
        counts = omega (
          arith,
          a.counts,
          b.counts,
          none,
          Paces.one_at_most (counts_at code end),
          Paces.tally_step code (counts_at code) (a.steps + suc b.steps) m mid se,
          Paces.tally_both code (counts_at code) a.steps (suc b.steps) mid end a.leads,
          Paces.tally_step code (counts_at code) b.steps end back sb,
        );
      }

  -- the operation at a place is what the step does
  pub step_at : (s : Site) (p : ℕ) (f : Frame) (w : World) (o : LinearOp) → code.op_at s.func p ≡ Some o
      → step code (here s p f w) ≡ act code o (record { function = compiled s.func; place = p; frame = f }) s.frames w
  step_at s p f w o e =
      ap (λ x. act_on code (elim x [ None ↦ None | Some y ↦ Some (linear y) ]) (record { function = compiled s.func; place = p; frame = f }) s.frames w) e

  -- an operation that is no call nor a jump back
  pub uncounted : (s : Site) (p : ℕ) (f : Frame) (w : World) (o : LinearOp) → code.op_at s.func p ≡ Some o → counts_op code (Some (linear o)) (here s p f w) ≡ false
      → counts_at code (here s p f w) ≡ false
  uncounted s p f w o e q = ap (λ z. counts_op code (compiled_op z) (here s p f w)) e ∙ q

  pub label_quiet : (s : Site) (p l : ℕ) (f : Frame) (w : World) → code.op_at s.func p ≡ Some (label l) → counts_at code (here s p f w) ≡ false
  label_quiet s p l f w e = uncounted s p f w (label l) e refl

  pub test_quiet : (s : Site) (p : ℕ) (v : Value) (l : ℕ) (f : Frame) (w : World) → code.op_at s.func p ≡ Some (jump_zero v l) → counts_at code (here s p f w) ≡ false
  test_quiet s p v l f w e = uncounted s p f w (jump_zero v l) e refl

  -- a jump ahead
  not_behind : (p q : ℕ) → p < q → nat_le q p ≡ false
  not_behind p q lt = grind (arith, nat_tests, lt)

  pub jump_quiet : (s : Site) (p l q : ℕ) (f : Frame) (w : World) → code.op_at s.func p ≡ Some (jump l) → code.label_at s.func l ≡ q → p < q → counts_at code (here s p f w) ≡ false
  jump_quiet s p l q f w e to lt = uncounted s p f w (jump l) e (ap (λ z. nat_le z p) to ∙ not_behind p q lt)

  pub runs_slower : {c : ℕ} {P : Frame → Type 0} {L : ExitsAt} {s : Site} {p' : ℕ} {m : State} {t : ℕ} {r : Result Flow} (d : ℕ) → c ≤ d
      → Runs code most n c P L s p' m t r → Runs code most n d P L s p' m t r
  runs_slower d le a = record { next = a.next; reaches = slower d le a.reaches; meets = a.meets }

  pub runs_after : {c d : ℕ} {P : Frame → Type 0} {L : ExitsAt} {s : Site} {p' : ℕ} {m mid : State} {t u : ℕ} {r : Result Flow}
      → Paced code most m t (goes_to mid) u c → Runs code most n d P L s p' mid u r → Runs code most n (c + d) P L s p' m t r
  runs_after a b = record { next = b.next; reaches = reaches_on a b.reaches; meets = b.meets }

  -- a stop passes outwards from wherever it came
  pub stop_meets : (P Q : Frame → Type 0) (L M : ExitsAt) (s : Site) (p q : ℕ) (x : Stop) (st : RegionState) (y : Next)
      → Meets code n P L s p (stopped x st) y → Meets code n Q M s q (stopped x st) y
  stop_meets P Q L M s p q (thrown e) st y m = m
  stop_meets P Q L M s p q (cancelled k) st y m = m
  stop_meets P Q L M s p q (ended e) st y m = m
  stop_meets P Q L M s p q undefined st y m = m
  stop_meets P Q L M s p q out_of_turns st y m = m
  stop_meets P Q L M s p q deep st y m = m

  pub stop_runs : {c : ℕ} {P Q : Frame → Type 0} {L M : ExitsAt} {s : Site} {p q : ℕ} {m : State} {t : ℕ} (d : ℕ) → c ≤ d → (x : Stop) (st : RegionState)
      → Runs code most n c P L s p m t (stopped x st) → Runs code most n d Q M s q m t (stopped x st)
  stop_runs {c} {P} {Q} {L} {M} {s} {p} {q} d le x st a =
      record { next = a.next; reaches = slower d le a.reaches; meets = stop_meets P Q L M s p q x st a.next a.meets }

  -- one region after another
  pub seq_runs : {c d : ℕ} {P Q : Frame → Type 0} {L : ExitsAt} {s : Site} {p1 p2 : ℕ} {m : State} {t : ℕ} (r : Result Flow) (go : Action Flow)
      → Runs code most n c P L s p1 m t r
      → ((f : Frame) (st : RegionState) → P f → SameBelow n st.frame f → st.turns ≤ t → Runs code most n d Q L s p2 (here s p1 f st.world) st.turns (go st))
      → Runs code most n (c + d) Q L s p2 m t (continued r (followed go))
  seq_runs {c} {d} (done normal st) go a b =
      let m = a.meets in runs_after (reaches_to m.3 a.reaches) (b m.0 st m.2 m.1 a.reaches.falls)
  seq_runs {c} {d} (done (leaves k) st) go a b = record { next = a.next; reaches = slower (c + d) (omega arith) a.reaches; meets = a.meets }
  seq_runs {c} {d} {L = L} (stopped x st) go a b = stop_runs {L = L} {M = L} (c + d) (omega arith) x st a

  -- the label at the end of a region that has no cleanup of its own
  label_step : (s : Site) (p l : ℕ) (f : Frame) (w : World) → code.op_at s.func p ≡ Some (label l)
      → step code (here s p f w) ≡ at (compiled s.func) (p + 1) f s.frames w
  label_step s p l f w e = step_at s p f w (label l) e

  -- an exit beyond a region is one of those that the region outside counts
  beyond_has : (outs : List ℕ) (k : ℕ) → contains outs (suc k) ≡ true → contains (beyond outs) k ≡ true
  beyond_has [] k h = absurd (cc h)
  beyond_has (zero ∷ outs) k h = beyond_has outs k (beyond_zero k (contains outs (suc k)) h)
  beyond_has (suc m ∷ outs) k h = beyond_suc (suc m == suc k) (m == k) (contains outs (suc k)) (contains (beyond outs) k) (same_suc m k) h (beyond_has outs k)

  left_here : {c : ℕ} {em : Emitting} {xs : List Exit} {outs : List ℕ} (l : ℕ) (s : Site) (p1 : ℕ) (m : State) (t : ℕ) (st : RegionState)
      → code.op_at s.func p1 ≡ Some (label l) → code.label_at s.func l ≡ p1
      → (y : Next) → Paced code most m t y st.turns c → LeftAt code em n s (exit_to l ∷ xs) outs 0 st y
      → Runs code most n (c + 1) Any (LeftAt code em n s xs (beyond outs)) s (p1 + 1) m t (done normal st)
  left_here {c} l s p1 m t st e q y reaches x =
      let is = x.is ∙ ap (λ z. at (compiled s.func) z x.frame s.frames st.world) q in
      record {
        next = at (compiled s.func) (p1 + 1) x.frame s.frames st.world;
        reaches = reaches_on (reaches_to is reaches) (free_step st.turns (label_step s p1 l x.frame st.world e) (label_quiet s p1 l x.frame st.world e));
        meets = (x.frame, x.same, tt, refl);
      }

  pub bounded_runs : {c : ℕ} {em : Emitting} {xs : List Exit} {outs : List ℕ} (l : ℕ) (s : Site) (p1 : ℕ) (m : State) (t : ℕ) (r : Result Flow)
      → code.op_at s.func p1 ≡ Some (label l) → code.label_at s.func l ≡ p1
      → Runs code most n c Any (LeftAt code em n s (exit_to l ∷ xs) outs) s p1 m t r
      → Runs code most n (c + 1) Any (LeftAt code em n s xs (beyond outs)) s (p1 + 1) m t (continued r (λ flow. pure (outwards flow)))
  bounded_runs l s p1 m t (done normal st) e q a =
      let x = a.meets in
      record {
        next = at (compiled s.func) (p1 + 1) x.0 s.frames st.world;
        reaches = reaches_on (reaches_to x.3 a.reaches) (free_step st.turns (label_step s p1 l x.0 st.world e) (label_quiet s p1 l x.0 st.world e));
        meets = (x.0, x.1, tt, refl);
      }
  bounded_runs l s p1 m t (done (leaves zero) st) e q a = left_here l s p1 m t st e q a.next a.reaches a.meets
  bounded_runs l s p1 m t (done (leaves (suc zero)) st) e q a = left_here l s p1 m t st e q a.next a.reaches a.meets
  bounded_runs {c} {em} {xs} {outs} l s p1 m t (done (leaves (suc (suc k))) st) e q a =
      let x = a.meets in
      record { next = a.next; reaches = slower (c + 1) (omega arith) a.reaches; meets = record { frame = x.frame; same = x.same; is = x.is; way = x.way; known = beyond_has outs k x.known; inside = omega (arith, x.inside) } }
  bounded_runs {c} {em} {xs} {outs} l s p1 m t (stopped x st) e q a =
      stop_runs {L = LeftAt code em n s (exit_to l ∷ xs) outs} {M = LeftAt code em n s xs (beyond outs)} (c + 1) (omega arith) x st a

  -- an exit that goes on: it says where, if a cleanup is on the way, and jumps
  nat_same : (k : ℕ) → (k == k) ≡ true
  nat_same k = grind (arith, nat_tests)

  nat_other : (a k t : ℕ) → a ≡ k + 2 → t < k → (a == t) ≡ false
  nat_other a k t e lt = grind (arith, nat_tests)

  jump_step : (s : Site) (p l : ℕ) (f : Frame) (w : World) → code.op_at s.func p ≡ Some (jump l)
      → step code (here s p f w) ≡ at (compiled s.func) (code.label_at s.func l) f s.frames w
  jump_step s p l f w e = step_at s p f w (jump l) e

  way_step : (em : Emitting) (s : Site) (p z : ℕ) (f : Frame) (w : World) → SlotsBehind code s.func n em
      → code.op_at s.func p ≡ Some (plain (store (way_place em) (number (pos z))))
      → step code (here s p f w) ≡ at (compiled s.func) (p + 1) (with_slot em.way (number_word (pos z)) f) s.frames w
  way_step em s p z f w b e =
      let kind = ap (code.kinds_at s.func) b.way ∙ b.way_kind in
      step_at s p f w (plain (store (way_place em) (number (pos z)))) e ∙
      ap (λ k. performed code (stored_at (slot_location k f.call em.way 0) (pos z) f w)
      (record { function = compiled s.func; place = p; frame = f }) s.frames w) kind

  -- a name in the slot is no call
  pub way_quiet : (em : Emitting) (s : Site) (p z : ℕ) (f : Frame) (w : World) → SlotsBehind code s.func n em
      → code.op_at s.func p ≡ Some (plain (store (way_place em) (number (pos z)))) → counts_at code (here s p f w) ≡ false
  way_quiet em s p z f w b e =
      let kind = ap (code.kinds_at s.func) b.way ∙ b.way_kind in
      uncounted s p f w (plain (store (way_place em) (number (pos z)))) e (ap (λ k. is_calling (stored_at (slot_location k f.call em.way 0) (pos z) f w)) kind)

  pub leave_runs : (em : Emitting) (xs : List Exit) (k : ℕ) (s : Site) (p p' : ℕ) (f : Frame) (st : RegionState) → k < length xs → SlotsBehind code s.func n em
      → SameBelow n st.frame f → p + length (leave_code em k xs) ≤ code.label_at s.func (first_label k xs) → HasAt code s.func p (leave_code em k xs)
      → Runs code most n 2 Any (LeftAt code em n s xs (k ∷ [])) s p' (here s p f st.world) st.turns (done (leaves (suc k)) st)
  leave_runs em xs k s p p' f st lt b same ahead has = go (crosses k xs) refl ahead has
    where
      only_has : contains (k ∷ []) k ≡ true
      only_has = ap (λ d. d || false) (nat_same k)

      go : (c : Bool) → crosses k xs ≡ c
          → p + length (if c then set_way em (name_of k xs) ∷ quiet (jump (first_label k xs)) ∷ [] else quiet (jump (first_label k xs)) ∷ []) ≤ code.label_at s.func (first_label k xs)
          → HasAt code s.func p (if c then set_way em (name_of k xs) ∷ quiet (jump (first_label k xs)) ∷ [] else quiet (jump (first_label k xs)) ∷ [])
          → Runs code most n 2 Any (LeftAt code em n s xs (k ∷ [])) s p' (here s p f st.world) st.turns (done (leaves (suc k)) st)
      go false e le h = record {
        next = at (compiled s.func) (code.label_at s.func (first_label k xs)) f s.frames st.world;
        reaches = slower 2 (omega arith) (free_step st.turns (jump_step s p (first_label k xs) f st.world h.0) (jump_quiet s p (first_label k xs) (code.label_at s.func (first_label k xs)) f st.world h.0 refl (omega (arith, le))));
        meets = record { frame = f; same = same; is = refl; way = λ c. let d : false ≡ true = sym e ∙ c in absurd (cc d); known = only_has; inside = lt };
      }
      go true e le h =
          let g = with_slot em.way (number_word (pos (name_of k xs))) f in
          record {
            next = at (compiled s.func) (code.label_at s.func (first_label k xs)) g s.frames st.world;
            reaches = reaches_on (free_step st.turns (way_step em s p (name_of k xs) f st.world b h.0) (way_quiet em s p (name_of k xs) f st.world b h.0))
                (free_step st.turns (jump_step s (p + 1) (first_label k xs) g st.world h.3.0)
                (jump_quiet s (p + 1) (first_label k xs) (code.label_at s.func (first_label k xs)) g st.world h.3.0 refl (omega (arith, le))));
            meets = record {
              frame = g;
              same = record {
                call = same.call;
                slots = λ t lt. ap (λ c. if c then number_word (pos (name_of k xs)) else f.slots t) (nat_other em.way n t b.way lt) ∙ same.slots t lt;
              };
              is = refl;
              way = λ c. ap (λ d. if d then number_word (pos (name_of k xs)) else f.slots em.way) (nat_same em.way);
              known = only_has;
              inside = lt;
            };
          }
