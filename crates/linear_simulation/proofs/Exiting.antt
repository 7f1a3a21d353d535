-- Normal exits through a cleanup.
use Rattle.std.proofs.Common.{◌≡◌, ℕ, zero, suc, ◌+◌, ◌<◌, ◌≤◌, ◌⊎◌, inl, inr, true, List, [], ◌∷◌, ◌++◌, length, Some, refl, sym, ap, ◌∙◌, subst, arith, length-drop}
use Rattle.std.proofs.lemmas.List.{length-map}
use Rattle.std.specs.Prelude.{pos, ◌==◌, if◌then◌else◌}
use Rattle.std.proofs.lemmas.Bool.Decides.{nat_tests}
use Rattle.meaning_forms.specs.Class.{contains}
use Rattle.meaning_forms.specs.Outcome.{thrown, cancelled, ended, undefined, out_of_turns, deep}
use Rattle.region_forms.specs.Form.{Op, store, number}
use Rattle.region_forms.specs.Evaluation.{slot_location}
use Rattle.region_forms.specs.Effect.{stored_at}
use Rattle.region_forms.specs.World.{number_word, Frame, World, with_slot, type_at}
use Rattle.region_forms.specs.Outcome.{State as RegionState, Context, Flow, normal, leaves, Result, done, stopped, Action, continued, pure}
use Rattle.linear_forms.specs.Linear.{plain, label}
use Rattle.linear_forms.specs.Stub.{compiled}
use Rattle.linear_forms.specs.Activation.{Code, State, goes_to, at}
use Rattle.linear_forms.specs.Operation.{performed}
use Rattle.linear_forms.specs.Search.{found}
use Rattle.linear_forms.specs.Unwinding.{unwind}
use Rattle.linear_forms.specs.Forced.{force}
use Rattle.linear_forms.specs.Machine.{step}
use Rattle.linear_forms.specs.Exits.{Exit, exit_to, inner, first_label, name_of}
use Rattle.linear_forms.specs.Emission.{Emitting, quiet, put, way_place, way_test, way_tests, exit_code}
use Rattle.linear_forms.specs.Agrees.{Agrees}
use Rattle.linear_forms.specs.Pace.{Paced}
use Rattle.linear_forms.specs.CodeRuns.{HasAt, Site, context_at, SameBelow, LeftAt, ExitsAt, Any, Runs, here, SlotsBehind}
use Rattle.linear_forms.proofs.Running
use Rattle.linear_forms.proofs.Ways
use Rattle.linear_simulation.specs.Comes.{Comes, goes_on}
use Rattle.linear_simulation.proofs.Operations.{act_of, Cleans}
use Rattle.linear_simulation.proofs.Parts
use Rattle.linear_simulation.proofs.Padding.{behind_same}
use Rattle.linear_simulation.proofs.Passing

module _ (code : Code) (most n : ℕ) where
  -- what follows an operation in its cover
  pub comes_then : {c : ℕ} {L : ExitsAt} {m : State} {t p' : ℕ} (s : Site) (p : ℕ) (x f : Frame) (d : ℕ) (go : Action Flow) → SameBelow n x f → code.cover_at s.func p ≡ s.cover
      → (r : Result (Unit {0})) → Comes code most x (act_of code most n s p f) s.frames (goes_on x (act_of code most n s p f) s.frames) m t r c
      → ((st : RegionState) → SameBelow n st.frame f → st.turns ≤ t → Runs code most n d Any L s p' (here s (p + 1) f st.world) st.turns (go st))
      → Runs code most n (c + d) Any L s p' m t (continued r (λ u. go))
  comes_then s p x f d go same cov (done v st) k next =
      Running.runs_after code most n (Running.reaches_to code most n k.comes.1 k.reaches)
      (next st (subst (λ y. SameBelow n y f) (sym k.comes.0) same) k.reaches.falls)
  comes_then {c} s p x f d go same cov (stopped (thrown e) st) k next = record {
    next = k.next;
    reaches = Running.slower code most n (c + d) (omega arith) k.reaches;
    meets = (
      k.comes.0,
      f,
      ap (λ y. found code (compiled s.func) y (type_at st.world e) s.frames) (sym cov) ∙ k.comes.1,
      subst (λ y. SameBelow n y f) (sym k.comes.2) same,
      k.comes.3 ∙ ap (λ y. unwind code y k.comes.0 e (compiled s.func) f s.frames st.world) cov,
    );
  }
  comes_then {c} s p x f d go same cov (stopped (cancelled z) st) k next = record {
    next = k.next;
    reaches = Running.slower code most n (c + d) (omega arith) k.reaches;
    meets = (
      f,
      subst (λ y. SameBelow n y f) (sym k.comes.0) same,
      k.comes.1 ∙ ap (λ y. force code y z (compiled s.func) f s.frames st.world) cov,
    );
  }
  comes_then {c} s p x f d go same cov (stopped (ended e) st) k next = record { next = k.next; reaches = Running.slower code most n (c + d) (omega arith) k.reaches; meets = k.comes }
  comes_then {c} s p x f d go same cov (stopped undefined st) k next = record { next = k.next; reaches = Running.slower code most n (c + d) (omega arith) k.reaches; meets = k.comes }
  comes_then {c} s p x f d go same cov (stopped out_of_turns st) k next = record { next = k.next; reaches = Running.slower code most n (c + d) (omega arith) k.reaches; meets = k.comes }
  comes_then {c} s p x f d go same cov (stopped deep st) k next = record { next = k.next; reaches = Running.slower code most n (c + d) (omega arith) k.reaches; meets = k.comes }

  module _ (fuel : ℕ) (em : Emitting) (s : Site) (behind : SlotsBehind code s.func n em) (agrees : Agrees code (compiled s.func) s.guards s.cover s.frames)
      (o : Op) (clean : Context → Action (Unit {0})) (cleans : Cleans code most n fuel s o clean) (cov : (put o s.cover).cover ≡ s.cover) (xs : List Exit) (l : ℕ)
      (outs0 : List ℕ) (known : (k : ℕ) → contains outs0 (suc k) ≡ true → k < length xs) where
    -- from the label of the cleanup
    module _ (outs : List ℕ) (qc : ℕ) (has : HasAt code s.func qc (quiet (label (l + 2)) ∷ put o s.cover ∷ way_tests em xs outs))
        (last : HasAt code s.func (qc + 1 + 1 + length outs) (quiet (label l) ∷ []))
        (listed : (k : ℕ) → contains outs0 (suc k) ≡ true → contains outs k ≡ true) (inside : (k : ℕ) → contains outs k ≡ true → k < length xs) where
      abbrev Left : ExitsAt
      Left = LeftAt code em n s (exit_to l ∷ xs) outs0

      from_label : (flow : Flow) (f : Frame) (st : RegionState) → st.turns < fuel → SameBelow n st.frame f
          → ((st2 : RegionState) → SameBelow n st2.frame f
          → Runs code most n (length outs) Any Left s (qc + 1 + 1 + length outs) (here s (qc + 1 + 1) f st2.world) st2.turns (done flow st2))
          → Runs code most n (length outs + 9) Any Left s (qc + 1 + 1 + length outs) (here s qc f st.world) st.turns (continued (clean (context_at s) st) (λ u. pure flow))
      from_label flow f st lt same next =
          let c = has.3.1 ∙ cov in
          let k = cleans.runs s.guards (qc + 1) f st lt same (subst (λ z. Agrees code (compiled s.func) s.guards z s.frames) (sym c) agrees) has.3.0 in
          Running.runs_slower code most n (length outs + 9) (omega arith)
          (Running.runs_after code most n (Running.free_step code most n st.turns (Parts.label_step code most n s qc (l + 2) f st.world has.0)
          (Running.label_quiet code most n s qc (l + 2) f st.world has.0))
          (comes_then {L = Left} s (qc + 1) st.frame f (length outs) (pure flow) same c (clean (context_at s) st) k (λ st2 same2 le. next st2 same2)))

      -- a normal end, which is no way out
      passes : (z : ℕ) (f : Frame) (st : RegionState) → SameBelow n st.frame f → f.slots em.way ≡ number_word (pos z) → ((k : ℕ) → contains outs k ≡ true → z ≡ name_of k xs → ⊥)
          → Runs code most n (length outs) Any Left s (qc + 1 + 1 + length outs) (here s (qc + 1 + 1) f st.world) st.turns (done normal st)
      passes z f st same way ne = record {
        next = goes_to (here s (qc + 1 + 1 + length outs) f st.world);
        reaches = Passing.ways_pass code most n em xs s z f st.world st.turns behind way outs (qc + 1 + 1) ne has.3.3;
        meets = (f, same, tt, refl);
      }

      no_name : (k : ℕ) → contains outs k ≡ true → 0 ≡ name_of k xs → ⊥
      no_name k h e = let lt = inside k h in absurd (omega (arith, length-drop k xs, e, lt))

      own_name : (k : ℕ) → contains outs k ≡ true → length xs + 1 ≡ name_of k xs → ⊥
      own_name k h e = absurd (omega (arith, length-drop k xs, e))

      -- an exit to the region's own end
      ends_here : (k : ℕ) → inner k ≡ 0 → contains outs0 0 ≡ true → (f : Frame) (st : RegionState) → SameBelow n st.frame f → f.slots em.way ≡ number_word (pos (length xs + 1))
          → Runs code most n (length outs) Any Left s (qc + 1 + 1 + length outs) (here s (qc + 1 + 1) f st.world) st.turns (done (leaves k) st)
      ends_here k z kn f st same way = record {
        next = goes_to (here s (qc + 1 + 1 + length outs) f st.world);
        reaches = Passing.ways_pass code most n em xs s (length xs + 1) f st.world st.turns behind way outs (qc + 1 + 1) own_name has.3.3;
        meets = subst (λ j. Left j st (goes_to (here s (qc + 1 + 1 + length outs) f st.world))) (sym z) (record {
          frame = f;
          same = same;
          is = ap (λ q. at (compiled s.func) q f s.frames st.world) (sym last.2);
          way = λ c. absurd (cc c);
          known = kn;
          inside = omega arith;
        });
      }

      -- an exit farther out
      ends_out : (k j : ℕ) → inner k ≡ suc j → contains outs0 (suc j) ≡ true → (f : Frame) (st : RegionState) → SameBelow n st.frame f → f.slots em.way ≡ number_word (pos (name_of j xs))
          → Runs code most n (length outs) Any Left s (qc + 1 + 1 + length outs) (here s (qc + 1 + 1) f st.world) st.turns (done (leaves k) st)
      ends_out k j z kn f st same way = record {
        next = at (compiled s.func) (code.label_at s.func (first_label j xs)) f s.frames st.world;
        reaches = Ways.ways_reach code most n em xs s j f st.world st.turns behind (known j kn) way outs (qc + 1 + 1) (listed j kn) has.3.3;
        meets = subst (λ i. Left i st (at (compiled s.func) (code.label_at s.func (first_label j xs)) f s.frames st.world)) (sym z) (record {
          frame = f;
          same = same;
          is = refl;
          way = λ c. way;
          known = kn;
          inside = let lt = known j kn in omega (arith, lt);
        });
      }

      abbrev own_exit : Exit
      own_exit = record { cleanup = Some (l + 2); end = l }

      -- an exit that comes to the cleanup
      pub leaves_runs : (k j : ℕ) → inner k ≡ j → (f : Frame) (st : RegionState) → st.turns < fuel → SameBelow n st.frame f
          → f.slots em.way ≡ number_word (pos (name_of j (own_exit ∷ xs))) → contains outs0 j ≡ true
          → Runs code most n (length outs + 9) Any Left s (qc + 1 + 1 + length outs) (here s qc f st.world) st.turns (continued (clean (context_at s) st) (λ u. pure (leaves k)))
      leaves_runs k zero z f st lt same way kn =
          from_label (leaves k) f st lt same (λ st2 same2. ends_here k z kn f st2 same2 (way ∙ ap (λ x. number_word (pos x)) own_length))
        where
          own_length : name_of 0 (own_exit ∷ xs) ≡ length xs + 1
          own_length = omega arith
      leaves_runs k (suc j) z f st lt same way kn = from_label (leaves k) f st lt same (λ st2 same2. ends_out k j z kn f st2 same2 way)

      no_tests : outs ≡ [] → (f : Frame) (st : RegionState) → SameBelow n st.frame f
          → Runs code most n (length outs) Any Left s (qc + 1 + 1 + length outs) (here s (qc + 1 + 1) f st.world) st.turns (done normal st)
      no_tests e f st same =
          let q : qc + 1 + 1 ≡ qc + 1 + 1 + length outs = omega (arith, ap length e) in
          record {
            next = goes_to (here s (qc + 1 + 1 + length outs) f st.world);
            reaches = subst (λ z. Paced code most (here s (qc + 1 + 1) f st.world) st.turns (goes_to (here s z f st.world)) st.turns (length outs)) q
                (Running.slower code most n (length outs) (omega arith) (Running.reaches_now code most n _ st.turns));
            meets = (f, same, tt, refl);
          }

      pub normal_runs : (f : Frame) (st : RegionState) → st.turns < fuel → SameBelow n st.frame f → (outs ≡ []) ⊎ (f.slots em.way ≡ number_word (pos 0))
          → Runs code most n (length outs + 9) Any Left s (qc + 1 + 1 + length outs) (here s qc f st.world) st.turns (continued (clean (context_at s) st) (λ u. pure normal))
      normal_runs f st lt same (inr way) = from_label normal f st lt same (λ st2 same2. passes 0 f st2 same2 way no_name)
      normal_runs f st lt same (inl e) = from_label normal f st lt same (λ st2 same2. no_tests e f st2 same2)

    -- the code of the exits, at the end of what is protected
    itself : (a : ℕ) → (a == a) ≡ true
    itself a = grind (arith, nat_tests)

    way_step : (p z : ℕ) (f : Frame) (w : World) → code.op_at s.func p ≡ Some (plain (store (way_place em) (number (pos z))))
        → step code (here s p f w) ≡ at (compiled s.func) (p + 1) (with_slot em.way (number_word (pos z)) f) s.frames w
    way_step p z f w e =
        let kind = ap (code.kinds_at s.func) behind.way ∙ behind.way_kind in
        Running.step_at code most n s p f w (plain (store (way_place em) (number (pos z)))) e ∙
        ap (λ k. performed code (stored_at (slot_location k f.call em.way 0) (pos z) f w)
        (record { function = compiled s.func; place = p; frame = f }) s.frames w) kind

    -- where the label of the cleanup stands, and how a normal end comes there
    pub record Located (outs : List ℕ) (q0 : ℕ) : Type 0 where
      pub qc : ℕ
      pub has : HasAt code s.func qc (quiet (label (l + 2)) ∷ put o s.cover ∷ way_tests em xs outs)
      pub last : HasAt code s.func (qc + 1 + 1 + length outs) (quiet (label l) ∷ [])
      pub place : qc + 1 + 1 + length outs ≡ q0 + length (exit_code em (Some o) s.cover xs l outs)
      pub comes : (f : Frame) (w : World) (t : ℕ) →
          (g : Frame) × ((x : Frame) → SameBelow n x f → SameBelow n x g) × ((outs ≡ []) ⊎ (g.slots em.way ≡ number_word (pos 0))) ×
          Paced code most (here s q0 f w) t (goes_to (here s qc g w)) t 1

    pub located : (outs : List ℕ) (q0 : ℕ) → HasAt code s.func q0 (exit_code em (Some o) s.cover xs l outs ++ quiet (label l) ∷ []) → Located outs q0
    located [] q0 h = record {
      qc = q0;
      has = Parts.has_front code s.func q0 (quiet (label (l + 2)) ∷ put o s.cover ∷ []) (quiet (label l) ∷ []) h;
      last = subst (λ z. HasAt code s.func z (quiet (label l) ∷ [])) (omega arith) h.3.3;
      place = omega arith;
      comes = λ f w t. (f, λ x same. same, inl refl, Running.slower code most n 1 (omega arith) (Running.reaches_now code most n _ t));
    }
    located (m ∷ outs) q0 h =
        let tail = h.3 in
        let tests = Parts.has_front code s.func (q0 + 1) (quiet (label (l + 2)) ∷ put o s.cover ∷ way_tests em xs (m ∷ outs)) (quiet (label l) ∷ []) tail in
        let end = Parts.has_back code s.func (q0 + 1) (quiet (label (l + 2)) ∷ put o s.cover ∷ way_tests em xs (m ∷ outs)) (quiet (label l) ∷ []) tail in
        let len : length (way_tests em xs (m ∷ outs)) ≡ length (m ∷ outs) = length-map (m ∷ outs) (way_test em xs) in
        record {
          qc = q0 + 1;
          has = tests;
          last = subst (λ z. HasAt code s.func z (quiet (label l) ∷ [])) (omega (arith, len)) end;
          place = omega (arith, len);
          comes = λ f w t. (
            with_slot em.way (number_word (pos 0)) f,
            λ x same. behind_same n em.way (number_word (pos 0)) x f (omega (arith, behind.way)) same,
            inr (ap (λ b. if b then number_word (pos 0) else f.slots em.way) (itself em.way)),
            Running.free_step code most n t (way_step q0 0 f w h.0) (Running.way_quiet code most n em s q0 0 f w behind h.0),
          );
        }
