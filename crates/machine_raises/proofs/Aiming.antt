-- The canonical frame address of a raise's target is where its frame ends.
use Rattle.std.proofs.Common.{◌≡◌, ◌∙◌, refl, sym, ap, arith, ℕ, ◌+◌, ◌≤◌, ◌==◌, false, List, [], ◌∷◌, ◌++◌, length, length-append, Option, Some, None, inl, inr}
use Rattle.std.specs.Prelude.{◌⊎◌, if◌then◌else◌}
use Rattle.std.proofs.lemmas.Bool.Decides.{nat_tests}
use Rattle.std.proofs.lemmas.List.{length-map}
use Rattle.rv64_isa.specs.State.{State, Part}
use Rattle.rv64_isa.specs.Step.{x}
use Rattle.table_forms.specs.declared.found.Verdict as found_verdict
use Rattle.table_forms.specs.Fde.{Fde}
use Rattle.region_forms.specs.World.{World}
use Rattle.linear_forms.specs.Tables.{Cover, bare, unpadded, padded}
use Rattle.linear_forms.specs.Verdict.{Verdict, target, no_way, clean, nothing_here, pad_verdict}
use Rattle.linear_forms.specs.Search.{found_by, found_at, found_above}
use Rattle.linear_forms.specs.Activation.{Code, Activation, look, sense}
use Rattle.machine_forms.specs.Registers.{sp}
use Rattle.machine_stubs.specs.Stretches.{frame_size}
use Rattle.raise_simulation.specs.Opens.{Open, activations, IsFirst, IsBarred, cfa_with}
use Rattle.machine_simulation.specs.Plan.{Plan, shape}
use Rattle.machine_simulation.specs.StubCalls.{StubWaits, DestructorWaits, UnexpectedWaits, LeavingWaits}
use Rattle.machine_simulation.specs.Calls.{CallsWait}
use Rattle.machine_simulation.specs.KeptCalls.{KeptCalls}
use Rattle.machine_raises.specs.Targets.{call_size, target_end}
use Rattle.machine_raises.proofs.KeptBehind.{kept_call, kept_stub}
use Rattle.machine_raises.proofs.Waiting.{opens_of, tail_of, all_are}
use Rattle.machine_raises.proofs.OnStack.{OnStack}
use Rattle.machine_raises.proofs.Stacks.{top_opens, top_tail}

-- ---- what is found is in front of what bars
deep : (code : Code) (t : Option ℕ) (os tail : List Activation) (d : ℕ) → found_above code t (os ++ tail) ≡ Some d → found_above code t tail ≡ None → length tail ≤ d
deep code t [] tail d e none = let both : Some d ≡ None = sym e ∙ none in absurd (cc both)
deep code t (a ∷ os) tail d e none = by (look code a.function a.place) (deep code t os tail d) e
  where
    here : Some (length (os ++ tail)) ≡ Some d → length tail ≤ d
    here e = let same : length (os ++ tail) ≡ d = cc e in omega (arith, same, length-append os tail)

    verdicts : (v : Verdict) → (found_above code t (os ++ tail) ≡ Some d → found_above code t tail ≡ None → length tail ≤ d) → found_by v (length (os ++ tail)) (found_above code t (os ++ tail)) ≡ Some d → length tail ≤ d
    verdicts (target n) more e = here e
    verdicts no_way more e = absurd (cc e)
    verdicts clean more e = more e none
    verdicts nothing_here more e = more e none

    by : (c : Cover) → (found_above code t (os ++ tail) ≡ Some d → found_above code t tail ≡ None → length tail ≤ d) → found_at code.rows (sense code a.function) c t (length (os ++ tail)) (found_above code t (os ++ tail)) ≡ Some d →
        length tail ≤ d
    by bare more e = absurd (cc e)
    by unpadded more e = more e none
    by (padded q chain) more e = verdicts (pad_verdict code.rows (sense code a.function) chain t) more e

none_behind : (code : Code) (t : Option ℕ) (fdes : List Fde) (say : ℕ → found_verdict.Verdict) (ip : ℕ) (tail : List Activation) → IsFirst fdes say ip tail ⊎ IsBarred code say ip tail → found_above code t tail ≡ None
none_behind code t fdes say ip tail (inl first) = ap (found_above code t) first.none
none_behind code t fdes say ip tail (inr bars) =
    ap (found_above code t) bars.is ∙ ap (λ c. found_at code.rows (sense code bars.first.function) c t (length bars.others) (found_above code t bars.others)) bars.bars

pub tail_below : (code : Code) (t : Option ℕ) (fdes : List Fde) (say : ℕ → found_verdict.Verdict) (ip d : ℕ) (os tail : List Activation) → found_above code t (os ++ tail) ≡ Some d → IsFirst fdes say ip tail ⊎ IsBarred code say ip tail →
    length tail ≤ d
tail_below code t fdes say ip d os tail e ends = deep code t os tail d e (none_behind code t fdes say ip tail ends)

-- ---- frames of calls that wait
too_few : (p : Plan) (d stack : ℕ) (fs : List Activation) → length fs ≤ d → target_end p d stack fs ≡ 0
too_few p d stack [] le = refl
too_few p d stack (a ∷ fs) le =
    let other : (length fs == d) ≡ false = grind (arith, nat_tests, le) in
    ap (λ b. if b then stack + call_size p a.function else target_end p d (stack + call_size p a.function) fs) other ∙ too_few p d (stack + call_size p a.function) fs (omega (arith, le))

pub stub_size : (p : Plan) (a : Activation) (v : World) (memory : List Part) (stack back outer : ℕ) → StubWaits p a v memory stack back outer → call_size p a.function ≡ frame_size a.function
stub_size p a v memory stack back outer w = by w.waits
  where
    by : DestructorWaits p a v memory stack back ⊎ UnexpectedWaits p a v memory stack back ⊎ LeavingWaits p a v memory stack back → call_size p a.function ≡ frame_size a.function
    by (inl d) = ap (call_size p) d.callee ∙ sym (ap frame_size d.callee)
    by (inr (inl u)) = ap (call_size p) u.callee ∙ sym (ap frame_size u.callee)
    by (inr (inr l)) = ap (call_size p) l.callee ∙ sym (ap frame_size l.callee)

one_more : (p : Plan) (d many size stack : ℕ) (a : Activation) (os : List Open) (fs : List Activation) → call_size p a.function ≡ size → length os + many ≡ length fs → cfa_with d many (stack + size) os ≡ target_end p d (stack + size) fs →
    (if length os + many == d then stack + size else cfa_with d many (stack + size) os) ≡ target_end p d stack (a ∷ fs)
one_more p d many size stack a os fs is count rest =
    ap (λ n. if n == d then stack + size else cfa_with d many (stack + size) os) count ∙ ap (λ r. if length fs == d then stack + size else r) rest
    ∙ sym (ap (λ k. if length fs == d then stack + k else target_end p d (stack + k) fs) is)

pub counted : (os : List Open) (tail fs : List Activation) → activations os ++ tail ≡ fs → length os + length tail ≡ length fs
counted os tail fs e = omega (arith, ap length e, length-append (activations os) tail, length-map os (λ o. o.activation))

waiting_end : (p : Plan) (d : ℕ) (fs : List Activation) (v : World) (memory : List Part) (stack back limit : ℕ) (regs : List ℕ) (w : CallsWait p fs v memory stack back limit) (h : KeptCalls p fs v memory stack regs) → length (tail_of p fs v memory stack back limit w) ≤ d →
    cfa_with d (length (tail_of p fs v memory stack back limit w)) stack (opens_of p fs v memory stack back limit regs w h) ≡ target_end p d stack fs
unfolding opens_of tail_of
waiting_end p d [] v memory stack back limit regs w h le = refl
waiting_end p d (a ∷ fs) v memory stack back limit regs (inl (less, n, outer, waits, more)) h le =
    let k = kept_call p n a fs v memory stack regs waits.callee h in
    let os = opens_of p fs v memory (stack + (shape p n).size) outer a.frame.call k.before more k.others in
    let tail = tail_of p fs v memory (stack + (shape p n).size) outer a.frame.call more in
    one_more p d (length tail) (shape p n).size stack a os fs (ap (call_size p) waits.callee) (counted os tail fs (all_are p fs v memory (stack + (shape p n).size) outer a.frame.call k.before more k.others))
    (waiting_end p d fs v memory (stack + (shape p n).size) outer a.frame.call k.before more k.others le)
waiting_end p d (a ∷ fs) v memory stack back limit regs (inr (inl (outer, waits, more))) h le =
    let others = kept_stub p a fs v memory stack back outer regs waits h in
    let os = opens_of p fs v memory (stack + frame_size a.function) outer limit regs more others in
    let tail = tail_of p fs v memory (stack + frame_size a.function) outer limit more in
    one_more p d (length tail) (frame_size a.function) stack a os fs (stub_size p a v memory stack back outer waits) (counted os tail fs (all_are p fs v memory (stack + frame_size a.function) outer limit regs more others))
    (waiting_end p d fs v memory (stack + frame_size a.function) outer limit regs more others le)
waiting_end p d (a ∷ fs) v memory stack back limit regs (inr (inr w)) h le = sym (too_few p d stack (a ∷ fs) le)

module _ (p : Plan) (a : Activation) (fs : List Activation) (v : World) (s : State) (h : OnStack p a fs v s) where
  pub whole_end : (d : ℕ) → length (top_tail p a fs v s h) ≤ d → cfa_with d (length (top_tail p a fs v s h)) (x s sp) (top_opens p a fs v s h) ≡ target_end p d (x s sp) (a ∷ fs)
  unfolding top_opens top_tail
  whole_end d le =
      let stack = x s sp + h.size in
      let os = opens_of p fs v s.memory stack h.back h.limit h.before h.waiting h.kept in
      let tail = tail_of p fs v s.memory stack h.back h.limit h.waiting in
      one_more p d (length tail) h.size (x s sp) a os fs h.called (counted os tail fs (all_are p fs v s.memory stack h.back h.limit h.before h.waiting h.kept))
      (waiting_end p d fs v s.memory stack h.back h.limit h.before h.waiting h.kept le)
