-- An unwind stops at a call of one of the runtime's own functions: among those that wait, or at the one that runs.
use Rattle.std.proofs.Common.{◌≡◌, ◌∙◌, sym, ap, subst, refl, arith, ℕ, ◌+◌, ◌≤◌, List, [], ◌∷◌, ◌++◌, length, inl, inr}
use Rattle.std.specs.Prelude.{◌⊎◌}
use Rattle.std.specs.List.{AllByRecursion}
use Rattle.rv64_isa.specs.State.{State, Part}
use Rattle.rv64_isa.specs.Step.{x}
use Rattle.region_forms.specs.World.{World}
use Rattle.linear_forms.specs.Activation.{Activation}
use Rattle.linear_forms.specs.UnitRun.{code_of}
use Rattle.machine_forms.specs.Registers.{sp}
use Rattle.machine_pieces.specs.Keeping.{saved_of, AreSmall, outward}
use Rattle.machine_stubs.specs.Stretches.{frame_size}
use Rattle.machine_simulation.specs.KeptCalls.{KeptCalls}
use Rattle.machine_simulation.proofs.KeptClosed.{before_small}
use Rattle.raise_simulation.specs.OpenCalls.{outer_sp, regs_at}
use Rattle.raise_simulation.specs.Opens.{Open, activations, calls, Judge}
use Rattle.machine_simulation.specs.Plan.{Plan, shape}
use Rattle.machine_simulation.specs.StubCalls.{StubStands, StubWaits}
use Rattle.machine_simulation.specs.Calls.{CallsWait}
use Rattle.machine_simulation.specs.Exceptions.{destroyed}
use Rattle.machine_simulation.proofs.Closing.{destroyed_nothing}
use Rattle.machine_raises.proofs.KeptBehind.{kept_call, kept_stub}
use Rattle.machine_raises.proofs.Waiting.{call_open, stub_open, opens_of, tail_of, all_are}
use Rattle.machine_raises.proofs.OnStack.{OnStack, own_outward, own_small}
use Rattle.machine_raises.proofs.Stacks.{top_open, top_opens, top_tail}
use Rattle.machine_raises.proofs.Passing.{Passed, StopsStubs, stub_not_passed}
use Rattle.machine_raises.proofs.Landing.{same_first, same_others}
use Rattle.stub_landings.specs.Rests.{StubRegisters}
use Rattle.stub_landings.specs.OwnCalls.{IsOwn}
use Rattle.stub_landings.proofs.Own.{own_facts, frame_owned, kept_owned}

-- A call among those that wait: it waits, and so do the calls that wait for it; those whose destructors run stay. Registers hold what the calls that are
-- passed have saved.
pub record OwnWaits (p : Plan) (a : Activation) (rest fs : List Activation) (v : World) (memory : List Part) (stack limit : ℕ) (regs : List ℕ) : Type 0 where
  pub back : ℕ
  pub inner : ℕ
  pub below : ℕ
  pub less : below ≤ limit
  pub waits : StubWaits p a v memory stack inner back
  pub waiting : CallsWait p rest v memory (stack + frame_size a.function) back below
  pub none : destroyed fs ≡ destroyed (a ∷ rest)
  pub kept : StubRegisters p a.function rest v memory stack regs

-- a call that waits, or the one that raises, which waits for nothing
pub record OwnLanded (p : Plan) (a : Activation) (rest fs : List Activation) (v : World) (memory : List Part) (stack limit : ℕ) (regs : List ℕ) : Type 0 where
  pub back : ℕ
  pub below : ℕ
  pub less : below ≤ limit
  pub stands : StubStands p a.function memory stack back
  pub waiting : CallsWait p rest v memory (stack + frame_size a.function) back below
  pub how : ((inner : ℕ) × StubWaits p a v memory stack inner back × (destroyed fs ≡ destroyed (a ∷ rest))) ⊎ ((a.place ≡ 1 → ⊥) × (fs ≡ rest))
  pub kept : StubRegisters p a.function rest v memory stack regs

pub own_landed : (p : Plan) (judge : Judge) (fs : List Activation) (v : World) (memory : List Part) (stack back limit : ℕ) (regs : List ℕ) (w : CallsWait p fs v memory stack back limit) (h : KeptCalls p fs v memory stack regs) → AreSmall regs → length regs ≡ 10 →
    (inner : List Open) (landing : Open) (outer : List Open) → opens_of p fs v memory stack back limit regs w h ≡ inner ++ landing ∷ outer → AllByRecursion (λ o. Passed (code_of p.unit) judge o.activation) inner → StopsStubs judge → IsOwn landing.activation.function →
    OwnWaits p landing.activation (activations outer ++ tail_of p fs v memory stack back limit w) fs v memory (outer_sp stack (calls inner)) limit (regs_at (calls inner) regs)
unfolding opens_of tail_of
own_landed p judge [] v memory stack back limit regs w h small ten [] landing outer is passed stops own = absurd (cc is)
own_landed p judge [] v memory stack back limit regs w h small ten (o ∷ inner) landing outer is passed stops own = absurd (cc is)
own_landed p judge (a ∷ fs) v memory stack back limit regs (inr (inr w)) h small ten [] landing outer is passed stops own = absurd (cc is)
own_landed p judge (a ∷ fs) v memory stack back limit regs (inr (inr w)) h small ten (o ∷ inner) landing outer is passed stops own = absurd (cc is)
own_landed p judge (a ∷ fs) v memory stack back limit regs (inl (less, n, out, waits, more)) h small ten [] landing outer is passed stops own =
    let k = kept_call p n a fs v memory stack regs waits.callee h in
    let here : Open = call_open p n a fs v memory stack out regs k in
    let same : here ≡ landing = same_first here landing (opens_of p fs v memory (stack + (shape p n).size) out a.frame.call k.before more k.others) outer is in
    absurd (subst IsOwn (sym (ap (λ o. o.activation.function) same) ∙ waits.callee) own)
own_landed p judge (a ∷ fs) v memory stack back limit regs (inl (less, n, out, waits, more)) h small ten (o ∷ inner) landing outer is passed stops own =
    let k = kept_call p n a fs v memory stack regs waits.callee h in
    let here : Open = call_open p n a fs v memory stack out regs k in
    let opens = opens_of p fs v memory (stack + (shape p n).size) out a.frame.call k.before more k.others in
    let tail = tail_of p fs v memory (stack + (shape p n).size) out a.frame.call more in
    let same : here ≡ o = same_first here o opens (inner ++ landing ∷ outer) is in
    let behind = before_small p n a.frame v memory stack regs k.before k.call small ten in
    let later : OwnWaits p landing.activation (activations outer ++ tail) fs v memory (outer_sp (stack + (shape p n).size) (calls inner)) a.frame.call (regs_at (calls inner) k.before)
    = own_landed p judge fs v memory (stack + (shape p n).size) out a.frame.call k.before more k.others behind.0 behind.1 inner landing outer (same_others here o opens (inner ++ landing ∷ outer) is) passed.1 stops own in
    let smaller = later.less in
    let whole : OwnWaits p landing.activation (activations outer ++ tail) (a ∷ fs) v memory (outer_sp (stack + here.call.size) (calls inner)) limit (regs_at (calls inner) k.before) = record {
      back = later.back;
      below = later.below;
      less = omega (arith, less, smaller);
      inner = later.inner;
      waits = later.waits;
      waiting = later.waiting;
      none = ap (λ ds. ds ++ destroyed fs) (destroyed_nothing p n a waits.callee) ∙ later.none;
      kept = later.kept;
    } in
    subst (λ y. OwnWaits p landing.activation (activations outer ++ tail) (a ∷ fs) v memory (outer_sp (stack + y.call.size) (calls inner)) limit (regs_at (calls inner) (outward y.call.saved regs))) same
    (subst (λ rs. OwnWaits p landing.activation (activations outer ++ tail) (a ∷ fs) v memory (outer_sp (stack + here.call.size) (calls inner)) limit (regs_at (calls inner) rs)) k.call.saves.before_is whole)
own_landed p judge (a ∷ fs) v memory stack back limit regs (inr (inl (out, waits, more))) h small ten [] landing outer is passed stops own =
    let here : Open = stub_open a out in
    let rest = kept_stub p a fs v memory stack back out regs waits h in
    let opens = opens_of p fs v memory (stack + frame_size a.function) out limit regs more rest in
    let tail = tail_of p fs v memory (stack + frame_size a.function) out limit more in
    let same : here ≡ landing = same_first here landing opens outer is in
    let others : fs ≡ activations outer ++ tail = sym (all_are p fs v memory (stack + frame_size a.function) out limit regs more rest) ∙ ap (λ os. activations os ++ tail) (same_others here landing opens outer is) in
    subst (λ o. OwnWaits p o.activation (activations outer ++ tail) (a ∷ fs) v memory stack limit regs) same
    (record {
      back = out;
      inner = back;
      below = limit;
      less = omega arith;
      waits = waits;
      waiting = subst (λ xs. CallsWait p xs v memory (stack + frame_size a.function) out limit) others more;
      none = ap (λ xs. destroyed (a ∷ xs)) others;
      kept = record { small = small; waiting = subst (λ xs. KeptCalls p xs v memory (stack + frame_size a.function) regs) others rest };
    })
own_landed p judge (a ∷ fs) v memory stack back limit regs (inr (inl (out, waits, more))) h small ten (o ∷ inner) landing outer is passed stops own =
    let here : Open = stub_open a out in
    let same : here ≡ o = same_first here o (opens_of p fs v memory (stack + frame_size a.function) out limit regs more (kept_stub p a fs v memory stack back out regs waits h)) (inner ++ landing ∷ outer) is in
    absurd (stub_not_passed p judge a v memory stack back out waits stops (subst (λ y. Passed (code_of p.unit) judge y.activation) (sym same) passed.0))

module _ (p : Plan) (a : Activation) (fs : List Activation) (v : World) (s : State) (h : OnStack p a fs v s) where
  -- where the call that raises is one of these, it does not wait
  pub own_landed_in : (judge : Judge) (inner : List Open) (landing : Open) (outer : List Open) → (a.place ≡ 1 → IsOwn a.function → ⊥) → top_opens p a fs v s h ≡ inner ++ landing ∷ outer →
      AllByRecursion (λ o. Passed (code_of p.unit) judge o.activation) inner → StopsStubs judge → IsOwn landing.activation.function →
      OwnLanded p landing.activation (activations outer ++ top_tail p a fs v s h) fs v s.memory (outer_sp (x s sp) (calls inner)) h.limit (regs_at (calls inner) (saved_of s))
  unfolding top_opens top_tail
  own_landed_in judge [] landing outer free is passed stops own =
      let here : Open = top_open p a fs v s h in
      let opens = opens_of p fs v s.memory (x s sp + h.size) h.back h.limit h.before h.waiting h.kept in
      let tail = tail_of p fs v s.memory (x s sp + h.size) h.back h.limit h.waiting in
      let same : here ≡ landing = same_first here landing opens outer is in
      let others : fs ≡ activations outer ++ tail = sym (all_are p fs v s.memory (x s sp + h.size) h.back h.limit h.before h.waiting h.kept) ∙ ap (λ os. activations os ++ tail) (same_others here landing opens outer is) in
      let own_a : IsOwn a.function = subst IsOwn (sym (ap (λ o. o.activation.function) same)) own in
      let size : h.size ≡ frame_size a.function = sym h.called ∙ (own_facts p a.function own_a).size in
      let regs : h.before ≡ saved_of s = kept_owned p a.function a v s.memory (x s sp) (saved_of s) h.before own_a h.keeps in
      let kept : KeptCalls p (activations outer ++ tail) v s.memory (x s sp + frame_size a.function) (saved_of s)
      = subst (λ rs. KeptCalls p (activations outer ++ tail) v s.memory (x s sp + frame_size a.function) rs) regs
      (subst (λ k. KeptCalls p (activations outer ++ tail) v s.memory (x s sp + k) h.before) size (subst (λ xs. KeptCalls p xs v s.memory (x s sp + h.size) h.before) others h.kept)) in
      subst (λ o. OwnLanded p o.activation (activations outer ++ tail) fs v s.memory (x s sp) h.limit (saved_of s)) same
      (record {
        back = h.back;
        below = h.limit;
        less = omega arith;
        stands = frame_owned p a.function a v s.memory (x s sp) h.back h.limit own_a h.own;
        waiting = subst (λ k. CallsWait p (activations outer ++ tail) v s.memory (x s sp + k) h.back h.limit) size (subst (λ xs. CallsWait p xs v s.memory (x s sp + h.size) h.back h.limit) others h.waiting);
        how = inr (λ at. free at own_a, others);
        kept = record { small = h.small; waiting = kept };
      })
  own_landed_in judge (o ∷ inner) landing outer free is passed stops own =
      let here : Open = top_open p a fs v s h in
      let opens = opens_of p fs v s.memory (x s sp + h.size) h.back h.limit h.before h.waiting h.kept in
      let tail = tail_of p fs v s.memory (x s sp + h.size) h.back h.limit h.waiting in
      let same : here ≡ o = same_first here o opens (inner ++ landing ∷ outer) is in
      let behind = own_small p a.function a v s.memory (x s sp) (saved_of s) h.before h.keeps h.small refl in
      let there = own_landed p judge fs v s.memory (x s sp + h.size) h.back h.limit h.before h.waiting h.kept behind.0 behind.1 inner landing outer (same_others here o opens (inner ++ landing ∷ outer) is) passed.1 stops own in
      let low : ℕ = outer_sp (x s sp + h.size) (calls inner) in
      let whole : OwnLanded p landing.activation (activations outer ++ tail) fs v s.memory low h.limit (regs_at (calls inner) h.before)
      = record { back = there.back; below = there.below; less = there.less; stands = there.waits.stands; waiting = there.waiting; how = inl (there.inner, there.waits, there.none); kept = there.kept } in
      subst (λ y. OwnLanded p landing.activation (activations outer ++ tail) fs v s.memory (outer_sp (x s sp + y.call.size) (calls inner)) h.limit (regs_at (calls inner) (outward y.call.saved (saved_of s)))) same
      (subst (λ rs. OwnLanded p landing.activation (activations outer ++ tail) fs v s.memory low h.limit (regs_at (calls inner) rs)) (own_outward p a.function a v s.memory (x s sp) (saved_of s) h.before h.keeps) whole)
