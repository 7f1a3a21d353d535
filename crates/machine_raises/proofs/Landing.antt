-- A landing in a compiled function: its call is the newest again.
use Rattle.std.proofs.Common.{◌≡◌, ◌∙◌, refl, sym, ap, subst, arith, ℕ, ◌+◌, ◌<◌, List, [], ◌∷◌, ◌++◌, length, inl, inr}
use Rattle.std.specs.Prelude.{◌⊎◌}
use Rattle.std.specs.List.{AllByRecursion}
use Rattle.rv64_isa.specs.State.{Part}
use Rattle.region_forms.specs.World.{nothing, World}
use Rattle.linear_forms.specs.Stub.{compiled, end_catch, call_unexpected}
use Rattle.linear_forms.specs.Activation.{Activation}
use Rattle.linear_forms.specs.UnitRun.{code_of}
use Rattle.cxa_runtime.specs.World as abi
use Rattle.machine_pieces.specs.Keeping.{AreSmall, outward}
use Rattle.machine_stubs.specs.Stretches.{frame_size}
use Rattle.raise_simulation.specs.OpenCalls.{outer_sp, regs_at}
use Rattle.raise_simulation.specs.Opens.{Open, activations, calls, Judge}
use Rattle.machine_simulation.specs.Plan.{Plan, shape}
use Rattle.machine_simulation.specs.Extents.{newer}
use Rattle.machine_simulation.specs.StubCalls.{StubWaits, DestructorWaits, UnexpectedWaits, LeavingWaits}
use Rattle.machine_simulation.specs.Calls.{CallStands, CallsWait}
use Rattle.machine_simulation.specs.KeptCalls.{KeptCall, KeptCalls}
use Rattle.machine_simulation.specs.Exceptions.{addresses_of, exceptions_in, kept_by, destroyed, ExceptionsMatch}
use Rattle.machine_simulation.specs.Matches.{RuntimeMatches, MemoryMatches}
use Rattle.machine_simulation.specs.Returns.{closed}
use Rattle.machine_simulation.proofs.Closing.{live_before, newer_over, call_narrowed, waits_narrowed, apart_narrowed, objects_narrowed, unit_narrowed, destroyed_nothing, runtime_popped}
use Rattle.machine_simulation.proofs.KeptClosed.{before_small}
use Rattle.machine_raises.proofs.KeptBehind.{kept_call, kept_stub}
use Rattle.machine_raises.proofs.Waiting.{call_open, stub_open, opens_of, tail_of, all_are}
use Rattle.machine_raises.proofs.OnStack.{Around}
use Rattle.machine_raises.proofs.Passing.{Passed, StopsStubs, stub_not_passed}

-- A call among those that wait, where all inside it are passed: it stands, and so do the calls that wait for it. Registers hold what the calls that
-- are passed have saved.
pub record Landed (p : Plan) (m : ℕ) (a : Activation) (rest fs : List Activation) (v : World) (memory : List Part) (stack limit : ℕ) (regs : List ℕ) : Type 0 where
  pub less : a.frame.call < limit
  pub back : ℕ
  pub stands : CallStands p m a.frame v memory stack back
  pub waiting : CallsWait p rest v memory (stack + (shape p m).size) back a.frame.call
  pub none : destroyed fs ≡ destroyed rest
  pub small : AreSmall regs
  pub before : List ℕ
  pub keeps : KeptCall p m a.frame v memory stack regs before
  pub kept : KeptCalls p rest v memory (stack + (shape p m).size) before

pub same_first : (x y : Open) (xs ys : List Open) → x ∷ xs ≡ y ∷ ys → x ≡ y
same_first x y xs ys e = cc

pub same_others : (x y : Open) (xs ys : List Open) → x ∷ xs ≡ y ∷ ys → xs ≡ ys
same_others x y xs ys e = cc

-- a function has one number
pub one_number : (n m : ℕ) → compiled n ≡ compiled m → n ≡ m
one_number n m e = cc e

-- none of the runtime's own functions that wait is a compiled one
pub not_compiled : (p : Plan) (a : Activation) (v : World) (memory : List Part) (stack back outer m : ℕ) → StubWaits p a v memory stack back outer → a.function ≡ compiled m → ⊥
not_compiled p a v memory stack back outer m w callee = by w.waits
  where
    by : DestructorWaits p a v memory stack back ⊎ UnexpectedWaits p a v memory stack back ⊎ LeavingWaits p a v memory stack back → ⊥
    by (inl d) = let both : end_catch ≡ compiled m = sym d.callee ∙ callee in cc both
    by (inr (inl x)) = let both : call_unexpected ≡ compiled m = sym x.callee ∙ callee in cc both
    by (inr (inr l)) = let both : call_unexpected ≡ compiled m = sym l.callee ∙ callee in cc both

pub landed : (p : Plan) (judge : Judge) (m : ℕ) (fs : List Activation) (v : World) (memory : List Part) (stack back limit : ℕ) (regs : List ℕ) (w : CallsWait p fs v memory stack back limit) (h : KeptCalls p fs v memory stack regs) → AreSmall regs → length regs ≡ 10 →
    (inner : List Open) (landing : Open) (outer : List Open) → opens_of p fs v memory stack back limit regs w h ≡ inner ++ landing ∷ outer → AllByRecursion (λ o. Passed (code_of p.unit) judge o.activation) inner → StopsStubs judge → landing.activation.function ≡ compiled m →
    Landed p m landing.activation (activations outer ++ tail_of p fs v memory stack back limit w) fs v memory (outer_sp stack (calls inner)) limit (regs_at (calls inner) regs)
unfolding opens_of tail_of
landed p judge m [] v memory stack back limit regs w h small ten [] landing outer is passed stops callee = absurd (cc is)
landed p judge m [] v memory stack back limit regs w h small ten (o ∷ inner) landing outer is passed stops callee = absurd (cc is)
landed p judge m (a ∷ fs) v memory stack back limit regs (inr (inr w)) h small ten [] landing outer is passed stops callee = absurd (cc is)
landed p judge m (a ∷ fs) v memory stack back limit regs (inr (inr w)) h small ten (o ∷ inner) landing outer is passed stops callee = absurd (cc is)
landed p judge m (a ∷ fs) v memory stack back limit regs (inl (less, n, out, waits, more)) h small ten [] landing outer is passed stops callee =
    let k = kept_call p n a fs v memory stack regs waits.callee h in
    let here : Open = call_open p n a fs v memory stack out regs k in
    let opens = opens_of p fs v memory (stack + (shape p n).size) out a.frame.call k.before more k.others in
    let tail = tail_of p fs v memory (stack + (shape p n).size) out a.frame.call more in
    let same : here ≡ landing = same_first here landing opens outer is in
    let others : fs ≡ activations outer ++ tail = sym (all_are p fs v memory (stack + (shape p n).size) out a.frame.call k.before more k.others) ∙ ap (λ os. activations os ++ tail) (same_others here landing opens outer is) in
    let number : n ≡ m = one_number n m (sym waits.callee ∙ (ap (λ o. o.activation.function) same ∙ callee)) in
    let none : destroyed (a ∷ fs) ≡ destroyed (activations outer ++ tail) = ap (λ ds. ds ++ destroyed fs) (destroyed_nothing p n a waits.callee) ∙ ap destroyed others in
    let stands : CallStands p m a.frame v memory stack out = subst (λ k. CallStands p k a.frame v memory stack out) number waits.stands in
    let waiting : CallsWait p (activations outer ++ tail) v memory (stack + (shape p m).size) out a.frame.call
    = subst (λ xs. CallsWait p xs v memory (stack + (shape p m).size) out a.frame.call) others (subst (λ k. CallsWait p fs v memory (stack + (shape p k).size) out a.frame.call) number more) in
    let keeps : KeptCall p m a.frame v memory stack regs k.before = subst (λ q. KeptCall p q a.frame v memory stack regs k.before) number k.call in
    let kept : KeptCalls p (activations outer ++ tail) v memory (stack + (shape p m).size) k.before
    = subst (λ xs. KeptCalls p xs v memory (stack + (shape p m).size) k.before) others (subst (λ q. KeptCalls p fs v memory (stack + (shape p q).size) k.before) number k.others) in
    subst (λ o. Landed p m o.activation (activations outer ++ tail) (a ∷ fs) v memory stack limit regs) same
    (record { less = less; back = out; stands = stands; waiting = waiting; none = none; small = small; before = k.before; keeps = keeps; kept = kept })
landed p judge m (a ∷ fs) v memory stack back limit regs (inl (less, n, out, waits, more)) h small ten (o ∷ inner) landing outer is passed stops callee =
    let k = kept_call p n a fs v memory stack regs waits.callee h in
    let here : Open = call_open p n a fs v memory stack out regs k in
    let opens = opens_of p fs v memory (stack + (shape p n).size) out a.frame.call k.before more k.others in
    let tail = tail_of p fs v memory (stack + (shape p n).size) out a.frame.call more in
    let same : here ≡ o = same_first here o opens (inner ++ landing ∷ outer) is in
    let behind = before_small p n a.frame v memory stack regs k.before k.call small ten in
    let later : Landed p m landing.activation (activations outer ++ tail) fs v memory (outer_sp (stack + (shape p n).size) (calls inner)) a.frame.call (regs_at (calls inner) k.before)
    = landed p judge m fs v memory (stack + (shape p n).size) out a.frame.call k.before more k.others behind.0 behind.1 inner landing outer (same_others here o opens (inner ++ landing ∷ outer) is) passed.1 stops callee in
    let smaller = later.less in
    let whole : Landed p m landing.activation (activations outer ++ tail) (a ∷ fs) v memory (outer_sp (stack + here.call.size) (calls inner)) limit (regs_at (calls inner) k.before) = record {
      less = omega (arith, less, smaller);
      back = later.back;
      stands = later.stands;
      waiting = later.waiting;
      none = ap (λ ds. ds ++ destroyed fs) (destroyed_nothing p n a waits.callee) ∙ later.none;
      small = later.small;
      before = later.before;
      keeps = later.keeps;
      kept = later.kept;
    } in
    subst (λ x. Landed p m landing.activation (activations outer ++ tail) (a ∷ fs) v memory (outer_sp (stack + x.call.size) (calls inner)) limit (regs_at (calls inner) (outward x.call.saved regs))) same
    (subst (λ rs. Landed p m landing.activation (activations outer ++ tail) (a ∷ fs) v memory (outer_sp (stack + here.call.size) (calls inner)) limit (regs_at (calls inner) rs)) k.call.saves.before_is whole)
landed p judge m (a ∷ fs) v memory stack back limit regs (inr (inl (out, waits, more))) h small ten [] landing outer is passed stops callee =
    let here : Open = stub_open a out in
    let same : here ≡ landing = same_first here landing (opens_of p fs v memory (stack + frame_size a.function) out limit regs more (kept_stub p a fs v memory stack back out regs waits h)) outer is in
    absurd (not_compiled p a v memory stack back out m waits (ap (λ o. o.activation.function) same ∙ callee))
landed p judge m (a ∷ fs) v memory stack back limit regs (inr (inl (out, waits, more))) h small ten (o ∷ inner) landing outer is passed stops callee =
    let here : Open = stub_open a out in
    let same : here ≡ o = same_first here o (opens_of p fs v memory (stack + frame_size a.function) out limit regs more (kept_stub p a fs v memory stack back out regs waits h)) (inner ++ landing ∷ outer) is in
    absurd (stub_not_passed p judge a v memory stack back out waits stops (subst (λ x. Passed (code_of p.unit) judge x.activation) (sym same) passed.0))

-- ---- the newest call again
pub newest_again : (p : Plan) (m limit : ℕ) (rest : List Activation) (a : Activation) (v : World) (memory : List Part) (stack back : ℕ) → Around p v memory limit → a.frame.call < v.calls → CallStands p m a.frame v memory stack back →
    CallsWait p rest v memory (stack + (shape p m).size) back a.frame.call → MemoryMatches (closed p a.frame.call) m a.frame rest v memory stack back
newest_again p m limit rest a v memory stack back h less stands waiting =
    let c : ℕ = a.frame.call in
    let over = newer c in
    let narrows = newer_over c in
    record {
      top = call_narrowed p over c narrows m a.frame v memory stack back (omega arith) stands;
      newest = less;
      waiting = waits_narrowed p over c narrows rest v memory (stack + (shape p m).size) back c (omega arith) waiting;
      apart = apart_narrowed p over c narrows memory h.apart;
      inside = λ b z live at. h.inside b z (live_before p over b.base live).0 at;
      may = h.may;
      last = λ b live. (live_before p over b live).1;
      fresh = h.fresh;
      objects = objects_narrowed p over c narrows v memory h.objects;
      unit = unit_narrowed p over c narrows memory h.unit;
    }

-- what the runtime keeps, where no destructor of an exception's object is passed
pub runtime_to : (p : Plan) (c : ℕ) (fs rest : List Activation) (v : World) (w : abi.World) → RuntimeMatches p fs v w → destroyed fs ≡ destroyed rest → RuntimeMatches (closed p c) rest v w
runtime_to p c fs rest v w h none =
    let nobody : Activation = record { function = compiled 0; place = 0; frame = record { call = 0; slots = λ s. nothing } } in
    let same : RuntimeMatches p (nobody ∷ rest) v w = record {
      input = h.input;
      replies = h.replies;
      last_number = h.last_number;
      terminating = h.terminating;
      exceptions = subst (λ ds. ExceptionsMatch (addresses_of p) ds (exceptions_in v) (kept_by w)) none h.exceptions;
      plan = h.plan;
    } in
    runtime_popped p c nobody rest v w same refl
