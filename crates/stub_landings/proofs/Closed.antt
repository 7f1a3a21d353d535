-- Calls that wait, and memory, where one of the runtime's own functions is the newest open call again.
use Rattle.std.proofs.Common.{◌≡◌, ◌∙◌, refl, sym, ap, subst, arith, ℕ, ◌+◌, ◌≤◌, List, [], ◌∷◌, Some, None, inl, inr}
use Rattle.std.specs.Prelude.{◌⊎◌, ◌&&◌, not, Bool, true, false}
use Rattle.rv64_isa.specs.State.{Part}
use Rattle.region_forms.specs.World.{Base, of_variable, of_exception, Frame, World}
use Rattle.linear_forms.specs.Stub.{Function}
use Rattle.linear_forms.specs.Activation.{Activation}
use Rattle.flight_homes.specs.Nest.{number_of_call, newest_call}
use Rattle.machine_stubs.specs.Stretches.{frame_size}
use Rattle.machine_simulation.specs.Plan.{Plan, function, shape}
use Rattle.machine_simulation.specs.Extents.{newer}
use Rattle.machine_simulation.specs.StubCalls.{StubStands, StubWaits, DestructorWaits, UnexpectedWaits, LeavingWaits}
use Rattle.machine_simulation.specs.Calls.{CallStands, CallsWait}
use Rattle.machine_simulation.specs.Returns.{closed}
use Rattle.machine_simulation.proofs.StubKeeping.{stub_same, stub_stays}
use Rattle.machine_simulation.specs.KeptCalls.{KeptCalls}
use Rattle.machine_simulation.proofs.Keeping.{held_later, waits_stay}
use Rattle.machine_simulation.proofs.KeptSlots.{kept_slot}
use Rattle.machine_simulation.proofs.KeptCalls.{kept_alone, kept_calls_still}
use Rattle.machine_simulation.proofs.Holding.{same_number}
use Rattle.machine_simulation.proofs.Closing.{live_before, newer_over, call_narrowed, waits_narrowed, apart_narrowed, unit_narrowed}
use Rattle.machine_raises.proofs.OnStack.{Around}
use Rattle.stub_landings.specs.Rests.{StubMemory}

-- ---- nothing of a newer call is live
-- one of the runtime's own functions that waits has no number
no_number : (p : Plan) (a : Activation) (v : World) (memory : List Part) (stack back outer : ℕ) → StubWaits p a v memory stack back outer → number_of_call a.function a.frame.call ≡ None
no_number p a v memory stack back outer w = by w.waits
  where
    by : DestructorWaits p a v memory stack back ⊎ UnexpectedWaits p a v memory stack back ⊎ LeavingWaits p a v memory stack back → number_of_call a.function a.frame.call ≡ None
    by (inl d) = ap (λ f. number_of_call f a.frame.call) d.callee
    by (inr (inl y)) = ap (λ f. number_of_call f a.frame.call) y.callee
    by (inr (inr l)) = ap (λ f. number_of_call f a.frame.call) l.callee

pub waits_closed : (p : Plan) (fs : List Activation) (v : World) (memory : List Part) (stack back limit : ℕ) → CallsWait p fs v memory stack back limit → CallsWait (closed p (newest_call fs)) fs v memory stack back limit
waits_closed p [] v memory stack back limit h = h
waits_closed p (a ∷ fs) v memory stack back limit (inl h) =
    let c : ℕ = a.frame.call in
    let w = h.3 in
    let is : newest_call (a ∷ fs) ≡ c = ap (λ f. elim (number_of_call f c) [ None ↦ newest_call fs | Some d ↦ d ]) w.callee in
    let whole : CallsWait (closed p c) (a ∷ fs) v memory stack back limit = inl (
      h.0,
      h.1,
      h.2,
      record {
        callee = w.callee;
        op = w.op;
        there = w.there;
        calls = w.calls;
        front = w.front;
        is = w.is;
        returns = w.returns;
        stands = call_narrowed p (newer c) c (newer_over c) h.1 a.frame v memory stack h.2 (omega arith) w.stands;
      },
      waits_narrowed p (newer c) c (newer_over c) fs v memory (stack + (shape p h.1).size) h.2 a.frame.call (omega arith) h.4,
    ) in
    subst (λ d. CallsWait (closed p d) (a ∷ fs) v memory stack back limit) (sym is) whole
waits_closed p (a ∷ fs) v memory stack back limit (inr (inl h)) =
    let c : ℕ = newest_call fs in
    let is : newest_call (a ∷ fs) ≡ c = ap (λ o. elim o [ None ↦ newest_call fs | Some d ↦ d ]) (no_number p a v memory stack back h.0 h.1) in
    let whole : CallsWait (closed p c) (a ∷ fs) v memory stack back limit = inr (inl (
      h.0,
      stub_stays p (closed p c) v v memory memory a stack back (record { base = refl; tables = λ n. refl; object = λ e le. refl }) (same_number v) (stub_same a.function stack memory) h.0
          (λ b live. h.1.stands.alone b (live_before p (newer c) b live).0) h.1,
      waits_closed p fs v memory (stack + frame_size a.function) h.0 limit h.2,
    )) in
    subst (λ d. CallsWait (closed p d) (a ∷ fs) v memory stack back limit) (sym is) whole
waits_closed p (a ∷ fs) v memory stack back limit (inr (inr h)) = inr (inr h)

-- numbers below a limit are below a higher one
pub waits_up : (p : Plan) (fs : List Activation) (v : World) (memory : List Part) (stack back limit more : ℕ) → limit ≤ more → CallsWait p fs v memory stack back limit → CallsWait p fs v memory stack back more
waits_up p [] v memory stack back limit more le h = h
waits_up p (a ∷ fs) v memory stack back limit more le (inl h) = inl (omega (arith, h.0, le), h.1, h.2, h.3, h.4)
waits_up p (a ∷ fs) v memory stack back limit more le (inr (inl h)) = inr (inl (h.0, h.1, waits_up p fs v memory (stack + frame_size a.function) h.0 limit more le h.2))
waits_up p (a ∷ fs) v memory stack back limit more le (inr (inr h)) = inr (inr h)

-- ---- a world with the same ints and calls
call_alike : (p : Plan) (n : ℕ) (frame : Frame) (v u : World) (memory : List Part) (stack back : ℕ) → u.memory ≡ v.memory → v.last_number ≤ u.last_number → CallStands p n frame v memory stack back → CallStands p n frame u memory stack back
call_alike p n frame v u memory stack back ints later st = record {
  known = st.known;
  small = st.small;
  above = st.above;
  below = st.below;
  holds = record {
    room = st.holds.room;
    slots = st.holds.slots;
    variables = st.holds.variables;
    own = st.holds.own;
    ints = λ a z live there. st.holds.ints a z live (ap (λ m. m a) (sym ints) ∙ there);
    reached = st.holds.reached;
    all_globals = st.holds.all_globals;
  };
  slots = st.slots;
  held = λ s b inside is. held_later p v u frame.call b.base later (st.held s b inside is);
  saved = st.saved;
  alone = st.alone;
  clear = st.clear;
}

waits_alike : (p : Plan) (fs : List Activation) (v u : World) (memory : List Part) (stack back limit : ℕ) → u.memory ≡ v.memory → v.last_number ≤ u.last_number → CallsWait p fs v memory stack back limit → CallsWait p fs u memory stack back limit
waits_alike p fs v u memory stack back limit ints later h =
    waits_stay p fs v u memory memory stack back limit later (λ f s b stub. stub_same f s memory) (λ m g s b less st. call_alike p m g v u memory s b ints later st) h

-- ---- what registers hold for the calls that wait
dead_still : (a b : Bool) → a ≡ false → (a && not b) ≡ false
dead_still true b e = absurd (cc e)
dead_still false b e = refl

pub registers_closed : (p : Plan) (c : ℕ) (fs : List Activation) (v u : World) (memory : List Part) (stack back limit : ℕ) (regs : List ℕ) → u.memory ≡ v.memory → CallsWait p fs v memory stack back limit → KeptCalls p fs v memory stack regs →
    KeptCalls (closed p c) fs u memory stack regs
registers_closed p c fs v u memory stack back limit regs ints waits h =
    let over : Base → Bool = newer c in
    kept_calls_still p p.at p.size (λ b. p.live b && not (over b)) p.ints v u memory memory stack fs stack back limit regs (omega arith)
    (λ n frame place home rs before above less st one. record {
      ints = λ s r is. ap (λ m. m (record { base = of_variable frame.call s; offset = 0 })) ints;
      saved = λ s r b is held. held;
      dead = λ s r is. dead_still (p.live (of_variable frame.call s)) (over (of_variable frame.call s)) (one.dead s r is);
      alone = λ b s r live is. let k = kept_slot (function p n) s r is in kept_alone p n frame v memory place rs before b s r one (live_before p over b live).0 is k.place k.slot_is;
    }) waits h

-- ---- the memory where one of the runtime's own functions is the newest call
pub stub_memory : (p : Plan) (f : Function) (limit below : ℕ) (rest : List Activation) (v u : World) (memory : List Part) (stack back : ℕ) → Around p v memory limit → below ≤ limit → u.memory ≡ v.memory → u.calls ≡ v.calls →
    v.last_number ≤ u.last_number → StubStands p f memory stack back → CallsWait p rest v memory (stack + frame_size f) back below → StubMemory (closed p (newest_call rest)) f rest u memory stack back
stub_memory p f limit below rest v u memory stack back h less ints calls later stands waiting =
    let c : ℕ = newest_call rest in
    let over = newer c in
    let narrows = newer_over c in
    let q = closed p c in
    let newest = h.newest in
    record {
      stands = record { above = stands.above; below = stands.below; saved = stands.saved; alone = λ b live. stands.alone b (live_before p over b live).0 };
      waiting = waits_up q rest u memory (stack + frame_size f) back below u.calls (omega (arith, less, newest, calls))
          (waits_alike q rest v u memory (stack + frame_size f) back below ints later (waits_closed p rest v memory (stack + frame_size f) back below waiting));
      apart = apart_narrowed p over c narrows memory h.apart;
      inside = λ a z live there. h.inside a z (live_before p over a.base live).0 (ap (λ m. m a) (sym ints) ∙ there);
      may = h.may;
      last = λ b live. (live_before p over b live).1;
      fresh = λ k s o more. ap (λ m. m (record { base = of_variable k s; offset = o })) ints ∙ h.fresh k s o (omega (arith, more, calls));
      objects = record {
        may = h.objects.may;
        made = λ e live. omega (arith, h.objects.made e (live_before p over (of_exception e) live).0, later);
        fresh = λ e o more. ap (λ m. m (record { base = of_exception e; offset = o })) ints ∙ h.objects.fresh e o (omega (arith, more, later));
        away = λ b live. h.objects.away b (live_before p over b live).0;
        placed = h.objects.placed;
      };
      unit = unit_narrowed p over c narrows memory h.unit;
    }
