-- Memory where one of the runtime's own functions runs, which stays where bytes below the calls that wait have changed.
use Rattle.std.proofs.Common.{◌≡◌, ◌∙◌, refl, sym, ap, subst, arith, ℕ, ◌+◌, ◌≤◌, ◌<◌, List, [], ◌∷◌, Some, None, inl, inr}
use Rattle.std.specs.Prelude.{◌⊎◌, true, false}
use Rattle.rv64_isa.specs.State.{Part}
use Rattle.region_forms.specs.World.{Base, of_variable, of_exception, Word, Frame, World}
use Rattle.linear_forms.specs.Stub.{Function}
use Rattle.linear_forms.specs.Activation.{Activation}
use Rattle.flight_homes.specs.Nest.{number_of_call, newest_call}
use Rattle.machine_forms.specs.Shape.{return_offset}
use Rattle.machine_pieces.specs.Memory.{Apart, Written}
use Rattle.machine_pieces.specs.Numbers.{int_bits}
use Rattle.machine_pieces.specs.Frames.{AddressAt}
use Rattle.machine_pieces.proofs.Storing.{may_still}
use Rattle.machine_stubs.specs.Stretches.{frame_size, Beside}
use Rattle.machine_simulation.specs.Plan.{Plan, shape}
use Rattle.machine_simulation.specs.Extents.{newer}
use Rattle.machine_simulation.specs.StubCalls.{KeepsException, KeepsFlying, StubWaits, DestructorWaits, UnexpectedWaits, LeavingWaits}
use Rattle.machine_simulation.specs.Calls.{CallStands, Waits, CallsWait}
use Rattle.machine_simulation.specs.Matches.{MemoryMatches}
use Rattle.machine_simulation.specs.Objects.{is_object, without_object}
use Rattle.machine_simulation.proofs.StubKeeping.{StubKeeps, stub_same, stub_stays}
use Rattle.machine_simulation.proofs.Keeping.{held_later, waits_stay}
use Rattle.machine_simulation.proofs.Holding.{unit_stays, stack_stays, objects_stay, same_number}
use Rattle.machine_simulation.proofs.Closing.{live_before, Narrows, waits_narrowed, apart_narrowed, objects_narrowed, unit_narrowed}
use Rattle.machine_simulation.proofs.Freeing.{IsFree, beside_matches}
use Rattle.machine_simulation.proofs.Returning.{call_waits}
use Rattle.machine_raises.proofs.OnStack.{Around}
use Rattle.stub_landings.specs.Rests.{StubMemory}
use Rattle.own_ends.specs.Callers.{CalledBy}

-- ---- the newest compiled call

-- nothing of a call is live that is newer than the newest compiled one
abbrev pub IsLast : Plan → List Activation → Type 0
IsLast p fs = (b : Base) → p.live b ≡ true → newer (newest_call fs) b ≡ false

compiled_newest : (p : Plan) (m : ℕ) (a : Activation) (fs : List Activation) (v : World) (memory : List Part) (stack back outer : ℕ) → Waits p m a v memory stack back outer → newest_call (a ∷ fs) ≡ a.frame.call
compiled_newest p m a fs v memory stack back outer w = ap (λ f. elim (number_of_call f a.frame.call) [ None ↦ newest_call fs | Some d ↦ d ]) w.callee

pub stub_newest : (p : Plan) (a : Activation) (fs : List Activation) (v : World) (memory : List Part) (stack back outer : ℕ) → StubWaits p a v memory stack back outer → newest_call (a ∷ fs) ≡ newest_call fs
stub_newest p a fs v memory stack back outer w = ap (λ o. elim o [ None ↦ newest_call fs | Some d ↦ d ]) (by w.waits)
  where
    by : DestructorWaits p a v memory stack back ⊎ UnexpectedWaits p a v memory stack back ⊎ LeavingWaits p a v memory stack back → number_of_call a.function a.frame.call ≡ None
    by (inl d) = ap (λ f. number_of_call f a.frame.call) d.callee
    by (inr (inl y)) = ap (λ f. number_of_call f a.frame.call) y.callee
    by (inr (inr l)) = ap (λ f. number_of_call f a.frame.call) l.callee

-- what memory holds, if the call that waits first is of a compiled function
pub newest_matches : (p : Plan) (m : ℕ) (a : Activation) (fs : List Activation) (v : World) (memory : List Part) (stack back outer limit : ℕ) → Around p v memory v.calls → IsLast p (a ∷ fs) → limit ≤ v.calls → a.frame.call < limit →
    Waits p m a v memory stack back outer → CallsWait p fs v memory (stack + (shape p m).size) outer a.frame.call → MemoryMatches p m a.frame fs v memory stack outer
newest_matches p m a fs v memory stack back outer limit around last le less w rest = record {
  top = w.stands;
  newest = omega (arith, less, le);
  waiting = rest;
  apart = around.apart;
  inside = around.inside;
  may = around.may;
  last = λ b live. sym (ap (λ c. newer c b) (compiled_newest p m a fs v memory stack back outer w)) ∙ last b live;
  fresh = around.fresh;
  objects = around.objects;
  unit = around.unit;
}

-- ---- bytes below the calls that wait have changed

-- a stub's frame from a place on
stub_kept : (a k : ℕ) (old new : List Part) → Beside a k old new → (f : Function) (stack : ℕ) → IsFree stack a k → StubKeeps f stack old new
stub_kept a k old new beside f stack free = record {
  address = λ o b inside h. record { aligned = h.aligned; below = h.below; holds = beside.others (stack + o) 8 b (out o 8) h.holds };
  int = λ o z inside h. record { int = h.int; aligned = h.aligned; below = h.below; holds = beside.others (stack + o) 4 (int_bits z) (out o 4) h.holds };
}
  where
    out : (o n : ℕ) → Apart a k (stack + o) n
    out o n i j hi hj e = omega (arith, free.high, hi, hj, e)

module _ (p : Plan) (v : World) (old new : List Part) (a k : ℕ) (around : Around p v old v.calls) (beside : Beside a k old new) where
  pub waits_beside : (fs : List Activation) (stack back limit : ℕ) → limit ≤ v.calls → IsLast p fs → IsFree stack a k → CallsWait p fs v old stack back limit → CallsWait p fs v new stack back limit
  waits_beside [] stack back limit le last free h = h
  waits_beside (c ∷ fs) stack back limit le last free (inl h) =
      let w = h.3 in
      let m = newest_matches p h.1 c fs v old stack back h.2 limit around last le h.0 w h.4 in
      let n = beside_matches p h.1 c.frame fs v old new stack h.2 a k m free beside in inl (
        h.0,
        h.1,
        h.2,
        record { callee = w.callee; op = w.op; there = w.there; calls = w.calls; front = w.front; is = w.is; returns = w.returns; stands = n.top },
        n.waiting,
      )
  waits_beside (c ∷ fs) stack back limit le last free (inr (inl h)) = inr (inl (
    h.0,
    stub_stays p p v v old new c stack back (record { base = refl; tables = λ n. refl; object = λ e made. refl }) (same_number v) (stub_kept a k old new beside c.function stack free) h.0 h.1.stands.alone h.1,
    waits_beside fs (stack + frame_size c.function) h.0 limit le (λ b live. sym (ap (λ d. newer d b) (stub_newest p c fs v old stack back h.0 h.1)) ∙ last b live) (record { low = free.low; high = omega (arith, free.high) }) h.2,
  ))
  waits_beside (c ∷ fs) stack back limit le last free (inr (inr h)) = inr (inr h)

pub around_stub : (p : Plan) (f : Function) (fs : List Activation) (v : World) (memory : List Part) (stack back : ℕ) → StubMemory p f fs v memory stack back → Around p v memory v.calls
around_stub p f fs v memory stack back h = record { newest = omega arith; apart = h.apart; inside = h.inside; may = h.may; fresh = h.fresh; objects = h.objects; unit = h.unit }

-- the return address is where it was
pub stub_beside : (p : Plan) (f : Function) (fs : List Activation) (v : World) (old new : List Part) (stack back a k : ℕ) → StubMemory p f fs v old stack back → IsFree (stack + frame_size f) a k → Beside a k old new →
    AddressAt new (stack + return_offset) back → StubMemory p f fs v new stack back
stub_beside p f fs v old new stack back a k h free beside saved =
    let w : Written old new = beside.written in
    record {
      stands = record { above = h.stands.above; below = h.stands.below; saved = saved; alone = h.stands.alone };
      waiting = waits_beside p v old new a k (around_stub p f fs v old stack back h) beside fs (stack + frame_size f) back v.calls (omega arith) h.last free h.waiting;
      apart = record {
        apart = h.apart.apart;
        may = λ b o m live inside. may_still old new (p.at b + o) m w (h.apart.may b o m live inside);
        below = h.apart.below;
        aligned = h.apart.aligned;
      };
      inside = h.inside;
      may = stack_stays old new w h.may;
      last = h.last;
      fresh = h.fresh;
      objects = objects_stay p v old new w h.objects;
      unit = unit_stays p old new w h.unit;
    }

-- ---- a world with the same ints and calls
call_alike : (p : Plan) (n : ℕ) (frame : Frame) (v u : World) (memory : List Part) (stack back : ℕ) → u.memory ≡ v.memory → v.last_number ≤ u.last_number → CallStands p n frame v memory stack back → CallStands p n frame u memory stack back
call_alike p n frame v u memory stack back ints later st = record {
  known = st.known;
  small = st.small;
  above = st.above;
  below = st.below;
  holds = record {
    room = st.holds.room;
    slots = st.holds.slots;
    variables = st.holds.variables;
    own = st.holds.own;
    ints = λ a z live there. st.holds.ints a z live (ap (λ m. m a) (sym ints) ∙ there);
    reached = st.holds.reached;
    all_globals = st.holds.all_globals;
  };
  slots = st.slots;
  held = λ s b inside is. held_later p v u frame.call b.base later (st.held s b inside is);
  saved = st.saved;
  alone = st.alone;
  clear = st.clear;
}

pub stub_alike : (p : Plan) (f : Function) (fs : List Activation) (v u : World) (memory : List Part) (stack back : ℕ) → u.memory ≡ v.memory → u.calls ≡ v.calls → v.last_number ≤ u.last_number → StubMemory p f fs v memory stack back →
    StubMemory p f fs u memory stack back
stub_alike p f fs v u memory stack back ints calls later h = record {
  stands = h.stands;
  waiting = subst (CallsWait p fs u memory (stack + frame_size f) back) (sym calls)
      (waits_stay p fs v u memory memory (stack + frame_size f) back v.calls later (λ g s b stub. stub_same g s memory) (λ m g s b less st. call_alike p m g v u memory s b ints later st) h.waiting);
  apart = h.apart;
  inside = λ a z live there. h.inside a z live (ap (λ m. m a) (sym ints) ∙ there);
  may = h.may;
  last = h.last;
  fresh = λ c s o more. ap (λ m. m (record { base = of_variable c s; offset = o })) ints ∙ h.fresh c s o (omega (arith, more, calls));
  objects = record {
    may = h.objects.may;
    made = λ e live. omega (arith, h.objects.made e live, later);
    fresh = λ e o more. ap (λ m. m (record { base = of_exception e; offset = o })) ints ∙ h.objects.fresh e o (omega (arith, more, later));
    away = h.objects.away;
    placed = h.objects.placed;
  };
  unit = h.unit;
}

-- ---- an exception is given back

narrows_object : (e c : ℕ) → Narrows (is_object e) c
narrows_object e c = record { globals = λ g. refl; older = λ d s le. refl }

pub stub_without : (p : Plan) (f : Function) (fs : List Activation) (v : World) (memory : List Part) (stack back e : ℕ) → StubMemory p f fs v memory stack back → StubMemory (without_object p e) f fs v memory stack back
stub_without p f fs v memory stack back e h =
    let c : ℕ = v.calls in
    let narrows = narrows_object e c in
    record {
      stands = record { above = h.stands.above; below = h.stands.below; saved = h.stands.saved; alone = λ b live. h.stands.alone b (live_before p (is_object e) b live).0 };
      waiting = waits_narrowed p (is_object e) c narrows fs v memory (stack + frame_size f) back c (omega arith) h.waiting;
      apart = apart_narrowed p (is_object e) c narrows memory h.apart;
      inside = λ a z live there. h.inside a z (live_before p (is_object e) a.base live).0 there;
      may = h.may;
      last = λ b live. h.last b (live_before p (is_object e) b live).0;
      fresh = h.fresh;
      objects = objects_narrowed p (is_object e) c narrows v memory h.objects;
      unit = unit_narrowed p (is_object e) c narrows memory h.unit;
    }

-- ---- where a compiled function called it

pub record Called (p : Plan) (f : Function) (m : ℕ) (a : Activation) (fs : List Activation) (v : World) (memory : List Part) (stack back : ℕ) : Type 0 where
  pub outer : ℕ
  pub less : a.frame.call < v.calls
  pub waits : Waits p m a v memory (stack + frame_size f) back outer
  pub rest : CallsWait p fs v memory (stack + frame_size f + (shape p m).size) outer a.frame.call
  pub matches : MemoryMatches p m a.frame fs v memory (stack + frame_size f) outer

pub called_by : (p : Plan) (f : Function) (fs : List Activation) (v : World) (memory : List Part) (stack back : ℕ) → StubMemory p f fs v memory stack back → (c : CalledBy fs) → Called p f c.number c.caller c.others v memory stack back
called_by p f fs v memory stack back h c =
    let g : StubMemory p f (c.caller ∷ c.others) v memory stack back = subst (λ gs. StubMemory p f gs v memory stack back) c.frames h in
    let w = call_waits p c.number c.caller c.others v memory (stack + frame_size f) back v.calls c.is g.waiting in
    record {
      outer = w.outer;
      less = w.less;
      waits = w.waits;
      rest = w.rest;
      matches = newest_matches p c.number c.caller c.others v memory (stack + frame_size f) back w.outer v.calls (around_stub p f (c.caller ∷ c.others) v memory stack back g) g.last (omega arith) w.less w.waits w.rest;
    }

-- ---- what is kept of exceptions

pub exception_kept : (p q : Plan) (word : Word) (v u : World) (memory : List Part) (at : ℕ) → ((e : ℕ) → q.at (of_exception e) ≡ p.at (of_exception e)) → v.last_number ≤ u.last_number → KeepsException p word v memory at → KeepsException q word u memory at
exception_kept p q word v u memory at same later h =
    record { number = h.number; is = h.is; made = omega (arith, h.made, later); there = subst (AddressAt memory at) (sym (same h.number)) h.there }

pub flying_kept : (p q : Plan) (word : Word) (v u : World) (memory : List Part) (at : ℕ) → ((e : ℕ) → q.at (of_exception e) ≡ p.at (of_exception e)) → v.last_number ≤ u.last_number → KeepsFlying p word v memory at → KeepsFlying q word u memory at
flying_kept p q word v u memory at same later (inl h) = inl (exception_kept p q word v u memory at same later h)
flying_kept p q word v u memory at same later (inr h) = inr h

-- apart from bytes that have changed
pub address_beside : (a k b c : ℕ) (old new : List Part) → Beside a k old new → Apart a k b 8 → AddressAt old b c → AddressAt new b c
address_beside a k b c old new beside out h = record { aligned = h.aligned; below = h.below; holds = beside.others b 8 c out h.holds }

pub exception_beside : (p : Plan) (word : Word) (v : World) (a k b : ℕ) (old new : List Part) → Beside a k old new → Apart a k b 8 → KeepsException p word v old b → KeepsException p word v new b
exception_beside p word v a k b old new beside out h =
    record { number = h.number; is = h.is; made = h.made; there = address_beside a k b (p.at (of_exception h.number)) old new beside out h.there }

pub flying_beside : (p : Plan) (word : Word) (v : World) (a k b : ℕ) (old new : List Part) → Beside a k old new → Apart a k b 8 → KeepsFlying p word v old b → KeepsFlying p word v new b
flying_beside p word v a k b old new beside out (inl h) = inl (exception_beside p word v a k b old new beside out h)
flying_beside p word v a k b old new beside out (inr h) = inr (h.0, h.1, address_beside a k b 0 old new beside out h.2)
