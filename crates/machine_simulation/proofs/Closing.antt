-- What stands still does where some of what was live is over, as the calls that are newer than one.
use Rattle.std.proofs.Common.{◌≡◌, ◌∙◌, refl, ap, ap₂, subst, arith, ℕ, ◌+◌, ◌<◌, ◌≤◌, List, [], ◌∷◌, ◌++◌, inl, inr}
use Rattle.std.specs.Prelude.{◌&&◌, not, Bool, true, false}
use Rattle.std.proofs.lemmas.Bool.Decides.{nat_tests}
use Rattle.rv64_isa.specs.State.{Part}
use Rattle.region_forms.specs.World.{Base, of_global, of_variable, of_exception, Word, nothing, number_word, address_word, flying, unwinding, Frame, Live, World}
use Rattle.cxa_runtime.specs.World as abi
use Rattle.linear_forms.specs.Stub.{compiled}
use Rattle.linear_forms.specs.Activation.{Activation}
use Rattle.machine_pieces.specs.Frames.{WordHolds}
use Rattle.machine_stubs.specs.Stretches.{frame_size}
use Rattle.machine_simulation.specs.Plan.{Plan, shape, narrowed, setting}
use Rattle.machine_simulation.specs.Extents.{newer, StandApart}
use Rattle.machine_simulation.specs.Calls.{HeldBy, CallStands, CallsWait}
use Rattle.machine_simulation.specs.Exceptions.{addresses_of, exceptions_in, kept_by, destroyed_by, destroyed, ExceptionsMatch, PlanHas}
use Rattle.machine_simulation.specs.Matches.{UnitStands, RuntimeMatches, ObjectsStand, MemoryMatches}
use Rattle.machine_simulation.specs.Returns.{closed}
use Rattle.machine_simulation.proofs.StubKeeping.{stub_same, stub_stays}
use Rattle.machine_simulation.proofs.Holding.{same_number}

both_are : (a b : Bool) → (a && not b) ≡ true → (a ≡ true) × (b ≡ false)
both_are true false e = (refl, refl)
both_are true true e = absurd (cc e)
both_are false b e = absurd (cc e)

-- what is live afterwards was so before, and is not over
pub live_before : (p : Plan) (over : Base → Bool) (b : Base) → (narrowed p over).live b ≡ true → (p.live b ≡ true) × (over b ≡ false)
live_before p over b e = both_are (p.live b) (over b) e

pub live_after : (p : Plan) (over : Base → Bool) (b : Base) → p.live b ≡ true → over b ≡ false → (narrowed p over).live b ≡ true
live_after p over b e f = ap₂ (λ x y. x && not y) e f

-- no global is over, and no variable of a call or of one below it
pub record Narrows (over : Base → Bool) (c : ℕ) : Type 0 where
  pub globals : (g : ℕ) → over (of_global g) ≡ false
  pub older : (d s : ℕ) → d ≤ c → over (of_variable d s) ≡ false

pub newer_over : (c : ℕ) → Narrows (newer c) c
newer_over c = record { globals = λ g. refl; older = λ d s le. grind (arith, nat_tests, le) }

module _ (p : Plan) (over : Base → Bool) (c : ℕ) (narrows : Narrows over c) where
  -- what a call holds that is no newer than that one is live still
  held_narrowed : (v : World) (d : ℕ) (b : Base) → d ≤ c → HeldBy p v d b → HeldBy (narrowed p over) v d b
  held_narrowed v d (of_global g) le h = live_after p over (of_global g) h (narrows.globals g)
  held_narrowed v d (of_variable e s) le h = (live_after p over (of_variable e s) h.0 (narrows.older e s (omega (arith, le, h.1))), h.1)
  held_narrowed v d (of_exception e) le h = h

  word_narrowed : (n : ℕ) (memory : List Part) (a : ℕ) (word : Word) → WordHolds (setting p n) memory a word → WordHolds (setting (narrowed p over) n) memory a word
  word_narrowed n memory a nothing h = tt
  word_narrowed n memory a (number_word z) h = h
  word_narrowed n memory a (address_word b) h = h
  word_narrowed n memory a (flying e target) h = h
  word_narrowed n memory a (unwinding k) h = h

  pub call_narrowed : (n : ℕ) (frame : Frame) (v : World) (memory : List Part) (stack back : ℕ) → frame.call ≤ c → CallStands p n frame v memory stack back → CallStands (narrowed p over) n frame v memory stack back
  call_narrowed n frame v memory stack back old st = record {
    known = st.known;
    small = st.small;
    above = st.above;
    below = st.below;
    holds = record {
      room = st.holds.room;
      slots = λ s inside. word_narrowed n memory _ (frame.slots s) (st.holds.slots s inside);
      variables = st.holds.variables;
      own = λ s inside none. live_after p over _ (st.holds.own s inside none) (narrows.older frame.call s old);
      ints = λ a z live there. st.holds.ints a z (live_before p over a.base live).0 there;
      reached = st.holds.reached;
      all_globals = λ g inside. live_after p over _ (st.holds.all_globals g inside) (narrows.globals g);
    };
    slots = record { variables = st.slots.variables; whole = st.slots.whole; aligned = st.slots.aligned; ints = st.slots.ints };
    held = λ s b inside is. held_narrowed v frame.call b.base old (st.held s b inside is);
    saved = st.saved;
    alone = λ b live. st.alone b (live_before p over b live).0;
    clear = λ b live not_newer. st.clear b (live_before p over b live).0 not_newer;
  }

  pub waits_narrowed : (fs : List Activation) (v : World) (memory : List Part) (stack back limit : ℕ) → limit ≤ c → CallsWait p fs v memory stack back limit → CallsWait (narrowed p over) fs v memory stack back limit
  waits_narrowed [] v memory stack back limit old h = h
  waits_narrowed (a ∷ fs) v memory stack back limit old (inl h) =
      let w = h.3 in inl (
        h.0,
        h.1,
        h.2,
        record {
          callee = w.callee;
          op = w.op;
          there = w.there;
          calls = w.calls;
          front = w.front;
          is = w.is;
          returns = w.returns;
          stands = call_narrowed h.1 a.frame v memory stack h.2 (omega (arith, h.0, old)) w.stands;
        },
        waits_narrowed fs v memory (stack + (shape p h.1).size) h.2 a.frame.call (omega (arith, h.0, old)) h.4,
      )
  waits_narrowed (a ∷ fs) v memory stack back limit old (inr (inl h)) = inr (inl (
    h.0,
    stub_stays p (narrowed p over) v v memory memory a stack back (record { base = refl; tables = λ n. refl; object = λ e le. refl }) (same_number v) (stub_same a.function stack memory) h.0
        (λ b live. h.1.stands.alone b (live_before p over b live).0) h.1,
    waits_narrowed fs v memory (stack + frame_size a.function) h.0 limit old h.2,
  ))
  waits_narrowed (a ∷ fs) v memory stack back limit old (inr (inr h)) = inr (inr h)

  pub apart_narrowed : (memory : List Part) → StandApart p memory → StandApart (narrowed p over) memory
  apart_narrowed memory h = record {
    apart = λ b d live other differ. h.apart b d (live_before p over b live).0 (live_before p over d other).0 differ;
    may = λ b o k live inside. h.may b o k (live_before p over b live).0 inside;
    below = λ b live. h.below b (live_before p over b live).0;
    aligned = λ b live. h.aligned b (live_before p over b live).0;
  }

  pub objects_narrowed : (v : World) (memory : List Part) → ObjectsStand p v memory → ObjectsStand (narrowed p over) v memory
  objects_narrowed v memory h = record {
    may = h.may;
    made = λ e live. h.made e (live_before p over (of_exception e) live).0;
    fresh = h.fresh;
    away = λ b live. h.away b (live_before p over b live).0;
    placed = h.placed;
  }

  pub unit_narrowed : (memory : List Part) → UnitStands p memory → UnitStands (narrowed p over) memory
  unit_narrowed memory h = record { few = h.few; short = h.short; frames = h.frames; registers = h.registers; stubs = h.stubs; functions = h.functions }

-- something is over, and no call
pub matches_narrowed : (p : Plan) (over : Base → Bool) (n : ℕ) (frame : Frame) (fs : List Activation) (v : World) (memory : List Part) (stack back : ℕ) → Narrows over frame.call → MemoryMatches p n frame fs v memory stack back →
    MemoryMatches (narrowed p over) n frame fs v memory stack back
matches_narrowed p over n frame fs v memory stack back narrows h =
    let c : ℕ = frame.call in
    record {
      top = call_narrowed p over c narrows n frame v memory stack back (omega arith) h.top;
      newest = h.newest;
      waiting = waits_narrowed p over c narrows fs v memory (stack + (shape p n).size) back c (omega arith) h.waiting;
      apart = apart_narrowed p over c narrows memory h.apart;
      inside = λ b z live there. h.inside b z (live_before p over b.base live).0 there;
      may = h.may;
      last = λ b live. h.last b (live_before p over b live).0;
      fresh = h.fresh;
      objects = objects_narrowed p over c narrows v memory h.objects;
      unit = unit_narrowed p over c narrows memory h.unit;
    }

-- a call that waits, somewhere above, is the newest again
pub popped_to : (p : Plan) (n m : ℕ) (frame : Frame) (gs : List Activation) (a : Activation) (fs : List Activation) (v : World) (memory : List Part) (stack back high outer : ℕ) → MemoryMatches p n frame gs v memory stack back →
    a.frame.call < frame.call → CallStands p m a.frame v memory high outer → CallsWait p fs v memory (high + (shape p m).size) outer a.frame.call → MemoryMatches (closed p a.frame.call) m a.frame fs v memory high outer
popped_to p n m frame gs a fs v memory stack back high outer h less stands waiting =
    let c : ℕ = a.frame.call in
    let over : Base → Bool = newer c in
    let narrows = newer_over c in
    record {
      top = call_narrowed p over c narrows m a.frame v memory high outer (omega arith) stands;
      newest = omega (arith, less, h.newest);
      waiting = waits_narrowed p over c narrows fs v memory (high + (shape p m).size) outer c (omega arith) waiting;
      apart = apart_narrowed p over c narrows memory h.apart;
      inside = λ b z live there. h.inside b z (live_before p over b.base live).0 there;
      may = h.may;
      last = λ b live. (live_before p over b live).1;
      fresh = h.fresh;
      objects = objects_narrowed p over c narrows v memory h.objects;
      unit = unit_narrowed p over c narrows memory h.unit;
    }

-- ---- what the runtime keeps

-- no destructor of an exception's object waits for a compiled function's call
pub destroyed_nothing : (p : Plan) (m : ℕ) (a : Activation) → a.function ≡ compiled m → destroyed_by a.function a.frame ≡ []
destroyed_nothing p m a callee = ap (λ f. destroyed_by f a.frame) callee

-- exceptions that are live stay so
still_live : (b : Bool) → (b && not false) ≡ b
still_live true = refl
still_live false = refl

pub plan_popped : (p : Plan) (c : ℕ) (lives : List Live) → PlanHas p lives → PlanHas (closed p c) lives
plan_popped p c lives h = record {
  live = λ e. still_live (p.live (of_exception e)) ∙ h.live e;
  size = λ e live. h.size e (live_before p (newer c) (of_exception e) live).0;
  ints = λ e live. h.ints e (live_before p (newer c) (of_exception e) live).0;
}

pub runtime_popped : (p : Plan) (c : ℕ) (a : Activation) (fs : List Activation) (v : World) (w : abi.World) → RuntimeMatches p (a ∷ fs) v w → destroyed_by a.function a.frame ≡ [] → RuntimeMatches (closed p c) fs v w
runtime_popped p c a fs v w h none = record {
  input = h.input;
  replies = h.replies;
  last_number = h.last_number;
  terminating = h.terminating;
  exceptions = subst (λ ds. ExceptionsMatch (addresses_of p) ds (exceptions_in v) (kept_by w)) (ap (λ ds. ds ++ destroyed fs) none) h.exceptions;
  plan = plan_popped p c v.live h.plan;
}
