-- A new call's frame below the others: what stands already still does.
use Rattle.std.proofs.Common.{◌≡◌, ◌∙◌, refl, sym, ap, ap₂, subst, arith, ℕ, ◌+◌, ◌<◌, ◌≤◌, List, [], ◌∷◌, length, Some, inl, inr}
use Rattle.std.specs.Prelude.{◌⊎◌, ◌==◌, ◌&&◌, not, nat_lt, Bool, true, false, is_some, if◌then◌else◌}
use Rattle.std.proofs.lemmas.Bool.Decides.{nat_tests}
use Rattle.rv64_isa.specs.State.{Part}
use Rattle.region_forms.specs.WellFormed.{is_variable}
use Rattle.region_forms.specs.World.{Base, of_global, of_variable, of_exception, Address, Word, nothing, number_word, address_word, flying, unwinding, address_in, Frame, World}
use Rattle.linear_forms.specs.Activation.{Activation}
use Rattle.machine_forms.specs.Shape.{slot_offset, return_offset}
use Rattle.machine_forms.specs.KeptCode.{register_of}
use Rattle.machine_pieces.specs.Memory.{Apart}
use Rattle.machine_pieces.specs.Frames.{AddressAt, WordHolds}
use Rattle.machine_stubs.specs.Stretches.{frame_size}
use Rattle.machine_simulation.specs.Plan.{Plan, function, shape, slot_kinds, setting}
use Rattle.machine_simulation.specs.Extents.{newer}
use Rattle.machine_simulation.specs.Calls.{HeldBy, IsBegun, CallStands, CallsWait}
use Rattle.machine_simulation.specs.Matches.{FrameIs, UnitStands}
use Rattle.machine_simulation.specs.Entering.{is_slot, slot_of, slot_room, opened}
use Rattle.machine_simulation.proofs.Bases.{number_is, number_itself, both_true, true_is_not}
use Rattle.machine_simulation.proofs.StubKeeping.{stub_same, stub_stays}
use Rattle.machine_simulation.proofs.Keeping.{IntsHold}
use Rattle.machine_simulation.proofs.Slots.{slot_place_of}

-- ---- slots of the new call, and other bases

-- how many slots the new call has
abbrev pub many : Plan → ℕ → ℕ
many p m = length (shape p m).slots

-- a slot of the new call, or another base
abbrev pub SlotOrNot : ℕ → ℕ → Base → Type 0
SlotOrNot c k b = ((s : ℕ) × (b ≡ of_variable c s) × (s < k)) ⊎ (is_slot c k b ≡ false)

pub slot_or_not : (c k : ℕ) (b : Base) → SlotOrNot c k b
slot_or_not c k (of_global g) = inr refl
slot_or_not c k (of_exception e) = inr refl
slot_or_not c k (of_variable d s) = by ((d == c) && nat_lt s k) refl
  where
    by : (t : Bool) → ((d == c) && nat_lt s k) ≡ t → SlotOrNot c k (of_variable d s)
    by false e = inr e
    by true e =
        let (same, less) = both_true (d == c) (nat_lt s k) e in
        inl (s, ap (λ i. of_variable i s) (number_is d c same), grind (arith, nat_tests, less))

pub is_slot_of : (c k s : ℕ) → s < k → is_slot c k (of_variable c s) ≡ true
is_slot_of c k s less = let test : nat_lt s k ≡ true = grind (arith, nat_tests, less) in ap₂ (λ x y. x && y) (number_itself c) test

-- what has begun before is no slot of the new call
pub begun_is_old : (c k : ℕ) (v : World) (b : Base) → v.calls ≤ c → IsBegun v b → is_slot c k b ≡ false
begun_is_old c k v (of_global g) le h = refl
begun_is_old c k v (of_exception e) le h = refl
begun_is_old c k v (of_variable d s) le h =
    let other : (d == c) ≡ false = grind (arith, nat_tests, le, h) in ap (λ t. t && nat_lt s k) other

-- the new plan at a slot of the new call
pub record NewSlot (p : Plan) (m c stack s : ℕ) : Type 0 where
  pub at : (opened p m c stack).at (of_variable c s) ≡ stack + slot_offset (shape p m) s
  pub live : (opened p m c stack).live (of_variable c s) ≡ not (is_some (register_of (shape p m).kept s))
  pub size : (opened p m c stack).size (of_variable c s) ≡ slot_room (shape p m) s
  pub ints : (opened p m c stack).ints (of_variable c s) ≡ is_variable (slot_kinds p m s)

pub new_slot : (p : Plan) (m c stack s : ℕ) → s < many p m → NewSlot p m c stack s
new_slot p m c stack s less =
    let e = is_slot_of c (many p m) s less in
    let b : Base = of_variable c s in
    record {
      at = ap (λ t. if t then stack + slot_offset (shape p m) s else p.at b) e;
      live = ap (λ t. if t then not (is_some (register_of (shape p m).kept s)) else p.live b) e;
      size = ap (λ t. if t then slot_room (shape p m) s else p.size b) e;
      ints = ap (λ t. if t then is_variable (slot_kinds p m s) else p.ints b) e;
    }

-- and at another base
pub record OldBase (p : Plan) (m c stack : ℕ) (b : Base) : Type 0 where
  pub at : (opened p m c stack).at b ≡ p.at b
  pub live : (opened p m c stack).live b ≡ p.live b
  pub size : (opened p m c stack).size b ≡ p.size b
  pub ints : (opened p m c stack).ints b ≡ p.ints b

pub old_base : (p : Plan) (m c stack : ℕ) (b : Base) → is_slot c (many p m) b ≡ false → OldBase p m c stack b
old_base p m c stack b e = record {
  at = ap (λ t. if t then stack + slot_offset (shape p m) (slot_of b) else p.at b) e;
  live = ap (λ t. if t then not (is_some (register_of (shape p m).kept (slot_of b))) else p.live b) e;
  size = ap (λ t. if t then slot_room (shape p m) (slot_of b) else p.size b) e;
  ints = ap (λ t. if t then is_variable (slot_kinds p m (slot_of b)) else p.ints b) e;
}

-- ---- calls that are open already

-- what an older call holds is no slot of the new one, and still is live
held_is_old : (p : Plan) (v : World) (c k d : ℕ) (b : Base) → d < c → HeldBy p v d b → is_slot c k b ≡ false
held_is_old p v c k d (of_global g) less h = refl
held_is_old p v c k d (of_variable e s) less h = let other : (e == c) ≡ false = grind (arith, nat_tests, less, h.1) in ap (λ t. t && nat_lt s k) other
held_is_old p v c k d (of_exception e) less h = refl

held_opened : (p : Plan) (v u : World) (m c low d : ℕ) (b : Base) → v.last_number ≤ u.last_number → d < c → HeldBy p v d b → HeldBy (opened p m c low) u d b
held_opened p v u m c low d (of_global g) later less h = h
held_opened p v u m c low d (of_variable e s) later less h = ((old_base p m c low (of_variable e s) (held_is_old p v c (many p m) d (of_variable e s) less h)).live ∙ h.0, h.1)
held_opened p v u m c low d (of_exception e) later less h = omega (arith, h, later)

pub word_opened : (p : Plan) (m c stack n k : ℕ) (memory : List Part) (a : ℕ) (word : Word) → ((b : Address) → address_in word ≡ Some b → is_slot c (many p m) b.base ≡ false) →
    WordHolds (setting p n) memory a word → WordHolds (setting (opened p m c stack) k) memory a word
word_opened p m c stack n k memory a nothing old h = tt
word_opened p m c stack n k memory a (number_word z) old h = h
word_opened p m c stack n k memory a (address_word b) old h =
    subst (AddressAt memory a) (ap (λ k. k + b.offset) (sym ((old_base p m c stack b.base (old b refl)).at))) h
word_opened p m c stack n k memory a (flying e target) old h = h
word_opened p m c stack n k memory a (unwinding e) old h = h

-- bytes from a place above the new frame on are apart from what is live, if they were
pub frame_apart : (p : Plan) (m c low stack size : ℕ) (b : Base) → FrameIs (function p m) → low + (shape p m).size ≤ stack → ((d : Base) → p.live d ≡ true → Apart (p.at d) (p.size d) stack size) →
    (opened p m c low).live b ≡ true → SlotOrNot c (many p m) b → Apart ((opened p m c low).at b) ((opened p m c low).size b) stack size
frame_apart p m c low stack size b is room alone live (inl own) i j hi hj e =
    let new = new_slot p m c low own.0 own.2 in
    let place = slot_place_of (function p m) own.0 is own.2 in
    let at : (opened p m c low).at b ≡ low + slot_offset (shape p m) own.0 = ap (λ d. (opened p m c low).at d) own.1 ∙ new.at in
    let room_is : (opened p m c low).size b ≡ slot_room (shape p m) own.0 = ap (λ d. (opened p m c low).size d) own.1 ∙ new.size in
    omega (arith, at, room_is, place.high, room, hi, e)
frame_apart p m c low stack size b is room alone live (inr not_one) i j hi hj e =
    let same = old_base p m c low b not_one in
    alone b (sym same.live ∙ live) i j (omega (arith, hi, same.size)) hj (omega (arith, e, same.at))

-- the frame of a call that is open already, above the new one
pub call_opened : (p : Plan) (m c low n : ℕ) (frame : Frame) (v u : World) (memory : List Part) (stack back : ℕ) → FrameIs (function p m) → v.last_number ≤ u.last_number → frame.call < c →
    low + (shape p m).size ≤ stack → IntsHold (opened p m c low) u memory → CallStands p n frame v memory stack back → CallStands (opened p m c low) n frame u memory stack back
call_opened p m c low n frame v u memory stack back is later older room ints st = record {
  known = st.known;
  small = st.small;
  above = st.above;
  below = st.below;
  holds = record {
    room = st.holds.room;
    slots = λ s inside. word_opened p m c low n n memory (stack + slot_offset (shape p n) s) (frame.slots s) (λ b e. held_is_old p v c (many p m) frame.call b.base older (st.held s b inside e)) (st.holds.slots s inside);
    variables = λ s inside. (old s).at ∙ st.holds.variables s inside;
    own = λ s inside none. (old s).live ∙ st.holds.own s inside none;
    ints = ints;
    reached = st.holds.reached;
    all_globals = st.holds.all_globals;
  };
  slots = record {
    variables = st.slots.variables;
    whole = λ s inside plain. omega (arith, (old s).size, st.slots.whole s inside plain);
    aligned = λ s inside plain. omega (arith, (old s).at, st.slots.aligned s inside plain);
    ints = λ s inside. (old s).ints ∙ st.slots.ints s inside;
  };
  held = λ s b inside e. held_opened p v u m c low frame.call b.base later older (st.held s b inside e);
  saved = st.saved;
  alone = λ b live. frame_apart p m c low (stack + return_offset) 8 b is (omega (arith, room)) st.alone live (slot_or_not c (many p m) b);
  clear = λ b live old_one. clear_at b live old_one (slot_or_not c (many p m) b);
}
  where
    old : (s : ℕ) → OldBase p m c low (of_variable frame.call s)
    old s =
        let other : (frame.call == c) ≡ false = grind (arith, nat_tests, older) in
        old_base p m c low (of_variable frame.call s) (ap (λ t. t && nat_lt s (many p m)) other)

    clear_at : (b : Base) → (opened p m c low).live b ≡ true → newer frame.call b ≡ false → SlotOrNot c (many p m) b →
        ((opened p m c low).at b + (opened p m c low).size b ≤ 0x7000_0000) ⊎ (stack ≤ (opened p m c low).at b)
    clear_at b live old_one (inl own) =
        absurd (true_is_not (nat_lt frame.call c) (grind (arith, nat_tests, older)) (sym (ap (newer frame.call) own.1) ∙ old_one))
    clear_at b live old_one (inr not_one) =
        let same = old_base p m c low b not_one in
        to same (st.clear b (sym same.live ∙ live) old_one)
      where
        to : OldBase p m c low b → (p.at b + p.size b ≤ 0x7000_0000) ⊎ (stack ≤ p.at b) → ((opened p m c low).at b + (opened p m c low).size b ≤ 0x7000_0000) ⊎ (stack ≤ (opened p m c low).at b)
        to same (inl below) = inl (omega (arith, same.at, same.size, below))
        to same (inr above) = inr (omega (arith, same.at, above))

pub waits_opened : (p : Plan) (m c low : ℕ) (fs : List Activation) (v u : World) (memory : List Part) (stack back limit : ℕ) → FrameIs (function p m) → v.last_number ≤ u.last_number → limit ≤ c →
    low + (shape p m).size ≤ stack → IntsHold (opened p m c low) u memory → CallsWait p fs v memory stack back limit → CallsWait (opened p m c low) fs u memory stack back limit
waits_opened p m c low [] v u memory stack back limit is later less room ints h = h
waits_opened p m c low (a ∷ fs) v u memory stack back limit is later less room ints (inl h) =
    let w = h.3 in inl (
      h.0,
      h.1,
      h.2,
      record {
        callee = w.callee;
        op = w.op;
        there = w.there;
        calls = w.calls;
        front = w.front;
        is = w.is;
        returns = w.returns;
        stands = call_opened p m c low h.1 a.frame v u memory stack h.2 is later (omega (arith, h.0, less)) room ints w.stands;
      },
      waits_opened p m c low fs v u memory (stack + (shape p h.1).size) h.2 a.frame.call is later (omega (arith, h.0, less)) (omega (arith, room)) ints h.4,
    )
waits_opened p m c low (a ∷ fs) v u memory stack back limit is later less room ints (inr (inl h)) = inr (inl (
  h.0,
  stub_stays p (opened p m c low) v u memory memory a stack back (record { base = refl; tables = λ n. refl; object = λ e le. refl }) later (stub_same a.function stack memory) h.0
      (λ b live. frame_apart p m c low stack (frame_size a.function) b is room h.1.stands.alone live (slot_or_not c (many p m) b)) h.1,
  waits_opened p m c low fs v u memory (stack + frame_size a.function) h.0 limit is later less (omega (arith, room)) ints h.2,
))
waits_opened p m c low (a ∷ fs) v u memory stack back limit is later less room ints (inr (inr h)) = inr (inr h)

pub unit_opened : (p : Plan) (m c low : ℕ) (memory : List Part) → UnitStands p memory → UnitStands (opened p m c low) memory
unit_opened p m c low memory h = record { few = h.few; short = h.short; frames = h.frames; registers = h.registers; stubs = h.stubs; functions = h.functions }
