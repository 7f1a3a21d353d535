-- A store inside the bytes of one live thing, and what it leaves.
use Rattle.std.proofs.Common.{◌≡◌, ◌≢◌, ◌∙◌, refl, sym, ap, subst, arith, ℕ, ◌+◌, ◌%◌, ◌<◌, ◌≤◌, ℤ, List, [], ◌∷◌, length, Some, inl, inr}
use Rattle.std.specs.Prelude.{◌⊎◌, Bool, true, false, if◌then◌else◌}
use Rattle.rv64_isa.specs.State.{Part, with_value}
use Rattle.region_forms.specs.World.{Base, of_global, of_variable, of_exception, Address, Word, nothing, number_word, address_word, flying, unwinding, Frame, World, object_address, same_address, written}
use Rattle.region_forms.specs.WellFormed.{is_variable}
use Rattle.linear_forms.specs.Stub.{Function}
use Rattle.linear_forms.specs.Activation.{Activation}
use Rattle.machine_forms.specs.Shape.{slot_offset, return_offset}
use Rattle.machine_pieces.specs.Memory.{Holds, MayWrite, Apart, Written}
use Rattle.machine_pieces.specs.Numbers.{IsInt, int_bits, extended}
use Rattle.machine_pieces.specs.Frames.{Setting, byte_of, IntAt, AddressAt, WordHolds, FrameHolds}
use Rattle.machine_stubs.specs.Stretches.{frame_size}
use Rattle.machine_pieces.proofs.Numbers.{int_stored}
use Rattle.machine_pieces.proofs.Storing.{holds_apart, four_stored, may_still, value_written}
use Rattle.machine_simulation.specs.Plan.{Plan, function, shape, slot_kinds, setting}
use Rattle.machine_simulation.specs.Extents.{StandApart, IntsInside, SlotsStand}
use Rattle.machine_simulation.specs.StubCalls.{StubStands}
use Rattle.machine_simulation.specs.Calls.{HeldBy, CallStands, CallsWait}
use Rattle.machine_simulation.proofs.StubKeeping.{StubKeeps, stub_stays}
use Rattle.machine_simulation.proofs.KeptSlots.{plain_slot}
use Rattle.machine_simulation.proofs.Bases.{true_is_not, base_cases, address_is, address_is_not}

-- some bytes of one thing get a number
pub record Store : Type 0 where
  pub base : Base
  pub offset : ℕ
  pub size : ℕ
  pub value : ℕ

abbrev pub place_of : Plan → Store → ℕ
place_of p c = p.at c.base + c.offset

abbrev pub after : Plan → Store → List Part → List Part
after p c memory = with_value memory (place_of p c) c.size c.value

pub record StoreFits (p : Plan) (memory : List Part) (c : Store) : Type 0 where
  pub apart : StandApart p memory
  pub live : p.live c.base ≡ true
  pub inside : c.offset + c.size ≤ p.size c.base

pub may_store : (p : Plan) (memory : List Part) (c : Store) → StoreFits p memory c → MayWrite memory (place_of p c) c.size
may_store p memory c h = h.apart.may c.base c.offset c.size h.live h.inside

pub store_written : (p : Plan) (memory : List Part) (c : Store) → StoreFits p memory c → Written memory (after p c memory)
store_written p memory c h = value_written memory (place_of p c) c.size c.value (may_store p memory c h)

-- ---- what is apart

-- bytes of another thing are apart
pub other_apart : (p : Plan) (memory : List Part) (c : Store) (b : Base) (a o n : ℕ) → StoreFits p memory c → p.live b ≡ true → c.base ≢ b → a ≡ p.at b + o → o + n ≤ p.size b → Apart (place_of p c) c.size a n
other_apart p memory c b a o n h live other at inside i j hi hj e =
    h.apart.apart c.base b h.live live other (c.offset + i) (o + j) (omega (arith, h.inside, hi)) (omega (arith, inside, hj)) (omega (arith, e, at))

pub narrow : (a n b k m : ℕ) → m ≤ k → Apart a n b k → Apart a n b m
narrow a n b k m le out i j hi hj e = out i j hi (omega (arith, le, hj)) e

pub int_stays : (memory : List Part) (place size value a : ℕ) (z : ℤ) → Apart place size a 4 → IntAt memory a z → IntAt (with_value memory place size value) a z
int_stays memory place size value a z out h =
    record { int = h.int; aligned = h.aligned; below = h.below; holds = holds_apart memory place size value a 4 (int_bits z) out h.holds }

pub address_stays : (memory : List Part) (place size value a b : ℕ) → Apart place size a 8 → AddressAt memory a b → AddressAt (with_value memory place size value) a b
address_stays memory place size value a b out h = record { aligned = h.aligned; below = h.below; holds = holds_apart memory place size value a 8 b out h.holds }

pub word_stays : (t : Setting) (memory : List Part) (place size value a : ℕ) (word : Word) → Apart place size a 8 → WordHolds t memory a word → WordHolds t (with_value memory place size value) a word
word_stays t memory place size value a nothing out h = tt
word_stays t memory place size value a (number_word z) out h = int_stays memory place size value a z (narrow place size a 8 4 (omega arith) out) h
word_stays t memory place size value a (address_word b) out h = address_stays memory place size value a (byte_of t b) out h
word_stays t memory place size value a (flying e target) out h =
    address_stays memory place size value a (byte_of t (object_address e)) out h
word_stays t memory place size value a (unwinding n) out h = address_stays memory place size value a 0 out h

-- ---- ints at addresses

-- the ints of a world at live addresses are in memory
abbrev pub IntsHold : Plan → World → List Part → Type 0
IntsHold p v memory = (a : Address) (z : ℤ) → p.live a.base ≡ true → v.memory a ≡ Some z → IntAt memory (p.at a.base + a.offset) z

pub ints_stay : (p : Plan) (memory : List Part) (c : Store) (v : World) → StoreFits p memory c → IntsInside p v → p.ints c.base ≡ false → IntsHold p v memory → IntsHold p v (after p c memory)
ints_stay p memory c v h inside none ints a z live there =
    let here = inside a z live there in
    let other : c.base ≢ a.base = λ same. true_is_not (p.ints c.base) (ap p.ints same ∙ here.1) none in
    int_stays memory (place_of p c) c.size c.value (p.at a.base + a.offset) z (other_apart p memory c a.base (p.at a.base + a.offset) a.offset 4 h live other refl here.0) (ints a z live there)

-- an int is written at an address
abbrev pub int_store : Address → ℤ → Store
int_store a z = record { base = a.base; offset = a.offset; size = 4; value = extended z }

pub int_there : (p : Plan) (memory : List Part) (a : Address) (z : ℤ) → StoreFits p memory (int_store a z) → IsInt z → a.offset % 4 ≡ 0 → IntAt (after p (int_store a z) memory) (p.at a.base + a.offset) z
int_there p memory a z h int aligned =
    let place : ℕ = p.at a.base + a.offset in
    record {
      int = int;
      aligned = omega (arith, h.apart.aligned a.base h.live, aligned);
      below = omega (arith, h.apart.below a.base h.live, h.inside);
      holds = subst (Holds (with_value memory place 4 (extended z)) place 4) (int_stored z int) (four_stored memory place (extended z) (may_store p memory (int_store a z) h));
    }

-- two ints begin at multiples of 4
apart_ints : (a b i j : ℕ) → a % 4 ≡ 0 → b % 4 ≡ 0 → i < 4 → j < 4 → a + i ≡ b + j → a ≡ b
apart_ints a b i j ea eb hi hj e = omega (arith, ea, eb, hi, hj, e)

same_parts : (a b : Address) → a.base ≡ b.base → a.offset ≡ b.offset → a ≡ b
same_parts a b bases offsets = ap (λ c. record { base = c; offset = a.offset }) bases ∙ ap (λ o. record { base = b.base; offset = o }) offsets

-- an int at another address has bytes of its own
other_int : (p : Plan) (memory : List Part) (a b : Address) (z : ℤ) → StoreFits p memory (int_store a z) → a.offset % 4 ≡ 0 → same_address a b ≡ false → p.live b.base ≡ true →
    (p.at b.base + b.offset) % 4 ≡ 0 → b.offset + 4 ≤ p.size b.base → (a.base ≡ b.base) ⊎ (a.base ≢ b.base) → Apart (p.at a.base + a.offset) 4 (p.at b.base + b.offset) 4
other_int p memory a b z h aligned differ live even inside (inr other) = other_apart p memory (int_store a z) b.base (p.at b.base + b.offset) b.offset 4 h live other refl inside
other_int p memory a b z h aligned differ live even inside (inl same) = λ i j hi hj sum.
    let bytes : p.at a.base + a.offset ≡ p.at b.base + b.offset =
    apart_ints (p.at a.base + a.offset) (p.at b.base + b.offset) i j (omega (arith, h.apart.aligned a.base h.live, aligned)) even hi hj sum in
    let offsets : a.offset ≡ b.offset = omega (arith, bytes, ap p.at same) in
    absurd (address_is_not a b differ (same_parts a b same offsets))

pub ints_written : (p : Plan) (memory : List Part) (a : Address) (z : ℤ) (v : World) → StoreFits p memory (int_store a z) → IntsInside p v → IsInt z → a.offset % 4 ≡ 0 → IntsHold p v memory →
    IntsHold p (written a z v) (after p (int_store a z) memory)
ints_written p memory a z v h inside int aligned ints b y live there = by (same_address a b) refl there
  where
    by : (t : Bool) → same_address a b ≡ t → (if t then Some z else v.memory b) ≡ Some y → IntAt (after p (int_store a z) memory) (p.at b.base + b.offset) y
    by true e got =
        let value : z ≡ y = cc got in
        subst (IntAt (after p (int_store a z) memory) (p.at b.base + b.offset)) value
        (subst (λ (q : Address). IntAt (after p (int_store a z) memory) (p.at q.base + q.offset) z) (address_is a b e) (int_there p memory a z h int aligned))
    by false e got =
        let old = ints b y live got in
        int_stays memory (p.at a.base + a.offset) 4 (extended z) (p.at b.base + b.offset) y
        (other_int p memory a b z h aligned e live old.aligned (inside b y live got).0 (base_cases a.base b.base)) old

pub inside_written : (p : Plan) (a : Address) (z : ℤ) (v : World) → IntsInside p v → p.ints a.base ≡ true → a.offset + 4 ≤ p.size a.base → IntsInside p (written a z v)
inside_written p a z v inside ints fits b y live there = by (same_address a b) refl there
  where
    by : (t : Bool) → same_address a b ≡ t → (if t then Some z else v.memory b) ≡ Some y → (b.offset + 4 ≤ p.size b.base) × (p.ints b.base ≡ true)
    by true e got = subst (λ (q : Address). (q.offset + 4 ≤ p.size q.base) × (p.ints q.base ≡ true)) (address_is a b e) (fits, ints)
    by false e got = inside b y live got

pub apart_stays : (p : Plan) (memory : List Part) (c : Store) → StoreFits p memory c → StandApart p (after p c memory)
apart_stays p memory c h = record {
  apart = h.apart.apart;
  may = λ b o n live inside. may_still memory (after p c memory) (p.at b + o) n (store_written p memory c h) (h.apart.may b o n live inside);
  below = h.apart.below;
  aligned = h.apart.aligned;
}

-- ---- open calls

-- what a call holds it holds when more exceptions have been made
pub held_later : (p : Plan) (v u : World) (c : ℕ) (b : Base) → v.last_number ≤ u.last_number → HeldBy p v c b → HeldBy p u c b
held_later p v u c (of_global g) later h = h
held_later p v u c (of_variable d s) later h = h
held_later p v u c (of_exception e) later h = omega (arith, h, later)

-- no slot that begins where the store is holds a word
abbrev pub IsOther : Plan → ℕ → Store → Frame → Type 0
IsOther p n c frame = (s : ℕ) → s < length (shape p n).slots → c.base ≡ of_variable frame.call s → frame.slots s ≡ nothing

-- a slot that is another, or holds no word
pub slot_stays : (p : Plan) (n : ℕ) (frame : Frame) (v : World) (memory : List Part) (stack s : ℕ) (c : Store) → FrameHolds (setting p n) (shape p n) (slot_kinds p n) frame v memory stack →
    SlotsStand p (shape p n) (slot_kinds p n) frame → StoreFits p memory c → (c.base ≡ of_variable frame.call s → frame.slots s ≡ nothing) → s < length (shape p n).slots →
    WordHolds (setting p n) (after p c memory) (stack + slot_offset (shape p n) s) (frame.slots s)
slot_stays p n frame v memory stack s c holds slots h other inside = by (is_variable (slot_kinds p n s)) refl (base_cases c.base (of_variable frame.call s))
  where
    none : frame.slots s ≡ nothing → WordHolds (setting p n) (after p c memory) (stack + slot_offset (shape p n) s) (frame.slots s)
    none e = subst (WordHolds (setting p n) (after p c memory) (stack + slot_offset (shape p n) s)) (sym e) tt

    by : (t : Bool) → is_variable (slot_kinds p n s) ≡ t → (c.base ≡ of_variable frame.call s) ⊎ (c.base ≢ of_variable frame.call s) →
        WordHolds (setting p n) (after p c memory) (stack + slot_offset (shape p n) s) (frame.slots s)
    by t e (inl same) = none (other same)
    by true e (inr ne) = none (slots.variables s inside e)
    by false e (inr ne) =
        word_stays (setting p n) memory (place_of p c) c.size c.value (stack + slot_offset (shape p n) s) (frame.slots s)
        (other_apart p memory c (of_variable frame.call s) (stack + slot_offset (shape p n) s) 0 8 h (holds.own s inside (plain_slot (function p n) s e)) ne (omega (arith, holds.variables s inside)) (omega (arith, slots.whole s inside e)))
        (holds.slots s inside)

pub call_stays : (p : Plan) (n : ℕ) (frame : Frame) (v u : World) (memory : List Part) (stack back : ℕ) (c : Store) → v.last_number ≤ u.last_number → StoreFits p memory c → IsOther p n c frame →
    IntsHold p u (after p c memory) → CallStands p n frame v memory stack back → CallStands p n frame u (after p c memory) stack back
call_stays p n frame v u memory stack back c later h other ints st = record {
  known = st.known;
  small = st.small;
  above = st.above;
  below = st.below;
  holds = record {
    room = st.holds.room;
    slots = λ s inside. slot_stays p n frame v memory stack s c st.holds st.slots h (other s inside) inside;
    variables = st.holds.variables;
    own = st.holds.own;
    ints = ints;
    reached = st.holds.reached;
    all_globals = st.holds.all_globals;
  };
  slots = st.slots;
  held = λ s b inside is. held_later p v u frame.call b.base later (st.held s b inside is);
  saved = address_stays memory (place_of p c) c.size c.value (stack + return_offset) back (saved_apart st) st.saved;
  alone = st.alone;
  clear = st.clear;
}
  where
    saved_apart : CallStands p n frame v memory stack back → Apart (place_of p c) c.size (stack + return_offset) 8
    saved_apart st i j hi hj e = st.alone c.base h.live (c.offset + i) j (omega (arith, h.inside, hi)) hj (omega (arith, e))

-- where the store is among ints, no slot that begins there holds a word
pub other_by_ints : (p : Plan) (n : ℕ) (frame : Frame) (c : Store) → SlotsStand p (shape p n) (slot_kinds p n) frame → p.ints c.base ≡ true → IsOther p n c frame
other_by_ints p n frame c slots ints s inside same = slots.variables s inside (sym (slots.ints s inside) ∙ ap p.ints (sym same) ∙ ints)

-- ---- calls that wait

-- the frame of one of the runtime's own functions is apart from the store
pub stub_kept : (p : Plan) (memory : List Part) (c : Store) → StoreFits p memory c → (f : Function) (stack back : ℕ) → StubStands p f memory stack back → StubKeeps f stack memory (after p c memory)
stub_kept p memory c h f stack back st = record {
  address = λ o b inside there. address_stays memory (place_of p c) c.size c.value (stack + o) b (out o 8 inside) there;
  int = λ o z inside there. int_stays memory (place_of p c) c.size c.value (stack + o) z (out o 4 inside) there;
}
  where
    out : (o k : ℕ) → o + k ≤ frame_size f → Apart (place_of p c) c.size (stack + o) k
    out o k inside i j hi hj e = st.alone c.base h.live (c.offset + i) (o + j) (omega (arith, h.inside, hi)) (omega (arith, inside, hj)) (omega (arith, e))

pub waits_stay : (p : Plan) (fs : List Activation) (v u : World) (old new : List Part) (stack back limit : ℕ) → v.last_number ≤ u.last_number →
    ((f : Function) (stack back : ℕ) → StubStands p f old stack back → StubKeeps f stack old new) →
    ((n : ℕ) (frame : Frame) (stack back : ℕ) → frame.call < limit → CallStands p n frame v old stack back → CallStands p n frame u new stack back) →
    CallsWait p fs v old stack back limit → CallsWait p fs u new stack back limit
waits_stay p [] v u old new stack back limit later stub keep h = h
waits_stay p (a ∷ fs) v u old new stack back limit later stub keep (inl h) =
    let w = h.3 in inl (
      h.0,
      h.1,
      h.2,
      record { callee = w.callee; op = w.op; there = w.there; calls = w.calls; front = w.front; is = w.is; returns = w.returns; stands = keep h.1 a.frame stack h.2 h.0 w.stands },
      waits_stay p fs v u old new (stack + (shape p h.1).size) h.2 a.frame.call later stub (λ n frame s b less st. keep n frame s b (omega (arith, less, h.0)) st) h.4,
    )
waits_stay p (a ∷ fs) v u old new stack back limit later stub keep (inr (inl h)) = inr (inl (
  h.0,
  stub_stays p p v u old new a stack back (record { base = refl; tables = λ n. refl; object = λ e le. refl }) later (stub a.function stack h.0 h.1.stands) h.0 h.1.stands.alone h.1,
  waits_stay p fs v u old new (stack + frame_size a.function) h.0 limit later stub keep h.2,
))
waits_stay p (a ∷ fs) v u old new stack back limit later stub keep (inr (inr h)) = inr (inr h)
