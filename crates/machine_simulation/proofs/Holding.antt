-- Memory still matches behind a store: of an int where ints may be written, or of a word in a slot that is no variable.
use Rattle.std.proofs.Common.{◌≡◌, ◌∙◌, refl, sym, ap, subst, arith, ℕ, ◌+◌, ◌%◌, ◌^◌, ◌<◌, ◌≤◌, ℤ, List, length, Some, None}
use Rattle.std.specs.Prelude.{◌==◌, Bool, true, false, nat_lt, if◌then◌else◌}
use Rattle.std.proofs.lemmas.Bool.Decides.{nat_tests}
use Rattle.rv64_isa.specs.State.{Part, with_value}
use Rattle.region_forms.specs.World.{Base, of_global, of_variable, of_exception, Address, Word, nothing, number_word, address_word, address_in, Frame, World, same_address, with_slot, written}
use Rattle.region_forms.specs.WellFormed.{is_variable}
use Rattle.region_forms.specs.Evaluation.{Location, in_memory, in_frame}
use Rattle.region_forms.specs.Effect.{goes, stored_at}
use Rattle.linear_forms.specs.Stub.{Function, end_catch, terminating, call_unexpected}
use Rattle.linear_forms.specs.Activation.{Activation}
use Rattle.machine_forms.specs.Shape.{slot_offset, return_offset}
use Rattle.machine_forms.specs.StubCode.{start_routine, stub_first, stub_routine}
use Rattle.machine_forms.specs.Emitted.{stub_target}
use Rattle.machine_pieces.specs.Memory.{Holds, MayWrite, Written}
use Rattle.machine_pieces.specs.Numbers.{IsInt, extended}
use Rattle.machine_pieces.specs.UnitAt.{routine_ground, routine_pieces}
use Rattle.machine_pieces.specs.Frames.{byte_of, IntAt, AddressAt, WordHolds, location_byte}
use Rattle.machine_pieces.proofs.Numbers.{int_stored}
use Rattle.machine_pieces.proofs.Storing.{four_stored, eight_stored, may_still}
use Rattle.machine_pieces.proofs.Fetching.{pieces_still}
use Rattle.machine_stubs.specs.Stretches.{stub_ground, StubAt}
use Rattle.machine_simulation.specs.Plan.{Plan, function, shape, slot_kinds, setting, routine, first_word}
use Rattle.machine_simulation.specs.Extents.{newer, IntsInside, LocationStands}
use Rattle.machine_simulation.specs.Calls.{HeldBy, IsBegun, CallStands}
use Rattle.machine_simulation.specs.Matches.{UnitStands, StackMay, StillFresh, ObjectsStand, MemoryMatches}
use Rattle.machine_simulation.specs.Laws.{StoresStayApart}
use Rattle.machine_simulation.proofs.Bases.{true_is_not, address_is}
use Rattle.machine_simulation.proofs.Keeping.{Store, place_of, after, StoreFits, store_written, IntsHold, ints_stay, int_store, ints_written, inside_written, apart_stays, slot_stays, address_stays, call_stays, other_by_ints, stub_kept, waits_stay}
use Rattle.machine_simulation.proofs.Stored.{stored_there}
use Rattle.machine_simulation.proofs.KeptSlots.{plain_slot}

-- ---- code and the stack

pub unit_stays : (p : Plan) (old new : List Part) → Written old new → UnitStands p old → UnitStands p new
unit_stays p old new w h = record {
  few = h.few;
  short = h.short;
  frames = h.frames;
  registers = h.registers;
  stubs = record {
    start = pieces_still old new (routine_ground p.unit p.base (λ t. stub_target t) 0 start_routine) 0 (routine_pieces start_routine) w h.stubs.start;
    terminate = stub_still terminating h.stubs.terminate;
    end_catch = stub_still end_catch h.stubs.end_catch;
    call_unexpected = stub_still call_unexpected h.stubs.call_unexpected;
  };
  functions = λ n known. pieces_still old new (setting p n).ground (first_word p n) (routine_pieces (routine p n)) w (h.functions n known);
}
  where
    stub_still : (f : Function) → StubAt p.unit p.base f old → StubAt p.unit p.base f new
    stub_still f at = pieces_still old new (stub_ground p.unit p.base f) (stub_first f) (routine_pieces (stub_routine f)) w at

pub stack_stays : (old new : List Part) → Written old new → StackMay old → StackMay new
stack_stays old new w h a n low high = may_still old new a n w (h a n low high)

-- ---- exception objects

pub objects_stay : (p : Plan) (v : World) (old new : List Part) → Written old new → ObjectsStand p v old → ObjectsStand p v new
objects_stay p v old new w h = record { may = λ a n low high. may_still old new a n w (h.may a n low high); made = h.made; fresh = h.fresh; away = h.away; placed = h.placed }

-- what is written is of an exception that was made
objects_written : (p : Plan) (a : Address) (z : ℤ) (v : World) (memory : List Part) → p.live a.base ≡ true → ObjectsStand p v memory → ObjectsStand p (written a z v) memory
objects_written p a z v memory live h = record { may = h.may; made = h.made; fresh = λ e o new. fresh_at e o new (same_address a (record { base = of_exception e; offset = o })) refl; away = h.away; placed = h.placed }
  where
    fresh_at : (e o : ℕ) → v.last_number < e → (t : Bool) → same_address a (record { base = of_exception e; offset = o }) ≡ t →
        (if t then Some z else v.memory (record { base = of_exception e; offset = o })) ≡ None
    fresh_at e o new false is = h.fresh e o new
    fresh_at e o new true is =
        let same : a.base ≡ of_exception e = ap (λ (b : Address). b.base) (address_is a (record { base = of_exception e; offset = o }) is) in
        absurd (omega (arith, new, h.made e (ap p.live (sym same) ∙ live)))

-- as many exceptions have been made
pub same_number : (v : World) → v.last_number ≤ v.last_number
same_number v = omega arith

-- ---- an int among ints

-- what is written is of a call that has begun
fresh_written : (a : Address) (z : ℤ) (v : World) (top : ℕ) → top < v.calls → newer top a.base ≡ false → StillFresh v → StillFresh (written a z v)
fresh_written a z v top begun old fresh c s o later = by (same_address a (record { base = of_variable c s; offset = o })) refl
  where
    by : (t : Bool) → same_address a (record { base = of_variable c s; offset = o }) ≡ t → (if t then Some z else v.memory (record { base = of_variable c s; offset = o })) ≡ None
    by false e = fresh c s o later
    by true e =
        let same : a.base ≡ of_variable c s = ap (λ (b : Address). b.base) (address_is a (record { base = of_variable c s; offset = o }) e) in
        absurd (true_is_not (nat_lt top c) (grind (arith, nat_tests, begun, later)) (sym (ap (newer top) same) ∙ old))

pub int_matches : (p : Plan) (n : ℕ) (frame : Frame) (fs : List Activation) (v : World) (memory : List Part) (stack back : ℕ) (a : Address) (z : ℤ) → MemoryMatches p n frame fs v memory stack back → IsInt z →
    p.live a.base ≡ true → p.ints a.base ≡ true → a.offset + 4 ≤ p.size a.base → a.offset % 4 ≡ 0 →
    MemoryMatches p n frame fs (written a z v) (with_value memory (p.at a.base + a.offset) 4 (extended z)) stack back
int_matches p n frame fs v memory stack back a z h int live ints fits aligned =
    let c : Store = int_store a z in
    let u : World = written a z v in
    let new : List Part = after p c memory in
    let ok : StoreFits p memory c = record { apart = h.apart; live = live; inside = fits } in
    let w : Written memory new = store_written p memory c ok in
    let all : IntsHold p u new = ints_written p memory a z v ok h.inside int aligned h.top.holds.ints in
    record {
      top = call_stays p n frame v u memory stack back c (same_number v) ok (other_by_ints p n frame c h.top.slots ints) all h.top;
      newest = h.newest;
      waiting = waits_stay p fs v u memory new (stack + (shape p n).size) back frame.call (same_number v) (stub_kept p memory c ok)
          (λ m g s b less st. call_stays p m g v u memory s b c (same_number v) ok (other_by_ints p m g c st.slots ints) all st) h.waiting;
      apart = apart_stays p memory c ok;
      inside = inside_written p a z v h.inside ints fits;
      may = stack_stays memory new w h.may;
      last = h.last;
      fresh = fresh_written a z v frame.call h.newest (h.last a.base live) h.fresh;
      objects = objects_written p a z v new live (objects_stay p v memory new w h.objects);
      unit = unit_stays p memory new w h.unit;
    }

-- ---- a word in a slot

-- a slot of the newest call gets a word
abbrev pub slot_store : Plan → Frame → (s size value : ℕ) → Store
slot_store p frame s size value = record { base = of_variable frame.call s; offset = 0; size = size; value = value }

pub slot_set : (p : Plan) (n : ℕ) (frame : Frame) (v : World) (memory : List Part) (stack back s size value : ℕ) (word : Word) → CallStands p n frame v memory stack back → IntsInside p v →
    s < length (shape p n).slots → is_variable (slot_kinds p n s) ≡ false → StoreFits p memory (slot_store p frame s size value) →
    WordHolds (setting p n) (after p (slot_store p frame s size value) memory) (stack + slot_offset (shape p n) s) word → ((b : Address) → address_in word ≡ Some b → HeldBy p v frame.call b.base) →
    CallStands p n (with_slot s word frame) v (after p (slot_store p frame s size value) memory) stack back
slot_set p n frame v memory stack back s size value word st inside there plain ok new_word new_held = record {
  known = st.known;
  small = st.small;
  above = st.above;
  below = st.below;
  holds = record {
    room = st.holds.room;
    slots = λ t in_range. slot_at t in_range (s == t) refl;
    variables = st.holds.variables;
    own = st.holds.own;
    ints = ints_stay p memory c v ok inside none st.holds.ints;
    reached = st.holds.reached;
    all_globals = st.holds.all_globals;
  };
  slots = record {
    variables = λ t in_range variable. variable_at t in_range variable (s == t) refl;
    whole = st.slots.whole;
    aligned = st.slots.aligned;
    ints = st.slots.ints;
  };
  held = λ t b in_range is. held_at t b in_range (s == t) is;
  saved = address_stays memory (place_of p c) size value (stack + return_offset) back
      (λ i j hi hj e. st.alone c.base ok.live (0 + i) j (omega (arith, ok.inside, hi)) hj (omega (arith, e))) st.saved;
  alone = st.alone;
  clear = st.clear;
}
  where
    c : Store
    c = slot_store p frame s size value

    none : p.ints (of_variable frame.call s) ≡ false
    none = st.slots.ints s there ∙ plain

    same_slot : (t : ℕ) → of_variable frame.call s ≡ of_variable frame.call t → s ≡ t
    same_slot t e = cc e

    slot_at : (t : ℕ) → t < length (shape p n).slots → (b : Bool) → (s == t) ≡ b →
        WordHolds (setting p n) (after p c memory) (stack + slot_offset (shape p n) t) (if b then word else frame.slots t)
    slot_at t in_range true e = subst (λ k. WordHolds (setting p n) (after p c memory) (stack + slot_offset (shape p n) k) word) (grind (arith, nat_tests, e)) new_word
    slot_at t in_range false e =
        slot_stays p n frame v memory stack t c st.holds st.slots ok (λ same. absurd (let eq : s ≡ t = same_slot t same in true_is_not (s == t) (grind (arith, nat_tests, eq)) e)) in_range

    variable_at : (t : ℕ) → t < length (shape p n).slots → is_variable (slot_kinds p n t) ≡ true → (b : Bool) → (s == t) ≡ b → (if b then word else frame.slots t) ≡ nothing
    variable_at t in_range variable true e =
        let eq : s ≡ t = grind (arith, nat_tests, e) in
        absurd (true_is_not (is_variable (slot_kinds p n t)) variable (ap (λ k. is_variable (slot_kinds p n k)) (sym eq) ∙ plain))
    variable_at t in_range variable false e = st.slots.variables t in_range variable

    held_at : (t : ℕ) (b : Address) → t < length (shape p n).slots → (e : Bool) → address_in (if e then word else frame.slots t) ≡ Some b → HeldBy p v frame.call b.base
    held_at t b in_range true is = new_held b is
    held_at t b in_range false is = st.held t b in_range is

-- an older call has another number
older : (c d s t : ℕ) → c < d → of_variable d s ≡ of_variable c t → ⊥
older c d s t less e = let same : d ≡ c = cc e in omega (arith, less, same)

pub slot_matches : (p : Plan) (n : ℕ) (frame : Frame) (fs : List Activation) (v : World) (memory : List Part) (stack back s size value : ℕ) (word : Word) → MemoryMatches p n frame fs v memory stack back →
    s < length (shape p n).slots → is_variable (slot_kinds p n s) ≡ false → size ≤ 8 →
    WordHolds (setting p n) (with_value memory (stack + slot_offset (shape p n) s) size value) (stack + slot_offset (shape p n) s) word →
    ((b : Address) → address_in word ≡ Some b → HeldBy p v frame.call b.base) → MemoryMatches p n (with_slot s word frame) fs v (with_value memory (stack + slot_offset (shape p n) s) size value) stack back
slot_matches p n frame fs v memory stack back s size value word h there plain few new_word new_held =
    let c : Store = slot_store p frame s size value in
    let place : p.at (of_variable frame.call s) + 0 ≡ stack + slot_offset (shape p n) s = omega (arith, h.top.holds.variables s there) in
    let to : List Part = with_value memory (stack + slot_offset (shape p n) s) size value in
    let new : List Part = after p c memory in
    let same : new ≡ to = ap (λ a. with_value memory a size value) place in
    let ok : StoreFits p memory c = record { apart = h.apart; live = h.top.holds.own s there (plain_slot (function p n) s plain); inside = omega (arith, few, h.top.slots.whole s there plain) } in
    let w : Written memory new = store_written p memory c ok in
    let none : p.ints (of_variable frame.call s) ≡ false = h.top.slots.ints s there ∙ plain in
    let all : IntsHold p v new = ints_stay p memory c v ok h.inside none h.top.holds.ints in
    let word_there = subst (λ ps. WordHolds (setting p n) ps (stack + slot_offset (shape p n) s) word) (sym same) new_word in
    subst (λ ps. MemoryMatches p n (with_slot s word frame) fs v ps stack back) same (record {
      top = slot_set p n frame v memory stack back s size value word h.top h.inside there plain ok word_there new_held;
      newest = h.newest;
      waiting = waits_stay p fs v v memory new (stack + (shape p n).size) back frame.call (same_number v) (stub_kept p memory c ok)
          (λ m g k b less st. call_stays p m g v v memory k b c (same_number v) ok (λ t inside e. absurd (older g.call frame.call s t less e)) all st) h.waiting;
      apart = apart_stays p memory c ok;
      inside = h.inside;
      may = stack_stays memory new w h.may;
      last = h.last;
      fresh = h.fresh;
      objects = objects_stay p v memory new w h.objects;
      unit = unit_stays p memory new w h.unit;
    })

-- ---- what is written at a location

-- the place of a slot that is no variable
pub slot_place : (p : Plan) (n : ℕ) (frame : Frame) (fs : List Activation) (v : World) (memory : List Part) (stack back s : ℕ) → MemoryMatches p n frame fs v memory stack back → s < length (shape p n).slots →
    is_variable (slot_kinds p n s) ≡ false → ((stack + slot_offset (shape p n) s) % 4 ≡ 0) × (stack + slot_offset (shape p n) s + 8 < 2 ^ 64)
slot_place p n frame fs v memory stack back s h there plain =
    let live = h.top.holds.own s there (plain_slot (function p n) s plain) in
    let at = h.top.holds.variables s there in
    (omega (arith, at, h.apart.aligned (of_variable frame.call s) live), omega (arith, at, h.apart.below (of_variable frame.call s) live, h.top.slots.whole s there plain))

pub slot_may : (p : Plan) (n : ℕ) (frame : Frame) (fs : List Activation) (v : World) (memory : List Part) (stack back s k : ℕ) → MemoryMatches p n frame fs v memory stack back → s < length (shape p n).slots →
    is_variable (slot_kinds p n s) ≡ false → k ≤ 8 → MayWrite memory (stack + slot_offset (shape p n) s) k
slot_may p n frame fs v memory stack back s k h there plain few =
    subst (λ a. MayWrite memory a k) (omega (arith, h.top.holds.variables s there))
    (h.apart.may (of_variable frame.call s) 0 k (h.top.holds.own s there (plain_slot (function p n) s plain)) (omega (arith, few, h.top.slots.whole s there plain)))

-- where an int may be written
pub record MayHold (memory : List Part) (a : ℕ) : Type 0 where
  pub aligned : a % 4 ≡ 0
  pub below : a < 2 ^ 64
  pub may : MayWrite memory a 4

pub location_may : (p : Plan) (n : ℕ) (frame : Frame) (fs : List Activation) (v : World) (memory : List Part) (stack back : ℕ) (l : Location) → MemoryMatches p n frame fs v memory stack back →
    LocationStands p (shape p n) (slot_kinds p n) l → MayHold memory (location_byte (setting p n) (shape p n) stack l)
location_may p n frame fs v memory stack back (in_memory a) h ok = record {
  aligned = omega (arith, h.apart.aligned a.base ok.0, ok.3);
  below = omega (arith, h.apart.below a.base ok.0, ok.2);
  may = h.apart.may a.base a.offset 4 ok.0 ok.2;
}
location_may p n frame fs v memory stack back (in_frame s) h ok =
    let place = slot_place p n frame fs v memory stack back s h ok.0 ok.1 in
    record { aligned = place.0; below = omega (arith, place.1); may = slot_may p n frame fs v memory stack back s 4 h ok.0 ok.1 (omega arith) }

pub location_matches : (p : Plan) (n : ℕ) (frame new_frame : Frame) (fs : List Activation) (v new_world : World) (memory : List Part) (stack back : ℕ) (l : Location) (z : ℤ) →
    MemoryMatches p n frame fs v memory stack back → IsInt z → LocationStands p (shape p n) (slot_kinds p n) l → stored_at l z frame v ≡ goes new_frame new_world →
    MemoryMatches p n new_frame fs new_world (with_value memory (location_byte (setting p n) (shape p n) stack l) 4 (extended z)) stack back
location_matches p n frame new_frame fs v new_world memory stack back (in_memory a) z h int ok e =
    let (there, same_frame, same_world) = stored_there a z frame new_frame v new_world e in
    let new : List Part = with_value memory (p.at a.base + a.offset) 4 (extended z) in
    subst (λ f. MemoryMatches p n f fs new_world new stack back) same_frame
    (subst (λ u. MemoryMatches p n frame fs u new stack back) same_world (int_matches p n frame fs v memory stack back a z h int ok.0 ok.1 ok.2 ok.3))
location_matches p n frame new_frame fs v new_world memory stack back (in_frame s) z h int ok e =
    let same_frame : with_slot s (number_word z) frame ≡ new_frame = cc e in
    let same_world : v ≡ new_world = cc e in
    let place : ℕ = stack + slot_offset (shape p n) s in
    let new : List Part = with_value memory place 4 (extended z) in
    let bounds = slot_place p n frame fs v memory stack back s h ok.0 ok.1 in
    let there : IntAt new place z = record {
      int = int;
      aligned = bounds.0;
      below = omega (arith, bounds.1);
      holds = subst (Holds new place 4) (int_stored z int) (four_stored memory place (extended z) (slot_may p n frame fs v memory stack back s 4 h ok.0 ok.1 (omega arith)));
    } in
    subst (λ f. MemoryMatches p n f fs new_world new stack back) same_frame
    (subst (λ u. MemoryMatches p n (with_slot s (number_word z) frame) fs u new stack back) same_world
    (slot_matches p n frame fs v memory stack back s 4 (extended z) (number_word z) h ok.0 ok.1 (omega arith) there (λ b none. absurd (cc none))))

-- what is of no newer call than one that has begun has begun
pub live_begun : (p : Plan) (v : World) (b : Base) (top : ℕ) → ((e : ℕ) → p.live (of_exception e) ≡ true → e ≤ v.last_number) → p.live b ≡ true → top < v.calls → newer top b ≡ false → IsBegun v b
live_begun p v (of_global g) top made live begun old = tt
live_begun p v (of_variable c s) top made live begun old = grind (arith, nat_tests, begun, old)
live_begun p v (of_exception e) top made live begun old = made e live

-- an address is put in a slot
pub address_matches : (p : Plan) (n : ℕ) (frame : Frame) (fs : List Activation) (v : World) (memory : List Part) (stack back s : ℕ) (b : Address) → MemoryMatches p n frame fs v memory stack back →
    s < length (shape p n).slots → is_variable (slot_kinds p n s) ≡ false → byte_of (setting p n) b < 2 ^ 64 → HeldBy p v frame.call b.base →
    MemoryMatches p n (with_slot s (address_word b) frame) fs v (with_value memory (stack + slot_offset (shape p n) s) 8 (byte_of (setting p n) b)) stack back
address_matches p n frame fs v memory stack back s b h there plain small may_hold =
    let place : ℕ = stack + slot_offset (shape p n) s in
    let value : ℕ = byte_of (setting p n) b in
    let new : List Part = with_value memory place 8 value in
    let bounds = slot_place p n frame fs v memory stack back s h there plain in
    let whole : value % 2 ^ 64 ≡ value = omega (arith, small) in
    let held : AddressAt new place value = record {
      aligned = omega (arith, h.top.holds.variables s there, h.top.slots.aligned s there plain);
      below = omega (arith, bounds.1);
      holds = subst (Holds new place 8) whole (eight_stored memory place value (slot_may p n frame fs v memory stack back s 8 h there plain (omega arith)));
    } in
    slot_matches p n frame fs v memory stack back s 8 value (address_word b) h there plain (omega arith) held (λ d is. let same : b ≡ d = cc is in subst (λ (k : Address). HeldBy p v frame.call k.base) same may_hold)

pub stores_stay_apart : StoresStayApart
stores_stay_apart = record {
  others = λ p n frame v memory stack back b o size value apart inside live none fits other st.
      let c : Store = record { base = b; offset = o; size = size; value = value } in
      let ok : StoreFits p memory c = record { apart = apart; live = live; inside = fits } in
      call_stays p n frame v v memory stack back c (same_number v) ok other (ints_stay p memory c v ok inside none st.holds.ints) st;
  int = λ p n frame new_frame fs v new_world memory stack back l z h int ok e. location_matches p n frame new_frame fs v new_world memory stack back l z h int ok e;
  address = λ p n frame fs v memory stack back s b h there plain small may_hold. address_matches p n frame fs v memory stack back s b h there plain small may_hold;
}
