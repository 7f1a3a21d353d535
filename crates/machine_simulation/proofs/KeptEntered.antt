-- Behind the prologue a call saves the registers of its kept variables, and its parameters are in them.
use Rattle.std.proofs.Common.{◌≡◌, ◌∙◌, refl, sym, ap, subst, arith, ℕ, ◌+◌, ◌-◌, ◌*◌, ◌<◌, ◌≤◌, List, ◌++◌, drop, map, take, length, flat_map, Some, None, inl, inr}
use Rattle.std.specs.Prelude.{◌⊎◌, not, Bool, true, false, nat_lt, is_some, slice_get, slice_index}
use Rattle.std.proofs.lemmas.Bool.Decides.{nat_tests}
use Rattle.rv64_isa.specs.State.{State, Part}
use Rattle.rv64_isa.specs.Step.{x}
use Rattle.region_forms.specs.Form.{SlotKind, int_slot}
use Rattle.region_forms.specs.WellFormed.{is_variable}
use Rattle.region_forms.specs.World.{Base, of_variable, Address, Word, nothing, number_word, address_word, flying, unwinding, object_address, Frame, World}
use Rattle.region_forms.specs.Effect.{new_frame, new_world}
use Rattle.linear_forms.specs.Activation.{Activation}
use Rattle.machine_forms.specs.Registers.{sp, saved_registers}
use Rattle.machine_forms.specs.Kept.{kept_slots}
use Rattle.machine_forms.specs.Shape.{Shape, slot_offset, return_offset, prologue}
use Rattle.machine_forms.specs.KeptCode.{register_of, saves}
use Rattle.machine_forms.specs.Routine.{op_word}
use Rattle.machine_forms.proofs.Chosen.{variables_are_kept}
use Rattle.machine_pieces.specs.Executes.{Executes}
use Rattle.machine_pieces.specs.Memory.{Holds, Written, Apart}
use Rattle.machine_pieces.specs.Numbers.{IsInt, extended, int_bits}
use Rattle.machine_pieces.specs.Standing.{Ground, address}
use Rattle.machine_pieces.specs.Frames.{Setting, byte_of, IntAt, WordHolds}
use Rattle.machine_pieces.specs.Keeping.{saved_of, KeptHolds, AreSmall, outward}
use Rattle.machine_pieces.specs.Saving.{IsOut, AreApartFrom, begun}
use Rattle.machine_pieces.proofs.Storing.{may_still}
use Rattle.machine_pieces.proofs.Fetching.{pieces_split}
use Rattle.machine_pieces.proofs.Saving.{registers_saved}
use Rattle.machine_stubs.specs.Stretches.{Beside}
use Rattle.machine_simulation.specs.Plan.{Plan, function, shape, slot_kinds, routine, first_word, setting}
use Rattle.machine_simulation.specs.Calls.{CallsWait}
use Rattle.machine_simulation.specs.KeptCalls.{kept_of, KeptCalls, RegistersMatch}
use Rattle.machine_simulation.specs.Matches.{FrameIs, MemoryMatches}
use Rattle.machine_simulation.specs.Entering.{slot_room, opened, WordFits}
use Rattle.machine_simulation.proofs.Slots.{SlotPlace, slot_place_of, kept_room, plain_room, word_fits, given_there, got_inside}
use Rattle.machine_simulation.proofs.KeptSlots.{kept_slot, kept_register, kept_kind, kept_inside}
use Rattle.machine_simulation.proofs.KeptCalls.{apart_from, kept_alone, kept_calls_still}
use Rattle.machine_simulation.proofs.KeptBegins.{chosen, chosen_is, number_for, kept_rises, SlotMay, may_save_all, begun_at, begun_small, begun_rest, take_and_rest, take_small, take_length, apart_within}
use Rattle.machine_simulation.proofs.Keeping.{IntsHold}
use Rattle.machine_simulation.proofs.Holding.{unit_stays, stack_stays, objects_stay}
use Rattle.machine_simulation.proofs.Freeing.{free_waits}
use Rattle.machine_simulation.proofs.Given.{IntGiven, frame_call, int_given}
use Rattle.machine_simulation.proofs.Opening.{many, SlotOrNot, slot_or_not, new_slot, OldBase, old_base}
use Rattle.machine_simulation.proofs.Opened.{given_place, opened_matches}
use Rattle.machine_simulation.proofs.Floors.{lowest_floor}
use Rattle.machine_simulation.proofs.Words.{front_words}
use Rattle.machine_simulation.proofs.Beneath.{passed_there, Begins}

-- ---- memory where nothing but the slots of kept variables has changed

-- a word keeps its bytes
word_keeps : (t : Setting) (old new : List Part) (a : ℕ) (word : Word) → ((k z : ℕ) → k ≤ 8 → Holds old a k z → Holds new a k z) → WordHolds t old a word → WordHolds t new a word
word_keeps t old new a nothing keep h = tt
word_keeps t old new a (number_word z) keep h = record { int = h.int; aligned = h.aligned; below = h.below; holds = keep 4 (int_bits z) (omega arith) h.holds }
word_keeps t old new a (address_word b) keep h = record { aligned = h.aligned; below = h.below; holds = keep 8 (byte_of t b) (omega arith) h.holds }
word_keeps t old new a (flying e target) keep h = record { aligned = h.aligned; below = h.below; holds = keep 8 (byte_of t (object_address e)) (omega arith) h.holds }
word_keeps t old new a (unwinding n) keep h = record { aligned = h.aligned; below = h.below; holds = keep 8 0 (omega arith) h.holds }

module _ (q : Plan) (m : ℕ) (frame : Frame) (fs : List Activation) (u : World) (old new : List Part) (low back : ℕ) (h : MemoryMatches q m frame fs u old low back) (w : Written old new)
    (others : (a n v : ℕ) → AreApartFrom (shape q m) low a n (kept_of q m) → Holds old a n v → Holds new a n v) (alone : (b : Base) → q.live b ≡ true → AreApartFrom (shape q m) low (q.at b) (q.size b) (kept_of q m)) where
  is : FrameIs (function q m)
  is = h.unit.frames m h.top.known

  -- a kept variable's slot has eight bytes inside the frame
  record Inside (s : ℕ) : Type 0 where
    there : s < length (shape q m).slots
    place : SlotPlace (shape q m) s
    high : slot_offset (shape q m) s + 8 ≤ (shape q m).size

  inside_at : (j s : ℕ) → slice_get (kept_of q m) j ≡ Some s → Inside s
  inside_at j s e =
      let kept = (variables_are_kept (function q m)).are j s e in
      let there : s < length (shape q m).slots = got_inside (function q m).slots s kept.slot kept.there in
      let place = slot_place_of (function q m) s is there in
      let room = kept_room (function q m) s kept in
      record { there = there; place = place; high = omega (arith, place.high, room) }

  ints : IntsHold q u new
  ints c z live there =
      let at = h.top.holds.ints c z live there in
      let fits = h.inside c z live there in
      record {
        int = at.int;
        aligned = at.aligned;
        below = at.below;
        holds = others (q.at c.base + c.offset) 4 (int_bits z) (apart_within (shape q m) low (q.at c.base) (q.size c.base) (q.at c.base + c.offset) 4 (kept_of q m) (alone c.base live) (omega arith) (omega (arith, fits.0))) at.holds;
      }

  -- a slot that is no variable is another than those
  plain_apart : (s k : ℕ) → s < length (shape q m).slots → is_variable (slot_kinds q m s) ≡ false → k ≤ 8 → AreApartFrom (shape q m) low (low + slot_offset (shape q m) s) k (kept_of q m)
  plain_apart s k inside plain few = apart_from (shape q m) low (low + slot_offset (shape q m) s) k (kept_of q m) (λ j t e. out t (inside_at j t e) (kind j t e) (kept_room (function q m) t ((variables_are_kept (function q m)).are j t e)))
    where
      kind : (j t : ℕ) → slice_get (kept_of q m) j ≡ Some t → slot_kinds q m t ≡ int_slot
      kind j t e = let r = kept_register (function q m) j t e in kept_kind (function q m) t r.0 r.1

      out : (t : ℕ) → Inside t → slot_kinds q m t ≡ int_slot → slot_room (shape q m) t ≡ 8 → Apart (low + slot_offset (shape q m) t) 8 (low + slot_offset (shape q m) s) k
      out t one int room i j hi hj e = by (nat_lt s t) (nat_lt t s) refl refl
        where
          here : SlotPlace (shape q m) s
          here = slot_place_of (function q m) s is inside

          room_s : slot_room (shape q m) s ≡ 8
          room_s = plain_room (function q m) s is inside plain

          by : (a b : Bool) → nat_lt s t ≡ a → nat_lt t s ≡ b → ⊥
          by true b ea eb = omega (arith, here.order t (grind (arith, nat_tests, ea)) one.there, room, hi, e)
          by false true ea eb = omega (arith, one.place.order s (grind (arith, nat_tests, eb)) inside, room_s, hj, few, e)
          by false false ea eb =
              let same : s ≡ t = grind (arith, nat_tests, ea, eb) in
              let both : true ≡ false = ap is_variable (sym int) ∙ ap (λ i. is_variable (slot_kinds q m i)) (sym same) ∙ plain in
              absurd (cc both)

  slot_keeps : (s : ℕ) → s < length (shape q m).slots → WordHolds (setting q m) new (low + slot_offset (shape q m) s) (frame.slots s)
  slot_keeps s inside = by (is_variable (slot_kinds q m s)) refl
    where
      by : (b : Bool) → is_variable (slot_kinds q m s) ≡ b → WordHolds (setting q m) new (low + slot_offset (shape q m) s) (frame.slots s)
      by true e = subst (WordHolds (setting q m) new (low + slot_offset (shape q m) s)) (sym (h.top.slots.variables s inside e)) tt
      by false e =
          word_keeps (setting q m) old new (low + slot_offset (shape q m) s) (frame.slots s) (λ k z few held. others (low + slot_offset (shape q m) s) k z (plain_apart s k inside e few) held) (h.top.holds.slots s inside)

  pub frame_beside : Beside low (shape q m).size old new
  frame_beside = record {
    written = w;
    others = λ b n v out held. others b n v (apart_from (shape q m) low b n (kept_of q m) (λ j s e i k hi hk same.
        let one = inside_at j s e in out (slot_offset (shape q m) s + i) k (omega (arith, one.high, hi)) hk (omega (arith, same)))) held;
  }

  pub saved_matches : MemoryMatches q m frame fs u new low back
  saved_matches = record {
    top = record {
      known = h.top.known;
      small = h.top.small;
      above = h.top.above;
      below = h.top.below;
      holds = record {
        room = h.top.holds.room;
        slots = slot_keeps;
        variables = h.top.holds.variables;
        own = h.top.holds.own;
        ints = ints;
        reached = h.top.holds.reached;
        all_globals = h.top.holds.all_globals;
      };
      slots = h.top.slots;
      held = h.top.held;
      saved = record {
        aligned = h.top.saved.aligned;
        below = h.top.saved.below;
        holds = others (low + return_offset) 8 back (apart_from (shape q m) low (low + return_offset) 8 (kept_of q m) (λ j s e i k hi hk same.
            let one = inside_at j s e in absurd (omega (arith, one.place.low, hk, same)))) h.top.saved.holds;
      };
      alone = h.top.alone;
      clear = h.top.clear;
    };
    newest = h.newest;
    waiting = free_waits q u low (shape q m).size old new frame_beside fs (low + (shape q m).size) back frame.call ints (record { low = floor; high = omega arith }) h.waiting;
    apart = record {
      apart = h.apart.apart;
      may = λ b o n live inside. may_still old new (q.at b + o) n w (h.apart.may b o n live inside);
      below = h.apart.below;
      aligned = h.apart.aligned;
    };
    inside = h.inside;
    may = stack_stays old new w h.may;
    last = h.last;
    fresh = h.fresh;
    objects = objects_stay q u old new w h.objects;
    unit = unit_stays q old new w h.unit;
  }
    where
      floor : 0x7000_0000 ≤ low
      floor = omega (arith, lowest_floor (shape q m).leaf (shape q m).size (low + (shape q m).size) h.top.small h.top.above)

-- ---- a call begins

module _ (p : Plan) (n m : ℕ) (v : World) (memory : List Part) (stack low back : ℕ) (given : List Word) (h : Begins p n m v memory stack low back given) where
  abbrev c : ℕ
  c = v.calls

  abbrev q : Plan
  q = opened p m v.calls low

  abbrev f : Shape
  f = shape p m

  abbrev kept : List ℕ
  kept = kept_slots (function p m)

  begin_is : FrameIs (function p m)
  begin_is = h.below.unit.frames m h.known

  begin_floor : 0x7000_0000 ≤ low
  begin_floor = let least = lowest_floor f.leaf f.size stack begin_is.small h.room in omega (arith, least, h.frame)

  -- a parameter that is kept has its int
  int_passed : (j s : ℕ) → slice_get kept j ≡ Some s → nat_lt s (function p m).parameters ≡ true → IntAt memory (low + slot_offset f s) (chosen given s)
  int_passed j s e less =
      let inside : s < length given = omega (arith, h.taken, parameter) in
      let word = given_there given s inside in
      let r = kept_register (function p m) j s e in
      let kind = kept_kind (function p m) s r.0 r.1 in
      let count : 0 + s ≡ s = omega arith in
      let fit : WordFits (slot_kinds p m s) word.0 = subst (λ i. WordFits (slot_kinds p m i) word.0) count (word_fits (slot_kinds p m) 0 s given word.0 h.fits word.1) in
      let number = number_for word.0 (subst (λ (k : SlotKind). WordFits k word.0) kind fit) in
      let got : slice_get given s ≡ Some (number_word number.0) = word.1 ∙ ap Some number.1 in
      let at : IntAt memory (stack - 8 * (0 + s + 1)) number.0 = passed_there p n memory stack 0 s given (number_word number.0) h.passed got in
      let place : stack - 8 * (0 + s + 1) ≡ low + slot_offset f s = sym (given_place p n m v memory stack low back given h s inside) in
      subst (IntAt memory (low + slot_offset f s)) (sym (chosen_is given s number.0 got)) (subst (λ a. IntAt memory a number.0) place at)
    where
      parameter : s < (function p m).parameters
      parameter = grind (arith, nat_tests, less)

  slot_may : (j s : ℕ) → slice_get kept j ≡ Some s → SlotMay f memory (function p m).parameters low s (chosen given s) × (s < length f.slots)
  slot_may j s e =
      let one = (variables_are_kept (function p m)).are j s e in
      let there : s < length f.slots = got_inside (function p m).slots s one.slot one.there in
      let place = slot_place_of (function p m) s begin_is there in
      let room = kept_room (function p m) s one in
      let high : slot_offset f s + 8 ≤ f.size = omega (arith, place.high, room) in (
        record {
          near = omega (arith, high, begin_is.small);
          even = omega (arith, place.even, h.saved.aligned);
          below = omega (arith, high, h.frame, h.below.end);
          may = h.below.may (low + slot_offset f s) 8 (omega (arith, begin_floor)) (omega (arith, high, h.frame, h.below.end));
          int = int_passed j s e;
          room = room;
          under = place.order;
        },
        there,
      )

  -- nothing that is live lies in the slot of a kept variable
  dead_new : (s r : ℕ) → register_of kept s ≡ Some r → q.live (of_variable c s) ≡ false
  dead_new s r e = (new_slot p m c low s (kept_inside (function p m) s r e)).live ∙ ap (λ o. not (is_some o)) e

  live_apart : (b : Base) → q.live b ≡ true → AreApartFrom f low (q.at b) (q.size b) kept
  live_apart b live = apart_from f low (q.at b) (q.size b) kept (λ j t e. out j t e (slot_or_not c (many p m) b))
    where
      out : (j t : ℕ) → slice_get kept j ≡ Some t → SlotOrNot c (many p m) b → Apart (low + slot_offset f t) 8 (q.at b) (q.size b)
      out j t e (inl own) i k hi hk same =
          let one = (variables_are_kept (function p m)).are j t e in
          let there : t < length f.slots = got_inside (function p m).slots t one.slot one.there in
          let r = kept_register (function p m) j t e in
          let new = new_slot p m c low own.0 own.2 in
          let at : q.at b ≡ low + slot_offset f own.0 = ap (λ d. q.at d) own.1 ∙ new.at in
          let size : q.size b ≡ slot_room f own.0 = ap (λ d. q.size d) own.1 ∙ new.size in
          let place = slot_place_of (function p m) t begin_is there in
          let room = kept_room (function p m) t one in
          let own_place = slot_place_of (function p m) own.0 begin_is own.2 in
          by (nat_lt own.0 t) (nat_lt t own.0) refl refl at size place room own_place there r
        where
          by : (a d : Bool) → nat_lt own.0 t ≡ a → nat_lt t own.0 ≡ d → q.at b ≡ low + slot_offset f own.0 → q.size b ≡ slot_room f own.0 → SlotPlace f t → slot_room f t ≡ 8 → SlotPlace f own.0 → t < length f.slots →
              (r : ℕ) × (register_of kept t ≡ Some r) → ⊥
          by true d ea ed at size place room own_place there r = omega (arith, own_place.order t (grind (arith, nat_tests, ea)) there, room, at, hi, same)
          by false true ea ed at size place room own_place there r = omega (arith, place.order own.0 (grind (arith, nat_tests, ed)) own.2, at, size, hk, same)
          by false false ea ed at size place room own_place there r =
              let one : own.0 ≡ t = grind (arith, nat_tests, ea, ed) in
              let base : b ≡ of_variable c t = own.1 ∙ ap (of_variable c) one in
              let both : true ≡ false = sym live ∙ ap (λ d. q.live d) base ∙ dead_new t r.0 r.1 in
              absurd (cc both)
      out j t e (inr not_one) i k hi hk same =
          let one = (variables_are_kept (function p m)).are j t e in
          let there : t < length f.slots = got_inside (function p m).slots t one.slot one.there in
          let place = slot_place_of (function p m) t begin_is there in
          let room = kept_room (function p m) t one in
          let old = old_base p m c low b not_one in
          by (h.below.clear b (sym old.live ∙ live)) place room old
        where
          by : (p.at b + p.size b ≤ 0x7000_0000) ⊎ (stack ≤ p.at b) → SlotPlace f t → slot_room f t ≡ 8 → OldBase p m c low b → ⊥
          by (inl under) place room old = omega (arith, under, begin_floor, old.at, old.size, hk, same)
          by (inr above) place room old = omega (arith, above, place.high, room, h.frame, old.at, hi, same)

  -- the ints of parameters are in the registers then
  keeps_new : (d : ℕ) (regs : List ℕ) → length regs ≡ 10 → KeptHolds kept (new_frame (slot_kinds p m) given v) (new_world (slot_kinds p m) given d v) (begun (function p m).parameters kept (map (chosen given) kept) regs)
  keeps_new d regs ten j s z there got =
      by (int_given (slot_kinds p m) c 0 given v (record { base = of_variable c s; offset = 0 }) z (ap (λ k. (new_world (slot_kinds p m) given d v).memory (record { base = of_variable k s; offset = 0 })) (sym called) ∙ got))
    where
      called : (new_frame (slot_kinds p m) given v).call ≡ c
      called = frame_call (slot_kinds p m) 0 given (record { call = v.calls; slots = λ k. nothing })

      by : IntGiven (slot_kinds p m) c 0 given v (record { base = of_variable c s; offset = 0 }) z → IsInt z × (slice_index (begun (function p m).parameters kept (map (chosen given) kept) regs) j ≡ extended z)
      by (inl old) =
          let none = h.below.fresh c s 0 (omega arith) in
          let both : Some z ≡ None = sym old ∙ none in
          absurd (cc both)
      by (inr one) =
          let bases : of_variable c s ≡ of_variable c (0 + one.0) = ap (λ (a : Address). a.base) one.2 in
          let same : s ≡ 0 + one.0 = cc bases in
          let number : slice_get given s ≡ Some (number_word z) = ap (slice_get given) (omega (arith, same)) ∙ one.1 in
          let inside = got_inside given s (number_word z) number in
          let parameter : s < (function p m).parameters = omega (arith, inside, h.taken) in
          let less : nat_lt s (function p m).parameters ≡ true = grind (arith, nat_tests, parameter) in
          let value = chosen_is given s z number in
          let few = (variables_are_kept (function p m)).few in
          (subst IsInt value (int_passed j s there less).int, begun_at (function p m).parameters (chosen given) kept regs j s there less (omega (arith, few, ten)) ∙ ap extended value)

-- behind the words that save registers, a call's first operation begins
pub record BegunCall (q : Plan) (m : ℕ) (frame : Frame) (fs : List Activation) (u : World) (back words : ℕ) (t : State) : Type 0 where
  pub after : State
  pub runs : Executes words t after
  pub registers : length after.regs ≡ 32
  pub pc : after.pc ≡ address (setting q m).ground (first_word q m + op_word (routine q m) 0)
  pub memory : MemoryMatches q m frame fs u after.memory (x after sp) back
  pub kept : RegistersMatch q m frame fs u after.memory (x after sp) (saved_of after)

pointer_out : IsOut sp saved_registers
pointer_out = (λ e. omega (arith, e), (λ e. omega (arith, e), (λ e. omega (arith, e), (λ e. omega (arith, e), (λ e. omega (arith, e), (λ e. omega (arith, e), (λ e. omega (arith, e), (λ e. omega (arith, e), (λ e. omega (arith, e), (λ e. omega (arith, e), tt))))))))))

pub begins_saved : (p : Plan) (n m : ℕ) (v : World) (stack back : ℕ) (given : List Word) (d : ℕ) (fs : List Activation) (t : State) → Begins p n m v t.memory stack (x t sp) back given → length t.regs ≡ 32 →
    t.pc ≡ address (setting p m).ground (first_word p m + length (prologue (shape p m))) → AreSmall (saved_of t) →
    (IntsHold (opened p m v.calls (x t sp)) (new_world (slot_kinds p m) given d v) t.memory → CallsWait (opened p m v.calls (x t sp)) fs (new_world (slot_kinds p m) given d v) t.memory stack back v.calls) →
    KeptCalls (opened p m v.calls (x t sp)) fs (new_world (slot_kinds p m) given d v) t.memory stack (saved_of t) →
    BegunCall (opened p m v.calls (x t sp)) m (new_frame (slot_kinds p m) given v) fs (new_world (slot_kinds p m) given d v) back (length (saves (shape p m) (function p m).parameters saved_registers (shape p m).kept)) t
begins_saved p n m v stack back given d fs t h many at small waits waiting =
    let f : Shape = shape p m in
    let low : ℕ = x t sp in
    let c : ℕ = v.calls in
    let q : Plan = opened p m c low in
    let u : World = new_world (slot_kinds p m) given d v in
    let frame : Frame = new_frame (slot_kinds p m) given v in
    let kept : List ℕ = kept_slots (function p m) in
    let parameters : ℕ = (function p m).parameters in
    let regs : List ℕ = saved_of t in
    let g : Ground = (setting p m).ground in
    let all = opened_matches p n m v t.memory stack low back given h d fs waits in
    let parts = pieces_split t.memory g (first_word p m) (prologue f ++ saves f parameters saved_registers kept) (flat_map (λ b. b) (routine p m).blocks) (h.below.unit.functions m h.known) in
    let heads = pieces_split t.memory g (first_word p m) (prologue f) (saves f parameters saved_registers kept) parts.0 in
    let few = (variables_are_kept (function p m)).few in
    let ten : length regs ≡ 10 = refl in
    let may = may_save_all f t.memory parameters low (chosen given) 0 kept (kept_rises (function p m)) (slot_may p n m v t.memory stack low back given h) in
    let done = registers_saved g (first_word p m + length (prologue f)) f parameters kept (map (chosen given) kept) t few may small heads.1 at many in
    let s : State = done.after in
    let new : List Part = s.memory in
    let alone = live_apart p n m v t.memory stack low back given h in
    let matches = saved_matches q m frame fs u t.memory new low back all done.written done.others alone in
    let beside = frame_beside q m frame fs u t.memory new low back all done.written done.others alone in
    let pointer : x s sp ≡ low = done.kept_registers sp (λ e. omega (arith, e)) pointer_out in
    let begun_regs : List ℕ = begun parameters kept (map (chosen given) kept) regs in
    let called : frame.call ≡ c = frame_call (slot_kinds p m) 0 given (record { call = v.calls; slots = λ k. nothing }) in
    let rest : outward (take (length kept) regs) begun_regs ≡ regs
    = ap (λ i. take (length kept) regs ++ drop i begun_regs) (take_length (length kept) regs (omega (arith, few, ten))) ∙ ap (λ l. take (length kept) regs ++ l) (begun_rest parameters (chosen given) kept regs)
    ∙ take_and_rest (length kept) regs in
    let others : KeptCalls q fs u new stack regs
    = kept_calls_still q q.at q.size q.live q.ints u u t.memory new stack fs stack back c regs (omega arith)
    (λ k g2 place home rs before above less st one. record {
      ints = λ i r is. refl;
      saved = λ i r b is held. record {
        aligned = held.aligned;
        below = held.below;
        holds = beside.others (place + slot_offset (shape q k) i) 8 b (λ i1 j1 hi hj e. absurd (omega (arith, above, h.frame, hi, e))) held.holds;
      };
      dead = one.dead;
      alone = λ b i r live is. let y = kept_slot (function q k) i r is in kept_alone q k g2 u t.memory place rs before b i r one live is y.place y.slot_is;
    }) (waits all.top.holds.ints) waiting in
    let registers : RegistersMatch q m frame fs u new low begun_regs = record {
      small = begun_small parameters (chosen given) kept regs (λ j i e less. (int_passed p n m v t.memory stack low back given h j i e less).int) small;
      before = regs;
      top = record {
        keeps = keeps_new p n m v t.memory stack low back given h d regs ten;
        saves = record { values = take (length kept) regs; there = done.there; before_is = sym rest; small = take_small (length kept) regs small };
        dead = λ i r e. ap (λ k. q.live (of_variable k i)) called ∙ dead_new p n m v t.memory stack low back given h i r e;
        alone = alone;
      };
      waiting = subst (λ a. KeptCalls q fs u new a regs) (sym h.frame) others;
    } in
    record {
      after = s;
      runs = done.runs;
      registers = done.registers;
      pc = done.pc ∙ omega (arith, front_words p m);
      memory = subst (λ a. MemoryMatches q m frame fs u new a back) (sym pointer) matches;
      kept = subst (λ a. RegistersMatch q m frame fs u new a (saved_of s)) (sym pointer) (subst (λ l. RegistersMatch q m frame fs u new low l) (sym done.begins) registers);
    }
