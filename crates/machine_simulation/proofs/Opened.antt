-- A new call stands below the call that made it.
use Rattle.std.proofs.Common.{◌≡◌, ◌≢◌, ◌∙◌, refl, sym, ap, subst, arith, ℕ, suc, ◌+◌, ◌-◌, ◌*◌, ◌%◌, ◌^◌, ◌<◌, ◌≤◌, ℤ, List, length, take, Some, None, inl, inr}
use Rattle.std.specs.Prelude.{◌⊎◌, not, nat_lt, Bool, true, false, is_some, slice_get}
use Rattle.std.proofs.lemmas.Bool.Decides.{nat_tests}
use Rattle.rv64_isa.specs.State.{Part}
use Rattle.region_forms.specs.Form.{int_slot}
use Rattle.region_forms.specs.WellFormed.{is_variable}
use Rattle.region_forms.specs.World.{Base, of_exception, of_global, of_variable, Address, Word, nothing, number_word, address_in, Frame, World}
use Rattle.region_forms.specs.Effect.{new_frame, new_world}
use Rattle.linear_forms.specs.Frame.{slot_bytes}
use Rattle.linear_forms.specs.Activation.{Activation}
use Rattle.machine_forms.specs.Shape.{slot_offset, return_offset}
use Rattle.machine_pieces.specs.Memory.{MayWrite, Apart}
use Rattle.machine_pieces.specs.Frames.{IntAt, WordHolds}
use Rattle.machine_pieces.specs.Transfers.{lowest_sp}
use Rattle.machine_simulation.specs.Plan.{Plan, function, shape, slot_kinds, setting}
use Rattle.machine_simulation.specs.Extents.{newer, StandApart, IntsInside}
use Rattle.machine_simulation.specs.Calls.{HeldBy, CallStands, CallsWait}
use Rattle.machine_simulation.specs.Matches.{FrameIs, StillFresh, IsAway, is_exception, ObjectsStand, MemoryMatches}
use Rattle.machine_simulation.specs.Entering.{is_slot, slot_room, WordFits, opened}
use Rattle.machine_simulation.proofs.Keeping.{IntsHold, held_later}
use Rattle.machine_simulation.proofs.Slots.{SlotPlace, slot_place_of, plain_room, word_fits, given_bytes, got_inside}
use Rattle.machine_simulation.proofs.Given.{frame_call, slot_given, IntGiven, int_given, same_beside, number_beside}
use Rattle.machine_simulation.proofs.Opening.{many, SlotOrNot, slot_or_not, begun_is_old, NewSlot, new_slot, OldBase, old_base, word_opened, unit_opened}
use Rattle.machine_simulation.proofs.Floors.{lowest_floor}
use Rattle.machine_simulation.proofs.Beneath.{passed_there, not_newer, begun_last, no_word, none_by, MayPass, passed_begun, Begins}

module _ (p : Plan) (n m : ℕ) (v : World) (memory : List Part) (stack low back : ℕ) (given : List Word) (h : Begins p n m v memory stack low back given) where
  abbrev c : ℕ
  c = v.calls

  abbrev q : Plan
  q = opened p m v.calls low

  abbrev frame : Frame
  frame = new_frame (slot_kinds p m) given v

  is : FrameIs (function p m)
  is = h.below.unit.frames m h.known

  floor : 0x7000_0000 ≤ low
  floor = let least = lowest_floor (shape p m).leaf (shape p m).size stack is.small h.room in omega (arith, least, h.frame)

  slot : (s : ℕ) → s < many p m → SlotPlace (shape p m) s
  slot s inside = slot_place_of (function p m) s is inside

  new : (s : ℕ) → s < many p m → NewSlot p m c low s
  new s inside = new_slot p m c low s inside

  -- a parameter's slot is where its word was passed
  pub given_place : (j : ℕ) → j < length given → low + slot_offset (shape p m) j ≡ stack - 8 * (0 + j + 1)
  given_place j inside =
      let count : j + 1 ≡ suc j = omega arith in
      let bytes : slot_bytes (take (j + 1) (shape p m).slots) ≡ 8 * (j + 1) = ap (λ k. slot_bytes (take k (shape p m).slots)) count ∙ given_bytes (function p m) given (suc j) is h.few h.fits (omega (arith, inside)) ∙ omega arith in
      omega (arith, bytes, h.frame, (slot j (omega (arith, inside, h.few))).low)

  inside_given : (j : ℕ) (word : Word) → slice_get given j ≡ Some word → j < length given
  inside_given j word e = got_inside given j word e

  -- a base whose address may be passed is no slot of the new call
  passed_old : (b : Base) → MayPass p v b → is_slot c (many p m) b ≡ false
  passed_old b may = begun_is_old c (many p m) v b (omega arith) (passed_begun p v b may)

  -- ---- ints

  own_int : (s : ℕ) (z : ℤ) → slice_get given s ≡ Some (number_word z) → IntAt memory (q.at (of_variable c s) + 0) z
  own_int s z e =
      let inside = inside_given s (number_word z) e in
      let at = (new s (omega (arith, inside, h.few))).at in
      subst (λ k. IntAt memory k z) (omega (arith, at, given_place s inside)) (passed_there p n memory stack 0 s given (number_word z) h.passed e)

  ints_of : (b : Address) (z : ℤ) → q.live b.base ≡ true → IntGiven (slot_kinds p m) c 0 given v b z → IntAt memory (q.at b.base + b.offset) z
  ints_of b z live (inl there) = old_int (slot_or_not c (many p m) b.base)
    where
      old_int : SlotOrNot c (many p m) b.base → IntAt memory (q.at b.base + b.offset) z
      old_int (inl own) =
          let none : v.memory b ≡ None = subst (λ k. v.memory (record { base = k; offset = b.offset }) ≡ None) (sym own.1) (h.below.fresh c own.0 b.offset (omega arith)) in
          let both : Some z ≡ None = sym there ∙ none in
          absurd (cc both)
      old_int (inr not_one) =
          let same = old_base p m c low b.base not_one in
          subst (λ k. IntAt memory (k + b.offset) z) (sym same.at) (h.below.ints b z (sym same.live ∙ live) there)
  ints_of b z live (inr one) =
      let count : one.0 ≡ 0 + one.0 = omega arith in
      let address : record { base = of_variable c one.0; offset = 0 } ≡ b = ap (λ k. record { base = of_variable c k; offset = 0 }) count ∙ sym one.2 in
      subst (λ (k : Address). IntAt memory (q.at k.base + k.offset) z) address (own_int one.0 z one.1)

  all_ints : (d : ℕ) → IntsHold q (new_world (slot_kinds p m) given d v) memory
  all_ints d b z live there = ints_of b z live (int_given (slot_kinds p m) c 0 given v b z there)

  -- ---- the new frame

  called : frame.call ≡ c
  called = frame_call (slot_kinds p m) 0 given (record { call = v.calls; slots = λ s. nothing })

  same_number : (d : ℕ) → (new_world (slot_kinds p m) given d v).last_number ≡ v.last_number
  same_number d = number_beside (slot_kinds p m) c 0 given v

  numbered : (d : ℕ) → v.last_number ≤ (new_world (slot_kinds p m) given d v).last_number
  numbered d = omega (arith, same_number d)

  later : (d : ℕ) → (new_world (slot_kinds p m) given d v).calls ≡ c + 1
  later d = ap (λ k. k + 1) (same_beside (slot_kinds p m) c 0 given v).calls

  slot_holds : (s : ℕ) → s < many p m → WordHolds (setting q m) memory (low + slot_offset (shape p m) s) (frame.slots s)
  slot_holds s inside =
      slot_given (slot_kinds p m) 0 given (record { call = v.calls; slots = λ k. nothing }) s (λ word. WordHolds (setting q m) memory (low + slot_offset (shape p m) s) word)
      (λ j word e at other.
      let here = passed_there p n memory stack 0 j given word h.passed e in
      let moved = word_opened p m c low n m memory (stack - 8 * (0 + j + 1)) word (λ b is. passed_old b.base (h.may j word b e is)) here in
      let same : j ≡ s = omega (arith, at) in
      subst (λ k. WordHolds (setting q m) memory (low + slot_offset (shape p m) k) word) same
      (subst (λ k. WordHolds (setting q m) memory k word) (sym (given_place j (inside_given j word e))) moved))
      tt

  no_words : (s : ℕ) → is_variable (slot_kinds p m s) ≡ true → frame.slots s ≡ nothing
  no_words s variable =
      slot_given (slot_kinds p m) 0 given (record { call = v.calls; slots = λ k. nothing }) s (λ word. word ≡ nothing)
      (λ j word e at other. no_word (slot_kinds p m s) word variable other (subst (λ k. WordFits (slot_kinds p m k) word) (sym at) (word_fits (slot_kinds p m) 0 j given word h.fits e)))
      refl

  held_new : (b : Base) → MayPass p v b → HeldBy q v c b
  held_new b may = by b may (passed_old b may)
    where
      by : (b : Base) → MayPass p v b → is_slot c (many p m) b ≡ false → HeldBy q v c b
      by (of_global g) may old = may
      by (of_variable d s) may old = ((old_base p m c low (of_variable d s) old).live ∙ may.0, omega (arith, may.1))
      by (of_exception e) may old = may

  all_held : (s : ℕ) (b : Address) → address_in (frame.slots s) ≡ Some b → HeldBy q v c b.base
  all_held s b is =
      slot_given (slot_kinds p m) 0 given (record { call = v.calls; slots = λ k. nothing }) s (λ word. address_in word ≡ Some b → HeldBy q v c b.base)
      (λ j word e at other found. held_new b.base (h.may j word b e found)) (λ none. absurd (cc none)) is

  -- ---- bytes of the new slots, and of all else

  -- a slot of the new call
  record OwnAt (b : Base) (s : ℕ) : Type 0 where
    at : q.at b ≡ low + slot_offset (shape p m) s
    size : q.size b ≡ slot_room (shape p m) s
    place : SlotPlace (shape p m) s

  own_at : (b : Base) (s : ℕ) → b ≡ of_variable c s → s < many p m → OwnAt b s
  own_at b s same inside = record { at = ap (λ d. q.at d) same ∙ (new s inside).at; size = ap (λ d. q.size d) same ∙ (new s inside).size; place = slot s inside }

  -- what was live before, below the stack or above the new frame
  record OldAt (b : Base) : Type 0 where
    same : OldBase p m c low b
    live : p.live b ≡ true
    clear : (q.at b + q.size b ≤ 0x7000_0000) ⊎ (stack ≤ q.at b)

  old_at : (b : Base) → q.live b ≡ true → is_slot c (many p m) b ≡ false → OldAt b
  old_at b live not_one =
      let same = old_base p m c low b not_one in
      let before : p.live b ≡ true = sym same.live ∙ live in
      record { same = same; live = before; clear = to same (h.below.clear b before) }
    where
      to : OldBase p m c low b → (p.at b + p.size b ≤ 0x7000_0000) ⊎ (stack ≤ p.at b) → (q.at b + q.size b ≤ 0x7000_0000) ⊎ (stack ≤ q.at b)
      to same (inl under) = inl (omega (arith, same.at, same.size, under))
      to same (inr above) = inr (omega (arith, same.at, above))

  -- bytes of the new frame are apart from those
  old_apart : (b : Base) (a k : ℕ) → OldAt b → low ≤ a → a + k ≤ stack → Apart (q.at b) (q.size b) a k
  old_apart b a k old from to i j hi hj e = by old.clear
    where
      by : (q.at b + q.size b ≤ 0x7000_0000) ⊎ (stack ≤ q.at b) → ⊥
      by (inl under) = omega (arith, under, floor, from, hi, e)
      by (inr above) = omega (arith, above, to, hj, e)

  own_apart : (a b : Base) (s t i j : ℕ) → OwnAt a s → OwnAt b t → s < many p m → t < many p m → s ≢ t → i < q.size a → j < q.size b → q.at a + i ≡ q.at b + j → ⊥
  own_apart a b s t i j x y there here differ hi hj e = by (nat_lt s t) refl
    where
      by : (b : Bool) → nat_lt s t ≡ b → ⊥
      by true less = omega (arith, x.at, x.size, y.at, y.size, x.place.order t (grind (arith, nat_tests, less)) here, hi, hj, e)
      by false more =
          let le : t ≤ s = grind (arith, nat_tests, more) in
          omega (arith, x.at, x.size, y.at, y.size, y.place.order s (omega (arith, le, differ)) there, hi, hj, e)

  apart_at : (a b : Base) → q.live a ≡ true → q.live b ≡ true → a ≢ b → SlotOrNot c (many p m) a → SlotOrNot c (many p m) b → Apart (q.at a) (q.size a) (q.at b) (q.size b)
  apart_at a b la lb ne (inl x) (inl y) i j hi hj e =
      own_apart a b x.0 y.0 i j (own_at a x.0 x.1 x.2) (own_at b y.0 y.1 y.2) x.2 y.2 (λ same. ne (x.1 ∙ ap (of_variable c) same ∙ sym y.1)) hi hj e
  apart_at a b la lb ne (inl x) (inr not_one) i j hi hj e =
      let own = own_at a x.0 x.1 x.2 in
      old_apart b (q.at a) (q.size a) (old_at b lb not_one) (omega (arith, own.at)) (omega (arith, own.at, own.size, own.place.high, h.frame)) j i hj hi (sym e)
  apart_at a b la lb ne (inr not_one) (inl y) i j hi hj e =
      let own = own_at b y.0 y.1 y.2 in
      old_apart a (q.at b) (q.size b) (old_at a la not_one) (omega (arith, own.at)) (omega (arith, own.at, own.size, own.place.high, h.frame)) i j hi hj e
  apart_at a b la lb ne (inr not_one) (inr none) i j hi hj e =
      let x = old_at a la not_one in
      let y = old_at b lb none in
      h.below.apart.apart a b x.live y.live ne i j (omega (arith, hi, x.same.size)) (omega (arith, hj, y.same.size)) (omega (arith, e, x.same.at, y.same.at))

  may_at : (b : Base) (o k : ℕ) → q.live b ≡ true → o + k ≤ q.size b → SlotOrNot c (many p m) b → MayWrite memory (q.at b + o) k
  may_at b o k live inside (inl x) =
      let own = own_at b x.0 x.1 x.2 in
      h.below.may (q.at b + o) k (omega (arith, own.at, floor)) (omega (arith, own.at, own.size, own.place.high, inside, h.frame, h.below.end))
  may_at b o k live inside (inr not_one) =
      let x = old_at b live not_one in
      subst (λ a. MayWrite memory (a + o) k) (sym x.same.at) (h.below.apart.may b o k x.live (omega (arith, inside, x.same.size)))

  below_at : (b : Base) → q.live b ≡ true → SlotOrNot c (many p m) b → q.at b + q.size b < 2 ^ 64
  below_at b live (inl x) = let own = own_at b x.0 x.1 x.2 in omega (arith, own.at, own.size, own.place.high, h.frame, h.below.end)
  below_at b live (inr not_one) = let x = old_at b live not_one in omega (arith, x.same.at, x.same.size, h.below.apart.below b x.live)

  low_even : low % 8 ≡ 0
  low_even = omega (arith, h.saved.aligned)

  aligned_at : (b : Base) → q.live b ≡ true → SlotOrNot c (many p m) b → q.at b % 4 ≡ 0
  aligned_at b live (inl x) = let own = own_at b x.0 x.1 x.2 in omega (arith, own.at, own.place.even, low_even)
  aligned_at b live (inr not_one) = let x = old_at b live not_one in omega (arith, x.same.at, h.below.apart.aligned b x.live)

  stands : StandApart q memory
  stands = record {
    apart = λ a b la lb ne. apart_at a b la lb ne (slot_or_not c (many p m) a) (slot_or_not c (many p m) b);
    may = λ b o k live inside. may_at b o k live inside (slot_or_not c (many p m) b);
    below = λ b live. below_at b live (slot_or_not c (many p m) b);
    aligned = λ b live. aligned_at b live (slot_or_not c (many p m) b);
  }

  -- ---- the new call, and all below it

  call_stands : (d : ℕ) → CallStands q m frame (new_world (slot_kinds p m) given d v) memory low back
  call_stands d = record {
    known = h.known;
    small = is.small;
    above = subst (λ k. lowest_sp (shape p m).leaf (shape p m).size ≤ k) (sym h.frame) h.room;
    below = omega (arith, h.frame, h.below.end);
    holds = record {
      room = omega (arith, h.frame, h.below.end);
      slots = slot_holds;
      variables = λ s inside. subst (λ k. q.at (of_variable k s) ≡ low + slot_offset (shape p m) s) (sym called) (new s inside).at;
      own = λ s inside none. subst (λ k. q.live (of_variable k s) ≡ true) (sym called) ((new s inside).live ∙ ap (λ o. not (is_some o)) none);
      ints = all_ints d;
      reached = λ g inside. let r = h.below.reached g inside in record { is = r.is; near = r.near };
      all_globals = h.below.all_globals;
    };
    slots = record {
      variables = λ s inside variable. no_words s variable;
      whole = λ s inside plain. subst (λ k. 8 ≤ q.size (of_variable k s)) (sym called) (omega (arith, (new s inside).size, plain_room (function p m) s is inside plain));
      aligned = λ s inside plain. subst (λ k. q.at (of_variable k s) % 8 ≡ 0) (sym called) (omega (arith, (new s inside).at, (slot s inside).even, low_even));
      ints = λ s inside. subst (λ k. q.ints (of_variable k s) ≡ is_variable (slot_kinds p m s)) (sym called) (new s inside).ints;
    };
    held = λ s b inside found. subst (λ k. HeldBy q (new_world (slot_kinds p m) given d v) k b.base) (sym called) (held_later q v (new_world (slot_kinds p m) given d v) c b.base (numbered d) (all_held s b found));
    saved = h.saved;
    alone = λ b live. alone_at b live (slot_or_not c (many p m) b);
    clear = λ b live older. clear_at b live (slot_or_not c (many p m) b);
  }
    where
      alone_at : (b : Base) → q.live b ≡ true → SlotOrNot c (many p m) b → Apart (q.at b) (q.size b) (low + return_offset) 8
      alone_at b live (inl x) = λ i j hi hj e. let own = own_at b x.0 x.1 x.2 in absurd (omega (arith, own.at, own.place.low, hj, e))
      alone_at b live (inr not_one) =
          old_apart b (low + return_offset) 8 (old_at b live not_one) (omega arith) (omega (arith, h.frame, is.size))

      clear_at : (b : Base) → q.live b ≡ true → SlotOrNot c (many p m) b → (q.at b + q.size b ≤ 0x7000_0000) ⊎ (low ≤ q.at b)
      clear_at b live (inl x) = let own = own_at b x.0 x.1 x.2 in inr (omega (arith, own.at))
      clear_at b live (inr not_one) = to (old_at b live not_one).clear
        where
          to : (q.at b + q.size b ≤ 0x7000_0000) ⊎ (stack ≤ q.at b) → (q.at b + q.size b ≤ 0x7000_0000) ⊎ (low ≤ q.at b)
          to (inl under) = inl under
          to (inr above) = inr (omega (arith, above, h.frame))

  inside_new : (d : ℕ) → IntsInside q (new_world (slot_kinds p m) given d v)
  inside_new d b z live there = by (int_given (slot_kinds p m) c 0 given v b z there)
    where
      old : v.memory b ≡ Some z → SlotOrNot c (many p m) b.base → (b.offset + 4 ≤ q.size b.base) × (q.ints b.base ≡ true)
      old got (inl own) =
          let none : v.memory b ≡ None = subst (λ k. v.memory (record { base = k; offset = b.offset }) ≡ None) (sym own.1) (h.below.fresh c own.0 b.offset (omega arith)) in
          let both : Some z ≡ None = sym got ∙ none in
          absurd (cc both)
      old got (inr not_one) =
          let o = old_at b.base live not_one in
          let was = h.below.inside b z o.live got in
          (omega (arith, was.0, o.same.size), o.same.ints ∙ was.1)

      by : IntGiven (slot_kinds p m) c 0 given v b z → (b.offset + 4 ≤ q.size b.base) × (q.ints b.base ≡ true)
      by (inl got) = old got (slot_or_not c (many p m) b.base)
      by (inr one) =
          let count : one.0 ≡ 0 + one.0 = omega arith in
          let inside = inside_given one.0 (number_word z) one.1 in
          let there : one.0 < many p m = omega (arith, inside, h.few) in
          let at : record { base = of_variable c one.0; offset = 0 } ≡ b = ap (λ k. record { base = of_variable c k; offset = 0 }) count ∙ sym one.2 in
          let int : slot_kinds p m one.0 ≡ int_slot = ap (slot_kinds p m) count ∙ one.3 in
          let next : one.0 + 1 ≡ suc one.0 = omega arith in
          let room : slot_room (shape p m) one.0 ≡ 8
          = omega (arith, ap (λ k. slot_bytes (take k (shape p m).slots)) next, given_bytes (function p m) given (suc one.0) is h.few h.fits (omega (arith, inside)), given_bytes (function p m) given one.0 is h.few h.fits (omega (arith, inside))) in
          subst (λ (k : Address). (k.offset + 4 ≤ q.size k.base) × (q.ints k.base ≡ true)) at
          (omega (arith, (new one.0 there).size, room), (new one.0 there).ints ∙ ap is_variable int)

  last_new : (b : Base) → q.live b ≡ true → newer frame.call b ≡ false
  last_new b live = subst (λ k. newer k b ≡ false) (sym called) (by (slot_or_not c (many p m) b))
    where
      by : SlotOrNot c (many p m) b → newer c b ≡ false
      by (inl x) = ap (newer c) x.1 ∙ not_newer c x.0
      by (inr not_one) = begun_last v b (h.below.begun b (old_at b live not_one).live)

  fresh_new : (d : ℕ) → StillFresh (new_world (slot_kinds p m) given d v)
  fresh_new d e s o later_call = none_by ((new_world (slot_kinds p m) given d v).memory (record { base = of_variable e s; offset = o }))
      (λ z there. by z (int_given (slot_kinds p m) c 0 given v (record { base = of_variable e s; offset = o }) z there))
    where
      by : (z : ℤ) → IntGiven (slot_kinds p m) c 0 given v (record { base = of_variable e s; offset = o }) z → ⊥
      by z (inl got) =
          let none = h.below.fresh e s o (omega (arith, later_call, later d)) in
          let both : Some z ≡ None = sym got ∙ none in
          cc both
      by z (inr one) =
          let bases : of_variable e s ≡ of_variable c (0 + one.0) = ap (λ (k : Address). k.base) one.2 in
          let same : e ≡ c = cc bases in
          omega (arith, same, later_call, later d)

  objects_new : (d : ℕ) → ObjectsStand q (new_world (slot_kinds p m) given d v) memory
  objects_new d = record {
    may = h.below.objects.may;
    made = λ e live. omega (arith, h.below.objects.made e live, same_number d);
    fresh = λ e o more. none_by ((new_world (slot_kinds p m) given d v).memory (record { base = of_exception e; offset = o }))
        (λ z there. none_at e o z (omega (arith, more, same_number d)) (int_given (slot_kinds p m) c 0 given v (record { base = of_exception e; offset = o }) z there));
    away = λ b live plain. away_at b live plain (slot_or_not c (many p m) b);
    placed = h.below.objects.placed;
  }
    where
      none_at : (e o : ℕ) (z : ℤ) → v.last_number < e → IntGiven (slot_kinds p m) c 0 given v (record { base = of_exception e; offset = o }) z → ⊥
      none_at e o z more (inl got) =
          let none = h.below.objects.fresh e o more in
          let both : Some z ≡ None = sym got ∙ none in
          cc both
      none_at e o z more (inr one) =
          let bases : of_exception e ≡ of_variable c (0 + one.0) = ap (λ (k : Address). k.base) one.2 in
          cc bases

      away_at : (b : Base) → q.live b ≡ true → is_exception b ≡ false → SlotOrNot c (many p m) b → IsAway (q.at b) (q.size b)
      away_at b live plain (inl own) = let one = own_at b own.0 own.1 own.2 in inr (omega (arith, one.at, floor))
      away_at b live plain (inr not_one) = let old = old_at b live not_one in to old.same (h.below.objects.away b old.live plain)
        where
          to : OldBase p m c low b → IsAway (p.at b) (p.size b) → IsAway (q.at b) (q.size b)
          to same (inl under) = inl (omega (arith, same.at, same.size, under))
          to same (inr above) = inr (omega (arith, same.at, above))

  -- where the calls that wait stand above it
  pub opened_matches : (d : ℕ) (fs : List Activation) → (IntsHold q (new_world (slot_kinds p m) given d v) memory → CallsWait q fs (new_world (slot_kinds p m) given d v) memory stack back c) →
      MemoryMatches q m frame fs (new_world (slot_kinds p m) given d v) memory low back
  opened_matches d fs waits =
      let u : World = new_world (slot_kinds p m) given d v in
      record {
        top = call_stands d;
        newest = omega (arith, called, later d);
        waiting = subst (λ k. CallsWait q fs u memory k back frame.call) (sym h.frame) (subst (λ k. CallsWait q fs u memory stack back k) (sym called) (waits (all_ints d)));
        apart = stands;
        inside = inside_new d;
        may = h.below.may;
        last = last_new;
        fresh = fresh_new d;
        objects = objects_new d;
        unit = unit_opened p m c low memory h.below.unit;
      }
