-- What tests of well-formed regions say.
use Rattle.std.proofs.Common.{◌≡◌, ◌∙◌, refl, sym, ap, arith, ℕ, zero, suc, ◌+◌, ◌^◌, ◌<◌, ◌≤◌, ◌==◌, ◌&&◌, nat_lt, Bool, true, false, List, [], ◌∷◌, ◌++◌, length, Option, Some, None, if◌then◌else◌}
use Rattle.std.specs.Prelude.{slice_get, take}
use Rattle.std.proofs.lemmas.Bool.Decides.{nat_tests}
use Rattle.std.proofs.lemmas.List.{length-append}
use Rattle.cxx_ast.specs.Limits.{most_class_bytes}
use Rattle.region_forms.specs.Form.{SlotKind, int_slot, address_slot, object_slot, help_slot, Slot, kind_of, kinds_of, Root, in_slot, through, in_global, Place, RegionFunction, Regions}
use Rattle.region_forms.specs.WellFormed.{holds_ints, holds_address, is_reference, is_variable, is_help, slot_test, within, within_object, int_place, address_place}
use Rattle.region_forms.specs.LowerProgram.{help}
use Rattle.linear_forms.specs.Linear.{FunctionCode}
use Rattle.linear_forms.specs.Frame.{rounded_up, slot_bytes, code_slots, has_pad}
use Rattle.linear_forms.specs.Unit.{function_code, unit_of}
use Rattle.machine_forms.specs.Shape.{slot_offset}
use Rattle.machine_forms.specs.Emitted.{shape_of}
use Rattle.machine_forms.specs.Kept.{kept_slots}
use Rattle.machine_forms.specs.KeptCode.{register_of}
use Rattle.machine_forms.specs.Registers.{saved_registers}
use Rattle.machine_forms.proofs.Chosen.{variables_are_kept}
use Rattle.machine_pieces.specs.Frames.{SlotFits}
use Rattle.machine_pieces.proofs.Keeping.{among}
use Rattle.machine_simulation.specs.Matches.{FrameIs}
use Rattle.machine_simulation.specs.Entering.{slot_room}
use Rattle.machine_simulation.proofs.Slots.{slot_place_of}
use Rattle.address_bounds.specs.Rooms.{Reach, ints_of, RootHasRoom, HasRoom}
use Rattle.operation_premises.specs.Static.{IsWord, RootStatic, PlaceStatic}

pub both_left : (a b : Bool) → (a && b) ≡ true → a ≡ true
both_left true b e = refl
both_left false b e = absurd (cc e)

pub both_right : (a b : Bool) → (a && b) ≡ true → b ≡ true
both_right true b e = e
both_right false b e = absurd (cc e)

-- slots in front of others
pub in_front : (xs ys : List Slot) (s : ℕ) → s < length xs → slice_get (xs ++ ys) s ≡ slice_get xs s
in_front [] ys s h = absurd (omega (arith, h))
in_front (x ∷ xs) ys zero h = refl
in_front (x ∷ xs) ys (suc s) h = in_front xs ys s (omega (arith, h))

-- a slot's room is not less than its bytes
bytes_next : (slots : List Slot) (s : ℕ) (slot : Slot) → slice_get slots s ≡ Some slot → slot_bytes (take (suc s) slots) ≡ slot_bytes (take s slots) + rounded_up 7 slot.size
bytes_next [] s slot e = absurd (cc e)
bytes_next (x ∷ slots) zero slot e = let same : x ≡ slot = cc e in omega (arith, ap (λ (y : Slot). rounded_up 7 y.size) same)
bytes_next (x ∷ slots) (suc s) slot e = omega (arith, bytes_next slots s slot e)

up_to : (n : ℕ) → n ≤ rounded_up 7 n
up_to n = omega arith

room_holds : (g : FunctionCode) (s : ℕ) (slot : Slot) → slice_get g.slots s ≡ Some slot → slot.size ≤ slot_room (shape_of g) s
room_holds g s slot e =
    let one : s + 1 ≡ suc s = omega arith in
    let more = ap (λ n. slot_bytes (take n g.slots)) one ∙ bytes_next g.slots s slot e in
    let up = up_to slot.size in
    omega (arith, more, up)

-- ---- a function with its code

module _ (r : Regions) (f : RegionFunction) (reach : Reach) (frame : FrameIs (function_code f)) where
  same_kind : (s : ℕ) → s < length f.slots → kinds_of (code_slots f) s ≡ kinds_of f.slots s
  same_kind s inside = ap kind_of (in_front f.slots (if has_pad f.body then help ∷ help ∷ help ∷ [] else []) s inside)

  more_slots : length f.slots ≤ length (code_slots f)
  more_slots = let e = length-append f.slots (if has_pad f.body then help ∷ help ∷ help ∷ [] else []) in omega (arith, e)

  -- the test of a slot
  tested : (test : SlotKind → Bool) (s : ℕ) → slot_test test f.slots s ≡ true → (s < length f.slots) × (test (kinds_of f.slots s) ≡ true)
  tested test s e =
      (let first = both_left (nat_lt s (length f.slots)) (test (kinds_of f.slots s)) e in grind (arith, nat_tests, first), both_right (nat_lt s (length f.slots)) (test (kinds_of f.slots s)) e)

  near_by : (s : ℕ) → s < length (code_slots f) → slot_offset (shape_of (function_code f)) s < 2 ^ 11
  near_by s inside =
      let place = slot_place_of (function_code f) s frame inside in
      let high = place.high in let small = frame.small in
      let some = some_room s inside in
      omega (arith, high, small, some)
    where
      some_room : (s : ℕ) → s < length (code_slots f) → 0 ≤ slot_room (shape_of (function_code f)) s
      some_room s inside = omega arith

  -- so far into a slot
  inside_slot : (s o : ℕ) (slot : Slot) → s < length (code_slots f) → slice_get (code_slots f) s ≡ Some slot → o + 4 ≤ slot.size → slot_offset (shape_of (function_code f)) s + o < 2 ^ 11
  inside_slot s o slot inside there within =
      let place = slot_place_of (function_code f) s frame inside in
      let high = place.high in let small = frame.small in
      let room = room_holds (function_code f) s slot there in
      omega (arith, high, small, room, within)

  help_plain : (k : SlotKind) → is_help k ≡ true → is_variable k ≡ false
  help_plain help_slot e = refl
  help_plain int_slot e = absurd (cc e)
  help_plain address_slot e = absurd (cc e)
  help_plain object_slot e = absurd (cc e)

  address_plain : (k : SlotKind) → holds_address k ≡ true → is_variable k ≡ false
  address_plain help_slot e = refl
  address_plain int_slot e = absurd (cc e)
  address_plain address_slot e = refl
  address_plain object_slot e = absurd (cc e)

  reference_plain : (k : SlotKind) → is_reference k ≡ true → is_variable k ≡ false
  reference_plain help_slot e = absurd (cc e)
  reference_plain int_slot e = absurd (cc e)
  reference_plain address_slot e = refl
  reference_plain object_slot e = absurd (cc e)

  word_by : (test : SlotKind → Bool) → ((k : SlotKind) → test k ≡ true → is_variable k ≡ false) → (s : ℕ) → slot_test test f.slots s ≡ true → IsWord (function_code f) s
  word_by test plain s e =
      let t = tested test s e in
      let more = more_slots in let inside = t.0 in
      record {
        inside = omega (arith, more, inside);
        plain = ap is_variable (same_kind s t.0) ∙ plain (kinds_of f.slots s) t.1;
        near = near_by s (omega (arith, more, inside));
      }

  pub help_word : (s : ℕ) → slot_test is_help f.slots s ≡ true → IsWord (function_code f) s
  help_word s e = word_by is_help help_plain s e

  pub address_word : (s : ℕ) → slot_test holds_address f.slots s ≡ true → IsWord (function_code f) s
  address_word s e = word_by holds_address address_plain s e

  pub reference_word : (s : ℕ) → slot_test is_reference f.slots s ≡ true → IsWord (function_code f) s
  reference_word s e = word_by is_reference reference_plain s e

  -- ---- places

  through_static : (s o : ℕ) → slot_test holds_address f.slots s && within_object o ≡ true → RootStatic (unit_of r) (function_code f) (through s) o
  through_static s o e =
      let w = address_word s (both_left (slot_test holds_address f.slots s) (within_object o) e) in
      let small : o + 4 ≤ most_class_bytes = let x = both_right (slot_test holds_address f.slots s) (within_object o) e in grind (arith, nat_tests, x) in
      (w.inside, w.near, omega (arith, small))

  global_static : (i o : ℕ) → nat_lt i (length r.globals) && o == 0 ≡ true → RootStatic (unit_of r) (function_code f) (in_global i) o
  global_static i o e =
      let a = both_left (nat_lt i (length r.globals)) (o == 0) e in let b = both_right (nat_lt i (length r.globals)) (o == 0) e in
      (grind (arith, nat_tests, a), grind (arith, nat_tests, b))

  -- a kept variable has 4 bytes
  kept_whole : (s k o : ℕ) (slot : Slot) → register_of (kept_slots (function_code f)) s ≡ Some k → slice_get (code_slots f) s ≡ Some slot → o + 4 ≤ slot.size → o ≡ 0
  kept_whole s k o slot kept there room =
      let a = among saved_registers (kept_slots (function_code f)) s k kept in
      let is = (variables_are_kept (function_code f)).are a.place s a.slot in
      let both : Some slot ≡ Some is.slot = sym there ∙ is.there in
      let same : slot ≡ is.slot = cc both in
      let four : slot.size ≡ 4 = ap (λ x. x.size) same ∙ is.size in
      omega (arith, room, four)

  -- an int in a slot of its own or in one that is no variable
  slot_static : (test : SlotKind → Bool) (s o : ℕ) → ((k : SlotKind) → test k ≡ true → (slot : Slot) → k ≡ slot.kind → o + 4 ≤ ints_of slot → SlotFits k o) → slot_test test f.slots s && within (slice_get f.slots s) o ≡ true →
      ((slot : Slot) → slice_get (code_slots f) s ≡ Some slot → o + 4 ≤ ints_of slot) → RootStatic (unit_of r) (function_code f) (in_slot s) o
  slot_static test s o fits e room = by (slice_get f.slots s) refl (both_right (slot_test test f.slots s) (within (slice_get f.slots s) o) e)
    where
      t : (s < length f.slots) × (test (kinds_of f.slots s) ≡ true)
      t = tested test s (both_left (slot_test test f.slots s) (within (slice_get f.slots s) o) e)

      by : (x : Option Slot) → slice_get f.slots s ≡ x → within x o ≡ true → RootStatic (unit_of r) (function_code f) (in_slot s) o
      by None is e = absurd (cc e)
      by (Some slot) is e =
          let more = more_slots in let below = t.0 in
          let inside : s < length (code_slots f) = omega (arith, more, below) in
          let there : slice_get (code_slots f) s ≡ Some slot = in_front f.slots (if has_pad f.body then help ∷ help ∷ help ∷ [] else []) s t.0 ∙ is in
          let size : o + 4 ≤ slot.size = grind (arith, nat_tests, e) in
          let kind : kinds_of (code_slots f) s ≡ slot.kind = ap kind_of there in (
            inside,
            inside_slot s o slot inside there size,
            fits (kinds_of (code_slots f) s) (ap test (same_kind s t.0) ∙ t.1) slot kind (room slot there),
            λ k kept. kept_whole s k o slot kept there size,
          )

  int_fits : (o : ℕ) (k : SlotKind) → holds_ints k ≡ true → (slot : Slot) → k ≡ slot.kind → o + 4 ≤ ints_of slot → SlotFits k o
  int_fits o int_slot e slot is room = tt
  int_fits o object_slot e slot is room = tt
  int_fits o address_slot e slot is room = absurd (cc e)
  int_fits o help_slot e slot is room =
      let four : ints_of slot ≡ 4 = ap (λ k. if is_variable k then slot.size else 4) (sym is) in
      let none : o ≡ 0 = omega (arith, room, four) in none

  variable_fits : (o : ℕ) (k : SlotKind) → is_variable k ≡ true → (slot : Slot) → k ≡ slot.kind → o + 4 ≤ ints_of slot → SlotFits k o
  variable_fits o int_slot e slot is room = tt
  variable_fits o object_slot e slot is room = tt
  variable_fits o address_slot e slot is room = absurd (cc e)
  variable_fits o help_slot e slot is room = absurd (cc e)

  pub int_static : (q : Place) → int_place r f.slots q ≡ true → HasRoom reach (code_slots f) q 4 → PlaceStatic (unit_of r) (function_code f) q
  int_static q e room = by q.root e room.1
    where
      by : (root : Root) → int_place r f.slots (record { root = root; offset = q.offset }) ≡ true → RootHasRoom reach (code_slots f) root q.offset 4 → RootStatic (unit_of r) (function_code f) root q.offset
      by (in_slot s) e room = slot_static holds_ints s q.offset (int_fits q.offset) e room
      by (through s) e room = through_static s q.offset e
      by (in_global i) e room = global_static i q.offset e

  pub address_static : (q : Place) → address_place r f.slots q ≡ true → PlaceStatic (unit_of r) (function_code f) q
  address_static q e = by q.root e
    where
      -- a variable has all of its slot
      all_of : (s o : ℕ) → slot_test is_variable f.slots s && within (slice_get f.slots s) o ≡ true → (slot : Slot) → slice_get (code_slots f) s ≡ Some slot → o + 4 ≤ ints_of slot
      all_of s o e slot there =
          let t = tested is_variable s (both_left (slot_test is_variable f.slots s) (within (slice_get f.slots s) o) e) in
          let same : slice_get f.slots s ≡ Some slot = sym (in_front f.slots (if has_pad f.body then help ∷ help ∷ help ∷ [] else []) s t.0) ∙ there in
          let size : o + 4 ≤ slot.size = let x = ap (λ y. within y o) (sym same) ∙ both_right (slot_test is_variable f.slots s) (within (slice_get f.slots s) o) e in grind (arith, nat_tests, x) in
          let whole : ints_of slot ≡ slot.size = ap (λ b. if b then slot.size else 4) (ap (λ y. is_variable (kind_of y)) (sym same) ∙ t.1) in
          omega (arith, size, whole)

      by : (root : Root) → address_place r f.slots (record { root = root; offset = q.offset }) ≡ true → RootStatic (unit_of r) (function_code f) root q.offset
      by (in_slot s) e = slot_static is_variable s q.offset (variable_fits q.offset) e (all_of s q.offset e)
      by (through s) e = through_static s q.offset e
      by (in_global i) e = global_static i q.offset e
