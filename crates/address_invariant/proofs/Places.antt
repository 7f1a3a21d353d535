-- What lies behind the places of a call.
use Rattle.std.proofs.Common.{◌≡◌, ◌∙◌, refl, sym, ap, subst, arith, ℕ, zero, suc, ◌+◌, ◌%◌, ◌≤◌, List, [], Option, Some, None}
use Rattle.std.specs.Prelude.{true, slice_get, if◌then◌else◌}
use Rattle.region_forms.specs.Form.{SlotKind, int_slot, address_slot, object_slot, help_slot, Slot, Root, in_slot, through, in_global, Place, kind_of, kinds_of}
use Rattle.region_forms.specs.World.{of_global, of_variable, Address, address_in, behind, Frame, World}
use Rattle.region_forms.specs.WellFormed.{is_variable}
use Rattle.region_forms.specs.Evaluation.{in_memory, in_frame, location_behind, slot_location, root_location, locate}
use Rattle.linear_forms.specs.Linear.{UnitCode}
use Rattle.linear_forms.specs.Stub.{Function, compiled, end_catch, terminating, call_unexpected}
use Rattle.linear_forms.specs.Activation.{kinds}
use Rattle.linear_forms.specs.UnitRun.{code_at, code_of}
use Rattle.address_bounds.specs.Rooms.{ints_of, RootHasRoom, HasRoom}
use Rattle.address_bounds.specs.Reaches.{Needs}
use Rattle.address_invariant.specs.Extents.{Extents, LiesInside}
use Rattle.address_invariant.specs.Reaching.{reach_in, CallReaches, ObjectsReach}
use Rattle.address_invariant.specs.Laws.{PlacesLieInside}

-- the slots of a function; the runtime's own have none that hold ints
abbrev pub slots_in : UnitCode → Function → List Slot
slots_in u (compiled n) = (code_at u n).slots
slots_in u f = []

-- the kinds of the slots are those of a list
kinds_are : (u : UnitCode) (f : Function) (s : ℕ) → kinds (code_of u) f s ≡ kinds_of (slots_in u f) s
kinds_are u (compiled n) s = refl
kinds_are u end_catch s = refl
kinds_are u terminating s = refl
kinds_are u call_unexpected s = refl

-- an empty list has nothing
pub none_there : {A B : Type 0} (s : ℕ) (slot : B) → slice_get [] s ≡ Some slot → A
none_there zero slot e = cc e
none_there (suc s) slot e = cc e

module _ (x : Extents) (u : UnitCode) (needs : Needs) (v : World) (f : Function) (frame : Frame) (objects : ObjectsReach x v) (call : CallReaches x u needs v f frame) where
  -- a variable
  variable_lies : (s o n : ℕ) (slot : Slot) → slice_get (slots_in u f) s ≡ Some slot → is_variable slot.kind ≡ true → o % 4 ≡ 0 → o + n ≤ ints_of slot →
      (g : Function) → f ≡ g → LiesInside x v (record { base = of_variable frame.call s; offset = o }) n
  variable_lies s o n slot there is whole room (compiled k) e =
      let c = subst (λ g. CallReaches x u needs v g frame) e call in
      let at : slice_get (code_at u k).slots s ≡ Some slot = sym (ap (λ g. slice_get (slots_in u g) s) e) ∙ there in
      let lies = c.variables s slot at is in
      let all : ints_of slot ≡ slot.size = ap (λ t. if t then slot.size else 4) is in
      record { begun = c.begun; ints = lies.0; within = omega (arith, room, all, lies.1); whole = whole }
  variable_lies s o n slot there is whole room end_catch e = none_there s slot (sym (ap (λ g. slice_get (slots_in u g) s) e) ∙ there)
  variable_lies s o n slot there is whole room terminating e = none_there s slot (sym (ap (λ g. slice_get (slots_in u g) s) e) ∙ there)
  variable_lies s o n slot there is whole room call_unexpected e = none_there s slot (sym (ap (λ g. slice_get (slots_in u g) s) e) ∙ there)

  root_lies : (r : Root) (o n : ℕ) (a : Address) → o % 4 ≡ 0 → RootHasRoom (reach_in needs f) (slots_in u f) r o n → root_location (kinds (code_of u) f) frame r o ≡ Some (in_memory a) → LiesInside x v a n
  root_lies (in_slot s) o n a whole room e = by (slice_get (slots_in u f) s) refl
    where
      by : (t : Option Slot) → slice_get (slots_in u f) s ≡ t → LiesInside x v a n
      by None none =
          let kind : kinds (code_of u) f s ≡ help_slot = kinds_are u f s ∙ ap kind_of none in
          let both : Some (in_frame s) ≡ Some (in_memory a) = sym (ap (λ k. Some (slot_location k frame.call s o)) kind) ∙ e in cc both
      by (Some slot) there = kind slot.kind refl
        where
          is : (k : SlotKind) → slot.kind ≡ k → Some (slot_location k frame.call s o) ≡ Some (in_memory a)
          is k same = sym (ap (λ k. Some (slot_location k frame.call s o)) (kinds_are u f s ∙ ap kind_of there ∙ same)) ∙ e

          lies : is_variable slot.kind ≡ true → LiesInside x v (record { base = of_variable frame.call s; offset = o }) n
          lies variable = variable_lies s o n slot there variable whole (room slot there) f refl

          here : Some (in_memory (record { base = of_variable frame.call s; offset = o })) ≡ Some (in_memory a) → is_variable slot.kind ≡ true → LiesInside x v a n
          here same variable =
              let one : record { base = of_variable frame.call s; offset = o } ≡ a = cc same in
              subst (λ b. LiesInside x v b n) one (lies variable)

          kind : (k : SlotKind) → slot.kind ≡ k → LiesInside x v a n
          kind int_slot same = here (is int_slot same) (ap is_variable same)
          kind object_slot same = here (is object_slot same) (ap is_variable same)
          kind address_slot same = let both = is address_slot same in cc both
          kind help_slot same = let both = is help_slot same in cc both
  root_lies (through s) o n a whole room e = by (address_in (frame.slots s)) refl
    where
      by : (t : Option Address) → address_in (frame.slots s) ≡ t → LiesInside x v a n
      by None none = let both : None ≡ Some (in_memory a) = sym (ap (location_behind o) none) ∙ e in cc both
      by (Some b) holds =
          let h = call.held s b holds in
          let both : Some (in_memory (behind b o)) ≡ Some (in_memory a) = sym (ap (location_behind o) holds) ∙ e in
          let one : behind b o ≡ a = cc both in
          subst (λ c. LiesInside x v c n) one (record { begun = h.begun; ints = h.ints; within = omega (arith, h.within, room); whole = omega (arith, h.whole, whole) })
  root_lies (in_global g) o n a whole room e =
      let one : record { base = of_global g; offset = o } ≡ a = cc e in
      let lies = objects.globals g in
      subst (λ b. LiesInside x v b n) one (record { begun = tt; ints = lies.0; within = omega (arith, room, lies.1); whole = whole })

  pub place_lies : (q : Place) (n : ℕ) (a : Address) → HasRoom (reach_in needs f) (slots_in u f) q n → locate (kinds (code_of u) f) frame q ≡ Some (in_memory a) → LiesInside x v a n
  place_lies q n a room e = root_lies q.root q.offset n a room.0 room.1 e

pub places_lie : PlacesLieInside
places_lie x u needs n size frame v q a objects call room e = place_lies x u needs v (compiled n) frame objects call q size a room e
