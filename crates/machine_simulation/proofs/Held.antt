-- What a place's address begins at need not be live: a call may hold the address, and its bytes are below 2^64.
use Rattle.std.proofs.Common.{◌≡◌, ◌∙◌, refl, ap, subst, arith, ℕ, ◌+◌, ◌^◌, ◌<◌, List, length, Option, Some, None}
use Rattle.rv64_isa.specs.State.{Part}
use Rattle.region_forms.specs.Form.{SlotKind, int_slot, address_slot, object_slot, help_slot, Root, in_slot, through, in_global, Place}
use Rattle.region_forms.specs.World.{Base, of_global, of_variable, of_exception, Address, address_in, behind, Frame, World}
use Rattle.region_forms.specs.Evaluation.{Location, in_memory, in_frame, slot_location, location_behind, root_location, with_some, location_address, locate, address_of}
use Rattle.linear_forms.specs.Activation.{Activation}
use Rattle.machine_forms.specs.KeptCode.{register_of, root_register}
use Rattle.machine_pieces.specs.Frames.{RootFits, byte_of}
use Rattle.machine_simulation.specs.Plan.{Plan, shape, slot_kinds, setting}
use Rattle.machine_simulation.specs.Extents.{StandApart, AddressStands}
use Rattle.machine_simulation.specs.Calls.{HeldBy, CallStands}
use Rattle.machine_simulation.specs.KeptCalls.{kept_of}
use Rattle.machine_simulation.specs.Matches.{ObjectsStand, MemoryMatches}
use Rattle.machine_simulation.specs.Operations.{PlaceFits}

module _ (p : Plan) (n : ℕ) (frame : Frame) (v : World) (memory : List Part) (stack back : ℕ) (st : CallStands p n frame v memory stack back) where
  slot_held : (k : SlotKind) (s o : ℕ) (a : Address) → s < length (shape p n).slots → register_of (kept_of p n) s ≡ None → slot_location k frame.call s o ≡ in_memory a → HeldBy p v frame.call a.base
  slot_held int_slot s o a inside none e =
      let same : record { base = of_variable frame.call s; offset = o } ≡ a = cc e in
      subst (λ (c : Address). HeldBy p v frame.call c.base) same (st.holds.own s inside none, omega arith)
  slot_held object_slot s o a inside none e =
      let same : record { base = of_variable frame.call s; offset = o } ≡ a = cc e in
      subst (λ (c : Address). HeldBy p v frame.call c.base) same (st.holds.own s inside none, omega arith)
  slot_held address_slot s o a inside none e = absurd (cc e)
  slot_held help_slot s o a inside none e = absurd (cc e)

  located_held : (root : Root) (o : ℕ) (a : Address) → RootFits (setting p n) (shape p n) (slot_kinds p n) frame root o → root_register (shape p n) root ≡ None → root_location (slot_kinds p n) frame root o ≡ Some (in_memory a) → HeldBy p v frame.call a.base
  located_held (in_slot s) o a h none e = let same : slot_location (slot_kinds p n s) frame.call s o ≡ in_memory a = cc e in slot_held (slot_kinds p n s) s o a h.0 none same
  located_held (through s) o a h none e = by (address_in (frame.slots s)) refl e
    where
      by : (b : Option Address) → address_in (frame.slots s) ≡ b → location_behind o b ≡ Some (in_memory a) → HeldBy p v frame.call a.base
      by None is got = absurd (cc got)
      by (Some b) is got =
          let same : behind b o ≡ a = cc got in
          subst (λ (c : Address). HeldBy p v frame.call c.base) same (st.held s b h.0 is)
  located_held (in_global g) o a h none e =
      let same : record { base = of_global g; offset = o } ≡ a = cc e in
      subst (λ (c : Address). HeldBy p v frame.call c.base) same (st.holds.all_globals g h.0)

  -- a place's address may be held by the call
  pub address_held : (q : Place) (b : Address) → PlaceFits p n frame q → root_register (shape p n) q.root ≡ None → address_of (slot_kinds p n) frame q ≡ Some b → HeldBy p v frame.call b.base
  address_held q b fits none e = by (locate (slot_kinds p n) frame q) refl e
    where
      by : (l : Option Location) → locate (slot_kinds p n) frame q ≡ l → with_some l location_address ≡ Some b → HeldBy p v frame.call b.base
      by None is got = absurd (cc got)
      by (Some (in_frame s)) is got = absurd (cc got)
      by (Some (in_memory a)) is got = let same : a ≡ b = cc got in located_held q.root q.offset b fits none (is ∙ ap (λ c. Some (in_memory c)) same)

-- what a call may hold the address of ends below 2^64
held_below : (p : Plan) (v : World) (memory : List Part) (c : ℕ) (b : Base) → StandApart p memory → ObjectsStand p v memory → HeldBy p v c b → p.at b + p.size b < 2 ^ 64
held_below p v memory c (of_global g) apart objects h = apart.below (of_global g) h
held_below p v memory c (of_variable d s) apart objects h = apart.below (of_variable d s) h.0
held_below p v memory c (of_exception e) apart objects h = objects.placed e

-- an address that a call may hold is below 2^64
pub address_below : (p : Plan) (n : ℕ) (frame : Frame) (fs : List Activation) (v : World) (memory : List Part) (stack back : ℕ) (b : Address) → MemoryMatches p n frame fs v memory stack back →
    HeldBy p v frame.call b.base → AddressStands p b → byte_of (setting p n) b < 2 ^ 64
address_below p n frame fs v memory stack back b h held inside = omega (arith, held_below p v memory frame.call b.base h.apart h.objects held, inside)
