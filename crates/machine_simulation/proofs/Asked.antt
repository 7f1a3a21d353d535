-- What is asked of a program is all that is needed, since all but exceptions whose address a call's slots hold is live.
use Rattle.std.proofs.Common.{◌≡◌, refl, subst, ℕ, ◌<◌, List, length, Option, Some, None}
use Rattle.std.specs.Prelude.{true}
use Rattle.rv64_isa.specs.State.{Part}
use Rattle.region_forms.specs.Form.{SlotKind, int_slot, address_slot, object_slot, help_slot, Root, in_slot, through, in_global, Place, Value, number, load, unary, binary, call_value, Argument, int_argument, address_argument, handler_argument, Arguments, no_arguments, argument_then, evaluate, store, bind}
use Rattle.region_forms.specs.World.{Base, of_global, of_variable, of_exception, Address, address_in, behind, Frame, World}
use Rattle.region_forms.specs.Evaluation.{Location, in_memory, in_frame, slot_location, location_behind, root_location, locate}
use Rattle.linear_forms.specs.Linear.{LinearOp, plain, label, jump, jump_zero}
use Rattle.machine_forms.specs.Kept.{root_is, argument_takes, arguments_take, linear_takes}
use Rattle.machine_forms.specs.KeptCode.{register_of, root_register}
use Rattle.machine_pieces.specs.Frames.{RootFits, RootIsLive, ValueStands}
use Rattle.machine_simulation.specs.Plan.{Plan, shape, slot_kinds, setting}
use Rattle.machine_simulation.specs.Extents.{LocationStands}
use Rattle.machine_simulation.specs.Calls.{HeldBy, CallStands}
use Rattle.machine_simulation.specs.Operations.{IsQuiet, PlaceStands, OperationStands}
use Rattle.machine_simulation.specs.Returns.{WantedStands}
use Rattle.machine_simulation.specs.Entering.{AddressFits, ArgumentStands, ArgumentsStand, ObjectStands}
use Rattle.machine_simulation.specs.KeptCalls.{kept_of}
use Rattle.machine_simulation.proofs.Taken.{IsFree, root_free, first_free, rest_free, object_takes}
use Rattle.machine_simulation.specs.Asked.{RootAsked, LiveAsked, ValueAsked, LocationAsked, TargetAsked, WantedAsked, AddressAsked, ArgumentAsked, ArgumentsAsked, ObjectAsked, OperationAsked}

module _ (p : Plan) (n : ℕ) (frame : Frame) (v : World) (memory : List Part) (stack back : ℕ) (st : CallStands p n frame v memory stack back) where
  held_live : (s : ℕ) → ((e k : ℕ) → address_in (frame.slots s) ≡ Some (record { base = of_exception e; offset = k }) → p.live (of_exception e) ≡ true) → (b : Base) (k : ℕ) →
      address_in (frame.slots s) ≡ Some (record { base = b; offset = k }) → HeldBy p v frame.call b → p.live b ≡ true
  held_live s asked (of_global g) k e h = h
  held_live s asked (of_variable d t) k e h = h.0
  held_live s asked (of_exception d) k e h = asked d k e

  root_fits : (root : Root) (o : ℕ) → RootAsked p n frame root o → RootFits (setting p n) (shape p n) (slot_kinds p n) frame root o
  root_fits (in_slot s) o h = h
  root_fits (through s) o h = h
  root_fits (in_global g) o h = h

  root_lives : (root : Root) (o : ℕ) → RootAsked p n frame root o → LiveAsked p frame root → RootIsLive (setting p n) frame root
  root_lives (in_slot s) o h live = tt
  root_lives (through s) o h live = λ b e. held_live s live b.base b.offset e (st.held s b h.0 e)
  root_lives (in_global g) o h live = tt

  pub value_stands : (e : Value) → ValueAsked p n frame v e → ValueStands (setting p n) (shape p n) (slot_kinds p n) frame v e
  value_stands (number z) h = h
  value_stands (load q) h = (root_fits q.root q.offset h.0, root_lives q.root q.offset h.0 h.1)
  value_stands (unary o e) h = value_stands e h
  value_stands (binary o a b) h = (value_stands a h.0, λ x is undecided. value_stands b (h.1 x is undecided))
  value_stands (call_value c args) h = tt

  -- what a place's address begins at is live
  slot_live : (k : SlotKind) (s o : ℕ) (a : Address) → s < length (shape p n).slots → register_of (kept_of p n) s ≡ None → slot_location k frame.call s o ≡ in_memory a → p.live a.base ≡ true
  slot_live int_slot s o a inside none e = let same : record { base = of_variable frame.call s; offset = o } ≡ a = cc e in subst (λ (c : Address). p.live c.base ≡ true) same (st.holds.own s inside none)
  slot_live object_slot s o a inside none e = let same : record { base = of_variable frame.call s; offset = o } ≡ a = cc e in subst (λ (c : Address). p.live c.base ≡ true) same (st.holds.own s inside none)
  slot_live address_slot s o a inside none e = absurd (cc e)
  slot_live help_slot s o a inside none e = absurd (cc e)

  located_live : (root : Root) (o : ℕ) (a : Address) → RootAsked p n frame root o → root_register (shape p n) root ≡ None → LiveAsked p frame root → root_location (slot_kinds p n) frame root o ≡ Some (in_memory a) → p.live a.base ≡ true
  located_live (in_slot s) o a h none live e = let same : slot_location (slot_kinds p n s) frame.call s o ≡ in_memory a = cc e in slot_live (slot_kinds p n s) s o a h.0 none same
  located_live (through s) o a h none live e = by (address_in (frame.slots s)) refl e
    where
      by : (b : Option Address) → address_in (frame.slots s) ≡ b → location_behind o b ≡ Some (in_memory a) → p.live a.base ≡ true
      by None is got = absurd (cc got)
      by (Some b) is got =
          let same : behind b o ≡ a = cc got in
          subst (λ (c : Address). p.live c.base ≡ true) same (held_live s live b.base b.offset is (st.held s b h.0 is))
  located_live (in_global g) o a h none live e =
      let same : record { base = of_global g; offset = o } ≡ a = cc e in subst (λ (c : Address). p.live c.base ≡ true) same (st.holds.all_globals g h.0)

  location_stands : (q : Place) (l : Location) → RootAsked p n frame q.root q.offset → root_register (shape p n) q.root ≡ None → LiveAsked p frame q.root → locate (slot_kinds p n) frame q ≡ Some l → LocationAsked p n l → LocationStands p (shape p n) (slot_kinds p n) l
  location_stands q (in_memory a) root none live e h = (located_live q.root q.offset a root none live e, h.0, h.1, h.2)
  location_stands q (in_frame s) root none live e h = h

  target_stands : (q : Place) → TargetAsked p n frame q → PlaceStands p n frame q
  target_stands q h = (root_fits q.root q.offset h.0, λ none l e. location_stands q l h.0 none h.2 e (h.1 l e))

  pub wanted_stands : (q : Option Place) → WantedAsked p n frame q → WantedStands p n frame q
  wanted_stands None h = tt
  wanted_stands (Some q) h = target_stands q h

  address_stands : (q : Place) → IsFree p n (λ s. root_is s q.root) → AddressAsked p n frame q → AddressFits p n frame q
  address_stands q free h = (root_fits q.root q.offset h.0, root_free p n q.root free, h.1)

  argument_stands : (a : Argument) → IsFree p n (λ s. argument_takes s a) → ArgumentAsked p n frame v a → ArgumentStands p n frame v a
  argument_stands (int_argument e) free h = value_stands e h
  argument_stands (address_argument q) free h = address_stands q free h
  argument_stands (handler_argument m) free h = absurd h

  pub arguments_stand : (args : Arguments) → IsFree p n (λ s. arguments_take s args) → ArgumentsAsked p n frame v args → ArgumentsStand p n frame v args
  arguments_stand no_arguments free h = tt
  arguments_stand (argument_then a args) free h = (argument_stands a (first_free p n a args free) h.0, arguments_stand args (rest_free p n a args free) h.1)

  pub object_stands : (q : Option Place) → IsFree p n (λ s. object_takes s q) → ObjectAsked p n frame q → ObjectStands p n frame q
  object_stands None free h = tt
  object_stands (Some q) free h = address_stands q free h

  pub operation_stands : (o : LinearOp) → IsQuiet o → IsFree p n (λ s. linear_takes s o) → OperationAsked p n frame v o → OperationStands p n frame v o
  operation_stands (plain (evaluate e)) quiet free h = tt
  operation_stands (plain (store q e)) quiet free h = (value_stands e h.0, target_stands q h.1)
  operation_stands (plain (bind s q)) quiet free h = let both = address_stands q free h.0 in (both.0, both.1, both.2, h.1, h.2, h.3)
  operation_stands (label l) quiet free h = tt
  operation_stands (jump l) quiet free h = tt
  operation_stands (jump_zero e l) quiet free h = value_stands e h
  operation_stands o quiet free h = absurd quiet
