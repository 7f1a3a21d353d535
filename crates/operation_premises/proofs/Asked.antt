-- What is asked of operations is so.
use Rattle.std.proofs.Common.{◌≡◌, ◌∙◌, refl, sym, ap, subst, arith, ℕ, ◌+◌, ◌≤◌, Option, Some, None}
use Rattle.std.specs.Prelude.{false}
use Rattle.region_forms.specs.Form.{SlotKind, int_slot, address_slot, object_slot, help_slot, Kinds, Root, in_slot, through, in_global, Place, Value, number, load, unary, binary, call_value, Argument, int_argument, address_argument, handler_argument, Arguments, no_arguments, argument_then, evaluate, store, bind, call, construct, destroy, make, throw, rethrow, enter, leave}
use Rattle.region_forms.specs.World.{Address, address_in, Frame, World}
use Rattle.region_forms.specs.WellFormed.{is_variable}
use Rattle.region_forms.specs.Evaluation.{Location, in_memory, in_frame, locate, address_of, slot_location, location_behind}
use Rattle.linear_forms.specs.Linear.{LinearOp, plain, label, jump, jump_zero, pad, jump_filter, free, resume, unexpected, return}
use Rattle.linear_forms.specs.Stub.{compiled}
use Rattle.linear_forms.specs.Activation.{State}
use Rattle.machine_simulation.specs.Plan.{Plan, function, slot_kinds}
use Rattle.machine_simulation.specs.Asked.{RootAsked, LiveAsked, ValueAsked, LocationAsked, TargetAsked, AddressAsked, ArgumentAsked, ArgumentsAsked, OperationAsked}
use Rattle.address_bounds.specs.Rooms.{Reach, HasRoom}
use Rattle.address_bounds.specs.Reaches.{Needs, ArgumentReaches, ArgumentsReach, LinearReaches}
use Rattle.operation_premises.specs.Static.{RootStatic, PlaceStatic, ValueStatic, ArgumentStatic, ArgumentsStatic, TopStatic, LinearStatic}
use Rattle.address_invariant.specs.Extents.{LiesInside, extents_of}
use Rattle.address_invariant.specs.Reaching.{CallReaches}
use Rattle.address_invariant.proofs.Places.{place_lies}
use Rattle.address_invariant.proofs.Given.{located}
use Rattle.operation_premises.proofs.Loads.{value_live}
use Rattle.operation_premises.specs.Asked.{ValueLive, ArgumentLive, ArgumentsLive, OperationLive, IsInside, AllIsAsked}

root_asked : (p : Plan) (n : ℕ) (frame : Frame) (r : Root) (o : ℕ) → RootStatic p.unit (function p n) r o → RootAsked p n frame r o
root_asked p n frame (in_slot s) o h = h
root_asked p n frame (through s) o h = h
root_asked p n frame (in_global g) o h = h

value_asked : (p : Plan) (n : ℕ) (frame : Frame) (w : World) (v : Value) → ValueStatic p.unit (function p n) v → ValueLive p n frame w v → ValueAsked p n frame w v
value_asked p n frame w (number v) h live = h
value_asked p n frame w (load q) h live = (root_asked p n frame q.root q.offset h, live)
value_asked p n frame w (unary o v) h live = value_asked p n frame w v h live
value_asked p n frame w (binary o a b) h live = (value_asked p n frame w a h.0 live.0, λ x first more. value_asked p n frame w b h.1 (live.1 x first more))
value_asked p n frame w (call_value c args) h live = tt

module _ (p : Plan) (needs : Needs) (n : ℕ) (st : State) (inside : IsInside p needs n st) where
  -- bytes of ints behind a place
  lies : (q : Place) (size : ℕ) (a : Address) → HasRoom (needs n) (function p n).slots q size → locate (slot_kinds p n) st.top.frame q ≡ Some (in_memory a) → LiesInside (extents_of p) st.world a size
  lies q size a room e =
      place_lies (extents_of p) p.unit needs st.world (compiled n) st.top.frame inside.reaches.objects (subst (λ f. CallReaches (extents_of p) p.unit needs st.world f st.top.frame) inside.runs inside.reaches.calls.0) q size a room e

  address_asked : (q : Place) (size : ℕ) → PlaceStatic p.unit (function p n) q → HasRoom (needs n) (function p n).slots q size → AddressAsked p n st.top.frame q
  address_asked q size h room = (root_asked p n st.top.frame q.root q.offset h, within)
    where
      within : (b : Address) → address_of (slot_kinds p n) st.top.frame q ≡ Some b → b.offset ≤ p.size b.base
      within b e = let at = lies q size b room (located (locate (slot_kinds p n) st.top.frame q) b e) in omega (arith, at.within)

  -- a place in the frame is a slot that is no variable
  frame_asked : (r : Root) (o s : ℕ) → RootStatic p.unit (function p n) r o → locate (slot_kinds p n) st.top.frame (record { root = r; offset = o }) ≡ Some (in_frame s) → LocationAsked p n (in_frame s)
  frame_asked (in_slot t) o s h e = by (slot_kinds p n t) refl
    where
      here : (k : SlotKind) → slot_kinds p n t ≡ k → Some (slot_location k st.top.frame.call t o) ≡ Some (in_frame s)
      here k is = sym (ap (λ k. Some (slot_location k st.top.frame.call t o)) is) ∙ e

      slot : (k : SlotKind) → slot_kinds p n t ≡ k → is_variable k ≡ false → Some (in_frame t) ≡ Some (in_frame s) → LocationAsked p n (in_frame s)
      slot k is other same = let one : t ≡ s = cc same in subst (λ i. LocationAsked p n (in_frame i)) one (h.0, ap is_variable is ∙ other)

      by : (k : SlotKind) → slot_kinds p n t ≡ k → LocationAsked p n (in_frame s)
      by int_slot is = let none = here int_slot is in cc none
      by object_slot is = let none = here object_slot is in cc none
      by address_slot is = slot address_slot is refl (here address_slot is)
      by help_slot is = slot help_slot is refl (here help_slot is)
  frame_asked (through t) o s h e = by (address_in (st.top.frame.slots t)) refl
    where
      by : (x : Option Address) → address_in (st.top.frame.slots t) ≡ x → LocationAsked p n (in_frame s)
      by None is = let none = sym (ap (location_behind o) is) ∙ e in cc none
      by (Some a) is = let none = sym (ap (location_behind o) is) ∙ e in cc none
  frame_asked (in_global g) o s h e = cc e

  target_asked : (q : Place) → PlaceStatic p.unit (function p n) q → HasRoom (needs n) (function p n).slots q 4 → LiveAsked p st.top.frame q.root → TargetAsked p n st.top.frame q
  target_asked q h room live = (root_asked p n st.top.frame q.root q.offset h, at, live)
    where
      at : (l : Location) → locate (slot_kinds p n) st.top.frame q ≡ Some l → LocationAsked p n l
      at (in_memory a) e = let there = lies q 4 a room e in (there.ints, there.within, there.whole)
      at (in_frame s) e = frame_asked q.root q.offset s h e

  argument_asked : (a : Argument) (k : SlotKind) (size : ℕ) → ArgumentStatic p.unit (function p n) k a → ArgumentReaches needs (needs n) (function p n).slots size a → ArgumentLive p n st.top.frame st.world a → ArgumentAsked p n st.top.frame st.world a
  argument_asked (int_argument v) k size h room live = value_asked p n st.top.frame st.world v h.0 live
  argument_asked (address_argument q) k size h room live = address_asked q size h.0 room
  argument_asked (handler_argument m) k size h room live = absurd h

  arguments_asked : (kinds : Kinds) (wants : Reach) (i : ℕ) (args : Arguments) → ArgumentsStatic p.unit (function p n) kinds i args → ArgumentsReach needs (needs n) (function p n).slots wants i args →
      ArgumentsLive p n st.top.frame st.world args → ArgumentsAsked p n st.top.frame st.world args
  arguments_asked kinds wants i no_arguments h room live = tt
  arguments_asked kinds wants i (argument_then a args) h room live = (argument_asked a (kinds i) (wants i) h.0 room.0 live.0, arguments_asked kinds wants (i + 1) args h.1 room.1 live.1)

  top_asked : (v : Value) → TopStatic p.unit (function p n) v → ValueLive p n st.top.frame st.world v → ValueAsked p n st.top.frame st.world v
  top_asked (number v) h live = value_asked p n st.top.frame st.world (number v) h live
  top_asked (load q) h live = value_asked p n st.top.frame st.world (load q) h live
  top_asked (unary o v) h live = value_asked p n st.top.frame st.world (unary o v) h live
  top_asked (binary o a b) h live = value_asked p n st.top.frame st.world (binary o a b) h live
  top_asked (call_value c args) h live = tt

  operation_asked : (o : LinearOp) → LinearStatic p.unit (function p n) o → LinearReaches needs (needs n) (function p n).slots o → OperationLive p n st.top.frame st.world o → OperationAsked p n st.top.frame st.world o
  operation_asked (plain (store q v)) h room live = (top_asked v h.1 live.0, target_asked q h.0 room.0 live.1)
  operation_asked (plain (bind s q)) h room live = (address_asked q (needs n s) h.1 room, h.0.inside, h.0.plain, h.0.near)
  operation_asked (jump_zero v l) h room live = value_asked p n st.top.frame st.world v h live
  operation_asked (plain (evaluate v)) h room live = tt
  operation_asked (plain (call c args)) h room live = tt
  operation_asked (plain (construct q m args)) h room live = tt
  operation_asked (plain (destroy q m)) h room live = tt
  operation_asked (plain (make s)) h room live = tt
  operation_asked (plain (throw s t d)) h room live = tt
  operation_asked (plain rethrow) h room live = tt
  operation_asked (plain (enter s)) h room live = tt
  operation_asked (plain leave) h room live = tt
  operation_asked (label l) h room live = tt
  operation_asked (jump l) h room live = tt
  operation_asked (pad o s) h room live = tt
  operation_asked (jump_filter s z l) h room live = tt
  operation_asked (free s) h room live = tt
  operation_asked (resume s) h room live = tt
  operation_asked (unexpected o s) h room live = tt
  operation_asked (return r) h room live = tt

pub all_is_asked : AllIsAsked
all_is_asked = record {
  values = value_asked;
  loads = value_live;
  addresses = λ p needs n size st q inside h room. address_asked p needs n st inside q size h room;
  targets = λ p needs n st q inside h room live. target_asked p needs n st inside q h room live;
  arguments = λ p needs wants n i st kinds args inside h room live. arguments_asked p needs n st inside kinds wants i args h room live;
  operations = λ p needs n st o inside h room live. operation_asked p needs n st inside o h room live;
}
