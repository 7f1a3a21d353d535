-- Plans go on with calls and with exceptions that are made.
use Rattle.std.proofs.Common.{◌≡◌, ◌≢◌, ◌∙◌, refl, sym, ap, subst, arith, ℕ, zero, suc, ◌+◌, ◌<◌, ◌≤◌, List, [], ◌∷◌, length, take, Some}
use Rattle.std.specs.Prelude.{◌==◌, Bool, true, false, slice_get, if◌then◌else◌}
use Rattle.std.proofs.lemmas.Bool.Decides.{nat_tests}
use Rattle.region_forms.specs.Form.{Slot, kind_of}
use Rattle.region_forms.specs.World.{Base, of_global, of_variable, of_exception, World}
use Rattle.region_forms.specs.WellFormed.{is_variable}
use Rattle.linear_forms.specs.Linear.{UnitCode}
use Rattle.linear_forms.specs.Frame.{slot_bytes}
use Rattle.linear_forms.specs.Stub.{compiled}
use Rattle.linear_forms.specs.Activation.{State}
use Rattle.machine_simulation.specs.Plan.{Plan, function, shape}
use Rattle.machine_simulation.specs.Calls.{IsBegun}
use Rattle.machine_simulation.specs.Matches.{FrameIs}
use Rattle.machine_simulation.specs.Entering.{opened, slot_room}
use Rattle.machine_simulation.proofs.Opening.{many, begun_is_old, new_slot, old_base}
use Rattle.machine_simulation.specs.Objects.{is_object, with_object}
use Rattle.address_bounds.specs.Reaches.{exception_bytes}
use Rattle.address_invariant.specs.Extents.{Extents, extents_of}
use Rattle.address_invariant.specs.Reaching.{VariablesLie, ObjectsReach}
use Rattle.address_invariant.specs.Laws.{GoesOn}
use Rattle.address_invariant.specs.Plans.{PlansGoOn}

-- a slot that is there is one of so many
inside : (slots : List Slot) (s : ℕ) (slot : Slot) → slice_get slots s ≡ Some slot → s < length slots
inside [] zero slot e = cc e
inside [] (suc s) slot e = cc e
inside (y ∷ slots) zero slot e = omega arith
inside (y ∷ slots) (suc s) slot e = omega (arith, inside slots s slot e)

-- and has room for its bytes
has_bytes : (slots : List Slot) (s : ℕ) (slot : Slot) → slice_get slots s ≡ Some slot → slot_bytes (take s slots) + slot.size ≤ slot_bytes (take (suc s) slots)
has_bytes [] zero slot e = cc e
has_bytes [] (suc s) slot e = cc e
has_bytes (y ∷ slots) zero slot e = let same : y ≡ slot = cc e in omega (arith, ap (λ (x : Slot). x.size) same)
has_bytes (y ∷ slots) (suc s) slot e = omega (arith, has_bytes slots s slot e)

-- ---- a call begins

module _ (p : Plan) (m stack : ℕ) (v : World) (next : State) (frame : FrameIs (function p m)) (objects : ObjectsReach (extents_of p) v) where
  abbrev q : Plan
  q = opened p m v.calls stack

  old : (b : Base) → IsBegun v b → (q.ints b ≡ p.ints b) × (q.size b ≡ p.size b)
  old b begun =
      let same = old_base p m v.calls stack b (begun_is_old v.calls (many p m) v b (omega arith) begun) in (same.ints, same.size)

  -- its variables
  variables : VariablesLie (extents_of q) p.unit (compiled m) v.calls
  variables s slot there is =
      let new = new_slot p m v.calls stack s (inside (function p m).slots s slot there) in
      let count : s + 1 ≡ suc s = omega arith in
      let next = ap (λ k. slot_bytes (take k (function p m).slots)) count in
      let room : slot.size ≤ slot_room (shape p m) s = omega (arith, next, has_bytes (function p m).slots s slot there) in
      (new.ints ∙ ap (λ t. is_variable (kind_of t)) there ∙ is, omega (arith, room, new.size))

  called_objects : next.world.last_number ≡ v.last_number → ObjectsReach (extents_of q) next.world
  called_objects number = record {
    globals = λ g. let same = old (of_global g) tt in let lies = objects.globals g in (same.0 ∙ lies.0, omega (arith, same.1, lies.1));
    exceptions = λ e made.
        let earlier : e ≤ v.last_number = omega (arith, made, number) in
        let same = old (of_exception e) earlier in
        let lies = objects.exceptions e earlier in (same.0 ∙ lies.0, same.1 ∙ lies.1);
  }

  called_goes_on : next.world.last_number ≡ v.last_number → next.top.function ≡ compiled m → GoesOn (extents_of p) (extents_of q) p.unit v next
  called_goes_on number is = record {
    same = old;
    objects = called_objects number;
    opened = λ call. subst (λ f. VariablesLie (extents_of q) p.unit f next.top.frame.call) (sym is) (subst (λ c. VariablesLie (extents_of q) p.unit (compiled m) c) (sym call) variables);
  }

-- ---- an exception is made

module _ (p : Plan) (slot : ℕ) (v : World) (next : State) (objects : ObjectsReach (extents_of p) v) where
  abbrev with_one : Plan
  with_one = with_object p (v.last_number + 1) slot

  other : (b : Base) → IsBegun v b → is_object (v.last_number + 1) b ≡ false
  other (of_global g) begun = refl
  other (of_variable c s) begun = refl
  other (of_exception e) begun = grind (arith, nat_tests, begun)

  kept : (b : Base) → IsBegun v b → (with_one.ints b ≡ p.ints b) × (with_one.size b ≡ p.size b)
  kept b begun =
      let e = other b begun in
      (ap (λ t. if t then true else p.ints b) e, ap (λ t. if t then 0x1000 else p.size b) e)

  exception_lies : (e : ℕ) → e ≤ v.last_number + 1 → (t : Bool) → (v.last_number + 1 == e) ≡ t → (with_one.ints (of_exception e) ≡ true) × (with_one.size (of_exception e) ≡ exception_bytes)
  exception_lies e made true is = (ap (λ t. if t then true else p.ints (of_exception e)) is, ap (λ t. if t then 0x1000 else p.size (of_exception e)) is)
  exception_lies e made false is =
      let earlier : e ≤ v.last_number = grind (arith, nat_tests, made, is) in
      let same = kept (of_exception e) earlier in
      let lies = objects.exceptions e earlier in (same.0 ∙ lies.0, same.1 ∙ lies.1)

  made_goes_on : next.world.last_number ≡ v.last_number + 1 → next.top.frame.call ≢ v.calls → GoesOn (extents_of p) (extents_of with_one) p.unit v next
  made_goes_on number call = record {
    same = kept;
    objects = record {
      globals = λ g. let same = kept (of_global g) tt in let lies = objects.globals g in (same.0 ∙ lies.0, omega (arith, same.1, lies.1));
      exceptions = λ e made. exception_lies e (omega (arith, made, number)) (v.last_number + 1 == e) refl;
    };
    opened = λ is. absurd (call is);
  }

-- ---- nothing begins

same_goes_on : (x y : Extents) (u : UnitCode) (v : World) (next : State) → y ≡ x → ObjectsReach x v → next.world.last_number ≤ v.last_number → next.top.frame.call ≢ v.calls → GoesOn x y u v next
same_goes_on x y u v next is objects number call =
    subst (λ z. GoesOn x z u v next) (sym is) (record {
      same = λ b begun. (refl, refl);
      objects = record { globals = objects.globals; exceptions = λ e made. objects.exceptions e (omega (arith, made, number)) };
      opened = λ same. absurd (call same);
    })

pub plans_go_on : PlansGoOn
plans_go_on = record {
  called = λ p m stack v next frame objects number is. called_goes_on p m stack v next frame objects number is;
  made = λ p slot v next objects number call. made_goes_on p slot v next objects number call;
  same = λ p q v next is objects number call. same_goes_on (extents_of p) (extents_of q) p.unit v next is objects number call;
}
