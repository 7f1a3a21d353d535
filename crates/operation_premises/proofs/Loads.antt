-- A value that is defined loads from what is live.
use Rattle.std.proofs.Common.{◌≡◌, ◌∙◌, refl, sym, ap, ℕ, Option, Some, None}
use Rattle.std.specs.Prelude.{ℤ, Bool, true, false, is_some, if◌then◌else◌}
use Rattle.meaning_forms.specs.Arithmetic.{decided}
use Rattle.region_forms.specs.Form.{Root, in_slot, through, in_global, Value, number, load, unary, binary, call_value}
use Rattle.region_forms.specs.World.{of_exception, Address, behind, Frame, World}
use Rattle.region_forms.specs.Lives.{is_live}
use Rattle.region_forms.specs.Evaluation.{with_some, with_right, location_behind, root_location, read_location, unary_result, binary_result, value_in}
use Rattle.machine_simulation.specs.Plan.{Plan, slot_kinds}
use Rattle.machine_simulation.specs.Exceptions.{PlanHas}
use Rattle.machine_simulation.specs.Asked.{LiveAsked}
use Rattle.machine_simulation.proofs.LiveThere.{live_there}
use Rattle.operation_premises.specs.Asked.{ValueLive}

-- what has a result
some_first : {A B : Type 0} (o : Option A) (next : A → Option B) (z : B) → with_some o next ≡ Some z → (x : A) × (o ≡ Some x) × (next x ≡ Some z)
some_first None next z e = cc e
some_first (Some x) next z e = (x, refl, e)

module _ (p : Plan) (n : ℕ) (frame : Frame) (w : World) (has : PlanHas p w.live) where
  live_exception : (e : ℕ) → is_live w e ≡ true → p.live (of_exception e) ≡ true
  live_exception e live = has.live e ∙ ap is_some (live_there w.live e live)

  there_only : (b : Bool) (value : Option ℤ) (z : ℤ) → (if b then value else None) ≡ Some z → b ≡ true
  there_only true value z e = refl
  there_only false value z e = cc e

  root_live : (r : Root) (o : ℕ) (z : ℤ) → with_some (root_location (slot_kinds p n) frame r o) (read_location frame w) ≡ Some z → LiveAsked p frame r
  root_live (in_slot s) o z e = tt
  root_live (in_global g) o z e = tt
  root_live (through s) o z e = λ d k holds.
      let a : Address = record { base = of_exception d; offset = k } in
      let reads = ap (λ t. with_some (location_behind o t) (read_location frame w)) holds in
      live_exception d (there_only (is_live w d) (w.memory (behind a o)) z (sym reads ∙ e))

  value_lives : (v : Value) (z : ℤ) → value_in (slot_kinds p n) frame w v ≡ Some z → ValueLive p n frame w v
  value_lives (number k) z e = tt
  value_lives (load q) z e = root_live q.root q.offset z e
  value_lives (unary o v) z e = let first = some_first (value_in (slot_kinds p n) frame w v) (unary_result o) z e in value_lives v first.0 first.1
  value_lives (binary o a b) z e =
      let first = some_first (value_in (slot_kinds p n) frame w a) (λ x. with_right o x (decided o x) (value_in (slot_kinds p n) frame w b)) z e in
      (value_lives a first.0 first.1, right (value_lives b) first.0 first.1 first.2)
    where
      right : ((y : ℤ) → value_in (slot_kinds p n) frame w b ≡ Some y → ValueLive p n frame w b) → (y : ℤ) → value_in (slot_kinds p n) frame w a ≡ Some y →
          with_right o y (decided o y) (value_in (slot_kinds p n) frame w b) ≡ Some z → (x : ℤ) → value_in (slot_kinds p n) frame w a ≡ Some x → decided o x ≡ None → ValueLive p n frame w b
      right later y is result x same more =
          let both : Some y ≡ Some x = sym is ∙ same in
          let one : y ≡ x = cc both in
          let none : decided o y ≡ None = ap (decided o) one ∙ more in
          let evaluated : with_some (value_in (slot_kinds p n) frame w b) (binary_result o y) ≡ Some z = sym (ap (λ t. with_right o y t (value_in (slot_kinds p n) frame w b)) none) ∙ result in
          let second = some_first (value_in (slot_kinds p n) frame w b) (binary_result o y) z evaluated in
          later second.0 second.1
  value_lives (call_value c args) z e = tt

pub value_live : (p : Plan) (n : ℕ) (frame : Frame) (w : World) (v : Value) (z : ℤ) → PlanHas p w.live → value_in (slot_kinds p n) frame w v ≡ Some z → ValueLive p n frame w v
value_live p n frame w v z has e = value_lives p n frame w has v z e
