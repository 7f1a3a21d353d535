-- What live exceptions name as their destructors are functions of the unit that take an object alone.
use Rattle.std.proofs.Common.{◌≡◌, ◌∙◌, refl, ap, arith, ℕ, ◌+◌, ◌<◌, ◌==◌, ◌&&◌, nat_lt, true, List, [], ◌∷◌, ◌++◌, length, Some, if◌then◌else◌, sym}
use Rattle.std.proofs.lemmas.Bool.Decides.{nat_tests}
use Rattle.std.proofs.lemmas.List.{length-map, length-append}
use Rattle.region_forms.specs.Form.{Slot, SlotKind, int_slot, address_slot, object_slot, help_slot, kinds_of, kind_of, no_arguments, RegionFunction, Regions, function_at}
use Rattle.region_forms.specs.LowerProgram.{help}
use Rattle.region_forms.specs.World.{Address, address_word}
use Rattle.region_forms.specs.WellFormed.{holds_address, is_reference, slot_test, fit, count_of, call_test, destructor_test}
use Rattle.linear_forms.specs.Frame.{has_pad}
use Rattle.linear_forms.specs.Unit.{function_code, unit_of}
use Rattle.linear_forms.specs.UnitRun.{code_at}
use Rattle.machine_simulation.specs.Entering.{WordFits}
use Rattle.operation_premises.specs.Static.{ObjectStatic}
use Rattle.operation_premises.proofs.Operations.{unit_at}
use Rattle.operation_premises.proofs.Tests.{both_left, both_right, in_front}

reference_holds : (k : SlotKind) → is_reference k ≡ true → holds_address k ≡ true
reference_holds int_slot e = absurd (cc e)
reference_holds address_slot e = refl
reference_holds object_slot e = absurd (cc e)
reference_holds help_slot e = absurd (cc e)

pub destructor_there : (r : Regions) (d : ℕ) → destructor_test r (Some d) ≡ true → ObjectStatic (unit_of r) d
destructor_there r d e =
    let callee : RegionFunction = function_at r d in
    let call = both_left (call_test r d 1 no_arguments) (slot_test is_reference callee.slots 0) e in
    let counted = both_left (nat_lt d (length r.functions)) (1 + count_of no_arguments == callee.parameters && fit callee.slots 1 no_arguments) call in
    let less : d < length r.functions = grind (arith, nat_tests, counted) in
    let count : length (unit_of r).functions ≡ length r.functions = length-map r.functions function_code in
    let first = both_right (call_test r d 1 no_arguments) (slot_test is_reference callee.slots 0) e in
    let slots : code_at (unit_of r) d ≡ function_code callee = unit_at r d less in
    let pads : List Slot = if has_pad callee.body then help ∷ help ∷ help ∷ [] else [] in
    let there : 0 < length callee.slots = let t = both_left (nat_lt 0 (length callee.slots)) (is_reference (kinds_of callee.slots 0)) first in grind (arith, nat_tests, t) in
    let more = length-append callee.slots pads in
    let same : length (code_at (unit_of r) d).slots ≡ length (callee.slots ++ pads) = ap (λ g. length g.slots) slots in
    record {
      known = omega (arith, less, count);
      some = omega (arith, there, more, same);
      held = ap (λ g. holds_address (kinds_of g.slots 0)) slots ∙ ap (λ o. holds_address (kind_of o)) (in_front callee.slots pads 0 there)
          ∙ reference_holds (kinds_of callee.slots 0) (both_right (nat_lt 0 (length callee.slots)) (is_reference (kinds_of callee.slots 0)) first);
    }

pub destructor_alone : (r : Regions) (d : ℕ) → destructor_test r (Some d) ≡ true → 1 ≡ (code_at (unit_of r) d).parameters
destructor_alone r d e =
    let callee : RegionFunction = function_at r d in
    let call = both_left (call_test r d 1 no_arguments) (slot_test is_reference callee.slots 0) e in
    let counted = both_left (nat_lt d (length r.functions)) (1 + count_of no_arguments == callee.parameters && fit callee.slots 1 no_arguments) call in
    let less : d < length r.functions = grind (arith, nat_tests, counted) in
    let rest = both_right (nat_lt d (length r.functions)) (1 + count_of no_arguments == callee.parameters && fit callee.slots 1 no_arguments) call in
    let count : 1 ≡ callee.parameters = let x = both_left (1 + count_of no_arguments == callee.parameters) (fit callee.slots 1 no_arguments) rest in grind (arith, nat_tests, x) in
    count ∙ sym (ap (λ g. g.parameters) (unit_at r d less))

-- the object's address goes to such a slot
pub object_fits : (k : SlotKind) (b : Address) → holds_address k ≡ true → WordFits k (address_word b)
object_fits address_slot b h = tt
object_fits help_slot b h = tt
object_fits int_slot b h = absurd (cc h)
object_fits object_slot b h = absurd (cc h)
