use Rattle.std.proofs.Common.{◌≡◌, ◌++◌, map, take}
use Rattle.class_layout.specs.View.{laid_out}
use Rattle.region_forms.specs.LowerProgram.{own_slots, slot_for}
use Rattle.region_ir.specs.Variables.{type_in}
use Rattle.region_ir.specs.View.{slot_of}
use Rattle.region_ir.proofs.slots.named_slots.Given as goal

abbrev pub invariant-loop-variable : goal.invariant-loop-variable
invariant-loop-variable l =
    map slot_of l.slots.items ≡ own_slots l.is_member ++ map (slot_for (laid_out l.layout)) (map type_in (take l.variable-index l.variables))
