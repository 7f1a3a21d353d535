use Rattle.std.proofs.Common.{◌≡◌, ◌++◌, map, replicate}
use Rattle.region_forms.specs.LowerProgram.{help}
use Rattle.region_ir.specs.View.{slot_of}
use Rattle.region_ir.proofs.slots.with_help.Given as goal

abbrev pub invariant-loop : goal.invariant-loop
invariant-loop l = map slot_of l.slots.items ≡ map slot_of l.initial.slots.items ++ replicate l.counter help
