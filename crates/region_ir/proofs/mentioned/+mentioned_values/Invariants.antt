use Rattle.std.proofs.Common.{◌≡◌, drop}
use Rattle.std.specs.Prelude.{max}
use Rattle.region_forms.specs.Mentioned.{slots_of_arguments}
use Rattle.region_ir.specs.View.{arguments_of}
use Rattle.region_ir.proofs.mentioned.+mentioned_values.Given as goal

-- the greatest of the slots so far and of those that are left
abbrev pub invariant-slots_of_arguments-loop-argument : goal.invariant-slots_of_arguments-loop-argument
invariant-slots_of_arguments-loop-argument l =
    max l.slots (slots_of_arguments (arguments_of (drop l.argument-index l.arguments))) ≡ slots_of_arguments (arguments_of l.arguments)
