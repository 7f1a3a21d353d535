use Rattle.std.proofs.Common.{◌≡◌, map, take}
use Rattle.region_ir.specs.View.{argument_of}
use Rattle.landing_pads.proofs.copied.+copies.Given as goal

abbrev pub invariant-arguments_copied-loop-argument : goal.invariant-arguments_copied-loop-argument
invariant-arguments_copied-loop-argument l = map argument_of l.copied.items ≡ map argument_of (take l.argument-index l.arguments)
