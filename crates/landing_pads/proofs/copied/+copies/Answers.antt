use Rattle.std.proofs.Common.{◌∙◌, map, ap}
use Rattle.std.proofs.lemmas.List.{take_all}
use Rattle.region_ir.specs.View.{argument_of}
use Rattle.landing_pads.proofs.Listed.{same_arguments}
use Rattle.landing_pads.proofs.copied.+copies.Goals as goal

pub arguments_copied-returns : goal.arguments_copied-returns
arguments_copied-returns t c =
    let all = c.args.arguments.now in
    same_arguments c.loop-argument.copied.items all
    (c.loop-argument.invariant ∙ ap (map argument_of) (take_all c.loop-argument.argument-index all c.loop-argument-test.false))
