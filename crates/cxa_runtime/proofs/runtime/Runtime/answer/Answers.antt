use Rattle.std.proofs.Common.{◌∙◌, ap, sym, [], option_and_then}
use Rattle.cxa_runtime.specs.Kept.{image_of, world_of}
use Rattle.cxa_runtime.specs.Unexpected.{answer_with, list_of}
use Rattle.cxa_runtime.proofs.runtime.Runtime.answer.Goals as goal

pub returns-in-None : goal.returns-in-None
returns-in-None c = λ t.
    let old = c.args.self.now in
    ap (option_and_then (answer_with (image_of t.read.fdes old) (world_of old [] []))) (sym c.in-None.is ∙ c.list_of.ensures.list ∙ ap list_of c.argument.ensures)

pub returns-in-Some : goal.returns-in-Some
returns-in-Some c = λ t.
    let old = c.args.self.now in
    c.answer_with.ensures t
    ∙ ap (option_and_then (answer_with (image_of t.read.fdes old) (world_of old [] []))) (sym c.in-Some.is ∙ c.list_of.ensures.list ∙ ap list_of c.argument.ensures)
