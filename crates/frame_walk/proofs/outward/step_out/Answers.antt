use Rattle.std.proofs.Common.{ap, sym, ◌∙◌}
use Rattle.frame_walk.proofs.Nexts.{by_row, next_by_row}
use Rattle.frame_walk.proofs.outward.step_out.Goals as goal

pub returns-in-None : goal.returns-in-None
returns-in-None c = λ header read reads lists.
    let m = c.args.machine.now in let fr = c.args.frame.now in
    sym (next_by_row m read.fdes fr ∙ ap (by_row m fr) (sym (c.in-None.ensures header read reads lists)))

pub returns-in-Some : goal.returns-in-Some
returns-in-Some c = λ header read reads lists.
    let m = c.args.machine.now in let fr = c.args.frame.now in
    c.step_by.ensures ∙ sym (next_by_row m read.fdes fr ∙ ap (by_row m fr) (sym (c.in-Some.ensures header read reads lists)))
