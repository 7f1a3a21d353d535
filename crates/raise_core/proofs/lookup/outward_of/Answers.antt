use Rattle.std.proofs.Common.{ap, sym, ◌∙◌}
use Rattle.std.specs.Prelude.{option_map}
use Rattle.frame_walk.specs.Located.{located_seen}
use Rattle.frame_walk.proofs.Nexts.{by_row, next_by_row}
use Rattle.raise_core.proofs.lookup.outward_of.Goals as goal

pub returns-in-None : goal.returns-in-None
returns-in-None c = λ fdes is.
    let m = c.args.machine.now in let f = c.args.frame.now in
    sym (next_by_row m fdes f ∙ ap (by_row m f) (sym is ∙ ap (option_map located_seen) c.in-None.is))

pub returns-in-Some : goal.returns-in-Some
returns-in-Some c = λ fdes is.
    let m = c.args.machine.now in let f = c.args.frame.now in
    c.step_by.ensures ∙ sym (next_by_row m fdes f ∙ ap (by_row m f) (sym is ∙ ap (option_map located_seen) c.in-Some.is))
