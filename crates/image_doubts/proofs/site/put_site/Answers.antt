use Rattle.std.proofs.Common.{◌++◌, ◌∙◌, ap}
use Rattle.image_doubts.specs.Doubts.{cut_line, empty_line, home_of, inside_line, outside_line}
use Rattle.image_doubts.proofs.Lines.{four}
use Rattle.image_doubts.proofs.site.put_site.Goals as goal

pub returns : goal.returns
returns c = λ i is.
    let region = c.args.region in let marks = c.args.marks.now in let s = c.args.site in
    four c.args.out.now.items (empty_line region s) (cut_line region marks s) (inside_line region marks s) (outside_line region s (home_of i.functions s.pad))
    c.put_empty.new.out.items c.put_cut.new.out.items c.put_inside.new.out.items c.put_outside.new.out.items c.in_ok-put_empty.ensures c.in_ok-put_cut.ensures c.in_ok-put_inside.ensures
    (c.in_ok-put_outside.ensures ∙ ap (λ home. c.put_inside.new.out.items ++ outside_line region s home) (c.home_of-home.ensures i is))
