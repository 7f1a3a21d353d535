use Rattle.std.specs.Prelude.{codes}
use Rattle.image_doubts.specs.Doubts.{pad_words, site_words}
use Rattle.image_doubts.proofs.Lines.{four}
use Rattle.image_doubts.proofs.line.put_inside_text.Goals as goal

pub returns : goal.returns
returns c =
    four c.args.out.now.items (codes "pad inside an instruction: site ") (site_words c.args.region c.args.site) (pad_words c.args.site) (codes "\n")
    c.put_text.new.out.items c.put_site.new.out.items c.put_pad.new.out.items c.put_text-2.new.out.items c.in_ok-put_text.ensures c.in_ok-put_site.ensures c.in_ok-put_pad.ensures c.in_ok-put_text-2.ensures
