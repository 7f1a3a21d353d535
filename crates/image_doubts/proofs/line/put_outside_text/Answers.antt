use Rattle.std.specs.Prelude.{codes}
use Rattle.image_doubts.specs.Doubts.{home_words, pad_words, site_words}
use Rattle.image_doubts.proofs.Lines.{four}
use Rattle.image_doubts.proofs.line.put_outside_text.Goals as goal

pub returns : goal.returns
returns c =
    four c.args.out.now.items (codes "pad in another function: site ") (site_words c.args.region c.args.site) (pad_words c.args.site) (home_words c.args.home)
    c.put_text.new.out.items c.put_site.new.out.items c.put_pad.new.out.items c.put_home.new.out.items c.in_ok-put_text.ensures c.in_ok-put_site.ensures c.in_ok-put_pad.ensures c.in_ok-put_home.ensures
