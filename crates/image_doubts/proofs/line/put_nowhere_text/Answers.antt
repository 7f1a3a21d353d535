use Rattle.std.specs.Prelude.{codes}
use Rattle.image_doubts.specs.Doubts.{type_words}
use Rattle.image_doubts.proofs.Lines.{two}
use Rattle.image_doubts.proofs.line.put_nowhere_text.Goals as goal

pub returns : goal.returns
returns c =
    two c.args.out.now.items (codes "type outside of memory: type ") (type_words c.args.region c.args.index c.args.entry)
    c.put_text.new.out.items c.put_type.new.out.items c.in_ok-put_text.ensures c.in_ok-put_type.ensures
