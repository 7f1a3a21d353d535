use Rattle.std.proofs.Common.{◌∙◌}
use Rattle.eh_bytes.specs.Memory.{memory_of, part_of}
use Rattle.lsda_read.specs.Heads.{head_seen}
use Rattle.lsda_read.proofs.Kept.{list_kept, list_positive}
use Rattle.lsda_read.proofs.lsda.Lsda.spec_list.Goals as goal

pub returns : goal.returns
returns c =
    let t = c.self.inside in
    λ named. c.named.ensures (list_positive c.args.self.now c.args.j named) ∙ list_kept (memory_of t.memory.now) (part_of t.segment.now) t.region (head_seen t.head) c.args.self.now c.args.j c.self.view_is named
