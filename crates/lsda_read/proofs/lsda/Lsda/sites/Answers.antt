use Rattle.std.proofs.Common.{◌∙◌}
use Rattle.eh_bytes.specs.Memory.{memory_of, part_of}
use Rattle.lsda_read.specs.Heads.{head_seen}
use Rattle.lsda_read.proofs.Kept.{sites_kept}
use Rattle.lsda_read.proofs.lsda.Lsda.sites.Goals as goal

pub returns : goal.returns
returns c =
    let t = c.self.inside in
    c.of.ensures ∙ sites_kept (memory_of t.memory.now) (part_of t.segment.now) t.region (head_seen t.head) c.args.self.now c.self.view_is
