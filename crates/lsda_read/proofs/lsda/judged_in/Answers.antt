use Rattle.std.proofs.Common.{option_map, ap, sym, ◌∙◌}
use Rattle.table_forms.specs.Seen.{fault_of}
use Rattle.eh_bytes.specs.Memory.{part_of}
use Rattle.lsda_read.specs.Heads.{head_seen}
use Rattle.lsda_read.proofs.Fits.{sites_fit}
use Rattle.lsda_read.proofs.lsda.judged_in.Goals as goal

pub invariant_of-result : goal.invariant_of-result
invariant_of-result c = (
  c.in-Ok.ensures.inside,
  sites_fit c.args.memory.now.parts.items (part_of c.args.segment.now) c.args.region (head_seen c.in-Ok.head) c.args.memory.now.in_range c.requires.region
      (sym c.in_ok-e.ensures ∙ ap (option_map fault_of) c.in-None.is),
)
