use Rattle.eh_bytes.specs.Memory.{memory_of, part_of}
use Rattle.table_forms.specs.Seen.{fault_of}
use Rattle.lsda_read.specs.Heads.{head_seen}
use Rattle.lsda_read.proofs.Fits.{sites_fit}
use Rattle.lsda_read.proofs.KnownHead.{has_head, no_faults, table_known}
use Rattle.lsda_read.proofs.lsda.known_in.Goals as goal

pub unreachable-requires : goal.unreachable-requires
unreachable-requires c =
    has_head (memory_of c.args.memory.now) c.args.region c.args.place (part_of c.args.segment.now) (fault_of c.in-Err.field-0) c.requires.known c.in-Err.ensures.reads

pub invariant_of-result : goal.invariant_of-result
invariant_of-result c = (
  c.in-Ok.ensures.inside,
  sites_fit c.args.memory.now.parts.items (part_of c.args.segment.now) c.args.region (head_seen c.in-Ok.head) c.args.memory.now.in_range c.requires.region
      (no_faults (memory_of c.args.memory.now) c.args.region c.args.place (part_of c.args.segment.now) (head_seen c.in-Ok.head) c.requires.known c.in-Ok.ensures.reads),
)

pub returns : goal.returns
returns c =
    table_known (memory_of c.args.memory.now) c.args.region c.args.place (part_of c.args.segment.now) (head_seen c.in-Ok.head) c.requires.known c.in-Ok.ensures.reads
