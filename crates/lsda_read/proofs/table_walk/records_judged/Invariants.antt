use Rattle.std.specs.Ordering.{nat_cmp}
use Rattle.std.specs.BTreeMap.{get}
use Rattle.std.proofs.Common.{◌+◌, ◌-◌, ◌≤◌, ◌<◌, ◌^◌, option_map, length, vec_len}
use Rattle.eh_bytes.specs.Memory.{part_of, memory_of}
use Rattle.table_forms.specs.Seen.{fault_of}
use Rattle.lsda_read.specs.Heads.{head_seen}
use Rattle.lsda_read.specs.SiteRests.{site_rest}
use Rattle.lsda_read.specs.Known.{IsKnown}
use Rattle.lsda_read.specs.KnownLists.{AreListsKnown}
use Rattle.lsda_read.proofs.OnWay.{OnWay}
use Rattle.lsda_read.proofs.table_walk.records_judged.Given as goal

abbrev pub invariant-records : goal.invariant-records
invariant-records l =
    (l.place ≤ length l.bytes) × (l.before < 2 ^ 66) ×
    OnWay (site_rest (memory_of l.memory) (part_of l.segment) l.region (head_seen l.head) l.bytes l.before) (vec_len l.segment.bytes)
    (site_rest (memory_of l.memory) (part_of l.segment) l.region (head_seen l.head) l.bytes 0 (1 + vec_len l.segment.bytes) l.head.sites_at)
    (option_map fault_of l.known.least) l.place ×
    IsKnown (memory_of l.memory) (part_of l.segment) (head_seen l.head) (option_map fault_of l.known.least) (get nat_cmp l.known.chains) ×
    AreListsKnown (memory_of l.memory) (part_of l.segment) (head_seen l.head) (option_map fault_of l.known.least) (get nat_cmp l.known.lists)

abbrev pub decreases-records : goal.decreases-records
decreases-records l = length l.bytes - l.place
