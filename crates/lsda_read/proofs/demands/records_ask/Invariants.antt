use Rattle.std.proofs.Common.{◌+◌, ◌-◌, ◌≤◌, length, vec_len}
use Rattle.table_forms.specs.LsdaSites.{records_within}
use Rattle.lsda_read.specs.Heads.{head_seen}
use Rattle.lsda_read.proofs.Asking.{Asking}
use Rattle.lsda_read.proofs.demands.records_ask.Given as goal

abbrev pub invariant-records : goal.invariant-records
invariant-records l =
    (l.place ≤ length l.bytes) ×
    Asking (records_within (1 + vec_len l.segment.bytes) l.bytes l.segment.file_at (head_seen l.head) l.head.sites_at).records l.bytes l.segment.file_at (head_seen l.head)
    (vec_len l.segment.bytes) l.moves l.reach l.pads.items l.place

abbrev pub decreases-records : goal.decreases-records
decreases-records l = length l.bytes - l.place
