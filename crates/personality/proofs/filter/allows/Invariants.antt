use Rattle.std.proofs.Common.{◌≡◌, length}
use Rattle.std.specs.Prelude.{Contains}
use Rattle.std.specs.List.{AllByRecursion, list_any}
use Rattle.lsda_read.specs.Names.{types_named}
use Rattle.table_forms.specs.Keys.{value_at}
use Rattle.table_forms.specs.Verdict.{allows, matches}
use Rattle.personality.specs.Seen.{thrown_of}
use Rattle.personality.proofs.filter.allows.Given as goal

abbrev pub invariant-indices : goal.invariant-indices
invariant-indices l =
    (allows l.table (thrown_of l.thrown) l.list ≡ list_any (λ i. matches (thrown_of l.thrown) (value_at 0 l.table.types i)) l.indices) ×
    AllByRecursion (Contains (types_named l.table)) l.indices

abbrev pub decreases-indices : goal.decreases-indices
decreases-indices l = length l.indices
