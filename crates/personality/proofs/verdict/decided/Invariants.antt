use Rattle.std.proofs.Common.{◌≡◌, false, [], length}
use Rattle.std.specs.List.{AllByRecursion}
use Rattle.table_forms.specs.Keys.{value_at}
use Rattle.personality.specs.Seen.{thrown_of}
use Rattle.personality.specs.Named.{FilterIsNamed}
use Rattle.personality.specs.Decided.{decided_by}
use Rattle.personality.proofs.verdict.decided.Given as goal

abbrev pub invariant-filters : goal.invariant-filters
invariant-filters l =
    (decided_by l.table (thrown_of l.thrown) l.pad false (value_at [] l.table.actions l.action) ≡ decided_by l.table (thrown_of l.thrown) l.pad l.cleanup l.chain) ×
    AllByRecursion (FilterIsNamed l.table) l.chain

abbrev pub decreases-filters : goal.decreases-filters
decreases-filters l = length l.chain
