use Rattle.std.proofs.Common.{◌≡◌, ◌++◌, [], length}
use Rattle.std.specs.Prelude.{flat_map}
use Rattle.std.specs.List.{AllByRecursion}
use Rattle.table_forms.specs.Keys.{value_at}
use Rattle.personality.specs.Seen.{thrown_of}
use Rattle.personality.specs.Named.{FilterIsNamed}
use Rattle.place_verdicts.specs.Filters.{filter_line}
use Rattle.place_verdicts.proofs.site.put_chain.Given as goal

abbrev pub invariant-filters : goal.invariant-filters
invariant-filters l =
    (l.initial.out.items ++ flat_map (filter_line l.table (thrown_of l.thrown)) (value_at [] l.table.actions l.action) ≡
    l.out.items ++ flat_map (filter_line l.table (thrown_of l.thrown)) l.chain) ×
    AllByRecursion (FilterIsNamed l.table) l.chain

abbrev pub decreases-filters : goal.decreases-filters
decreases-filters l = length l.chain
