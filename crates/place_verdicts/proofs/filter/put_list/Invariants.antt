use Rattle.std.proofs.Common.{◌≡◌, ◌++◌, [], length}
use Rattle.std.specs.Prelude.{Contains, flat_map}
use Rattle.std.specs.List.{AllByRecursion}
use Rattle.lsda_read.specs.Names.{types_named}
use Rattle.table_forms.specs.Keys.{value_at}
use Rattle.place_verdicts.specs.Filters.{entry_text}
use Rattle.place_verdicts.proofs.filter.put_list.Given as goal

abbrev pub invariant-indices : goal.invariant-indices
invariant-indices l =
    (l.initial.out.items ++ flat_map (entry_text l.table) (value_at [] l.table.lists l.list) ≡ l.out.items ++ flat_map (entry_text l.table) l.indices) ×
    AllByRecursion (Contains (types_named l.table)) l.indices

abbrev pub decreases-indices : goal.decreases-indices
decreases-indices l = length l.indices
