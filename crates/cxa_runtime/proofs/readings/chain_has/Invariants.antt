use Rattle.std.proofs.Common.{◌≡◌, length, []}
use Rattle.std.specs.List.{list_any}
use Rattle.table_forms.specs.Keys.{value_at}
use Rattle.cxa_runtime.specs.Unexpected.{is_list}
use Rattle.cxa_runtime.proofs.readings.chain_has.Given as goal

abbrev pub invariant-filters : goal.invariant-filters
invariant-filters l =
    list_any (is_list l.list) (value_at [] l.table.actions l.action) ≡ list_any (is_list l.list) l.chain

abbrev pub decreases-filters : goal.decreases-filters
decreases-filters l = length l.chain
