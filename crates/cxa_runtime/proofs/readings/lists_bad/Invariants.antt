use Rattle.std.proofs.Common.{◌≡◌, ◌==◌, length}
use Rattle.std.specs.Prelude.{Contains}
use Rattle.std.specs.List.{AllByRecursion, list_any}
use Rattle.lsda_read.specs.Names.{types_named}
use Rattle.table_forms.specs.Keys.{value_at}
use Rattle.cxa_runtime.specs.Unexpected.{lists_bad}
use Rattle.cxa_runtime.proofs.readings.lists_bad.Given as goal

abbrev pub invariant-indices : goal.invariant-indices
invariant-indices l =
    (lists_bad l.table l.list l.bad_exception ≡ list_any (λ i. value_at 0 l.table.types i == l.bad_exception) l.indices) ×
    AllByRecursion (Contains (types_named l.table)) l.indices

abbrev pub decreases-indices : goal.decreases-indices
decreases-indices l = length l.indices
