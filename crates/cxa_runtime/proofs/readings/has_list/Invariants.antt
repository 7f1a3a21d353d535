use Rattle.std.proofs.Common.{◌≡◌, length}
use Rattle.std.specs.List.{AllByRecursion, list_any}
use Rattle.table_forms.specs.Verdict.{filters_at}
use Rattle.cxa_runtime.specs.Unexpected.{has_list, is_list}
use Rattle.cxa_runtime.proofs.Listed.{NamesIts}
use Rattle.cxa_runtime.proofs.readings.has_list.Given as goal

abbrev pub invariant-sites : goal.invariant-sites
invariant-sites l =
    (has_list l.list l.table ≡ list_any (λ s. list_any (is_list l.list) (filters_at l.table s.action)) l.sites) × AllByRecursion (NamesIts l.table) l.sites

abbrev pub decreases-sites : goal.decreases-sites
decreases-sites l = length l.sites
