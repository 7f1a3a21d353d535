-- Filters by what they name.
use Rattle.std.specs.Prelude.{ℤ, pos, negsuc, ◌<◌, ⊤}
use Rattle.std.specs.Prelude.{◌^◌}
use Rattle.table_forms.specs.declared.found.Next.{Next}
use Rattle.table_forms.specs.declared.found.Next.TheVariants.{Ends, Leaves, Goes}
use Rattle.table_forms.specs.declared.found.Action.{Action}
use Rattle.table_forms.specs.declared.found.Action.TheVariants.{Record, Outside, Ranged}
use Rattle.lsda_read.specs.declared.filter.Named.{Named}
use Rattle.lsda_read.specs.declared.filter.Named.TheVariants.{Cleanup, Entry, List}

abbrev pub filter_of : Named → ℤ
filter_of Cleanup = pos 0
filter_of (Entry i) = pos i
filter_of (List n) = negsuc n

-- entries count from 1
abbrev pub IsInRange : Named → Type 0
IsInRange Cleanup = ⊤
IsInRange (Entry i) = 0 < i
IsInRange (List n) = ⊤

-- a chain goes on within reach of the numbers that the reader holds
abbrev pub IsNear : Next → Type 0
IsNear Ends = ⊤
IsNear Leaves = ⊤
IsNear (Goes p) = p < 2 ^ 65

abbrev pub IsNearAction : Action → Type 0
IsNearAction (Record f next) = IsNear next
IsNearAction Outside = ⊤
IsNearAction (Ranged p) = p < 2 ^ 66
