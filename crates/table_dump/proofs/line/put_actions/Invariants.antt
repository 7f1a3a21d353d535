use Rattle.std.proofs.Common.{◌≡◌, ◌++◌, length}
use Rattle.std.specs.Prelude.{flat_map, Contains}
use Rattle.std.specs.List.{AllByRecursion}
use Rattle.lsda_read.specs.Names.{actions_named}
use Rattle.table_dump.specs.Tables.{action_line}
use Rattle.lsda_read.specs.WholeTable.{filters_at}
use Rattle.table_dump.proofs.line.put_actions.Given as goal

abbrev pub invariant-actions : goal.invariant-actions
invariant-actions l =
    (l.initial.out.items ++ flat_map (λ a. action_line (a, filters_at l.table a)) l.actions ≡ l.out.items ++ flat_map (λ a. action_line (a, filters_at l.table a)) l.rest) ×
    AllByRecursion (Contains (actions_named l.table)) l.rest

abbrev pub decreases-actions : goal.decreases-actions
decreases-actions l = length l.rest
