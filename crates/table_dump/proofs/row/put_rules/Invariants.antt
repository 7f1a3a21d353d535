use Rattle.std.proofs.Common.{◌≡◌, ◌++◌, ◌+◌, ◌≤◌, length}
use Rattle.table_dump.specs.Rows.{rules_text}
use Rattle.table_dump.proofs.row.put_rules.Given as goal

abbrev pub invariant-rules : goal.invariant-rules
invariant-rules l =
    (l.initial.out.items ++ rules_text 0 l.rules ≡ l.out.items ++ rules_text l.number l.rest) × (l.number + length l.rest ≤ 64)

abbrev pub decreases-rules : goal.decreases-rules
decreases-rules l = length l.rest
