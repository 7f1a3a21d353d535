use Rattle.std.proofs.Common.{◌≡◌, ◌++◌, ◌+◌, ◌*◌, length}
use Rattle.std.specs.Prelude.{reverse}
use Rattle.eh_write.specs.Written.{entries_from}
use Rattle.std.specs.List.{AllByRecursion}
use Rattle.eh_write.specs.Fits.{IsWord}
use Rattle.eh_write.proofs.entries.put_entries.Given as goal

abbrev pub invariant-entries : goal.invariant-entries
invariant-entries l =
    (l.initial.out.items ++ entries_from l.address (reverse l.types) ≡ l.out.items ++ entries_from l.place (reverse l.rest)) ×
    (l.place + 4 * length l.rest ≡ l.address + 4 * length l.types) ×
    (AllByRecursion IsWord (reverse l.rest) → AllByRecursion IsWord (reverse l.types))

abbrev pub decreases-entries : goal.decreases-entries
decreases-entries l = length l.rest
