use Rattle.std.proofs.Common.{◌≡◌, ◌++◌, length}
use Rattle.eh_write.specs.Written.{chain_bytes}
use Rattle.std.specs.List.{AllByRecursion}
use Rattle.eh_write.specs.Fits.{IsSignedWord}
use Rattle.eh_write.proofs.actions.put_chain.Given as goal

abbrev pub invariant-records : goal.invariant-records
invariant-records l =
    (l.initial.out.items ++ chain_bytes l.filters ≡ l.out.items ++ chain_bytes l.rest) ×
    (AllByRecursion IsSignedWord l.rest → AllByRecursion IsSignedWord l.filters)

abbrev pub decreases-records : goal.decreases-records
decreases-records l = length l.rest
