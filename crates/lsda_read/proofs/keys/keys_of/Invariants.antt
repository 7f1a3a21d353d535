use Rattle.std.proofs.Common.{◌≡◌, length}
use Rattle.table_forms.specs.Keys.{keys}
use Rattle.lsda_read.proofs.Sets.{keys_with}
use Rattle.lsda_read.proofs.keys.keys_of.Given as goal

abbrev pub invariant-numbers : goal.invariant-numbers
invariant-numbers l = keys l.numbers ≡ keys_with l.set.keys l.rest

abbrev pub decreases-numbers : goal.decreases-numbers
decreases-numbers l = length l.rest
