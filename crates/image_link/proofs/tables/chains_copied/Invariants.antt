use Rattle.std.proofs.Common.{◌≡◌, ◌++◌, length, map}
use Rattle.image_link.proofs.tables.chains_copied.Given as goal

abbrev pub invariant-chains : goal.invariant-chains
invariant-chains l = map (λ c. c.items) l.chains ≡ map (λ c. c.items) l.copies.items ++ map (λ c. c.items) l.rest

abbrev pub decreases-chains : goal.decreases-chains
decreases-chains l = length l.rest
