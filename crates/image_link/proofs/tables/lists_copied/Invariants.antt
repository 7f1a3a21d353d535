use Rattle.std.proofs.Common.{◌≡◌, ◌++◌, length, map}
use Rattle.image_link.proofs.tables.lists_copied.Given as goal

abbrev pub invariant-lists : goal.invariant-lists
invariant-lists l = map (λ c. c.items) l.lists ≡ map (λ c. c.items) l.copies.items ++ map (λ c. c.items) l.rest

abbrev pub decreases-lists : goal.decreases-lists
decreases-lists l = length l.rest
