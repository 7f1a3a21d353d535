use Rattle.std.proofs.Common.{◌≡◌, ◌++◌, length, map}
use Rattle.eh_write.specs.Written.{action_bytes, actions_from}
use Rattle.std.specs.List.{AllByRecursion}
use Rattle.eh_write.specs.Fits.{IsSignedWord}
use Rattle.eh_write.proofs.actions.action_table.Given as goal

abbrev pub invariant-chains : goal.invariant-chains
invariant-chains l =
    (action_bytes (map (λ chain. chain.items) l.chains) ≡ l.bytes.items ++ action_bytes (map (λ chain. chain.items) l.rest)) ×
    (actions_from 0 (map (λ chain. chain.items) l.chains) ≡ l.actions.items ++ actions_from (length l.bytes.items) (map (λ chain. chain.items) l.rest)) ×
    (AllByRecursion (AllByRecursion IsSignedWord) (map (λ chain. chain.items) l.rest) → AllByRecursion (AllByRecursion IsSignedWord) (map (λ chain. chain.items) l.chains))

abbrev pub decreases-chains : goal.decreases-chains
decreases-chains l = length l.rest
