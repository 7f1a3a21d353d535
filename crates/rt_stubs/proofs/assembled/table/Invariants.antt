use Rattle.std.proofs.Common.{◌≡◌, take, map}
use Rattle.rt_stubs.proofs.assembled.table.Given as goal

abbrev pub invariant-loop-chain : goal.invariant-loop-chain
invariant-loop-chain l = map (λ chain. chain.items) l.chains.items ≡ map (λ chain. chain.now) (take l.chain-index l.listing.chains.now)
