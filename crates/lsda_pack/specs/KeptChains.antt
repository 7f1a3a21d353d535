-- Chains of which each stands once, with their numbers at hand.
use Rattle.std.specs.Prelude.{◌≡◌, ℕ, ℤ, List, map, Option, Some}
use Rattle.std.specs.List.{position_from}
use Rattle.std.specs.Ordering.{nat_cmp}
use Rattle.std.specs.BTreeMap.{get}
use Rattle.lsda_pack.specs.Chains.{add_chain, is_chain}
use Rattle.lsda_pack.specs.EndNumbers.{IsNumbered, TellsApart, end_number}
use Rattle.lsda_pack.specs.declared.chains.KeptChains.{KeptChains}
use Rattle.lsda_pack.specs.declared.numbers.NumberedChain.{NumberedChain}

abbrev pub chains_kept : KeptChains → List (List ℤ)
chains_kept kept = map (λ chain. chain.items) kept.chains.items

-- a chain's number in the list is found under the number of its filters
abbrev pub AreKept : (ℤ × ℕ → Option ℕ) → KeptChains → Type 0
AreKept known kept = (c : List ℤ) (n : ℕ) → end_number known c ≡ Some n → get nat_cmp kept.numbers n ≡ position_from (is_chain c) 0 (chains_kept kept)

-- one more, unless it is there
abbrev pub KeepsOne : KeptChains → KeptChains → NumberedChain → Type 0
KeepsOne old new c =
    (known : ℤ × ℕ → Option ℕ) → TellsApart known → IsNumbered known c → AreKept known old →
    (chains_kept new ≡ add_chain (chains_kept old) c.filters.now) × AreKept known new
