use Rattle.std.proofs.Common.{◌≡◌, ◌++◌, length, map}
use Rattle.std.specs.Prelude.{flat_map, codes}
use Rattle.std.specs.Fmt.{signed_decimal}
use Rattle.table_dump.proofs.line.put_filters.Given as goal

abbrev pub invariant-chain : goal.invariant-chain
invariant-chain l =
    l.initial.out.items ++ flat_map (λ t. codes " " ++ t) (map signed_decimal l.initial.chain) ≡ l.out.items ++ flat_map (λ t. codes " " ++ t) (map signed_decimal l.chain)

abbrev pub decreases-chain : goal.decreases-chain
decreases-chain l = length l.chain
