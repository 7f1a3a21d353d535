use Rattle.std.proofs.Common.{◌≡◌, ◌+◌, ◌-◌, ◌++◌, [], ◌∷◌, nat_lt, true, ap, sym, ◌∙◌, append_assoc, arith}
use Rattle.std.specs.BTreeMap.{get}
use Rattle.std.specs.Ordering.{nat_cmp}
use Rattle.std.proofs.lemmas.Bool.Decides.{nat_tests}
use Rattle.lsda_pack.specs.Listing.{named_value, named_values}
use Rattle.lsda_pack.proofs.ListingIs.{next_value, value_named}
use Rattle.lsda_pack.proofs.listing.types_listed.Goals as goal

pub types-preserved : goal.types-preserved
types-preserved c =
    let some : nat_lt 0 c.types.left ≡ true = grind (arith, nat_tests, c.types-test.true) in
    let value = named_value c.args.types.now c.args.table.now (c.types.index + 1) in
    let rest = named_values (c.types.left - 1) (c.types.index + 1 + 1) c.args.types.now c.args.table.now in
    let pushed = c.in_ok-push.ensures.items ∙ ap (λ x. c.types.values.items ++ x ∷ []) (c.value_under.ensures ∙ value_named c.args.types.now c.args.table.now (get nat_cmp c.in_ok-named.named) (c.types.index + 1) c.in_ok-named.ensures) in (
      c.types.invariant.0 ∙ ap (λ x. c.types.values.items ++ x) (next_value c.args.types.now c.args.table.now c.types.left (c.types.index + 1) some) ∙
          sym (append_assoc c.types.values.items (value ∷ []) rest) ∙ ap (λ x. x ++ rest) (sym pushed),
      omega (arith, c.types.invariant.1),
    )
