use Rattle.std.proofs.Common.{rules, ◌≡◌, List, subst}
use Rattle.std.specs.List.Sorted.{IsStableByKey}
use Rattle.std.specs.Ordering.{nat_cmp}
use Rattle.std.proofs.lemmas.List.Sorted.{IsNonDecreasingBy-from_sort_by_key, answers_always}
use Rattle.frame_read.specs.declared.listed.Fde.{Fde}
use Rattle.frame_read.proofs.order.in_order.Goals as goal

pub returns-clause-order : goal.returns-clause-order
returns-clause-order c =
    IsNonDecreasingBy-from_sort_by_key (λ (f : Fde). f.region.start) _ c.in_ok-sort_by_key.ensures.sorted (λ a r q k. search rules)

pub returns-clause-stable : goal.returns-clause-stable
returns-clause-stable c =
    let same : c.in_ok-order.order.items ≡ c.args.fdes.now = search rules in
    subst (λ (xs : List Fde). IsStableByKey (λ (f : Fde). f.region.start) nat_cmp xs c.sort_by_key.new.self.items) same
    (c.in_ok-sort_by_key.ensures.stable (λ (f : Fde). f.region.start) (answers_always _ (λ a r. r ≡ a.0.now.region.start) _ (λ f a r f' k. search rules)))
