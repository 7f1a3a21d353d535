use Rattle.std.proofs.Common.{rules, ◌≡◌, List, subst, ◌∙◌}
use Rattle.std.specs.List.Sorted.{IsStableByKey}
use Rattle.std.proofs.lemmas.List.Sorted.{answers_always}
use Rattle.frame_read.specs.declared.listed.Fde.{Fde}
use Rattle.table_check.proofs.Ordered.{key, below, order_by_key}
use Rattle.table_check.proofs.order.in_order.Goals as goal

pub returns : goal.returns
returns c = λ fs e.
    let same : c.in_ok-order.order.items ≡ c.args.fdes.now = search rules in
    let gives = answers_always _ (λ a r. r ≡ key a.0.now) _ (λ f a r f' k. search rules) in
    order_by_key fs c.sort_by_key.new.self.items (c.in_ok-sort_by_key.ensures.sorted key gives)
    (subst (λ (xs : List Fde). IsStableByKey key below xs c.sort_by_key.new.self.items) (same ∙ e) (c.in_ok-sort_by_key.ensures.stable key gives))
