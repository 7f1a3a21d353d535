use Rattle.std.proofs.Common.{ap, ◌∙◌, sym, ◌++◌, ◌∷◌, [], bytes_eq, arith}
use Rattle.std.specs.Map.{lookup}
use Rattle.indexmap.proofs.CallerLemmas.{insert_entry-new}
use Rattle.cxx_rules.proofs.TextLaws.{positions_few, positions_new, positions_kept, there_by, none_by}
use Rattle.cxx_rules.proofs.texts.number.Goals as goal

pub returns-then-number-lt-FEW-clause-ok : goal.returns-then-number-lt-FEW-clause-ok
returns-then-number-lt-FEW-clause-ok c ts h n = positions_few c.args.text.now c.args.first.now.entries ts (omega (arith, n, c.if-number-lt-FEW.true)) h

pub returns-then-is_some-clause-ok : goal.returns-then-is_some-clause-ok
returns-then-is_some-clause-ok c ts h n =
    positions_kept c.args.text.now c.args.first.now.entries ts (omega (arith, n, c.if-number-lt-FEW.false)) h (there_by c.get.result _ _ c.get.ensures.value (sym c.is_some.ensures ∙ c.if-is_some.true))

pub returns-clause-ok : goal.returns-clause-ok
returns-clause-ok c ts h n =
    let text = c.in_ok-from_slice.ensures.items in
    let absent = none_by _ (there_by c.get.result _ _ c.get.ensures.value (sym c.is_some.ensures ∙ c.if-is_some.false)) in
    let missing = ap (λ t. lookup (λ k. bytes_eq t k.items) c.args.first.now.entries) text ∙ absent in
    let added = insert_entry-new (λ a b. bytes_eq a.items b.items) c.args.first.now c.in_ok-from_slice.field-0 c.args.number missing in
    positions_new c.args.text.now c.in_ok-from_slice.field-0 c.args.first.now.entries _ ts (omega (arith, n, c.if-number-lt-FEW.false)) h text
    (c.in_ok-insert.ensures.entries ∙ added ∙ ap (λ m. c.args.first.now.entries ++ (c.in_ok-from_slice.field-0, m) ∷ []) (sym n))
