use Rattle.std.proofs.Common.{rules, ◌≡◌, ◌++◌, ◌∷◌, [], sym, ap, ◌∙◌, append_assoc, FitsSigned, w64, to_z-of_z}
use Rattle.std.specs.BTreeMap.{get}
use Rattle.lsda_pack.specs.EndNumbers.{end_cmp}
use Rattle.lsda_pack.proofs.EndNumbers.{end_stays, front_number, numbers_stay}
use Rattle.lsda_pack.proofs.numbers.end_numbers.Goals as goal

pub filters-preserved : goal.filters-preserved
filters-preserved c =
    let kept = c.filters.invariant.2 in let f = c.in-Some.filter.now in let fs = kept.0 in
    let before = get end_cmp c.filters.known in let now = get end_cmp c.number_of.new.known in
    let split : c.filters.rest.now ≡ c.in-Some.front.now ++ f ∷ [] = search rules in
    let stay = c.in_ok-number.ensures.keeps in
    let fits : FitsSigned w64 f = search rules in
    let known = ap (λ z. now (z, c.filters.number)) (sym (to_z-of_z fits)) ∙ c.in_ok-number.ensures.number in
    let number = front_number now f fs c.filters.number c.in_ok-number.number (end_stays before now fs c.filters.number stay kept.2) known in (
      c.in_ok-number.ensures.numbers,
      λ e n is. stay e n (c.filters.invariant.1 e n is),
      (
        f ∷ fs,
        kept.1 ∙ ap (λ xs. xs ++ fs) split ∙ append_assoc c.in-Some.front.now (f ∷ []) fs,
        number,
        (c.filters.ends.items, c.in_ok-number.number, c.in_ok-push.ensures.items, number, numbers_stay before now fs c.filters.ends.items stay kept.3),
      ),
    )
