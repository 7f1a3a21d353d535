use Rattle.std.proofs.Common.{rules, ◌≡◌, ◌∷◌, sym, subst, ◌∙◌}
use Rattle.std.specs.BTreeMap.{get}
use Rattle.std.specs.List.{AllByRecursion}
use Rattle.lsda_pack.specs.EndNumbers.{IsNumbered, end_cmp}
use Rattle.lsda_pack.specs.declared.numbers.NumberedChain.{NumberedChain}
use Rattle.lsda_pack.proofs.EndNumbers.{all_numbered, chain_onward}
use Rattle.lsda_pack.proofs.numbers.numbered_chains.Goals as goal

pub chains-preserved : goal.chains-preserved
chains-preserved c =
    let one : NumberedChain = record { filters = c.as_slice-filters.result; ends = c.in_ok-end_numbers.field-0 } in
    let before = get end_cmp c.chains.known in let now = get end_cmp c.end_numbers.new.known in
    let left : c.chains.rest.now ≡ c.in-Some.chain.now ∷ c.in-Some.others.now = search rules in
    let pushed = c.in_ok-push.ensures.items in (
      c.in_ok-end_numbers.ensures.numbers,
      c.chains.invariant.1 ∙
          chain_onward (λ chain. chain.items) c.chains.numbered.items c.push.new.self.items one c.chains.rest.now c.in-Some.others.now c.in-Some.chain.now left pushed c.as_slice-filters.ensures.value,
      subst (AllByRecursion (IsNumbered now)) (sym pushed) (all_numbered before now c.chains.numbered.items one c.in_ok-end_numbers.ensures.keeps c.chains.invariant.2 c.in_ok-end_numbers.ensures.ends),
    )
