use Rattle.std.proofs.Common.{rules, ◌≡◌, length, sym, ◌∙◌}
use Rattle.std.proofs.lemmas.List.{length-map}
use Rattle.lsda_pack.specs.Chains.{is_chain}
use Rattle.lsda_pack.specs.KeptChains.{chains_kept}
use Rattle.lsda_pack.proofs.PositionsFound.{place_is, place_none}
use Rattle.lsda_pack.proofs.chains.number_in.Goals as goal

pub returns-in-Some : goal.returns-in-Some
returns-in-Some c = λ known are have.
    place_is (is_chain c.args.chain.now.filters.now) (chains_kept c.args.kept.now) c.in-Some.number.now
    (sym (are c.args.chain.now.filters.now c.chain_number.result (c.chain_number.ensures known have)) ∙ sym c.in-Some.ensures.value)

pub returns-in_ok-count-in-None : goal.returns-in_ok-count-in-None
returns-in_ok-count-in-None c = λ known are have.
    let count : c.in_ok-count-in-None.count ≡ length c.args.kept.now.chains.items = search rules in
    count ∙ sym (length-map c.args.kept.now.chains.items (λ chain. chain.items)) ∙
    place_none (is_chain c.args.chain.now.filters.now) (chains_kept c.args.kept.now)
    (sym (are c.args.chain.now.filters.now c.chain_number.result (c.chain_number.ensures known have)) ∙ sym c.in-None.ensures.value)
