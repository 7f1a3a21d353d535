use Rattle.std.proofs.Common.{rules, ◌≡◌, ◌++◌, ◌∷◌, [], length, map, sym, ◌∙◌, ap}
use Rattle.std.proofs.lemmas.List.{length-map, map-append}
use Rattle.lsda_pack.specs.KeptChains.{chains_kept}
use Rattle.lsda_pack.specs.declared.chains.KeptChains.{KeptChains}
use Rattle.lsda_pack.proofs.ChainNumbers.{kept_already, kept_more}
use Rattle.lsda_pack.proofs.chains.keep_chain.Goals as goal

pub returns-then-contains_key : goal.returns-then-contains_key
returns-then-contains_key c = λ known tells have are.
    (kept_already known c.args.kept.now c.args.chain.now.filters.now c.chain_number-number.result are (c.chain_number-number.ensures known have) (sym c.contains_key.ensures ∙ c.if-contains_key.true), are)

pub returns : goal.returns
returns c = λ known tells have are.
    let more : KeptChains = record { chains = c.push.new.self; numbers = c.insert.new.self } in
    let copy : c.in_ok-to_vec.field-0.items ≡ c.args.chain.now.filters.now = search rules in
    let place : c.in_ok-place.place ≡ length c.args.kept.now.chains.items = search rules in
    let pushed = ap (map (λ chain. chain.items)) c.in_ok-push.ensures.items ∙ map-append (λ chain. chain.items) c.args.kept.now.chains.items (c.in_ok-to_vec.field-0 ∷ []) ∙ ap (λ x. chains_kept c.args.kept.now ++ x ∷ []) copy in
    kept_more known c.args.kept.now more c.args.chain.now.filters.now c.chain_number-number.result c.in_ok-place.place tells are (c.chain_number-number.ensures known have)
    (sym c.contains_key.ensures ∙ c.if-contains_key.false) pushed (place ∙ sym (length-map c.args.kept.now.chains.items (λ chain. chain.items))) c.in_ok-insert.ensures.updates.0
