use Rattle.std.proofs.Common.{rules, ◌≡◌, ◌==◌, sym, ◌∙◌, length, false, arith}
use Rattle.std.proofs.lemmas.Bool.Decides.{nat_tests}
use Rattle.lsda_pack.proofs.ListingIs.{named_number}
use Rattle.lsda_pack.proofs.PositionsFound.{place_is, place_none}
use Rattle.lsda_pack.proofs.listing.number_of.Goals as goal

pub returns-in-Some : goal.returns-in-Some
returns-in-Some c =
    let named : (c.args.action == 0) ≡ false = grind (arith, nat_tests, c.if-action-eq0.false) in
    named_number c.args.actions.now c.args.action c.in-Some.position.now named (place_is (λ k. k == c.args.action) c.args.actions.now c.in-Some.position.now (sym (c.requires c.args.action) ∙ sym c.in-Some.ensures.value))

pub returns : goal.returns
returns c =
    let named : (c.args.action == 0) ≡ false = grind (arith, nat_tests, c.if-action-eq0.false) in
    let count : c.in_ok-count.count ≡ length c.args.actions.now = search rules in
    named_number c.args.actions.now c.args.action c.in_ok-count.count named (count ∙ place_none (λ k. k == c.args.action) c.args.actions.now (sym (c.requires c.args.action) ∙ sym c.in_default.ensures.value))
