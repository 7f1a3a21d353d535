use Rattle.std.proofs.Common.{rules, ◌≡◌, ◌++◌, ◌∷◌, length, map, sym, subst, ap, ◌∙◌}
use Rattle.std.specs.Prelude.{flat_map}
use Rattle.eh_bytes.specs.Listed.{listed_table}
use Rattle.eh_bytes.specs.Spelling.{uleb_spelling}
use Rattle.eh_write.specs.Written.{site_bytes}
use Rattle.lsda_pack.specs.EndNumbers.{AreNumbered, filters_of}
use Rattle.lsda_pack.specs.PackedBytes.{action_for}
use Rattle.lsda_pack.specs.Records.{AreRecords}
use Rattle.lsda_pack.specs.Suffixes.{actions_for}
use Rattle.lsda_pack.proofs.BodyIs.{body_is}
use Rattle.lsda_pack.proofs.packed_bytes.body_of.Goals as goal

pub returns : goal.returns
returns c =
    let list = listed_table c.args.table.now in
    let known = c.in_ok-chains.ensures.ends.0 in let are = c.in_ok-chains.ensures.ends.1 in
    let filters : filters_of c.in_ok-chains.chains.items ≡ list.chains = c.in_ok-chains.ensures.filters ∙ ap (map (λ chain. chain.items)) c.as_slice.ensures.value in
    let sites = c.in_ok-sites.sites.items in let bytes = c.in_ok-records.records.bytes.items in
    let records : AreRecords known c.in_ok-records.records (actions_for list.chains) =
    subst (λ cs. AreRecords known c.in_ok-records.records (actions_for cs)) (ap filters_of c.as_slice-2.ensures.value ∙ filters)
    (c.in_ok-records.ensures known (subst (AreNumbered known) (sym c.as_slice-2.ensures.value) are)) in
    let actions = c.in_ok-actions.ensures known (actions_for list.chains) records (subst (AreNumbered known) (sym c.as_slice-3.ensures.value) are) ∙
    ap (map (action_for (actions_for list.chains))) (ap filters_of c.as_slice-3.ensures.value ∙ filters) in
    let body : c.extend_from_slice-2.new.self.items ≡ 1 ∷ uleb_spelling (length sites) ++ sites ++ bytes = search rules in
    let places : sites ≡ flat_map (site_bytes c.in_ok-actions.actions.items) list.sites = search rules in
    body_is list c.in_ok-actions.actions.items sites bytes c.extend_from_slice-2.new.self.items actions places records.bytes body
