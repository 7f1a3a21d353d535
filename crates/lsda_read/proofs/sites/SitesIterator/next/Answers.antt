use Rattle.std.proofs.Common.{rules, ◌≡◌, ◌-◌, suc, Some, None, Bool, List, map, ap, sym, ◌∙◌, arith}
use Rattle.std.specs.List.{list_all}
use Rattle.table_forms.specs.LsdaSites.{SiteRecord, site_of}
use Rattle.lsda_read.specs.Heads.{head_seen}
use Rattle.lsda_read.specs.Left.{records_left, and_records}
use Rattle.lsda_read.specs.Names.{site_fits}
use Rattle.lsda_read.specs.Sites.{found, record_of}
use Rattle.lsda_read.proofs.Steps.{ends, no_record_left}
use Rattle.lsda_read.proofs.Fits.{first_holds}
use Rattle.lsda_read.proofs.sites.SitesIterator.next.Goals as goal

pub returns-then-self-eq0-clause-steps : goal.returns-then-self-eq0-clause-steps
returns-then-self-eq0-clause-steps c =
    let t = c.self.inside in let h = head_seen t.head in (
      sym c.self.view_is ∙ ap (λ k. map (site_of h t.region) (records_left t.bytes.now t.file_at h k t.place)) c.if-self-eq0.true ∙
          ap (map (site_of h t.region)) (no_record_left t.bytes.now t.file_at h t.place),
      ap (λ o. map (site_of h t.region) (records_left t.bytes.now t.file_at h t.left o)) c.take.ensures.after,
    )

pub returns-in_err-row-clause-steps : goal.returns-in_err-row-clause-steps
returns-in_err-row-clause-steps c =
    let t = c.self.inside in let h = head_seen t.head in let n = t.left - 1 in
    let full : t.left ≡ suc n = omega (arith, c.if-self-eq0.false) in
    let place : t.place ≡ Some c.in_ok-place.place = search rules in
    let none : c.record_here.result ≡ None = search rules in
    ends c.args.self.now (map (site_of h t.region) (records_left t.bytes.now t.file_at h n c.take.new.self)) c.from_residual-in_err-row.result c.from_residual-in_err-row.ensures
    (sym c.self.view_is ∙ ap (λ o. map (site_of h t.region) (records_left t.bytes.now t.file_at h t.left o)) place ∙
    ap (λ k. map (site_of h t.region) (records_left t.bytes.now t.file_at h k (Some c.in_ok-place.place))) full ∙
    ap (map (site_of h t.region)) (c.record_here.ensures.gives n ∙ ap (λ r. and_records (found r) (records_left t.bytes.now t.file_at h n)) none))
    (ap (λ o. map (site_of h t.region) (records_left t.bytes.now t.file_at h n o)) c.take.ensures.after)

pub site_from-requires : goal.site_from-requires
site_from-requires c =
    let t = c.self.inside in let h = head_seen t.head in let n = t.left - 1 in
    let full : t.left ≡ suc n = omega (arith, c.if-self-eq0.false) in
    let place : t.place ≡ Some c.in_ok-place.place = search rules in
    let row : c.record_here.result ≡ Some (c.in_ok-row.row, c.in_ok-row.next) = search rules in
    let fits : List SiteRecord → Bool = λ rs. list_all site_fits (map (site_of h t.region) rs) in
    first_holds (site_fits (site_of h t.region (record_of c.in_ok-row.row))) (fits (records_left t.bytes.now t.file_at h n (Some c.in_ok-row.next)))
    (sym (ap (λ o. fits (records_left t.bytes.now t.file_at h t.left o)) place ∙
    ap (λ k. fits (records_left t.bytes.now t.file_at h k (Some c.in_ok-place.place))) full ∙
    ap fits (c.record_here.ensures.gives n ∙ ap (λ r. and_records (found r) (records_left t.bytes.now t.file_at h n)) row)) ∙ c.self.invariant.1)
