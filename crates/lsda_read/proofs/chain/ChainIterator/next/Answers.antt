use Rattle.std.proofs.Common.{rules, ◌≡◌, ◌-◌, suc, Some, None, ap, sym, ◌∙◌, arith}
use Rattle.eh_bytes.specs.Memory.{part_of}
use Rattle.lsda_read.specs.Heads.{head_seen}
use Rattle.lsda_read.specs.Left.{filters_left, and_filters}
use Rattle.lsda_read.proofs.Steps.{ends, no_filter_left}
use Rattle.lsda_read.proofs.chain.ChainIterator.next.Goals as goal

pub returns-then-self-eq0-clause-steps : goal.returns-then-self-eq0-clause-steps
returns-then-self-eq0-clause-steps c =
    let t = c.self.inside in let s = part_of t.segment.now in let h = head_seen t.head in (
      sym c.self.view_is ∙ ap (λ k. filters_left s h k t.place) c.if-self-eq0.true ∙ no_filter_left s h t.place,
      ap (λ o. filters_left s h t.left o) c.take.ensures.after,
    )

pub returns-in_err-filter-clause-steps : goal.returns-in_err-filter-clause-steps
returns-in_err-filter-clause-steps c =
    let t = c.self.inside in let s = part_of t.segment.now in let h = head_seen t.head in let n = t.left - 1 in
    let full : t.left ≡ suc n = omega (arith, c.if-self-eq0.false) in
    let place : t.place ≡ Some c.in_ok-place.place = search rules in
    let none : c.link_at.result ≡ None = search rules in
    ends c.args.self.now (filters_left s h n c.take.new.self) c.from_residual-in_err-filter.result c.from_residual-in_err-filter.ensures
    (sym c.self.view_is ∙ ap (λ o. filters_left s h t.left o) place ∙ ap (λ k. filters_left s h k (Some c.in_ok-place.place)) full ∙ c.link_at.ensures n ∙
    ap (λ r. and_filters r (filters_left s h n)) none)
    (ap (λ o. filters_left s h n o) c.take.ensures.after)
