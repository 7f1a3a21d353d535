use Rattle.std.proofs.Common.{rules, ◌≡◌, ◌-◌, suc, Some, None, ap, sym, ◌∙◌, arith}
use Rattle.eh_bytes.specs.Memory.{part_of}
use Rattle.lsda_read.specs.Left.{indices_left, and_indices}
use Rattle.lsda_read.proofs.Steps.{ends, no_index_left}
use Rattle.lsda_read.proofs.list.SpecListIterator.next.Goals as goal

pub returns-then-self-eq0-clause-steps : goal.returns-then-self-eq0-clause-steps
returns-then-self-eq0-clause-steps c =
    let t = c.self.inside in let s = part_of t.segment.now in (
      sym c.self.view_is ∙ ap (λ k. indices_left s t.first k t.place) c.if-self-eq0.true ∙ no_index_left s t.first t.place,
      ap (λ o. indices_left s t.first t.left o) c.take.ensures.after,
    )

pub returns-in_err-index-clause-steps : goal.returns-in_err-index-clause-steps
returns-in_err-index-clause-steps c =
    let t = c.self.inside in let s = part_of t.segment.now in let n = t.left - 1 in
    let full : t.left ≡ suc n = omega (arith, c.if-self-eq0.false) in
    let place : t.place ≡ Some c.in_ok-place.place = search rules in
    let none : c.index_here.result ≡ None = search rules in
    ends c.args.self.now (indices_left s t.first n c.take.new.self) c.from_residual-in_err-index.result c.from_residual-in_err-index.ensures
    (sym c.self.view_is ∙ ap (λ o. indices_left s t.first t.left o) place ∙ ap (λ k. indices_left s t.first k (Some c.in_ok-place.place)) full ∙ c.index_here.ensures.gives n ∙
    ap (λ r. and_indices r (indices_left s t.first n)) none)
    (ap (λ o. indices_left s t.first n o) c.take.ensures.after)
