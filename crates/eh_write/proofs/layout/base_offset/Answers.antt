use Rattle.std.proofs.Common.{rules, ◌≡◌, ◌+◌, ◌-◌, suc, true, false, ap, sym, ◌∙◌, arith}
use Rattle.eh_write.specs.Written.{is_aligned, offset_from, base_offset}
use Rattle.eh_write.proofs.Offsets.{offset_found, offset_later}
use Rattle.eh_write.proofs.layout.base_offset.Goals as goal

pub returns-then-branch-clause-offset : goal.returns-then-branch-clause-offset
unfolding base_offset
returns-then-branch-clause-offset c =
    let n = 8 - (c.tries.counter + 1) in
    let count : 8 - c.tries.counter ≡ suc n = omega (arith, c.tries-test.true) in
    let aligned : is_aligned c.tries.offset ≡ true = search rules in
    sym (c.tries.invariant.0 ∙ ap (λ k. offset_from k c.tries.offset) count ∙ offset_found n c.tries.offset aligned)

pub tries-preserved : goal.tries-preserved
tries-preserved c =
    let n = 8 - (c.tries.counter + 1) in
    let count : 8 - c.tries.counter ≡ suc n = omega (arith, c.tries-test.true) in
    let other : is_aligned c.tries.offset ≡ false = search rules in
    let next : c.in_ok-offset.offset ≡ c.tries.offset + 1 = search rules in (
      c.tries.invariant.0 ∙ ap (λ k. offset_from k c.tries.offset) count ∙ offset_later n c.tries.offset other ∙ ap (offset_from n) (sym next),
      next ∙ omega (arith, c.tries.invariant.1),
    )
