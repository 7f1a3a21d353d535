use Rattle.std.proofs.Common.{suc, ◌≡◌, ◌+◌, ◌-◌, ◌/◌, ◌%◌, arith, ap, sym, ◌∙◌}
use Rattle.std.specs.Prelude.{slice_set}
use Rattle.rv64_machine.specs.Reserved.{with_number_below}
use Rattle.rv64_machine.proofs.Descending.{with_number_below-next, with_number_below-end}
use Rattle.rv64_machine.proofs.below.put_number_below.Goals as goal

pub loop-k-preserved : goal.loop-k-preserved
loop-k-preserved c =
    let left : c.bytes-k-end.result - c.loop-k.k ≡ suc (c.bytes-k-end.result - (c.loop-k.k + 1)) = omega arith in
    let place : c.args.at - c.loop-k.k - 1 ≡ c.args.at - (c.loop-k.k + 1) = omega arith in
    c.loop-k.invariant ∙ with_number_below-next _ _ _ _ _ left ∙
    ap (λ at. with_number_below (slice_set c.loop-k.bytes (c.args.at - c.loop-k.k - 1) (c.loop-k.rest % 256)) at (c.bytes-k-end.result - (c.loop-k.k + 1)) (c.loop-k.rest / 256)) place

pub returns : goal.returns
returns c =
    let none : c.bytes-k-end.result - c.loop-k.k ≡ 0 = omega arith in
    sym (c.loop-k.invariant ∙ with_number_below-end _ _ _ _ none)
