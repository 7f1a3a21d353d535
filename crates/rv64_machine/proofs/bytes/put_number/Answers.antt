use Rattle.std.proofs.Common.{suc, ◌≡◌, ◌+◌, ◌-◌, ◌/◌, ◌%◌, arith, ap, sym, ◌∙◌}
use Rattle.std.specs.Prelude.{slice_set}
use Rattle.rv64_machine.specs.Bytes.{with_number}
use Rattle.rv64_machine.proofs.Numbers.{with_number-next, with_number-end}
use Rattle.rv64_machine.proofs.bytes.put_number.Goals as goal

pub loop-k-preserved : goal.loop-k-preserved
loop-k-preserved c =
    let left : c.bytes-k-end.result - c.loop-k.k ≡ suc (c.bytes-k-end.result - (c.loop-k.k + 1)) = omega arith in
    let place : c.args.at + c.loop-k.k + 1 ≡ c.args.at + (c.loop-k.k + 1) = omega arith in
    c.loop-k.invariant ∙ with_number-next _ _ _ _ _ left ∙
    ap (λ at. with_number (slice_set c.loop-k.bytes (c.args.at + c.loop-k.k) (c.loop-k.rest % 256)) at (c.bytes-k-end.result - (c.loop-k.k + 1)) (c.loop-k.rest / 256)) place

pub returns : goal.returns
returns c =
    let none : c.bytes-k-end.result - c.loop-k.k ≡ 0 = omega arith in
    sym (c.loop-k.invariant ∙ with_number-end _ _ _ _ none)
