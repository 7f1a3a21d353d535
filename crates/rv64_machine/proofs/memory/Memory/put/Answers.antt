use Rattle.std.proofs.Common.{suc, ◌≡◌, ◌+◌, ◌-◌, ◌/◌, arith, ap, sym, ◌∙◌}
use Rattle.rv64_isa.specs.State.{with_value}
use Rattle.rv64_machine.specs.Bytes.{size_of}
use Rattle.rv64_machine.proofs.Serving.{with_value-next, with_value-end}
use Rattle.rv64_machine.proofs.memory.Memory.put.Goals as goal

pub loop-k-preserved : goal.loop-k-preserved
loop-k-preserved c =
    let left : c.bytes-k-end.result - c.loop-k.k ≡ suc (c.bytes-k-end.result - (c.loop-k.k + 1)) = omega arith in
    let place : c.args.address + c.loop-k.k + 1 ≡ c.args.address + (c.loop-k.k + 1) = omega arith in
    c.loop-k.invariant ∙ with_value-next c.loop-k.self c.put_byte.new.self _ _ _ c.loop-k.rest left c.put_byte.ensures ∙
    ap (λ a. with_value c.put_byte.new.self a (c.bytes-k-end.result - (c.loop-k.k + 1)) (c.loop-k.rest / 256)) place

pub returns : goal.returns
returns c =
    let none : c.bytes-k-end.result - c.loop-k.k ≡ 0 = omega arith in
    sym (ap (λ memory. with_value memory c.args.address (size_of c.args.size) c.args.value) (sym c.if-put_near.ensures.same) ∙ c.loop-k.invariant ∙ with_value-end _ _ _ _ none)
