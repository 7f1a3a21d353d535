use Rattle.std.proofs.Common.{◌≡◌, ◌∙◌, ◌++◌, Some, ap, rules, sym}
use Rattle.std.specs.Prelude.{nat_le}
use mir.Syntax.{w64}
use Rattle.std.proofs.lemmas.Int.{to_z-of_z}
use Rattle.std.proofs.lemmas.Result.{on_ok_weaker}
use mir.Val.{SFits}
use Rattle.rv64_isa.specs.declared.instr.Instr.TheVariants.{Beq, Bne, Jal}
use Rattle.region_ir.specs.View.{value_of}
use Rattle.region_forms.specs.Form.{binary}
use Rattle.machine_forms.specs.Piece.{instruction}
use Rattle.machine_forms.specs.Registers.{register, zero_register}
use Rattle.machine_forms.specs.ValueCode.{binary_code, made_truth, needs, operand, sum_code, value_code}
use Rattle.rv64_emit.proofs.Guarded.{guarded}
use Rattle.rv64_emit.proofs.value.+values.Goals as goal

pub put_and-returns : goal.put_and-returns
put_and-returns t c =
    let k = c.args.k in
    let side = c.register-side.result in
    let is : side ≡ register k = c.register-side.ensures in
    let a = value_code c.args.frame.now (register k) k (value_of c.args.left.now) in
    let b = value_code c.args.frame.now (register k) k (value_of c.args.right.now) in
    let first = c.in_ok-put_value.ensures ∙ ap (λ r. c.args.code.now ++ value_code c.args.frame.now r k (value_of c.args.left.now)) is in
    let second = c.in_ok-put_value-2.ensures ∙ ap (λ r. c.put_open_jump.new.code ++ value_code c.args.frame.now r k (value_of c.args.right.now)) is in
    let branch : instruction (Bne side c.zero.result c.over_one.result) ≡ instruction (Bne (register k) zero_register 4) = cc in
    on_ok_weaker c.put_truth.result
    (guarded c.args.code.now c.put_value.new.code c.put_open_jump.new.code c.put_value-2.new.code c.close_jump.new.code c.put_truth.new.code a b
    (made_truth c.args.rd side) (made_truth c.args.rd (register k)) (instruction (Bne side c.zero.result c.over_one.result))
    (instruction (Bne (register k) zero_register 4)) (instruction (Jal zero_register 0)) c.in_ok-jump.jump first c.in_ok-jump.ensures.code
    c.in_ok-jump.ensures.place second c.in_ok-close_jump.ensures branch (ap (made_truth c.args.rd) is))
    c.put_truth.ensures

pub put_or-returns : goal.put_or-returns
put_or-returns t c =
    let k = c.args.k in
    let side = c.register-side.result in
    let is : side ≡ register k = c.register-side.ensures in
    let a = value_code c.args.frame.now (register k) k (value_of c.args.left.now) in
    let b = value_code c.args.frame.now (register k) k (value_of c.args.right.now) in
    let first = c.in_ok-put_value.ensures ∙ ap (λ r. c.args.code.now ++ value_code c.args.frame.now r k (value_of c.args.left.now)) is in
    let second = c.in_ok-put_value-2.ensures ∙ ap (λ r. c.put_open_jump.new.code ++ value_code c.args.frame.now r k (value_of c.args.right.now)) is in
    let branch : instruction (Beq side c.zero.result c.over_one.result) ≡ instruction (Beq (register k) zero_register 4) = cc in
    on_ok_weaker c.put_truth.result
    (guarded c.args.code.now c.put_value.new.code c.put_open_jump.new.code c.put_value-2.new.code c.close_jump.new.code c.put_truth.new.code a b
    (made_truth c.args.rd side) (made_truth c.args.rd (register k)) (instruction (Beq side c.zero.result c.over_one.result))
    (instruction (Beq (register k) zero_register 4)) (instruction (Jal zero_register 0)) c.in_ok-jump.jump first c.in_ok-jump.ensures.code
    c.in_ok-jump.ensures.place second c.in_ok-close_jump.ensures branch (ap (made_truth c.args.rd) is))
    c.put_truth.ensures

pub put_result-returns-in-Some : goal.put_result-returns-in-Some
put_result-returns-in-Some t c =
    let x = operand c.args.frame.now (value_of c.args.left.now) in
    let y = operand c.args.frame.now (value_of c.args.right.now) in
    let first = nat_le (needs (value_of c.args.right.now)) (needs (value_of c.args.left.now)) in
    let other = binary_code c.args.op first c.args.rd c.args.k x y in
    let n = c.in-Some.number in
    let fits : SFits w64 n = search rules in
    let plain = to_z-of_z w64 n fits in
    on_ok_weaker c.put_sum.result
    (λ e. e ∙ ap (λ s. c.args.code.now ++ sum_code s c.args.rd c.args.k x other) (ap (λ i. Some i) plain ∙ (sym c.in-Some.is ∙ c.addend.ensures)))
    (c.put_sum.ensures other)

pub put_result-returns-in-None : goal.put_result-returns-in-None
put_result-returns-in-None t c =
    let x = operand c.args.frame.now (value_of c.args.left.now) in
    let y = operand c.args.frame.now (value_of c.args.right.now) in
    let first = nat_le (needs (value_of c.args.right.now)) (needs (value_of c.args.left.now)) in
    let other = binary_code c.args.op first c.args.rd c.args.k x y in
    on_ok_weaker c.put_binary.result (λ e. e ∙ ap (λ s. c.args.code.now ++ sum_code s c.args.rd c.args.k x other) (sym c.in-None.is ∙ c.addend.ensures)) c.put_binary.ensures

pub put_value-returns-in-Binary : goal.put_value-returns-in-Binary
put_value-returns-in-Binary t c =
    let f = c.args.frame.now in
    let old = c.args.code.now in
    let op = c.in-Binary.op in
    let left = c.in-Binary.left.value in
    let right = c.deref-in-Binary-2.result.now in
    on_ok_weaker c.put_result.result
    (λ e. e ∙ (ap (λ v. old ++ value_code f c.args.rd c.args.k (binary op (value_of v) (value_of right))) c.deref-in-Binary.ensures
    ∙ (ap (λ v. old ++ value_code f c.args.rd c.args.k (binary op (value_of left) (value_of v))) c.deref-in-Binary-2.ensures
    ∙ ap (λ v. old ++ value_code f c.args.rd c.args.k (value_of v)) (sym c.in-Binary.is))))
    c.put_result.ensures
