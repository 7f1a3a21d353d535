use Rattle.std.proofs.Common.{◌≡◌, ◌∙◌, ◌+◌, ap, sym, subst, arith, nat_lt, true, false, ◌∷◌, length}
use Rattle.std.proofs.lemmas.Result.{err_from_is_err_and}
use Rattle.std.proofs.lemmas.Bool.Decides.{nat_tests}
use Rattle.cxx_ast.specs.Limits.{most_depth}
use Rattle.cxx_ast.specs.Operator.{binary_level}
use Rattle.cxx_ast.specs.View.{expression_of}
use Rattle.cxx_parser.specs.Contexts.{behind_operand}
use Rattle.cxx_parser.specs.Reading.{read}
use Rattle.cxx_parser.specs.States.{have_operand}
use Rattle.cxx_parser.specs.Signs.{first_level}
use Rattle.cxx_parser.proofs.Refusals.{passes, deep_refused}
use Rattle.cxx_parser.proofs.Settled.{operator_taken, operator_deepens, operator_settles}
use Rattle.cxx_parser.proofs.expression.+expressions.Goals as goal

pub operators-returns-in_err-within-clause-gives : goal.operators-returns-in_err-within-clause-gives
operators-returns-in_err-within-clause-gives t c total ps E h =
    let p = err_from_is_err_and c.from_residual-in_err-within.result c.from_residual-in_err-within.ensures.1 in
    let e = expression_of c.loop-op.left.expr in
    let (first, i, j, least) = c.in-Some.ensures in
    passes _ c.from_residual-in_err-within.result c.in_err-within.field-0.0 p.0 _ _ p.1 p.2
    (c.loop-op.invariant.so_far total ps E h ∙ operator_deepens total c.args.end c.loop-op.rest.now c.in-Some.after.now first c.in-Some.op c.args.level c.args.depth e ps E i j h least
    (subst (λ n. nat_lt most_depth (c.args.depth + 1 + n) ≡ true) c.loop-op.left.measured c.in_err-within.ensures.0))
    (deep_refused c.in_err-within.field-0.0 c.place_of.result _ c.in_err-within.ensures.1 c.place_of.ensures)

pub operators-returns-in_err-right-clause-gives : goal.operators-returns-in_err-right-clause-gives
operators-returns-in_err-right-clause-gives t c total ps E h =
    let p = err_from_is_err_and c.from_residual-in_err-right.result c.from_residual-in_err-right.ensures.1 in
    let e = expression_of c.loop-op.left.expr in
    let (first, i, j, least) = c.in-Some.ensures in
    let below : nat_lt (binary_level c.in-Some.op) (c.level_of.result + 1) ≡ true = rw c.level_of.ensures (grind (arith, nat_tests)) in
    passes _ c.from_residual-in_err-right.result c.in_err-right.field-0.0 p.0 _ _ p.1 p.2
    (c.loop-op.invariant.so_far total ps E h ∙ operator_taken total c.args.end c.loop-op.rest.now c.in-Some.after.now first c.in-Some.op c.args.level c.args.depth e ps E i j h least
    (subst (λ n. nat_lt most_depth (c.args.depth + 1 + n) ≡ false) c.loop-op.left.measured c.in_ok-within.ensures.1))
    (c.in_err-right.ensures.gives total (behind_operand c.args.depth c.in-Some.op e ∷ ps) E below)

pub operators-loop-op-preserved : goal.operators-loop-op-preserved
operators-loop-op-preserved t c = record {
  so_far = λ total ps E h.
      let e = expression_of c.loop-op.left.expr in
      let (first, i, j, least) = c.in-Some.ensures in
      let below : nat_lt (binary_level c.in-Some.op) (c.level_of.result + 1) ≡ true = rw c.level_of.ensures (grind (arith, nat_tests)) in
      let ends : nat_lt (first_level c.in_ok-right.more.now) (binary_level c.in-Some.op + 1) ≡ true = subst (λ n. nat_lt (first_level c.in_ok-right.more.now) (n + 1) ≡ true) c.level_of.ensures c.in_ok-right.ensures.ends in
      c.loop-op.invariant.so_far total ps E h
      ∙ operator_taken total c.args.end c.loop-op.rest.now c.in-Some.after.now first c.in-Some.op c.args.level c.args.depth e ps E i j h least
      (subst (λ n. nat_lt most_depth (c.args.depth + 1 + n) ≡ false) c.loop-op.left.measured c.in_ok-within.ensures.1)
      ∙ c.in_ok-right.ensures.gives total (behind_operand c.args.depth c.in-Some.op e ∷ ps) E below
      ∙ operator_settles total c.args.end c.in_ok-right.more.now (c.args.depth + 1) (expression_of c.in_ok-right.right.expr) c.args.depth c.in-Some.op e ps E ends
      ∙ ap (λ x. read total c.args.end c.in_ok-right.more.now (have_operand c.args.depth x ps E)) (sym c.in_ok-left-2.ensures.gives);
  shorter = let k = ap length c.in-Some.ensures.1 in omega (arith, k, c.in_ok-right.ensures.shorter, c.loop-op.invariant.shorter);
  low = omega (arith, c.in_ok-left-2.ensures.levels, c.in_ok-within.ensures.0, c.in_ok-right.ensures.low);
}
