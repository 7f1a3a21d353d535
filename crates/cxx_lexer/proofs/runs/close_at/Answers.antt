use Rattle.std.proofs.Common.{◌≡◌, false, drop, codes, sym, ap, ◌∙◌}
use Rattle.cxx_ast.specs.Lexeme.{begins_with}
use Rattle.cxx_lexer.proofs.Comments.{close_past}
use Rattle.cxx_lexer.proofs.Slices.{rest_slice}
use Rattle.cxx_lexer.proofs.runs.close_at.Goals as goal

pub loop-at-preserved : goal.loop-at-preserved
loop-at-preserved c =
    let none : begins_with (codes "*/") (drop c.loop-at.at c.args.text.now) ≡ false =
    ap (begins_with (codes "*/")) (sym (rest_slice c.args.text.now c.loop-at.at)) ∙ sym c.starts_with.ensures.value ∙ c.if-starts_with.false in
    sym (close_past c.loop-at.at c.args.text.now c.loop-at.at c.loop-at-test.true none) ∙ c.loop-at.invariant
