use Rattle.std.proofs.Common.{◌-◌, ◌≤◌, length}
use Rattle.cxx_ast.specs.Limits.{most_tokens}
use Rattle.cxx_lexer.specs.Steps.{IsReadTo}
use Rattle.cxx_lexer.proofs.source.read_all.Given as goal

abbrev pub invariant-loop-place : goal.invariant-loop-place
invariant-loop-place l = IsReadTo l.source l.place l.tokens.items × (length l.tokens.items ≤ most_tokens) × (l.place ≤ length l.source)

abbrev pub decreases-loop-place : goal.decreases-loop-place
decreases-loop-place l = length l.source - l.place
