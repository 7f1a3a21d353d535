use Rattle.std.proofs.Common.{◌≡◌, find, drop}
use Rattle.cxx_ast.specs.Lexeme.{begins_with}
use Rattle.cxx_ast.specs.Marks.{spelling}
use Rattle.cxx_lexer.proofs.marks.first_in.Given as goal

abbrev pub invariant-loop-mark : goal.invariant-loop-mark
invariant-loop-mark l = find (λ m. begins_with (spelling m) l.text) (drop l.mark-index l.marks) ≡ find (λ m. begins_with (spelling m) l.text) l.marks
