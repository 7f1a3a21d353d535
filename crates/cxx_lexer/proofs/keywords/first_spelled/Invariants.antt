use Rattle.std.proofs.Common.{◌≡◌, find, bytes_eq, drop}
use Rattle.cxx_ast.specs.Keywords.{spelling}
use Rattle.cxx_lexer.proofs.keywords.first_spelled.Given as goal

abbrev pub invariant-loop-word : goal.invariant-loop-word
invariant-loop-word l = find (λ k. bytes_eq (spelling k) l.bytes) (drop l.word-index l.words) ≡ find (λ k. bytes_eq (spelling k) l.bytes) l.words
