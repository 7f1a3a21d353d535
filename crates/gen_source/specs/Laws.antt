-- What holds of the source of each size.
use Rattle.std.specs.Prelude.{ℕ, ◌≡◌, ◌+◌, ◌*◌, ◌^◌, ◌≤◌, List, length}
use Rattle.cxx_ast.specs.declared.standard.Std.TheVariants.{Cxx03}
use Rattle.cxx_ast.specs.declared.token.Token.{Token}
use Rattle.cxx_ast.specs.Plain.{Program}
use Rattle.cxx_ast.specs.Lex.{Lex}
use Rattle.cxx_ast.specs.Tree.{Tree}
use Rattle.cxx_ast.specs.Broken.{Valid}
use Rattle.cxx_front.specs.Fate.{HasOnly, refused}
use Rattle.gen_source.specs.Source.{generated}

-- the greatest size
abbrev pub most : ℕ
most = 2000

-- The source of a size is a program that breaks no rule of ISO/IEC 14882:2003, has 31 tokens for each function that catches and 73 more, and is no longer than a source may be.
pub record IsSource (n : ℕ) : Type 0 where
  pub tokens : List Token
  pub program : Program
  pub lexed : Lex (generated n) tokens
  pub tree : Tree tokens (length (generated n)) program
  pub valid : Valid Cxx03 program
  pub counted : program.tokens ≡ 31 * n + 73
  pub short : length (generated n) ≤ 2 ^ 20

abbrev pub SourcesAreValid : Type 0
SourcesAreValid = (n : ℕ) → n ≤ most → IsSource n

-- none is refused, by no number and at no place
abbrev pub NoneIsRefused : Type 0
NoneIsRefused = (n : ℕ) → n ≤ most → (number place : ℕ) → HasOnly Cxx03 (generated n) (refused number place) → ⊥
