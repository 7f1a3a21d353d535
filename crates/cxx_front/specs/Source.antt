-- What a source is: a program, or refused by its tokens, by the grammar, or by the static rules, in this order.
use Rattle.std.specs.Prelude.{ℕ, ◌≡◌, ◌⊎◌, List, length, Some}
use Rattle.cxx_ast.specs.declared.standard.Std.{Std}
use Rattle.cxx_ast.specs.declared.token.Token.{Token}
use Rattle.cxx_ast.specs.Plain.{Program}
use Rattle.cxx_ast.specs.Lex.{Lex}
use Rattle.cxx_ast.specs.LexFault.{Fault, bad_byte, literal_range, open_comment, too_many_tokens, FirstFault}
use Rattle.cxx_ast.specs.Tree.{Tree, TooDeep}
use Rattle.cxx_ast.specs.Refused.{refused}
use Rattle.cxx_parser.specs.Answers.{UnexpectedFirst}

-- The tokens of a source have the tree.
pub record IsProgram (source : List ℕ) (p : Program) : Type 0 where
  pub tokens : List Token
  pub lexed : Lex source tokens
  pub tree : Tree tokens (length source) p

-- the number of a fault
abbrev pub number_of : Fault → ℕ
number_of bad_byte = 10
number_of literal_range = 11
number_of open_comment = 12
number_of too_many_tokens = 13

-- the source has no tokens, by its first fault
abbrev pub HasNoTokens : List ℕ → ℕ → ℕ → Type 0
HasNoTokens source number place = (fault : Fault) × FirstFault source fault place × (number ≡ number_of fault)

-- why the tokens have no tree
abbrev pub NoTree : List Token → ℕ → ℕ → ℕ → Type 0
NoTree tokens end number place = (UnexpectedFirst tokens end place × (number ≡ 20)) ⊎ (TooDeep tokens place × (number ≡ 21))

-- the source has tokens, and they have no tree
abbrev pub HasNoTree : List ℕ → ℕ → ℕ → Type 0
HasNoTree source number place = (tokens : List Token) × Lex source tokens × NoTree tokens (length source) number place

-- the source is a program, and breaks a static rule of a standard; of the rules that it breaks, this one answers
abbrev pub BreaksRule : Std → List ℕ → ℕ → ℕ → Type 0
BreaksRule std source number place = (p : Program) × IsProgram source p × (refused std p ≡ Some (number, place))

-- by a standard the source is refused by a number, at a place in bytes from its start
abbrev pub IsRefused : Std → List ℕ → ℕ → ℕ → Type 0
IsRefused std source number place = HasNoTokens source number place ⊎ (HasNoTree source number place ⊎ BreaksRule std source number place)
