-- The one answer to a list of tokens: its tree, or why it has none, at the least place.
use Rattle.std.specs.Prelude.{ℕ, List, Ok, Err}
use Rattle.cxx_ast.specs.declared.token.Token.{Token}
use Rattle.cxx_ast.specs.Tree.{Tree, Unexpected, TooDeep}
use Rattle.cxx_parser.specs.Reading.{Answer, unexpected, too_deep}
use Rattle.cxx_parser.specs.declared.error.ParseError.{ParseError}
use Rattle.cxx_parser.specs.declared.error.ParseError.TheVariants as errors

-- a token is unexpected at a place, or the end is, and no earlier token makes each program too deep
abbrev pub UnexpectedFirst : List Token → ℕ → ℕ → Type 0
UnexpectedFirst tokens end place = Unexpected tokens end place × ((deep : ℕ) → TooDeep tokens deep → ⊥)

-- what tokens of a source of a length are
abbrev pub IsAnswer : List Token → ℕ → Answer → Type 0
IsAnswer tokens end (Ok p) = Tree tokens end p
IsAnswer tokens end (Err (unexpected place)) = UnexpectedFirst tokens end place
IsAnswer tokens end (Err (too_deep place)) = TooDeep tokens place

-- why tokens have no tree
abbrev pub IsRefusal : List Token → ℕ → ParseError → Type 0
IsRefusal tokens end (errors.Unexpected place) = UnexpectedFirst tokens end place
IsRefusal tokens end (errors.TooDeep place) = TooDeep tokens place
IsRefusal tokens end errors.NoMemory = Unit {0}
