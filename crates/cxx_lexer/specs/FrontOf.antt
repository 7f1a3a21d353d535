-- What stands at the start of a text.
use Rattle.std.specs.Prelude.{ℕ, ◌≡◌, ◌<◌, ◌≤◌, List, [], ◌∷◌, ◌++◌, length, take, drop, Result, Ok, Err}
use Rattle.cxx_ast.specs.declared.token.TokenKind.{TokenKind}
use Rattle.cxx_ast.specs.declared.token.TokenKind.TheVariants as kind
use Rattle.cxx_ast.specs.Lex.{Part, token, bytes_of, IsPart, tokens_at}
use Rattle.cxx_ast.specs.LexFault.{Fault, bad_byte, literal_range, open_comment, StandsBefore}
use Rattle.cxx_lexer.specs.declared.error.LexError.{LexError}
use Rattle.cxx_lexer.specs.declared.error.LexError.TheVariants as errors
use Rattle.cxx_lexer.specs.declared.front.Lexeme.{Lexeme}
use Rattle.cxx_lexer.specs.declared.front.Lexeme.TheVariants as lexeme
use Rattle.cxx_lexer.specs.declared.front.Front.{Front}
use Rattle.cxx_lexer.specs.declared.front.Front.TheVariants.{Gap, Token as TokenFront}

-- A text begins with a blank or a comment of so many bytes.
pub record IsGap (text : List ℕ) (size : ℕ) : Type 0 where
  pub part : Part
  pub silent : (place : ℕ) → tokens_at place (part ∷ []) ≡ []
  pub sized : length (bytes_of part) ≡ size
  pub some : 0 < size
  pub spelled : bytes_of part ++ drop size text ≡ text
  pub stands : IsPart part (drop size text)

-- A text begins with a token of a kind and of so many bytes.
pub record IsToken (text : List ℕ) (kind : TokenKind) (size : ℕ) : Type 0 where
  pub some : 0 < size
  pub within : size ≤ length text
  pub stands : IsPart (token kind (take size text)) (drop size text)

-- the kind of a token by its lexeme and its bytes
abbrev pub kind_of : Lexeme → List ℕ → TokenKind
kind_of lexeme.Name bytes = kind.Name bytes
kind_of (lexeme.Number n) bytes = kind.Number n
kind_of (lexeme.Word k) bytes = kind.Word k
kind_of (lexeme.Mark m) bytes = kind.Mark m

-- a fault at a place, where a text begins that has so many tokens before it
abbrev pub IsFault : Fault → (place count : ℕ) → List ℕ → ℕ → Type 0
IsFault fault place count text at = (at ≡ place) × StandsBefore fault count text

-- what was found at the start of a text that stands at a place
abbrev pub Fronts : List ℕ → ℕ → Result Front LexError → Type 0
Fronts text place (Ok (Gap size)) = IsGap text size
Fronts text place (Ok (TokenFront lexeme size)) = IsToken text (kind_of lexeme (take size text)) size
Fronts text place (Err (errors.BadByte at)) = IsFault bad_byte place 0 text at
Fronts text place (Err (errors.LiteralRange at)) = IsFault literal_range place 0 text at
Fronts text place (Err (errors.OpenComment at)) = IsFault open_comment place 0 text at
Fronts text place (Err (errors.TooManyTokens at)) = ⊥
Fronts text place (Err errors.NoMemory) = ⊥
