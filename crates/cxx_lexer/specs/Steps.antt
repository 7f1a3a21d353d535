-- How a source is read, part by part.
use Rattle.std.specs.Prelude.{ℕ, ◌+◌, ◌≡◌, List, [], ◌∷◌, ◌++◌, length, drop, Result, Ok, Err}
use Rattle.cxx_ast.specs.declared.token.Token.{Token}
use Rattle.cxx_ast.specs.Lex.{Part, bytes_of, IsPart, text_of, AreParts, tokens_at}
use Rattle.cxx_ast.specs.LexFault.{bad_byte, literal_range, open_comment, too_many_tokens}
use Rattle.cxx_lexer.specs.FrontOf.{IsFault}
use Rattle.cxx_lexer.specs.declared.error.LexError.{LexError}
use Rattle.cxx_lexer.specs.declared.error.LexError.TheVariants as errors

-- One part more was read, from a place to the next, and its token added where it is one.
pub record IsStep (source : List ℕ) (place : ℕ) (before after : List Token) (next : ℕ) : Type 0 where
  pub part : Part
  pub spelled : bytes_of part ++ drop next source ≡ drop place source
  pub stands : IsPart part (drop next source)
  pub reached : place + length (bytes_of part) ≡ next
  pub told : after ≡ before ++ tokens_at place (part ∷ [])

-- what reading a part gave
abbrev pub Steps : List ℕ → ℕ → List Token → List Token → Result ℕ LexError → Type 0
Steps source place before after (Ok next) = IsStep source place before after next
Steps source place before after (Err (errors.BadByte at)) = IsFault bad_byte place (length before) (drop place source) at
Steps source place before after (Err (errors.LiteralRange at)) = IsFault literal_range place (length before) (drop place source) at
Steps source place before after (Err (errors.OpenComment at)) = IsFault open_comment place (length before) (drop place source) at
Steps source place before after (Err (errors.TooManyTokens at)) = IsFault too_many_tokens place (length before) (drop place source) at
Steps source place before after (Err errors.NoMemory) = Unit {0}

-- The source was read up to a place, and these are its tokens so far.
pub record IsReadTo (source : List ℕ) (place : ℕ) (tokens : List Token) : Type 0 where
  pub parts : List Part
  pub covered : text_of parts ++ drop place source ≡ source
  pub stand : AreParts parts (drop place source)
  pub reached : length (text_of parts) ≡ place
  pub told : tokens_at 0 parts ≡ tokens
