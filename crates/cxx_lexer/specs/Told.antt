-- What the answers of the lexer mean.
use Rattle.std.specs.Prelude.{ℕ, ◌≡◌, List, Result, Ok, Err, IsOkAnd}
use Rattle.std.specs.Global.{Vec}
use Rattle.cxx_ast.specs.declared.token.Token.{Token}
use Rattle.cxx_ast.specs.Lex.{Lex}
use Rattle.cxx_ast.specs.LexFault.{FirstFault, bad_byte, literal_range, open_comment, too_many_tokens}
use Rattle.cxx_lexer.specs.declared.error.LexError.{LexError}
use Rattle.cxx_lexer.specs.declared.error.LexError.TheVariants as errors

-- what the lexer answers
abbrev pub Answer : Type 0
Answer = Result (Vec Token) LexError

-- a fact, unless memory ran out
abbrev pub UnlessNoMemory : Answer → Type 0 → Type 0
UnlessNoMemory (Ok tokens) P = P
UnlessNoMemory (Err (errors.BadByte place)) P = P
UnlessNoMemory (Err (errors.LiteralRange place)) P = P
UnlessNoMemory (Err (errors.OpenComment place)) P = P
UnlessNoMemory (Err (errors.TooManyTokens place)) P = P
UnlessNoMemory (Err errors.NoMemory) P = Unit {0}

-- The answer is these tokens.
abbrev pub IsTokens : Answer → List Token → Type 0
IsTokens answer tokens = IsOkAnd answer (λ v. v.items ≡ tokens)

-- what each answer says of the source
abbrev pub Tells : List ℕ → Answer → Type 0
Tells source (Ok tokens) = Lex source tokens.items
Tells source (Err (errors.BadByte place)) = FirstFault source bad_byte place
Tells source (Err (errors.LiteralRange place)) = FirstFault source literal_range place
Tells source (Err (errors.OpenComment place)) = FirstFault source open_comment place
Tells source (Err (errors.TooManyTokens place)) = FirstFault source too_many_tokens place
Tells source (Err errors.NoMemory) = Unit {0}
