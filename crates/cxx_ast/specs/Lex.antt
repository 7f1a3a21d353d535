-- The tokens of a source. A source is cut into parts, which are blanks, comments and tokens; each token is the longest lexeme at its place, and
-- none begins where a comment does (ISO/IEC 14882:2003, 2.1, 2.4, 2.7).
use Rattle.std.specs.Prelude.{ℕ, ◌+◌, ◌≡◌, ◌≤◌, true, false, not, ◌==◌, List, [], ◌∷◌, ◌++◌, length, codes}
use Rattle.std.specs.List.{list_all}
use Rattle.cxx_ast.specs.declared.token.Token.{Token}
use Rattle.cxx_ast.specs.declared.token.TokenKind.{TokenKind}
use Rattle.cxx_ast.specs.Bytes.{is_blank}
use Rattle.cxx_ast.specs.Lexeme.{IsLongest, IsKind, begins_comment, has_close}
use Rattle.cxx_ast.specs.Limits.{most_tokens}

-- a part of a source: a blank; a comment, by the text behind `//` or between `/*` and `*/`; or a token with its bytes
pub data Part : Type 0 where
  blank : ℕ → Part
  line_comment : List ℕ → Part
  block_comment : List ℕ → Part
  token : TokenKind → List ℕ → Part

-- the bytes of a part
abbrev pub bytes_of : Part → List ℕ
bytes_of (blank b) = b ∷ []
bytes_of (line_comment text) = codes "//" ++ text
bytes_of (block_comment text) = codes "/*" ++ text ++ codes "*/"
bytes_of (token kind bytes) = bytes

-- a line ends where a text begins: with the text, or by a line feed
abbrev pub EndsLine : List ℕ → Type 0
EndsLine [] = Unit {0}
EndsLine (b ∷ bs) = b ≡ 10

-- A part stands before the rest of a source.
abbrev pub IsPart : Part → List ℕ → Type 0
IsPart (blank b) rest = is_blank b ≡ true
IsPart (line_comment text) rest = (list_all (λ b. not (b == 10)) text ≡ true) × EndsLine rest
IsPart (block_comment text) rest = has_close text ≡ false
IsPart (token kind bytes) rest = IsKind kind bytes × IsLongest bytes rest × (begins_comment (bytes ++ rest) ≡ false)

-- the bytes of some parts
abbrev pub text_of : List Part → List ℕ
text_of [] = []
text_of (p ∷ ps) = bytes_of p ++ text_of ps

-- Parts stand one behind the other before the rest of a source.
abbrev pub AreParts : List Part → List ℕ → Type 0
AreParts [] rest = Unit {0}
AreParts (p ∷ ps) rest = IsPart p (text_of ps ++ rest) × AreParts ps rest

-- the tokens among some parts of which the first stands at a place, each with the place of its first byte
abbrev pub tokens_at : ℕ → List Part → List Token
tokens_at place [] = []
tokens_at place (token kind bytes ∷ ps) = record { kind = kind; place = place } ∷ tokens_at (place + length bytes) ps
tokens_at place (p ∷ ps) = tokens_at (place + length (bytes_of p)) ps

-- the tokens of a source, of which there are not too many
pub record Lex (source : List ℕ) (tokens : List Token) : Type 0 where
  pub parts : List Part
  pub covered : text_of parts ≡ source
  pub stand : AreParts parts []
  pub told : tokens_at 0 parts ≡ tokens
  pub few : length tokens ≤ most_tokens
