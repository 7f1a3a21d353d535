-- Why a source has no tokens: the first fault in it.
use Rattle.std.specs.Prelude.{ℕ, ◌≡◌, ◌≤◌, true, false, List, [], ◌∷◌, ◌++◌, length, codes, None}
use Rattle.cxx_ast.specs.declared.token.TokenKind.{TokenKind}
use Rattle.cxx_ast.specs.Bytes.{is_blank}
use Rattle.cxx_ast.specs.Literal.{literal_value}
use Rattle.cxx_ast.specs.Lexeme.{is_numeral, is_lexeme, IsLongest, begins_comment, has_close}
use Rattle.cxx_ast.specs.Lex.{Part, token, IsPart, text_of, AreParts, tokens_at}
use Rattle.cxx_ast.specs.Limits.{most_tokens}

pub data Fault : Type 0 where
  bad_byte literal_range open_comment too_many_tokens : Fault

-- The first byte of a text begins no blank, no comment and no token.
abbrev pub BeginsNothing : List ℕ → Type 0
BeginsNothing [] = ⊥
BeginsNothing (b ∷ bs) =
    (is_blank b ≡ false) × (begins_comment (b ∷ bs) ≡ false)
    × ((bytes rest : List ℕ) → bytes ++ rest ≡ b ∷ bs → is_lexeme bytes ≡ false)

-- A fault stands where a text begins that has so many tokens before it.
abbrev pub StandsBefore : Fault → ℕ → List ℕ → Type 0
StandsBefore bad_byte count text = BeginsNothing text
StandsBefore literal_range count text =
    (run : List ℕ) × (rest : List ℕ) × (text ≡ run ++ rest) × (is_numeral run ≡ true) × IsLongest run rest × (literal_value run ≡ None)
StandsBefore open_comment count text = (rest : List ℕ) × (text ≡ codes "/*" ++ rest) × (has_close rest ≡ false)
StandsBefore too_many_tokens count text =
    (kind : TokenKind) × (bytes : List ℕ) × (rest : List ℕ) × (text ≡ bytes ++ rest) × IsPart (token kind bytes) rest × (count ≡ most_tokens)

-- The first fault of a source stands at a place: before it there are parts without a fault.
pub record FirstFault (source : List ℕ) (fault : Fault) (place : ℕ) : Type 0 where
  pub parts : List Part
  pub rest : List ℕ
  pub covered : text_of parts ++ rest ≡ source
  pub stand : AreParts parts rest
  pub reached : length (text_of parts) ≡ place
  pub few : length (tokens_at 0 parts) ≤ most_tokens
  pub faulty : StandsBefore fault (length (tokens_at 0 parts)) rest
