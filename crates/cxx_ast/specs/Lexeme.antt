-- What the tokens of a source look like (ISO/IEC 14882:2003, 2.4 to 2.13).
use Rattle.std.specs.Prelude.{ℕ, ◌≡◌, ◌≤◌, Bool, true, false, ◌&&◌, ◌||◌, List, [], ◌∷◌, ◌++◌, length, pos, bytes_eq, codes, nat_eq, Option, Some, None, is_some, find}
use Rattle.std.specs.List.{list_all, starts_with}
use Rattle.std.specs.Option.{option_map}
use Rattle.cxx_ast.specs.declared.keyword.Keyword.{Keyword}
use Rattle.cxx_ast.specs.declared.mark.Mark.{Mark}
use Rattle.cxx_ast.specs.declared.token.TokenKind.{TokenKind}
use Rattle.cxx_ast.specs.declared.token.TokenKind.TheVariants as kind
use Rattle.cxx_ast.specs.Bytes.{is_digit, is_letter, is_word_byte}
use Rattle.cxx_ast.specs.Keywords as Keywords
use Rattle.cxx_ast.specs.Marks as Marks
use Rattle.cxx_ast.specs.Literal.{literal_value}

-- the reserved word that some bytes spell (2.11)
abbrev pub keyword_of : List ℕ → Option Keyword
keyword_of bytes = find (λ k. bytes_eq (Keywords.spelling k) bytes) Keywords.keywords

-- the mark that some bytes spell (2.12)
abbrev pub mark_of : List ℕ → Option Mark
mark_of bytes = find (λ m. bytes_eq (Marks.spelling m) bytes) Marks.marks

-- a letter or `_`, then letters, digits and `_`: a name or a reserved word (2.10, 2.11)
abbrev pub is_word : List ℕ → Bool
is_word [] = false
is_word (b ∷ bs) = is_letter b && list_all is_word_byte bs

-- a digit, then letters, digits and `_`, be it a literal or none (2.9; without a dot, a sign or an exponent: profile)
abbrev pub is_numeral : List ℕ → Bool
is_numeral [] = false
is_numeral (b ∷ bs) = is_digit b && list_all is_word_byte bs

-- a word, a numeral or a mark
abbrev pub is_lexeme : List ℕ → Bool
is_lexeme bytes = is_word bytes || is_numeral bytes || is_some (mark_of bytes)

-- Some bytes are the longest lexeme that they and the text behind them begin with (2.4).
pub record IsLongest (bytes rest : List ℕ) : Type 0 where
  pub lexeme : is_lexeme bytes ≡ true
  pub longest : (more others : List ℕ) → more ++ others ≡ bytes ++ rest → is_lexeme more ≡ true → length more ≤ length bytes

-- Some bytes are a token of a kind (2.6). A word that is reserved is no name; a numeral is a literal by its value.
abbrev pub IsKind : TokenKind → List ℕ → Type 0
IsKind (kind.Name text) bytes = (text ≡ bytes) × (is_word bytes ≡ true) × (keyword_of bytes ≡ None)
IsKind (kind.Word k) bytes = keyword_of bytes ≡ Some k
IsKind (kind.Number n) bytes = option_map pos (literal_value bytes) ≡ Some n
IsKind (kind.Mark m) bytes = mark_of bytes ≡ Some m

-- A text begins with these bytes.
abbrev pub begins_with : List ℕ → List ℕ → Bool
begins_with bytes text = starts_with nat_eq text bytes

-- A comment begins here (2.7).
abbrev pub begins_comment : List ℕ → Bool
begins_comment text = begins_with (codes "//") text || begins_with (codes "/*") text

-- `*/` stands somewhere in a text.
abbrev pub has_close : List ℕ → Bool
has_close [] = false
has_close (b ∷ bs) = begins_with (codes "*/") (b ∷ bs) || has_close bs
