-- Some bytes are a token of one kind at most.
use Rattle.std.proofs.Common.{◌≡◌, ℕ, ℤ, pos, Bool, true, false, List, [], ◌∷◌, Some, None, cond, refl, sym, ap, ◌∙◌, subst, arith}
use Rattle.std.specs.Char.{is_ascii_digit}
use Rattle.std.specs.List.{list_all}
use Rattle.std.specs.Option.{option_map}
use Rattle.cxx_ast.specs.declared.keyword.Keyword.{Keyword}
use Rattle.cxx_ast.specs.declared.mark.Mark.{Mark}
use Rattle.cxx_ast.specs.declared.token.TokenKind.{TokenKind}
use Rattle.cxx_ast.specs.declared.token.TokenKind.TheVariants as kind
use Rattle.cxx_ast.specs.Bytes.{is_digit, is_letter, is_word_byte}
use Rattle.cxx_ast.specs.Literal.{is_decimal, int_of, literal_value}
use Rattle.cxx_ast.specs.Lexeme.{keyword_of, mark_of, is_word, is_numeral, IsKind}
use Rattle.cxx_lexer.proofs.ByteTests.{both, first_passes, is_mark_byte, letter_no_digit, letter_is_word, digit_is_word}
use Rattle.cxx_lexer.proofs.Spellings.{keyword_spelled, keyword_is_word}
use Rattle.cxx_lexer.proofs.Numbers.{IsDigits, decimal_is_digits}
use Rattle.cxx_lexer.proofs.Longest.{spelled_first, apart}

word_first : (bytes : List ℕ) → is_word bytes ≡ true → first_passes is_letter bytes ≡ true
word_first [] e = cc
word_first (b ∷ bs) e = (both (is_letter b) (list_all is_word_byte bs) e).0

numeral_first : (bytes : List ℕ) → is_numeral bytes ≡ true → first_passes is_digit bytes ≡ true
numeral_first [] e = cc
numeral_first (b ∷ bs) e = (both (is_digit b) (list_all is_word_byte bs) e).0

digits_first : (bytes : List ℕ) → IsDigits bytes → first_passes is_digit bytes ≡ true
digits_first [] d = let some = d.some in absurd (omega arith)
digits_first (b ∷ bs) d = (both (is_ascii_digit b) (list_all is_ascii_digit bs) d.digits).0

value_decimal : (bytes : List ℕ) (n : ℤ) (b : Bool) → option_map pos (cond b (int_of bytes) None) ≡ Some n → b ≡ true
value_decimal bytes n true e = refl
value_decimal bytes n false e = cc

number_first : (bytes : List ℕ) (n : ℤ) → option_map pos (literal_value bytes) ≡ Some n → first_passes is_digit bytes ≡ true
number_first bytes n e = digits_first bytes (decimal_is_digits bytes (value_decimal bytes n (is_decimal bytes) e))

-- no byte is a letter and a digit, and a mark's first byte is neither
letter_digit : (bytes : List ℕ) → first_passes is_letter bytes ≡ true → first_passes is_digit bytes ≡ true → ⊥
letter_digit [] e f = cc
letter_digit (b ∷ bs) e f = let no : is_digit b ≡ false = letter_no_digit b e in cc

letter_mark : (bytes : List ℕ) → first_passes is_letter bytes ≡ true → first_passes is_mark_byte bytes ≡ true → ⊥
letter_mark [] e f = cc
letter_mark (b ∷ bs) e f = apart b (letter_is_word b e) f

digit_mark : (bytes : List ℕ) → first_passes is_digit bytes ≡ true → first_passes is_mark_byte bytes ≡ true → ⊥
digit_mark [] e f = cc
digit_mark (b ∷ bs) e f = apart b (digit_is_word b e) f

keyword_first : (bytes : List ℕ) (k : Keyword) → keyword_of bytes ≡ Some k → first_passes is_letter bytes ≡ true
keyword_first bytes k e = word_first bytes (subst (λ (xs : List ℕ). is_word xs ≡ true) (keyword_spelled bytes k e) (keyword_is_word k))

mark_first_of : (bytes : List ℕ) (m : Mark) → mark_of bytes ≡ Some m → first_passes is_mark_byte bytes ≡ true
mark_first_of bytes m e = spelled_first bytes (record { mark = m; is = e })

pub kind_unique : (j k : TokenKind) (bytes : List ℕ) → IsKind j bytes → IsKind k bytes → j ≡ k
kind_unique (kind.Name s) (kind.Name t) bytes a b = ap kind.Name (a.0 ∙ sym b.0)
kind_unique (kind.Name s) (kind.Word w) bytes a b = let none = a.2 in cc
kind_unique (kind.Name s) (kind.Number n) bytes a b = absurd (letter_digit bytes (word_first bytes a.1) (number_first bytes n b))
kind_unique (kind.Name s) (kind.Mark m) bytes a b = absurd (letter_mark bytes (word_first bytes a.1) (mark_first_of bytes m b))
kind_unique (kind.Word v) (kind.Name t) bytes a b = let none = b.2 in cc
kind_unique (kind.Word v) (kind.Word w) bytes a b = let same : v ≡ w = cc in ap kind.Word same
kind_unique (kind.Word v) (kind.Number n) bytes a b = absurd (letter_digit bytes (keyword_first bytes v a) (number_first bytes n b))
kind_unique (kind.Word v) (kind.Mark m) bytes a b = absurd (letter_mark bytes (keyword_first bytes v a) (mark_first_of bytes m b))
kind_unique (kind.Number n) (kind.Name t) bytes a b = absurd (letter_digit bytes (word_first bytes b.1) (number_first bytes n a))
kind_unique (kind.Number n) (kind.Word w) bytes a b = absurd (letter_digit bytes (keyword_first bytes w b) (number_first bytes n a))
kind_unique (kind.Number n) (kind.Number k) bytes a b = let same : n ≡ k = cc in ap kind.Number same
kind_unique (kind.Number n) (kind.Mark m) bytes a b = absurd (digit_mark bytes (number_first bytes n a) (mark_first_of bytes m b))
kind_unique (kind.Mark m) (kind.Name t) bytes a b = absurd (letter_mark bytes (word_first bytes b.1) (mark_first_of bytes m a))
kind_unique (kind.Mark m) (kind.Word w) bytes a b = absurd (letter_mark bytes (keyword_first bytes w b) (mark_first_of bytes m a))
kind_unique (kind.Mark m) (kind.Number n) bytes a b = absurd (digit_mark bytes (number_first bytes n b) (mark_first_of bytes m a))
kind_unique (kind.Mark m) (kind.Mark l) bytes a b = let same : m ≡ l = cc in ap kind.Mark same

-- a numeral that is no literal is no token
pub numeral_no_kind : (k : TokenKind) (bytes : List ℕ) → is_numeral bytes ≡ true → literal_value bytes ≡ None → IsKind k bytes → ⊥
numeral_no_kind (kind.Name s) bytes n none a = letter_digit bytes (word_first bytes a.1) (numeral_first bytes n)
numeral_no_kind (kind.Word w) bytes n none a = letter_digit bytes (keyword_first bytes w a) (numeral_first bytes n)
numeral_no_kind (kind.Number v) bytes n none a = let nothing : option_map pos (literal_value bytes) ≡ None = ap (option_map pos) none in cc
numeral_no_kind (kind.Mark m) bytes n none a = digit_mark bytes (numeral_first bytes n) (mark_first_of bytes m a)
