-- Whether parts stand one behind the other, by a test that computes.
use Rattle.std.proofs.Common.{◌≡◌, ◌∙◌, refl, sym, ap, subst, ℕ, ℤ, pos, negsuc, ◌&&◌, not, Bool, true, false, List, [], ◌∷◌, ◌++◌, Option, Some, None, find, bytes_eq, nat_eq}
use Rattle.std.specs.Prelude.{is_some}
use Rattle.std.proofs.lemmas.Bool.{eqb-true}
use Rattle.std.specs.List.{list_all}
use Rattle.cxx_ast.specs.declared.keyword.Keyword.{Keyword}
use Rattle.cxx_ast.specs.declared.keyword.Keyword.TheVariants as keyword
use Rattle.cxx_ast.specs.declared.mark.Mark.{Mark}
use Rattle.cxx_ast.specs.declared.token.TokenKind.TheVariants as kind
use Rattle.cxx_ast.specs.Bytes.{is_blank, is_word_byte}
use Rattle.cxx_ast.specs.Keywords as Keywords
use Rattle.cxx_ast.specs.Marks as Marks
use Rattle.cxx_ast.specs.Lex.{Part, blank, line_comment, block_comment, token, IsPart, AreParts, text_of}
use Rattle.cxx_ast.specs.Lexeme.{keyword_of, mark_of, is_word, is_numeral, begins_comment}
use Rattle.cxx_ast.specs.Literal.{literal_value}
use Rattle.cxx_lexer.proofs.ByteTests.{both, first_passes, same_bytes}
use Rattle.cxx_lexer.proofs.Longest.{begins_mark}
use Rattle.cxx_lexer.proofs.Spellings.{keyword_is_word, mark_again}
use Rattle.gen_source.proofs.Tokens.{word_part, name_part, number_part, mark_part}

-- a run of word bytes ends before a text
abbrev ends : List ℕ → List ℕ → Bool
ends bytes [] = false
ends bytes (b ∷ rest) = first_passes is_word_byte bytes && (list_all is_word_byte bytes && not (is_word_byte b))

-- a literal has this value
abbrev has_value : ℤ → Option ℕ → Bool
has_value n None = false
has_value (pos n) (Some m) = nat_eq n m
has_value (negsuc n) (Some m) = false

-- a mark that was found is this one
abbrev is_that : Mark → Option Mark → Bool
is_that m None = false
is_that m (Some k) = bytes_eq (Marks.spelling k) (Marks.spelling m)

-- a part stands before a text; comments are not judged
abbrev pub stands : Part → List ℕ → Bool
stands (blank b) rest = is_blank b
stands (line_comment text) rest = false
stands (block_comment text) rest = false
stands (token (kind.Word k) bytes) rest = bytes_eq bytes (Keywords.spelling k) && ends bytes rest
stands (token (kind.Name text) bytes) rest = bytes_eq text bytes && (is_word bytes && (not (is_some (keyword_of bytes)) && ends bytes rest))
stands (token (kind.Number n) bytes) rest = has_value n (literal_value bytes) && (is_numeral bytes && ends bytes rest)
stands (token (kind.Mark m) bytes) rest = bytes_eq bytes (Marks.spelling m) && (is_that m (find (begins_mark (Marks.spelling m ++ rest)) Marks.marks) && not (begins_comment (Marks.spelling m ++ rest)))

abbrev pub all_stand : List Part → List ℕ → Bool
all_stand [] rest = true
all_stand (p ∷ ps) rest = stands p (text_of ps ++ rest) && all_stand ps rest

-- ---- what passes stands
is_false : (b : Bool) → not b ≡ true → b ≡ false
is_false true e = cc
is_false false e = refl

keyword_again : (k : Keyword) → keyword_of (Keywords.spelling k) ≡ Some k
unfolding Keywords.spelling
keyword_again keyword.Asm = refl
keyword_again _ = refl

-- a run that ends, with what is said of its bytes
module _ (bytes : List ℕ) where
  word_stands : (k : Keyword) (rest : List ℕ) → bytes ≡ Keywords.spelling k → ends bytes rest ≡ true → IsPart (token (kind.Word k) bytes) rest
  word_stands k [] is run = absurd cc
  word_stands k (b ∷ rest) is run =
      let (first, more) = both (first_passes is_word_byte bytes) (list_all is_word_byte bytes && not (is_word_byte b)) run in
      let (all, last) = both (list_all is_word_byte bytes) (not (is_word_byte b)) more in
      word_part k bytes b rest (ap keyword_of is ∙ keyword_again k) (ap is_word is ∙ keyword_is_word k) first all (is_false (is_word_byte b) last)

  name_stands : (rest : List ℕ) → is_word bytes ≡ true → keyword_of bytes ≡ None → ends bytes rest ≡ true → IsPart (token (kind.Name bytes) bytes) rest
  name_stands [] word free run = absurd cc
  name_stands (b ∷ rest) word free run =
      let (first, more) = both (first_passes is_word_byte bytes) (list_all is_word_byte bytes && not (is_word_byte b)) run in
      let (all, last) = both (list_all is_word_byte bytes) (not (is_word_byte b)) more in
      name_part bytes b rest free word first all (is_false (is_word_byte b) last)

  number_stands : (n : ℕ) (rest : List ℕ) → literal_value bytes ≡ Some n → is_numeral bytes ≡ true → ends bytes rest ≡ true → IsPart (token (kind.Number (pos n)) bytes) rest
  number_stands n [] is numeral run = absurd cc
  number_stands n (b ∷ rest) is numeral run =
      let (first, more) = both (first_passes is_word_byte bytes) (list_all is_word_byte bytes && not (is_word_byte b)) run in
      let (all, last) = both (list_all is_word_byte bytes) (not (is_word_byte b)) more in
      number_part n bytes b rest is numeral first all (is_false (is_word_byte b) last)

none_is : (o : Option Keyword) → not (is_some o) ≡ true → o ≡ None
none_is None e = refl
none_is (Some k) e = absurd cc

value_is : (n : ℕ) (o : Option ℕ) → has_value (pos n) o ≡ true → o ≡ Some n
value_is n None e = absurd cc
value_is n (Some m) e = ap (λ (k : ℕ). Some k) (sym (eqb-true n m e))

mark_is : (m : Mark) (o : Option Mark) → is_that m o ≡ true → o ≡ Some m
mark_is m None e = absurd cc
mark_is m (Some k) e = sym (mark_again k) ∙ ap mark_of (same_bytes (Marks.spelling k) (Marks.spelling m) e) ∙ mark_again m

part_stands : (p : Part) (rest : List ℕ) → stands p rest ≡ true → IsPart p rest
part_stands (blank b) rest h = h
part_stands (line_comment text) rest h = absurd cc
part_stands (block_comment text) rest h = absurd cc
part_stands (token (kind.Word k) bytes) rest h =
    let (same, run) = both (bytes_eq bytes (Keywords.spelling k)) (ends bytes rest) h in word_stands bytes k rest (same_bytes bytes (Keywords.spelling k) same) run
part_stands (token (kind.Name text) bytes) rest h =
    let (same, more) = both (bytes_eq text bytes) (is_word bytes && (not (is_some (keyword_of bytes)) && ends bytes rest)) h in
    let (word, others) = both (is_word bytes) (not (is_some (keyword_of bytes)) && ends bytes rest) more in
    let (free, run) = both (not (is_some (keyword_of bytes))) (ends bytes rest) others in
    subst (λ (t : List ℕ). IsPart (token (kind.Name t) bytes) rest) (sym (same_bytes text bytes same)) (name_stands bytes rest word (none_is (keyword_of bytes) free) run)
part_stands (token (kind.Number (negsuc n)) bytes) rest h = by (literal_value bytes) h
  where
    by : (o : Option ℕ) → (has_value (negsuc n) o && (is_numeral bytes && ends bytes rest)) ≡ true → IsPart (token (kind.Number (negsuc n)) bytes) rest
    by None e = absurd cc
    by (Some m) e = absurd cc
part_stands (token (kind.Number (pos n)) bytes) rest h =
    let (value, more) = both (has_value (pos n) (literal_value bytes)) (is_numeral bytes && ends bytes rest) h in
    let (numeral, run) = both (is_numeral bytes) (ends bytes rest) more in number_stands bytes n rest (value_is n (literal_value bytes) value) numeral run
part_stands (token (kind.Mark m) bytes) rest h =
    let found = find (begins_mark (Marks.spelling m ++ rest)) Marks.marks in
    let (same, more) = both (bytes_eq bytes (Marks.spelling m)) (is_that m found && not (begins_comment (Marks.spelling m ++ rest))) h in
    let (that, comment) = both (is_that m found) (not (begins_comment (Marks.spelling m ++ rest))) more in
    subst (λ (t : List ℕ). IsPart (token (kind.Mark m) t) rest) (sym (same_bytes bytes (Marks.spelling m) same))
    (mark_part m rest (mark_is m found that) (is_false (begins_comment (Marks.spelling m ++ rest)) comment))

pub parts_stand : (ps : List Part) (rest : List ℕ) → all_stand ps rest ≡ true → AreParts ps rest
parts_stand [] rest h = tt
parts_stand (p ∷ ps) rest h =
    let (first, more) = both (stands p (text_of ps ++ rest)) (all_stand ps rest) h in (part_stands p (text_of ps ++ rest) first, parts_stand ps rest more)
