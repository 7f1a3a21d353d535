-- What stands at the start of a text, by what the code tests there.
use Rattle.std.proofs.Common.{◌≡◌, inl, inr, ℕ, ℤ, pos, suc, ◌+◌, ◌<◌, ◌≤◌, true, false, List, [], ◌∷◌, ◌++◌, length, take, drop, codes, Option, Some, None, find, take_while, nat_eq, slice_index, refl, sym, ap, ◌∙◌, subst, arith, append_assoc, length-append}
use Rattle.std.proofs.lemmas.Bool.{eqb-true}
use Rattle.std.proofs.Math.Seq.{drop-append_seam, take-append_seam}
use Rattle.std.proofs.lemmas.List.{length-take-le}
use Rattle.std.specs.List.{list_all}
use Rattle.std.specs.Option.{option_map}
use Rattle.cxx_ast.specs.declared.keyword.Keyword.{Keyword}
use Rattle.cxx_ast.specs.declared.mark.Mark.{Mark}
use Rattle.cxx_ast.specs.declared.token.TokenKind.{TokenKind}
use Rattle.cxx_ast.specs.declared.token.TokenKind.TheVariants as kind
use Rattle.cxx_ast.specs.Bytes.{is_blank, is_digit, is_letter, is_word_byte}
use Rattle.cxx_ast.specs.Literal.{literal_value}
use Rattle.cxx_ast.specs.Marks as Marks
use Rattle.cxx_ast.specs.Lexeme.{begins_with, begins_comment, keyword_of, is_word, is_numeral, is_lexeme, IsKind, IsLongest}
use Rattle.cxx_ast.specs.Lex.{blank, line_comment, block_comment, token, IsPart}
use Rattle.cxx_ast.specs.LexFault.{BeginsNothing, literal_range, open_comment, StandsBefore}
use Rattle.cxx_lexer.specs.Close.{close_from}
use Rattle.cxx_lexer.specs.FrontOf.{IsGap, IsToken}
use Rattle.cxx_lexer.proofs.ByteTests.{both, either, or_true, begins_is, first_passes, is_mark_byte}
use Rattle.cxx_lexer.proofs.Spellings.{found_passes, mark_again, mark_first}
use Rattle.cxx_lexer.proofs.Prefixes.{run, run_is, run_passes, run_splits, before_line_feed, line_ends}
use Rattle.cxx_lexer.proofs.Comments.{none_closes, first_close, Closes}
use Rattle.cxx_lexer.proofs.Longest.{run_is_longest, begins_mark, mark_is_longest, no_lexeme}

pub blank_front : (text : List ℕ) → 0 < length text → is_blank (slice_index text 0) ≡ true → IsGap text 1
blank_front [] some e = absurd (omega arith)
blank_front (b ∷ bs) some e = record { part = blank b; silent = λ place. refl; sized = refl; some = omega arith; spelled = refl; stands = e }

line_of : (rest : List ℕ) → IsGap (47 ∷ 47 ∷ rest) (suc (suc (length (run before_line_feed rest))))
line_of rest = record {
  part = line_comment (run before_line_feed rest);
  silent = λ place. refl;
  sized = refl;
  some = omega arith;
  spelled = ap (λ (xs : List ℕ). 47 ∷ 47 ∷ xs) (sym (run_splits before_line_feed rest));
  stands = (run_passes before_line_feed rest, line_ends rest);
}

pub line_front : (text : List ℕ) → begins_with (codes "//") text ≡ true → IsGap text (length (take_while before_line_feed text))
line_front text e =
    let splits : 47 ∷ 47 ∷ drop 2 text ≡ text = sym (begins_is (codes "//") text e) in
    let P : List ℕ → Type 0 = λ t. IsGap t (length (take_while before_line_feed t)) in
    subst P splits (subst (λ (n : ℕ). IsGap (47 ∷ 47 ∷ drop 2 text) n) (ap length (sym (run_is before_line_feed (47 ∷ 47 ∷ drop 2 text)))) (line_of (drop 2 text)))

block_of : (rest : List ℕ) (n : ℕ) → Closes rest n → IsGap (47 ∷ 42 ∷ rest) (suc (suc (suc (suc n))))
block_of rest n c = record {
  part = block_comment (take n rest);
  silent = λ place. refl;
  sized = let bound : suc (suc n) ≤ length rest = c.within in let size : length (take n rest) ≡ n = length-take-le n rest (omega arith) in omega (arith, size, length-append (take n rest) (codes "*/"));
  some = omega arith;
  spelled = ap (λ (xs : List ℕ). 47 ∷ 42 ∷ xs) (append_assoc (take n rest) (codes "*/") (drop (suc (suc n)) rest) ∙ sym c.spelled);
  stands = c.first;
}

pub block_front : (text : List ℕ) (n size : ℕ) → begins_with (codes "/*") text ≡ true → close_from 0 (drop 2 text) ≡ Some n → size ≡ n + 4 → IsGap text size
block_front text n size e close same =
    let (before, at, closes) = first_close 0 n (drop 2 text) close in
    let count : suc (suc (suc (suc before))) ≡ size = omega arith in
    let splits : 47 ∷ 42 ∷ drop 2 text ≡ text = sym (begins_is (codes "/*") text e) in
    subst (λ (t : List ℕ). IsGap t size) splits (subst (λ (k : ℕ). IsGap (47 ∷ 42 ∷ drop 2 text) k) count (block_of (drop 2 text) before closes))

pub close_within : (text : List ℕ) (n : ℕ) → close_from 0 text ≡ Some n → n + 2 ≤ length text
close_within text n close = let (before, at, closes) = first_close 0 n text close in let h : suc (suc before) ≤ length text = closes.within in omega arith

pub open_front : (text : List ℕ) → begins_with (codes "/*") text ≡ true → close_from 0 (drop 2 text) ≡ None → StandsBefore open_comment 0 text
open_front text e close = (drop 2 text, begins_is (codes "/*") text e, none_closes 0 (drop 2 text) close)

-- a text that begins with some token's bytes
pub token_front : (text bytes rest : List ℕ) (k : TokenKind) → bytes ++ rest ≡ text → 0 < length bytes → IsKind k bytes → IsLongest bytes rest → begins_comment text ≡ false → IsToken text k (length bytes)
token_front text bytes rest k splits some is longest no_comment =
    let front : bytes ≡ take (length bytes) text = sym (ap (λ (t : List ℕ). take (length bytes) t) (sym splits) ∙ take-append_seam bytes rest) in
    let back : rest ≡ drop (length bytes) text = sym (ap (λ (t : List ℕ). drop (length bytes) t) (sym splits) ∙ drop-append_seam bytes rest) in
    let P : List ℕ → List ℕ → Type 0 = λ b r. IsPart (token k b) r in
    let stands : IsPart (token k bytes) rest = (is, longest, subst (λ (t : List ℕ). begins_comment t ≡ false) (sym splits) no_comment) in
    record {
      some = some;
      within = omega (arith, ap length splits, length-append bytes rest);
      stands = subst (λ (b : List ℕ). P b (drop (length bytes) text)) front (subst (λ (r : List ℕ). P bytes r) back stands);
    }

-- a text whose first byte is not a slash begins no comment
pub slash_first : (b : ℕ) (bs : List ℕ) → nat_eq 47 b ≡ false → begins_comment (b ∷ bs) ≡ false
slash_first b bs e = rw e refl

pub word_no_slash : (b : ℕ) → is_word_byte b ≡ true → nat_eq 47 b ≡ false
word_no_slash b e = elim (nat_eq 47 b) as (λ x. nat_eq 47 b ≡ x → x ≡ false) [
  | true ↦ λ same. let is : 47 ≡ b = eqb-true 47 b same in let fails : is_word_byte 47 ≡ true = subst (λ c. is_word_byte c ≡ true) (sym is) e in cc
  | false ↦ λ same. refl
] refl

-- what is known of a text that begins with a word byte, and of its run of word bytes
pub record IsRunOf (text bytes rest : List ℕ) : Type 0 where
  pub splits : bytes ++ rest ≡ text
  pub some : 0 < length bytes
  pub first : slice_index bytes 0 ≡ slice_index text 0
  pub no_comment : begins_comment text ≡ false
  pub passes : first_passes is_word_byte bytes ≡ true
  pub all : list_all is_word_byte bytes ≡ true
  pub is : bytes ≡ run is_word_byte text

run_of : (text : List ℕ) → 0 < length text → is_word_byte (slice_index text 0) ≡ true → IsRunOf text (run is_word_byte text) (drop (length (run is_word_byte text)) text)
run_of [] some e = absurd (omega arith)
run_of (b ∷ bs) some e =
    let is : run is_word_byte (b ∷ bs) ≡ b ∷ run is_word_byte bs = rw e refl in
    record {
      splits = sym (run_splits is_word_byte (b ∷ bs));
      some = rw is (omega arith);
      first = rw is refl;
      no_comment = slash_first b bs (word_no_slash b e);
      passes = rw is e;
      all = run_passes is_word_byte (b ∷ bs);
      is = refl;
    }

pub taken_run : (text : List ℕ) (n : ℕ) → 0 < length text → is_word_byte (slice_index text 0) ≡ true → n ≡ length (take_while is_word_byte text) → IsRunOf text (take n text) (drop n text) × (n ≡ length (take n text))
taken_run text n some e count =
    let size : n ≡ length (run is_word_byte text) = count ∙ ap length (run_is is_word_byte text) in
    let splits = run_splits is_word_byte text in
    let front : run is_word_byte text ≡ take n text = sym (ap (λ (k : ℕ). take k text) size ∙ ap (λ (t : List ℕ). take (length (run is_word_byte text)) t) splits ∙ take-append_seam (run is_word_byte text) (drop (length (run is_word_byte text)) text)) in
    let back : drop (length (run is_word_byte text)) text ≡ drop n text = ap (λ (k : ℕ). drop k text) (sym size) in
    (subst (λ (b : List ℕ). IsRunOf text b (drop n text)) front (subst (λ (r : List ℕ). IsRunOf text (run is_word_byte text) r) back (run_of text some e)), size ∙ ap length front)

-- a text that begins with a run that is a lexeme
pub run_longest_of : (text bytes rest : List ℕ) → IsRunOf text bytes rest → is_lexeme bytes ≡ true → IsLongest bytes rest
run_longest_of text bytes rest r lexeme = run_is_longest bytes rest lexeme r.passes (r.is ∙ ap (run is_word_byte) (sym r.splits))

pub run_front : (text bytes rest : List ℕ) (k : TokenKind) (n : ℕ) → IsRunOf text bytes rest → n ≡ length bytes → is_lexeme bytes ≡ true → IsKind k bytes → IsToken text k n
run_front text bytes rest k n r size lexeme is =
    subst (λ (m : ℕ). IsToken text k m) (sym size) (token_front text bytes rest k r.splits r.some is (run_longest_of text bytes rest r lexeme) r.no_comment)

-- a run that begins with no digit is a word
pub run_is_word : (bytes : List ℕ) → first_passes is_word_byte bytes ≡ true → list_all is_word_byte bytes ≡ true → is_digit (slice_index bytes 0) ≡ false → is_word bytes ≡ true
run_is_word [] first all e = cc
run_is_word (b ∷ bs) first all e =
    let rest : list_all is_word_byte bs ≡ true = (both (is_word_byte b) (list_all is_word_byte bs) all).1 in
    let letter : is_letter b ≡ true = elim (either (is_letter b) (is_digit b) first) [ inl l ↦ l | inr d ↦ cc ] in
    rw letter rest

-- a run that begins with a digit is a numeral
pub run_is_numeral : (bytes : List ℕ) → first_passes is_word_byte bytes ≡ true → list_all is_word_byte bytes ≡ true → is_digit (slice_index bytes 0) ≡ true → is_numeral bytes ≡ true
run_is_numeral [] first all e = cc
run_is_numeral (b ∷ bs) first all e =
    let rest : list_all is_word_byte bs ≡ true = (both (is_word_byte b) (list_all is_word_byte bs) all).1 in
    rw e rest

pub word_is_lexeme : (bytes : List ℕ) → is_word bytes ≡ true → is_lexeme bytes ≡ true
word_is_lexeme bytes e = rw e refl

pub numeral_is_lexeme : (bytes : List ℕ) → is_numeral bytes ≡ true → is_lexeme bytes ≡ true
numeral_is_lexeme bytes e = rw (e, or_true (is_word bytes)) refl

-- a text that begins with no blank, no comment and no word byte
pub record IsOther (text : List ℕ) : Type 0 where
  pub some : 0 < length text
  pub no_blank : is_blank (slice_index text 0) ≡ false
  pub no_line : begins_with (codes "//") text ≡ false
  pub no_block : begins_with (codes "/*") text ≡ false
  pub no_word : is_word_byte (slice_index text 0) ≡ false

other_no_comment : (text : List ℕ) → IsOther text → begins_comment text ≡ false
other_no_comment text o = rw (o.no_line, o.no_block) refl

pub mark_front : (text : List ℕ) (m : Mark) → IsOther text → find (begins_mark text) Marks.marks ≡ Some m → IsToken text (kind.Mark m) (length (Marks.spelling m))
mark_front text m o found =
    let splits : Marks.spelling m ++ drop (length (Marks.spelling m)) text ≡ text = sym (begins_is (Marks.spelling m) text (found_passes (begins_mark text) Marks.marks m found)) in
    token_front text (Marks.spelling m) (drop (length (Marks.spelling m)) text) (kind.Mark m) splits (some_of (Marks.spelling m) (mark_first m)) (mark_again m)
    (mark_is_longest text (drop (length (Marks.spelling m)) text) m found splits) (other_no_comment text o)
  where
    some_of : (bytes : List ℕ) → first_passes is_mark_byte bytes ≡ true → 0 < length bytes
    some_of [] e = cc
    some_of (b ∷ bs) e = omega arith

pub bad_front : (text : List ℕ) → IsOther text → find (begins_mark text) Marks.marks ≡ None → BeginsNothing text
bad_front [] o none = absurd (let some = o.some in omega arith)
bad_front (b ∷ bs) o none = (o.no_blank, other_no_comment (b ∷ bs) o, no_lexeme (b ∷ bs) o.no_word none)

-- the exits of the code that reads a word or a literal
pub word_taken : (text : List ℕ) (n : ℕ) → IsRunOf text (take n text) (drop n text) → is_digit (slice_index text 0) ≡ false → is_word (take n text) ≡ true
word_taken text n r letter = run_is_word (take n text) r.passes r.all (ap is_digit r.first ∙ letter)

pub numeral_taken : (text : List ℕ) (n : ℕ) → IsRunOf text (take n text) (drop n text) → is_digit (slice_index text 0) ≡ true → is_numeral (take n text) ≡ true
numeral_taken text n r digit = run_is_numeral (take n text) r.passes r.all (ap is_digit r.first ∙ digit)

pub keyword_front : (text : List ℕ) (n : ℕ) (k : Keyword) → 0 < length text → is_word_byte (slice_index text 0) ≡ true → n ≡ length (take_while is_word_byte text) → is_digit (slice_index text 0) ≡ false → keyword_of (take n text) ≡ Some k → IsToken text (kind.Word k) n
keyword_front text n k some word count letter is =
    let (r, size) = taken_run text n some word count in
    run_front text (take n text) (drop n text) (kind.Word k) n r size (word_is_lexeme (take n text) (word_taken text n r letter)) is

pub name_front : (text : List ℕ) (n : ℕ) → 0 < length text → is_word_byte (slice_index text 0) ≡ true → n ≡ length (take_while is_word_byte text) → is_digit (slice_index text 0) ≡ false → keyword_of (take n text) ≡ None → IsToken text (kind.Name (take n text)) n
name_front text n some word count letter none =
    let (r, size) = taken_run text n some word count in
    let is : is_word (take n text) ≡ true = word_taken text n r letter in
    run_front text (take n text) (drop n text) (kind.Name (take n text)) n r size (word_is_lexeme (take n text) is) (refl, is, none)

pub number_front : (text : List ℕ) (n : ℕ) (v : ℤ) → 0 < length text → is_word_byte (slice_index text 0) ≡ true → n ≡ length (take_while is_word_byte text) → is_digit (slice_index text 0) ≡ true → option_map pos (literal_value (take n text)) ≡ Some v → IsToken text (kind.Number v) n
number_front text n v some word count digit is =
    let (r, size) = taken_run text n some word count in
    run_front text (take n text) (drop n text) (kind.Number v) n r size (numeral_is_lexeme (take n text) (numeral_taken text n r digit)) is

no_value : (o : Option ℕ) → option_map pos o ≡ None → o ≡ None
no_value None e = refl
no_value (Some n) e = cc

pub range_front : (text : List ℕ) (n : ℕ) → 0 < length text → is_word_byte (slice_index text 0) ≡ true → n ≡ length (take_while is_word_byte text) → is_digit (slice_index text 0) ≡ true → option_map pos (literal_value (take n text)) ≡ None → StandsBefore literal_range 0 text
range_front text n some word count digit none =
    let (r, size) = taken_run text n some word count in
    let numeral : is_numeral (take n text) ≡ true = numeral_taken text n r digit in
    (take n text, drop n text, sym r.splits, numeral, run_longest_of text (take n text) (drop n text) r (numeral_is_lexeme (take n text) numeral), no_value (literal_value (take n text)) none)
