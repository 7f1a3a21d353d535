-- The longest lexeme at the start of a text.
use Rattle.std.proofs.Common.{◌≡◌, ◌⊎◌, inl, inr, ℕ, ◌≤◌, Bool, true, false, ◌||◌, not, List, [], ◌∷◌, ◌++◌, length, Option, Some, None, is_some, find, bytes_eq, refl, sym, ap, ◌∙◌, subst}
use Rattle.std.specs.List.{list_all}
use Rattle.cxx_ast.specs.declared.mark.Mark.{Mark}
use Rattle.cxx_ast.specs.Bytes.{is_blank, is_digit, is_letter, is_word_byte}
use Rattle.cxx_ast.specs.Marks as Marks
use Rattle.cxx_ast.specs.Lexeme.{begins_with, mark_of, is_word, is_numeral, is_lexeme, IsLongest}
use Rattle.cxx_lexer.proofs.ByteTests.{both, either, first_passes, is_mark_byte, begins_append, or_true, letter_is_word, digit_is_word}
use Rattle.cxx_lexer.proofs.Spellings.{mark_spelled, mark_again, mark_first}
use Rattle.cxx_lexer.proofs.Prefixes.{run, run_longest}
use Rattle.cxx_lexer.proofs.Searches.{none_passes, is_descending, first_longest}

-- a lexeme is a word or a numeral, all of word bytes, or a mark
pub record IsRun (bytes : List ℕ) : Type 0 where
  pub all : list_all is_word_byte bytes ≡ true
  pub first : first_passes is_word_byte bytes ≡ true

pub record IsSpelled (bytes : List ℕ) : Type 0 where
  pub mark : Mark
  pub is : mark_of bytes ≡ Some mark

word_runs : (bytes : List ℕ) → is_word bytes ≡ true → IsRun bytes
word_runs [] e = cc
word_runs (b ∷ bs) e =
    let parts = both (is_letter b) (list_all is_word_byte bs) e in
    let first : is_word_byte b ≡ true = letter_is_word b parts.0 in
    record { all = rw first parts.1; first = first }

numeral_runs : (bytes : List ℕ) → is_numeral bytes ≡ true → IsRun bytes
numeral_runs [] e = cc
numeral_runs (b ∷ bs) e =
    let parts = both (is_digit b) (list_all is_word_byte bs) e in
    let first : is_word_byte b ≡ true = digit_is_word b parts.0 in
    record { all = rw first parts.1; first = first }

is_some_of : (bytes : List ℕ) (m : Option Mark) → mark_of bytes ≡ m → is_some m ≡ true → IsSpelled bytes
is_some_of bytes None is e = cc
is_some_of bytes (Some m) is e = record { mark = m; is = is }

pub lexeme_is : (bytes : List ℕ) → is_lexeme bytes ≡ true → IsRun bytes ⊎ IsSpelled bytes
lexeme_is bytes e = elim (either (is_word bytes || is_numeral bytes) (is_some (mark_of bytes)) e) [
  | inl w ↦ elim (either (is_word bytes) (is_numeral bytes) w) [ inl x ↦ inl (word_runs bytes x) | inr x ↦ inl (numeral_runs bytes x) ]
  | inr m ↦ inr (is_some_of bytes (mark_of bytes) refl m)
]

-- a mark's first byte is no word byte
pub spelled_first : (bytes : List ℕ) → IsSpelled bytes → first_passes is_mark_byte bytes ≡ true
spelled_first bytes s = subst (λ (x : List ℕ). first_passes is_mark_byte x ≡ true) (mark_spelled bytes s.mark s.is) (mark_first s.mark)

-- two starts of one text begin with the same byte
pub same_first : (a b x y : List ℕ) (p q : ℕ → Bool) → a ++ x ≡ b ++ y → first_passes p a ≡ true → first_passes q b ≡ true → (c : ℕ) × (p c ≡ true) × (q c ≡ true)
same_first [] b x y p q e f g = cc
same_first (c ∷ a) [] x y p q e f g = cc
same_first (c ∷ a) (d ∷ b) x y p q e f g = let same : d ≡ c = cc in (c, f, subst (λ z. q z ≡ true) same g)

-- no byte is both
pub apart : (c : ℕ) → is_word_byte c ≡ true → is_mark_byte c ≡ true → ⊥
apart c w m =
    let parts = both (not (is_blank c)) (not (is_word_byte c)) m in
    let fails : not true ≡ true = subst (λ b. not b ≡ true) w parts.1 in cc

-- of a text that begins with a word byte, the run of word bytes is the longest lexeme
pub run_is_longest : (bytes rest : List ℕ) → is_lexeme bytes ≡ true → first_passes is_word_byte bytes ≡ true → bytes ≡ run is_word_byte (bytes ++ rest) → IsLongest bytes rest
run_is_longest bytes rest lexeme first is = record {
  lexeme = lexeme;
  longest = λ more others e also. elim (lexeme_is more also) [
    | inl r ↦
        let bound : length more ≤ length (run is_word_byte (more ++ others)) = run_longest is_word_byte more others r.all in
        let same : run is_word_byte (more ++ others) ≡ bytes = ap (run is_word_byte) e ∙ sym is in
        subst (λ (xs : List ℕ). length more ≤ length xs) same bound
    | inr s ↦ let c = same_first bytes more rest others is_word_byte is_mark_byte (sym e) first (spelled_first more s) in absurd (apart c.0 c.1 c.2)
  ];
}

-- the marks stand in the table by their lengths
pub marks_descend : is_descending (λ m. length (Marks.spelling m)) Marks.marks ≡ true
unfolding Marks.spelling
marks_descend = refl

-- a test of a table's row: the text begins with the mark
abbrev pub begins_mark : List ℕ → Mark → Bool
begins_mark text m = begins_with (Marks.spelling m) text

-- a mark that a text begins with passes that test
pub mark_begins : (bytes rest text : List ℕ) (m : Mark) → mark_of bytes ≡ Some m → bytes ++ rest ≡ text → begins_mark text m ≡ true
mark_begins bytes rest text m is e =
    let spelled : Marks.spelling m ++ rest ≡ text = ap (λ (xs : List ℕ). xs ++ rest) (mark_spelled bytes m is) ∙ e in
    subst (λ (xs : List ℕ). begins_mark xs m ≡ true) spelled (begins_append (Marks.spelling m) rest)

-- of a text that begins with no word byte, the first mark of the table that it begins with is the longest lexeme
pub mark_is_longest : (text rest : List ℕ) (m : Mark) → find (begins_mark text) Marks.marks ≡ Some m → Marks.spelling m ++ rest ≡ text → IsLongest (Marks.spelling m) rest
mark_is_longest text rest m found splits = record {
  lexeme = spelled_is_lexeme m;
  longest = λ more others e also. elim (lexeme_is more also) [
    | inl r ↦ let c = same_first more (Marks.spelling m) others rest is_word_byte is_mark_byte e r.first (mark_first m) in absurd (apart c.0 c.1 c.2)
    | inr s ↦
        let bound : length (Marks.spelling s.mark) ≤ length (Marks.spelling m) =
        first_longest (λ m. length (Marks.spelling m)) (begins_mark text) (λ m. bytes_eq (Marks.spelling m) more) Marks.marks m s.mark marks_descend found s.is
        (mark_begins more others text s.mark s.is (e ∙ splits)) in
        subst (λ (xs : List ℕ). length xs ≤ length (Marks.spelling m)) (mark_spelled more s.mark s.is) bound
  ];
}
  where
    spelled_is_lexeme : (m : Mark) → is_lexeme (Marks.spelling m) ≡ true
    spelled_is_lexeme m = rw (mark_again m) (or_true (is_word (Marks.spelling m) || is_numeral (Marks.spelling m)))

-- a text that begins with no word byte and with no mark of the table begins with no lexeme
pub no_lexeme : (text : List ℕ) → first_passes is_word_byte text ≡ false → find (begins_mark text) Marks.marks ≡ None → (bytes rest : List ℕ) → bytes ++ rest ≡ text → is_lexeme bytes ≡ false
no_lexeme text first none bytes rest e = elim (is_lexeme bytes) as (λ b. is_lexeme bytes ≡ b → b ≡ false) [
  | false ↦ λ is. refl
  | true ↦ λ is. absurd (elim (lexeme_is bytes is) [
    | inl r ↦ first_differs bytes rest text e r.first first
    | inr s ↦
        let fails : begins_mark text s.mark ≡ false = none_passes (begins_mark text) (λ m. bytes_eq (Marks.spelling m) bytes) Marks.marks s.mark none s.is in
        let passes : begins_mark text s.mark ≡ true = mark_begins bytes rest text s.mark s.is e in cc
  ])
] refl
  where
    first_differs : (a x text : List ℕ) → a ++ x ≡ text → first_passes is_word_byte a ≡ true → first_passes is_word_byte text ≡ false → ⊥
    first_differs [] x text e f g = cc
    first_differs (c ∷ a) x text e f g = let fails : is_word_byte c ≡ false = subst (λ (xs : List ℕ). first_passes is_word_byte xs ≡ false) (sym e) g in cc
