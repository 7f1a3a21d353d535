-- Tests of bytes and of texts, as facts.
use Rattle.std.proofs.Common.{◌≡◌, ◌⊎◌, inl, inr, ℕ, Bool, true, false, ◌&&◌, ◌||◌, not, List, [], ◌∷◌, ◌++◌, length, take, drop, nat_eq, bytes_eq, refl, sym, ap, ◌∙◌, arith, eq-eqb}
use Rattle.std.proofs.lemmas.Bool.{eqb-true}
use Rattle.std.proofs.lemmas.List.{take-append-drop}
use Rattle.std.proofs.Math.Seq.{take-append_seam}
use Rattle.std.proofs.lemmas.Bool.Decides.{nat_tests}
use Rattle.cxx_ast.specs.Bytes.{is_blank, is_digit, is_letter, is_word_byte}
use Rattle.cxx_ast.specs.Lexeme.{begins_with}

pub both : (a b : Bool) → (a && b) ≡ true → (a ≡ true) × (b ≡ true)
both true b e = (refl, e)
both false b e = cc

pub either : (a b : Bool) → (a || b) ≡ true → (a ≡ true) ⊎ (b ≡ true)
either true b e = inl refl
either false b e = inr e

pub neither : (a b : Bool) → (a || b) ≡ false → (a ≡ false) × (b ≡ false)
neither true b e = cc
neither false b e = (refl, e)

pub or_true : (a : Bool) → (a || true) ≡ true
or_true true = refl
or_true false = refl

-- bytes that the test finds equal are the same
pub same_bytes : (xs ys : List ℕ) → bytes_eq xs ys ≡ true → xs ≡ ys
same_bytes [] [] e = refl
same_bytes [] (y ∷ ys) e = cc
same_bytes (x ∷ xs) [] e = cc
same_bytes (x ∷ xs) (y ∷ ys) e =
    let parts = both (nat_eq x y) (bytes_eq xs ys) e in
    let head : x ≡ y = eqb-true x y parts.0 in
    let tail : xs ≡ ys = same_bytes xs ys parts.1 in
    cc

pub bytes_eq_self : (xs : List ℕ) → bytes_eq xs xs ≡ true
bytes_eq_self [] = refl
bytes_eq_self (x ∷ xs) = let same : nat_eq x x ≡ true = eq-eqb x x refl in rw same (bytes_eq_self xs)

-- a text that begins with some bytes is these and a rest
pub begins_is : (bytes text : List ℕ) → begins_with bytes text ≡ true → text ≡ bytes ++ drop (length bytes) text
begins_is bytes text e =
    let front : bytes ≡ take (length bytes) text = same_bytes bytes (take (length bytes) text) e in
    sym (ap (λ (x : List ℕ). x ++ drop (length bytes) text) front ∙ take-append-drop (length bytes) text)

pub begins_append : (bytes rest : List ℕ) → begins_with bytes (bytes ++ rest) ≡ true
begins_append bytes rest = ap (bytes_eq bytes) (take-append_seam bytes rest) ∙ bytes_eq_self bytes

-- the first byte passes a test
abbrev pub first_passes : (ℕ → Bool) → List ℕ → Bool
first_passes p [] = false
first_passes p (b ∷ bs) = p b

-- a byte that is neither a blank nor part of a word
abbrev pub is_mark_byte : ℕ → Bool
is_mark_byte b = not (is_blank b) && not (is_word_byte b)

pub letter_no_digit : (b : ℕ) → is_letter b ≡ true → is_digit b ≡ false
letter_no_digit b e = grind (arith, nat_tests)

pub digit_is_word : (b : ℕ) → is_digit b ≡ true → is_word_byte b ≡ true
digit_is_word b e = rw e (or_true (is_letter b))

pub letter_is_word : (b : ℕ) → is_letter b ≡ true → is_word_byte b ≡ true
letter_is_word b e = ap (λ (x : Bool). x || is_digit b) e

pub word_no_blank : (b : ℕ) → is_word_byte b ≡ true → is_blank b ≡ false
word_no_blank b e = grind (arith, nat_tests)
