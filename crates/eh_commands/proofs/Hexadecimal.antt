-- Hexadecimal digits, the least significant found first.
use Rattle.std.proofs.Common.{◌≡◌, ◌<◌, ◌≤◌, ◌+◌, ◌-◌, ◌*◌, ◌/◌, ◌%◌, ◌==◌, ℕ, zero, suc, Bool, true, false, List, [], ◌∷◌, take, drop, length, slice_set, refl, ap, sym, subst, ◌∙◌, arith}
use Rattle.std.specs.Fmt.{digits, digits_onto, digit_glyph}
use Rattle.std.proofs.lemmas.Bool.Decides.{nat_tests}
use Rattle.std.proofs.lemmas.List.{drop-set, length-drop}
use Rattle.std.proofs.Math.Seq.{take-length}

-- how many digits may be left where so many places are, of 64
abbrev left : ℕ → ℕ
left zero = 48
left (suc s) = suc (left s)

-- below which so many places are enough
abbrev weight : ℕ → ℕ
weight zero = 1
weight (suc s) = 16 * weight s

-- of the number this rest is left, and the digits behind it stand in the text from a place on
pub record HexSoFar (number : ℕ) (text : List ℕ) (start rest : ℕ) : Type 0 where
  pub spelled : digits 16 false number ≡ digits_onto (left start) 16 false rest (drop start text)
  pub low : 0 < start
  pub high : start ≤ 16
  pub small : rest < weight start

pub hex_none : (number : ℕ) (text : List ℕ) → drop 16 text ≡ [] → number < weight 16 → HexSoFar number text 16 number
unfolding digits
hex_none number text none small = record {
  spelled = ap (digits_onto 64 16 false number) (sym none);
  low = omega arith;
  high = omega arith;
  small = small;
}

-- a digit more in front
onto_more : (k rest : ℕ) (acc : List ℕ) → 16 ≤ rest → digits_onto (suc k) 16 false rest acc ≡ digits_onto k 16 false (rest / 16) (digit_glyph false (rest % 16) ∷ acc)
onto_more k rest acc some = by_zero (rest / 16 == 0) refl
  where
    no : (rest / 16 == 0) ≡ true → ⊥
    no e = grind (arith, nat_tests, e, some)

    by_zero : (b : Bool) → (rest / 16 == 0) ≡ b → digits_onto (suc k) 16 false rest acc ≡ digits_onto k 16 false (rest / 16) (digit_glyph false (rest % 16) ∷ acc)
    by_zero true e = absurd (no e)
    by_zero false e = rw e refl

onto_last : (k rest : ℕ) (acc : List ℕ) → rest < 16 → digits_onto (suc k) 16 false rest acc ≡ digit_glyph false rest ∷ acc
onto_last k rest acc few = by_zero (rest / 16 == 0) refl
  where
    same : rest % 16 ≡ rest
    same = omega (arith, few)

    yes : (rest / 16 == 0) ≡ false → ⊥
    yes e = grind (arith, nat_tests, e, few)

    by_zero : (b : Bool) → (rest / 16 == 0) ≡ b → digits_onto (suc k) 16 false rest acc ≡ digit_glyph false rest ∷ acc
    by_zero true e = rw e (ap (λ d. digit_glyph false d ∷ acc) same)
    by_zero false e = absurd (yes e)

-- a digit stands in front of those behind the place
set_front : (text : List ℕ) (s digit : ℕ) → length text ≡ 16 → s < 16 → drop s (slice_set text s digit) ≡ digit ∷ drop (suc s) text
set_front text s digit full inside =
    let place : s < length text = omega (arith, full, inside) in
    let next : s + 1 ≡ suc s = omega arith in
    drop-set text s digit place ∙ ap (λ n. digit ∷ drop n text) next

positive : (s rest : ℕ) → 16 ≤ rest → rest / 16 < weight s → 0 < s
positive zero rest some less = absurd (omega (arith, less, some))
positive (suc s) rest some less = omega arith

more_at : (number : ℕ) (text : List ℕ) (s rest : ℕ) → HexSoFar number text (suc s) rest → 16 ≤ rest → length text ≡ 16 → HexSoFar number (slice_set text s (digit_glyph false (rest % 16))) s (rest / 16)
more_at number text s rest so_far some full =
    let small : rest < 16 * weight s = so_far.small in
    let high = so_far.high in
    let less : rest / 16 < weight s = omega (arith, small) in
    let inside : s < 16 = omega (arith, high) in
    record {
      spelled = so_far.spelled ∙ onto_more (left s) rest (drop (suc s) text) some ∙ ap (digits_onto (left s) 16 false (rest / 16)) (sym (set_front text s (digit_glyph false (rest % 16)) full inside));
      low = positive s rest some less;
      high = omega (arith, high);
      small = less;
    }

pub hex_more : (number : ℕ) (text : List ℕ) (start rest : ℕ) → HexSoFar number text start rest → 16 ≤ rest → length text ≡ 16 → HexSoFar number (slice_set text (start - 1) (digit_glyph false (rest % 16))) (start - 1) (rest / 16)
hex_more number text start rest so_far some full =
    let low = so_far.low in
    let next : start ≡ suc (start - 1) = omega (arith, low) in
    more_at number text (start - 1) rest (subst (λ n. HexSoFar number text n rest) next so_far) some full

last_at : (number : ℕ) (text : List ℕ) (s rest : ℕ) → HexSoFar number text (suc s) rest → rest < 16 → length text ≡ 16 → digits 16 false number ≡ drop s (slice_set text s (digit_glyph false rest))
last_at number text s rest so_far few full =
    let high = so_far.high in
    let inside : s < 16 = omega (arith, high) in
    so_far.spelled ∙ onto_last (left s) rest (drop (suc s) text) few ∙ sym (set_front text s (digit_glyph false rest) full inside)

pub hex_last : (number : ℕ) (text : List ℕ) (start rest : ℕ) → HexSoFar number text start rest → rest < 16 → length text ≡ 16 → digits 16 false number ≡ drop (start - 1) (slice_set text (start - 1) (digit_glyph false rest))
hex_last number text start rest so_far few full =
    let low = so_far.low in
    let next : start ≡ suc (start - 1) = omega (arith, low) in
    last_at number text (start - 1) rest (subst (λ n. HexSoFar number text n rest) next so_far) few full

-- all that is behind a place
pub behind : (text : List ℕ) (s : ℕ) → length text ≡ 16 → take (16 - s) (drop s text) ≡ drop s text
behind text s full =
    let many : 16 - s ≡ length (drop s text) = sym (length-drop s text ∙ ap (λ l. l - s) full) in
    ap (λ k. take k (drop s text)) many ∙ take-length (drop s text)
