-- Some offset of nine in a row puts the base at a multiple of 4.
use Rattle.std.proofs.Common.{◌≡◌, ◌+◌, ◌-◌, ◌*◌, ◌/◌, ◌%◌, ◌≤◌, ◌<◌, ℕ, zero, suc, Bool, true, false, nat_lt, [], ◌∷◌, length, refl, ap, subst, sym, ◌∙◌, arith, if◌then◌else◌}
use Rattle.std.proofs.lemmas.Bool.{cond_both}
use Rattle.std.proofs.lemmas.Bool.Decides.{nat_tests}
use Rattle.eh_bytes.specs.Spelling.{uleb_spelling, uleb_spelling_within}
use Rattle.eh_write.specs.Written.{is_aligned, offset_from, base_offset}

-- numbers that differ in their first seven bits alone are spelled in equally many bytes
as_long : (n m : ℕ) → n / 128 ≡ m / 128 → length (uleb_spelling n) ≡ length (uleb_spelling m)
unfolding uleb_spelling uleb_spelling_within
as_long n m same =
    let both : nat_lt n 128 ≡ nat_lt m 128 = grind (arith, nat_tests, same) in
    lengths (nat_lt n 128) ∙ ap (λ b. 1 + (if b then 0 else length (uleb_spelling_within 9 (n / 128)))) both ∙
    ap (λ k. 1 + (if nat_lt m 128 then 0 else length (uleb_spelling_within 9 k))) same ∙ sym (lengths_of m (nat_lt m 128))
  where
    lengths_of : (k : ℕ) (b : Bool) → length (if b then k ∷ [] else (k % 128 + 128) ∷ uleb_spelling_within 9 (k / 128)) ≡ 1 + (if b then 0 else length (uleb_spelling_within 9 (k / 128)))
    lengths_of k true = refl
    lengths_of k false = omega arith

    lengths : (b : Bool) → length (if b then n ∷ [] else (n % 128 + 128) ∷ uleb_spelling_within 9 (n / 128)) ≡ 1 + (if b then 0 else length (uleb_spelling_within 9 (n / 128)))
    lengths b = lengths_of n b

-- a search that meets an offset that fits ends at one
search_fits : (k o i : ℕ) → i ≤ k → is_aligned (o + i) ≡ true → is_aligned (offset_from k o) ≡ true
search_fits zero o i most fits = let none : o + i ≡ o = omega (arith, most) in subst (λ x. is_aligned x ≡ true) none fits
search_fits (suc k) o zero most fits =
    let first : is_aligned o ≡ true = subst (λ x. is_aligned x ≡ true) (let e : o + 0 ≡ o = omega arith in e) fits in
    cond_both (is_aligned o) o (offset_from k (o + 1)) (λ x. is_aligned x ≡ true) (λ e. e) (λ e. absurd (let t : true ≡ false = sym first ∙ e in cc))
search_fits (suc k) o (suc i) most fits =
    let later : o + suc i ≡ o + 1 + i = omega arith in
    cond_both (is_aligned o) o (offset_from k (o + 1)) (λ x. is_aligned x ≡ true) (λ e. e) (λ _. search_fits k (o + 1) i (omega (arith, most)) (subst (λ x. is_aligned x ≡ true) later fits))

-- an offset with a remainder
fitting : (o i len : ℕ) → length (uleb_spelling (o + i)) ≡ len → (2 + len + (o + i)) % 4 ≡ 0 → is_aligned (o + i) ≡ true
fitting o i len long even = rw long (grind (arith, nat_tests, even))

-- the first offset of four of equal length that fits
pub record Fits (o : ℕ) : Type 0 where
  pub after : ℕ
  pub few : after ≤ 7
  pub fits : is_aligned (o + after) ≡ true

fits_in_four : (o from : ℕ) → from ≤ 4 → (o + from) % 128 + 3 < 128 → Fits o
fits_in_four o from few room =
    let len = length (uleb_spelling (o + from)) in
    let i = (6 * 4 * len + 6 - len % 4 - (o + from) % 4 + 4) % 4 in
    let small : i < 4 = omega arith in
    let same : (o + (from + i)) / 128 ≡ (o + from) / 128 = omega (arith, small, room) in
    record { after = from + i; few = omega (arith, small, few); fits = fitting o (from + i) len (as_long (o + (from + i)) (o + from) same) (omega arith) }

fits_near : (o : ℕ) → Fits o
fits_near o = by_room (nat_lt (o % 128 + 3) 128) refl
  where
    by_room : (b : Bool) → nat_lt (o % 128 + 3) 128 ≡ b → Fits o
    by_room true room = let lt : o % 128 + 3 < 128 = grind (arith, nat_tests, room) in fits_in_four o 0 (omega arith) (omega (arith, lt))
    by_room false none = let ge : 128 ≤ o % 128 + 3 = grind (arith, nat_tests, none) in fits_in_four o 4 (omega arith) (omega (arith, ge))

pub base_aligned : (least : ℕ) → is_aligned (base_offset least) ≡ true
unfolding base_offset
base_aligned least = let f = fits_near least in search_fits 8 least f.after (omega (arith, f.few)) f.fits
