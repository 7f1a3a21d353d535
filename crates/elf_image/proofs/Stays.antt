-- Bytes of two files at the same places, of which the second may be longer.
use Rattle.std.proofs.Common.{◌≡◌, ◌+◌, ◌<◌, ◌≤◌, ℕ, zero, suc, true, nat_le, List, [], ◌∷◌, length, take, drop, refl, ap, sym, ◌∙◌, arith}
use Rattle.std.specs.Prelude.{Some, None, slice_get, unwrap_or, if◌then◌else◌}
use Rattle.std.specs.Int.{Width, byte_len, from_le_bytes}
use Rattle.std.proofs.lemmas.Bool.Decides.{nat_tests}
use Rattle.elf_image.specs.Numbers.{number_at, field}

-- from a place up to another each byte is the same
abbrev pub Stays : ℕ → ℕ → List ℕ → List ℕ → Type 0
Stays from end xs ys = (n : ℕ) → from ≤ n → n < end → slice_get ys n ≡ slice_get xs n

pub stays_inside : (lo hi from end : ℕ) (xs ys : List ℕ) → lo ≤ from → end ≤ hi → Stays lo hi xs ys → Stays from end xs ys
stays_inside lo hi from end xs ys low high stays n above below = stays n (omega (arith, low, above)) (omega (arith, high, below))

pub get_dropped : (p : ℕ) (xs : List ℕ) (n : ℕ) → slice_get (drop p xs) n ≡ slice_get xs (p + n)
get_dropped zero xs n = let none : n ≡ 0 + n = omega arith in ap (slice_get xs) none
get_dropped (suc p) [] n = refl
get_dropped (suc p) (x ∷ xs) n = let one : suc p + n ≡ suc (p + n) = omega arith in get_dropped p xs n ∙ sym (ap (slice_get (x ∷ xs)) one)

some_same : (x y : ℕ) → Some x ≡ Some y → x ≡ y
some_same x y e = cc

fronts_same : (k : ℕ) (xs ys : List ℕ) → ((n : ℕ) → n < k → slice_get ys n ≡ slice_get xs n) → take k xs ≡ take k ys
fronts_same zero xs ys each = refl
fronts_same (suc k) [] [] each = refl
fronts_same (suc k) [] (y ∷ ys) each = let no = each 0 (omega arith) in absurd cc
fronts_same (suc k) (x ∷ xs) [] each = let no = each 0 (omega arith) in absurd cc
fronts_same (suc k) (x ∷ xs) (y ∷ ys) each =
    ap (λ z. z ∷ take k xs) (some_same x y (sym (each 0 (omega arith)))) ∙ ap (λ zs. y ∷ zs) (fronts_same k xs ys (λ n less. each (suc n) (omega (arith, less))))

-- so many bytes at a place
pub taken_stays : (p k : ℕ) (xs ys : List ℕ) → Stays p (p + k) xs ys → take k (drop p xs) ≡ take k (drop p ys)
taken_stays p k xs ys stays =
    fronts_same k (drop p xs) (drop p ys) (λ n less. get_dropped p ys n ∙ stays (p + n) (omega arith) (omega (arith, less)) ∙ sym (get_dropped p xs n))

fits : (n length : ℕ) → n ≤ length → nat_le n length ≡ true
fits n length h = grind (arith, nat_tests, h)

-- a number that lies whole in the first file
pub number_stays : (w : Width) (file other : List ℕ) (p : ℕ) → p + byte_len w ≤ length file → length file ≤ length other → Stays p (p + byte_len w) file other →
    number_at w other p ≡ number_at w file p
number_stays w file other p whole longer stays =
    ap (λ b. if b then Some (from_le_bytes w (take (byte_len w) (drop p other))) else None) (fits (p + byte_len w) (length other) (omega (arith, whole, longer)) ∙ sym (fits (p + byte_len w) (length file) whole)) ∙
    ap (λ xs. if nat_le (p + byte_len w) (length file) then Some (from_le_bytes w xs) else None) (sym (taken_stays p (byte_len w) file other stays))

pub field_stays : (w : Width) (file other : List ℕ) (p : ℕ) → p + byte_len w ≤ length file → length file ≤ length other → Stays p (p + byte_len w) file other →
    field w other p ≡ field w file p
field_stays w file other p whole longer stays = ap (λ o. unwrap_or o 0) (number_stays w file other p whole longer stays)
