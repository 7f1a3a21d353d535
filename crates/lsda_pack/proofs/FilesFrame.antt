-- Bytes of two files at the same places.
use Rattle.std.proofs.Common.{◌≡◌, ◌+◌, ◌-◌, ◌<◌, ◌≤◌, ℕ, zero, suc, nat_le, List, [], ◌∷◌, length, take, drop, refl, ap, sym, ◌∙◌, arith}
use Rattle.std.specs.Prelude.{Some, None, slice_get, unwrap_or, if◌then◌else◌}
use Rattle.std.specs.Int.{Width, byte_len, from_le_bytes}
use Rattle.elf_image.specs.Numbers.{number_at, field}
use Rattle.lsda_pack.proofs.Fronts.{Agrees, Same}

-- from a place up to another each byte is the same
abbrev pub Stays : ℕ → ℕ → List ℕ → List ℕ → Type 0
Stays from end xs ys = (n : ℕ) → from ≤ n → n < end → slice_get ys n ≡ slice_get xs n

pub stays_inside : (lo hi from end : ℕ) (xs ys : List ℕ) → lo ≤ from → end ≤ hi → Stays lo hi xs ys → Stays from end xs ys
stays_inside lo hi from end xs ys low high stays n above below = stays n (omega (arith, low, above)) (omega (arith, high, below))

pub get_taken : (n : ℕ) (xs : List ℕ) (k : ℕ) → k < n → slice_get (take n xs) k ≡ slice_get xs k
get_taken zero xs k less = absurd (omega (arith, less))
get_taken (suc n) [] k less = refl
get_taken (suc n) (x ∷ xs) zero less = refl
get_taken (suc n) (x ∷ xs) (suc k) less = get_taken n xs k (omega (arith, less))

pub get_dropped : (p : ℕ) (xs : List ℕ) (n : ℕ) → slice_get (drop p xs) n ≡ slice_get xs (p + n)
get_dropped zero xs n = let none : n ≡ 0 + n = omega arith in ap (slice_get xs) none
get_dropped (suc p) [] n = refl
get_dropped (suc p) (x ∷ xs) n = let one : suc p + n ≡ suc (p + n) = omega arith in get_dropped p xs n ∙ sym (ap (slice_get (x ∷ xs)) one)

some_same : (x y : ℕ) → Some x ≡ Some y → x ≡ y
some_same x y e = cc

fronts_same : (k : ℕ) (xs ys : List ℕ) → ((n : ℕ) → n < k → slice_get ys n ≡ slice_get xs n) → take k xs ≡ take k ys
fronts_same zero xs ys each = refl
fronts_same (suc k) [] [] each = refl
fronts_same (suc k) [] (y ∷ ys) each = let no = each 0 (omega arith) in absurd cc
fronts_same (suc k) (x ∷ xs) [] each = let no = each 0 (omega arith) in absurd cc
fronts_same (suc k) (x ∷ xs) (y ∷ ys) each =
    ap (λ z. z ∷ take k xs) (some_same x y (sym (each 0 (omega arith)))) ∙ ap (λ zs. y ∷ zs) (fronts_same k xs ys (λ n less. each (suc n) (omega (arith, less))))

-- so many bytes at a place
pub taken_stays : (p k : ℕ) (xs ys : List ℕ) → Stays p (p + k) xs ys → take k (drop p xs) ≡ take k (drop p ys)
taken_stays p k xs ys stays =
    fronts_same k (drop p xs) (drop p ys) (λ n less. get_dropped p ys n ∙ stays (p + n) (omega arith) (omega (arith, less)) ∙ sym (get_dropped p xs n))

agrees_each : (k : ℕ) (xs ys : List ℕ) → ((n : ℕ) → n < k → slice_get ys n ≡ slice_get xs n) → Agrees k xs ys
agrees_each zero xs ys each = tt
agrees_each (suc k) [] [] each = tt
agrees_each (suc k) [] (y ∷ ys) each = let no = each 0 (omega arith) in absurd cc
agrees_each (suc k) (x ∷ xs) [] each = let no = each 0 (omega arith) in absurd cc
agrees_each (suc k) (x ∷ xs) (y ∷ ys) each = (some_same x y (sym (each 0 (omega arith))), agrees_each k xs ys (λ n less. each (suc n) (omega (arith, less))))

pub same_stays : (p q : ℕ) (xs ys : List ℕ) → Stays p q xs ys → Same p q xs ys
same_stays p q xs ys stays =
    agrees_each (q - p) (drop p xs) (drop p ys) (λ n less. get_dropped p ys n ∙ stays (p + n) (omega arith) (omega (arith, less)) ∙ sym (get_dropped p xs n))

-- numbers of a file
pub number_stays : (w : Width) (file other : List ℕ) (p : ℕ) → length other ≡ length file → Stays p (p + byte_len w) file other → number_at w other p ≡ number_at w file p
number_stays w file other p long stays =
    ap (λ n. if nat_le (p + byte_len w) n then Some (from_le_bytes w (take (byte_len w) (drop p other))) else None) long ∙
    ap (λ xs. if nat_le (p + byte_len w) (length file) then Some (from_le_bytes w xs) else None) (sym (taken_stays p (byte_len w) file other stays))

pub field_stays : (w : Width) (file other : List ℕ) (p : ℕ) → length other ≡ length file → Stays p (p + byte_len w) file other → field w other p ≡ field w file p
field_stays w file other p long stays = ap (λ o. unwrap_or o 0) (number_stays w file other p long stays)
