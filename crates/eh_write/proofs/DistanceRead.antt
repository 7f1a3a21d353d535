-- An address that is written relative to a place is read as the address.
use Rattle.std.proofs.Common.{◌≡◌, ◌≢◌, ◌+◌, ◌-◌, ◌%◌, ◌<◌, ◌≤◌, ◌^◌, ◌==◌, ℕ, Bool, true, false, nat_lt, List, ◌++◌, length, Ok, refl, ap, ◌∙◌, arith, if◌then◌else◌, length-append}
use Rattle.std.specs.Int.{w32, to_le_bytes}
use Rattle.std.proofs.lemmas.Bool.Decides.{nat_tests}
use Rattle.std.proofs.lemmas.Nat.{from_le_bytes-to_le_bytes_4}
use Rattle.eh_bytes.specs.declared.encoded.Pointer.{Pointer}
use Rattle.eh_bytes.specs.Field.{Reading, fixed}
use Rattle.eh_bytes.specs.Encoded.{encoded, raw, extended, extends, applies}
use Rattle.eh_write.specs.Distance.{distance, distance_bytes, IsNear}

distance_small : (place a : ℕ) → distance place a < 2 ^ 32
distance_small place a = omega arith

pub four_read : (n : ℕ) (rest : List ℕ) → n < 2 ^ 32 → fixed w32 (to_le_bytes w32 n ++ rest) ≡ Ok (n, 4)
four_read n rest small =
    let long : nat_lt (length (to_le_bytes w32 n ++ rest)) 4 ≡ false =
    let four : length (to_le_bytes w32 n) ≡ 4 = refl in grind (arith, nat_tests, four, length-append (to_le_bytes w32 n) rest) in
    rw long (ap (λ m. Ok (m, 4)) (from_le_bytes-to_le_bytes_4 n small))

pub distance_read : (place a : ℕ) (rest : List ℕ) → fixed w32 (distance_bytes place a ++ rest) ≡ Ok (distance place a, 4)
distance_read place a rest = four_read (distance place a) rest (distance_small place a)

-- a distance of 0 leads to the place alone
pub none_between : (place a : ℕ) → IsNear place a → extended 4 (distance place a) ≡ 0 → a ≡ place
none_between place a near none = by_sign (nat_lt (distance place a) (2 ^ 31)) refl none
  where
    by_sign : (b : Bool) → nat_lt (distance place a) (2 ^ 31) ≡ b → (if b then distance place a else distance place a + (2 ^ 64 - 2 ^ 32)) ≡ 0 → a ≡ place
    by_sign true e is = omega (arith, near.0, near.1, is)
    by_sign false e is = absurd (omega (arith, is))

-- the signed number in the four bytes leads from the place to the address
pub led : (place a : ℕ) → a < 2 ^ 64 → IsNear place a → (extended 4 (distance place a) + place) % 2 ^ 64 ≡ a
led place a fits near = by_sign (nat_lt (distance place a) (2 ^ 31)) refl
  where
    by_sign : (b : Bool) → nat_lt (distance place a) (2 ^ 31) ≡ b → ((if b then distance place a else distance place a + (2 ^ 64 - 2 ^ 32)) + place) % 2 ^ 64 ≡ a
    by_sign true e = let lt : distance place a < 2 ^ 31 = grind (arith, nat_tests, e) in omega (arith, near.0, near.1, fits, lt)
    by_sign false e = let ge : 2 ^ 31 ≤ distance place a = grind (arith, nat_tests, e) in omega (arith, near.0, near.1, fits, ge)

signed_read : (place : ℕ) (bytes : List ℕ) → encoded 27 place bytes ≡ applies 27 place (extends 4 (fixed w32 bytes))
unfolding encoded raw
signed_read place bytes = refl

-- a 0 is read as 0
pub zero_read : (place : ℕ) (rest : List ℕ) → encoded 27 place (to_le_bytes w32 0 ++ rest) ≡ Ok (record { value = 0; indirect = false }, 4)
zero_read place rest =
    signed_read place (to_le_bytes w32 0 ++ rest) ∙ ap (λ r. applies 27 place (extends 4 r)) (four_read 0 rest (omega arith))

pub relative_read : (place a : ℕ) (rest : List ℕ) → a < 2 ^ 64 → IsNear place a → a ≢ place →
    encoded 27 place (distance_bytes place a ++ rest) ≡ Ok (record { value = a; indirect = false }, 4)
relative_read place a rest fits near other =
    signed_read place (distance_bytes place a ++ rest) ∙ ap (λ r. applies 27 place (extends 4 r)) (distance_read place a rest) ∙ by_zero (n == 0) refl
  where
    n : ℕ
    n = extended 4 (distance place a)

    by_zero : (b : Bool) → (n == 0) ≡ b →
        ◌≡◌ {A = Reading Pointer} (Ok ((if b then record { value = 0; indirect = false } else record { value = (n + place) % 2 ^ 64; indirect = false }), 4)) (Ok (record { value = a; indirect = false }, 4))
    by_zero true none = absurd (other (none_between place a near (grind (arith, nat_tests, none))))
    by_zero false some = ap (λ v. Ok (record { value = v; indirect = false }, 4)) (led place a fits near)
