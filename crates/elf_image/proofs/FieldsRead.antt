-- Numbers of a file whose bytes at a place are known.
use Rattle.std.proofs.Common.{◌≡◌, ◌+◌, ◌-◌, ◌<◌, ◌^◌, ℕ, true, nat_le, List, [], ◌∷◌, ◌++◌, length, drop, refl, ap, sym, ◌∙◌, arith, length-append, length-drop}
use Rattle.std.specs.Prelude.{Some}
use Rattle.std.specs.Int.{w8, w16, w32, w64, to_le_bytes}
use Rattle.std.proofs.lemmas.Bool.Decides.{nat_tests}
use Rattle.std.proofs.lemmas.List.{drop-drop}
use Rattle.std.proofs.lemmas.Nat.{from_le_bytes-to_le_bytes_2, from_le_bytes-to_le_bytes_4, from_le_bytes-to_le_bytes_8}
use Rattle.elf_image.specs.Numbers.{number_at}

-- so many bytes behind a place
pub later : (bytes : List ℕ) (p k : ℕ) (xs : List ℕ) → drop p bytes ≡ xs → drop (p + k) bytes ≡ drop k xs
later bytes p k xs here = sym (drop-drop k p bytes) ∙ ap (drop k) here

-- they lie whole in the file
fits : (file : List ℕ) (p n : ℕ) (xs rest : List ℕ) → 0 < n → length xs ≡ n → drop p file ≡ xs ++ rest → nat_le (p + n) (length file) ≡ true
fits file p n xs rest some long here =
    let left : length file - p ≡ length xs + length rest = sym (length-drop p file) ∙ ap length here ∙ length-append xs rest in
    grind (arith, nat_tests, left, long, some)

pub byte_read : (file : List ℕ) (p b : ℕ) (rest : List ℕ) → drop p file ≡ b ∷ rest → number_at w8 file p ≡ Some b
byte_read file p b rest here = rw (fits file p 1 (b ∷ []) rest (omega arith) refl here) (rw here refl)

pub half_read : (file : List ℕ) (p n : ℕ) (rest : List ℕ) → n < 2 ^ 16 → drop p file ≡ to_le_bytes w16 n ++ rest → number_at w16 file p ≡ Some n
half_read file p n rest small here =
    rw (fits file p 2 (to_le_bytes w16 n) rest (omega arith) refl here) (rw here (ap Some (from_le_bytes-to_le_bytes_2 n small)))

pub four_read : (file : List ℕ) (p n : ℕ) (rest : List ℕ) → n < 2 ^ 32 → drop p file ≡ to_le_bytes w32 n ++ rest → number_at w32 file p ≡ Some n
four_read file p n rest small here =
    rw (fits file p 4 (to_le_bytes w32 n) rest (omega arith) refl here) (rw here (ap Some (from_le_bytes-to_le_bytes_4 n small)))

pub word_read : (file : List ℕ) (p n : ℕ) (rest : List ℕ) → n < 2 ^ 64 → drop p file ≡ to_le_bytes w64 n ++ rest → number_at w64 file p ≡ Some n
word_read file p n rest small here =
    rw (fits file p 8 (to_le_bytes w64 n) rest (omega arith) refl here) (rw here (ap Some (from_le_bytes-to_le_bytes_8 n small)))
