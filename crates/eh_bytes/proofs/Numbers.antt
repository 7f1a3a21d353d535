-- The first bytes of a list as a number, as byteorder reads them and as the definitions do.
use Rattle.std.proofs.Common.{◌≡◌, arith, ℕ, ◌≤◌, List, [], ◌∷◌, length}
use Rattle.std.specs.Prelude.{take}
use Rattle.std.specs.Int.{w16, w32, w64, from_le_bytes}
use Rattle.byteorder.specs.Endian.{little_number}

pub of_two : (xs : List ℕ) → 2 ≤ length xs → little_number 2 xs ≡ from_le_bytes w16 (take 2 xs)
of_two [] h = absurd (omega (arith, h))
of_two (a ∷ []) h = absurd (omega (arith, h))
of_two (a ∷ b ∷ xs) h = omega arith

pub of_four : (xs : List ℕ) → 4 ≤ length xs → little_number 4 xs ≡ from_le_bytes w32 (take 4 xs)
of_four [] h = absurd (omega (arith, h))
of_four (a ∷ []) h = absurd (omega (arith, h))
of_four (a ∷ b ∷ []) h = absurd (omega (arith, h))
of_four (a ∷ b ∷ c ∷ []) h = absurd (omega (arith, h))
of_four (a ∷ b ∷ c ∷ d ∷ xs) h = omega arith

pub of_eight : (xs : List ℕ) → 8 ≤ length xs → little_number 8 xs ≡ from_le_bytes w64 (take 8 xs)
of_eight [] h = absurd (omega (arith, h))
of_eight (a ∷ []) h = absurd (omega (arith, h))
of_eight (a ∷ b ∷ []) h = absurd (omega (arith, h))
of_eight (a ∷ b ∷ c ∷ []) h = absurd (omega (arith, h))
of_eight (a ∷ b ∷ c ∷ d ∷ []) h = absurd (omega (arith, h))
of_eight (a ∷ b ∷ c ∷ d ∷ e ∷ []) h = absurd (omega (arith, h))
of_eight (a ∷ b ∷ c ∷ d ∷ e ∷ f ∷ []) h = absurd (omega (arith, h))
of_eight (a ∷ b ∷ c ∷ d ∷ e ∷ f ∷ g ∷ []) h = absurd (omega (arith, h))
of_eight (a ∷ b ∷ c ∷ d ∷ e ∷ f ∷ g ∷ i ∷ xs) h = omega arith
