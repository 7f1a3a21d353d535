-- Numbers by their digits to the base 2^32, the least first.
use Rattle.std.specs.Prelude.{ℕ, zero, suc, ◌+◌, ◌*◌, ◌/◌, ◌%◌, ◌==◌, List, [], ◌∷◌, drop, slice_index, if◌then◌else◌}

-- the number of digits
abbrev pub number_of : List ℕ → ℕ
number_of [] = 0
number_of (d ∷ ds) = d + 4294967296 * number_of ds

-- the sum of two digits and a carry
abbrev pub digit_sum : ℕ → List ℕ → List ℕ → ℕ
digit_sum carry a b = slice_index a 0 + slice_index b 0 + carry

-- the digits of a sum of at most n digits, with a carry
abbrev pub added : ℕ → ℕ → List ℕ → List ℕ → List ℕ
added zero carry a b = if carry == 0 then [] else carry ∷ []
added (suc n) carry a b = (digit_sum carry a b % 4294967296) ∷ added n (digit_sum carry a b / 4294967296) (drop 1 a) (drop 1 b)
