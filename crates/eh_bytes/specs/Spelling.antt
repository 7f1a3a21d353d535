-- The shortest spellings of LEB128 numbers (DWARF 5, 7.6 and appendix C): a byte goes on where more than its sign or 0 is left.
use Rattle.std.specs.Prelude.{ℕ, zero, suc, ℤ, pos, negsuc, ◌+◌, ◌-◌, ◌/◌, ◌%◌, Bool, nat_lt, List, [], ◌∷◌, if◌then◌else◌}

-- of an unsigned number, of at most so many bytes
unfoldable pub uleb_spelling_within : ℕ → ℕ → List ℕ
uleb_spelling_within zero n = []
uleb_spelling_within (suc k) n =
    if nat_lt n 128 then n ∷ [] else (n % 128 + 128) ∷ uleb_spelling_within k (n / 128)

-- the shortest spelling of a number below 2^64
unfoldable pub uleb_spelling : ℕ → List ℕ
uleb_spelling n = uleb_spelling_within 10 n

-- the seven low bits of a signed number
abbrev pub low_seven : ℤ → ℕ
low_seven (pos n) = n % 128
low_seven (negsuc n) = 127 - n % 128

-- the number without them
abbrev pub without_seven : ℤ → ℤ
without_seven (pos n) = pos (n / 128)
without_seven (negsuc n) = negsuc (n / 128)

-- from -64 to 63: seven bits, the highest of which is the sign
abbrev pub fits_seven : ℤ → Bool
fits_seven (pos n) = nat_lt n 64
fits_seven (negsuc n) = nat_lt n 64

-- of a signed number, of at most so many bytes
unfoldable pub sleb_spelling_within : ℕ → ℤ → List ℕ
sleb_spelling_within zero n = []
sleb_spelling_within (suc k) n =
    if fits_seven n then low_seven n ∷ [] else (low_seven n + 128) ∷ sleb_spelling_within k (without_seven n)

-- the shortest spelling of a number of 64 bits with its sign
unfoldable pub sleb_spelling : ℤ → List ℕ
sleb_spelling n = sleb_spelling_within 10 n
