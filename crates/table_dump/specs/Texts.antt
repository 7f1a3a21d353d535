-- Numbers and registers as they are printed.
use Rattle.std.specs.Prelude.{ℕ, ℤ, pos, negsuc, false, ◌-◌, nat_lt, List, [], ◌∷◌, ◌++◌, codes, flat_map, if◌then◌else◌}
use Rattle.std.specs.Fmt.{digits, decimal, signed_decimal}

abbrev pub hex : ℕ → List ℕ
hex n = codes "0x" ++ digits 16 false n

-- registers 0 to 31 are x0 to x31, 32 to 63 are f0 to f31
abbrev pub register : ℕ → List ℕ
register n = if nat_lt n 32 then codes "x" ++ decimal n else codes "f" ++ decimal (n - 32)

-- an offset has its sign
abbrev pub signed : ℤ → List ℕ
signed (pos n) = codes "+" ++ decimal n
signed (negsuc n) = signed_decimal (negsuc n)

-- texts with a blank between them
abbrev pub joined : List (List ℕ) → List ℕ
joined [] = []
joined (text ∷ texts) = text ++ flat_map (λ t. codes " " ++ t) texts
