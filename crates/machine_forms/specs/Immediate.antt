-- Numbers with sign as fields of instructions (RISC-V unprivileged ISA, volume I, "Immediate Encoding Variants"). A number of 32 bits is
-- an upper part of 20 bits and a lower part of 12 bits with sign, so the upper part is rounded.
use Rattle.std.specs.Prelude.{ℕ, ℤ, pos, negsuc, ◌+◌, ◌-◌, ◌*◌, ◌/◌, ◌%◌, ◌^◌, Bool, nat_lt}

-- a number modulo m, as two's complement has it
abbrev pub modulo : ℕ → ℤ → ℕ
modulo m (pos n) = n % m
modulo m (negsuc n) = m - 1 - n % m

-- an immediate of 12 bits
abbrev pub immediate : ℤ → ℕ
immediate z = modulo (2 ^ 12) z

-- the upper part of a number of 32 bits, and the lower part
abbrev pub upper : ℤ → ℕ
upper z = (modulo (2 ^ 32) z + 2 ^ 11) / 2 ^ 12 % 2 ^ 20

abbrev pub lower : ℤ → ℕ
lower z = immediate z

-- the field of a jump over so many words
abbrev pub jump_field : ℤ → ℕ
jump_field words = modulo (2 ^ 20) (elim words [ pos n ↦ pos (2 * n) | negsuc n ↦ negsuc (2 * n + 1) ])

-- a number is its lower part alone
abbrev pub is_small : ℤ → Bool
is_small (pos n) = nat_lt n (2 ^ 11)
is_small (negsuc n) = nat_lt n (2 ^ 11)
