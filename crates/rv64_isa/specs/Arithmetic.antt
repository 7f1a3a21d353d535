-- What the operations give, on numbers of 64 bits (RISC-V unprivileged ISA, volume I, "RV32I", "RV64I" and the M extension).
use Rattle.std.specs.Prelude.{ℕ, ℤ, ◌+◌, ◌-◌, ◌*◌, ◌/◌, ◌%◌, ◌^◌, ◌==◌, Bool, nat_lt, int_lt, int_div, int_rem, bit_and, bit_or, bit_xor, if◌then◌else◌}
use Rattle.std.specs.Int.{w64, cast_signed, cast_unsigned, int_shr}

-- a number of some bits as one of more, the top bit repeated
abbrev pub widened : ℕ → ℕ → ℕ → ℕ
widened from to x = if nat_lt x (2 ^ (from - 1)) then x else x + (2 ^ to - 2 ^ from)

abbrev pub sign_extended : ℕ → ℕ → ℕ
sign_extended bits x = widened bits 64 x

-- the low 32 bits, and the low 32 bits with their sign
abbrev pub low : ℕ → ℕ
low x = x % 2 ^ 32

abbrev pub word : ℕ → ℕ
word x = sign_extended 32 (low x)

-- 64 bits as a number with sign (two's complement)
abbrev pub signed : ℕ → ℤ
signed x = cast_signed w64 x

abbrev pub flag : Bool → ℕ
flag b = if b then 1 else 0

abbrev pub is_less : ℕ → ℕ → Bool
is_less x y = int_lt (signed x) (signed y)

-- overflow is ignored
abbrev pub add : ℕ → ℕ → ℕ
add x y = (x + y) % 2 ^ 64

abbrev pub sub : ℕ → ℕ → ℕ
sub x y = (x + (2 ^ 64 - y)) % 2 ^ 64

-- 1 where x is less than y, else 0: with sign, and without
abbrev pub slt : ℕ → ℕ → ℕ
slt x y = flag (is_less x y)

abbrev pub sltu : ℕ → ℕ → ℕ
sltu x y = flag (nat_lt x y)

abbrev pub xor : ℕ → ℕ → ℕ
xor x y = bit_xor x y

abbrev pub or : ℕ → ℕ → ℕ
or x y = bit_or x y

abbrev pub and : ℕ → ℕ → ℕ
and x y = bit_and x y

-- shifts by the low six bits of y: left, right with zeros, and right with copies of the sign
abbrev pub sll : ℕ → ℕ → ℕ
sll x y = (x * 2 ^ (y % 64)) % 2 ^ 64

abbrev pub srl : ℕ → ℕ → ℕ
srl x y = x / 2 ^ (y % 64)

abbrev pub sra : ℕ → ℕ → ℕ
sra x y = cast_unsigned w64 (int_shr (signed x) (y % 64))

-- the low 64 bits of the product
abbrev pub mul : ℕ → ℕ → ℕ
mul x y = (x * y) % 2 ^ 64

-- the high 64 bits of the product: both with sign, x with sign and y without, both without
abbrev pub high_product : ℕ → ℕ → ℕ
high_product x y = x * y % 2 ^ 128 / 2 ^ 64

abbrev pub mulh : ℕ → ℕ → ℕ
mulh x y = high_product (widened 64 128 x) (widened 64 128 y)

abbrev pub mulhsu : ℕ → ℕ → ℕ
mulhsu x y = high_product (widened 64 128 x) y

abbrev pub mulhu : ℕ → ℕ → ℕ
mulhu x y = high_product x y

-- quotients are rounded towards 0; a divisor of 0 gives all ones; the least number divided by -1 gives itself
abbrev pub div : ℕ → ℕ → ℕ
div x y = if y == 0 then 2 ^ 64 - 1 else cast_unsigned w64 (int_div (signed x) (signed y))

abbrev pub divu : ℕ → ℕ → ℕ
divu x y = if y == 0 then 2 ^ 64 - 1 else x / y

-- remainders have the sign of x; a divisor of 0 gives x; the least number divided by -1 leaves 0
abbrev pub rem : ℕ → ℕ → ℕ
rem x y = if y == 0 then x else cast_unsigned w64 (int_rem (signed x) (signed y))

abbrev pub remu : ℕ → ℕ → ℕ
remu x y = if y == 0 then x else x % y

-- the operations on the low 32 bits, whose results of 32 bits are given with their sign
abbrev pub addw : ℕ → ℕ → ℕ
addw x y = word (add x y)

abbrev pub subw : ℕ → ℕ → ℕ
subw x y = word (sub x y)

abbrev pub sllw : ℕ → ℕ → ℕ
sllw x y = word (sll x (y % 32))

abbrev pub srlw : ℕ → ℕ → ℕ
srlw x y = word (srl (low x) (y % 32))

abbrev pub sraw : ℕ → ℕ → ℕ
sraw x y = word (sra (word x) (y % 32))

abbrev pub mulw : ℕ → ℕ → ℕ
mulw x y = word (mul x y)

abbrev pub divw : ℕ → ℕ → ℕ
divw x y = word (div (word x) (word y))

abbrev pub divuw : ℕ → ℕ → ℕ
divuw x y = word (divu (low x) (low y))

abbrev pub remw : ℕ → ℕ → ℕ
remw x y = word (rem (word x) (word y))

abbrev pub remuw : ℕ → ℕ → ℕ
remuw x y = word (remu (low x) (low y))
