-- The registers that code uses, by the names of the RISC-V calling convention.
use Rattle.std.specs.Prelude.{ℕ, List, [], ◌∷◌, slice_get, unwrap_or}

abbrev pub zero_register : ℕ
zero_register = 0

abbrev pub ra : ℕ
ra = 1

abbrev pub sp : ℕ
sp = 2

abbrev pub t0 : ℕ
t0 = 5

abbrev pub a0 : ℕ
a0 = 10

abbrev pub a1 : ℕ
a1 = 11

abbrev pub a2 : ℕ
a2 = 12

-- the number of a runtime call
abbrev pub a7 : ℕ
a7 = 17

-- the registers in which values are computed, in the order in which they are taken: a0 to a7, then t0 to t6
abbrev pub value_registers : List ℕ
value_registers = 10 ∷ 11 ∷ 12 ∷ 13 ∷ 14 ∷ 15 ∷ 16 ∷ 17 ∷ 5 ∷ 6 ∷ 7 ∷ 28 ∷ 29 ∷ 30 ∷ 31 ∷ []

-- the registers of kept variables, which a call keeps, in the order in which they are taken: s1 to s10
abbrev pub saved_registers : List ℕ
saved_registers = 9 ∷ 18 ∷ 19 ∷ 20 ∷ 21 ∷ 22 ∷ 23 ∷ 24 ∷ 25 ∷ 26 ∷ []

-- the k-th register for values
abbrev pub register : ℕ → ℕ
register k = unwrap_or (slice_get value_registers k) zero_register
