-- Numbers in a list of bytes, byte by byte.
use Rattle.std.proofs.Common.{ℕ, suc, ◌≡◌, ◌+◌, ◌/◌, ◌%◌, ◌^◌, List, [], ◌∷◌, ap, arith}
use Rattle.std.specs.Prelude.{slice_index, slice_set}
use Rattle.std.specs.Int.{w16, w32, w64, from_le_bytes}
use Rattle.rv64_machine.specs.Bytes.{number_at, with_number}

index_at : (bytes : List ℕ) (i j : ℕ) → i ≡ j → slice_index bytes i ≡ slice_index bytes j
index_at bytes i j e = ap (slice_index bytes) e

pub number_1 : (bytes : List ℕ) (at : ℕ) → slice_index bytes at ≡ number_at bytes at 1
unfolding number_at
number_1 bytes at = omega arith

pub number_2 : (bytes : List ℕ) (at : ℕ) → from_le_bytes w16 (slice_index bytes at ∷ slice_index bytes (at + 1) ∷ []) ≡ number_at bytes at 2
unfolding number_at
number_2 bytes at = omega arith

pub number_4 : (bytes : List ℕ) (at : ℕ) →
    from_le_bytes w32 (slice_index bytes at ∷ slice_index bytes (at + 1) ∷ slice_index bytes (at + 2) ∷ slice_index bytes (at + 3) ∷ []) ≡ number_at bytes at 4
unfolding number_at
number_4 bytes at =
    let two = index_at bytes (at + 2) (at + 1 + 1) (omega arith) in
    let three = index_at bytes (at + 3) (at + 1 + 1 + 1) (omega arith) in
    omega arith

pub number_8 : (bytes : List ℕ) (at : ℕ) →
    from_le_bytes w64 (slice_index bytes at ∷ slice_index bytes (at + 1) ∷ slice_index bytes (at + 2) ∷ slice_index bytes (at + 3) ∷
    slice_index bytes (at + 4) ∷ slice_index bytes (at + 5) ∷ slice_index bytes (at + 6) ∷ slice_index bytes (at + 7) ∷ []) ≡ number_at bytes at 8
unfolding number_at
number_8 bytes at =
    let two = index_at bytes (at + 2) (at + 1 + 1) (omega arith) in
    let three = index_at bytes (at + 3) (at + 1 + 1 + 1) (omega arith) in
    let four = index_at bytes (at + 4) (at + 1 + 1 + 1 + 1) (omega arith) in
    let five = index_at bytes (at + 5) (at + 1 + 1 + 1 + 1 + 1) (omega arith) in
    let six = index_at bytes (at + 6) (at + 1 + 1 + 1 + 1 + 1 + 1) (omega arith) in
    let seven = index_at bytes (at + 7) (at + 1 + 1 + 1 + 1 + 1 + 1 + 1) (omega arith) in
    omega arith

pub ruleset numbers = (number_1, number_2, number_4, number_8)

-- one more byte is written
pub with_number-next : (bytes : List ℕ) (at n m value : ℕ) → n ≡ suc m → with_number bytes at n value ≡ with_number (slice_set bytes at (value % 2 ^ 8)) (at + 1) m (value / 2 ^ 8)
unfolding with_number
with_number-next bytes at n m value e = ap (λ k. with_number bytes at k value) e

pub with_number-end : (bytes : List ℕ) (at n value : ℕ) → n ≡ 0 → with_number bytes at n value ≡ bytes
unfolding with_number
with_number-end bytes at n value e = ap (λ k. with_number bytes at k value) e
