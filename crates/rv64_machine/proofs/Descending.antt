-- Numbers in front of a place, byte by byte.
use Rattle.std.proofs.Common.{ℕ, suc, ◌≡◌, ◌-◌, ◌/◌, ◌%◌, ◌^◌, List, [], ◌∷◌, ap, arith}
use Rattle.std.specs.Prelude.{slice_index, slice_set}
use Rattle.std.specs.Int.{w16, w32, w64, from_le_bytes}
use Rattle.rv64_machine.specs.Reserved.{number_below, with_number_below}

index_at : (bytes : List ℕ) (i j : ℕ) → i ≡ j → slice_index bytes i ≡ slice_index bytes j
index_at bytes i j e = ap (slice_index bytes) e

pub below_1 : (bytes : List ℕ) (at : ℕ) → slice_index bytes (at - 1) ≡ number_below bytes at 1
unfolding number_below
below_1 bytes at = omega arith

pub below_2 : (bytes : List ℕ) (at : ℕ) → from_le_bytes w16 (slice_index bytes (at - 1) ∷ slice_index bytes (at - 2) ∷ []) ≡ number_below bytes at 2
unfolding number_below
below_2 bytes at = let two = index_at bytes (at - 2) (at - 1 - 1) (omega arith) in omega arith

pub below_4 : (bytes : List ℕ) (at : ℕ) →
    from_le_bytes w32 (slice_index bytes (at - 1) ∷ slice_index bytes (at - 2) ∷ slice_index bytes (at - 3) ∷ slice_index bytes (at - 4) ∷ []) ≡ number_below bytes at 4
unfolding number_below
below_4 bytes at =
    let two = index_at bytes (at - 2) (at - 1 - 1) (omega arith) in
    let three = index_at bytes (at - 3) (at - 1 - 1 - 1) (omega arith) in
    let four = index_at bytes (at - 4) (at - 1 - 1 - 1 - 1) (omega arith) in
    omega arith

pub below_8 : (bytes : List ℕ) (at : ℕ) →
    from_le_bytes w64 (slice_index bytes (at - 1) ∷ slice_index bytes (at - 2) ∷ slice_index bytes (at - 3) ∷ slice_index bytes (at - 4) ∷
    slice_index bytes (at - 5) ∷ slice_index bytes (at - 6) ∷ slice_index bytes (at - 7) ∷ slice_index bytes (at - 8) ∷ []) ≡ number_below bytes at 8
unfolding number_below
below_8 bytes at =
    let two = index_at bytes (at - 2) (at - 1 - 1) (omega arith) in
    let three = index_at bytes (at - 3) (at - 1 - 1 - 1) (omega arith) in
    let four = index_at bytes (at - 4) (at - 1 - 1 - 1 - 1) (omega arith) in
    let five = index_at bytes (at - 5) (at - 1 - 1 - 1 - 1 - 1) (omega arith) in
    let six = index_at bytes (at - 6) (at - 1 - 1 - 1 - 1 - 1 - 1) (omega arith) in
    let seven = index_at bytes (at - 7) (at - 1 - 1 - 1 - 1 - 1 - 1 - 1) (omega arith) in
    let eight = index_at bytes (at - 8) (at - 1 - 1 - 1 - 1 - 1 - 1 - 1 - 1) (omega arith) in
    omega arith

pub ruleset numbers = (below_1, below_2, below_4, below_8)

-- one more byte is written
pub with_number_below-next : (bytes : List ℕ) (at n m value : ℕ) → n ≡ suc m →
    with_number_below bytes at n value ≡ with_number_below (slice_set bytes (at - 1) (value % 2 ^ 8)) (at - 1) m (value / 2 ^ 8)
unfolding with_number_below
with_number_below-next bytes at n m value e = ap (λ k. with_number_below bytes at k value) e

pub with_number_below-end : (bytes : List ℕ) (at n value : ℕ) → n ≡ 0 → with_number_below bytes at n value ≡ bytes
unfolding with_number_below
with_number_below-end bytes at n value e = ap (λ k. with_number_below bytes at k value) e
