-- Numbers of four bytes in memory, of which the bytes alone are known.
use Rattle.std.proofs.Common.{◌≡◌, ◌∙◌, refl, ap, subst, arith, ℕ, zero, suc, ◌+◌, ◌*◌, ◌/◌, ◌%◌, ◌^◌, ◌<◌, Bool, true, false, List, [], ◌∷◌, ◌++◌, length, flat_map, get_or, Some, w32}
use Rattle.std.specs.Prelude.{slice_get}
use Rattle.std.specs.Int.{to_le_bytes}
use Rattle.std.proofs.lemmas.List.{get_or_append_left, get_or-append-add}
use Rattle.rv64_isa.specs.State.{Part, Byte, byte_at, bytes_at, value_of}
use Rattle.machine_pieces.specs.Memory.{MayWrite}
use Rattle.machine_pieces.proofs.Storing.{whole, nothing}

-- a byte with what may be done with it
abbrev pub held : Bool → Bool → ℕ → Byte
held write exec value = record { value = value; write = write; exec = exec }

-- the bytes of numbers one behind the other
pub item_byte : {A : Type 0} (f : A → ℕ) (xs : List A) (n : ℕ) (x : A) (j : ℕ) → slice_get xs n ≡ Some x → j < 4 →
    get_or (flat_map (λ v. to_le_bytes w32 (f v)) xs) (4 * n + j) 0 ≡ get_or (to_le_bytes w32 (f x)) j 0
item_byte f [] n x j e small = absurd (cc e)
item_byte f (v ∷ xs) zero x j e small =
    let same : v ≡ x = cc e in
    let place : 4 * zero + j ≡ j = omega arith in
    let rest = flat_map (λ y. to_le_bytes w32 (f y)) xs in
    ap (λ k. get_or (to_le_bytes w32 (f v) ++ rest) k 0) place ∙ get_or_append_left (to_le_bytes w32 (f v)) rest 0 j small ∙ ap (λ y. get_or (to_le_bytes w32 (f y)) j 0) same
item_byte f (v ∷ xs) (suc n) x j e small =
    let rest = flat_map (λ y. to_le_bytes w32 (f y)) xs in
    let place : 4 * suc n + j ≡ length (to_le_bytes w32 (f v)) + (4 * n + j) = omega arith in
    ap (λ k. get_or (to_le_bytes w32 (f v) ++ rest) k 0) place ∙ get_or-append-add (to_le_bytes w32 (f v)) rest (4 * n + j) 0 ∙ item_byte f xs n x j e small

whole_word : (w : ℕ) → w < 2 ^ 32 → w % 256 + 2 ^ 8 * (w / 256 % 256 + 2 ^ 8 * (w / 256 ^ 2 % 256 + 2 ^ 8 * (w / 256 ^ 3 % 256 + 2 ^ 8 * 0))) ≡ w
whole_word w small = omega arith

module _ (write exec : Bool) where
  abbrev pub four : ℕ → List Byte
  four w = held write exec (w % 256) ∷ held write exec (w / 256 % 256) ∷ held write exec (w / 256 ^ 2 % 256) ∷ held write exec (w / 256 ^ 3 % 256) ∷ []

  pub four_value : (w : ℕ) → w < 2 ^ 32 → value_of (four w) ≡ w
  unfolding value_of
  four_value w small = whole_word w small

  -- they stand where each of them does
  pub four_there : (memory : List Part) (a w : ℕ) → ((j b : ℕ) → j < 4 → b ≡ a + j → byte_at memory b ≡ Some (held write exec (get_or (to_le_bytes w32 w) j 0))) → bytes_at memory a 4 ≡ Some (four w)
  four_there memory a w h =
      let b0 : byte_at memory a ≡ Some (held write exec (w % 256)) = h 0 a (omega arith) (omega arith) in
      let b1 : byte_at memory (a + 1) ≡ Some (held write exec (w / 256 % 256)) = h 1 (a + 1) (omega arith) (omega arith) in
      let b2 : byte_at memory (a + 1 + 1) ≡ Some (held write exec (w / 256 ^ 2 % 256)) = h 2 (a + 1 + 1) (omega arith) (omega arith) in
      let b3 : byte_at memory (a + 1 + 1 + 1) ≡ Some (held write exec (w / 256 ^ 3 % 256)) = h 3 (a + 1 + 1 + 1) (omega arith) (omega arith) in
      whole memory a 3 _ _ b0 (whole memory (a + 1) 2 _ _ b1 (whole memory (a + 1 + 1) 1 _ _ b2 (whole memory (a + 1 + 1 + 1) 0 _ [] b3 (nothing memory (a + 1 + 1 + 1 + 1)))))

-- memory may be written where each byte may
pub all_may : (memory : List Part) (a n : ℕ) (value : ℕ → ℕ) → ((k : ℕ) → k < n → byte_at memory (a + k) ≡ Some (held true false (value k))) → MayWrite memory a n
all_may memory a zero value h = record { bytes = []; there = nothing memory a; all = refl }
all_may memory a (suc n) value h =
    let rest = all_may memory (a + 1) n (λ k. value (suc k)) (λ k lt. subst (λ b. byte_at memory b ≡ Some (held true false (value (suc k)))) (omega arith) (h (suc k) (omega (arith, lt)))) in
    let first : byte_at memory a ≡ Some (held true false (value 0)) = subst (λ b. byte_at memory b ≡ Some (held true false (value 0))) (omega arith) (h 0 (omega arith)) in
    record { bytes = held true false (value 0) ∷ rest.bytes; there = whole memory a n (held true false (value 0)) rest.bytes first rest.there; all = rest.all }
