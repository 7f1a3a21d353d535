-- Turns of loops over lists.
use Rattle.std.proofs.Common.{◌≡◌, ◌+◌, ◌-◌, ◌<◌, ℕ, zero, suc, List, [], ◌∷◌, ◌++◌, length, take, drop, slice_index_or, refl, ap, ◌∙◌, arith}
use Rattle.elf_image.specs.Programs.{header_at, headers_from}

-- the item at an index stands in front of what is dropped behind it
pub drop_turn : {X : Type 0} (xs : List X) (at : ℕ) (d : X) → at < length xs → drop at xs ≡ slice_index_or xs at d ∷ drop (at + 1) xs
drop_turn [] at d inside = absurd (omega (arith, inside))
drop_turn (y ∷ xs) zero d inside = refl
drop_turn (y ∷ xs) (suc at) d inside =
    let e : suc (at + 1) ≡ suc at + 1 = omega arith in
    drop_turn xs at d (omega (arith, inside)) ∙ ap (λ n. slice_index_or xs at d ∷ drop n (y ∷ xs)) e

-- and at the end of what is taken
pub take_turn : {X : Type 0} (xs : List X) (at : ℕ) (d : X) → at < length xs → take (at + 1) xs ≡ take at xs ++ slice_index_or xs at d ∷ []
take_turn [] at d inside = absurd (omega (arith, inside))
take_turn (y ∷ xs) zero d inside = refl
take_turn (y ∷ xs) (suc at) d inside =
    let e : suc at + 1 ≡ suc (at + 1) = omega arith in
    ap (λ n. take n (y ∷ xs)) e ∙ ap (λ z. y ∷ z) (take_turn xs at d (omega (arith, inside)))

-- a header more
pub headers_step : (n : ℕ) (file : List ℕ) (p : ℕ) → 0 < n → headers_from n file p ≡ header_at file p ∷ headers_from (n - 1) file (p + 56)
headers_step zero file p some = absurd (omega (arith, some))
headers_step (suc n) file p some = let e : n ≡ suc n - 1 = omega arith in ap (λ m. header_at file p ∷ headers_from m file (p + 56)) e
