-- Bytes that two lists have in common, in front or from a place up to another.
use Rattle.std.proofs.Common.{◌≡◌, ◌+◌, ◌-◌, ◌≤◌, ℕ, zero, suc, List, [], ◌∷◌, length, take, drop, refl, ap, sym, subst, ◌∙◌, arith}
use Rattle.std.specs.Prelude.{⊤}
use Rattle.std.proofs.lemmas.List.{drop-drop, drop-take}

-- in front so many bytes are the same, or as many as both have
abbrev pub Agrees : ℕ → List ℕ → List ℕ → Type 0
Agrees zero xs ys = ⊤
Agrees (suc n) [] [] = ⊤
Agrees (suc n) [] (y ∷ ys) = ⊥
Agrees (suc n) (x ∷ xs) [] = ⊥
Agrees (suc n) (x ∷ xs) (y ∷ ys) = (x ≡ y) × Agrees n xs ys

pub agrees_less : (m n : ℕ) (xs ys : List ℕ) → m ≤ n → Agrees n xs ys → Agrees m xs ys
agrees_less zero n xs ys less same = tt
agrees_less (suc m) zero xs ys less same = absurd (omega (arith, less))
agrees_less (suc m) (suc n) [] [] less same = tt
agrees_less (suc m) (suc n) [] (y ∷ ys) less same = absurd same
agrees_less (suc m) (suc n) (x ∷ xs) [] less same = absurd same
agrees_less (suc m) (suc n) (x ∷ xs) (y ∷ ys) less same = (same.0, agrees_less m n xs ys (omega (arith, less)) same.1)

pub agrees_itself : (n : ℕ) (xs : List ℕ) → Agrees n xs xs
agrees_itself zero xs = tt
agrees_itself (suc n) [] = tt
agrees_itself (suc n) (x ∷ xs) = (refl, agrees_itself n xs)

pub agrees_drop : (k n : ℕ) (xs ys : List ℕ) → Agrees (k + n) xs ys → Agrees n (drop k xs) (drop k ys)
agrees_drop zero n xs ys same = subst (λ m. Agrees m xs ys) (let e : 0 + n ≡ n = omega arith in e) same
agrees_drop (suc k) n [] [] same = agrees_itself n []
agrees_drop (suc k) n [] (y ∷ ys) same = let e : suc k + n ≡ suc (k + n) = omega arith in absurd (subst (λ m. Agrees m [] (y ∷ ys)) e same)
agrees_drop (suc k) n (x ∷ xs) [] same = let e : suc k + n ≡ suc (k + n) = omega arith in absurd (subst (λ m. Agrees m (x ∷ xs) []) e same)
agrees_drop (suc k) n (x ∷ xs) (y ∷ ys) same =
    let e : suc k + n ≡ suc (k + n) = omega arith in
    let both : Agrees (suc (k + n)) (x ∷ xs) (y ∷ ys) = subst (λ m. Agrees m (x ∷ xs) (y ∷ ys)) e same in
    agrees_drop k n xs ys both.1

pub agrees_take : (n k : ℕ) (xs ys : List ℕ) → n ≤ k → Agrees n xs ys → Agrees n (take k xs) (take k ys)
agrees_take zero k xs ys less same = tt
agrees_take (suc n) zero xs ys less same = absurd (omega (arith, less))
agrees_take (suc n) (suc k) [] [] less same = tt
agrees_take (suc n) (suc k) [] (y ∷ ys) less same = absurd same
agrees_take (suc n) (suc k) (x ∷ xs) [] less same = absurd same
agrees_take (suc n) (suc k) (x ∷ xs) (y ∷ ys) less same = (same.0, agrees_take n k xs ys (omega (arith, less)) same.1)

pub agrees_length : (n : ℕ) (xs ys : List ℕ) → n ≤ length xs → Agrees n xs ys → n ≤ length ys
agrees_length zero xs ys long same = omega arith
agrees_length (suc n) [] ys long same = absurd (omega (arith, long))
agrees_length (suc n) (x ∷ xs) [] long same = absurd same
agrees_length (suc n) (x ∷ xs) (y ∷ ys) long same = let more = agrees_length n xs ys (omega (arith, long)) same.1 in omega (arith, more)

pub taken_same : (n : ℕ) (xs ys : List ℕ) → Agrees n xs ys → take n xs ≡ take n ys
taken_same zero xs ys same = refl
taken_same (suc n) [] [] same = refl
taken_same (suc n) [] (y ∷ ys) same = absurd same
taken_same (suc n) (x ∷ xs) [] same = absurd same
taken_same (suc n) (x ∷ xs) (y ∷ ys) same = ap (λ z. z ∷ take n xs) same.0 ∙ ap (λ zs. y ∷ zs) (taken_same n xs ys same.1)

-- from a place up to another the bytes are the same, or as many as both have
abbrev pub Same : ℕ → ℕ → List ℕ → List ℕ → Type 0
Same p q xs ys = Agrees (q - p) (drop p xs) (drop p ys)

pub same_inside : (lo hi p q : ℕ) (xs ys : List ℕ) → lo ≤ p → q ≤ hi → Same lo hi xs ys → Same p q xs ys
same_inside lo hi p q xs ys from to same =
    let k = p - lo in
    let place : lo + k ≡ p = omega (arith, from) in
    let xs' : drop k (drop lo xs) ≡ drop p xs = drop-drop k lo xs ∙ ap (λ n. drop n xs) place in
    let ys' : drop k (drop lo ys) ≡ drop p ys = drop-drop k lo ys ∙ ap (λ n. drop n ys) place in
    subst (λ zs. Agrees (q - p) (drop p xs) zs) ys' (subst (λ zs. Agrees (q - p) zs (drop k (drop lo ys))) xs' (step (q - p) refl k))
  where
    step : (n : ℕ) → q - p ≡ n → (k : ℕ) → Agrees n (drop (p - lo) (drop lo xs)) (drop (p - lo) (drop lo ys))
    step zero e k = tt
    step (suc n) e k = agrees_drop (p - lo) (suc n) (drop lo xs) (drop lo ys) (agrees_less (p - lo + suc n) (hi - lo) (drop lo xs) (drop lo ys) (omega (arith, e, from, to)) same)

-- also in lists that are cut behind them
pub same_cut : (p q stop : ℕ) (xs ys : List ℕ) → p ≤ stop → q ≤ stop → Same p q xs ys → Same p q (take stop xs) (take stop ys)
same_cut p q stop xs ys from to same =
    let m = stop - p in
    let whole : stop ≡ p + m = omega (arith, from) in
    let cut_xs : drop p (take stop xs) ≡ take m (drop p xs) = ap (λ n. drop p (take n xs)) whole ∙ drop-take p m xs in
    let cut_ys : drop p (take stop ys) ≡ take m (drop p ys) = ap (λ n. drop p (take n ys)) whole ∙ drop-take p m ys in
    subst (λ zs. Agrees (q - p) zs (drop p (take stop ys))) (sym cut_xs)
    (subst (λ zs. Agrees (q - p) (take m (drop p xs)) zs) (sym cut_ys) (agrees_take (q - p) m (drop p xs) (drop p ys) (omega (arith, to)) same))
