-- What a list says of each place, from the first one on.
use Rattle.std.proofs.Common.{◌≡◌, ℕ, zero, suc, ◌+◌, ◌≤◌, List, [], ◌∷◌, length, refl, ap, ◌∙◌, arith}
use Rattle.std.specs.Prelude.{slice_get, unwrap_or}
use Rattle.cost_paths.proofs.Ranks.{Ranked}

-- ranks in a list, and behind its end
abbrev pub rank_in : {A : Type 0} → List A → A → ℕ → A
rank_in ns other p = unwrap_or (slice_get ns p) other

-- what stands at places from k on
listed : {A : Type 0} (other : A) (ns whole : List A) (k : ℕ) → ((i : ℕ) → rank_in whole other (k + i) ≡ rank_in ns other i) → Ranked (rank_in whole other) k ns
listed other [] whole k h = tt
listed other (n ∷ ns) whole k h =
    let here : k ≡ k + 0 = omega arith in
    (ap (rank_in whole other) here ∙ h 0, listed other ns whole (k + 1) (λ i. let next : k + 1 + i ≡ k + suc i = omega arith in ap (rank_in whole other) next ∙ h (suc i)))

pub all_listed : {A : Type 0} (other : A) (ns : List A) → Ranked (rank_in ns other) 0 ns
all_listed other ns = listed other ns ns 0 (λ i. let same : 0 + i ≡ i = omega arith in ap (rank_in ns other) same)

pub behind_all : {A : Type 0} (other : A) (ns : List A) (p : ℕ) → length ns ≤ p → rank_in ns other p ≡ other
behind_all other [] zero h = refl
behind_all other [] (suc p) h = refl
behind_all other (n ∷ ns) zero h = absurd (omega (arith, h))
behind_all other (n ∷ ns) (suc p) h = behind_all other ns p (omega (arith, h))
