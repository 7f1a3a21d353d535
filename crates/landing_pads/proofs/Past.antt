-- Exits that go past regions.
use Rattle.std.proofs.Common.{◌≡◌, ◌∙◌, ℕ, zero, suc, ◌+◌, ◌-◌, Bool, true, false, List, [], ◌∷◌, ◌++◌, refl, ap, sym, arith}
use Rattle.std.specs.Prelude.{nat_lt, if◌then◌else◌}
use Rattle.std.proofs.lemmas.Bool.Decides.{nat_tests}
use Rattle.linear_forms.specs.Exits.{beyond}
use Rattle.linear_forms.specs.Distinct.{added_all, same_number}
use Rattle.landing_pads.specs.Past.{past}
use Rattle.landing_pads.proofs.Distinct.{then_added}

-- exits of two parts
pub past_both : (d : ℕ) (xs ys : List ℕ) → past d (xs ++ ys) ≡ past d xs ++ past d ys
past_both d [] ys = refl
past_both d (n ∷ xs) ys = go (nat_lt n d) (past_both d xs ys) where
  go : (b : Bool) → past d (xs ++ ys) ≡ past d xs ++ past d ys → (if b then past d (xs ++ ys) else (n - d) ∷ past d (xs ++ ys)) ≡ (if b then past d xs else (n - d) ∷ past d xs) ++ past d ys
  go true h = h
  go false h = ap (λ zs. (n - d) ∷ zs) h

-- past one region more
pub past_beyond : (d : ℕ) (ns : List ℕ) → past (d + 1) ns ≡ past d (beyond ns)
past_beyond d [] = refl
past_beyond d (zero ∷ ns) = grind (arith, nat_tests, past_beyond d ns)
past_beyond d (suc n ∷ ns) = grind (arith, nat_tests, past_beyond d ns)

-- past none
pub past_none : (ns : List ℕ) → past 0 ns ≡ ns
past_none [] = refl
past_none (n ∷ ns) = grind (arith, nat_tests, past_none ns)

-- past one region
pub past_one : (ns : List ℕ) → past 1 ns ≡ beyond ns
past_one ns = past_beyond 0 ns ∙ past_none (beyond ns)

-- what is left of two parts is kept once
pub past_added : (d : ℕ) (ys zs xs : List ℕ) →
    added_all same_number xs (past d (ys ++ zs)) ≡ added_all same_number (added_all same_number xs (past d ys)) (past d zs)
past_added d ys zs xs = ap (added_all same_number xs) (past_both d ys zs) ∙ then_added same_number (past d ys) xs (past d zs)

-- what is left of two parts inside one region more is kept once
pub past_inside : (d n : ℕ) (ys zs xs : List ℕ) → n ≡ d + 1 →
    added_all same_number (added_all same_number xs (past n ys)) (past n zs) ≡ added_all same_number xs (past d (beyond (ys ++ zs)))
past_inside d n ys zs xs e =
    sym (past_added n ys zs xs) ∙ ap (added_all same_number xs) (ap (λ k. past k (ys ++ zs)) e ∙ past_beyond d (ys ++ zs))
