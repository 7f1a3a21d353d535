-- How control comes to the places that carry, and leads out of them.
use Rattle.std.proofs.Common.{◌≡◌, ◌⊎◌, inl, inr, ℕ, zero, suc, true, List, [], ◌∷◌, Some, refl, sym, subst}
use Rattle.linear_forms.specs.Linear.{LinearOp}
use Rattle.linear_forms.specs.Sites.{Placed}
use Rattle.linear_invariant.specs.Phases.{Kind, opens, tests, ends, passes, cleans, marks, other, kind_of, Phase, off, opened, tested, cleaned, passed, labelled, next_phase, first_passes, carries_first, carries_in}
use Rattle.linear_invariant.proofs.Phases.{may_stand, Shaped, kinds_of_code, op_in, ends_part, kind_goes_on}

off_none : {X : Type 0} (ks : List Kind) → carries_in off ks 0 ≡ true → X
off_none [] e = absurd (cc e)
off_none (k ∷ ks) e = absurd (cc e)

labelled_passes : (ks : List Kind) → carries_in labelled ks 0 ≡ true → first_passes ks ≡ true
labelled_passes [] e = absurd (cc e)
labelled_passes (k ∷ ks) e = e

came_first : (ph : Phase) (k : Kind) (ks : List Kind) → carries_in (next_phase ph k) ks 0 ≡ true → may_stand ph k ≡ true → kind_goes_on k ≡ true → (carries_first ph (k ∷ ks) ≡ true) ⊎ (k ≡ opens)
came_first off opens ks e h g = inr refl
came_first off tests ks e h g = absurd (cc h)
came_first off ends ks e h g = absurd (cc h)
came_first off passes ks e h g = absurd (cc h)
came_first off cleans ks e h g = off_none ks e
came_first off marks ks e h g = off_none ks e
came_first off other ks e h g = off_none ks e
came_first opened k ks e h g = inl refl
came_first tested k ks e h g = inl refl
came_first cleaned k ks e h g = inl refl
came_first passed opens ks e h g = inr refl
came_first passed tests ks e h g = absurd (cc h)
came_first passed ends ks e h g = absurd (cc h)
came_first passed passes ks e h g = absurd (cc h)
came_first passed cleans ks e h g = off_none ks e
came_first passed marks ks e h g = inl (labelled_passes ks e)
came_first passed other ks e h g = off_none ks e
came_first labelled opens ks e h g = inr refl
came_first labelled tests ks e h g = absurd (cc h)
came_first labelled ends ks e h g = absurd (cc h)
came_first labelled passes ks e h g = absurd (cc g)
came_first labelled cleans ks e h g = off_none ks e
came_first labelled marks ks e h g = off_none ks e
came_first labelled other ks e h g = off_none ks e

-- control goes on to such a place from one, or from a pad
pub came_from : (ph : Phase) (is : List Placed) (p : ℕ) (o : LinearOp) → Shaped ph is → op_in is p ≡ Some o → carries_in ph (kinds_of_code is) (suc p) ≡ true → kind_goes_on (kind_of o) ≡ true →
    (carries_in ph (kinds_of_code is) p ≡ true) ⊎ (kind_of o ≡ opens)
came_from ph [] p o h e c g = absurd (cc e)
came_from ph (x ∷ xs) zero o h e c g =
    let same : o ≡ x.op = cc e in
    subst (λ i. (carries_first ph (kind_of x.op ∷ kinds_of_code xs) ≡ true) ⊎ (kind_of i ≡ opens)) (sym same)
    (came_first ph (kind_of x.op) (kinds_of_code xs) c h.0 (subst (λ i. kind_goes_on (kind_of i) ≡ true) same g))
came_from ph (x ∷ xs) (suc p) o h e c g = came_from (next_phase ph (kind_of x.op)) xs p o h.3 e c g

-- what stands at such a place tests or ends, or is a cleanup or a label in front of what does
pub record LeadsOut (is : List Placed) (p : ℕ) (o : LinearOp) : Type 0 where
  pub is_on : (kind_of o ≡ cleans) ⊎ (kind_of o ≡ marks)
  pub op : LinearOp
  pub there : op_in is (suc p) ≡ Some op
  pub ends_it : ends_part (kind_of op) ≡ true

cleaned_ends : (k : Kind) → may_stand cleaned k ≡ true → ends_part k ≡ true
cleaned_ends opens h = absurd (cc h)
cleaned_ends tests h = absurd (cc h)
cleaned_ends ends h = refl
cleaned_ends passes h = absurd (cc h)
cleaned_ends cleans h = absurd (cc h)
cleaned_ends marks h = absurd (cc h)
cleaned_ends other h = absurd (cc h)

passes_end : (k : Kind) (ks : List Kind) → first_passes (k ∷ ks) ≡ true → ends_part k ≡ true
passes_end opens ks h = absurd (cc h)
passes_end tests ks h = absurd (cc h)
passes_end ends ks h = absurd (cc h)
passes_end passes ks h = refl
passes_end cleans ks h = absurd (cc h)
passes_end marks ks h = absurd (cc h)
passes_end other ks h = absurd (cc h)

module _ (x : Placed) where
  behind_cleanup : (xs : List Placed) → kind_of x.op ≡ cleans → Shaped cleaned xs → LeadsOut (x ∷ xs) 0 x.op
  behind_cleanup [] i h = absurd (cc h)
  behind_cleanup (y ∷ ys) i h = record { is_on = inl i; op = y.op; there = refl; ends_it = cleaned_ends (kind_of y.op) h.0 }

  behind_mark : (xs : List Placed) → kind_of x.op ≡ marks → first_passes (kinds_of_code xs) ≡ true → LeadsOut (x ∷ xs) 0 x.op
  behind_mark [] i h = absurd (cc h)
  behind_mark (y ∷ ys) i h = record { is_on = inr i; op = y.op; there = refl; ends_it = passes_end (kind_of y.op) (kinds_of_code ys) h }

  out_first : (ph : Phase) (k : Kind) (xs : List Placed) → kind_of x.op ≡ k → may_stand ph k ≡ true → carries_first ph (k ∷ kinds_of_code xs) ≡ true → Shaped (next_phase ph k) xs →
      (ends_part k ≡ true) ⊎ LeadsOut (x ∷ xs) 0 x.op
  out_first off k xs i h c s = absurd (cc c)
  out_first opened opens xs i h c s = absurd (cc h)
  out_first opened tests xs i h c s = inl refl
  out_first opened ends xs i h c s = inl refl
  out_first opened passes xs i h c s = absurd (cc h)
  out_first opened cleans xs i h c s = inr (behind_cleanup xs i s)
  out_first opened marks xs i h c s = absurd (cc h)
  out_first opened other xs i h c s = absurd (cc h)
  out_first tested opens xs i h c s = absurd (cc h)
  out_first tested tests xs i h c s = inl refl
  out_first tested ends xs i h c s = inl refl
  out_first tested passes xs i h c s = absurd (cc h)
  out_first tested cleans xs i h c s = absurd (cc h)
  out_first tested marks xs i h c s = absurd (cc h)
  out_first tested other xs i h c s = absurd (cc h)
  out_first cleaned k xs i h c s = inl (cleaned_ends k h)
  out_first passed opens xs i h c s = absurd (cc c)
  out_first passed tests xs i h c s = absurd (cc c)
  out_first passed ends xs i h c s = absurd (cc c)
  out_first passed passes xs i h c s = absurd (cc c)
  out_first passed cleans xs i h c s = absurd (cc c)
  out_first passed marks xs i h c s = inr (behind_mark xs i c)
  out_first passed other xs i h c s = absurd (cc c)
  out_first labelled k xs i h c s = inl (passes_end k (kinds_of_code xs) c)

pub leads_out : (ph : Phase) (is : List Placed) (p : ℕ) (o : LinearOp) → Shaped ph is → op_in is p ≡ Some o → carries_in ph (kinds_of_code is) p ≡ true → (ends_part (kind_of o) ≡ true) ⊎ LeadsOut is p o
leads_out ph [] p o h e c = absurd (cc e)
leads_out ph (x ∷ xs) zero o h e c =
    let same : o ≡ x.op = cc e in
    subst (λ i. (ends_part (kind_of i) ≡ true) ⊎ LeadsOut (x ∷ xs) 0 i) (sym same) (out_first x ph (kind_of x.op) xs refl h.0 c h.3)
leads_out ph (x ∷ xs) (suc p) o h e c = go (leads_out (next_phase ph (kind_of x.op)) xs p o h.3 e c)
  where
    go : (ends_part (kind_of o) ≡ true) ⊎ LeadsOut xs p o → (ends_part (kind_of o) ≡ true) ⊎ LeadsOut (x ∷ xs) (suc p) o
    go (inl i) = inl i
    go (inr i) = inr (record { is_on = i.is_on; op = i.op; there = i.there; ends_it = i.ends_it })
