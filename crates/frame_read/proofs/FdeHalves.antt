-- A search by halves of FDEs in order.
use Rattle.std.proofs.Common.{◌≡◌, ◌+◌, ◌≤◌, ◌<◌, ℕ, false, List, [], ◌∷◌, ◌++◌, find, Option, Some, None, refl, ap, sym, subst, ◌∙◌, arith, if◌then◌else◌}
use Rattle.std.specs.Option.{option_or}
use Rattle.std.proofs.lemmas.Bool.Decides.{nat_tests}
use Rattle.std.proofs.lemmas.List.Folds.{find-append}
use Rattle.frame_read.specs.InOrder.{holds, InOrder}
use Rattle.frame_read.specs.declared.listed.Fde.{Fde}

none_here : (pc : ℕ) (x : Fde) (xs : List Fde) → holds pc x ≡ false → find (holds pc) xs ≡ None → find (holds pc) (x ∷ xs) ≡ None
none_here pc x xs fails rest = ap (λ b. if b then Some x else find (holds pc) xs) fails ∙ rest

none_above : (pc n : ℕ) (xs : List Fde) → pc < n → InOrder n xs → find (holds pc) xs ≡ None
none_above pc n [] less rise = refl
none_above pc n (x ∷ xs) less rise =
    let a = rise.0 in
    none_here pc x xs (grind (arith, nat_tests, a, less)) (none_above pc (x.region.start + x.region.length) xs (omega (arith, a, less)) rise.1)

reaches : (n : ℕ) (xs : List Fde) (y : Fde) (ys : List Fde) → InOrder n (xs ++ y ∷ ys) → n ≤ y.region.start
reaches n [] y ys rise = rise.0
reaches n (x ∷ xs) y ys rise = let r = reaches (x.region.start + x.region.length) xs y ys rise.1 in let a = rise.0 in omega (arith, r, a)

none_below : (pc n : ℕ) (xs : List Fde) (y : Fde) (ys : List Fde) → y.region.start ≤ pc → InOrder n (xs ++ y ∷ ys) → find (holds pc) xs ≡ None
none_below pc n [] y ys less rise = refl
none_below pc n (x ∷ xs) y ys less rise =
    let r = reaches (x.region.start + x.region.length) xs y ys rise.1 in
    none_here pc x xs (grind (arith, nat_tests, r, less)) (none_below pc (x.region.start + x.region.length) xs y ys less rise.1)

order_back : (n : ℕ) (xs : List Fde) (y : Fde) (ys : List Fde) → InOrder n (xs ++ y ∷ ys) → InOrder y.region.start (y ∷ ys)
order_back n [] y ys rise = (omega arith, rise.1)
order_back n (x ∷ xs) y ys rise = order_back (x.region.start + x.region.length) xs y ys rise.1

order_front : (n : ℕ) (xs ys : List Fde) → InOrder n (xs ++ ys) → InOrder n xs
order_front n [] ys rise = refl
order_front n (x ∷ xs) ys rise = (rise.0, order_front (x.region.start + x.region.length) xs ys rise.1)

or_none : (o : Option Fde) → option_or o None ≡ o
or_none None = refl
or_none (Some x) = refl

-- the second half has what is sought, if anything has
pub half_back : (pc n : ℕ) (all front back : List Fde) (y : Fde) (ys : List Fde) → front ++ back ≡ all → back ≡ y ∷ ys → y.region.start ≤ pc → InOrder n all →
    ((m : ℕ) × InOrder m back) × (find (holds pc) back ≡ find (holds pc) all)
half_back pc n all front back y ys whole cut less rise =
    let same = ap (λ b. front ++ b) (sym cut) ∙ whole in
    let rise' = subst (InOrder n) (sym same) rise in (
      (y.region.start, subst (InOrder y.region.start) (sym cut) (order_back n front y ys rise')),
      ap (find (holds pc)) cut ∙
          sym (find-append (holds pc) front (y ∷ ys) ∙ ap (λ o. option_or o (find (holds pc) (y ∷ ys))) (none_below pc n front y ys less rise')) ∙ ap (find (holds pc)) same,
    )

-- the first half has it
pub half_front : (pc n : ℕ) (all front back : List Fde) (y : Fde) (ys : List Fde) → front ++ back ≡ all → back ≡ y ∷ ys → pc < y.region.start → InOrder n all →
    ((m : ℕ) × InOrder m front) × (find (holds pc) front ≡ find (holds pc) all)
half_front pc n all front back y ys whole cut less rise =
    let same = ap (λ b. front ++ b) (sym cut) ∙ whole in
    let rise' = subst (InOrder n) (sym same) rise in (
      (n, order_front n front (y ∷ ys) rise'),
      sym (find-append (holds pc) front (y ∷ ys) ∙ ap (option_or (find (holds pc) front)) (none_above pc y.region.start (y ∷ ys) less (order_back n front y ys rise')) ∙
          or_none (find (holds pc) front)) ∙ ap (find (holds pc)) same,
    )
