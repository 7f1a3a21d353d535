-- The registers of kept variables, by their places among them.
use Rattle.std.proofs.Common.{◌≡◌, ◌∙◌, ℕ, zero, suc, ◌+◌, Bool, true, false, cond, List, [], ◌∷◌, drop, length, Option, None, Some, refl, ap, sym, arith}
use Rattle.std.specs.Prelude.{◌==◌, nat_lt, not, position, slice_get, if◌then◌else◌}
use Rattle.std.specs.List.{position_or_len}
use Rattle.std.proofs.lemmas.Bool.Decides.{nat_tests}
use Rattle.machine_forms.specs.KeptCode.{register_among}

-- the item at a place, where there is a place
abbrev pub at_place : List ℕ → Option ℕ → Option ℕ
at_place rs None = None
at_place rs (Some n) = slice_get rs n

within : (n m : ℕ) → nat_lt (1 + n) (suc m) ≡ nat_lt n m
within n m = grind (arith, nat_tests)

first_within : (m : ℕ) → nat_lt 0 (suc m) ≡ true
first_within m = grind (arith, nat_tests)

among : (rs ks : List ℕ) (s : ℕ) → register_among rs ks s ≡ at_place rs (position (λ k. k == s) ks)
among [] ks s = none (nat_lt (position_or_len (λ k. k == s) ks) (length ks))
  where
    none : (b : Bool) → None ≡ at_place [] (cond b (Some (position_or_len (λ k. k == s) ks)) None)
    none true = refl
    none false = refl
among (r ∷ rs) [] s = refl
among (r ∷ rs) (k ∷ ks) s = by (k == s) (among rs ks s)
  where
    n : ℕ
    n = position_or_len (λ k. k == s) ks

    more : (b : Bool) → at_place rs (cond b (Some n) None) ≡ at_place (r ∷ rs) (cond b (Some (1 + n)) None)
    more true = let next : suc n ≡ 1 + n = omega arith in ap (slice_get (r ∷ rs)) next
    more false = refl

    by : (b : Bool) → register_among rs ks s ≡ at_place rs (position (λ k. k == s) ks) →
        (if b then Some r else register_among rs ks s)
        ≡ at_place (r ∷ rs) (cond (nat_lt (cond (not b) (1 + n) 0) (suc (length ks))) (Some (cond (not b) (1 + n) 0)) None)
    by true rest = ap (λ b. at_place (r ∷ rs) (cond b (Some 0) None)) (sym (first_within (length ks)))
    by false rest = rest ∙ more (nat_lt n (length ks)) ∙ ap (λ b. at_place (r ∷ rs) (cond b (Some (1 + n)) None)) (sym (within n (length ks)))

-- where none is found, and where one is
pub none_found : (rs ks : List ℕ) (s : ℕ) → position (λ k. k == s) ks ≡ None → None ≡ register_among rs ks s
none_found rs ks s e = sym (among rs ks s ∙ ap (at_place rs) e)

pub one_found : (rs ks : List ℕ) (s n : ℕ) → position (λ k. k == s) ks ≡ Some n → slice_get rs n ≡ register_among rs ks s
one_found rs ks s n e = sym (among rs ks s ∙ ap (at_place rs) e)

-- a list from the place of an item on, and from behind its end
pub from_item : (xs : List ℕ) (n x : ℕ) → slice_get xs n ≡ Some x → drop n xs ≡ x ∷ drop (n + 1) xs
from_item [] n x e = absurd (cc e)
from_item (y ∷ xs) zero x e = let same : y ≡ x = cc e in ap (λ z. z ∷ xs) same
from_item (y ∷ xs) (suc n) x e =
    let on : suc (n + 1) ≡ suc n + 1 = omega arith in
    from_item xs n x e ∙ ap (λ k. x ∷ drop k (y ∷ xs)) on

pub from_none : (xs : List ℕ) (n : ℕ) → slice_get xs n ≡ None → drop n xs ≡ []
from_none [] zero e = refl
from_none [] (suc n) e = refl
from_none (y ∷ xs) zero e = absurd (cc e)
from_none (y ∷ xs) (suc n) e = from_none xs n e
