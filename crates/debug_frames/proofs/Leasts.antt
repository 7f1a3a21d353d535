-- The least of two lists is the lesser of what is least in each, and there is none exactly where neither list has one.
use Rattle.std.proofs.Common.{◌≡◌, ℕ, Bool, true, false, List, [], ◌∷◌, ◌++◌, Some, None, Option, refl, ap, sym, ◌∙◌, arith, min}
use Rattle.debug_frames.specs.Least.{lesser, least_of}
use Rattle.debug_frames.specs.FoundSection.{unless}

pub lesser_none : (o : Option ℕ) → lesser o None ≡ o
lesser_none None = refl
lesser_none (Some n) = refl

pub lesser_lesser : (a b c : Option ℕ) → lesser a (lesser b c) ≡ lesser (lesser a b) c
lesser_lesser None b c = refl
lesser_lesser (Some n) None c = refl
lesser_lesser (Some n) (Some m) None = refl
lesser_lesser (Some n) (Some m) (Some k) = let e : min n (min m k) ≡ min (min n m) k = omega arith in ap (λ x. Some x) e

pub least-append : (xs ys : List ℕ) → least_of (xs ++ ys) ≡ lesser (least_of xs) (least_of ys)
unfolding least_of
least-append [] ys = refl
least-append (x ∷ xs) ys = ap (lesser (Some x)) (least-append xs ys) ∙ lesser_lesser (Some x) (least_of xs) (least_of ys)

pub both : (xs ys : List ℕ) → lesser (least_of xs) (least_of ys) ≡ least_of (xs ++ ys)
both xs ys = sym (least-append xs ys)

none_right : (a b : Option ℕ) → lesser a b ≡ None → b ≡ None
none_right None b e = e
none_right (Some n) None e = refl
none_right (Some n) (Some m) e = absurd cc

pub none_second : (xs ys : List ℕ) → least_of (xs ++ ys) ≡ None → least_of ys ≡ None
none_second xs ys e = none_right (least_of xs) (least_of ys) (both xs ys ∙ e)

-- a condition without a place holds
pub holds : (b : Bool) (p : ℕ) → least_of (unless b p) ≡ None → b ≡ true
unfolding least_of
holds true p e = refl
holds false p e = absurd cc
