-- How many handlers an exception has.
use Rattle.std.proofs.Common.{◌≡◌, ◌∙◌, refl, ap, subst, ℕ, zero, suc, ◌+◌, ◌<◌, ◌^◌, ◌==◌, ◌&&◌, ◌||◌, Bool, true, false, cond, not, nat_lt, [], ◌∷◌, Some, ℤ, pos, negsuc, arith}
use Rattle.std.proofs.lemmas.Bool.Decides.{nat_tests}
use Rattle.caught_stack.specs.Caught.{Caught, handler_count, is_caught, is_in_front, is_newest, is_small}
use Rattle.caught_stack.specs.Exceptions.{Exceptions}
use Rattle.caught_stack.specs.Rethrow.{rethrown, rethrown_on}
use Rattle.caught_stack.proofs.Bools.{and_true, both_true, eq_same}
use Rattle.cxa_runtime.specs.Kept.{is_within, are_within}
use Rattle.cxa_runtime.specs.MayBegin.{may_begin}

within_small : (most : ℕ) (n : ℤ) → most < 2 ^ 62 → is_within most n ≡ true → is_small n ≡ true
within_small most (pos n) few h = grind (arith, nat_tests)
within_small most (negsuc n) few h = grind (arith, nat_tests)

-- each count is small
count_small : (most : ℕ) (c : Caught) (slot : ℕ) → most < 2 ^ 62 → are_within most c ≡ true → is_small (handler_count c slot) ≡ true
count_small most [] slot few h = refl
count_small most ((s, n) ∷ more) slot few h =
    let parts = and_true (is_within most n) (are_within most more) h in
    go (s == slot) (within_small most n few parts.0) (count_small most more slot few parts.1)
  where
    go : (b : Bool) → is_small n ≡ true → is_small (handler_count more slot) ≡ true → is_small (cond b n (handler_count more slot)) ≡ true
    go true here there = here
    go false here there = there

one_uncaught_at_least : (n : ℕ) → nat_lt 0 (n + 1) ≡ true
one_uncaught_at_least n = grind (arith, nat_tests)

all_three : (a b c : Bool) → a ≡ true → b ≡ true → c ≡ true → (a && b && c) ≡ true
all_three a b c p q r = both_true (a && b) c (both_true a b p q) r

or_true : (a b : Bool) → b ≡ true → (a || b) ≡ true
or_true true b h = refl
or_true false b h = h

true_or : (a b : Bool) → a ≡ true → (a || b) ≡ true
true_or a b h = ap (λ x. x || b) h

-- an exception that is thrown may be entered
pub thrown_may : (most : ℕ) (e : Exceptions) (slot uncaught : ℕ) → most < 2 ^ 62 → are_within most e.caught ≡ true → is_caught e.caught slot ≡ false → e.uncaught ≡ uncaught + 1 → may_begin e slot ≡ true
thrown_may most e slot uncaught few h out more =
    all_three (nat_lt 0 e.uncaught) (is_small (handler_count e.caught slot)) (is_in_front e.caught slot)
    (ap (nat_lt 0) more ∙ one_uncaught_at_least uncaught) (count_small most e.caught slot few h)
    (or_true (is_newest e.caught slot) (not (is_caught e.caught slot)) (ap not out))

-- so may one that is thrown again
again : (most : ℕ) (e : Exceptions) (c : Caught) (slot : ℕ) → most < 2 ^ 62 → are_within most c ≡ true → (rethrown_on c e).0 ≡ Some slot → may_begin (rethrown_on c e).1 slot ≡ true
again most e [] slot few h is = absurd (cc is)
again most e ((s, pos zero) ∷ more) slot few h is = absurd (cc is)
again most e ((s, negsuc n) ∷ more) slot few h is = absurd (cc is)
again most e ((s, pos (suc n)) ∷ more) slot few h is =
    let same : s ≡ slot = cc is in
    let here = (and_true (is_within most (pos (suc n))) (are_within most more) h).0 in
    let self : (s == s) ≡ true = eq_same s in
    subst (λ x. may_begin (rethrown_on ((s, pos (suc n)) ∷ more) e).1 x ≡ true) same
    (all_three (nat_lt 0 (e.uncaught + 1)) (is_small (handler_count ((s, negsuc n) ∷ more) s)) (is_in_front ((s, negsuc n) ∷ more) s)
    (one_uncaught_at_least e.uncaught)
    (ap (λ b. is_small (cond b (negsuc n) (handler_count more s))) self ∙ within_small most (negsuc n) few here)
    (true_or (s == s) (not (is_caught ((s, negsuc n) ∷ more) s)) self))

pub rethrown_may : (most : ℕ) (e : Exceptions) (slot : ℕ) → most < 2 ^ 62 → are_within most e.caught ≡ true → (rethrown e).0 ≡ Some slot → may_begin (rethrown e).1 slot ≡ true
rethrown_may most e slot few h is = again most e e.caught slot few h is

within_one_more : (most : ℕ) (n : ℤ) → is_within most n ≡ true → is_within (most + 1) n ≡ true
within_one_more most (pos n) h = grind (arith, nat_tests)
within_one_more most (negsuc n) h = grind (arith, nat_tests)

pub within_more : (most : ℕ) (c : Caught) → are_within most c ≡ true → are_within (most + 1) c ≡ true
within_more most [] h = refl
within_more most ((s, n) ∷ more) h =
    let parts = and_true (is_within most n) (are_within most more) h in
    both_true (is_within (most + 1) n) (are_within (most + 1) more) (within_one_more most n parts.0) (within_more most more parts.1)
