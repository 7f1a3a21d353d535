-- A handler is left.
use Rattle.std.proofs.Common.{◌≡◌, ◌∙◌, ℕ, zero, suc, ◌-◌, ◌≤◌, true, false, cond, not, List, ◌∷◌, drop, Some, ℤ, pos, negsuc, refl, sym, ap, subst, arith}
use Rattle.caught_stack.specs.Slots.{top_of}
use Rattle.caught_stack.specs.Live.{Live}
use Rattle.caught_stack.specs.Caught.{Caught, is_counted}
use Rattle.caught_stack.specs.Counts.{count_at, with_count_at}
use Rattle.caught_stack.specs.declared.ended.Ended.{Ended}
use Rattle.caught_stack.specs.Exceptions.{Exceptions}
use Rattle.caught_stack.specs.End.{ended, ended_as, one_fewer, with_count}
use Rattle.caught_stack.specs.Kept.{IsKept, entries_of, exceptions_of, is_positive}
use Rattle.caught_stack.proofs.Bools.{not_true, not_false}
use Rattle.caught_stack.proofs.Stacks.{not_below_top}
use Rattle.caught_stack.proofs.Counting.{entries_kept}
use Rattle.caught_stack.proofs.Recounting.{top_count, entries_on, one_at_most, popped_kept, recounted_kept, top_is, top_low, with_caught, zero_unless}

-- the most recent exception ends as this, and leaves these
abbrev Ends : Ended → Exceptions → Exceptions → Type 0
Ends as_this new old = (Some as_this, new) ≡ ended old

fewer_positive : (n : ℤ) → cond {A = ℕ} (is_positive (one_fewer n)) 1 0 ≤ cond (is_positive n) 1 0
fewer_positive (pos zero) = omega arith
fewer_positive (pos (suc n)) = one_at_most (is_positive (pos (suc n - 1)))
fewer_positive (negsuc zero) = omega arith
fewer_positive (negsuc (suc n)) = omega arith

-- a handler of the most recent exception ends, and others have it, or it is on its way
pub stays_kept : (live : Live) (counts : List ℤ) (caught vacant : List ℕ) (uncaught s : ℕ)
    → IsKept live counts caught vacant uncaught → top_of caught ≡ Some s → is_counted (one_fewer (count_at counts s)) ≡ true
    → IsKept live (with_count_at s (one_fewer (count_at counts s)) counts) caught vacant uncaught
stays_kept live counts caught vacant uncaught s kept top counted =
    top_is (λ s caught. IsKept live (with_count_at s (one_fewer (count_at counts s)) counts) caught vacant uncaught) caught s top
    (λ more is.
    let less = fewer_positive (count_at counts s) in
    recounted_kept live counts more vacant uncaught uncaught s (one_fewer (count_at counts s)) (subst (λ xs. IsKept live counts xs vacant uncaught) is kept) counted (omega arith))

counted_stays : (s : ℕ) (n : ℤ) (more : Caught) → is_counted n ≡ true → with_count s n more ≡ (s, n) ∷ more
counted_stays s (pos zero) more h = absurd (cc h)
counted_stays s (pos (suc n)) more h = refl
counted_stays s (negsuc n) more h = refl

uncounted_goes : (s : ℕ) (n : ℤ) (more : Caught) → is_counted n ≡ false → with_count s n more ≡ more
uncounted_goes s (pos zero) more h = refl
uncounted_goes s (pos (suc n)) more h = absurd (cc h)
uncounted_goes s (negsuc n) more h = absurd (cc h)

pub stays_seen : (live : Live) (counts : List ℤ) (caught vacant : List ℕ) (uncaught s : ℕ)
    → IsKept live counts caught vacant uncaught → top_of caught ≡ Some s → is_counted (one_fewer (count_at counts s)) ≡ true
    → Ends (ended_as s (count_at counts s)) (exceptions_of live (with_count_at s (one_fewer (count_at counts s)) counts) caught uncaught) (exceptions_of live counts caught uncaught)
stays_seen live counts caught vacant uncaught s kept top counted =
    top_is (λ s caught. Ends (ended_as s (count_at counts s)) (exceptions_of live (with_count_at s (one_fewer (count_at counts s)) counts) caught uncaught) (exceptions_of live counts caught uncaught)) caught s top
    (λ more is.
    let k = subst (λ xs. IsKept live counts xs vacant uncaught) is kept in
    ap (λ list. (Some (ended_as s (count_at counts s)), with_caught live uncaught list))
    (entries_on counts s (one_fewer (count_at counts s)) more (top_low live counts more vacant uncaught s k) (not_below_top s more k.caught_once)
    ∙ sym (counted_stays s (one_fewer (count_at counts s)) (entries_of counts more) counted)))

-- a handler of the most recent exception ends, and it leaves the stack
pub goes_kept : (live : Live) (counts : List ℤ) (caught vacant : List ℕ) (uncaught s : ℕ)
    → IsKept live counts caught vacant uncaught → top_of caught ≡ Some s → is_counted (one_fewer (count_at counts s)) ≡ false
    → IsKept live (with_count_at s (one_fewer (count_at counts s)) counts) (drop 1 caught) vacant uncaught
goes_kept live counts caught vacant uncaught s kept top uncounted =
    top_is (λ s caught. IsKept live (with_count_at s (one_fewer (count_at counts s)) counts) (drop 1 caught) vacant uncaught) caught s top
    (λ more is.
    subst (λ n. IsKept live (with_count_at s n counts) more vacant uncaught) (zero_unless (one_fewer (count_at counts s)) uncounted)
    (popped_kept live counts more vacant uncaught s (subst (λ xs. IsKept live counts xs vacant uncaught) is kept)))

pub goes_seen : (live : Live) (counts : List ℤ) (caught vacant : List ℕ) (uncaught s : ℕ)
    → IsKept live counts caught vacant uncaught → top_of caught ≡ Some s → is_counted (one_fewer (count_at counts s)) ≡ false
    → Ends (ended_as s (count_at counts s)) (exceptions_of live (with_count_at s (one_fewer (count_at counts s)) counts) (drop 1 caught) uncaught) (exceptions_of live counts caught uncaught)
goes_seen live counts caught vacant uncaught s kept top uncounted =
    top_is (λ s caught. Ends (ended_as s (count_at counts s)) (exceptions_of live (with_count_at s (one_fewer (count_at counts s)) counts) (drop 1 caught) uncaught) (exceptions_of live counts caught uncaught)) caught s top
    (λ more is.
    let k = subst (λ xs. IsKept live counts xs vacant uncaught) is kept in
    ap (λ list. (Some (ended_as s (count_at counts s)), with_caught live uncaught list))
    (entries_kept counts s (one_fewer (count_at counts s)) more (not_below_top s more k.caught_once)
    ∙ sym (uncounted_goes s (one_fewer (count_at counts s)) (entries_of counts more) uncounted)))

-- the count that was left, as the test of the new one tells
pub left_at_0 : (live : Live) (counts after : List ℤ) (caught vacant : List ℕ) (uncaught s : ℕ)
    → IsKept live counts caught vacant uncaught → top_of caught ≡ Some s → after ≡ with_count_at s (one_fewer (count_at counts s)) counts
    → true ≡ not (is_counted (count_at after s)) → is_counted (one_fewer (count_at counts s)) ≡ false
left_at_0 live counts after caught vacant uncaught s kept top is gone =
    ap is_counted (sym (ap (λ now. count_at now s) is ∙ top_count live counts caught vacant uncaught s (one_fewer (count_at counts s)) kept top)) ∙ not_true (is_counted (count_at after s)) gone

pub left_with_some : (live : Live) (counts after : List ℤ) (caught vacant : List ℕ) (uncaught s : ℕ)
    → IsKept live counts caught vacant uncaught → top_of caught ≡ Some s → after ≡ with_count_at s (one_fewer (count_at counts s)) counts
    → false ≡ not (is_counted (count_at after s)) → is_counted (one_fewer (count_at counts s)) ≡ true
left_with_some live counts after caught vacant uncaught s kept top is some =
    ap is_counted (sym (ap (λ now. count_at now s) is ∙ top_count live counts caught vacant uncaught s (one_fewer (count_at counts s)) kept top)) ∙ not_false (is_counted (count_at after s)) some
