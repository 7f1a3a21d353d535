-- The most recent exception is thrown again.
use Rattle.std.proofs.Common.{◌≡◌, ◌∙◌, ℕ, zero, suc, ◌+◌, true, false, cond, List, ◌∷◌, Some, None, ℤ, pos, negsuc, refl, sym, ap, subst, arith}
use Rattle.caught_stack.specs.Slots.{top_of}
use Rattle.caught_stack.specs.Live.{Live}
use Rattle.caught_stack.specs.Caught.{Caught}
use Rattle.caught_stack.specs.Counts.{count_at, negated, negated_by, with_count_at}
use Rattle.caught_stack.specs.Exceptions.{Exceptions}
use Rattle.caught_stack.specs.Rethrow.{rethrown, rethrown_on}
use Rattle.caught_stack.specs.Kept.{IsKept, entries_of, exceptions_of, is_positive}
use Rattle.caught_stack.proofs.Stacks.{not_below_top}
use Rattle.caught_stack.proofs.Recounting.{entries_on, recounted_kept, top_is, top_low, with_caught}

-- what negating a count did, where it was positive
positive_negated : (n : ℤ) (s : ℕ) (counts after : List ℤ) → (true, after) ≡ negated_by n s counts → (m : ℕ) × (n ≡ pos (suc m)) × (after ≡ with_count_at s (negsuc m) counts)
positive_negated (pos zero) s counts after h = let never = ap (λ p. p.0) h in absurd (cc never)
positive_negated (pos (suc m)) s counts after h = (m, refl, ap (λ p. p.1) h)
positive_negated (negsuc m) s counts after h = let never = ap (λ p. p.0) h in absurd (cc never)

rethrown_top : (m s : ℕ) (n : ℤ) (more : Caught) (e : Exceptions) → n ≡ pos (suc m)
    → rethrown_on ((s, n) ∷ more) e ≡ (Some s, record e { caught = (s, negsuc m) ∷ more; uncaught = e.uncaught + 1 })
rethrown_top m s n more e is = ap (λ n. rethrown_on ((s, n) ∷ more) e) is

rethrown_idle : (n : ℤ) (s : ℕ) (counts after : List ℤ) (more : Caught) (e : Exceptions) → (false, after) ≡ negated_by n s counts → (None, e) ≡ rethrown_on ((s, n) ∷ more) e
rethrown_idle (pos zero) s counts after more e h = refl
rethrown_idle (pos (suc m)) s counts after more e h = let never = ap (λ p. p.0) h in absurd (cc never)
rethrown_idle (negsuc m) s counts after more e h = refl

same_counts : (n : ℤ) (s : ℕ) (counts after : List ℤ) → (false, after) ≡ negated_by n s counts → after ≡ counts
same_counts (pos zero) s counts after h = ap (λ p. p.1) h
same_counts (pos (suc m)) s counts after h = let never = ap (λ p. p.0) h in absurd (cc never)
same_counts (negsuc m) s counts after h = ap (λ p. p.1) h

-- the most recent exception is thrown again
pub rethrown_kept : (live : Live) (counts after : List ℤ) (caught vacant : List ℕ) (uncaught s : ℕ)
    → IsKept live counts caught vacant uncaught → top_of caught ≡ Some s → (true, after) ≡ negated s counts → IsKept live after caught vacant (uncaught + 1)
rethrown_kept live counts after caught vacant uncaught s kept top negates =
    let was = positive_negated (count_at counts s) s counts after negates in
    subst (λ counts. IsKept live counts caught vacant (uncaught + 1)) (sym was.2)
    (top_is (λ t xs. count_at counts t ≡ pos (suc was.0) → IsKept live (with_count_at t (negsuc was.0) counts) xs vacant (uncaught + 1)) caught s top
    (λ more is positive.
    recounted_kept live counts more vacant uncaught (uncaught + 1) s (negsuc was.0) (subst (λ xs. IsKept live counts xs vacant uncaught) is kept) refl
    (let one : cond {A = ℕ} (is_positive (count_at counts s)) 1 0 ≡ 1 = ap (λ n. cond {A = ℕ} (is_positive n) 1 0) positive in omega arith))
    was.1)

pub rethrown_seen : (live : Live) (counts after : List ℤ) (caught vacant : List ℕ) (uncaught s : ℕ)
    → IsKept live counts caught vacant uncaught → top_of caught ≡ Some s → (true, after) ≡ negated s counts
    → (Some s, exceptions_of live after caught (uncaught + 1)) ≡ rethrown (exceptions_of live counts caught uncaught)
rethrown_seen live counts after caught vacant uncaught s kept top negates =
    let was = positive_negated (count_at counts s) s counts after negates in
    subst (λ now. (Some s, exceptions_of live now caught (uncaught + 1)) ≡ rethrown (exceptions_of live counts caught uncaught)) (sym was.2)
    (top_is (λ t xs. count_at counts t ≡ pos (suc was.0) → (Some t, exceptions_of live (with_count_at t (negsuc was.0) counts) xs (uncaught + 1)) ≡ rethrown (exceptions_of live counts xs uncaught)) caught s top
    (λ more is positive.
    let k = subst (λ xs. IsKept live counts xs vacant uncaught) is kept in
    ap (λ list. (Some s, with_caught live (uncaught + 1) list))
    (entries_on counts s (negsuc was.0) more (top_low live counts more vacant uncaught s k) (not_below_top s more k.caught_once))
    ∙ sym (rethrown_top was.0 s (count_at counts s) (entries_of counts more) (exceptions_of live counts (s ∷ more) uncaught) positive))
    was.1)

-- it is on its way already
pub idle_kept : (live : Live) (counts after : List ℤ) (caught vacant : List ℕ) (uncaught s : ℕ)
    → IsKept live counts caught vacant uncaught → (false, after) ≡ negated s counts → IsKept live after caught vacant uncaught
idle_kept live counts after caught vacant uncaught s kept idle =
    subst (λ counts. IsKept live counts caught vacant uncaught) (sym (same_counts (count_at counts s) s counts after idle)) kept

pub idle_seen : (live : Live) (counts after : List ℤ) (caught : List ℕ) (uncaught s : ℕ) → top_of caught ≡ Some s → (false, after) ≡ negated s counts
    → (None, exceptions_of live after caught uncaught) ≡ rethrown (exceptions_of live counts caught uncaught)
idle_seen live counts after caught uncaught s top idle =
    subst (λ now. (None, exceptions_of live now caught uncaught) ≡ rethrown (exceptions_of live counts caught uncaught)) (sym (same_counts (count_at counts s) s counts after idle))
    (top_is (λ t xs. (false, after) ≡ negated t counts → (None, exceptions_of live counts xs uncaught) ≡ rethrown (exceptions_of live counts xs uncaught)) caught s top
    (λ more is still. rethrown_idle (count_at counts s) s counts after (entries_of counts more) (exceptions_of live counts (s ∷ more) uncaught) still)
    idle)
