-- What a change of the most recent handlerCount keeps, and makes of the caught exceptions.
use Rattle.std.proofs.Common.{◌≡◌, ◌∙◌, ℕ, zero, suc, ◌+◌, ◌<◌, ◌≤◌, Bool, true, false, cond, ◌||◌, nat_eq, List, [], ◌∷◌, length, slice_set, length-set, count_by, Some, ℤ, pos, negsuc, refl, sym, ap, subst, arith}
use Rattle.std.specs.List.{list_all}
use Rattle.caught_stack.specs.Slots.{is_in, top_of}
use Rattle.caught_stack.specs.Live.{Live, is_live}
use Rattle.caught_stack.specs.Caught.{Caught, is_counted}
use Rattle.caught_stack.specs.Counts.{count_at, with_count_at}
use Rattle.caught_stack.specs.Exceptions.{Exceptions}
use Rattle.caught_stack.specs.Kept.{IsKept, entries_of, is_positive}
use Rattle.caught_stack.proofs.Bools.{and_true, both_true, eq_true, eq_same, eq_flip}
use Rattle.caught_stack.proofs.Stacks.{not_below_top, once_less, once_more}
use Rattle.caught_stack.proofs.Changes.{in_range}
use Rattle.caught_stack.proofs.Counting.{count_changed, count_kept, entries_kept, positive_changed}

-- the slots that have a count after one is set are those that a stack has, where the others were
counted_after : (counts : List ℤ) (s : ℕ) (n : ℤ) (xs : List ℕ) → s < length counts → is_counted n ≡ is_in xs s
    → ((t : ℕ) → nat_eq s t ≡ false → is_counted (count_at counts t) ≡ is_in xs t) → (t : ℕ) → is_counted (count_at (slice_set counts s n) t) ≡ is_in xs t
counted_after counts s n xs low here others t = go (nat_eq s t) refl
  where
    go : (b : Bool) → nat_eq s t ≡ b → is_counted (count_at (slice_set counts s n) t) ≡ is_in xs t
    go true e =
        subst (λ u. is_counted (count_at (slice_set counts s n) u) ≡ is_in xs u) (eq_true s t e) (ap is_counted (count_changed counts s n low) ∙ here)
    go false e = ap is_counted (count_kept counts s t n e) ∙ others t e

-- the number uncaught stays low enough
bound_after : (counts : List ℤ) (s : ℕ) (n : ℤ) (before now : ℕ) → s < length counts → before + count_by is_positive counts ≤ 3072
    → now + cond (is_positive n) 1 0 ≤ before + cond (is_positive (count_at counts s)) 1 0 → now + count_by is_positive (slice_set counts s n) ≤ 3072
bound_after counts s n before now low was less = let change = positive_changed counts s n low in omega arith

top_there : (s : ℕ) (xs : List ℕ) → is_in (s ∷ xs) s ≡ true
top_there s xs = ap (λ b. b || is_in xs s) (eq_same s)

-- the most recent exception has another count, which is not 0
pub recounted_kept : (live : Live) (counts : List ℤ) (caught vacant : List ℕ) (before now s : ℕ) (n : ℤ)
    → IsKept live counts (s ∷ caught) vacant before → is_counted n ≡ true
    → now + cond (is_positive n) 1 0 ≤ before + cond (is_positive (count_at counts s)) 1 0
    → IsKept live (slice_set counts s n) (s ∷ caught) vacant now
recounted_kept live counts caught vacant before now s n kept counted less =
    let here = (and_true (is_live live s) (list_all (is_live live) caught) kept.caught_live).0 in
    let below = in_range live s kept.headers_length here in
    let long = kept.counts_length in
    let low : s < length counts = omega arith in
    record {
      headers_length = kept.headers_length;
      counts_length = length-set counts s n ∙ kept.counts_length;
      caught_once = kept.caught_once;
      caught_live = kept.caught_live;
      caught_counted =
          counted_after counts s n (s ∷ caught) low (counted ∙ sym (top_there s caught)) (λ t other. kept.caught_counted t);
      vacant_once = kept.vacant_once;
      vacant_free = kept.vacant_free;
      vacant_all = kept.vacant_all;
      uncaught_bound = bound_after counts s n before now low kept.uncaught_bound less;
    }

-- an exception that was not caught is the most recent, with a count that is not 0
pub pushed_kept : (live : Live) (counts : List ℤ) (caught vacant : List ℕ) (before now s : ℕ) (n : ℤ)
    → IsKept live counts caught vacant before → is_live live s ≡ true → is_in caught s ≡ false → is_counted n ≡ true
    → now + cond (is_positive n) 1 0 ≤ before + cond (is_positive (count_at counts s)) 1 0
    → IsKept live (slice_set counts s n) (s ∷ caught) vacant now
pushed_kept live counts caught vacant before now s n kept here out counted less =
    let below = in_range live s kept.headers_length here in
    let long = kept.counts_length in
    let low : s < length counts = omega arith in
    record {
      headers_length = kept.headers_length;
      counts_length = length-set counts s n ∙ kept.counts_length;
      caught_once = once_more s caught out kept.caught_once;
      caught_live = both_true (is_live live s) (list_all (is_live live) caught) here kept.caught_live;
      caught_counted =
          counted_after counts s n (s ∷ caught) low (counted ∙ sym (top_there s caught))
          (λ t other. kept.caught_counted t ∙ ap (λ b. b || is_in caught t) (sym (eq_flip t s ∙ other)));
      vacant_once = kept.vacant_once;
      vacant_free = kept.vacant_free;
      vacant_all = kept.vacant_all;
      uncaught_bound = bound_after counts s n before now low kept.uncaught_bound less;
    }

-- the most recent exception leaves the stack
pub popped_kept : (live : Live) (counts : List ℤ) (caught vacant : List ℕ) (uncaught s : ℕ)
    → IsKept live counts (s ∷ caught) vacant uncaught → IsKept live (slice_set counts s (pos 0)) caught vacant uncaught
popped_kept live counts caught vacant uncaught s kept =
    let parts = and_true (is_live live s) (list_all (is_live live) caught) kept.caught_live in
    let below = in_range live s kept.headers_length parts.0 in
    let long = kept.counts_length in
    let low : s < length counts = omega arith in
    let gone = not_below_top s caught kept.caught_once in
    record {
      headers_length = kept.headers_length;
      counts_length = length-set counts s (pos 0) ∙ kept.counts_length;
      caught_once = once_less s caught kept.caught_once;
      caught_live = parts.1;
      caught_counted =
          counted_after counts s (pos 0) caught low (sym gone)
          (λ t other. kept.caught_counted t ∙ ap (λ b. b || is_in caught t) (eq_flip t s ∙ other));
      vacant_once = kept.vacant_once;
      vacant_free = kept.vacant_free;
      vacant_all = kept.vacant_all;
      uncaught_bound = bound_after counts s (pos 0) uncaught uncaught low kept.uncaught_bound (omega arith);
    }

pub zero_unless : (n : ℤ) → is_counted n ≡ false → pos 0 ≡ n
zero_unless (pos zero) h = refl
zero_unless (pos (suc n)) h = absurd (cc h)
zero_unless (negsuc n) h = absurd (cc h)

-- the count of an exception that is not caught is 0
pub zero_where_out : (live : Live) (counts : List ℤ) (caught vacant : List ℕ) (uncaught s : ℕ) → IsKept live counts caught vacant uncaught → is_in caught s ≡ false → pos 0 ≡ count_at counts s
zero_where_out live counts caught vacant uncaught s kept out = zero_unless (count_at counts s) (kept.caught_counted s ∙ out)

-- the caught exceptions with a count for the most recent
pub entries_on : (counts : List ℤ) (s : ℕ) (n : ℤ) (xs : List ℕ) → s < length counts → is_in xs s ≡ false → entries_of (slice_set counts s n) (s ∷ xs) ≡ (s, n) ∷ entries_of counts xs
entries_on counts s n xs low out =
    ap (λ c. (s, c) ∷ entries_of (slice_set counts s n) xs) (count_changed counts s n low) ∙ ap (λ more. (s, n) ∷ more) (entries_kept counts s n xs out)

pub one_at_most : (b : Bool) → cond {A = ℕ} b 1 0 ≤ 1
one_at_most true = omega arith
one_at_most false = omega arith

-- what callers see with these caught
abbrev pub with_caught : Live → ℕ → Caught → Exceptions
with_caught live uncaught caught = record { live = live; caught = caught; uncaught = uncaught }

-- the slot on top of a stack
pub top_is : (P : ℕ → List ℕ → Type 0) (xs : List ℕ) (s : ℕ) → top_of xs ≡ Some s → ((more : List ℕ) → xs ≡ s ∷ more → P s (s ∷ more)) → P s xs
top_is P [] s top then_p = absurd (cc top)
top_is P (x ∷ more) s top then_p =
    let same : x ≡ s = cc in
    subst (λ y. P s (y ∷ more)) (sym same) (then_p more (ap (λ y. y ∷ more) same))

-- the top slot is one of the slots, and stands on the stack once
pub top_low : (live : Live) (counts : List ℤ) (more vacant : List ℕ) (uncaught s : ℕ) → IsKept live counts (s ∷ more) vacant uncaught → s < length counts
top_low live counts more vacant uncaught s kept =
    let here = (and_true (is_live live s) (list_all (is_live live) more) kept.caught_live).0 in
    let below = in_range live s kept.headers_length here in
    let long = kept.counts_length in
    omega arith

-- the count that the most recent exception has after it is set
pub top_count : (live : Live) (counts : List ℤ) (caught vacant : List ℕ) (uncaught s : ℕ) (n : ℤ)
    → IsKept live counts caught vacant uncaught → top_of caught ≡ Some s → count_at (with_count_at s n counts) s ≡ n
top_count live counts caught vacant uncaught s n kept top =
    top_is (λ t xs. count_at (with_count_at t n counts) t ≡ n) caught s top
    (λ more is. count_changed counts s n (top_low live counts more vacant uncaught s (subst (λ xs. IsKept live counts xs vacant uncaught) is kept)))
