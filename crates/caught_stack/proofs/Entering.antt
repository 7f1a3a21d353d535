-- A handler is entered.
use Rattle.std.proofs.Common.{◌≡◌, ◌∙◌, ℕ, suc, ◌+◌, ◌-◌, ◌<◌, ◌≤◌, Bool, true, false, cond, not, ◌||◌, nat_eq, List, [], ◌∷◌, length, slice_set, if◌then◌else◌, ℤ, pos, negsuc, refl, sym, ap, subst, arith}
use Rattle.std.specs.List.{IsDistinct}
use Rattle.caught_stack.specs.Slots.{is_in, with_top}
use Rattle.caught_stack.specs.Live.{Live, slots, is_live}
use Rattle.caught_stack.specs.Caught.{is_caught, is_counted, is_in_front, slots_of}
use Rattle.caught_stack.specs.Counts.{count_at, with_count_at}
use Rattle.caught_stack.specs.Begin.{one_more, begun, begun_on}
use Rattle.caught_stack.specs.Kept.{IsKept, entries_of, exceptions_of}
use Rattle.caught_stack.proofs.Bools.{eq_true}
use Rattle.caught_stack.proofs.Stacks.{not_below_top}
use Rattle.caught_stack.proofs.Changes.{caught_room, in_range}
use Rattle.caught_stack.proofs.Counting.{slots_of-entries}
use Rattle.caught_stack.proofs.Recounting.{entries_on, one_at_most, pushed_kept, recounted_kept, with_caught, zero_where_out}

one_more_counted : (n : ℤ) → is_counted (one_more n) ≡ true
one_more_counted (pos n) = let e : n + 1 ≡ suc n = omega arith in ap (λ m. is_counted (pos m)) e
one_more_counted (negsuc n) = let e : suc n + 1 ≡ suc (suc n) = omega arith in ap (λ m. is_counted (pos m)) e

fewer_by_one : (u : ℕ) (a b : Bool) → 0 < u → u - 1 + cond {A = ℕ} a 1 0 ≤ u + cond {A = ℕ} b 1 0
fewer_by_one u a b some = let most = one_at_most a in omega arith

-- an exception that may be caught and is not the most recent is not caught
not_caught : (counts : List ℤ) (x : ℕ) (more : List ℕ) (s : ℕ) → nat_eq x s ≡ false → is_in_front (entries_of counts (x ∷ more)) s ≡ true → is_in (x ∷ more) s ≡ false
not_caught counts x more s other may =
    let out : is_in (slots_of (entries_of counts (x ∷ more))) s ≡ false = is_false _ (sym (ap (λ b. b || not (is_caught (entries_of counts (x ∷ more)) s)) other) ∙ may) in
    ap (λ xs. is_in xs s) (sym (slots_of-entries counts (x ∷ more))) ∙ out
  where
    is_false : (b : Bool) → not b ≡ true → b ≡ false
    is_false true h = absurd (cc h)
    is_false false h = refl

-- a handler is entered for an exception
pub begun_kept : (live : Live) (counts : List ℤ) (caught vacant : List ℕ) (uncaught s : ℕ)
    → IsKept live counts caught vacant uncaught → is_live live s ≡ true → 0 < uncaught → is_in_front (entries_of counts caught) s ≡ true
    → IsKept live (slice_set counts s (one_more (count_at counts s))) (with_top s caught) vacant (uncaught - 1)
begun_kept live counts [] vacant uncaught s kept here some may =
    pushed_kept live counts [] vacant uncaught (uncaught - 1) s (one_more (count_at counts s)) kept here refl (one_more_counted (count_at counts s))
    (fewer_by_one uncaught _ _ some)
begun_kept live counts (x ∷ more) vacant uncaught s kept here some may = go (nat_eq x s) refl
  where
    go : (b : Bool) → nat_eq x s ≡ b → IsKept live (slice_set counts s (one_more (count_at counts s))) (if b then x ∷ more else s ∷ x ∷ more) vacant (uncaught - 1)
    go true e =
        subst (λ y. IsKept live (slice_set counts s (one_more (count_at counts s))) (y ∷ more) vacant (uncaught - 1)) (sym (eq_true x s e))
        (recounted_kept live counts more vacant uncaught (uncaught - 1) s (one_more (count_at counts s))
        (subst (λ y. IsKept live counts (y ∷ more) vacant uncaught) (eq_true x s e) kept) (one_more_counted (count_at counts s)) (fewer_by_one uncaught _ _ some))
    go false e =
        pushed_kept live counts (x ∷ more) vacant uncaught (uncaught - 1) s (one_more (count_at counts s)) kept here
        (not_caught counts x more s e may) (one_more_counted (count_at counts s)) (fewer_by_one uncaught _ _ some)

-- there is room for it on the stack
pub begun_room : (live : Live) (counts : List ℤ) (caught vacant : List ℕ) (uncaught s : ℕ)
    → IsKept live counts caught vacant uncaught → is_live live s ≡ true → 0 < uncaught → is_in_front (entries_of counts caught) s ≡ true
    → length (with_top s caught) ≤ slots
begun_room live counts caught vacant uncaught s kept here some may =
    let after = begun_kept live counts caught vacant uncaught s kept here some may in
    caught_room live (with_top s caught) after.headers_length after.caught_once after.caught_live

-- the caught exceptions once it is entered
begun_entries : (live : Live) (counts : List ℤ) (caught vacant : List ℕ) (uncaught s : ℕ)
    → IsKept live counts caught vacant uncaught → is_live live s ≡ true → is_in_front (entries_of counts caught) s ≡ true
    → entries_of (slice_set counts s (one_more (count_at counts s))) (with_top s caught) ≡ begun_on s (entries_of counts caught)
begun_entries live counts caught vacant uncaught s kept here may = go caught kept may
  where
    low : length counts ≡ slots → length live ≡ slots → s < length counts
    low long all = let below = in_range live s all here in omega arith

    pushed : (xs : List ℕ) → IsKept live counts xs vacant uncaught → is_in xs s ≡ false
        → entries_of (slice_set counts s (one_more (count_at counts s))) (s ∷ xs) ≡ (s, pos 1) ∷ entries_of counts xs
    pushed xs k out =
        entries_on counts s (one_more (count_at counts s)) xs (low k.counts_length k.headers_length) out
        ∙ ap (λ n. (s, one_more n) ∷ entries_of counts xs) (sym (zero_where_out live counts xs vacant uncaught s k out))

    go : (xs : List ℕ) → IsKept live counts xs vacant uncaught → is_in_front (entries_of counts xs) s ≡ true
        → entries_of (slice_set counts s (one_more (count_at counts s))) (with_top s xs) ≡ begun_on s (entries_of counts xs)
    go [] k may = pushed [] k refl
    go (x ∷ more) k may = by (nat_eq x s) refl
      where
        by : (b : Bool) → nat_eq x s ≡ b → entries_of (slice_set counts s (one_more (count_at counts s))) (if b then x ∷ more else s ∷ x ∷ more)
            ≡ (if b then (x, one_more (count_at counts x)) ∷ entries_of counts more else (s, pos 1) ∷ (x, count_at counts x) ∷ entries_of counts more)
        by true e =
            subst (λ y. entries_of (slice_set counts s (one_more (count_at counts s))) (y ∷ more) ≡ (y, one_more (count_at counts y)) ∷ entries_of counts more) (sym (eq_true x s e))
            (entries_on counts s (one_more (count_at counts s)) more (low k.counts_length k.headers_length)
            (not_below_top s more (subst (λ y. IsDistinct nat_eq (y ∷ more)) (eq_true x s e) k.caught_once)))
        by false e = pushed (x ∷ more) k (not_caught counts x more s e may)

pub begun_seen : (live : Live) (counts : List ℤ) (caught vacant : List ℕ) (uncaught s : ℕ)
    → IsKept live counts caught vacant uncaught → is_live live s ≡ true → is_in_front (entries_of counts caught) s ≡ true
    → exceptions_of live (with_count_at s (one_more (count_at counts s)) counts) (with_top s caught) (uncaught - 1) ≡ begun s (exceptions_of live counts caught uncaught)
begun_seen live counts caught vacant uncaught s kept here may =
    ap (with_caught live (uncaught - 1)) (begun_entries live counts caught vacant uncaught s kept here may)
