-- Headers by slot, of which one is changed.
use Rattle.std.proofs.Common.{◌≡◌, ◌≢◌, ◌∙◌, ℕ, zero, suc, ◌+◌, ◌<◌, Bool, true, false, cond, not, ◌&&◌, nat_eq, nat_lt, [], ◌∷◌, length, slice_set, get_or, Option, Some, None, is_some, is_none, count_by, refl, sym, ap, arith, add-zero}
use Rattle.std.proofs.lemmas.Bool.Decides.{nat_tests}
use Rattle.std.proofs.lemmas.Option.{unwrap_or-slice_get}
use Rattle.std.proofs.lemmas.List.{get_or-set_same, get_or-set_other}
use Rattle.std.proofs.lemmas.List.Sums.{sum_by-cons, sum_by-set}
use Rattle.caught_stack.specs.declared.header.Header.{Header}
use Rattle.caught_stack.specs.Live.{Live, slots, header_of, is_live, is_vacant}
use Rattle.caught_stack.proofs.Bools.{and_true}

pub header_is : (live : Live) (s : ℕ) → header_of live s ≡ get_or live s None
header_is live s = unwrap_or-slice_get live s None

-- a live slot is one of the slots
pub live_below : (live : Live) (s : ℕ) → is_live live s ≡ true → s < length live
live_below [] s h = absurd (cc h)
live_below (x ∷ live) zero h = omega arith
live_below (x ∷ live) (suc s) h = let low = live_below live s h in omega arith

pub vacant_below : (live : Live) (s : ℕ) → is_vacant live s ≡ true → s < slots
vacant_below live s h = let low = (and_true (nat_lt s slots) (not (is_live live s)) h).0 in grind (arith, nat_tests)

pub vacant_not_live : (live : Live) (s : ℕ) → is_vacant live s ≡ true → is_live live s ≡ false
vacant_not_live live s h = go (is_live live s) (and_true (nat_lt s slots) (not (is_live live s)) h).1
  where
    go : (b : Bool) → not b ≡ true → b ≡ false
    go true e = absurd (cc e)
    go false e = refl

pub live_not_vacant : (live : Live) (s : ℕ) → is_live live s ≡ true → is_vacant live s ≡ false
live_not_vacant live s h = ap (λ b. nat_lt s slots && not b) h ∙ go (nat_lt s slots)
  where
    go : (b : Bool) → (b && false) ≡ false
    go true = refl
    go false = refl

-- the slot that is changed, and the others
pub header_changed : (live : Live) (s : ℕ) (h : Option Header) → s < length live → header_of (slice_set live s h) s ≡ h
header_changed live s h low = header_is (slice_set live s h) s ∙ get_or-set_same live s h None low

pub header_kept : (live : Live) (s t : ℕ) (h : Option Header) → nat_eq s t ≡ false → header_of (slice_set live s h) t ≡ header_of live t
header_kept live s t h other =
    let apart : t ≢ s = grind (arith, nat_tests) in
    header_is (slice_set live s h) t ∙ get_or-set_other live s t h None apart ∙ sym (header_is live t)

pub live_kept : (live : Live) (s t : ℕ) (h : Option Header) → nat_eq s t ≡ false → is_live (slice_set live s h) t ≡ is_live live t
live_kept live s t h other = ap is_some (header_kept live s t h other)

pub vacant_kept : (live : Live) (s t : ℕ) (h : Option Header) → nat_eq s t ≡ false → is_vacant (slice_set live s h) t ≡ is_vacant live t
vacant_kept live s t h other = ap (λ b. nat_lt t slots && not b) (live_kept live s t h other)

-- a header in a slot keeps the live ones live
pub live_still : (live : Live) (s t : ℕ) (h : Header) → s < length live → is_live live t ≡ true → is_live (slice_set live s (Some h)) t ≡ true
live_still live s t h low was = go (nat_eq s t) refl
  where
    go : (b : Bool) → nat_eq s t ≡ b → is_live (slice_set live s (Some h)) t ≡ true
    go true e =
        let same : t ≡ s = grind (arith, nat_tests) in
        ap (is_live (slice_set live s (Some h))) same ∙ ap is_some (header_changed live s (Some h) low)
    go false e = live_kept live s t (Some h) e ∙ was

-- how many slots are live, and how many vacant
both_more : (h : Option Header) (live : Live) → count_by is_some live + count_by is_none live ≡ length live
    → count_by is_some (h ∷ live) + count_by is_none (h ∷ live) ≡ suc (length live)
both_more None live rest =
    let some : count_by is_some (None ∷ live) ≡ 0 + count_by is_some live = sum_by-cons (λ o. cond (is_some o) 1 0) None live in
    let none : count_by is_none (None ∷ live) ≡ 1 + count_by is_none live = sum_by-cons (λ o. cond (is_none o) 1 0) None live in
    omega arith
both_more (Some h) live rest =
    let some : count_by is_some (Some h ∷ live) ≡ 1 + count_by is_some live = sum_by-cons (λ o. cond (is_some o) 1 0) (Some h) live in
    let none : count_by is_none (Some h ∷ live) ≡ 0 + count_by is_none live = sum_by-cons (λ o. cond (is_none o) 1 0) (Some h) live in
    omega arith

pub both_counts : (live : Live) → count_by is_some live + count_by is_none live ≡ length live
both_counts [] = refl
both_counts (h ∷ live) = both_more h live (both_counts live)

-- how many slots are vacant where one is changed, by what that one counted before and counts now
count_changed : (live : Live) (s : ℕ) (h : Option Header) (had has : ℕ) → s < length live → cond (is_none (header_of live s)) 1 0 ≡ had → cond (is_none h) 1 0 ≡ has
    → count_by is_none (slice_set live s h) + had ≡ count_by is_none live + has
count_changed live s h had has low before now =
    let was = header_is live s in
    ap (λ n. count_by is_none (slice_set live s h) + n) (sym before ∙ ap (λ o. cond (is_none o) 1 0) was)
    ∙ sum_by-set (λ o. cond (is_none o) 1 0) live s h None low
    ∙ ap (λ n. count_by is_none live + n) now

counts_one : (h : Option Header) → is_some h ≡ false → cond {A = ℕ} (is_none h) 1 0 ≡ 1
counts_one None e = refl
counts_one (Some h) e = absurd (cc e)

counts_none : (h : Option Header) → is_some h ≡ true → cond {A = ℕ} (is_none h) 1 0 ≡ 0
counts_none None e = absurd (cc e)
counts_none (Some h) e = refl

-- one slot is vacant less where it gets a header, as many are where it had one, and one more is where it loses it
pub count_allocated : (live : Live) (s : ℕ) (h : Header) → s < length live → is_live live s ≡ false → count_by is_none (slice_set live s (Some h)) + 1 ≡ count_by is_none live
count_allocated live s h low was = count_changed live s (Some h) 1 0 low (counts_one (header_of live s) was) refl ∙ add-zero _

pub count_replaced : (live : Live) (s : ℕ) (h : Header) → s < length live → is_live live s ≡ true → count_by is_none (slice_set live s (Some h)) ≡ count_by is_none live
count_replaced live s h low was =
    sym (add-zero _) ∙ count_changed live s (Some h) 0 0 low (counts_none (header_of live s) was) refl ∙ add-zero _

pub count_freed : (live : Live) (s : ℕ) → s < length live → is_live live s ≡ true → count_by is_none (slice_set live s None) ≡ count_by is_none live + 1
count_freed live s low was = sym (add-zero _) ∙ count_changed live s None 0 1 low (counts_none (header_of live s) was) refl
