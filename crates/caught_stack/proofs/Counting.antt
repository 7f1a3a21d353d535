-- The handlerCounts of the slots of a stack.
use Rattle.std.proofs.Common.{◌≡◌, ◌≢◌, ◌∙◌, ℕ, zero, suc, ◌+◌, ◌<◌, Bool, true, false, cond, ◌||◌, nat_eq, List, [], ◌∷◌, length, slice_set, count_by, if◌then◌else◌, ℤ, pos, negsuc, refl, sym, ap, arith}
use Rattle.std.proofs.lemmas.Bool.Decides.{nat_tests}
use Rattle.std.proofs.lemmas.List.{get_or-set_same, get_or-set_other}
use Rattle.std.proofs.lemmas.List.Sums.{sum_by-set}
use Rattle.caught_stack.specs.Slots.{is_in}
use Rattle.caught_stack.specs.Caught.{handler_count, slots_of, is_counted}
use Rattle.caught_stack.specs.Counts.{count_at}
use Rattle.caught_stack.specs.Kept.{entries_of, is_positive}
use Rattle.caught_stack.proofs.Bools.{or_false, eq_true, eq_flip}

pub count_changed : (counts : List ℤ) (s : ℕ) (n : ℤ) → s < length counts → count_at (slice_set counts s n) s ≡ n
count_changed counts s n low = get_or-set_same counts s n (pos 0) low

pub count_kept : (counts : List ℤ) (s t : ℕ) (n : ℤ) → nat_eq s t ≡ false → count_at (slice_set counts s n) t ≡ count_at counts t
count_kept counts s t n other = let apart : t ≢ s = grind (arith, nat_tests) in get_or-set_other counts s t n (pos 0) apart

-- a count of a slot that is not there does not matter
pub entries_kept : (counts : List ℤ) (s : ℕ) (n : ℤ) (xs : List ℕ) → is_in xs s ≡ false → entries_of (slice_set counts s n) xs ≡ entries_of counts xs
entries_kept counts s n [] out = refl
entries_kept counts s n (x ∷ xs) out =
    let parts = or_false (nat_eq s x) (is_in xs s) out in
    ap (λ c. (x, c) ∷ entries_of (slice_set counts s n) xs) (count_kept counts s x n parts.0) ∙ ap (λ more. (x, count_at counts x) ∷ more) (entries_kept counts s n xs parts.1)

pub slots_of-entries : (counts : List ℤ) (xs : List ℕ) → slots_of (entries_of counts xs) ≡ xs
slots_of-entries counts [] = refl
slots_of-entries counts (x ∷ xs) = ap (λ more. x ∷ more) (slots_of-entries counts xs)

-- the count of a slot on the stack, and of one that is not
pub count_in : (counts : List ℤ) (xs : List ℕ) (s : ℕ) → is_in xs s ≡ true → handler_count (entries_of counts xs) s ≡ count_at counts s
count_in counts [] s here = absurd (cc here)
count_in counts (x ∷ xs) s here = go (nat_eq x s) refl (count_in counts xs s)
  where
    go : (b : Bool) → nat_eq x s ≡ b → (is_in xs s ≡ true → handler_count (entries_of counts xs) s ≡ count_at counts s)
        → (if b then count_at counts x else handler_count (entries_of counts xs) s) ≡ count_at counts s
    go true e more = ap (count_at counts) (eq_true x s e)
    go false e more = more (sym (ap (λ b. b || is_in xs s) (eq_flip s x ∙ e)) ∙ here)

pub count_out : (counts : List ℤ) (xs : List ℕ) (s : ℕ) → is_in xs s ≡ false → handler_count (entries_of counts xs) s ≡ pos 0
count_out counts [] s out = refl
count_out counts (x ∷ xs) s out =
    let parts = or_false (nat_eq s x) (is_in xs s) out in
    ap (λ b. if b then count_at counts x else handler_count (entries_of counts xs) s) (eq_flip x s ∙ parts.0) ∙ count_out counts xs s parts.1

zero_where_not : (n : ℤ) → is_counted n ≡ false → n ≡ pos 0
zero_where_not (pos zero) h = refl
zero_where_not (pos (suc n)) h = absurd (cc h)
zero_where_not (negsuc n) h = absurd (cc h)

-- where just the slots of the stack have a count, the count by slot is the one on the stack
pub count_is : (counts : List ℤ) (xs : List ℕ) (s : ℕ) → ((t : ℕ) → is_counted (count_at counts t) ≡ is_in xs t) → handler_count (entries_of counts xs) s ≡ count_at counts s
count_is counts xs s counted = go (is_in xs s) refl
  where
    go : (b : Bool) → is_in xs s ≡ b → handler_count (entries_of counts xs) s ≡ count_at counts s
    go true e = count_in counts xs s e
    go false e = count_out counts xs s e ∙ sym (zero_where_not (count_at counts s) (counted s ∙ e))

-- how many counts are positive
pub positive_changed : (counts : List ℤ) (s : ℕ) (n : ℤ) → s < length counts
    → count_by is_positive (slice_set counts s n) + cond (is_positive (count_at counts s)) 1 0 ≡ count_by is_positive counts + cond (is_positive n) 1 0
positive_changed counts s n low = sum_by-set (λ c. cond (is_positive c) 1 0) counts s n (pos 0) low
