-- The handlerCounts of the slots.
use Rattle.std.specs.Prelude.{ℕ, suc, Bool, true, false, List, ℤ, pos, negsuc, slice_index_or, slice_set}

abbrev pub count_at : List ℤ → ℕ → ℤ
count_at counts slot = slice_index_or counts slot (pos 0)

abbrev pub with_count_at : ℕ → ℤ → List ℤ → List ℤ
with_count_at slot n counts = slice_set counts slot n

-- whether the count of a slot was positive, and the counts with it negated if so
abbrev pub negated_by : ℤ → ℕ → List ℤ → Bool × List ℤ
negated_by (pos (suc n)) slot counts = (true, with_count_at slot (negsuc n) counts)
negated_by _ slot counts = (false, counts)

abbrev pub negated : ℕ → List ℤ → Bool × List ℤ
negated slot counts = negated_by (count_at counts slot) slot counts
