-- How the exceptions are kept: headers and handlerCounts by slot, a stack of the slots that are caught, and one of those that are vacant.
use Rattle.std.specs.Prelude.{◌≡◌, ◌≤◌, ℕ, suc, ◌+◌, nat_eq, Bool, true, false, List, length, map, count_by, is_none, ℤ, pos}
use Rattle.std.specs.List.{IsDistinct, list_all}
use Rattle.caught_stack.specs.Slots.{is_in}
use Rattle.caught_stack.specs.Live.{Live, slots, is_live, is_vacant}
use Rattle.caught_stack.specs.Caught.{Caught, is_counted}
use Rattle.caught_stack.specs.Exceptions.{Exceptions}
use Rattle.caught_stack.specs.Counts.{count_at}

-- the slots of a stack with their counts
abbrev pub entries_of : List ℤ → List ℕ → Caught
entries_of counts stack = map (λ slot. (slot, count_at counts slot)) stack

-- what callers see
abbrev pub exceptions_of : Live → List ℤ → List ℕ → ℕ → Exceptions
exceptions_of headers counts caught uncaught = record { live = headers; caught = entries_of counts caught; uncaught = uncaught }

abbrev pub is_positive : ℤ → Bool
is_positive (pos (suc n)) = true
is_positive _ = false

-- The slots that have a count are those of the caught exceptions, the slots on the vacant stack are all that are vacant, and no rethrow
-- can bring the number uncaught above 3,072: each takes away a positive count.
pub record IsKept (headers : Live) (counts : List ℤ) (caught vacant : List ℕ) (uncaught : ℕ) : Type 0 where
  pub headers_length : length headers ≡ slots
  pub counts_length : length counts ≡ slots
  pub caught_once : IsDistinct nat_eq caught
  pub caught_live : list_all (is_live headers) caught ≡ true
  pub caught_counted : (slot : ℕ) → is_counted (count_at counts slot) ≡ is_in caught slot
  pub vacant_once : IsDistinct nat_eq vacant
  pub vacant_free : list_all (is_vacant headers) vacant ≡ true
  pub vacant_all : length vacant ≡ count_by is_none headers
  pub uncaught_bound : uncaught + count_by is_positive counts ≤ 3072
