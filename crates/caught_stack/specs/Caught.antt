-- The exceptions that are caught (Itanium C++ ABI: Exception Handling, section 2.2.2, caughtExceptions).
use Rattle.std.specs.Prelude.{ℕ, zero, suc, ◌==◌, ◌^◌, ◌||◌, not, nat_lt, Bool, true, false, List, [], ◌∷◌, map, ℤ, pos, negsuc, Option, if◌then◌else◌}
use Rattle.std.specs.Option.{option_map_or}
use Rattle.caught_stack.specs.Slots.{is_in, top_of}

-- Slots with their handlerCount, the most recent first. The count of an exception that is thrown again, and not caught since, is negative.
abbrev pub Caught : Type 0
Caught = List (ℕ × ℤ)

abbrev pub slots_of : Caught → List ℕ
slots_of caught = map (λ entry. entry.0) caught

-- the most recent one
abbrev pub newest : Caught → Option ℕ
newest caught = top_of (slots_of caught)

abbrev pub is_newest : Caught → ℕ → Bool
is_newest caught slot = option_map_or (λ top. top == slot) (newest caught) false

abbrev pub is_caught : Caught → ℕ → Bool
is_caught caught slot = is_in (slots_of caught) slot

-- the handlerCount of a slot, 0 where it is not caught
abbrev pub handler_count : Caught → ℕ → ℤ
handler_count [] slot = pos 0
handler_count ((s, n) ∷ more) slot = if s == slot then n else handler_count more slot

-- the most recent one, or one that is not caught
abbrev pub is_in_front : Caught → ℕ → Bool
is_in_front caught slot = is_newest caught slot || not (is_caught caught slot)

-- the count is not 0
abbrev pub is_counted : ℤ → Bool
is_counted (pos zero) = false
is_counted _ = true

-- the count is between -2^62 and 2^62
abbrev pub is_small : ℤ → Bool
is_small (pos n) = nat_lt n (2 ^ 62)
is_small (negsuc n) = nat_lt (suc n) (2 ^ 62)
