-- __cxa_end_catch (Itanium C++ ABI: Exception Handling, section 2.5.3).
use Rattle.std.specs.Prelude.{ℕ, zero, suc, ◌-◌, [], ◌∷◌, ℤ, pos, negsuc, Option, Some, None}
use Rattle.caught_stack.specs.declared.ended.Ended.{Ended}
use Rattle.caught_stack.specs.declared.ended.Ended.TheVariants.{Active, Travelling, Last}
use Rattle.caught_stack.specs.Caught.{Caught}
use Rattle.caught_stack.specs.Exceptions.{Exceptions}

-- one handler fewer: the count is nearer 0 by one
abbrev pub one_fewer : ℤ → ℤ
one_fewer (pos n) = pos (n - 1)
one_fewer (negsuc zero) = pos 0
one_fewer (negsuc (suc n)) = negsuc n

-- what became of an exception with that count before
abbrev pub ended_as : ℕ → ℤ → Ended
ended_as slot (pos zero) = Last slot
ended_as slot (pos (suc zero)) = Last slot
ended_as slot (pos (suc (suc n))) = Active slot
ended_as slot (negsuc n) = Travelling slot

-- an exception with that count on top of the others; at 0 it leaves the stack
abbrev pub with_count : ℕ → ℤ → Caught → Caught
with_count slot (pos zero) more = more
with_count slot (pos (suc n)) more = (slot, pos (suc n)) ∷ more
with_count slot (negsuc n) more = (slot, negsuc n) ∷ more

-- the most recent exception has one handler fewer
abbrev pub ended_on : Caught → Option Ended × Caught
ended_on [] = (None, [])
ended_on ((s, n) ∷ more) = (Some (ended_as s n), with_count s (one_fewer n) more)

-- what became of the most recent exception, nothing where none is caught; nothing else changes
abbrev pub ended : Exceptions → Option Ended × Exceptions
ended e = ((ended_on e.caught).0, record e { caught = (ended_on e.caught).1 })
