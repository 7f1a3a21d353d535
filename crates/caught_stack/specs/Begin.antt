-- __cxa_begin_catch (Itanium C++ ABI: Exception Handling, section 2.5.3).
use Rattle.std.specs.Prelude.{ℕ, suc, ◌+◌, ◌-◌, ◌==◌, [], ◌∷◌, ℤ, pos, negsuc, if◌then◌else◌}
use Rattle.caught_stack.specs.Caught.{Caught}
use Rattle.caught_stack.specs.Exceptions.{Exceptions}

-- one handler more; the count of an exception that was thrown again turns positive first (profile: the sign is the mark of a rethrow)
abbrev pub one_more : ℤ → ℤ
one_more (pos n) = pos (n + 1)
one_more (negsuc n) = pos (suc n + 1)

-- one handler more of the most recent exception, which goes on the stack unless it is there
abbrev pub begun_on : ℕ → Caught → Caught
begun_on slot [] = (slot, pos 1) ∷ []
begun_on slot ((s, n) ∷ more) = if s == slot then (s, one_more n) ∷ more else (slot, pos 1) ∷ (s, n) ∷ more

-- the exception is caught once more, and uncaught no longer
abbrev pub begun : ℕ → Exceptions → Exceptions
begun slot e = record e { caught = begun_on slot e.caught; uncaught = e.uncaught - 1 }
