-- __cxa_rethrow (Itanium C++ ABI: Exception Handling, section 2.5.4).
use Rattle.std.specs.Prelude.{ℕ, suc, ◌+◌, ◌∷◌, pos, negsuc, Option, Some, None}
use Rattle.caught_stack.specs.Caught.{Caught}
use Rattle.caught_stack.specs.Exceptions.{Exceptions}

-- the handlerCount of the most recent exception is negated, where it is positive, and the exception is uncaught
abbrev pub rethrown_on : Caught → Exceptions → Option ℕ × Exceptions
rethrown_on ((slot, pos (suc n)) ∷ more) e = (Some slot, record e { caught = (slot, negsuc n) ∷ more; uncaught = e.uncaught + 1 })
rethrown_on _ e = (None, e)

-- the exception that is thrown again, nothing where none is caught or the most recent is on its way already; then nothing changes
abbrev pub rethrown : Exceptions → Option ℕ × Exceptions
rethrown e = rethrown_on e.caught e
