-- Exceptions that are thrown or raised.
use Rattle.std.specs.Prelude.{ℕ, ◌+◌, ⊤}
use Rattle.caught_stack.specs.declared.header.Header.{Header}
use Rattle.caught_stack.specs.Exceptions.{Exceptions}
use Rattle.caught_stack.specs.Rethrow.{rethrown}
use Rattle.cxa_runtime.specs.declared.flight.Flight.{Flight}
use Rattle.cxa_runtime.specs.declared.flight.Flight.TheVariants.{Raised, Rethrown}
use Rattle.cxa_runtime.specs.Owed.{IsOwed}

-- one exception more is uncaught
abbrev pub one_uncaught : Exceptions → Exceptions
one_uncaught e = record e { uncaught = e.uncaught + 1 }

-- the header keeps the target of a raise
abbrev pub aimed : ℕ → ℕ → Header → Header
aimed cfa lsda h = record h { target = cfa; lsda = lsda }

-- an exception of a module is on its way
abbrev pub flown : Flight → Exceptions → Exceptions
flown Raised e = one_uncaught e
flown Rethrown e = (rethrown e).1

-- there is room for one that is raised
abbrev pub CanFly : Flight → Exceptions → Type 0
CanFly Raised e = IsOwed (one_uncaught e)
CanFly Rethrown e = ⊤
