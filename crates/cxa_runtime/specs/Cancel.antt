-- Forced unwinding (Itanium C++ ABI: Exception Handling, level I, "Forced unwinding").
use Rattle.std.specs.Prelude.{ℤ, pos, Some}
use Rattle.eh_bytes.specs.declared.unit.RuntimeRecord.{RuntimeRecord}
use Rattle.rv64_isa.specs.State.{State}
use Rattle.raise_core.specs.declared.raised.Raised.{Raised}
use Rattle.raise_core.specs.declared.raised.Raised.TheVariants as answers
use Rattle.raise_core.specs.Raise as unwinder
use Rattle.cxa_runtime.specs.Number.{as_int}
use Rattle.cxa_runtime.specs.World.{World, Outcome, goes, exits, fails, argument, a0, at_hart}
use Rattle.cxa_runtime.specs.Terminate.{terminates_now}
use Rattle.cxa_runtime.specs.Raising.{Image, at_pad}

-- a pad gets 0 and 0; at the end of the stack the run exits; a barrier enters nothing, and terminate uses the handler in effect
abbrev pub forced_as : RuntimeRecord → ℤ → World → Raised × State → Outcome
forced_as places n w (answers.Install pad selector cfa lsda, s) = goes (at_pad 0 (pos 0) (at_hart s w))
forced_as places n w (answers.NoHandler, s) = exits n w
forced_as places n w (answers.Terminate, s) = terminates_now places w
forced_as places n w (answers.Fault kind, s) = fails kind w

-- the forced unwind goes on from the frame that makes the call
abbrev pub unwinds : Image → ℤ → World → Outcome
unwinds image n w = forced_as image.places n w (unwinder.forced_unwind image.fdes w.hart)

-- call 15: a forced unwind that exits with n at its end, also in place of one that is on
abbrev pub cancel : Image → World → Outcome
cancel image w = unwinds image (as_int (argument w a0)) (record w { unwinding = Some (as_int (argument w a0)) })
