-- The runtime calls by their numbers.
use Rattle.std.specs.Prelude.{Bool, true, false, ℕ, ◌==◌, Option, Some, None, if◌then◌else◌}
use Rattle.cxa_runtime.specs.declared.call.Call.{Call}
use Rattle.cxa_runtime.specs.declared.call.Call.TheVariants as calls
use Rattle.cxa_runtime.specs.World.{World, Outcome, needs}
use Rattle.cxa_runtime.specs.Terminate.{terminates_now}
use Rattle.cxa_runtime.specs.Allocate.{allocate, free}
use Rattle.cxa_runtime.specs.Raising.{Image}
use Rattle.cxa_runtime.specs.Throw.{throw, rethrow, resume_unwind}
use Rattle.cxa_runtime.specs.Catch.{begin, end_catch}
use Rattle.cxa_runtime.specs.Foreign.{module_call}
use Rattle.cxa_runtime.specs.Cancel.{cancel}
use Rattle.cxa_runtime.specs.Unexpected.{unexpected_begin, unexpected_check, terminate_for}
use Rattle.cxa_runtime.specs.Plain.{exit, write_int, read_byte, uncaught_exception, set_terminate, set_unexpected, abort, stack_end}

unfoldable pub numbered : ℕ → Option Call
numbered n =
    if n == 0 then Some calls.Exit
    else if n == 1 then Some calls.WriteInt
    else if n == 2 then Some calls.ReadByte
    else if n == 3 then Some calls.Allocate
    else if n == 4 then Some calls.Free
    else if n == 5 then Some calls.Throw
    else if n == 6 then Some calls.BeginCatch
    else if n == 7 then Some calls.EndCatch
    else if n == 8 then Some calls.Rethrow
    else if n == 9 then Some calls.Resume
    else if n == 10 then Some calls.UncaughtException
    else if n == 11 then Some calls.SetTerminate
    else if n == 12 then Some calls.SetUnexpected
    else if n == 13 then Some calls.Terminate
    else if n == 14 then Some calls.Module
    else if n == 15 then Some calls.Cancel
    else if n == 16 then Some calls.Abort
    else if n == 17 then Some calls.Stack
    else if n == 18 then Some calls.UnexpectedBegin
    else if n == 19 then Some calls.UnexpectedCheck
    else if n == 20 then Some calls.TerminateFor
    else None

-- what a call does behind its ECALL; `wish` is the vacant slot that an allocation is to give
abbrev pub made_call : Image → ℕ → World → Call → Outcome
made_call image wish w calls.Exit = exit w
made_call image wish w calls.WriteInt = write_int w
made_call image wish w calls.ReadByte = read_byte w
made_call image wish w calls.Allocate = allocate image.places wish w
made_call image wish w calls.Free = free w
made_call image wish w calls.Throw = throw image w
made_call image wish w calls.BeginCatch = begin image.places w
made_call image wish w calls.EndCatch = end_catch w
made_call image wish w calls.Rethrow = rethrow image w
made_call image wish w calls.Resume = resume_unwind image w
made_call image wish w calls.UncaughtException = uncaught_exception w
made_call image wish w calls.SetTerminate = set_terminate w
made_call image wish w calls.SetUnexpected = set_unexpected w
made_call image wish w calls.Terminate = terminates_now image.places w
made_call image wish w calls.Module = module_call image wish w
made_call image wish w calls.Cancel = cancel image w
made_call image wish w calls.Abort = abort w
made_call image wish w calls.Stack = stack_end w
made_call image wish w calls.UnexpectedBegin = unexpected_begin w
made_call image wish w calls.UnexpectedCheck = unexpected_check image w
made_call image wish w calls.TerminateFor = terminate_for image.places w

-- a number of no call is refused
unfoldable pub call_effect : ℕ → Image → ℕ → World → Outcome
call_effect n image wish w = needs w (numbered n) (made_call image wish w)

-- a call that asks neither the input nor a module
abbrev pub is_alone : Call → Bool
is_alone calls.ReadByte = false
is_alone calls.EndCatch = false
is_alone calls.Module = false
is_alone _ = true
