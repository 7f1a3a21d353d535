-- What the calls that throw do with the answer of the unwinder (Itanium C++ ABI: Exception Handling, section 2.4.3).
use Rattle.std.specs.Prelude.{ℕ, ℤ, List, Option, Some, None, option_map, if◌then◌else◌}
use Rattle.eh_bytes.specs.declared.unit.RuntimeRecord.{RuntimeRecord}
use Rattle.table_forms.specs.Fde.{Fde}
use Rattle.table_forms.specs.Verdict.{Thrown, native, foreign}
use Rattle.rv64_isa.specs.State.{State}
use Rattle.rv64_isa.specs.declared.step.FaultKind.TheVariants as faults
use Rattle.raise_core.specs.declared.raised.Raised.{Raised}
use Rattle.raise_core.specs.declared.raised.Raised.TheVariants as answers
use Rattle.raise_core.specs.Raise as unwinder
use Rattle.caught_stack.specs.declared.header.HeaderKind.{HeaderKind}
use Rattle.caught_stack.specs.declared.header.HeaderKind.TheVariants.{Building, Native, Foreign}
use Rattle.caught_stack.specs.Exceptions.{Exceptions}
use Rattle.caught_stack.specs.Allocate.{with_header}
use Rattle.cxa_runtime.specs.declared.object.Object.{Object}
use Rattle.cxa_runtime.specs.Number.{as_register}
use Rattle.cxa_runtime.specs.Types.{type_records}
use Rattle.cxa_runtime.specs.Objects.{object_of}
use Rattle.cxa_runtime.specs.World.{World, Outcome, goes, fails, gives_both, at_hart, with_exceptions}
use Rattle.cxa_runtime.specs.Catch.{entered}
use Rattle.cxa_runtime.specs.Flying.{aimed}
use Rattle.cxa_runtime.specs.Terminate.{terminates, terminates_now}

-- what the runtime knows of an image: its FDEs, and where its stubs stand
pub record Image : Type 0 where
  pub fdes : List Fde
  pub places : RuntimeRecord

-- what is thrown, by the kind of its object; none where it is building, or where its type records can't be read
abbrev pub thrown_of : State → HeaderKind → Option Thrown
thrown_of s Building = None
thrown_of s (Native type destructor) = option_map native (type_records s type)
thrown_of s (Foreign k token) = Some foreign

-- _Unwind_SetGR at a landing pad: the object's address, or 0 in a forced unwind, and the selector
abbrev pub at_pad : ℕ → ℤ → World → World
at_pad object selector w = gives_both object (as_register selector) w

-- a native exception is entered, where terminate is not running, and terminate uses the handler kept with it
abbrev pub native_unhandled : RuntimeRecord → Object → World → Outcome
native_unhandled places o w =
    if w.terminating then terminates places o.header.handlers.0 w else terminates places o.header.handlers.0 (entered o w)

-- a foreign one is not entered: what is caught and uncaught is as before the call, and terminate uses the handler in effect
abbrev pub foreign_unhandled : RuntimeRecord → Exceptions → World → Outcome
foreign_unhandled places before w =
    terminates_now places (with_exceptions (record w.exceptions { caught = before.caught; uncaught = before.uncaught }) w)

-- no handler, or terminate at once
abbrev pub unhandled : RuntimeRecord → Exceptions → Object → World → HeaderKind → Outcome
unhandled places before o w (Native type destructor) = native_unhandled places o w
unhandled places before o w _ = foreign_unhandled places before w

-- by the answer of the unwinder
abbrev pub raised_as : RuntimeRecord → Exceptions → Object → World → Raised × State → Outcome
raised_as places before o w (answers.Install pad selector cfa lsda, s) =
    goes (at_pad (object_of o.slot) selector (at_hart s (with_exceptions (with_header o.slot (aimed cfa lsda o.header) w.exceptions) w)))
raised_as places before o w (answers.NoHandler, s) = unhandled places before o w o.header.kind
raised_as places before o w (answers.Terminate, s) = unhandled places before o w o.header.kind
raised_as places before o w (answers.Fault kind, s) = fails kind w

-- an object is thrown, or thrown again; `before` is what was caught and uncaught before the call
abbrev pub raises : Image → Exceptions → Object → Thrown → World → Outcome
raises image before o thrown w = raised_as image.places before o w (unwinder.raise image.fdes thrown w.hart)

-- phase two goes on; a barrier on the way enters nothing, and terminate uses the handler in effect
abbrev pub resumed_as : RuntimeRecord → Object → World → Raised × State → Outcome
resumed_as places o w (answers.Install pad selector cfa lsda, s) = goes (at_pad (object_of o.slot) selector (at_hart s w))
resumed_as places o w (answers.NoHandler, s) = fails faults.Walk w
resumed_as places o w (answers.Terminate, s) = terminates_now places w
resumed_as places o w (answers.Fault kind, s) = fails kind w

-- towards the target that the header keeps
abbrev pub resumes : Image → Object → Thrown → World → Outcome
resumes image o thrown w = resumed_as image.places o w (unwinder.resume image.fdes thrown o.header.target w.hart)
