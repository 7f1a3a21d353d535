-- __cxa_throw, __cxa_rethrow and _Unwind_Resume (Itanium C++ ABI: Exception Handling, sections 2.4.3 and 2.5.4, and level I).
use Rattle.std.specs.Prelude.{ℕ, ◌==◌, List, Option, Some, None, if◌then◌else◌}
use Rattle.table_forms.specs.Verdict.{native}
use Rattle.caught_stack.specs.declared.header.Header.{Header}
use Rattle.caught_stack.specs.declared.header.HeaderKind.TheVariants.{Native}
use Rattle.caught_stack.specs.Exceptions.{Exceptions}
use Rattle.caught_stack.specs.Allocate.{with_header}
use Rattle.caught_stack.specs.Rethrow.{rethrown}
use Rattle.cxa_runtime.specs.declared.object.Object.{Object}
use Rattle.cxa_runtime.specs.Types.{type_records}
use Rattle.cxa_runtime.specs.Objects.{object_in, object_where, is_building, is_thrown}
use Rattle.cxa_runtime.specs.World.{World, Outcome, argument, a0, a1, a2, with_exceptions, needs}
use Rattle.cxa_runtime.specs.Terminate.{terminates_now}
use Rattle.cxa_runtime.specs.Raising.{Image, thrown_of, raises, resumes}
use Rattle.cxa_runtime.specs.Cancel.{unwinds}
use Rattle.cxa_runtime.specs.Flying.{one_uncaught}

-- the header of an object that is thrown: native, with its type and its destructor, and the handlers in effect
abbrev pub native_header : World → Header → ℕ → ℕ → Header
native_header w h type destructor =
    record h { kind = Native type destructor; handlers = (w.terminate_handler, w.unexpected_handler) }

abbrev pub native_object : World → Object → ℕ → ℕ → Object
native_object w o type destructor = record { slot = o.slot; header = native_header w o.header type destructor }

-- an object with its header is uncaught
abbrev pub flying : Object → World → World
flying o w = with_exceptions (one_uncaught (with_header o.slot o.header w.exceptions)) w

abbrev pub throws : Image → World → Object → List ℕ → Outcome
throws image w o records = raises image w.exceptions o (native records) (flying o w)

-- call 5: an object that is building is thrown
abbrev pub throw : Image → World → Outcome
throw image w =
    needs w (object_where is_building w.exceptions.live (argument w a0)) (λ o.
    needs w (type_records w.hart (argument w a1)) (λ records.
    throws image w (native_object w o (argument w a1) (argument w a2)) records))

abbrev pub rethrows_object : Image → World → Exceptions → Object → Outcome
rethrows_object image w e o =
    needs w (thrown_of w.hart o.header.kind) (λ thrown. raises image w.exceptions o thrown (with_exceptions e w))

abbrev pub rethrows : Image → World → Option ℕ × Exceptions → Outcome
rethrows image w (None, e) = terminates_now image.places w
rethrows image w (Some slot, e) = needs w (object_in w.exceptions.live slot) (rethrows_object image w e)

-- call 8: the newest caught exception is thrown again, with the handlers that it has; terminate where there is none or it is uncaught already
abbrev pub rethrow : Image → World → Outcome
rethrow image w = rethrows image w (rethrown w.exceptions)

abbrev pub resume_object : Image → World → Outcome
resume_object image w =
    needs w (object_where is_thrown w.exceptions.live (argument w a0)) (λ o.
    needs w (thrown_of w.hart o.header.kind) (λ thrown. resumes image o thrown w))

-- call 9: phase two goes on with an exception, or for 0 the forced unwind that is on
abbrev pub resume_unwind : Image → World → Outcome
resume_unwind image w =
    if argument w a0 == 0 then needs w w.unwinding (λ n. unwinds image n w) else resume_object image w
