-- The runtime's own functions, which linear code calls: leaving a handler, terminate, and what becomes of an exception that a
-- specification stopped (ISO/IEC 14882:2003, 15.5; Itanium C++ ABI: Exception Handling, section 2.5.3). Their labels are places.
use Rattle.std.specs.Prelude.{ℕ, zero, suc, ℤ, pos, negsuc, List, [], ◌∷◌, Option, Some, None, slice_get}
use Rattle.cxx_ast.specs.declared.expression.BinaryOp.TheVariants.{Subtract}
use Rattle.region_forms.specs.Form.{in_slot, Value, number, load, binary, make, throw, rethrow, enter, leave}
use Rattle.region_forms.specs.Ending.{bad_row}
use Rattle.linear_forms.specs.Linear.{LinearOp, plain, jump_zero, pad, jump_filter, free, resume, return}
use Rattle.linear_forms.specs.Tables.{Cover, bare, unpadded, padded, Sense, cleanup, clause, no_sense}

-- a function of linear code by its number, or one of the runtime's own
pub data Function : Type 0 where
  compiled : ℕ → Function
  end_catch : Function
  terminating : Function
  call_unexpected : Function

-- What the runtime's own functions do beside operations of linear code. `leave_newest o d l` leaves the newest handler, and puts the
-- object that must be destroyed and its destructor in slots, or jumps. `destroy_held d o` calls the destructor in a slot for the object
-- in a slot, if it has one, and `call_held h` a handler. `begin_unexpected o h` enters the exception and puts its unexpected handler in
-- a slot. `check_unexpected s f e a` puts 0 in slot a where the list that filter s of the function in slot f names allows the exception
-- in slot e, 1 where `std::bad_exception` is listed, else 2. `construct_bad` builds a bad_exception, which has no parts. `terminate_for o`
-- calls terminate with the handler kept with an exception, and never comes back.
pub data StubOp : Type 0 where
  leave_newest : (object destructor label : ℕ) → StubOp
  destroy_held : (destructor object : ℕ) → StubOp
  call_held : ℕ → StubOp
  begin_unexpected : (object handler : ℕ) → StubOp
  check_unexpected : (selector function object answer : ℕ) → StubOp
  construct_bad : StubOp
  terminate_for : ℕ → StubOp
  abort : StubOp

-- an operation of linear code, or one that only the runtime makes
pub data CodeOp : Type 0 where
  linear : LinearOp → CodeOp
  runtime : StubOp → CodeOp

-- an operation of the runtime's own functions, with what covers it
pub record StubRow : Type 0 where
  pub op : CodeOp
  pub cover : Cover

-- an operation without a site: what comes out of it calls terminate
abbrev pub without_site : CodeOp → StubRow
without_site o = record { op = o; cover = bare }

-- an operation in the extent of a pad
abbrev pub in_pad : ℕ → List ℤ → CodeOp → StubRow
in_pad p chain o = record { op = o; cover = padded p chain }

-- an operation that goes on outwards
abbrev pub going_out : CodeOp → StubRow
going_out o = record { op = o; cover = unpadded }

-- Leaving a handler. Slots 0 and 1 have the object and its destructor, 2 and 3 what a pad gets. An exception or a forced unwind out of
-- the destructor frees the object on its way.
abbrev pub end_catch_rows : List StubRow
end_catch_rows =
    without_site (runtime (leave_newest 0 1 3)) ∷
    in_pad 4 (pos 0 ∷ []) (runtime (destroy_held 1 0)) ∷
    without_site (linear (free 0)) ∷
    without_site (linear (return None)) ∷
    without_site (linear (pad 2 3)) ∷
    without_site (linear (free 0)) ∷
    going_out (linear (resume 2)) ∷ []

-- Terminate: slot 0 has the handler, whose call has no site.
abbrev pub terminating_rows : List StubRow
terminating_rows = without_site (runtime (call_held 0)) ∷ without_site (runtime abort) ∷ []

-- what a slot of the runtime's own functions holds
abbrev pub in_stub_slot : ℕ → Value
in_stub_slot s = load (record { root = in_slot s; offset = 0 })

-- An exception that a specification stopped. Slot 0 has the exception, 1 the selector, 2 the function whose tables name the list, 3 the
-- unexpected handler, 4 and 5 what a pad gets, 6 the answer of the check, 7 a bad_exception. The handler's call stops every exception,
-- and a forced unwind leaves the exception on its way; what is thrown in the end leaves both exceptions.
abbrev pub call_unexpected_rows : List StubRow
call_unexpected_rows =
    without_site (runtime (begin_unexpected 0 3)) ∷
    in_pad 3 (pos 1 ∷ pos 0 ∷ []) (runtime (call_held 3)) ∷
    without_site (runtime (terminate_for 0)) ∷
    without_site (linear (pad 4 5)) ∷
    without_site (linear (jump_filter 5 (pos 0) 16)) ∷
    without_site (linear (plain (enter 4))) ∷
    without_site (runtime (check_unexpected 1 2 4 6)) ∷
    without_site (linear (jump_zero (in_stub_slot 6) 10)) ∷
    without_site (linear (jump_zero (binary Subtract (in_stub_slot 6) (number (pos 1))) 11)) ∷
    without_site (runtime (terminate_for 0)) ∷
    in_pad 14 (pos 0 ∷ []) (linear (plain rethrow)) ∷
    without_site (linear (plain (make 7))) ∷
    without_site (runtime construct_bad) ∷
    in_pad 14 (pos 0 ∷ []) (linear (plain (throw 7 bad_row None))) ∷
    without_site (linear (pad 4 5)) ∷
    without_site (linear (plain leave)) ∷
    without_site (linear (plain leave)) ∷
    going_out (linear (resume 4)) ∷ []

-- the operations of the runtime's own functions
abbrev pub stub_rows : Function → List StubRow
stub_rows (compiled n) = []
stub_rows end_catch = end_catch_rows
stub_rows terminating = terminating_rows
stub_rows call_unexpected = call_unexpected_rows

-- the operation at a place of one of them
abbrev pub stub_op : Function → ℕ → Option CodeOp
stub_op f p = elim (slice_get (stub_rows f) p) [ None ↦ None | Some x ↦ Some x.op ]

-- what covers it
abbrev pub stub_cover : Function → ℕ → Cover
stub_cover f p = elim (slice_get (stub_rows f) p) [ None ↦ bare | Some x ↦ x.cover ]

-- filter 1 of the runtime's own functions is `catch (...)`
abbrev pub stub_sense : ℤ → Sense
stub_sense (pos zero) = cleanup
stub_sense (pos (suc i)) = clause None
stub_sense (negsuc k) = no_sense
