-- How many words the operations of linear code and of the runtime's own functions are.
use Rattle.std.specs.Prelude.{◌≤◌, ◌+◌, ℕ, length}
use Rattle.region_forms.specs.Form.{leave}
use Rattle.linear_forms.specs.Linear.{plain, unexpected}
use Rattle.linear_forms.specs.Stub.{end_catch, terminating, call_unexpected, StubOp, leave_newest, destroy_held, call_held, begin_unexpected, check_unexpected, construct_bad, terminate_for, abort, CodeOp, linear, runtime}
use Rattle.machine_forms.specs.Emitted.{function_front}
use Rattle.machine_forms.specs.Shape.{Shape}
use Rattle.machine_forms.specs.StubCode.{code_op_code, stub_front}
use Rattle.source_bounds.specs.OperationWords.{linear_words}

abbrev pub stub_op_words : StubOp → ℕ
stub_op_words (leave_newest o d l) = 6
stub_op_words (destroy_held d o) = 5
stub_op_words (call_held h) = 3
stub_op_words (begin_unexpected o h) = 5
stub_op_words (check_unexpected s t o x) = 6
stub_op_words construct_bad = 1
stub_op_words (terminate_for o) = 3
stub_op_words abort = 2

-- how many words begin the runtime's own function that an operation calls
abbrev pub called_front : CodeOp → ℕ
called_front (linear (plain leave)) = 2
called_front (linear (unexpected o s)) = 2
called_front o = 0

-- an operation with the words that begin what it calls of the runtime's own functions
abbrev pub code_words : CodeOp → ℕ
code_words (linear (plain leave)) = 4
code_words (linear (unexpected o s)) = 8
code_words (linear o) = linear_words o
code_words (runtime o) = stub_op_words o

-- in any frame
abbrev pub OperationsHaveWords : Type 0
OperationsHaveWords = (f : Shape) (o : CodeOp) → length (code_op_code f o) + called_front o ≤ code_words o

-- the words with which functions begin
pub record BeginsBriefly (f : Shape) : Type 0 where
  pub function : (parameters : ℕ) → length (function_front f parameters) ≤ 36
  pub terminates : length (stub_front terminating f) ≤ 6
  pub leaves : length (stub_front end_catch f) ≤ 2
  pub stopped : length (stub_front call_unexpected f) ≤ 2

abbrev pub FunctionsBeginBriefly : Type 0
FunctionsBeginBriefly = (f : Shape) → BeginsBriefly f
