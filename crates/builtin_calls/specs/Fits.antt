-- The forms of operations that call built-in functions.
use Rattle.std.specs.Prelude.{⊤, ◌≡◌, ℕ, ◌<◌, length, Option, Some, None, slice_get}
use Rattle.cxx_ast.specs.declared.name.Builtin.{Builtin}
use Rattle.cxx_ast.specs.declared.name.Builtin.TheVariants.{WriteInt, ReadByte, Exit, Module, Cancel, Terminate, SetTerminate, SetUnexpected, Uncaught, BadException}
use Rattle.cxx_ast.specs.Plain.{Checked}
use Rattle.cxx_ast.specs.Checked.{IsChecked}
use Rattle.region_forms.specs.Form.{Place, Callee, defined, builtin, Value, call_value, handler_argument, no_arguments, argument_then, evaluate, store, call}
use Rattle.linear_forms.specs.Linear.{LinearOp, plain}
use Rattle.linear_forms.specs.UnitRun.{code_at}
use Rattle.source_bounds.specs.Compiled.{unit_for}
use Rattle.machine_simulation.specs.Lines.{Writes}
use Rattle.machine_simulation.specs.Bytes.{Reads}
use Rattle.machine_simulation.specs.Exits.{CallsExit}
use Rattle.machine_exceptions.specs.Answers.{CallsBuiltin, both_ints}
use Rattle.machine_raises.specs.Cancels.{Cancels}

-- A handler is set to one of so many functions, and no value is wanted.
abbrev pub Sets : Builtin → (functions : ℕ) → LinearOp → Type 0
Sets b functions o = (m : ℕ) × (m < functions) × CallsBuiltin b (argument_then (handler_argument m) no_arguments) None o

-- An operation calls a built-in function in the form of which the laws of its steps speak: with so many ints, or with one of so many functions.
-- A value is wanted of a byte that is read, of a module and of uncaught_exception alone. The class of `std` is no function.
abbrev pub Calls : (functions : ℕ) → Builtin → LinearOp → Type 0
Calls functions WriteInt o = (v : Value) × Writes v o
Calls functions ReadByte o = (wants : Option Place) × Reads wants o
Calls functions Exit o = (v : Value) × CallsExit v o
Calls functions Module o = (wants : Option Place) × (number : Value) × (other : Value) × CallsBuiltin Module (both_ints number other) wants o
Calls functions Cancel o = (v : Value) × Cancels v o
Calls functions Terminate o = CallsBuiltin Terminate no_arguments None o
Calls functions SetTerminate o = Sets SetTerminate functions o
Calls functions SetUnexpected o = Sets SetUnexpected functions o
Calls functions Uncaught o = (wants : Option Place) × CallsBuiltin Uncaught no_arguments wants o
Calls functions BadException o = ⊥

-- what is asked of an operation: only of one that calls a built-in function
abbrev pub CalleeFits : ℕ → Callee → LinearOp → Type 0
CalleeFits functions (builtin b) o = Calls functions b o
CalleeFits functions (defined n) o = ⊤

abbrev pub BuiltinFits : ℕ → LinearOp → Type 0
BuiltinFits functions (plain (call c args)) = CalleeFits functions c (plain (call c args))
BuiltinFits functions (plain (evaluate (call_value c args))) = CalleeFits functions c (plain (evaluate (call_value c args)))
BuiltinFits functions (plain (store q (call_value c args))) = CalleeFits functions c (plain (store q (call_value c args)))
BuiltinFits functions o = ⊤

-- So it is of each operation of every checked program.
abbrev pub BuiltinCallsFit : Type 0
BuiltinCallsFit = (p : Checked) → IsChecked p → (n place : ℕ) (o : LinearOp) → slice_get (code_at (unit_for p) n).ops place ≡ Some o → BuiltinFits (length (unit_for p).functions) o
