-- Arguments and calls. A caller writes what it passes below its own frame, 8 bytes each, where the called function's first slots will be.
-- A runtime call gets its arguments in a0 and a1. Arguments make no calls, so nothing is written there in between.
use Rattle.std.specs.Prelude.{ℕ, negsuc, ◌+◌, ◌*◌, List, [], ◌∷◌, ◌++◌}
use Rattle.rv64_isa.specs.declared.instr.Instr.TheVariants.{Sd}
use Rattle.region_forms.specs.Form.{Callee, defined, builtin, Argument, int_argument, address_argument, handler_argument, Arguments, no_arguments, argument_then}
use Rattle.linear_forms.specs.Stub.{Function, compiled}
use Rattle.machine_forms.specs.Immediate.{immediate}
use Rattle.machine_forms.specs.Registers.{ra, sp, register}
use Rattle.machine_forms.specs.Piece.{entry, Piece, instruction, upper_part, jump_rest}
use Rattle.machine_forms.specs.Shape.{Shape}
use Rattle.machine_forms.specs.PlaceCode.{place_address, target_address}
use Rattle.machine_forms.specs.ValueCode.{read_in, brought, value_code, operand}
use Rattle.machine_forms.specs.RuntimeCall.{builtin_call, builtin_value}

-- an argument in the k-th register
abbrev pub argument_code : Shape → ℕ → Argument → List Piece
argument_code f k (int_argument v) = value_code f (register k) k v
argument_code f k (address_argument p) = place_address f (register k) p
argument_code f k (handler_argument n) = target_address (register k) (entry (compiled n))

-- a register is passed as the i-th argument
abbrev pub passed : (value i : ℕ) → Piece
passed value i = instruction (Sd sp value (immediate (negsuc (8 * i + 7))))

-- the i-th argument is passed: an int from where it is read, anything else from the first register
abbrev pub argument_passed : Shape → ℕ → Argument → List Piece
argument_passed f i (int_argument v) = brought (operand f v) 0 ++ passed (read_in (operand f v) 0) i ∷ []
argument_passed f i a = argument_code f 0 a ++ passed (register 0) i ∷ []

-- arguments are passed, from the i-th on
abbrev pub arguments_passed : Shape → ℕ → Arguments → List Piece
arguments_passed f i no_arguments = []
arguments_passed f i (argument_then a args) = argument_passed f i a ++ arguments_passed f (i + 1) args

-- arguments in registers, from the k-th on
abbrev pub arguments_held : Shape → ℕ → Arguments → List Piece
arguments_held f k no_arguments = []
arguments_held f k (argument_then a args) = argument_code f k a ++ arguments_held f (k + 1) args

-- a function is called
abbrev pub function_called : Function → List Piece
function_called g = upper_part ra (entry g) ∷ jump_rest ra ra (entry g) ∷ []

-- a call, which gives its value in a0
abbrev pub call_code : Shape → Callee → Arguments → List Piece
call_code f (defined n) args = arguments_passed f 0 args ++ function_called (compiled n)
call_code f (builtin b) args = arguments_held f 0 args ++ builtin_call b

-- the value of a call, where it is wanted
abbrev pub value_given : Callee → List Piece
value_given (defined n) = []
value_given (builtin b) = builtin_value b
