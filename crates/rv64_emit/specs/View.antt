-- The plain code that pieces in memory stand for.
use Rattle.rv64_emit.specs.declared.piece.Function.{Function as FunctionValue}
use Rattle.rv64_emit.specs.declared.piece.Function.TheVariants.{Compiled, EndCatch, CallUnexpected}
use Rattle.rv64_emit.specs.declared.piece.Target.{Target as TargetValue}
use Rattle.rv64_emit.specs.declared.piece.Target.TheVariants.{Entry, TypeRecord, Global}
use Rattle.rv64_emit.specs.declared.piece.Piece.{Piece as PieceValue}
use Rattle.rv64_emit.specs.declared.piece.Piece.TheVariants.{Instruction, JumpTo, UpperPart, AddRest, LoadRest, StoreRest, JumpRest}
use Rattle.linear_forms.specs.Stub.{Function, compiled, end_catch, call_unexpected}
use Rattle.machine_forms.specs.Piece.{Target, entry, type_record, global_at, Piece, instruction, jump_to, upper_part, add_rest, load_rest, store_rest, jump_rest}

-- a function
abbrev pub function_of : FunctionValue → Function
function_of (Compiled n) = compiled n
function_of EndCatch = end_catch
function_of CallUnexpected = call_unexpected

-- what code reaches
abbrev pub target_of : TargetValue → Target
target_of (Entry f) = entry (function_of f)
target_of (TypeRecord t) = type_record t
target_of (Global g n) = global_at g n

-- one word to be
abbrev pub piece_of : PieceValue → Piece
piece_of (Instruction i) = instruction i
piece_of (JumpTo l) = jump_to l
piece_of (UpperPart rd t) = upper_part rd (target_of t)
piece_of (AddRest rd t) = add_rest rd (target_of t)
piece_of (LoadRest rd t) = load_rest rd (target_of t)
piece_of (StoreRest value base t) = store_rest value base (target_of t)
piece_of (JumpRest link base t) = jump_rest link base (target_of t)
