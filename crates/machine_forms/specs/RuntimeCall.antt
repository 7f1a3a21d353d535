-- The runtime calls: an ECALL with the number of the call in a7.
use Rattle.std.specs.Prelude.{ℕ, List, [], ◌∷◌}
use Rattle.rv64_isa.specs.declared.instr.Instr.TheVariants.{Addi, Ecall}
use Rattle.cxx_ast.specs.declared.name.Builtin.{Builtin}
use Rattle.cxx_ast.specs.declared.name.Builtin.TheVariants.{WriteInt, ReadByte, Exit, Module, Cancel, Terminate, SetTerminate, SetUnexpected, Uncaught, BadException}
use Rattle.machine_forms.specs.Registers.{zero_register, a0, a7}
use Rattle.machine_forms.specs.Piece.{Piece, instruction}

abbrev pub exit_call : ℕ
exit_call = 0

abbrev pub allocate_call : ℕ
allocate_call = 3

abbrev pub free_call : ℕ
free_call = 4

abbrev pub throw_call : ℕ
throw_call = 5

abbrev pub begin_catch_call : ℕ
begin_catch_call = 6

abbrev pub end_catch_call : ℕ
end_catch_call = 7

abbrev pub rethrow_call : ℕ
rethrow_call = 8

abbrev pub resume_call : ℕ
resume_call = 9

abbrev pub abort_call : ℕ
abort_call = 16

abbrev pub stack_call : ℕ
stack_call = 17

abbrev pub unexpected_begin_call : ℕ
unexpected_begin_call = 18

abbrev pub unexpected_check_call : ℕ
unexpected_check_call = 19

abbrev pub terminate_for_call : ℕ
terminate_for_call = 20

-- a runtime call
abbrev pub runtime_call : ℕ → List Piece
runtime_call n = instruction (Addi a7 zero_register n) ∷ instruction Ecall ∷ []

-- a built-in function is a runtime call; `std::bad_exception` is none
abbrev pub builtin_call : Builtin → List Piece
builtin_call WriteInt = runtime_call 1
builtin_call ReadByte = runtime_call 2
builtin_call Exit = runtime_call exit_call
builtin_call Module = runtime_call 14
builtin_call Cancel = runtime_call 15
builtin_call Terminate = runtime_call 13
builtin_call SetTerminate = runtime_call 11
builtin_call SetUnexpected = runtime_call 12
builtin_call Uncaught = runtime_call 10
builtin_call BadException = []

-- a0 is 0
abbrev pub zero_given : List Piece
zero_given = instruction (Addi a0 zero_register 0) ∷ []

-- the value of a built-in function that gives none is 0
abbrev pub builtin_value : Builtin → List Piece
builtin_value ReadByte = []
builtin_value Module = []
builtin_value Uncaught = []
builtin_value _ = zero_given
