-- The code of operations of linear code. Of a jump on a condition the branch goes over one word alone, which is a jump that reaches every
-- label of its function: 2^18 words either way. A pad is entered with the object's address in a0 and the selector in a1.
use Rattle.std.specs.Prelude.{ℕ, List, [], ◌∷◌, ◌++◌, Option, Some, None}
use Rattle.rv64_isa.specs.declared.instr.Instr.TheVariants.{Bne}
use Rattle.linear_forms.specs.Linear.{LinearOp, plain, label, jump, jump_zero, pad, jump_filter, free, resume, unexpected, return}
use Rattle.linear_forms.specs.Stub.{call_unexpected}
use Rattle.machine_forms.specs.Registers.{a0, a1, saved_registers}
use Rattle.machine_forms.specs.Piece.{Piece, instruction, jump_to}
use Rattle.machine_forms.specs.Shape.{Shape, epilogue}
use Rattle.machine_forms.specs.KeptCode.{restores}
use Rattle.machine_forms.specs.PlaceCode.{slot_loaded, slot_stored, int_loaded, number_set}
use Rattle.machine_forms.specs.ValueCode.{test_code}
use Rattle.machine_forms.specs.CallCode.{passed, function_called}
use Rattle.machine_forms.specs.OperationCode.{op_code}
use Rattle.machine_forms.specs.RuntimeCall.{runtime_call, zero_given, free_call, resume_call}

-- a jump where two registers have the same value
abbrev pub jump_same : (x y label : ℕ) → List Piece
jump_same x y l = instruction (Bne x y 4) ∷ jump_to l ∷ []

-- what a function gives, in a0
abbrev pub result_set : Shape → Option ℕ → List Piece
result_set f None = zero_given
result_set f (Some s) = int_loaded f a0 s ∷ []

-- the code of an operation of linear code
abbrev pub linear_code : Shape → LinearOp → List Piece
linear_code f (plain o) = op_code f o
linear_code f (label l) = []
linear_code f (jump l) = jump_to l ∷ []
linear_code f (jump_zero v l) = test_code f v ++ jump_to l ∷ []
linear_code f (pad o s) = slot_stored f a0 o ∷ slot_stored f a1 s ∷ []
linear_code f (jump_filter s n l) = int_loaded f a0 s ∷ number_set a1 n ++ jump_same a0 a1 l
linear_code f (free s) = slot_loaded f a0 s ∷ runtime_call free_call
linear_code f (resume s) = slot_loaded f a0 s ∷ runtime_call resume_call
linear_code f (unexpected o s) =
    slot_loaded f a0 o ∷ passed a0 0 ∷ slot_loaded f a0 s ∷ passed a0 1 ∷ function_called call_unexpected
linear_code f (return result) = result_set f result ++ restores f saved_registers f.kept ++ epilogue f
