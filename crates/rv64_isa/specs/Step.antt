-- One step (RISC-V unprivileged ISA, volume I, "RV32I Base Integer Instruction Set", "RV64I" and the M extension).
use Rattle.std.specs.Prelude.{ℕ, ◌*◌, ◌/◌, ◌%◌, ◌^◌, ◌==◌, Bool, not, nat_lt, List, Option, Some, None, if◌then◌else◌}
use Rattle.std.specs.List.{list_all}
use Rattle.rv64_isa.specs.declared.instr.Instr.{Instr}
use Rattle.rv64_isa.specs.declared.instr.Instr.TheVariants.{Lui, Auipc, Jal, Jalr, Beq, Bne, Blt, Bge, Bltu, Bgeu, Lb, Lh, Lw, Ld, Lbu, Lhu, Lwu, Sb, Sh, Sw, Sd, Addi, Slti, Sltiu, Xori, Ori, Andi, Slli, Srli, Srai, Add, Sub, Sll, Slt, Sltu, Xor, Srl, Sra, Or, And, Addiw, Slliw, Srliw, Sraiw, Addw, Subw, Sllw, Srlw, Sraw, Fence, Ecall, Ebreak, Mul, Mulh, Mulhsu, Mulhu, Div, Divu, Rem, Remu, Mulw, Divw, Divuw, Remw, Remuw}
use Rattle.rv64_isa.specs.declared.step.FaultKind.{FaultKind}
use Rattle.rv64_isa.specs.declared.step.FaultKind.TheVariants.{Illegal, Misaligned, Unmapped, ReadOnly, Break}
use Rattle.rv64_isa.specs.declared.step.Step.{Step}
use Rattle.rv64_isa.specs.declared.step.Step.TheVariants.{Done, Ecall as EcallStep, Fault}
use Rattle.rv64_isa.specs.Arithmetic.{sign_extended, is_less, add, sub, slt, sltu, xor, or, and, sll, srl, sra, mul, mulh, mulhsu, mulhu, div, divu, rem, remu, addw, subw, sllw, srlw, sraw, mulw, divw, divuw, remw, remuw}
use Rattle.rv64_isa.specs.Decoding.{decoded}
use Rattle.rv64_isa.specs.State.{State, Part, Byte, state, reg_of, with_reg, bytes_at, value_of, with_value}

-- what a step did, and the state after it; a fault leaves the state
abbrev pub Stepped : Type 0
Stepped = Step × State

abbrev pub fault : FaultKind → State → Stepped
fault kind s = (Fault kind, s)

abbrev pub next : State → ℕ
next s = add s.pc 4

-- the pc moves on, and a register is set
abbrev pub sets : State → ℕ → ℕ → Stepped
sets s rd value = (Done, state (next s) (with_reg s.regs rd value) s.memory)

abbrev pub passes : State → Stepped
passes s = (Done, state (next s) s.regs s.memory)

-- at an ECALL the pc moves on, and nothing else
abbrev pub calls : State → Stepped
calls s = (EcallStep, state (next s) s.regs s.memory)

-- the pc moves to the target, and a register is set to the address behind the jump
abbrev pub jumps : State → ℕ → ℕ → Stepped
jumps s rd target = if target % 4 == 0 then (Done, state target (with_reg s.regs rd (next s)) s.memory) else fault Misaligned s

-- the pc moves by the distance where the branch is taken, and on where it is not
abbrev pub branches : State → Bool → ℕ → Stepped
branches s taken offset =
    let target = add s.pc (sign_extended 13 (2 * offset)) in
    if taken then (if target % 4 == 0 then (Done, state target s.regs s.memory) else fault Misaligned s) else passes s

-- a register is set to what some bytes stand for, extended
abbrev pub loaded : Option (List Byte) → State → ℕ → (ℕ → ℕ) → Stepped
loaded None s rd extended = fault Unmapped s
loaded (Some bytes) s rd extended = sets s rd (extended (value_of bytes))

abbrev pub loads : State → ℕ → (ℕ → ℕ) → ℕ → ℕ → Stepped
loads s size extended rd a = if a % size == 0 then loaded (bytes_at s.memory a size) s rd extended else fault Misaligned s

-- the low bytes of a value are written, where each place may be written
abbrev pub stored : Option (List Byte) → State → ℕ → ℕ → ℕ → Stepped
stored None s size a value = fault Unmapped s
stored (Some bytes) s size a value =
    if list_all (λ b. b.write) bytes then (Done, state (next s) s.regs (with_value s.memory a size value)) else fault ReadOnly s

abbrev pub stores : State → ℕ → ℕ → ℕ → Stepped
stores s size a value = if a % size == 0 then stored (bytes_at s.memory a size) s size a value else fault Misaligned s

-- a register, and the immediates of 12 and 20 bits as 64 bits
abbrev pub x : State → ℕ → ℕ
x s n = reg_of s.regs n

abbrev pub imm12 : ℕ → ℕ
imm12 imm = sign_extended 12 imm

abbrev pub imm20 : ℕ → ℕ
imm20 imm = sign_extended 32 (2 ^ 12 * imm)

-- what each instruction does
unfoldable pub done : Instr → State → Stepped
done (Lui rd imm) s = sets s rd (imm20 imm)
done (Auipc rd imm) s = sets s rd (add s.pc (imm20 imm))
done (Jal rd offset) s = jumps s rd (add s.pc (sign_extended 21 (2 * offset)))
done (Jalr rd rs1 imm) s = jumps s rd (add (x s rs1) (imm12 imm) / 2 * 2)
done (Beq rs1 rs2 offset) s = branches s (x s rs1 == x s rs2) offset
done (Bne rs1 rs2 offset) s = branches s (not (x s rs1 == x s rs2)) offset
done (Blt rs1 rs2 offset) s = branches s (is_less (x s rs1) (x s rs2)) offset
done (Bge rs1 rs2 offset) s = branches s (not (is_less (x s rs1) (x s rs2))) offset
done (Bltu rs1 rs2 offset) s = branches s (nat_lt (x s rs1) (x s rs2)) offset
done (Bgeu rs1 rs2 offset) s = branches s (not (nat_lt (x s rs1) (x s rs2))) offset
done (Lb rd rs1 imm) s = loads s 1 (λ n. sign_extended 8 n) rd (add (x s rs1) (imm12 imm))
done (Lh rd rs1 imm) s = loads s 2 (λ n. sign_extended 16 n) rd (add (x s rs1) (imm12 imm))
done (Lw rd rs1 imm) s = loads s 4 (λ n. sign_extended 32 n) rd (add (x s rs1) (imm12 imm))
done (Ld rd rs1 imm) s = loads s 8 (λ n. n) rd (add (x s rs1) (imm12 imm))
done (Lbu rd rs1 imm) s = loads s 1 (λ n. n) rd (add (x s rs1) (imm12 imm))
done (Lhu rd rs1 imm) s = loads s 2 (λ n. n) rd (add (x s rs1) (imm12 imm))
done (Lwu rd rs1 imm) s = loads s 4 (λ n. n) rd (add (x s rs1) (imm12 imm))
done (Sb rs1 rs2 imm) s = stores s 1 (add (x s rs1) (imm12 imm)) (x s rs2)
done (Sh rs1 rs2 imm) s = stores s 2 (add (x s rs1) (imm12 imm)) (x s rs2)
done (Sw rs1 rs2 imm) s = stores s 4 (add (x s rs1) (imm12 imm)) (x s rs2)
done (Sd rs1 rs2 imm) s = stores s 8 (add (x s rs1) (imm12 imm)) (x s rs2)
done (Addi rd rs1 imm) s = sets s rd (add (x s rs1) (imm12 imm))
done (Slti rd rs1 imm) s = sets s rd (slt (x s rs1) (imm12 imm))
done (Sltiu rd rs1 imm) s = sets s rd (sltu (x s rs1) (imm12 imm))
done (Xori rd rs1 imm) s = sets s rd (xor (x s rs1) (imm12 imm))
done (Ori rd rs1 imm) s = sets s rd (or (x s rs1) (imm12 imm))
done (Andi rd rs1 imm) s = sets s rd (and (x s rs1) (imm12 imm))
done (Slli rd rs1 shamt) s = sets s rd (sll (x s rs1) shamt)
done (Srli rd rs1 shamt) s = sets s rd (srl (x s rs1) shamt)
done (Srai rd rs1 shamt) s = sets s rd (sra (x s rs1) shamt)
done (Add rd rs1 rs2) s = sets s rd (add (x s rs1) (x s rs2))
done (Sub rd rs1 rs2) s = sets s rd (sub (x s rs1) (x s rs2))
done (Sll rd rs1 rs2) s = sets s rd (sll (x s rs1) (x s rs2))
done (Slt rd rs1 rs2) s = sets s rd (slt (x s rs1) (x s rs2))
done (Sltu rd rs1 rs2) s = sets s rd (sltu (x s rs1) (x s rs2))
done (Xor rd rs1 rs2) s = sets s rd (xor (x s rs1) (x s rs2))
done (Srl rd rs1 rs2) s = sets s rd (srl (x s rs1) (x s rs2))
done (Sra rd rs1 rs2) s = sets s rd (sra (x s rs1) (x s rs2))
done (Or rd rs1 rs2) s = sets s rd (or (x s rs1) (x s rs2))
done (And rd rs1 rs2) s = sets s rd (and (x s rs1) (x s rs2))
done (Addiw rd rs1 imm) s = sets s rd (addw (x s rs1) (imm12 imm))
done (Slliw rd rs1 shamt) s = sets s rd (sllw (x s rs1) shamt)
done (Srliw rd rs1 shamt) s = sets s rd (srlw (x s rs1) shamt)
done (Sraiw rd rs1 shamt) s = sets s rd (sraw (x s rs1) shamt)
done (Addw rd rs1 rs2) s = sets s rd (addw (x s rs1) (x s rs2))
done (Subw rd rs1 rs2) s = sets s rd (subw (x s rs1) (x s rs2))
done (Sllw rd rs1 rs2) s = sets s rd (sllw (x s rs1) (x s rs2))
done (Srlw rd rs1 rs2) s = sets s rd (srlw (x s rs1) (x s rs2))
done (Sraw rd rs1 rs2) s = sets s rd (sraw (x s rs1) (x s rs2))
done (Fence rd rs1 imm) s = passes s
done Ecall s = calls s
done Ebreak s = fault Break s
done (Mul rd rs1 rs2) s = sets s rd (mul (x s rs1) (x s rs2))
done (Mulh rd rs1 rs2) s = sets s rd (mulh (x s rs1) (x s rs2))
done (Mulhsu rd rs1 rs2) s = sets s rd (mulhsu (x s rs1) (x s rs2))
done (Mulhu rd rs1 rs2) s = sets s rd (mulhu (x s rs1) (x s rs2))
done (Div rd rs1 rs2) s = sets s rd (div (x s rs1) (x s rs2))
done (Divu rd rs1 rs2) s = sets s rd (divu (x s rs1) (x s rs2))
done (Rem rd rs1 rs2) s = sets s rd (rem (x s rs1) (x s rs2))
done (Remu rd rs1 rs2) s = sets s rd (remu (x s rs1) (x s rs2))
done (Mulw rd rs1 rs2) s = sets s rd (mulw (x s rs1) (x s rs2))
done (Divw rd rs1 rs2) s = sets s rd (divw (x s rs1) (x s rs2))
done (Divuw rd rs1 rs2) s = sets s rd (divuw (x s rs1) (x s rs2))
done (Remw rd rs1 rs2) s = sets s rd (remw (x s rs1) (x s rs2))
done (Remuw rd rs1 rs2) s = sets s rd (remuw (x s rs1) (x s rs2))

-- the word at the pc, where four bytes that may be executed lie there
abbrev pub code_of : Option (List Byte) → Option ℕ
code_of None = None
code_of (Some bytes) = if list_all (λ b. b.exec) bytes then Some (value_of bytes) else None

abbrev pub fetched : List Part → ℕ → Option ℕ
fetched memory pc = code_of (bytes_at memory pc 4)

abbrev pub decoded_step : Option Instr → State → Stepped
decoded_step None s = fault Illegal s
decoded_step (Some instr) s = done instr s

abbrev pub fetched_step : Option ℕ → State → Stepped
fetched_step None s = fault Unmapped s
fetched_step (Some word) s = decoded_step (decoded word) s

-- one step
unfoldable pub step_of : State → Stepped
step_of s = if s.pc % 4 == 0 then fetched_step (fetched s.memory s.pc) s else fault Misaligned s
