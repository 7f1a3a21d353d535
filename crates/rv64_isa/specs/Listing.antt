-- The instructions and their words (RISC-V unprivileged ISA, volume I, "RV32/64G Instruction Set Listings").
use Rattle.std.specs.Prelude.{ℕ}
use Rattle.rv64_isa.specs.declared.instr.Instr.{Instr}
use Rattle.rv64_isa.specs.declared.instr.Instr.TheVariants.{Lui, Auipc, Jal, Jalr, Beq, Bne, Blt, Bge, Bltu, Bgeu, Lb, Lh, Lw, Ld, Lbu, Lhu, Lwu, Sb, Sh, Sw, Sd, Addi, Slti, Sltiu, Xori, Ori, Andi, Slli, Srli, Srai, Add, Sub, Sll, Slt, Sltu, Xor, Srl, Sra, Or, And, Addiw, Slliw, Srliw, Sraiw, Addw, Subw, Sllw, Srlw, Sraw, Fence, Ecall, Ebreak, Mul, Mulh, Mulhsu, Mulhu, Div, Divu, Rem, Remu, Mulw, Divw, Divuw, Remw, Remuw}
use Rattle.rv64_isa.specs.Format.{Format, R, Shift, I, S, B, U, J, encoded, HasWord}

-- each instruction's format, opcode, and funct3 and funct7 (or the top six bits, for a shift of 64 bits) where the format has them
abbrev pub form_of : Instr → Format
form_of (Lui rd imm) = U 0x37 rd imm
form_of (Auipc rd imm) = U 0x17 rd imm
form_of (Jal rd offset) = J 0x6f rd offset
form_of (Jalr rd rs1 imm) = I 0x67 0 rd rs1 imm
form_of (Beq rs1 rs2 offset) = B 0x63 0 rs1 rs2 offset
form_of (Bne rs1 rs2 offset) = B 0x63 1 rs1 rs2 offset
form_of (Blt rs1 rs2 offset) = B 0x63 4 rs1 rs2 offset
form_of (Bge rs1 rs2 offset) = B 0x63 5 rs1 rs2 offset
form_of (Bltu rs1 rs2 offset) = B 0x63 6 rs1 rs2 offset
form_of (Bgeu rs1 rs2 offset) = B 0x63 7 rs1 rs2 offset
form_of (Lb rd rs1 imm) = I 0x03 0 rd rs1 imm
form_of (Lh rd rs1 imm) = I 0x03 1 rd rs1 imm
form_of (Lw rd rs1 imm) = I 0x03 2 rd rs1 imm
form_of (Ld rd rs1 imm) = I 0x03 3 rd rs1 imm
form_of (Lbu rd rs1 imm) = I 0x03 4 rd rs1 imm
form_of (Lhu rd rs1 imm) = I 0x03 5 rd rs1 imm
form_of (Lwu rd rs1 imm) = I 0x03 6 rd rs1 imm
form_of (Sb rs1 rs2 imm) = S 0x23 0 rs1 rs2 imm
form_of (Sh rs1 rs2 imm) = S 0x23 1 rs1 rs2 imm
form_of (Sw rs1 rs2 imm) = S 0x23 2 rs1 rs2 imm
form_of (Sd rs1 rs2 imm) = S 0x23 3 rs1 rs2 imm
form_of (Addi rd rs1 imm) = I 0x13 0 rd rs1 imm
form_of (Slti rd rs1 imm) = I 0x13 2 rd rs1 imm
form_of (Sltiu rd rs1 imm) = I 0x13 3 rd rs1 imm
form_of (Xori rd rs1 imm) = I 0x13 4 rd rs1 imm
form_of (Ori rd rs1 imm) = I 0x13 6 rd rs1 imm
form_of (Andi rd rs1 imm) = I 0x13 7 rd rs1 imm
form_of (Slli rd rs1 shamt) = Shift 0x13 1 0x00 rd rs1 shamt
form_of (Srli rd rs1 shamt) = Shift 0x13 5 0x00 rd rs1 shamt
form_of (Srai rd rs1 shamt) = Shift 0x13 5 0x10 rd rs1 shamt
form_of (Add rd rs1 rs2) = R 0x33 0 0x00 rd rs1 rs2
form_of (Sub rd rs1 rs2) = R 0x33 0 0x20 rd rs1 rs2
form_of (Sll rd rs1 rs2) = R 0x33 1 0x00 rd rs1 rs2
form_of (Slt rd rs1 rs2) = R 0x33 2 0x00 rd rs1 rs2
form_of (Sltu rd rs1 rs2) = R 0x33 3 0x00 rd rs1 rs2
form_of (Xor rd rs1 rs2) = R 0x33 4 0x00 rd rs1 rs2
form_of (Srl rd rs1 rs2) = R 0x33 5 0x00 rd rs1 rs2
form_of (Sra rd rs1 rs2) = R 0x33 5 0x20 rd rs1 rs2
form_of (Or rd rs1 rs2) = R 0x33 6 0x00 rd rs1 rs2
form_of (And rd rs1 rs2) = R 0x33 7 0x00 rd rs1 rs2
form_of (Addiw rd rs1 imm) = I 0x1b 0 rd rs1 imm
form_of (Slliw rd rs1 shamt) = R 0x1b 1 0x00 rd rs1 shamt
form_of (Srliw rd rs1 shamt) = R 0x1b 5 0x00 rd rs1 shamt
form_of (Sraiw rd rs1 shamt) = R 0x1b 5 0x20 rd rs1 shamt
form_of (Addw rd rs1 rs2) = R 0x3b 0 0x00 rd rs1 rs2
form_of (Subw rd rs1 rs2) = R 0x3b 0 0x20 rd rs1 rs2
form_of (Sllw rd rs1 rs2) = R 0x3b 1 0x00 rd rs1 rs2
form_of (Srlw rd rs1 rs2) = R 0x3b 5 0x00 rd rs1 rs2
form_of (Sraw rd rs1 rs2) = R 0x3b 5 0x20 rd rs1 rs2
form_of (Fence rd rs1 imm) = I 0x0f 0 rd rs1 imm
form_of Ecall = I 0x73 0 0 0 0
form_of Ebreak = I 0x73 0 0 0 1
form_of (Mul rd rs1 rs2) = R 0x33 0 0x01 rd rs1 rs2
form_of (Mulh rd rs1 rs2) = R 0x33 1 0x01 rd rs1 rs2
form_of (Mulhsu rd rs1 rs2) = R 0x33 2 0x01 rd rs1 rs2
form_of (Mulhu rd rs1 rs2) = R 0x33 3 0x01 rd rs1 rs2
form_of (Div rd rs1 rs2) = R 0x33 4 0x01 rd rs1 rs2
form_of (Divu rd rs1 rs2) = R 0x33 5 0x01 rd rs1 rs2
form_of (Rem rd rs1 rs2) = R 0x33 6 0x01 rd rs1 rs2
form_of (Remu rd rs1 rs2) = R 0x33 7 0x01 rd rs1 rs2
form_of (Mulw rd rs1 rs2) = R 0x3b 0 0x01 rd rs1 rs2
form_of (Divw rd rs1 rs2) = R 0x3b 4 0x01 rd rs1 rs2
form_of (Divuw rd rs1 rs2) = R 0x3b 5 0x01 rd rs1 rs2
form_of (Remw rd rs1 rs2) = R 0x3b 6 0x01 rd rs1 rs2
form_of (Remuw rd rs1 rs2) = R 0x3b 7 0x01 rd rs1 rs2

-- the word of an instruction
abbrev pub word_of : Instr → ℕ
word_of i = encoded (form_of i)

-- the listing has the instruction, with fields in their ranges, and the word
abbrev pub IsListed : Instr → ℕ → Type 0
IsListed i word = HasWord (form_of i) word
