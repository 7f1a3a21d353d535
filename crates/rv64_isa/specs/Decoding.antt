-- The instruction of a word: the listing, read by opcode.
use Rattle.std.specs.Prelude.{ℕ, ◌+◌, ◌*◌, ◌%◌, ◌==◌, List, [], ◌∷◌, find, Option, Some, None, option_map, if◌then◌else◌}
use Rattle.rv64_isa.specs.declared.instr.Instr.{Instr}
use Rattle.rv64_isa.specs.declared.instr.Instr.TheVariants.{Lui, Auipc, Jal, Jalr, Beq, Bne, Blt, Bge, Bltu, Bgeu, Lb, Lh, Lw, Ld, Lbu, Lhu, Lwu, Sb, Sh, Sw, Sd, Addi, Slti, Sltiu, Xori, Ori, Andi, Slli, Srli, Srai, Add, Sub, Sll, Slt, Sltu, Xor, Srl, Sra, Or, And, Addiw, Slliw, Srliw, Sraiw, Addw, Subw, Sllw, Srlw, Sraw, Fence, Ecall, Ebreak, Mul, Mulh, Mulhsu, Mulhu, Div, Divu, Rem, Remu, Mulw, Divw, Divuw, Remw, Remuw}
use Rattle.rv64_isa.specs.Format.{Fields, fields_of}

-- an instruction of three fields, under what tells it apart from the others of its opcode
abbrev pub Entry : Type 0
Entry = ℕ × (ℕ → ℕ → ℕ → Instr)

abbrev pub made : List Entry → ℕ → ℕ → ℕ → ℕ → Option Instr
made entries key x y z = option_map (λ e. e.1 x y z) (find (λ e. key == e.0) entries)

-- by funct3 of opcode 0x67
abbrev pub jumps_by_register : List Entry
jumps_by_register = (0, Jalr) ∷ []

-- by funct3 of opcode 0x63
abbrev pub branches : List Entry
branches = (0, Beq) ∷ (1, Bne) ∷ (4, Blt) ∷ (5, Bge) ∷ (6, Bltu) ∷ (7, Bgeu) ∷ []

-- by funct3 of opcode 0x03
abbrev pub loads : List Entry
loads = (0, Lb) ∷ (1, Lh) ∷ (2, Lw) ∷ (3, Ld) ∷ (4, Lbu) ∷ (5, Lhu) ∷ (6, Lwu) ∷ []

-- by funct3 of opcode 0x23
abbrev pub stores : List Entry
stores = (0, Sb) ∷ (1, Sh) ∷ (2, Sw) ∷ (3, Sd) ∷ []

-- by funct3 of opcode 0x13
abbrev pub immediates : List Entry
immediates = (0, Addi) ∷ (2, Slti) ∷ (3, Sltiu) ∷ (4, Xori) ∷ (6, Ori) ∷ (7, Andi) ∷ []

-- by funct3 and 8 times funct6 of opcode 0x13
abbrev pub shifts : List Entry
shifts = (1, Slli) ∷ (5, Srli) ∷ (0x85, Srai) ∷ []

-- by funct3 and 8 times funct7 of opcode 0x33
abbrev pub registers : List Entry
registers = (0, Add) ∷ (0x100, Sub) ∷ (1, Sll) ∷ (2, Slt) ∷ (3, Sltu) ∷ (4, Xor) ∷ (5, Srl) ∷ (0x105, Sra) ∷ (6, Or) ∷ (7, And) ∷ (8, Mul) ∷ (9, Mulh) ∷ (0xa, Mulhsu) ∷ (0xb, Mulhu) ∷ (0xc, Div) ∷ (0xd, Divu) ∷ (0xe, Rem) ∷ (0xf, Remu) ∷ []

-- by funct3 of opcode 0x1b
abbrev pub immediates_w : List Entry
immediates_w = (0, Addiw) ∷ []

-- by funct3 and 8 times funct7 of opcode 0x1b
abbrev pub shifts_w : List Entry
shifts_w = (1, Slliw) ∷ (5, Srliw) ∷ (0x105, Sraiw) ∷ []

-- by funct3 and 8 times funct7 of opcode 0x3b
abbrev pub registers_w : List Entry
registers_w = (0, Addw) ∷ (0x100, Subw) ∷ (1, Sllw) ∷ (5, Srlw) ∷ (0x105, Sraw) ∷ (8, Mulw) ∷ (0xc, Divw) ∷ (0xd, Divuw) ∷ (0xe, Remw) ∷ (0xf, Remuw) ∷ []

-- by funct3 of opcode 0x0f
abbrev pub fences : List Entry
fences = (0, Fence) ∷ []

-- the instruction of these fields, if there is one
unfoldable pub named : Fields → Option Instr
named f =
    if f.opcode == 0x37 then Some (Lui f.rd f.imm_u)
    else if f.opcode == 0x17 then Some (Auipc f.rd f.imm_u)
    else if f.opcode == 0x6f then Some (Jal f.rd f.offset_j)
    else if f.opcode == 0x67 then made jumps_by_register f.funct3 f.rd f.rs1 f.imm_i
    else if f.opcode == 0x63 then made branches f.funct3 f.rs1 f.rs2 f.offset_b
    else if f.opcode == 0x03 then made loads f.funct3 f.rd f.rs1 f.imm_i
    else if f.opcode == 0x23 then made stores f.funct3 f.rs1 f.rs2 f.imm_s
    else if f.opcode == 0x13 then (if f.funct3 % 4 == 1
    then made shifts (f.funct3 + 8 * f.funct6) f.rd f.rs1 f.shamt
    else made immediates f.funct3 f.rd f.rs1 f.imm_i)
    else if f.opcode == 0x33 then made registers (f.funct3 + 8 * f.funct7) f.rd f.rs1 f.rs2
    else if f.opcode == 0x1b then (if f.funct3 == 0
    then made immediates_w f.funct3 f.rd f.rs1 f.imm_i
    else made shifts_w (f.funct3 + 8 * f.funct7) f.rd f.rs1 f.rs2)
    else if f.opcode == 0x3b then made registers_w (f.funct3 + 8 * f.funct7) f.rd f.rs1 f.rs2
    else if f.opcode == 0x0f then made fences f.funct3 f.rd f.rs1 f.imm_i
    else if f.word == 0x73 then Some Ecall
    else if f.word == 0x10_0073 then Some Ebreak
    else None

-- the instruction of a word, if there is one
abbrev pub decoded : ℕ → Option Instr
decoded word = named (fields_of word)
