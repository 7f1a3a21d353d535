-- The words of instructions and of pieces have 32 bits.
use Rattle.std.proofs.Common.{ℕ, ◌<◌, ◌^◌, arith, lit<}
use Rattle.rv64_isa.specs.declared.instr.Instr.{Instr}
use Rattle.rv64_isa.specs.declared.instr.Instr.TheVariants.{Lui, Auipc, Jal, Jalr, Beq, Bne, Blt, Bge, Bltu, Bgeu, Lb, Lh, Lw, Ld, Lbu, Lhu, Lwu, Sb, Sh, Sw, Sd, Addi, Slti, Sltiu, Xori, Ori, Andi, Slli, Srli, Srai, Add, Sub, Sll, Slt, Sltu, Xor, Srl, Sra, Or, And, Addiw, Slliw, Srliw, Sraiw, Addw, Subw, Sllw, Srlw, Sraw, Fence, Ecall, Ebreak, Mul, Mulh, Mulhsu, Mulhu, Div, Divu, Rem, Remu, Mulw, Divw, Divuw, Remw, Remuw}
use Rattle.rv64_isa.specs.Format.{R, Shift, I, S, B, U, J, encoded, IsInRange}
use Rattle.rv64_isa.specs.Listing.{form_of, word_of}
use Rattle.machine_pieces.proofs.Fetching.{placed_fits}
use Rattle.machine_forms.specs.Piece.{placed}
use Rattle.checked_units.specs.Images.{WordsHaveBits}

-- ---- the word of a format

small_r : (op f3 f7 rd rs1 rs2 : ℕ) → op < 128 → f3 < 8 → f7 < 128 → IsInRange (R op f3 f7 rd rs1 rs2) → encoded (R op f3 f7 rd rs1 rs2) < 2 ^ 32
small_r op f3 f7 rd rs1 rs2 a b c (x, y, z) = omega arith

small_shift : (op f3 f6 rd rs1 shamt : ℕ) → op < 128 → f3 < 8 → f6 < 64 → IsInRange (Shift op f3 f6 rd rs1 shamt) → encoded (Shift op f3 f6 rd rs1 shamt) < 2 ^ 32
small_shift op f3 f6 rd rs1 shamt a b c (x, y, z) = omega arith

small_i : (op f3 rd rs1 imm : ℕ) → op < 128 → f3 < 8 → IsInRange (I op f3 rd rs1 imm) → encoded (I op f3 rd rs1 imm) < 2 ^ 32
small_i op f3 rd rs1 imm a b (x, y, z) = omega arith

small_s : (op f3 rs1 rs2 imm : ℕ) → op < 128 → f3 < 8 → IsInRange (S op f3 rs1 rs2 imm) → encoded (S op f3 rs1 rs2 imm) < 2 ^ 32
small_s op f3 rs1 rs2 imm a b (x, y, z) = omega arith

small_b : (op f3 rs1 rs2 offset : ℕ) → op < 128 → f3 < 8 → IsInRange (B op f3 rs1 rs2 offset) → encoded (B op f3 rs1 rs2 offset) < 2 ^ 32
small_b op f3 rs1 rs2 offset a b (x, y, z) = omega arith

small_u : (op rd imm : ℕ) → op < 128 → IsInRange (U op rd imm) → encoded (U op rd imm) < 2 ^ 32
small_u op rd imm a (x, y) = omega arith

small_j : (op rd offset : ℕ) → op < 128 → IsInRange (J op rd offset) → encoded (J op rd offset) < 2 ^ 32
small_j op rd offset a (x, y) = omega arith

-- ---- the word of an instruction

pub word_small : (i : Instr) → IsInRange (form_of i) → word_of i < 2 ^ 32
word_small (Lui rd imm) h = small_u 0x37 rd imm (lit< tt) h
word_small (Auipc rd imm) h = small_u 0x17 rd imm (lit< tt) h
word_small (Jal rd offset) h = small_j 0x6f rd offset (lit< tt) h
word_small (Jalr rd rs1 imm) h = small_i 0x67 0 rd rs1 imm (lit< tt) (lit< tt) h
word_small (Beq rs1 rs2 offset) h = small_b 0x63 0 rs1 rs2 offset (lit< tt) (lit< tt) h
word_small (Bne rs1 rs2 offset) h = small_b 0x63 1 rs1 rs2 offset (lit< tt) (lit< tt) h
word_small (Blt rs1 rs2 offset) h = small_b 0x63 4 rs1 rs2 offset (lit< tt) (lit< tt) h
word_small (Bge rs1 rs2 offset) h = small_b 0x63 5 rs1 rs2 offset (lit< tt) (lit< tt) h
word_small (Bltu rs1 rs2 offset) h = small_b 0x63 6 rs1 rs2 offset (lit< tt) (lit< tt) h
word_small (Bgeu rs1 rs2 offset) h = small_b 0x63 7 rs1 rs2 offset (lit< tt) (lit< tt) h
word_small (Lb rd rs1 imm) h = small_i 0x03 0 rd rs1 imm (lit< tt) (lit< tt) h
word_small (Lh rd rs1 imm) h = small_i 0x03 1 rd rs1 imm (lit< tt) (lit< tt) h
word_small (Lw rd rs1 imm) h = small_i 0x03 2 rd rs1 imm (lit< tt) (lit< tt) h
word_small (Ld rd rs1 imm) h = small_i 0x03 3 rd rs1 imm (lit< tt) (lit< tt) h
word_small (Lbu rd rs1 imm) h = small_i 0x03 4 rd rs1 imm (lit< tt) (lit< tt) h
word_small (Lhu rd rs1 imm) h = small_i 0x03 5 rd rs1 imm (lit< tt) (lit< tt) h
word_small (Lwu rd rs1 imm) h = small_i 0x03 6 rd rs1 imm (lit< tt) (lit< tt) h
word_small (Sb rs1 rs2 imm) h = small_s 0x23 0 rs1 rs2 imm (lit< tt) (lit< tt) h
word_small (Sh rs1 rs2 imm) h = small_s 0x23 1 rs1 rs2 imm (lit< tt) (lit< tt) h
word_small (Sw rs1 rs2 imm) h = small_s 0x23 2 rs1 rs2 imm (lit< tt) (lit< tt) h
word_small (Sd rs1 rs2 imm) h = small_s 0x23 3 rs1 rs2 imm (lit< tt) (lit< tt) h
word_small (Addi rd rs1 imm) h = small_i 0x13 0 rd rs1 imm (lit< tt) (lit< tt) h
word_small (Slti rd rs1 imm) h = small_i 0x13 2 rd rs1 imm (lit< tt) (lit< tt) h
word_small (Sltiu rd rs1 imm) h = small_i 0x13 3 rd rs1 imm (lit< tt) (lit< tt) h
word_small (Xori rd rs1 imm) h = small_i 0x13 4 rd rs1 imm (lit< tt) (lit< tt) h
word_small (Ori rd rs1 imm) h = small_i 0x13 6 rd rs1 imm (lit< tt) (lit< tt) h
word_small (Andi rd rs1 imm) h = small_i 0x13 7 rd rs1 imm (lit< tt) (lit< tt) h
word_small (Slli rd rs1 shamt) h = small_shift 0x13 1 0x00 rd rs1 shamt (lit< tt) (lit< tt) (lit< tt) h
word_small (Srli rd rs1 shamt) h = small_shift 0x13 5 0x00 rd rs1 shamt (lit< tt) (lit< tt) (lit< tt) h
word_small (Srai rd rs1 shamt) h = small_shift 0x13 5 0x10 rd rs1 shamt (lit< tt) (lit< tt) (lit< tt) h
word_small (Add rd rs1 rs2) h = small_r 0x33 0 0x00 rd rs1 rs2 (lit< tt) (lit< tt) (lit< tt) h
word_small (Sub rd rs1 rs2) h = small_r 0x33 0 0x20 rd rs1 rs2 (lit< tt) (lit< tt) (lit< tt) h
word_small (Sll rd rs1 rs2) h = small_r 0x33 1 0x00 rd rs1 rs2 (lit< tt) (lit< tt) (lit< tt) h
word_small (Slt rd rs1 rs2) h = small_r 0x33 2 0x00 rd rs1 rs2 (lit< tt) (lit< tt) (lit< tt) h
word_small (Sltu rd rs1 rs2) h = small_r 0x33 3 0x00 rd rs1 rs2 (lit< tt) (lit< tt) (lit< tt) h
word_small (Xor rd rs1 rs2) h = small_r 0x33 4 0x00 rd rs1 rs2 (lit< tt) (lit< tt) (lit< tt) h
word_small (Srl rd rs1 rs2) h = small_r 0x33 5 0x00 rd rs1 rs2 (lit< tt) (lit< tt) (lit< tt) h
word_small (Sra rd rs1 rs2) h = small_r 0x33 5 0x20 rd rs1 rs2 (lit< tt) (lit< tt) (lit< tt) h
word_small (Or rd rs1 rs2) h = small_r 0x33 6 0x00 rd rs1 rs2 (lit< tt) (lit< tt) (lit< tt) h
word_small (And rd rs1 rs2) h = small_r 0x33 7 0x00 rd rs1 rs2 (lit< tt) (lit< tt) (lit< tt) h
word_small (Addiw rd rs1 imm) h = small_i 0x1b 0 rd rs1 imm (lit< tt) (lit< tt) h
word_small (Slliw rd rs1 shamt) h = small_r 0x1b 1 0x00 rd rs1 shamt (lit< tt) (lit< tt) (lit< tt) h
word_small (Srliw rd rs1 shamt) h = small_r 0x1b 5 0x00 rd rs1 shamt (lit< tt) (lit< tt) (lit< tt) h
word_small (Sraiw rd rs1 shamt) h = small_r 0x1b 5 0x20 rd rs1 shamt (lit< tt) (lit< tt) (lit< tt) h
word_small (Addw rd rs1 rs2) h = small_r 0x3b 0 0x00 rd rs1 rs2 (lit< tt) (lit< tt) (lit< tt) h
word_small (Subw rd rs1 rs2) h = small_r 0x3b 0 0x20 rd rs1 rs2 (lit< tt) (lit< tt) (lit< tt) h
word_small (Sllw rd rs1 rs2) h = small_r 0x3b 1 0x00 rd rs1 rs2 (lit< tt) (lit< tt) (lit< tt) h
word_small (Srlw rd rs1 rs2) h = small_r 0x3b 5 0x00 rd rs1 rs2 (lit< tt) (lit< tt) (lit< tt) h
word_small (Sraw rd rs1 rs2) h = small_r 0x3b 5 0x20 rd rs1 rs2 (lit< tt) (lit< tt) (lit< tt) h
word_small (Fence rd rs1 imm) h = small_i 0x0f 0 rd rs1 imm (lit< tt) (lit< tt) h
word_small Ecall h = lit< tt
word_small Ebreak h = lit< tt
word_small (Mul rd rs1 rs2) h = small_r 0x33 0 0x01 rd rs1 rs2 (lit< tt) (lit< tt) (lit< tt) h
word_small (Mulh rd rs1 rs2) h = small_r 0x33 1 0x01 rd rs1 rs2 (lit< tt) (lit< tt) (lit< tt) h
word_small (Mulhsu rd rs1 rs2) h = small_r 0x33 2 0x01 rd rs1 rs2 (lit< tt) (lit< tt) (lit< tt) h
word_small (Mulhu rd rs1 rs2) h = small_r 0x33 3 0x01 rd rs1 rs2 (lit< tt) (lit< tt) (lit< tt) h
word_small (Div rd rs1 rs2) h = small_r 0x33 4 0x01 rd rs1 rs2 (lit< tt) (lit< tt) (lit< tt) h
word_small (Divu rd rs1 rs2) h = small_r 0x33 5 0x01 rd rs1 rs2 (lit< tt) (lit< tt) (lit< tt) h
word_small (Rem rd rs1 rs2) h = small_r 0x33 6 0x01 rd rs1 rs2 (lit< tt) (lit< tt) (lit< tt) h
word_small (Remu rd rs1 rs2) h = small_r 0x33 7 0x01 rd rs1 rs2 (lit< tt) (lit< tt) (lit< tt) h
word_small (Mulw rd rs1 rs2) h = small_r 0x3b 0 0x01 rd rs1 rs2 (lit< tt) (lit< tt) (lit< tt) h
word_small (Divw rd rs1 rs2) h = small_r 0x3b 4 0x01 rd rs1 rs2 (lit< tt) (lit< tt) (lit< tt) h
word_small (Divuw rd rs1 rs2) h = small_r 0x3b 5 0x01 rd rs1 rs2 (lit< tt) (lit< tt) (lit< tt) h
word_small (Remw rd rs1 rs2) h = small_r 0x3b 6 0x01 rd rs1 rs2 (lit< tt) (lit< tt) (lit< tt) h
word_small (Remuw rd rs1 rs2) h = small_r 0x3b 7 0x01 rd rs1 rs2 (lit< tt) (lit< tt) (lit< tt) h

pub words_have_bits : WordsHaveBits
words_have_bits places here x h = word_small (placed places here x) (placed_fits places here x h)
