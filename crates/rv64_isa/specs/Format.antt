-- The formats of instructions (RISC-V unprivileged ISA, volume I, "Base Instruction Formats" and "Immediate Encoding Variants").
use Rattle.std.specs.Prelude.{ℕ, ◌≡◌, ◌+◌, ◌*◌, ◌/◌, ◌%◌, ◌^◌, ◌<◌}

-- an immediate of B or J is bits 1 and up of a distance, whose bit 0 is 0
pub data Format : Type 0 where
  R : (opcode funct3 funct7 rd rs1 rs2 : ℕ) → Format
  Shift : (opcode funct3 funct6 rd rs1 shamt : ℕ) → Format
  I : (opcode funct3 rd rs1 imm : ℕ) → Format
  S : (opcode funct3 rs1 rs2 imm : ℕ) → Format
  B : (opcode funct3 rs1 rs2 offset : ℕ) → Format
  U : (opcode rd imm : ℕ) → Format
  J : (opcode rd offset : ℕ) → Format

-- the word: each field at its lowest bit
abbrev pub encoded : Format → ℕ
encoded (R opcode funct3 funct7 rd rs1 rs2) = opcode + 2 ^ 7 * rd + 2 ^ 12 * funct3 + 2 ^ 15 * rs1 + 2 ^ 20 * rs2 + 2 ^ 25 * funct7
encoded (Shift opcode funct3 funct6 rd rs1 shamt) = opcode + 2 ^ 7 * rd + 2 ^ 12 * funct3 + 2 ^ 15 * rs1 + 2 ^ 20 * shamt + 2 ^ 26 * funct6
encoded (I opcode funct3 rd rs1 imm) = opcode + 2 ^ 7 * rd + 2 ^ 12 * funct3 + 2 ^ 15 * rs1 + 2 ^ 20 * imm
encoded (S opcode funct3 rs1 rs2 imm) = opcode + 2 ^ 7 * (imm % 2 ^ 5) + 2 ^ 12 * funct3 + 2 ^ 15 * rs1 + 2 ^ 20 * rs2 + 2 ^ 25 * (imm / 2 ^ 5)
encoded (B opcode funct3 rs1 rs2 offset) =
    opcode + 2 ^ 7 * (offset / 2 ^ 10 % 2) + 2 ^ 8 * (offset % 2 ^ 4) + 2 ^ 12 * funct3 + 2 ^ 15 * rs1 + 2 ^ 20 * rs2 + 2 ^ 25 * (offset / 2 ^ 4 % 2 ^ 6) + 2 ^ 31 * (offset / 2 ^ 11)
encoded (U opcode rd imm) = opcode + 2 ^ 7 * rd + 2 ^ 12 * imm
encoded (J opcode rd offset) =
    opcode + 2 ^ 7 * rd + 2 ^ 12 * (offset / 2 ^ 11 % 2 ^ 8) + 2 ^ 20 * (offset / 2 ^ 10 % 2) + 2 ^ 21 * (offset % 2 ^ 10) + 2 ^ 31 * (offset / 2 ^ 19)

-- the registers and the immediate have as many bits as their places
abbrev pub IsInRange : Format → Type 0
IsInRange (R opcode funct3 funct7 rd rs1 rs2) = (rd < 32) × (rs1 < 32) × (rs2 < 32)
IsInRange (Shift opcode funct3 funct6 rd rs1 shamt) = (rd < 32) × (rs1 < 32) × (shamt < 64)
IsInRange (I opcode funct3 rd rs1 imm) = (rd < 32) × (rs1 < 32) × (imm < 2 ^ 12)
IsInRange (S opcode funct3 rs1 rs2 imm) = (rs1 < 32) × (rs2 < 32) × (imm < 2 ^ 12)
IsInRange (B opcode funct3 rs1 rs2 offset) = (rs1 < 32) × (rs2 < 32) × (offset < 2 ^ 12)
IsInRange (U opcode rd imm) = (rd < 32) × (imm < 2 ^ 20)
IsInRange (J opcode rd offset) = (rd < 32) × (offset < 2 ^ 20)

-- the format has the word, and its fields are in range
abbrev pub HasWord : Format → ℕ → Type 0
HasWord f word = (encoded f ≡ word) × IsInRange f

-- the fields of a word, read in every format
pub record Fields : Type 0 where
  pub word : ℕ
  pub opcode : ℕ
  pub funct3 : ℕ
  pub funct6 : ℕ
  pub funct7 : ℕ
  pub rd : ℕ
  pub rs1 : ℕ
  pub rs2 : ℕ
  pub shamt : ℕ
  pub imm_i : ℕ
  pub imm_s : ℕ
  pub offset_b : ℕ
  pub imm_u : ℕ
  pub offset_j : ℕ

abbrev pub fields_of : ℕ → Fields
fields_of w = record {
  word = w;
  opcode = w % 2 ^ 7;
  funct3 = w / 2 ^ 12 % 2 ^ 3;
  funct6 = w / 2 ^ 26;
  funct7 = w / 2 ^ 25;
  rd = w / 2 ^ 7 % 2 ^ 5;
  rs1 = w / 2 ^ 15 % 2 ^ 5;
  rs2 = w / 2 ^ 20 % 2 ^ 5;
  shamt = w / 2 ^ 20 % 2 ^ 6;
  imm_i = w / 2 ^ 20;
  imm_s = w / 2 ^ 7 % 2 ^ 5 + 2 ^ 5 * (w / 2 ^ 25);
  offset_b = w / 2 ^ 8 % 2 ^ 4 + 2 ^ 4 * (w / 2 ^ 25 % 2 ^ 6) + 2 ^ 10 * (w / 2 ^ 7 % 2) + 2 ^ 11 * (w / 2 ^ 31);
  imm_u = w / 2 ^ 12;
  offset_j = w / 2 ^ 21 % 2 ^ 10 + 2 ^ 10 * (w / 2 ^ 20 % 2) + 2 ^ 11 * (w / 2 ^ 12 % 2 ^ 8) + 2 ^ 19 * (w / 2 ^ 31);
}
