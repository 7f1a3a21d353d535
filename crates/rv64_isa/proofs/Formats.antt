-- For each format: what is read from its word, and that its word has what is read.
use Rattle.std.proofs.Common.{ℕ, ◌≡◌, ◌<◌, ◌^◌, Option, refl, arith}
use Rattle.rv64_isa.specs.declared.instr.Instr.{Instr}
use Rattle.rv64_isa.specs.Format.{R, Shift, I, S, B, U, J, encoded, IsInRange, HasWord, fields_of}
use Rattle.rv64_isa.specs.Decoding.{named, decoded}

-- the instruction of fields that are given one by one
unfoldable pub named_with : (word opcode funct3 funct6 funct7 rd rs1 rs2 shamt imm_i imm_s offset_b imm_u offset_j : ℕ) → Option Instr
named_with word opcode funct3 funct6 funct7 rd rs1 rs2 shamt imm_i imm_s offset_b imm_u offset_j = named (record {
  word = word;
  opcode = opcode;
  funct3 = funct3;
  funct6 = funct6;
  funct7 = funct7;
  rd = rd;
  rs1 = rs1;
  rs2 = rs2;
  shamt = shamt;
  imm_i = imm_i;
  imm_s = imm_s;
  offset_b = offset_b;
  imm_u = imm_u;
  offset_j = offset_j;
})

decoded_with : (w : ℕ) → let f = fields_of w in decoded w ≡ named_with w f.opcode f.funct3 f.funct6 f.funct7 f.rd f.rs1 f.rs2 f.shamt f.imm_i f.imm_s f.offset_b f.imm_u f.offset_j
unfolding named_with
decoded_with w = refl

-- ---- what is read from the word of a format

pub decoded_r : (op f3 f7 rd rs1 rs2 : ℕ) → op < 128 → f3 < 8 → f7 < 128 → IsInRange (R op f3 f7 rd rs1 rs2) →
    let w = encoded (R op f3 f7 rd rs1 rs2) in let f = fields_of w in decoded w ≡ named_with w op f3 f.funct6 f7 rd rs1 rs2 f.shamt f.imm_i f.imm_s f.offset_b f.imm_u f.offset_j
decoded_r op f3 f7 rd rs1 rs2 a b c (x, y, z) =
    let w = encoded (R op f3 f7 rd rs1 rs2) in
    let e0 : (fields_of w).opcode ≡ op = omega arith in
    let e1 : (fields_of w).funct3 ≡ f3 = omega arith in
    let e2 : (fields_of w).funct7 ≡ f7 = omega arith in
    let e3 : (fields_of w).rd ≡ rd = omega arith in
    let e4 : (fields_of w).rs1 ≡ rs1 = omega arith in
    let e5 : (fields_of w).rs2 ≡ rs2 = omega arith in
    cc (decoded_with w)

pub decoded_shift : (op f3 f6 rd rs1 shamt : ℕ) → op < 128 → f3 < 8 → f6 < 64 → IsInRange (Shift op f3 f6 rd rs1 shamt) →
    let w = encoded (Shift op f3 f6 rd rs1 shamt) in let f = fields_of w in decoded w ≡ named_with w op f3 f6 f.funct7 rd rs1 f.rs2 shamt f.imm_i f.imm_s f.offset_b f.imm_u f.offset_j
decoded_shift op f3 f6 rd rs1 shamt a b c (x, y, z) =
    let w = encoded (Shift op f3 f6 rd rs1 shamt) in
    let e0 : (fields_of w).opcode ≡ op = omega arith in
    let e1 : (fields_of w).funct3 ≡ f3 = omega arith in
    let e2 : (fields_of w).funct6 ≡ f6 = omega arith in
    let e3 : (fields_of w).rd ≡ rd = omega arith in
    let e4 : (fields_of w).rs1 ≡ rs1 = omega arith in
    let e5 : (fields_of w).shamt ≡ shamt = omega arith in
    cc (decoded_with w)

pub decoded_i : (op f3 rd rs1 imm : ℕ) → op < 128 → f3 < 8 → IsInRange (I op f3 rd rs1 imm) →
    let w = encoded (I op f3 rd rs1 imm) in let f = fields_of w in decoded w ≡ named_with w op f3 f.funct6 f.funct7 rd rs1 f.rs2 f.shamt imm f.imm_s f.offset_b f.imm_u f.offset_j
decoded_i op f3 rd rs1 imm a b (x, y, z) =
    let w = encoded (I op f3 rd rs1 imm) in
    let e0 : (fields_of w).opcode ≡ op = omega arith in
    let e1 : (fields_of w).funct3 ≡ f3 = omega arith in
    let e2 : (fields_of w).rd ≡ rd = omega arith in
    let e3 : (fields_of w).rs1 ≡ rs1 = omega arith in
    let e4 : (fields_of w).imm_i ≡ imm = omega arith in
    cc (decoded_with w)

pub decoded_s : (op f3 rs1 rs2 imm : ℕ) → op < 128 → f3 < 8 → IsInRange (S op f3 rs1 rs2 imm) →
    let w = encoded (S op f3 rs1 rs2 imm) in let f = fields_of w in decoded w ≡ named_with w op f3 f.funct6 f.funct7 f.rd rs1 rs2 f.shamt f.imm_i imm f.offset_b f.imm_u f.offset_j
decoded_s op f3 rs1 rs2 imm a b (x, y, z) =
    let w = encoded (S op f3 rs1 rs2 imm) in
    let e0 : (fields_of w).opcode ≡ op = omega arith in
    let e1 : (fields_of w).funct3 ≡ f3 = omega arith in
    let e2 : (fields_of w).rs1 ≡ rs1 = omega arith in
    let e3 : (fields_of w).rs2 ≡ rs2 = omega arith in
    let e4 : (fields_of w).imm_s ≡ imm = omega arith in
    cc (decoded_with w)

pub decoded_b : (op f3 rs1 rs2 offset : ℕ) → op < 128 → f3 < 8 → IsInRange (B op f3 rs1 rs2 offset) →
    let w = encoded (B op f3 rs1 rs2 offset) in let f = fields_of w in decoded w ≡ named_with w op f3 f.funct6 f.funct7 f.rd rs1 rs2 f.shamt f.imm_i f.imm_s offset f.imm_u f.offset_j
decoded_b op f3 rs1 rs2 offset a b (x, y, z) =
    let w = encoded (B op f3 rs1 rs2 offset) in
    let e0 : (fields_of w).opcode ≡ op = omega arith in
    let e1 : (fields_of w).funct3 ≡ f3 = omega arith in
    let e2 : (fields_of w).rs1 ≡ rs1 = omega arith in
    let e3 : (fields_of w).rs2 ≡ rs2 = omega arith in
    let e4 : (fields_of w).offset_b ≡ offset = omega arith in
    cc (decoded_with w)

pub decoded_u : (op rd imm : ℕ) → op < 128 → IsInRange (U op rd imm) →
    let w = encoded (U op rd imm) in let f = fields_of w in decoded w ≡ named_with w op f.funct3 f.funct6 f.funct7 rd f.rs1 f.rs2 f.shamt f.imm_i f.imm_s f.offset_b imm f.offset_j
decoded_u op rd imm a (x, y) =
    let w = encoded (U op rd imm) in
    let e0 : (fields_of w).opcode ≡ op = omega arith in
    let e1 : (fields_of w).rd ≡ rd = omega arith in
    let e2 : (fields_of w).imm_u ≡ imm = omega arith in
    cc (decoded_with w)

pub decoded_j : (op rd offset : ℕ) → op < 128 → IsInRange (J op rd offset) →
    let w = encoded (J op rd offset) in let f = fields_of w in decoded w ≡ named_with w op f.funct3 f.funct6 f.funct7 rd f.rs1 f.rs2 f.shamt f.imm_i f.imm_s f.offset_b f.imm_u offset
decoded_j op rd offset a (x, y) =
    let w = encoded (J op rd offset) in
    let e0 : (fields_of w).opcode ≡ op = omega arith in
    let e1 : (fields_of w).rd ≡ rd = omega arith in
    let e2 : (fields_of w).offset_j ≡ offset = omega arith in
    cc (decoded_with w)

-- ---- that the word has what is read

pub has_r : (w : ℕ) → w < 2 ^ 32 → let f = fields_of w in HasWord (R f.opcode f.funct3 f.funct7 f.rd f.rs1 f.rs2) w
has_r w h = (omega arith, (omega arith, omega arith, omega arith))

pub has_shift : (w : ℕ) → w < 2 ^ 32 → let f = fields_of w in HasWord (Shift f.opcode f.funct3 f.funct6 f.rd f.rs1 f.shamt) w
has_shift w h = (omega arith, (omega arith, omega arith, omega arith))

pub has_i : (w : ℕ) → w < 2 ^ 32 → let f = fields_of w in HasWord (I f.opcode f.funct3 f.rd f.rs1 f.imm_i) w
has_i w h = (omega arith, (omega arith, omega arith, omega arith))

pub has_s : (w : ℕ) → w < 2 ^ 32 → let f = fields_of w in HasWord (S f.opcode f.funct3 f.rs1 f.rs2 f.imm_s) w
has_s w h = (omega arith, (omega arith, omega arith, omega arith))

pub has_b : (w : ℕ) → w < 2 ^ 32 → let f = fields_of w in HasWord (B f.opcode f.funct3 f.rs1 f.rs2 f.offset_b) w
has_b w h = (omega arith, (omega arith, omega arith, omega arith))

pub has_u : (w : ℕ) → w < 2 ^ 32 → let f = fields_of w in HasWord (U f.opcode f.rd f.imm_u) w
has_u w h = (omega arith, (omega arith, omega arith))

pub has_j : (w : ℕ) → w < 2 ^ 32 → let f = fields_of w in HasWord (J f.opcode f.rd f.offset_j) w
has_j w h = (omega arith, (omega arith, omega arith))
