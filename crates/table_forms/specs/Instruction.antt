-- Call frame instructions (DWARF 5, 6.4.2 and 7.24; GNU_args_size by LSB), as data with their factors applied.
use Rattle.std.specs.Prelude.{ℕ, ℤ, pos, ◌+◌, ◌*◌, ◌/◌, ◌%◌, ◌*ℤ◌, ◌==◌, ◌||◌, nat_lt, Result, Ok, Err, if◌then◌else◌}
use Rattle.std.specs.Int.{Width, w8, w16, w32}
use Rattle.eh_bytes.specs.Memory.{Part}
use Rattle.eh_bytes.specs.Field.{Field, byte, fixed}
use Rattle.eh_bytes.specs.Leb128.{uleb, sleb, is_i64}
use Rattle.eh_bytes.specs.Encoded.{encoded}
use Rattle.table_forms.specs.declared.found.Rule.{Rule}
use Rattle.table_forms.specs.declared.found.Rule.TheVariants as rules
use Rattle.table_forms.specs.declared.reason.Reason.{Reason}
use Rattle.table_forms.specs.declared.reason.Reason.TheVariants.{LebRange, UnknownInstruction, Expression, RegisterRange}
use Rattle.table_forms.specs.Fault.{Fault, fault, ◌>>=◌, demand, field_of, frame_reason}

pub data Instruction : Type 0 where
  nop : Instruction
  go_to : ℕ → Instruction
  advance : ℕ → Instruction
  set_cfa : ℕ → ℤ → Instruction
  set_cfa_register : ℕ → Instruction
  set_cfa_offset : ℤ → Instruction
  set_rule : ℕ → Rule → Instruction
  restore : ℕ → Instruction
  remember_state : Instruction
  restore_state : Instruction

-- what a CIE says of the instructions: the factors, and how locations are encoded
pub record Coding : Type 0 where
  pub code_factor : ℕ
  pub data_factor : ℤ
  pub encoding : ℕ

-- a field of a part of the frames, which ends at a stop
abbrev pub in_frames : {A : Type 0} → Field A → Part → ℕ → ℕ → Result (A × ℕ) Fault
in_frames field part stop p = field_of frame_reason field part stop p

-- a register is at most 63
unfoldable pub register_at : Part → ℕ → ℕ → Result (ℕ × ℕ) Fault
register_at part stop p = do
  n ← in_frames uleb part stop p
  known ← demand (nat_lt n.0 64) RegisterRange (part.file_at + p)
  Ok n

-- an offset with its factor. Refused at the operand, where it is outside i64
abbrev pub in_range : Part → ℕ → ℤ → ℕ → Result (ℤ × ℕ) Fault
in_range part p value next = do
  fits ← demand (is_i64 value) LebRange (part.file_at + p)
  Ok (value, next)

unfoldable pub unsigned_offset : ℤ → Part → ℕ → ℕ → Result (ℤ × ℕ) Fault
unsigned_offset factor part stop p = do
  n ← in_frames uleb part stop p
  in_range part p (pos n.0 *ℤ factor) n.1

unfoldable pub signed_offset : ℤ → Part → ℕ → ℕ → Result (ℤ × ℕ) Fault
signed_offset factor part stop p = do
  n ← in_frames sleb part stop p
  in_range part p (n.0 *ℤ factor) n.1

-- the operands behind the opcode
abbrev pub Operands : Type 0
Operands = Part → ℕ → ℕ → Result (Instruction × ℕ) Fault

abbrev pub alone : Instruction → Operands
alone i part stop p = Ok (i, p)

abbrev pub advances : Width → Coding → Operands
advances w c part stop p = do
  n ← in_frames (fixed w) part stop p
  Ok (advance (n.0 * c.code_factor), n.1)

abbrev pub goes_to : Coding → Operands
goes_to c part stop p = do
  n ← in_frames (encoded c.encoding (part.address + p)) part stop p
  Ok (go_to n.0.value, n.1)

abbrev pub of_register : (ℕ → Instruction) → Operands
of_register make part stop p = do
  r ← register_at part stop p
  Ok (make r.0, r.1)

-- an offset behind the register
abbrev pub of_offset : (ℤ → Instruction) → (Part → ℕ → ℕ → Result (ℤ × ℕ) Fault) → Operands
of_offset make offset part stop p = do
  n ← offset part stop p
  Ok (make n.0, n.1)

abbrev pub of_both : (ℕ → ℤ → Instruction) → (Part → ℕ → ℕ → Result (ℤ × ℕ) Fault) → Operands
of_both make offset part stop p = do
  r ← register_at part stop p
  n ← offset part stop r.1
  Ok (make r.0 n.0, n.1)

abbrev pub of_registers : Operands
of_registers part stop p = do
  r ← register_at part stop p
  q ← register_at part stop r.1
  Ok (set_rule r.0 (rules.Register q.0), q.1)

-- only its number is tested
abbrev pub of_size : Operands
of_size part stop p = do
  n ← in_frames uleb part stop p
  Ok (nop, n.1)

-- refused at the opcode
abbrev pub refused : Reason → ℕ → Operands
refused reason opcode_at part stop p = Err (fault reason (part.file_at + opcode_at))

-- DW_CFA_nop 00, set_loc 01, advance_loc1, 2 and 4 at 02 to 04, offset_extended 05, restore_extended 06, undefined 07, same_value 08,
-- register 09, remember_state 0a, restore_state 0b, def_cfa 0c, def_cfa_register 0d, def_cfa_offset 0e, offset_extended_sf 11,
-- def_cfa_sf 12, def_cfa_offset_sf 13, val_offset 14, val_offset_sf 15, GNU_args_size 2e; def_cfa_expression 0f, expression 10 and
-- val_expression 16 are refused (profile)
unfoldable pub extended : Coding → ℕ → ℕ → Operands
extended c opcode opcode_at =
    if opcode == 0x00 then alone nop
    else if opcode == 0x01 then goes_to c
    else if opcode == 0x02 then advances w8 c
    else if opcode == 0x03 then advances w16 c
    else if opcode == 0x04 then advances w32 c
    else if opcode == 0x05 then of_both (λ r n. set_rule r (rules.Offset n)) (unsigned_offset c.data_factor)
    else if opcode == 0x06 then of_register restore
    else if opcode == 0x07 then of_register (λ r. set_rule r rules.Undefined)
    else if opcode == 0x08 then of_register (λ r. set_rule r rules.Same)
    else if opcode == 0x09 then of_registers
    else if opcode == 0x0a then alone remember_state
    else if opcode == 0x0b then alone restore_state
    else if opcode == 0x0c then of_both set_cfa (unsigned_offset (pos 1))
    else if opcode == 0x0d then of_register set_cfa_register
    else if opcode == 0x0e then of_offset set_cfa_offset (unsigned_offset (pos 1))
    else if opcode == 0x11 then of_both (λ r n. set_rule r (rules.Offset n)) (signed_offset c.data_factor)
    else if opcode == 0x12 then of_both set_cfa (signed_offset c.data_factor)
    else if opcode == 0x13 then of_offset set_cfa_offset (signed_offset c.data_factor)
    else if opcode == 0x14 then of_both (λ r n. set_rule r (rules.ValOffset n)) (unsigned_offset c.data_factor)
    else if opcode == 0x15 then of_both (λ r n. set_rule r (rules.ValOffset n)) (signed_offset c.data_factor)
    else if opcode == 0x2e then of_size
    else if opcode == 0x0f || opcode == 0x10 || opcode == 0x16 then refused Expression opcode_at
    else refused UnknownInstruction opcode_at

-- the two high bits of an opcode may say all: advance_loc 1, offset 2, restore 3, with six bits of operand
unfoldable pub operands : Coding → ℕ → ℕ → Operands
operands c opcode opcode_at =
    let low = opcode % 64 in
    let high = opcode / 64 in
    if high == 1 then alone (advance (low * c.code_factor))
    else if high == 2 then of_offset (λ n. set_rule low (rules.Offset n)) (unsigned_offset c.data_factor)
    else if high == 3 then alone (restore low)
    else extended c opcode opcode_at

-- the instruction at a place, and the place behind it
unfoldable pub instruction_at : Coding → Part → ℕ → ℕ → Result (Instruction × ℕ) Fault
instruction_at c part stop p = do
  opcode ← in_frames byte part stop p
  operands c opcode.0 p part stop opcode.1
