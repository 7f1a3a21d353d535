-- Call frame instructions depend only on the bytes up to their stop.
use Rattle.std.proofs.Common.{◌≡◌, ◌+◌, ◌*◌, ◌/◌, ◌%◌, ◌≤◌, ◌==◌, ℕ, ℤ, pos, zero, suc, Bool, true, false, nat_lt, Result, Ok, Err, refl, ap, ◌∙◌, arith}
use Rattle.std.specs.Prelude.{◌*ℤ◌, ◌||◌, List, Option, Some, None}
use Rattle.std.specs.Int.{Width, w8, w16, w32}
use Rattle.eh_bytes.specs.Memory.{Part}
use Rattle.eh_bytes.specs.Field.{byte, fixed}
use Rattle.eh_bytes.specs.Leb128.{uleb, sleb, is_i64}
use Rattle.eh_bytes.specs.Encoded.{encoded}
use Rattle.table_forms.specs.declared.found.Rule.TheVariants as rules
use Rattle.table_forms.specs.declared.reason.Reason.{Reason}
use Rattle.table_forms.specs.declared.reason.Reason.TheVariants.{LebRange, UnknownInstruction, Expression, RegisterRange}
use Rattle.table_forms.specs.Fault.{Fault}
use Rattle.table_forms.specs.Instruction.{Instruction, nop, go_to, advance, set_cfa, set_cfa_register, set_cfa_offset, set_rule, restore, remember_state, restore_state, Coding, register_at, unsigned_offset, signed_offset, alone, advances, goes_to, of_register, of_offset, of_both, of_registers, of_size, refused, extended, operands, instruction_at}
use Rattle.table_forms.specs.Instructions.{states_after, and_instructions, instructions_after, instructions_from, instructions_within, instructions_at}
use Rattle.lsda_pack.proofs.HeadFrame.{with_bytes}
use Rattle.lsda_pack.proofs.Alike.{Alike, Reader, Local, field_local, then_local, given_local, checked_local, choice_local}

register_local : Local register_at
unfolding register_at
register_local = then_local (field_local (λ a. uleb)) (λ p n. checked_local n (nat_lt n 64) RegisterRange p)

unsigned_local : (factor : ℤ) → Local (unsigned_offset factor)
unfolding unsigned_offset
unsigned_local factor =
    then_local (field_local (λ a. uleb)) (λ p n. checked_local (pos n *ℤ factor) (is_i64 (pos n *ℤ factor)) LebRange p)

signed_local : (factor : ℤ) → Local (signed_offset factor)
unfolding signed_offset
signed_local factor =
    then_local (field_local (λ a. sleb)) (λ p n. checked_local (n *ℤ factor) (is_i64 (n *ℤ factor)) LebRange p)

alone_local : (i : Instruction) → Local (alone i)
alone_local i = given_local i

advances_local : (w : Width) (c : Coding) → Local (advances w c)
advances_local w c = then_local (field_local (λ a. fixed w)) (λ p n. given_local (advance (n * c.code_factor)))

goes_local : (c : Coding) → Local (goes_to c)
goes_local c =
    then_local (field_local (λ a. encoded c.encoding a)) (λ p n. given_local (go_to n.value))

register_made : (make : ℕ → Instruction) → Local (of_register make)
register_made make = then_local register_local (λ p r. given_local (make r))

offset_made : (make : ℤ → Instruction) (offset : Reader ℤ) → Local offset → Local (of_offset make offset)
offset_made make offset known = then_local known (λ p n. given_local (make n))

both_made : (make : ℕ → ℤ → Instruction) (offset : Reader ℤ) → Local offset → Local (of_both make offset)
both_made make offset known =
    then_local register_local (λ p r. then_local known (λ p' n. given_local (make r n)))

registers_made : Local of_registers
registers_made =
    then_local register_local
    (λ p r. then_local register_local (λ p' n. given_local (set_rule r (rules.Register n))))

size_made : Local of_size
size_made = then_local (field_local (λ a. uleb)) (λ p n. given_local nop)

refused_local : (reason : Reason) (opcode_at : ℕ) → Local (refused reason opcode_at)
refused_local reason opcode_at = record {
  same = λ part ys from end s p alike low high. refl;
  forward = λ part s p a read. absurd cc;
}

extended_local : (c : Coding) (opcode opcode_at : ℕ) → Local (extended c opcode opcode_at)
unfolding extended
extended_local c opcode opcode_at =
    choice_local (opcode == 0x00) (alone_local nop)
    (choice_local (opcode == 0x01) (goes_local c)
    (choice_local (opcode == 0x02) (advances_local w8 c)
    (choice_local (opcode == 0x03) (advances_local w16 c)
    (choice_local (opcode == 0x04) (advances_local w32 c)
    (choice_local (opcode == 0x05) (both_made (λ r n. set_rule r (rules.Offset n)) (unsigned_offset c.data_factor) (unsigned_local c.data_factor))
    (choice_local (opcode == 0x06) (register_made restore)
    (choice_local (opcode == 0x07) (register_made (λ r. set_rule r rules.Undefined))
    (choice_local (opcode == 0x08) (register_made (λ r. set_rule r rules.Same))
    (choice_local (opcode == 0x09) registers_made
    (choice_local (opcode == 0x0a) (alone_local remember_state)
    (choice_local (opcode == 0x0b) (alone_local restore_state)
    (choice_local (opcode == 0x0c) (both_made set_cfa (unsigned_offset (pos 1)) (unsigned_local (pos 1)))
    (choice_local (opcode == 0x0d) (register_made set_cfa_register)
    (choice_local (opcode == 0x0e) (offset_made set_cfa_offset (unsigned_offset (pos 1)) (unsigned_local (pos 1)))
    (choice_local (opcode == 0x11) (both_made (λ r n. set_rule r (rules.Offset n)) (signed_offset c.data_factor) (signed_local c.data_factor))
    (choice_local (opcode == 0x12) (both_made set_cfa (signed_offset c.data_factor) (signed_local c.data_factor))
    (choice_local (opcode == 0x13) (offset_made set_cfa_offset (signed_offset c.data_factor) (signed_local c.data_factor))
    (choice_local (opcode == 0x14) (both_made (λ r n. set_rule r (rules.ValOffset n)) (unsigned_offset c.data_factor) (unsigned_local c.data_factor))
    (choice_local (opcode == 0x15) (both_made (λ r n. set_rule r (rules.ValOffset n)) (signed_offset c.data_factor) (signed_local c.data_factor))
    (choice_local (opcode == 0x2e) size_made
    (choice_local (opcode == 0x0f || opcode == 0x10 || opcode == 0x16) (refused_local Expression opcode_at) (refused_local UnknownInstruction opcode_at))))))))))))))))))))))

operands_local : (c : Coding) (opcode opcode_at : ℕ) → Local (operands c opcode opcode_at)
unfolding operands
operands_local c opcode opcode_at =
    let low = opcode % 64 in
    let high = opcode / 64 in
    choice_local (high == 1) (alone_local (advance (low * c.code_factor)))
    (choice_local (high == 2) (offset_made (λ n. set_rule low (rules.Offset n)) (unsigned_offset c.data_factor) (unsigned_local c.data_factor))
    (choice_local (high == 3) (alone_local (restore low)) (extended_local c opcode opcode_at)))

pub instruction_local : (c : Coding) → Local (instruction_at c)
unfolding instruction_at
instruction_local c = then_local (field_local (λ a. byte)) (λ p opcode. operands_local c opcode p)

within_same : (n : ℕ) (c : Coding) (part : Part) (ys : List ℕ) (from end s p states : ℕ) → Alike from end part.bytes ys → from ≤ p → s ≤ end →
    instructions_within n c (with_bytes part ys) s p states ≡ instructions_within n c part s p states
unfolding instructions_within
within_same zero c part ys from end s p states alike low high = refl
within_same (suc n) c part ys from end s p states alike low high =
    ap (λ r. instructions_from (nat_lt p s) (part.file_at + p) states r (instructions_within n c other s)) ((instruction_local c).same part ys from end s p alike low high) ∙
    by_read (nat_lt p s) (instruction_at c part s p) refl (λ q m low'. within_same n c part ys from end s q m alike low' high)
  where
    other : Part
    other = with_bytes part ys

    Later : Type 0
    Later = (q m : ℕ) → from ≤ q → instructions_within n c other s q m ≡ instructions_within n c part s q m

    by_states : (i : Instruction) (next : ℕ) (o : Option ℕ) → from ≤ next → Later →
        instructions_after (part.file_at + p) i o (instructions_within n c other s next) ≡ instructions_after (part.file_at + p) i o (instructions_within n c part s next)
    by_states i next None low' later = refl
    by_states i next (Some m) low' later = ap (and_instructions i) (later next m low')

    by_read : (b : Bool) (r : Result (Instruction × ℕ) Fault) → instruction_at c part s p ≡ r → Later →
        instructions_from b (part.file_at + p) states r (instructions_within n c other s) ≡ instructions_from b (part.file_at + p) states r (instructions_within n c part s)
    by_read false r is later = refl
    by_read true (Err f) is later = refl
    by_read true (Ok (i, next)) is later =
        let more = (instruction_local c).forward part s p (i, next) is in
        by_states i next (states_after i states) (omega (arith, low, more)) later

pub instructions_same : (c : Coding) (part : Part) (ys : List ℕ) (from end s p states : ℕ) → Alike from end part.bytes ys → from ≤ p → s ≤ end →
    instructions_at c (with_bytes part ys) s p states ≡ instructions_at c part s p states
instructions_same c part ys from end s p states alike low high = within_same s c part ys from end s p states alike low high
