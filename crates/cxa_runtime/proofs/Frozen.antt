-- A step of the machine leaves the memory that may not be written.
use Rattle.std.proofs.Common.{◌≡◌, ◌∙◌, refl, sym, ap, ℕ, zero, suc, ◌+◌, ◌-◌, ◌*◌, ◌/◌, ◌%◌, ◌^◌, ◌==◌, Bool, true, false, cond, List, [], ◌∷◌, length, map, replicate, Option, Some, None, option_map, option_and_then}
use Rattle.std.specs.Prelude.{⊤, slice_set, nat_le, nat_lt, ◌&&◌}
use Rattle.std.specs.List.{list_all}
use Rattle.std.proofs.lemmas.List.{length-set, length-replicate}
use Rattle.caught_stack.proofs.Bools.{and_true}
use Rattle.rv64_isa.specs.State.{State, Part, state, Byte, covers, part_with, byte_of, byte_at, bytes_at, with_byte, with_value}
use Rattle.rv64_isa.specs.declared.instr.Instr.{Instr}
use Rattle.rv64_isa.specs.declared.instr.Instr.TheVariants.{Lui, Auipc, Jal, Jalr, Beq, Bne, Blt, Bge, Bltu, Bgeu, Lb, Lh, Lw, Ld, Lbu, Lhu, Lwu, Sb, Sh, Sw, Sd, Addi, Slti, Sltiu, Xori, Ori, Andi, Slli, Srli, Srai, Add, Sub, Sll, Slt, Sltu, Xor, Srl, Sra, Or, And, Addiw, Slliw, Srliw, Sraiw, Addw, Subw, Sllw, Srlw, Sraw, Fence, Ecall, Ebreak, Mul, Mulh, Mulhsu, Mulhu, Div, Divu, Rem, Remu, Mulw, Divw, Divuw, Remw, Remuw}
use Rattle.rv64_isa.specs.declared.step.FaultKind.TheVariants.{ReadOnly}
use Rattle.rv64_isa.specs.declared.step.Step.TheVariants.{Done}
use Rattle.rv64_isa.specs.Arithmetic.{add, sign_extended}
use Rattle.rv64_isa.specs.Decoding.{decoded}
use Rattle.rv64_isa.specs.Step.{Stepped, fault, next, jumps, branches, loaded, loads, stored, stores, done, decoded_step, fetched, fetched_step, step_of}
use Rattle.cxa_runtime.specs.Frozen.{without_bytes, frozen}

-- whether the byte at an address may be written, where there is one
abbrev pub may_write : List Part → ℕ → Option Bool
may_write memory a = option_map (λ part. part.write) (part_with memory a)

-- a part that may be written keeps its place, its length and its rights
abbrev set_in : Part → ℕ → ℕ → Part
set_in part a value = record part { bytes = slice_set part.bytes (a - part.address) value }

same_frozen : (part : Part) (a value : ℕ) → part.write ≡ true → without_bytes (set_in part a value) ≡ without_bytes part
same_frozen part a value e =
    ap (λ t. cond t (record part { bytes = replicate (length (slice_set part.bytes (a - part.address) value)) 0 }) (set_in part a value)) e
    ∙ ap (λ n. record part { bytes = replicate n 0 }) (length-set part.bytes (a - part.address) value)
    ∙ sym (ap (λ t. cond t (record part { bytes = replicate (length part.bytes) 0 }) part) e)

-- by whether the first part has the byte
with_byte_in : (part : Part) (memory : List Part) (a value : ℕ) (b : Bool) → covers part a ≡ b →
    with_byte (part ∷ memory) a value ≡ cond b (set_in part a value ∷ memory) (part ∷ with_byte memory a value)
unfolding with_byte
with_byte_in part memory a value b h = ap (λ t. cond t (set_in part a value ∷ memory) (part ∷ with_byte memory a value)) h

may_write_in : (part : Part) (memory : List Part) (a : ℕ) (b : Bool) → covers part a ≡ b → may_write (part ∷ memory) a ≡ cond b (Some part.write) (may_write memory a)
may_write_in part memory a true h = ap (λ t. option_map (λ p. p.write) (cond t (Some part) (part_with memory a))) h
may_write_in part memory a false h = ap (λ t. option_map (λ p. p.write) (cond t (Some part) (part_with memory a))) h

abbrev IsByteFrozen : List Part → ℕ → ℕ → Type 0
IsByteFrozen memory a value = may_write memory a ≡ Some true → frozen (with_byte memory a value) ≡ frozen memory

byte_frozen_in : (part : Part) (memory : List Part) (a value : ℕ) (b : Bool) → covers part a ≡ b → IsByteFrozen memory a value → IsByteFrozen (part ∷ memory) a value
unfolding frozen
byte_frozen_in part memory a value true h others e =
    let here : Some part.write ≡ Some true = sym (may_write_in part memory a true h) ∙ e in
    ap frozen (with_byte_in part memory a value true h) ∙ ap (λ p. p ∷ map without_bytes memory) (same_frozen part a value (cc here))
byte_frozen_in part memory a value false h others e =
    ap frozen (with_byte_in part memory a value false h) ∙ ap (λ ps. without_bytes part ∷ ps) (others (sym (may_write_in part memory a false h) ∙ e))

byte_frozen : (memory : List Part) (a value : ℕ) → IsByteFrozen memory a value
unfolding with_byte
byte_frozen [] a value e = refl
byte_frozen (part ∷ memory) a value e = byte_frozen_in part memory a value (covers part a) refl (byte_frozen memory a value) e

-- what may be written can be told from what is frozen
covers_frozen : (part : Part) (a : ℕ) (b : Bool) → part.write ≡ b → covers (without_bytes part) a ≡ covers part a
covers_frozen part a true h = ap (λ t. covers (cond t (record part { bytes = replicate (length part.bytes) 0 }) part) a) h ∙ ap (λ n. nat_le part.address a && nat_lt (a - part.address) n) (length-replicate {A = ℕ} (length part.bytes) 0)
covers_frozen part a false h = ap (λ t. covers (cond t (record part { bytes = replicate (length part.bytes) 0 }) part) a) h

write_frozen : (part : Part) (b : Bool) → part.write ≡ b → (without_bytes part).write ≡ part.write
write_frozen part true h = ap (λ t. (cond t (record part { bytes = replicate (length part.bytes) 0 }) part).write) h
write_frozen part false h = ap (λ t. (cond t (record part { bytes = replicate (length part.bytes) 0 }) part).write) h

may_write_frozen_in : (part : Part) (memory : List Part) (a : ℕ) (b : Bool) → covers part a ≡ b → may_write (frozen memory) a ≡ may_write memory a → may_write (frozen (part ∷ memory)) a ≡ may_write (part ∷ memory) a
unfolding frozen
may_write_frozen_in part memory a true h others =
    may_write_in (without_bytes part) (map without_bytes memory) a true (covers_frozen part a part.write refl ∙ h)
    ∙ ap Some (write_frozen part part.write refl) ∙ sym (may_write_in part memory a true h)
may_write_frozen_in part memory a false h others =
    may_write_in (without_bytes part) (map without_bytes memory) a false (covers_frozen part a part.write refl ∙ h)
    ∙ others ∙ sym (may_write_in part memory a false h)

may_write_frozen : (memory : List Part) (a : ℕ) → may_write (frozen memory) a ≡ may_write memory a
unfolding frozen
may_write_frozen [] a = refl
may_write_frozen (part ∷ memory) a = may_write_frozen_in part memory a (covers part a) refl (may_write_frozen memory a)

-- so many bytes from an address on may be written
abbrev AllMayBeWritten : List Part → ℕ → ℕ → Type 0
AllMayBeWritten memory a zero = ⊤
AllMayBeWritten memory a (suc n) = (may_write memory a ≡ Some true) × AllMayBeWritten memory (a + 1) n

still_writable : (m t : List Part) (a n : ℕ) → frozen t ≡ frozen m → AllMayBeWritten m a n → AllMayBeWritten t a n
still_writable m t a zero same all = tt
still_writable m t a (suc n) same all =
    (sym (may_write_frozen t a) ∙ ap (λ f. may_write f a) same ∙ may_write_frozen m a ∙ all.0, still_writable m t (a + 1) n same all.1)

value_frozen : (memory : List Part) (a n value : ℕ) → AllMayBeWritten memory a n → frozen (with_value memory a n value) ≡ frozen memory
unfolding with_value
value_frozen memory a zero value all = refl
value_frozen memory a (suc n) value all =
    let first = byte_frozen memory a (value % 2 ^ 8) all.0 in
    value_frozen (with_byte memory a (value % 2 ^ 8)) (a + 1) n (value / 2 ^ 8) (still_writable memory (with_byte memory a (value % 2 ^ 8)) (a + 1) n first all.1) ∙ first

-- the bytes that an access finds
writes_of_byte : (memory : List Part) (a : ℕ) (b : Byte) → byte_at memory a ≡ Some b → may_write memory a ≡ Some b.write
writes_of_byte memory a b h = of (part_with memory a) refl
  where
    of : (o : Option Part) → part_with memory a ≡ o → may_write memory a ≡ Some b.write
    of None e = absurd (let none : None ≡ Some b = sym (ap (λ p. option_map (λ part. byte_of part a) p) e) ∙ h in cc none)
    of (Some part) e =
        let same : Some (byte_of part a) ≡ Some b = sym (ap (λ p. option_map (λ part. byte_of part a) p) e) ∙ h in
        ap (λ p. option_map (λ part. part.write) p) e ∙ (let equal : byte_of part a ≡ b = cc same in ap (λ (x : Byte). Some x.write) equal)

written_by : (memory : List Part) (a n : ℕ) (first : Option Byte) (others : Option (List Byte)) (bytes : List Byte) → byte_at memory a ≡ first →
    option_and_then (λ b. option_map (λ bs. b ∷ bs) others) first ≡ Some bytes → list_all (λ b. b.write) bytes ≡ true →
    ((bs : List Byte) → others ≡ Some bs → list_all (λ b. b.write) bs ≡ true → AllMayBeWritten memory (a + 1) n) → AllMayBeWritten memory a (suc n)
written_by memory a n None others bytes e h all rest = absurd (cc h)
written_by memory a n (Some b) None bytes e h all rest = absurd (cc h)
written_by memory a n (Some b) (Some bs) bytes e h all rest =
    let split : b ∷ bs ≡ bytes = cc h in
    let both : list_all (λ b. b.write) (b ∷ bs) ≡ true = ap (λ x. list_all (λ b. b.write) x) split ∙ all in
    let parts = and_true b.write (list_all (λ b. b.write) bs) both in
    (writes_of_byte memory a b e ∙ ap Some parts.0, rest bs refl parts.1)

all_written : (memory : List Part) (a n : ℕ) (bytes : List Byte) → bytes_at memory a n ≡ Some bytes → list_all (λ b. b.write) bytes ≡ true → AllMayBeWritten memory a n
unfolding bytes_at
all_written memory a zero bytes h all = tt
all_written memory a (suc n) bytes h all =
    written_by memory a n (byte_at memory a) (bytes_at memory (a + 1) n) bytes refl h all (λ bs e fits. all_written memory (a + 1) n bs e fits)

-- a state with the same frozen memory
abbrev Keeps : State → Stepped → Type 0
Keeps s after = frozen after.1.memory ≡ frozen s.memory

keeps_either : (s : State) (b : Bool) (x y : Stepped) → Keeps s x → Keeps s y → Keeps s (cond b x y)
keeps_either s true x y hx hy = hx
keeps_either s false x y hx hy = hy

keeps_jumps : (s : State) (rd target : ℕ) → Keeps s (jumps s rd target)
keeps_jumps s rd target = keeps_either s (target % 4 == 0) _ _ refl refl

keeps_branches : (s : State) (taken : Bool) (offset : ℕ) → Keeps s (branches s taken offset)
keeps_branches s taken offset = keeps_either s taken _ _ (keeps_either s (add s.pc (sign_extended 13 (2 * offset)) % 4 == 0) _ _ refl refl) refl

keeps_loaded : (o : Option (List Byte)) (s : State) (rd : ℕ) (extended : ℕ → ℕ) → Keeps s (loaded o s rd extended)
keeps_loaded None s rd extended = refl
keeps_loaded (Some bytes) s rd extended = refl

keeps_loads : (s : State) (size : ℕ) (extended : ℕ → ℕ) (rd a : ℕ) → Keeps s (loads s size extended rd a)
keeps_loads s size extended rd a = keeps_either s (a % size == 0) _ _ (keeps_loaded (bytes_at s.memory a size) s rd extended) refl

keeps_written : (s : State) (size a value : ℕ) (bytes : List Byte) → bytes_at s.memory a size ≡ Some bytes → (b : Bool) → list_all (λ x. x.write) bytes ≡ b →
    Keeps s (cond b (Done, state (next s) s.regs (with_value s.memory a size value)) (fault ReadOnly s))
keeps_written s size a value bytes h true all = value_frozen s.memory a size value (all_written s.memory a size bytes h all)
keeps_written s size a value bytes h false all = refl

keeps_stored : (s : State) (size a value : ℕ) (o : Option (List Byte)) → bytes_at s.memory a size ≡ o → Keeps s (stored o s size a value)
keeps_stored s size a value None h = refl
keeps_stored s size a value (Some bytes) h = keeps_written s size a value bytes h (list_all (λ x. x.write) bytes) refl

keeps_stores : (s : State) (size a value : ℕ) → Keeps s (stores s size a value)
keeps_stores s size a value = keeps_either s (a % size == 0) _ _ (keeps_stored s size a value (bytes_at s.memory a size) refl) refl

keeps_done : (instr : Instr) (s : State) → Keeps s (done instr s)
unfolding done
keeps_done (Lui rd imm) s = refl
keeps_done (Auipc rd imm) s = refl
keeps_done (Jal rd offset) s = keeps_jumps s _ _
keeps_done (Jalr rd rs1 imm) s = keeps_jumps s _ _
keeps_done (Beq rs1 rs2 offset) s = keeps_branches s _ _
keeps_done (Bne rs1 rs2 offset) s = keeps_branches s _ _
keeps_done (Blt rs1 rs2 offset) s = keeps_branches s _ _
keeps_done (Bge rs1 rs2 offset) s = keeps_branches s _ _
keeps_done (Bltu rs1 rs2 offset) s = keeps_branches s _ _
keeps_done (Bgeu rs1 rs2 offset) s = keeps_branches s _ _
keeps_done (Lb rd rs1 imm) s = keeps_loads s _ _ _ _
keeps_done (Lh rd rs1 imm) s = keeps_loads s _ _ _ _
keeps_done (Lw rd rs1 imm) s = keeps_loads s _ _ _ _
keeps_done (Ld rd rs1 imm) s = keeps_loads s _ _ _ _
keeps_done (Lbu rd rs1 imm) s = keeps_loads s _ _ _ _
keeps_done (Lhu rd rs1 imm) s = keeps_loads s _ _ _ _
keeps_done (Lwu rd rs1 imm) s = keeps_loads s _ _ _ _
keeps_done (Sb rs1 rs2 imm) s = keeps_stores s _ _ _
keeps_done (Sh rs1 rs2 imm) s = keeps_stores s _ _ _
keeps_done (Sw rs1 rs2 imm) s = keeps_stores s _ _ _
keeps_done (Sd rs1 rs2 imm) s = keeps_stores s _ _ _
keeps_done (Addi rd rs1 imm) s = refl
keeps_done (Slti rd rs1 imm) s = refl
keeps_done (Sltiu rd rs1 imm) s = refl
keeps_done (Xori rd rs1 imm) s = refl
keeps_done (Ori rd rs1 imm) s = refl
keeps_done (Andi rd rs1 imm) s = refl
keeps_done (Slli rd rs1 shamt) s = refl
keeps_done (Srli rd rs1 shamt) s = refl
keeps_done (Srai rd rs1 shamt) s = refl
keeps_done (Add rd rs1 rs2) s = refl
keeps_done (Sub rd rs1 rs2) s = refl
keeps_done (Sll rd rs1 rs2) s = refl
keeps_done (Slt rd rs1 rs2) s = refl
keeps_done (Sltu rd rs1 rs2) s = refl
keeps_done (Xor rd rs1 rs2) s = refl
keeps_done (Srl rd rs1 rs2) s = refl
keeps_done (Sra rd rs1 rs2) s = refl
keeps_done (Or rd rs1 rs2) s = refl
keeps_done (And rd rs1 rs2) s = refl
keeps_done (Addiw rd rs1 imm) s = refl
keeps_done (Slliw rd rs1 shamt) s = refl
keeps_done (Srliw rd rs1 shamt) s = refl
keeps_done (Sraiw rd rs1 shamt) s = refl
keeps_done (Addw rd rs1 rs2) s = refl
keeps_done (Subw rd rs1 rs2) s = refl
keeps_done (Sllw rd rs1 rs2) s = refl
keeps_done (Srlw rd rs1 rs2) s = refl
keeps_done (Sraw rd rs1 rs2) s = refl
keeps_done (Fence rd rs1 imm) s = refl
keeps_done Ecall s = refl
keeps_done Ebreak s = refl
keeps_done (Mul rd rs1 rs2) s = refl
keeps_done (Mulh rd rs1 rs2) s = refl
keeps_done (Mulhsu rd rs1 rs2) s = refl
keeps_done (Mulhu rd rs1 rs2) s = refl
keeps_done (Div rd rs1 rs2) s = refl
keeps_done (Divu rd rs1 rs2) s = refl
keeps_done (Rem rd rs1 rs2) s = refl
keeps_done (Remu rd rs1 rs2) s = refl
keeps_done (Mulw rd rs1 rs2) s = refl
keeps_done (Divw rd rs1 rs2) s = refl
keeps_done (Divuw rd rs1 rs2) s = refl
keeps_done (Remw rd rs1 rs2) s = refl
keeps_done (Remuw rd rs1 rs2) s = refl

keeps_decoded : (o : Option Instr) (s : State) → Keeps s (decoded_step o s)
keeps_decoded None s = refl
keeps_decoded (Some instr) s = keeps_done instr s

keeps_fetched : (o : Option ℕ) (s : State) → Keeps s (fetched_step o s)
keeps_fetched None s = refl
keeps_fetched (Some word) s = keeps_decoded (decoded word) s

pub step_keeps_frozen : (s : State) → frozen (step_of s).1.memory ≡ frozen s.memory
unfolding step_of
step_keeps_frozen s = keeps_either s (s.pc % 4 == 0) _ _ (keeps_fetched (fetched s.memory s.pc) s) refl
