-- Bytes that may not be written stay what they were, and numbers are read of them.
use Rattle.std.proofs.Common.{◌≡◌, ◌∙◌, refl, sym, ap, arith, ℕ, ◌+◌, ◌-◌, ◌%◌, ◌^◌, ◌<◌, ◌==◌, ◌&&◌, nat_le, nat_lt, Bool, true, false, cond, List, [], ◌∷◌, ◌++◌, map, drop, length, length-drop, replicate, Option, Some, None, if◌then◌else◌}
use Rattle.std.specs.Prelude.{slice_index, option_map, option_and_then}
use Rattle.std.specs.Int.{w64, to_le_bytes}
use Rattle.std.proofs.lemmas.Bool.{and_left, lt-leb}
use Rattle.std.proofs.lemmas.Bool.Decides.{nat_tests}
use Rattle.std.proofs.lemmas.List.{length-replicate, drop-drop, get_or-drop}
use Rattle.eh_bytes.specs.Memory as read
use Rattle.rv64_isa.specs.State.{State, Part, Byte, covers, part_with, byte_at, bytes_at, value_of}
use Rattle.rv64_machine.specs.Initial.{zero_part, initial}
use Rattle.cxa_runtime.specs.Frozen.{frozen, without_bytes}
use Rattle.cxa_runtime.specs.Types.{word_at}
use Rattle.eh_run.specs.Program.{part_run}

-- ---- parts
abbrev zeroed : Part → Part
zeroed part = record part { bytes = replicate (length part.bytes) 0 }

covers_kept : (part : Part) (a : ℕ) (b : Bool) → covers (cond b (zeroed part) part) a ≡ covers part a
covers_kept part a true = ap (λ n. nat_le part.address a && nat_lt (a - part.address) n) (length-replicate {A = ℕ} (length part.bytes) 0)
covers_kept part a false = refl

write_kept : (part : Part) (b : Bool) → (cond b (zeroed part) part).write ≡ part.write
write_kept part true = refl
write_kept part false = refl

unwritten_same : (part : Part) → part.write ≡ false → without_bytes part ≡ part
unwritten_same part h = ap (λ (b : Bool). cond b (zeroed part) part) h

same_part : (x y : Part) → y.write ≡ false → without_bytes x ≡ without_bytes y → x ≡ y
same_part x y h e =
    let fixed : x.write ≡ false = sym (write_kept x x.write) ∙ ap (λ (p : Part). p.write) e ∙ write_kept y y.write ∙ h in
    sym (unwritten_same x fixed) ∙ e ∙ unwritten_same y h

part_frozen : (memory : List Part) (a : ℕ) → part_with (frozen memory) a ≡ option_map without_bytes (part_with memory a)
unfolding frozen
part_frozen [] a = refl
part_frozen (p ∷ ps) a = by (covers p a) refl (part_frozen ps a)
  where
    by : (b : Bool) → covers p a ≡ b → part_with (map without_bytes ps) a ≡ option_map without_bytes (part_with ps a) →
        (if covers (without_bytes p) a then Some (without_bytes p) else part_with (map without_bytes ps) a) ≡ option_map without_bytes (if covers p a then Some p else part_with ps a)
    by true e more =
        ap (λ b. if b then Some (without_bytes p) else part_with (map without_bytes ps) a) (covers_kept p a p.write ∙ e)
        ∙ ap (λ b. option_map without_bytes (if b then Some p else part_with ps a)) (sym e)
    by false e more =
        ap (λ b. if b then Some (without_bytes p) else part_with (map without_bytes ps) a) (covers_kept p a p.write ∙ e)
        ∙ (more ∙ ap (λ b. option_map without_bytes (if b then Some p else part_with ps a)) (sym e))

pub fixed_part : (old new : List Part) (a : ℕ) (p : Part) → frozen new ≡ frozen old → part_with old a ≡ Some p → p.write ≡ false → part_with new a ≡ Some p
fixed_part old new a p same found kept =
    by (part_with new a) (sym (part_frozen new a) ∙ (ap (λ m. part_with m a) same ∙ (part_frozen old a ∙ ap (option_map without_bytes) found)))
  where
    some_same : (x y : Part) → Some x ≡ Some y → x ≡ y
    some_same x y e = cc

    by : (o : Option Part) → option_map without_bytes o ≡ Some (without_bytes p) → o ≡ Some p
    by None e = absurd cc
    by (Some q) e = ap Some (same_part q p kept (some_same (without_bytes q) (without_bytes p) e))

-- ---- below the exception slots and the stack
below_zeros : (address size a : ℕ) → a < address → covers (zero_part address size) a ≡ false
unfolding zero_part
below_zeros address size a less = and_left (nat_le address a) (nat_lt (a - address) (length {A = ℕ} (replicate size 0))) (lt-leb address a less)

passed : (p : Part) (ps : List Part) (a : ℕ) → covers p a ≡ false → part_with (p ∷ ps) a ≡ part_with ps a
passed p ps a e = ap (λ b. if b then Some p else part_with ps a) e

run_part : (ps : read.Memory) (a : ℕ) (p : read.Part) → read.part_with ps a ≡ Some p → part_with (map part_run ps) a ≡ Some (part_run p)
run_part [] a p e = absurd cc
run_part (q ∷ qs) a p e = by (read.covers q a) e (run_part qs a p)
  where
    some_same : (x y : read.Part) → Some x ≡ Some y → x ≡ y
    some_same x y e = cc

    by : (b : Bool) → (if b then Some q else read.part_with qs a) ≡ Some p → (read.part_with qs a ≡ Some p → part_with (map part_run qs) a ≡ Some (part_run p)) →
        (if b then Some (part_run q) else part_with (map part_run qs) a) ≡ Some (part_run p)
    by true e more = ap (λ x. Some (part_run x)) (some_same q p e)
    by false e more = more e

pub low_part : (ps : read.Memory) (a : ℕ) (p : read.Part) → a < 0x6000_0000 → read.part_with ps a ≡ Some p → part_with (initial (map part_run ps)).memory a ≡ Some (part_run p)
low_part ps a p low e =
    let slots : Part = zero_part 0x6000_0000 0x40_0000 in
    let stack : Part = zero_part 0x7000_0000 0x100_0000 in
    passed slots (stack ∷ map part_run ps) a (below_zeros 0x6000_0000 0x40_0000 a low)
    ∙ (passed stack (map part_run ps) a (below_zeros 0x7000_0000 0x100_0000 a (omega (arith, low))) ∙ run_part ps a p e)

-- ---- numbers
-- a byte that may be neither written nor executed
abbrev pub constant_byte : ℕ → Byte
constant_byte value = record { value = value; write = false; exec = false }

-- bytes from an address on
abbrev pub HoldsBytes : List Part → ℕ → List ℕ → Type 0
HoldsBytes memory first bytes = (n : ℕ) → n < length bytes → byte_at memory (first + n) ≡ Some (constant_byte (slice_index bytes n))

bytes_read : (memory : List Part) (first n : ℕ) (bytes bs more : List ℕ) → HoldsBytes memory first bytes → drop n bytes ≡ bs ++ more →
    bytes_at memory (first + n) (length bs) ≡ Some (map constant_byte bs)
unfolding bytes_at
bytes_read memory first n bytes [] more holds here = refl
bytes_read memory first n bytes (b ∷ bs) more holds here =
    let inside : n < length bytes = omega (arith, ap length here, length-drop n bytes) in
    let place : n + 0 ≡ n = omega arith in
    let value : slice_index bytes n ≡ b = ap (slice_index bytes) (sym place) ∙ (sym (get_or-drop n bytes 0 0) ∙ ap (λ xs. slice_index xs 0) here) in
    let byte : byte_at memory (first + n) ≡ Some (constant_byte b) = holds n inside ∙ ap (λ v. Some (constant_byte v)) value in
    let next : first + (n + 1) ≡ first + n + 1 = omega arith in
    let behind : drop (n + 1) bytes ≡ bs ++ more = sym (drop-drop 1 n bytes) ∙ ap (drop 1) here in
    let rest : bytes_at memory (first + n + 1) (length bs) ≡ Some (map constant_byte bs)
    = ap (λ a. bytes_at memory a (length bs)) (sym next) ∙ bytes_read memory first (n + 1) bytes bs more holds behind in
    ap (λ o. option_and_then (λ x. option_map (λ xs. x ∷ xs) (bytes_at memory (first + n + 1) (length bs))) o) byte
    ∙ ap (option_map (λ xs. constant_byte b ∷ xs)) rest

low_word : (w : ℕ) → w < 2 ^ 32 → value_of (map constant_byte (to_le_bytes w64 w)) ≡ w
unfolding value_of
low_word w small = omega (arith, small)

loaded : (s : State) (a : ℕ) (bytes : List Byte) → a % 8 ≡ 0 → bytes_at s.memory a 8 ≡ Some bytes → word_at s a ≡ Some (value_of bytes)
loaded s a bytes aligned there =
    let test : (a % 8 == 0) ≡ true = grind (arith, nat_tests, aligned) in
    rw test (rw there refl)

-- a word among the bytes
pub word_there : (s : State) (first n w : ℕ) (bytes more : List ℕ) → HoldsBytes s.memory first bytes → (first + n) % 8 ≡ 0 → drop n bytes ≡ to_le_bytes w64 w ++ more →
    word_at s (first + n) ≡ Some (value_of (map constant_byte (to_le_bytes w64 w)))
word_there s first n w bytes more holds aligned here =
    loaded s (first + n) (map constant_byte (to_le_bytes w64 w)) aligned (bytes_read s.memory first n bytes (to_le_bytes w64 w) more holds here)

pub word_is : (s : State) (first n w : ℕ) (bytes more : List ℕ) → HoldsBytes s.memory first bytes → (first + n) % 8 ≡ 0 → w < 2 ^ 32 → drop n bytes ≡ to_le_bytes w64 w ++ more → word_at s (first + n) ≡ Some w
word_is s first n w bytes more holds aligned small here = word_there s first n w bytes more holds aligned here ∙ ap Some (low_word w small)
