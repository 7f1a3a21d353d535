-- The memory that is read of an image holds the bytes of its parts, wherever they stand in the file.
use Rattle.std.proofs.Common.{◌≡◌, ◌<◌, ℕ, ◌+◌, ◌-◌, Bool, true, false, ◌||◌, ◌&&◌, List, [], ◌∷◌, ◌++◌, length, length-append, length-drop, map, drop, Some, refl, sym, ◌∙◌, ap, subst, arith, if◌then◌else◌}
use Rattle.std.specs.Prelude.{IsSomeAnd}
use Rattle.eh_bytes.specs.Memory.{Part, Memory, covers, part_with, is_code}
use Rattle.table_forms.specs.WrittenTable.{HasBytes}
use Rattle.elf_image.specs.Stands.{unplaced}

-- a segment that has an address, as it was written
pub record Read (memory : Memory) (a : ℕ) (written : Part) : Type 0 where
  pub part : Part
  pub found : part_with memory a ≡ Some part
  pub same : unplaced part ≡ written

some_same : (p q : Part) → Some p ≡ Some q → p ≡ q
some_same p q e = cc

pub read_part : (memory : Memory) (a : ℕ) (written : Part) → part_with (map unplaced memory) a ≡ Some written → Read memory a written
read_part [] a written is = absurd cc
read_part (p ∷ ps) a written is = by (covers p a) refl is (read_part ps a written)
  where
    by : (b : Bool) → covers p a ≡ b → (if b then Some (unplaced p) else part_with (map unplaced ps) a) ≡ Some written →
        (part_with (map unplaced ps) a ≡ Some written → Read ps a written) → Read (p ∷ ps) a written
    by true e is more = record { part = p; found = ap (λ b. if b then Some p else part_with ps a) e; same = some_same (unplaced p) written is }
    by false e is more =
        let later = more is in
        record { part = later.part; found = ap (λ b. if b then Some p else part_with ps a) e ∙ later.found; same = later.same }

-- where code is does not depend on the file
pub code_read : (memory : Memory) (a : ℕ) → is_code memory a ≡ is_code (map unplaced memory) a
code_read [] a = refl
code_read (p ∷ ps) a = ap (λ b. (p.exec && covers p a) || b) (code_read ps a)

-- bytes from an address on, all in segments that are alike: they begin there, have the bytes, and are not written
pub record IsHeld (first : ℕ) (bytes : List ℕ) (part : Part) : Type 0 where
  pub address : part.address ≡ first
  pub content : part.bytes ≡ bytes
  pub kept : part.write ≡ false

pub record Held (memory : Memory) (first : ℕ) (bytes : List ℕ) (a : ℕ) : Type 0 where
  pub part : Part
  pub found : part_with memory a ≡ Some part
  pub held : IsHeld first bytes part

abbrev pub Holds : Memory → ℕ → List ℕ → Type 0
Holds memory first bytes = (n : ℕ) → n < length bytes → Held memory first bytes (first + n)

-- the bytes at a place of them
pub has_bytes : (memory : Memory) (first n : ℕ) (bytes x rest : List ℕ) → Holds memory first bytes → 0 < length x → drop n bytes ≡ x ++ rest → HasBytes memory (first + n) x
has_bytes memory first n bytes x rest holds some here =
    let inside : n < length bytes = omega (arith, ap length here, length-drop n bytes, length-append x rest, some) in
    let at = holds n inside in
    let place : first + n - at.part.address ≡ n = omega (arith, at.held.address) in
    let there : drop (first + n - at.part.address) at.part.bytes ≡ x ++ rest
    = ap (λ k. drop k at.part.bytes) place ∙ (ap (drop n) at.held.content ∙ here) in
    subst (λ o. IsSomeAnd o (λ part. (rest : List ℕ) × (drop (first + n - part.address) part.bytes ≡ x ++ rest))) (sym at.found) (rest, there)
