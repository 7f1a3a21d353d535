-- The part of a memory that an address lies in.
use Rattle.std.proofs.Common.{◌≡◌, ◌-◌, ◌≤◌, ℕ, Bool, true, false, nat_le, nat_lt, [], ◌∷◌, length, refl, subst}
use Rattle.std.specs.Prelude.{Some, ◌&&◌, if◌then◌else◌}
use Rattle.std.proofs.lemmas.Bool.Decides.{nat_tests}
use native.Mathlib.Omega.{arith}
use Rattle.eh_bytes.specs.Memory.{Part, Memory, covers, part_with}

-- the part that is found has a byte at the address
pub found_covers : (memory : Memory) (address : ℕ) (part : Part) → part_with memory address ≡ Some part → part.address ≤ address
found_covers [] address part found = cc
found_covers (other ∷ memory) address part found = by_test (covers other address) refl found (λ f. found_covers memory address part f)
  where
    first : (x y : Bool) → (x && y) ≡ true → x ≡ true
    first true y e = refl
    first false y e = e

    some_same : (a b : Part) → Some a ≡ Some b → a ≡ b
    some_same a b e = cc

    by_test : (b : Bool) → covers other address ≡ b → (if b then Some other else part_with memory address) ≡ Some part →
        (part_with memory address ≡ Some part → part.address ≤ address) → part.address ≤ address
    by_test true e f later =
        let le = first (nat_le other.address address) (nat_lt (address - other.address) (length other.bytes)) e in
        subst (λ x. x.address ≤ address) (some_same other part f) (grind (arith, nat_tests, le))
    by_test false e f later = later f
