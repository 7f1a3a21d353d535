-- Which part has the bytes of an access.
use Rattle.std.specs.Prelude.{ℕ, zero, suc, ◌≡◌, ◌<◌, ◌≤◌, ◌+◌, true, false, List, [], ◌∷◌, length}
use Rattle.rv64_isa.specs.State.{Part, covers}

-- the part at index i is the first that covers the address
abbrev pub IsFirst : List Part → ℕ → Part → ℕ → Type 0
IsFirst [] i part b = ⊥
IsFirst (p ∷ ps) zero part b = (p ≡ part) × (covers p b ≡ true)
IsFirst (p ∷ ps) (suc i) part b = (covers p b ≡ false) × IsFirst ps i part b

-- the part holds n bytes from the address on, and is the first that covers each
pub record Serves (memory : List Part) (i : ℕ) (part : Part) (a n : ℕ) : Type 0 where
  pub from : part.address ≤ a
  pub to : a + n ≤ part.address + length part.bytes
  pub first : (b : ℕ) → a ≤ b → b < a + n → IsFirst memory i part b
