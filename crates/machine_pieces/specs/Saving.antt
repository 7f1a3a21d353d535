-- Registers are saved in the slots of kept variables, and get back what they held.
use Rattle.std.specs.Prelude.{⊤, ◌≡◌, ◌≢◌, ℕ, ◌+◌, ◌%◌, ◌^◌, ◌<◌, nat_lt, true, ℤ, List, [], ◌∷◌, take, length, if◌then◌else◌}
use Rattle.rv64_isa.specs.State.{State, Part}
use Rattle.rv64_isa.specs.Step.{x}
use Rattle.machine_forms.specs.Registers.{sp, t0, saved_registers}
use Rattle.machine_forms.specs.Shape.{Shape, slot_offset}
use Rattle.machine_pieces.specs.Memory.{Holds, MayWrite, Written, Apart}
use Rattle.machine_pieces.specs.Numbers.{extended}
use Rattle.machine_pieces.specs.Standing.{Ground, address}
use Rattle.machine_pieces.specs.Executes.{Executes}
use Rattle.machine_pieces.specs.Frames.{IntAt, AddressAt}
use Rattle.machine_pieces.specs.Keeping.{saved_of, AreSmall, outward}

-- eight bytes each hold a number, in the places of slots
abbrev pub SavedAt : Shape → List Part → (stack : ℕ) → (kept values : List ℕ) → Type 0
SavedAt f memory stack [] [] = ⊤
SavedAt f memory stack (s ∷ kept) (v ∷ values) = AddressAt memory (stack + slot_offset f s) v × SavedAt f memory stack kept values
SavedAt f memory stack kept values = ⊥

-- What the slots of a call's kept variables hold is what their registers held for the caller; other registers are as they were.
pub record SavedIn (f : Shape) (kept : List ℕ) (memory : List Part) (stack : ℕ) (regs before : List ℕ) : Type 0 where
  pub values : List ℕ
  pub there : SavedAt f memory stack kept values
  pub before_is : before ≡ outward values regs
  pub small : AreSmall values

-- a register is none of some
abbrev pub IsOut : ℕ → List ℕ → Type 0
IsOut r [] = ⊤
IsOut r (q ∷ rs) = (r ≢ q) × IsOut r rs

-- slots near to sp
abbrev pub AreNear : Shape → List ℕ → Type 0
AreNear f [] = ⊤
AreNear f (s ∷ kept) = (slot_offset f s < 2 ^ 11) × AreNear f kept

-- some bytes are none of those of slots
abbrev pub AreApartFrom : Shape → (stack a n : ℕ) → List ℕ → Type 0
AreApartFrom f stack a n [] = ⊤
AreApartFrom f stack a n (s ∷ kept) = Apart (stack + slot_offset f s) 8 a n × AreApartFrom f stack a n kept

-- Slots into which registers may be saved: near to sp, each with eight bytes apart from those of the others. A parameter's have its int.
abbrev pub MaySave : Shape → List Part → (parameters stack : ℕ) → List ℕ → List ℤ → Type 0
MaySave f memory parameters stack [] [] = ⊤
MaySave f memory parameters stack (s ∷ kept) (z ∷ ints) =
    (slot_offset f s < 2 ^ 11) × ((stack + slot_offset f s) % 8 ≡ 0) × (stack + slot_offset f s + 8 < 2 ^ 64) × MayWrite memory (stack + slot_offset f s) 8
    × (nat_lt s parameters ≡ true → IntAt memory (stack + slot_offset f s) z) × AreApartFrom f stack (stack + slot_offset f s) 8 kept × MaySave f memory parameters stack kept ints
MaySave f memory parameters stack kept ints = ⊥

-- what the registers hold then: of a parameter its int
abbrev pub begun : (parameters : ℕ) → (kept : List ℕ) → List ℤ → List ℕ → List ℕ
begun parameters [] ints regs = regs
begun parameters (s ∷ kept) [] regs = regs
begun parameters (s ∷ kept) (z ∷ ints) [] = []
begun parameters (s ∷ kept) (z ∷ ints) (v ∷ regs) = (if nat_lt s parameters then extended z else v) ∷ begun parameters kept ints regs

-- Words of a function's beginning save what the registers of its kept variables hold in the slots, and take the ints of parameters from there
-- before. Nothing else of memory changes, and no register but these and t0.
pub record Saves (g : Ground) (here words : ℕ) (f : Shape) (parameters : ℕ) (kept : List ℕ) (ints : List ℤ) (s : State) : Type 0 where
  pub after : State
  pub runs : Executes words s after
  pub pc : after.pc ≡ address g (here + words)
  pub registers : length after.regs ≡ 32
  pub written : Written s.memory after.memory
  pub there : SavedAt f after.memory (x s sp) kept (take (length kept) (saved_of s))
  pub begins : saved_of after ≡ begun parameters kept ints (saved_of s)
  pub others : (a n v : ℕ) → AreApartFrom f (x s sp) a n kept → Holds s.memory a n v → Holds after.memory a n v
  pub kept_registers : (r : ℕ) → r ≢ t0 → IsOut r saved_registers → x after r ≡ x s r

-- Words of a function's end give the registers what their slots hold, and come to the word behind them. No other register changes.
pub record Restores (g : Ground) (here words : ℕ) (values : List ℕ) (s : State) : Type 0 where
  pub after : State
  pub runs : Executes words s after
  pub pc : after.pc ≡ address g (here + words)
  pub memory : after.memory ≡ s.memory
  pub registers : length after.regs ≡ 32
  pub saved : saved_of after ≡ outward values (saved_of s)
  pub kept : (r : ℕ) → IsOut r saved_registers → x after r ≡ x s r
