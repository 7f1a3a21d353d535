-- What a run over code comes to where the code writes no memory: code for values ends behind its last word, and changes some registers.
use Rattle.std.specs.Prelude.{◌≡◌, ◌≢◌, ℕ, ◌+◌, ◌<◌, ◌≤◌, ℤ, length, if◌then◌else◌}
use Rattle.meaning_forms.specs.Arithmetic.{is_zero}
use Rattle.rv64_isa.specs.State.{State, with_value}
use Rattle.rv64_isa.specs.Step.{x}
use Rattle.machine_forms.specs.Registers.{register}
use Rattle.machine_pieces.specs.Standing.{Ground, address}
use Rattle.machine_pieces.specs.Numbers.{IsInt, extended}
use Rattle.machine_pieces.specs.Executes.{Executes}

-- a register is none of those for values from the k-th on
abbrev pub IsKept : ℕ → ℕ → Type 0
IsKept k r = (i : ℕ) → k ≤ i → i < 15 → r ≢ register i

-- from a state at a word, code of so many words comes to the word behind it in at most as many steps; memory is as before, and so are
-- the registers but those for values from the k-th on
pub record Goes (g : Ground) (here words k : ℕ) (s : State) : Type 0 where
  pub steps : ℕ
  pub most : steps ≤ words
  pub after : State
  pub runs : Executes steps s after
  pub pc : after.pc ≡ address g (here + words)
  pub memory : after.memory ≡ s.memory
  pub registers : length after.regs ≡ 32
  pub kept : (r : ℕ) → IsKept k r → x after r ≡ x s r

-- and then the k-th of them has a number
pub record Computes (g : Ground) (here words k : ℕ) (s : State) (value : ℕ) : Type 0 where
  pub goes : Goes g here words k s
  pub is : x goes.after (register k) ≡ value

-- and that number is an int
pub record Gives (g : Ground) (here words k : ℕ) (s : State) (z : ℤ) : Type 0 where
  pub int : IsInt z
  pub computes : Computes g here words k s (extended z)

-- a register has a number, which is an int
pub record Reads (g : Ground) (here words k : ℕ) (s : State) (r : ℕ) (z : ℤ) : Type 0 where
  pub int : IsInt z
  pub goes : Goes g here words k s
  pub is : x goes.after r ≡ extended z

-- a register that can be set
abbrev pub MaySet : ℕ → Type 0
MaySet r = (r ≢ 0) × (r < 32)

-- as `Goes`, where one more register is changed, and gets a number
pub record Puts (g : Ground) (here words k rd : ℕ) (s : State) (value : ℕ) : Type 0 where
  pub steps : ℕ
  pub most : steps ≤ words
  pub after : State
  pub runs : Executes steps s after
  pub pc : after.pc ≡ address g (here + words)
  pub memory : after.memory ≡ s.memory
  pub registers : length after.regs ≡ 32
  pub is : x after rd ≡ value
  pub kept : (r : ℕ) → IsKept k r → r ≢ rd → x after r ≡ x s r

-- and that number is an int
pub record Sets (g : Ground) (here words k rd : ℕ) (s : State) (z : ℤ) : Type 0 where
  pub int : IsInt z
  pub puts : Puts g here words k rd s (extended z)

-- how many words a test passes over: the one behind it where the value is not 0
abbrev pub passed_over : ℤ → ℕ
passed_over z = if is_zero z then 0 else 1

-- as `Goes`, where the code writes an int to a place
pub record Stores (g : Ground) (here words k : ℕ) (s : State) (place : ℕ) (z : ℤ) : Type 0 where
  pub steps : ℕ
  pub most : steps ≤ words
  pub after : State
  pub runs : Executes steps s after
  pub pc : after.pc ≡ address g (here + words)
  pub memory : after.memory ≡ with_value s.memory place 4 (extended z)
  pub registers : length after.regs ≡ 32
  pub kept : (r : ℕ) → IsKept k r → x after r ≡ x s r
