-- Where control can go from a word of code to another of the same operation. Distances count half-words, from the word itself.
use Rattle.std.specs.Prelude.{◌≡◌, ◌⊎◌, ℕ, ◌+◌, ◌*◌, ◌^◌, ◌<◌, ◌≤◌, Bool, true, false, List, [], ◌∷◌, length, Option, Some, None}
use Rattle.rv64_isa.specs.declared.instr.Instr.TheVariants.{Jal, Jalr, Beq, Bne, Blt, Bge, Bltu, Bgeu}
use Rattle.linear_forms.specs.Linear.{LinearOp}
use Rattle.machine_forms.specs.Piece.{Piece, instruction, jump_to}
use Rattle.machine_forms.specs.Emitted.{function_front}
use Rattle.machine_forms.specs.Shape.{Shape}
use Rattle.machine_forms.specs.LinearCode.{linear_code}
use Rattle.cost_paths.specs.Control.{label_of}

-- how far an instruction jumps or branches, if it does
abbrev pub distance_of : Piece → Option ℕ
distance_of (instruction (Jal rd d)) = Some d
distance_of (instruction (Beq x y d)) = Some d
distance_of (instruction (Bne x y d)) = Some d
distance_of (instruction (Blt x y d)) = Some d
distance_of (instruction (Bge x y d)) = Some d
distance_of (instruction (Bltu x y d)) = Some d
distance_of (instruction (Bgeu x y d)) = Some d
distance_of x = None

-- Control can come to the word behind: that of a branch that is not taken, and that of a call or an ECALL that comes back. A jump through
-- a register that is written as an instruction leaves the call.
abbrev pub falls_through : Piece → Bool
falls_through (instruction (Jal rd d)) = false
falls_through (instruction (Jalr rd base d)) = false
falls_through (jump_to l) = false
falls_through x = true

-- from word i of an operation's code to word j
abbrev pub LeadsTo : Piece → (i j : ℕ) → Type 0
LeadsTo x i j = ((falls_through x ≡ true) × (j ≡ i + 1)) ⊎ ((d : ℕ) × (distance_of x ≡ Some d) × (2 * j ≡ 2 * i + d))

-- a distance ahead over at most n words
pub record IsAhead (n d : ℕ) : Type 0 where
  pub words : ℕ
  pub is : d ≡ 2 * words
  pub some : 0 < words
  pub inside : words ≤ n

-- one that a branch reaches
pub record IsNear (n d : ℕ) : Type 0 where
  pub ahead : IsAhead n d
  pub small : d < 2 ^ 11

-- A piece with n words from it on up to the operation's end goes ahead within them or to the word behind the last, but for the jump to the
-- operation's label.
abbrev pub GoesAhead : Option ℕ → ℕ → Piece → Type 0
GoesAhead target n (jump_to l) = target ≡ Some l
GoesAhead target n (instruction (Jal rd d)) = IsAhead n d
GoesAhead target n (instruction (Beq x y d)) = IsNear n d
GoesAhead target n (instruction (Bne x y d)) = IsNear n d
GoesAhead target n (instruction (Blt x y d)) = IsNear n d
GoesAhead target n (instruction (Bge x y d)) = IsNear n d
GoesAhead target n (instruction (Bltu x y d)) = IsNear n d
GoesAhead target n (instruction (Bgeu x y d)) = IsNear n d
GoesAhead target n x = Unit {0}

-- so do pieces that stand in front of so many others
abbrev pub AllGoAhead : Option ℕ → ℕ → List Piece → Type 0
AllGoAhead target more [] = Unit {0}
AllGoAhead target more (x ∷ xs) = GoesAhead target (length xs + 1 + more) x × AllGoAhead target more xs

-- Every branch and jump inside the code of an operation, and of the beginning of a function, goes ahead inside it or right behind it, but
-- for the jump to the operation's label. So no word of it runs twice while the operation runs once.
pub record CodeGoesAhead (f : Shape) : Type 0 where
  pub operations : (o : LinearOp) → AllGoAhead (label_of o) 0 (linear_code f o)
  pub front : (parameters : ℕ) → AllGoAhead None 0 (function_front f parameters)

abbrev pub AllCodeGoesAhead : Type 0
AllCodeGoesAhead = (f : Shape) → CodeGoesAhead f
