-- Values without calls are computed into a register of choice, by means of the k-th register for values and those behind it. A kept variable is
-- read in its own register, and each other operand is computed into one of those. The operand that needs more of them comes first, so that its
-- own are free again but for one; no value without calls changes what another reads. Only the last words write the register of choice, which so
-- may be one that they read.
use Rattle.std.specs.Prelude.{ℕ, ℤ, pos, ◌+◌, ◌-ℤ◌, ◌*◌, ◌==◌, Bool, true, false, nat_le, max, List, [], ◌∷◌, ◌++◌, length, Option, Some, None, unwrap_or, if◌then◌else◌}
use Rattle.cxx_ast.specs.declared.expression.UnaryOp.{UnaryOp}
use Rattle.cxx_ast.specs.declared.expression.UnaryOp.TheVariants.{Minus, Not}
use Rattle.cxx_ast.specs.declared.expression.BinaryOp.{BinaryOp}
use Rattle.cxx_ast.specs.declared.expression.BinaryOp.TheVariants.{Add, Subtract, Multiply, Divide, Remainder, Less, Greater, LessEqual, GreaterEqual, Equal, NotEqual, And, Or}
use Rattle.rv64_isa.specs.declared.instr.Instr.TheVariants.{Jal, Beq, Bne, Blt, Bge, Slt, Sltu, Sltiu, Xori, Addiw, Addw, Subw, Mulw, Divw, Remw}
use Rattle.region_forms.specs.Form.{Value, number, load, unary, binary, call_value}
use Rattle.machine_forms.specs.Immediate.{immediate, is_small}
use Rattle.machine_forms.specs.Registers.{zero_register, register}
use Rattle.machine_forms.specs.Piece.{Piece, instruction}
use Rattle.machine_forms.specs.Shape.{Shape}
use Rattle.machine_forms.specs.KeptCode.{root_register}
use Rattle.machine_forms.specs.PlaceCode.{place_loaded, number_set}

-- the registers of an operator whose operands need so many; the right side of `&&` and `||` uses those of the left again
abbrev pub operator_needs : BinaryOp → ℕ → ℕ → ℕ
operator_needs And x y = max x y
operator_needs Or x y = max x y
operator_needs o x y = if x == y then x + 1 else max x y

-- how many registers a value needs
abbrev pub needs : Value → ℕ
needs (number v) = 1
needs (load p) = 1
needs (unary o v) = needs v
needs (binary o a b) = operator_needs o (needs a) (needs b)
needs (call_value c args) = 1

-- a register gets 1 where another one is not 0, else 0
abbrev pub made_truth : (rd x : ℕ) → List Piece
made_truth rd x = instruction (Sltu rd zero_register x) ∷ []

-- a truth becomes the other one
abbrev pub turned : ℕ → List Piece
turned rd = instruction (Xori rd rd 1) ∷ []

-- a unary operator on a register
abbrev pub unary_code : UnaryOp → (rd x : ℕ) → List Piece
unary_code Minus rd x = instruction (Subw rd zero_register x) ∷ []
unary_code Not rd x = instruction (Sltiu rd x 1) ∷ []

-- a binary operator on two registers; `&&` and `||` never come here
abbrev pub operator_code : BinaryOp → (rd x y : ℕ) → List Piece
operator_code Add rd x y = instruction (Addw rd x y) ∷ []
operator_code Subtract rd x y = instruction (Subw rd x y) ∷ []
operator_code Multiply rd x y = instruction (Mulw rd x y) ∷ []
operator_code Divide rd x y = instruction (Divw rd x y) ∷ []
operator_code Remainder rd x y = instruction (Remw rd x y) ∷ []
operator_code Less rd x y = instruction (Slt rd x y) ∷ []
operator_code Greater rd x y = instruction (Slt rd y x) ∷ []
operator_code LessEqual rd x y = instruction (Slt rd y x) ∷ turned rd
operator_code GreaterEqual rd x y = instruction (Slt rd x y) ∷ turned rd
operator_code Equal rd x y = instruction (Subw rd x y) ∷ instruction (Sltiu rd rd 1) ∷ []
operator_code NotEqual rd x y = instruction (Subw rd x y) ∷ made_truth rd rd
operator_code And rd x y = []
operator_code Or rd x y = []

-- a jump over code that follows
abbrev pub over : List Piece → Piece
over code = instruction (Jal zero_register (2 * (length code + 1)))

-- code is passed over where a register is 0, or where it is not
abbrev pub unless_zero : ℕ → List Piece → List Piece
unless_zero rd code = instruction (Bne rd zero_register 4) ∷ over code ∷ code

abbrev pub if_zero : ℕ → List Piece → List Piece
if_zero rd code = instruction (Beq rd zero_register 4) ∷ over code ∷ code

-- an operand: the register in which it is anyway, if it is a kept variable, and the code that puts it in the k-th register
pub record Operand : Type 0 where
  pub held : Option ℕ
  pub code : ℕ → List Piece

-- the register in which it is read, and the code that it needs for that
abbrev pub read_in : Operand → ℕ → ℕ
read_in x k = unwrap_or x.held (register k)

abbrev pub brought : Operand → ℕ → List Piece
brought x k = elim x.held [ None ↦ x.code k | Some r ↦ [] ]

-- two operands by means of the registers from k on, the left one first or not, then what is done with their registers
abbrev pub operands_code : Bool → ℕ → (x y : Operand) → (ℕ → ℕ → List Piece) → List Piece
operands_code true k x y done = brought x k ++ brought y (k + 1) ++ done (read_in x k) (read_in y (k + 1))
operands_code false k x y done = brought y k ++ brought x (k + 1) ++ done (read_in x (k + 1)) (read_in y k)

-- `&&` and `||` compute their right side only where it decides
abbrev pub binary_code : BinaryOp → Bool → (rd k : ℕ) → (x y : Operand) → List Piece
binary_code And left_first rd k x y = x.code k ++ unless_zero (register k) (y.code k) ++ made_truth rd (register k)
binary_code Or left_first rd k x y = x.code k ++ if_zero (register k) (y.code k) ++ made_truth rd (register k)
binary_code o left_first rd k x y = operands_code left_first k x y (operator_code o rd)

-- the small number that a sum or a difference adds to its left operand, if its right one is such a number
abbrev pub addend : BinaryOp → Value → Option ℤ
addend Add (number n) = if is_small n then Some n else None
addend Subtract (number n) = if is_small (pos 0 -ℤ n) then Some (pos 0 -ℤ n) else None
addend o v = None

-- a small number is added to an operand, or there is other code
abbrev pub sum_code : Option ℤ → (rd k : ℕ) → Operand → List Piece → List Piece
sum_code (Some n) rd k x other = brought x k ++ instruction (Addiw rd (read_in x k) (immediate n)) ∷ []
sum_code None rd k x other = other

-- the register of a kept variable that is a value
abbrev pub held_in : Shape → Value → Option ℕ
held_in f (load p) = root_register f p.root
held_in f v = None

-- a value without calls in a register, by means of those for values from the k-th on
abbrev pub value_code : Shape → (rd k : ℕ) → Value → List Piece
value_code f rd k (number v) = number_set rd v
value_code f rd k (load p) = place_loaded f rd p
value_code f rd k (unary o v) =
    let x : Operand = record { held = held_in f v; code = λ n. value_code f (register n) n v } in
    brought x k ++ unary_code o rd (read_in x k)
value_code f rd k (binary o a b) =
    let x : Operand = record { held = held_in f a; code = λ n. value_code f (register n) n a } in
    let y : Operand = record { held = held_in f b; code = λ n. value_code f (register n) n b } in
    sum_code (addend o b) rd k x (binary_code o (nat_le (needs b) (needs a)) rd k x y)
value_code f rd k (call_value c args) = []

-- a value as an operand
abbrev pub operand : Shape → Value → Operand
operand f v = record { held = held_in f v; code = λ k. value_code f (register k) k v }

-- a branch over one word where a register is not 0
abbrev pub branch_truth : ℕ → List Piece
branch_truth x = instruction (Bne x zero_register 4) ∷ []

-- a branch over one word where an operator on two registers gives no 0
abbrev pub branch_operator : BinaryOp → (rd x y : ℕ) → List Piece
branch_operator Less rd x y = instruction (Blt x y 4) ∷ []
branch_operator Greater rd x y = instruction (Blt y x 4) ∷ []
branch_operator LessEqual rd x y = instruction (Bge y x 4) ∷ []
branch_operator GreaterEqual rd x y = instruction (Bge x y 4) ∷ []
branch_operator Equal rd x y = instruction (Beq x y 4) ∷ []
branch_operator NotEqual rd x y = instruction (Bne x y 4) ∷ []
branch_operator o rd x y = operator_code o rd x y ++ branch_truth rd

-- the test of a binary operator
abbrev pub binary_test : BinaryOp → Bool → (x y : Operand) → List Piece
binary_test And left_first x y = binary_code And left_first (register 0) 0 x y ++ branch_truth (register 0)
binary_test Or left_first x y = binary_code Or left_first (register 0) 0 x y ++ branch_truth (register 0)
binary_test o left_first x y = operands_code left_first 0 x y (branch_operator o (register 0))

-- a branch over one word where a value is not 0
abbrev pub test_code : Shape → Value → List Piece
test_code f (binary o a b) = binary_test o (nat_le (needs b) (needs a)) (operand f a) (operand f b)
test_code f v = brought (operand f v) 0 ++ branch_truth (read_in (operand f v) 0)
