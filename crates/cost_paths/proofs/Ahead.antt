-- Branches and jumps of operations go ahead.
use Rattle.std.proofs.Common.{◌≡◌, ℕ, suc, ℤ, ◌+◌, ◌*◌, ◌==◌, Bool, true, false, List, [], ◌∷◌, ◌++◌, length, length-append, Option, Some, None, refl, subst, if◌then◌else◌, arith}
use Rattle.std.specs.Prelude.{nat_le, nat_lt, pos}
use Rattle.rv64_isa.specs.declared.instr.Instr.TheVariants.{Lui, Lw, Sd, Addi, Addiw, Jal, Beq, Bne, Blt, Bge, Bltu, Bgeu}
use Rattle.cxx_ast.specs.declared.expression.UnaryOp.{UnaryOp}
use Rattle.cxx_ast.specs.declared.expression.UnaryOp.TheVariants.{Minus, Not}
use Rattle.cxx_ast.specs.declared.expression.BinaryOp.{BinaryOp}
use Rattle.cxx_ast.specs.declared.expression.BinaryOp.TheVariants.{Add, Subtract, Multiply, Divide, Remainder, Less, Greater, LessEqual, GreaterEqual, Equal, NotEqual, And, Or}
use Rattle.cxx_ast.specs.declared.name.Builtin.{Builtin}
use Rattle.cxx_ast.specs.declared.name.Builtin.TheVariants.{ReadByte, Module, Uncaught, BadException}
use Rattle.region_forms.specs.Form.{Root, in_slot, through, in_global, Place, Callee, defined, builtin, Value, number, load, unary, binary, call_value, Argument, int_argument, address_argument, handler_argument, Arguments, no_arguments, argument_then, Op, evaluate, store, bind, call, construct, destroy, make, throw, rethrow, enter, leave}
use Rattle.linear_forms.specs.Linear.{LinearOp, plain, label, jump, jump_zero, pad, jump_filter, free, resume, unexpected, return}
use Rattle.linear_forms.specs.Stub.{compiled}
use Rattle.machine_forms.specs.Immediate.{immediate, is_small, upper, lower}
use Rattle.machine_forms.specs.Piece.{Piece, instruction, jump_to}
use Rattle.machine_forms.specs.Emitted.{function_front}
use Rattle.machine_forms.specs.KeptCode.{copied, int_read, one_saved, register_of, restores, root_register, saves}
use Rattle.machine_forms.specs.Registers.{zero_register, sp, t0, a0, a1, a2, register, saved_registers}
use Rattle.machine_forms.specs.Shape.{Shape, epilogue, prologue, slot_offset, stack_tested}
use Rattle.machine_forms.specs.PlaceCode.{within, int_loaded, slot_stored, added, root_address, root_loaded, root_stored, place_address, place_stored, number_set}
use Rattle.machine_forms.specs.ValueCode.{Operand, read_in, brought, needs, unary_code, operator_code, operands_code, binary_code, addend, sum_code, value_code, operand, branch_operator, binary_test, test_code, unless_zero, if_zero, made_truth, branch_truth}
use Rattle.machine_forms.specs.CallCode.{argument_code, argument_passed, passed, arguments_passed, arguments_held, function_called, call_code, value_given}
use Rattle.machine_forms.specs.RuntimeCall.{runtime_call, throw_call, builtin_call, builtin_value}
use Rattle.machine_forms.specs.OperationCode.{dropped_code, whole_value, whole_register, value_kept, value_stored, called_at, destructor_set, op_code}
use Rattle.machine_forms.specs.LinearCode.{result_set, jump_same, linear_code}
use Rattle.cost_paths.specs.Control.{label_of}
use Rattle.cost_paths.specs.Ahead.{IsNear, GoesAhead, AllGoAhead, AllCodeGoesAhead}

-- a piece that neither jumps nor branches
abbrev IsStraight : Piece → Type 0
IsStraight (jump_to l) = ⊥
IsStraight (instruction (Jal rd d)) = ⊥
IsStraight (instruction (Beq x y d)) = ⊥
IsStraight (instruction (Bne x y d)) = ⊥
IsStraight (instruction (Blt x y d)) = ⊥
IsStraight (instruction (Bge x y d)) = ⊥
IsStraight (instruction (Bltu x y d)) = ⊥
IsStraight (instruction (Bgeu x y d)) = ⊥
IsStraight x = Unit {0}

abbrev AreStraight : List Piece → Type 0
AreStraight [] = Unit {0}
AreStraight (x ∷ xs) = IsStraight x × AreStraight xs

one_straight : (target : Option ℕ) (n : ℕ) (x : Piece) → IsStraight x → GoesAhead target n x
one_straight target n (jump_to l) h = absurd h
one_straight target n (instruction (Jal rd d)) h = absurd h
one_straight target n (instruction (Beq x y d)) h = absurd h
one_straight target n (instruction (Bne x y d)) h = absurd h
one_straight target n (instruction (Blt x y d)) h = absurd h
one_straight target n (instruction (Bge x y d)) h = absurd h
one_straight target n (instruction (Bltu x y d)) h = absurd h
one_straight target n (instruction (Bgeu x y d)) h = absurd h
one_straight target n x h = tt

-- what is said below is said of the jumps of any operation, whatever stands behind
module _ (target : Option ℕ) where
  straight : (more : ℕ) (xs : List Piece) → AreStraight xs → AllGoAhead target more xs
  straight more [] h = tt
  straight more (x ∷ xs) h = (one_straight target (length xs + 1 + more) x h.0, straight more xs h.1)

  both_ahead : (more : ℕ) (a b : List Piece) → AllGoAhead target (length b + more) a → AllGoAhead target more b → AllGoAhead target more (a ++ b)
  both_ahead more [] b h k = k
  both_ahead more (x ∷ a) b h k =
      let same : length a + 1 + (length b + more) ≡ length (a ++ b) + 1 + more = omega (arith, length-append a b) in
      (subst (λ n. GoesAhead target n x) same h.0, both_ahead more a b h.1 k)

  over_one : (n : ℕ) → IsNear (n + 2) 4
  over_one n = record { ahead = record { words = 2; is = omega arith; some = omega arith; inside = omega arith }; small = omega arith }

  near : (n k : ℕ) → n ≡ k + 2 → IsNear n 4
  near n k e = record { ahead = record { words = 2; is = omega arith; some = omega arith; inside = omega (arith, e) }; small = omega arith }

  -- places and numbers

  added_ahead : (rd n : ℕ) → AreStraight (added rd n)
  added_ahead rd n = go (n == 0)
    where
      go : (b : Bool) → AreStraight (if b then [] else instruction (Addi rd rd (immediate (pos n))) ∷ [])
      go true = tt
      go false = (tt, tt)

  root_address_ahead : (f : Shape) (rd : ℕ) (r : Root) (n : ℕ) → AreStraight (root_address f rd r n)
  root_address_ahead f rd (in_slot s) n = (tt, tt)
  root_address_ahead f rd (through s) n = (tt, added_ahead rd n)
  root_address_ahead f rd (in_global g) n = (tt, (tt, tt))

  address_ahead : (f : Shape) (rd : ℕ) (p : Place) → AreStraight (place_address f rd p)
  address_ahead f rd p = root_address_ahead f rd p.root p.offset

  read_ahead : (r : Option ℕ) (rd offset : ℕ) → IsStraight (instruction (int_read r rd offset))
  read_ahead None rd offset = tt
  read_ahead (Some r) rd offset = tt

  root_loaded_ahead : (f : Shape) (rd : ℕ) (r : Root) (n : ℕ) → AreStraight (root_loaded f rd r n)
  root_loaded_ahead f rd (in_slot s) n = (read_ahead (register_of f.kept s) rd (within f s n), tt)
  root_loaded_ahead f rd (through s) n = (tt, (tt, tt))
  root_loaded_ahead f rd (in_global g) n = (tt, (tt, tt))

  root_stored_ahead : (f : Shape) (value base : ℕ) (r : Root) (n : ℕ) → AreStraight (root_stored f value base r n)
  root_stored_ahead f value base (in_slot s) n = (tt, tt)
  root_stored_ahead f value base (through s) n = (tt, (tt, tt))
  root_stored_ahead f value base (in_global g) n = (tt, (tt, tt))

  number_ahead : (rd : ℕ) (v : ℤ) → AreStraight (number_set rd v)
  number_ahead rd v = go (is_small v)
    where
      go : (b : Bool) → AreStraight (if b then instruction (Addi rd zero_register (immediate v)) ∷ []
          else instruction (Lui rd (upper v)) ∷ instruction (Addiw rd rd (lower v)) ∷ [])
      go true = (tt, tt)
      go false = (tt, (tt, tt))

  -- values without calls

  unary_ahead : (o : UnaryOp) (rd x : ℕ) → AreStraight (unary_code o rd x)
  unary_ahead Minus rd x = (tt, tt)
  unary_ahead Not rd x = (tt, tt)

  operator_ahead : (o : BinaryOp) (rd x y : ℕ) → AreStraight (operator_code o rd x y)
  operator_ahead Add rd x y = (tt, tt)
  operator_ahead Subtract rd x y = (tt, tt)
  operator_ahead Multiply rd x y = (tt, tt)
  operator_ahead Divide rd x y = (tt, tt)
  operator_ahead Remainder rd x y = (tt, tt)
  operator_ahead Less rd x y = (tt, tt)
  operator_ahead Greater rd x y = (tt, tt)
  operator_ahead LessEqual rd x y = (tt, (tt, tt))
  operator_ahead GreaterEqual rd x y = (tt, (tt, tt))
  operator_ahead Equal rd x y = (tt, (tt, tt))
  operator_ahead NotEqual rd x y = (tt, (tt, tt))
  operator_ahead And rd x y = tt
  operator_ahead Or rd x y = tt

  -- a branch over the one word behind
  truth_ahead : (more rd : ℕ) → AllGoAhead target (more + 1) (branch_truth rd)
  truth_ahead more rd = (near (0 + 1 + (more + 1)) more (omega arith), tt)

  computed_ahead : (more : ℕ) (o : BinaryOp) (rd x y : ℕ) → AllGoAhead target (more + 1) (operator_code o rd x y ++ branch_truth rd)
  computed_ahead more o rd x y =
      both_ahead (more + 1) (operator_code o rd x y) (branch_truth rd) (straight (length (branch_truth rd) + (more + 1)) (operator_code o rd x y) (operator_ahead o rd x y)) (truth_ahead more rd)

  branch_ahead : (more : ℕ) (o : BinaryOp) (rd x y : ℕ) → AllGoAhead target (more + 1) (branch_operator o rd x y)
  branch_ahead more Less rd x y = (near (0 + 1 + (more + 1)) more (omega arith), tt)
  branch_ahead more Greater rd x y = (near (0 + 1 + (more + 1)) more (omega arith), tt)
  branch_ahead more LessEqual rd x y = (near (0 + 1 + (more + 1)) more (omega arith), tt)
  branch_ahead more GreaterEqual rd x y = (near (0 + 1 + (more + 1)) more (omega arith), tt)
  branch_ahead more Equal rd x y = (near (0 + 1 + (more + 1)) more (omega arith), tt)
  branch_ahead more NotEqual rd x y = (near (0 + 1 + (more + 1)) more (omega arith), tt)
  branch_ahead more o rd x y = computed_ahead more o rd x y

  over_ahead : (more : ℕ) (code : List Piece) → AllGoAhead target more code → AllGoAhead target more (instruction (Jal zero_register (2 * (length code + 1))) ∷ code)
  over_ahead more code h = (record { words = length code + 1; is = omega arith; some = omega arith; inside = omega arith }, h)

  unless_ahead : (more rd : ℕ) (code : List Piece) → AllGoAhead target more code → AllGoAhead target more (unless_zero rd code)
  unless_ahead more rd code h = (near (suc (length code) + 1 + more) (length code + more) (omega arith), over_ahead more code h)

  if_ahead : (more rd : ℕ) (code : List Piece) → AllGoAhead target more code → AllGoAhead target more (if_zero rd code)
  if_ahead more rd code h = (near (suc (length code) + 1 + more) (length code + more) (omega arith), over_ahead more code h)

  -- an operand has its code or none
  brought_ahead : (x : Operand) → ((more k : ℕ) → AllGoAhead target more (x.code k)) → (more k : ℕ) → AllGoAhead target more (brought x k)
  brought_ahead x h more k = go x.held
    where
      go : (o : Option ℕ) → AllGoAhead target more (elim o [ None ↦ x.code k | Some r ↦ [] ])
      go None = h more k
      go (Some r) = tt

  -- two operands, then what is done with them
  module _ (x y : Operand) (hx : (more k : ℕ) → AllGoAhead target more (x.code k)) (hy : (more k : ℕ) → AllGoAhead target more (y.code k)) where
    operands_ahead : (more : ℕ) (first : Bool) (k : ℕ) (done : ℕ → ℕ → List Piece) → ((i j : ℕ) → AllGoAhead target more (done i j)) → AllGoAhead target more (operands_code first k x y done)
    operands_ahead more true k done h =
        let c = done (read_in x k) (read_in y (k + 1)) in
        both_ahead more (brought x k ++ brought y (k + 1)) c (both_ahead (length c + more) (brought x k) (brought y (k + 1)) (brought_ahead x hx _ k) (brought_ahead y hy _ (k + 1)))
        (h (read_in x k) (read_in y (k + 1)))
    operands_ahead more false k done h =
        let c = done (read_in x (k + 1)) (read_in y k) in
        both_ahead more (brought y k ++ brought x (k + 1)) c (both_ahead (length c + more) (brought y k) (brought x (k + 1)) (brought_ahead y hy _ k) (brought_ahead x hx _ (k + 1)))
        (h (read_in x (k + 1)) (read_in y k))

    binary_ahead : (more : ℕ) (o : BinaryOp) (first : Bool) (rd k : ℕ) → AllGoAhead target more (binary_code o first rd k x y)
    binary_ahead more And first rd k =
        let c = made_truth rd (register k) in
        both_ahead more (x.code k ++ unless_zero (register k) (y.code k)) c
        (both_ahead (length c + more) (x.code k) (unless_zero (register k) (y.code k)) (hx _ k) (unless_ahead (length c + more) (register k) (y.code k) (hy _ k))) (tt, tt)
    binary_ahead more Or first rd k =
        let c = made_truth rd (register k) in
        both_ahead more (x.code k ++ if_zero (register k) (y.code k)) c
        (both_ahead (length c + more) (x.code k) (if_zero (register k) (y.code k)) (hx _ k) (if_ahead (length c + more) (register k) (y.code k) (hy _ k))) (tt, tt)
    binary_ahead more o first rd k = operands_ahead more first k (operator_code o rd) (λ i j. straight more (operator_code o rd i j) (operator_ahead o rd i j))

    sum_ahead : (more : ℕ) (s : Option ℤ) (rd k : ℕ) (other : List Piece) → AllGoAhead target more other → AllGoAhead target more (sum_code s rd k x other)
    sum_ahead more None rd k other h = h
    sum_ahead more (Some z) rd k other h = both_ahead more (brought x k) (instruction (Addiw rd (read_in x k) (immediate z)) ∷ []) (brought_ahead x hx _ k) (tt, tt)

    test_ahead : (more : ℕ) (o : BinaryOp) (first : Bool) → AllGoAhead target (more + 1) (binary_test o first x y)
    test_ahead more And first =
        both_ahead (more + 1) (binary_code And first (register 0) 0 x y) (branch_truth (register 0)) (binary_ahead (length (branch_truth (register 0)) + (more + 1)) And first (register 0) 0)
        (truth_ahead more (register 0))
    test_ahead more Or first =
        both_ahead (more + 1) (binary_code Or first (register 0) 0 x y) (branch_truth (register 0)) (binary_ahead (length (branch_truth (register 0)) + (more + 1)) Or first (register 0) 0)
        (truth_ahead more (register 0))
    test_ahead more o first = operands_ahead (more + 1) first 0 (branch_operator o (register 0)) (λ i j. branch_ahead more o (register 0) i j)

  value_ahead : (f : Shape) (v : Value) (more rd k : ℕ) → AllGoAhead target more (value_code f rd k v)
  value_ahead f (number v) more rd k = straight more (number_set rd v) (number_ahead rd v)
  value_ahead f (load p) more rd k = straight more (root_loaded f rd p.root p.offset) (root_loaded_ahead f rd p.root p.offset)
  value_ahead f (unary o v) more rd k =
      let x : Operand = operand f v in
      let c = unary_code o rd (read_in x k) in
      both_ahead more (brought x k) c (brought_ahead x (λ m n. value_ahead f v m (register n) n) (length c + more) k) (straight more c (unary_ahead o rd (read_in x k)))
  value_ahead f (binary o a b) more rd k =
      let x : Operand = operand f a in
      let y : Operand = operand f b in
      let first = nat_le (needs b) (needs a) in
      sum_ahead x y (λ m n. value_ahead f a m (register n) n) (λ m n. value_ahead f b m (register n) n) more (addend o b) rd k (binary_code o first rd k x y)
      (binary_ahead x y (λ m n. value_ahead f a m (register n) n) (λ m n. value_ahead f b m (register n) n) more o first rd k)
  value_ahead f (call_value c args) more rd k = tt

  operand_ahead : (f : Shape) (v : Value) (more k : ℕ) → AllGoAhead target more (brought (operand f v) k)
  operand_ahead f v more k = brought_ahead (operand f v) (λ m n. value_ahead f v m (register n) n) more k

  true_ahead : (f : Shape) (v : Value) (more : ℕ) → AllGoAhead target (more + 1) (brought (operand f v) 0 ++ branch_truth (read_in (operand f v) 0))
  true_ahead f v more =
      let x : ℕ = read_in (operand f v) 0 in
      both_ahead (more + 1) (brought (operand f v) 0) (branch_truth x) (operand_ahead f v (length (branch_truth x) + (more + 1)) 0) (truth_ahead more x)

  tested_ahead : (f : Shape) (v : Value) (more : ℕ) → AllGoAhead target (more + 1) (test_code f v)
  tested_ahead f (number v) more = true_ahead f (number v) more
  tested_ahead f (load p) more = true_ahead f (load p) more
  tested_ahead f (unary o v) more = true_ahead f (unary o v) more
  tested_ahead f (binary o a b) more =
      test_ahead (operand f a) (operand f b) (λ m n. value_ahead f a m (register n) n) (λ m n. value_ahead f b m (register n) n) more o (nat_le (needs b) (needs a))
  tested_ahead f (call_value c args) more = true_ahead f (call_value c args) more

  -- arguments and calls

  argument_ahead : (f : Shape) (more k : ℕ) (a : Argument) → AllGoAhead target more (argument_code f k a)
  argument_ahead f more k (int_argument v) = value_ahead f v more (register k) k
  argument_ahead f more k (address_argument p) = straight more (place_address f (register k) p) (address_ahead f (register k) p)
  argument_ahead f more k (handler_argument n) = (tt, (tt, tt))

  one_passed_ahead : (f : Shape) (more i : ℕ) (a : Argument) → AllGoAhead target more (argument_passed f i a)
  one_passed_ahead f more i (int_argument v) = both_ahead more (brought (operand f v) 0) (passed (read_in (operand f v) 0) i ∷ []) (operand_ahead f v _ 0) (tt, tt)
  one_passed_ahead f more i (address_argument p) =
      both_ahead more (argument_code f 0 (address_argument p)) (passed (register 0) i ∷ []) (argument_ahead f _ 0 (address_argument p)) (tt, tt)
  one_passed_ahead f more i (handler_argument n) = (tt, (tt, (tt, tt)))

  passed_ahead : (f : Shape) (more i : ℕ) (args : Arguments) → AllGoAhead target more (arguments_passed f i args)
  passed_ahead f more i no_arguments = tt
  passed_ahead f more i (argument_then a args) =
      both_ahead more (argument_passed f i a) (arguments_passed f (i + 1) args) (one_passed_ahead f _ i a) (passed_ahead f more (i + 1) args)

  held_ahead : (f : Shape) (more k : ℕ) (args : Arguments) → AllGoAhead target more (arguments_held f k args)
  held_ahead f more k no_arguments = tt
  held_ahead f more k (argument_then a args) = both_ahead more (argument_code f k a) (arguments_held f (k + 1) args) (argument_ahead f _ k a) (held_ahead f more (k + 1) args)

  builtin_ahead : (b : Builtin) → AreStraight (builtin_call b)
  builtin_ahead BadException = tt
  builtin_ahead b = (tt, (tt, tt))

  given_ahead : (b : Builtin) → AreStraight (builtin_value b)
  given_ahead ReadByte = tt
  given_ahead Module = tt
  given_ahead Uncaught = tt
  given_ahead b = (tt, tt)

  call_ahead : (f : Shape) (more : ℕ) (c : Callee) (args : Arguments) → AllGoAhead target more (call_code f c args)
  call_ahead f more (defined n) args = both_ahead more (arguments_passed f 0 args) (function_called (compiled n)) (passed_ahead f _ 0 args) (tt, (tt, tt))
  call_ahead f more (builtin b) args = both_ahead more (arguments_held f 0 args) (builtin_call b) (held_ahead f _ 0 args) (straight more (builtin_call b) (builtin_ahead b))

  value_given_ahead : (c : Callee) → AreStraight (value_given c)
  value_given_ahead (defined n) = tt
  value_given_ahead (builtin b) = given_ahead b

  whole_ahead : (f : Shape) (more : ℕ) (v : Value) → AllGoAhead target more (whole_value f v)
  whole_ahead f more (call_value c args) = both_ahead more (call_code f c args) (value_given c) (call_ahead f _ c args) (straight more (value_given c) (value_given_ahead c))
  whole_ahead f more (number v) = operand_ahead f (number v) more 0
  whole_ahead f more (load p) = operand_ahead f (load p) more 0
  whole_ahead f more (unary o v) = operand_ahead f (unary o v) more 0
  whole_ahead f more (binary o a b) = operand_ahead f (binary o a b) more 0

  copied_ahead : (f : Shape) (rd : ℕ) (v : Value) → AllGoAhead target 0 (whole_value f v ++ instruction (copied rd (whole_register f v)) ∷ [])
  copied_ahead f rd v = both_ahead 0 (whole_value f v) (instruction (copied rd (whole_register f v)) ∷ []) (whole_ahead f _ v) (tt, tt)

  kept_ahead : (f : Shape) (rd : ℕ) (v : Value) → AllGoAhead target 0 (value_kept f rd v)
  kept_ahead f rd (number v) = value_ahead f (number v) 0 rd 0
  kept_ahead f rd (load p) = copied_ahead f rd (load p)
  kept_ahead f rd (unary o v) = value_ahead f (unary o v) 0 rd 0
  kept_ahead f rd (binary o a b) = value_ahead f (binary o a b) 0 rd 0
  kept_ahead f rd (call_value c args) = copied_ahead f rd (call_value c args)

  stored_ahead : (f : Shape) (r : Option ℕ) (p : Place) (v : Value) → AllGoAhead target 0 (value_stored f r p v)
  stored_ahead f (Some rd) p v = kept_ahead f rd v
  stored_ahead f None p v =
      let x : ℕ = whole_register f v in
      both_ahead 0 (whole_value f v) (place_stored f x (register 1) p) (whole_ahead f _ v) (straight 0 (place_stored f x (register 1) p) (root_stored_ahead f x (register 1) p.root p.offset))

  dropped_ahead : (f : Shape) (more : ℕ) (v : Value) → AllGoAhead target more (dropped_code f v)
  dropped_ahead f more (call_value c args) = call_ahead f more c args
  dropped_ahead f more v = tt

  called_ahead : (f : Shape) (more : ℕ) (p : Place) (n : ℕ) (args : Arguments) → AllGoAhead target more (called_at f p n args)
  called_ahead f more p n args =
      both_ahead more (place_address f a0 p ++ passed a0 0 ∷ arguments_passed f 1 args) (function_called (compiled n))
      (both_ahead (length (function_called (compiled n)) + more) (place_address f a0 p) (passed a0 0 ∷ arguments_passed f 1 args) (straight _ (place_address f a0 p) (address_ahead f a0 p))
      (tt, passed_ahead f (length (function_called (compiled n)) + more) 1 args)) (tt, (tt, tt))

  destructor_ahead : (rd : ℕ) (d : Option ℕ) → AreStraight (destructor_set rd d)
  destructor_ahead rd None = number_ahead rd (pos 0)
  destructor_ahead rd (Some d) = (tt, (tt, tt))

  -- operations

  op_ahead : (f : Shape) (o : Op) → AllGoAhead target 0 (op_code f o)
  op_ahead f (evaluate v) = dropped_ahead f 0 v
  op_ahead f (store p v) = stored_ahead f (root_register f p.root) p v
  op_ahead f (bind s p) = both_ahead 0 (place_address f a0 p) (slot_stored f a0 s ∷ []) (straight _ (place_address f a0 p) (address_ahead f a0 p)) (tt, tt)
  op_ahead f (call c args) = call_ahead f 0 c args
  op_ahead f (construct p n args) = called_ahead f 0 p n args
  op_ahead f (destroy p n) = called_ahead f 0 p n no_arguments
  op_ahead f (make s) = (tt, (tt, (tt, tt)))
  op_ahead f (throw s t d) =
      (tt, (tt, (tt, both_ahead 0 (destructor_set a2 d) (runtime_call throw_call) (straight _ (destructor_set a2 d) (destructor_ahead a2 d)) (tt, (tt, tt)))))
  op_ahead f rethrow = (tt, (tt, tt))
  op_ahead f (enter s) = (tt, (tt, (tt, tt)))
  op_ahead f leave = (tt, (tt, tt))

result_ahead : (f : Shape) (result : Option ℕ) → AreStraight (result_set f result)
result_ahead f None = (tt, tt)
result_ahead f (Some s) = (read_ahead None (register_of f.kept s) a0 (within f s 0), tt)

restores_ahead : (f : Shape) (rs ks : List ℕ) → AreStraight (restores f rs ks)
restores_ahead f [] ks = tt
restores_ahead f (r ∷ rs) [] = tt
restores_ahead f (r ∷ rs) (k ∷ ks) = (tt, restores_ahead f rs ks)

linear_ahead : (f : Shape) (o : LinearOp) → AllGoAhead (label_of o) 0 (linear_code f o)
linear_ahead f (plain o) = op_ahead None f o
linear_ahead f (label l) = tt
linear_ahead f (jump l) = (refl, tt)
linear_ahead f (jump_zero v l) = both_ahead (Some l) 0 (test_code f v) (jump_to l ∷ []) (tested_ahead (Some l) f v 0) (refl, tt)
linear_ahead f (pad o s) = (tt, (tt, tt))
linear_ahead f (jump_filter s n l) =
    (one_straight (Some l) _ (int_loaded f a0 s) (read_ahead (Some l) (register_of f.kept s) a0 (within f s 0)), both_ahead (Some l) 0 (number_set a1 n) (jump_same a0 a1 l) (straight (Some l) _ (number_set a1 n) (number_ahead (Some l) a1 n)) (near (Some l) 2 0 (omega arith), (refl, tt)))
linear_ahead f (free s) = (tt, (tt, (tt, tt)))
linear_ahead f (resume s) = (tt, (tt, (tt, tt)))
linear_ahead f (unexpected o s) = (tt, (tt, (tt, (tt, (tt, (tt, tt))))))
linear_ahead f (return result) =
    both_ahead None 0 (result_set f result ++ restores f saved_registers f.kept) (epilogue f)
    (both_ahead None _ (result_set f result) (restores f saved_registers f.kept) (straight None _ (result_set f result) (result_ahead f result))
    (straight None _ (restores f saved_registers f.kept) (restores_ahead f saved_registers f.kept))) (tt, (tt, (tt, tt)))

-- the test of the stack branches over the call that ends the program
over_call : (more : ℕ) → IsNear (2 + 1 + more) 6
over_call more = record { ahead = record { words = 3; is = omega arith; some = omega arith; inside = omega arith }; small = omega arith }

test_of_stack : (leaf : Bool) (more : ℕ) → AllGoAhead None more (stack_tested leaf)
test_of_stack true more = tt
test_of_stack false more = (tt, (over_call more, (tt, (tt, tt))))

one_saved_ahead : (parameters offset r s : ℕ) → AreStraight (one_saved parameters offset r s)
one_saved_ahead parameters offset r s = go (nat_lt s parameters)
  where
    go : (b : Bool) → AreStraight (if b then instruction (Lw t0 sp offset) ∷ instruction (Sd sp r offset) ∷ instruction (copied r t0) ∷ [] else instruction (Sd sp r offset) ∷ [])
    go true = (tt, (tt, (tt, tt)))
    go false = (tt, tt)

saves_ahead : (f : Shape) (parameters more : ℕ) (rs ks : List ℕ) → AllGoAhead None more (saves f parameters rs ks)
saves_ahead f parameters more [] ks = tt
saves_ahead f parameters more (r ∷ rs) [] = tt
saves_ahead f parameters more (r ∷ rs) (k ∷ ks) =
    let one = one_saved parameters (immediate (pos (slot_offset f k))) r k in
    both_ahead None more one (saves f parameters rs ks) (straight None _ one (one_saved_ahead parameters (immediate (pos (slot_offset f k))) r k)) (saves_ahead f parameters more rs ks)

front_ahead : (f : Shape) (parameters : ℕ) → AllGoAhead None 0 (function_front f parameters)
front_ahead f parameters =
    both_ahead None 0 (prologue f) (saves f parameters saved_registers f.kept) (tt, (tt, test_of_stack f.leaf _)) (saves_ahead f parameters 0 saved_registers f.kept)

pub all_code_goes_ahead : AllCodeGoesAhead
all_code_goes_ahead f = record { operations = linear_ahead f; front = front_ahead f }
