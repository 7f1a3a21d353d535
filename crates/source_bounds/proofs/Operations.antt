-- The words of operations are no more than is said.
use Rattle.std.proofs.Common.{◌≡◌, ℕ, ℤ, ◌+◌, ◌≤◌, ◌==◌, Bool, true, false, List, [], ◌∷◌, ◌++◌, length, Option, Some, None, if◌then◌else◌, arith}
use Rattle.std.specs.Prelude.{nat_le, pos}
use Rattle.rv64_isa.specs.declared.instr.Instr.TheVariants.{Lui, Addi, Addiw}
use Rattle.cxx_ast.specs.declared.expression.UnaryOp.{UnaryOp}
use Rattle.cxx_ast.specs.declared.expression.UnaryOp.TheVariants.{Minus, Not}
use Rattle.cxx_ast.specs.declared.expression.BinaryOp.{BinaryOp}
use Rattle.cxx_ast.specs.declared.expression.BinaryOp.TheVariants.{Add, Subtract, Multiply, Divide, Remainder, Less, Greater, LessEqual, GreaterEqual, Equal, NotEqual, And, Or}
use Rattle.cxx_ast.specs.declared.name.Builtin.{Builtin}
use Rattle.cxx_ast.specs.declared.name.Builtin.TheVariants.{WriteInt, ReadByte, Exit, Module, Cancel, Terminate, SetTerminate, SetUnexpected, Uncaught, BadException}
use Rattle.region_forms.specs.Form.{Root, in_slot, through, in_global, Place, Callee, defined, builtin, Value, number, load, unary, binary, call_value, Argument, int_argument, address_argument, handler_argument, Arguments, no_arguments, argument_then, Op, evaluate, store, bind, call, construct, destroy, make, throw, rethrow, enter, leave}
use Rattle.linear_forms.specs.Linear.{plain, label, jump, jump_zero, pad, jump_filter, free, resume, unexpected, return}
use Rattle.linear_forms.specs.Stub.{compiled}
use Rattle.machine_forms.specs.Bounds.{counted}
use Rattle.machine_forms.specs.Immediate.{immediate, is_small, upper, lower}
use Rattle.machine_forms.specs.Piece.{Piece, instruction, jump_to}
use Rattle.machine_forms.specs.Registers.{zero_register, a0, a1, a2, register, saved_registers}
use Rattle.machine_forms.specs.Shape.{Shape, epilogue}
use Rattle.machine_forms.specs.KeptCode.{copied, restores, root_register}
use Rattle.machine_forms.specs.PlaceCode.{slot_stored, added, root_address, root_loaded, root_stored, place_address, place_stored, number_set}
use Rattle.machine_forms.specs.ValueCode.{Operand, read_in, brought, needs, unary_code, operator_code, operands_code, binary_code, addend, sum_code, value_code, operand, branch_operator, binary_test, test_code, unless_zero, if_zero, made_truth, branch_truth}
use Rattle.machine_forms.specs.CallCode.{argument_code, argument_passed, passed, arguments_passed, arguments_held, function_called, call_code, value_given}
use Rattle.machine_forms.specs.RuntimeCall.{runtime_call, throw_call, builtin_call, builtin_value}
use Rattle.machine_forms.specs.OperationCode.{dropped_code, whole_value, whole_register, value_kept, value_stored, called_at, destructor_set, op_code}
use Rattle.machine_forms.specs.LinearCode.{result_set, jump_same}
use Rattle.source_bounds.specs.OperationWords.{value_words, argument_words, arguments_words, op_words}
use Rattle.source_bounds.specs.WordLaws.{OperationsAreShort}

-- pieces behind others
pub counted-append : (a b : List Piece) → counted (a ++ b) ≡ counted a + counted b
counted-append [] b = omega arith
counted-append (x ∷ a) b = omega (arith, counted-append a b)

-- places and numbers

added_short : (rd n : ℕ) → counted (added rd n) ≤ 1
added_short rd n = go (n == 0)
  where
    go : (b : Bool) → counted (if b then [] else instruction (Addi rd rd (immediate (pos n))) ∷ []) ≤ 1
    go true = omega arith
    go false = omega arith

root_address_short : (f : Shape) (rd : ℕ) (r : Root) (n : ℕ) → counted (root_address f rd r n) ≤ 2
root_address_short f rd (in_slot s) n = omega arith
root_address_short f rd (through s) n = omega (arith, added_short rd n)
root_address_short f rd (in_global g) n = omega arith

address_short : (f : Shape) (rd : ℕ) (p : Place) → counted (place_address f rd p) ≤ 2
address_short f rd p = root_address_short f rd p.root p.offset

root_loaded_short : (f : Shape) (rd : ℕ) (r : Root) (n : ℕ) → counted (root_loaded f rd r n) ≤ 2
root_loaded_short f rd (in_slot s) n = omega arith
root_loaded_short f rd (through s) n = omega arith
root_loaded_short f rd (in_global g) n = omega arith

root_stored_short : (f : Shape) (value base : ℕ) (r : Root) (n : ℕ) → counted (root_stored f value base r n) ≤ 2
root_stored_short f value base (in_slot s) n = omega arith
root_stored_short f value base (through s) n = omega arith
root_stored_short f value base (in_global g) n = omega arith

number_short : (rd : ℕ) (v : ℤ) → counted (number_set rd v) ≤ 2
number_short rd v = go (is_small v)
  where
    go : (b : Bool) → counted (if b then instruction (Addi rd zero_register (immediate v)) ∷ []
        else instruction (Lui rd (upper v)) ∷ instruction (Addiw rd rd (lower v)) ∷ []) ≤ 2
    go true = omega arith
    go false = omega arith

-- values without calls

unary_short : (o : UnaryOp) (rd x : ℕ) → counted (unary_code o rd x) ≤ 1
unary_short Minus rd x = omega arith
unary_short Not rd x = omega arith

operator_short : (o : BinaryOp) (rd x y : ℕ) → counted (operator_code o rd x y) ≤ 2
operator_short Add rd x y = omega arith
operator_short Subtract rd x y = omega arith
operator_short Multiply rd x y = omega arith
operator_short Divide rd x y = omega arith
operator_short Remainder rd x y = omega arith
operator_short Less rd x y = omega arith
operator_short Greater rd x y = omega arith
operator_short LessEqual rd x y = omega arith
operator_short GreaterEqual rd x y = omega arith
operator_short Equal rd x y = omega arith
operator_short NotEqual rd x y = omega arith
operator_short And rd x y = omega arith
operator_short Or rd x y = omega arith

branch_short : (o : BinaryOp) (rd x y : ℕ) → counted (branch_operator o rd x y) ≤ 3
branch_short Add rd x y = omega arith
branch_short Subtract rd x y = omega arith
branch_short Multiply rd x y = omega arith
branch_short Divide rd x y = omega arith
branch_short Remainder rd x y = omega arith
branch_short Less rd x y = omega arith
branch_short Greater rd x y = omega arith
branch_short LessEqual rd x y = omega arith
branch_short GreaterEqual rd x y = omega arith
branch_short Equal rd x y = omega arith
branch_short NotEqual rd x y = omega arith
branch_short And rd x y = omega arith
branch_short Or rd x y = omega arith

-- an operand has its code or none
brought_short : (x : Operand) (n : ℕ) → ((k : ℕ) → counted (x.code k) ≤ n) → (k : ℕ) → counted (brought x k) ≤ n
brought_short x n h k = go x.held
  where
    go : (o : Option ℕ) → counted (elim o [ None ↦ x.code k | Some r ↦ [] ]) ≤ n
    go None = h k
    go (Some r) = omega arith

-- two operands, then what is done with them
module _ (x y : Operand) (n m : ℕ) (hx : (k : ℕ) → counted (x.code k) ≤ n) (hy : (k : ℕ) → counted (y.code k) ≤ m) where
  operands_short : (first : Bool) (k z : ℕ) (done : ℕ → ℕ → List Piece) → ((i j : ℕ) → counted (done i j) ≤ z) →
      counted (operands_code first k x y done) ≤ n + m + z
  operands_short true k z done h =
      omega (
        arith,
        counted-append (brought x k ++ brought y (k + 1)) (done (read_in x k) (read_in y (k + 1))),
        counted-append (brought x k) (brought y (k + 1)),
        brought_short x n hx k,
        brought_short y m hy (k + 1),
        h (read_in x k) (read_in y (k + 1)),
      )
  operands_short false k z done h =
      omega (
        arith,
        counted-append (brought y k ++ brought x (k + 1)) (done (read_in x (k + 1)) (read_in y k)),
        counted-append (brought y k) (brought x (k + 1)),
        brought_short y m hy k,
        brought_short x n hx (k + 1),
        h (read_in x (k + 1)) (read_in y k),
      )

  deciding_short : (rd k : ℕ) → counted (x.code k ++ unless_zero (register k) (y.code k) ++ made_truth rd (register k)) ≤ n + m + 3
  deciding_short rd k =
      omega (
        arith,
        counted-append (x.code k ++ unless_zero (register k) (y.code k)) (made_truth rd (register k)),
        counted-append (x.code k) (unless_zero (register k) (y.code k)),
        hx k,
        hy k,
      )

  choosing_short : (rd k : ℕ) → counted (x.code k ++ if_zero (register k) (y.code k) ++ made_truth rd (register k)) ≤ n + m + 3
  choosing_short rd k =
      omega (
        arith,
        counted-append (x.code k ++ if_zero (register k) (y.code k)) (made_truth rd (register k)),
        counted-append (x.code k) (if_zero (register k) (y.code k)),
        hx k,
        hy k,
      )

  binary_short : (o : BinaryOp) (first : Bool) (rd k : ℕ) → counted (binary_code o first rd k x y) ≤ n + m + 3
  binary_short And first rd k = deciding_short rd k
  binary_short Or first rd k = choosing_short rd k
  binary_short o first rd k =
      let short = operands_short first k 2 (operator_code o rd) (λ i j. operator_short o rd i j) in
      omega (arith, short)

  sum_short : (s : Option ℤ) (rd k : ℕ) (other : List Piece) → counted other ≤ n + m + 3 → counted (sum_code s rd k x other) ≤ n + m + 3
  sum_short None rd k other h = h
  sum_short (Some z) rd k other h =
      omega (arith, counted-append (brought x k) (instruction (Addiw rd (read_in x k) (immediate z)) ∷ []), brought_short x n hx k)

  test_short : (o : BinaryOp) (first : Bool) → counted (binary_test o first x y) ≤ n + m + 4
  test_short And first =
      let short = binary_short And first (register 0) 0 in
      omega (arith, short, counted-append (binary_code And first (register 0) 0 x y) (branch_truth (register 0)))
  test_short Or first =
      let short = binary_short Or first (register 0) 0 in
      omega (arith, short, counted-append (binary_code Or first (register 0) 0 x y) (branch_truth (register 0)))
  test_short o first =
      let short = operands_short first 0 3 (branch_operator o (register 0)) (λ i j. branch_short o (register 0) i j) in
      omega (arith, short)

value_short : (f : Shape) (v : Value) (rd k : ℕ) → counted (value_code f rd k v) ≤ value_words v
value_short f (number v) rd k = number_short rd v
value_short f (load p) rd k = root_loaded_short f rd p.root p.offset
value_short f (unary o v) rd k =
    let x : Operand = operand f v in
    omega (
      arith,
      counted-append (brought x k) (unary_code o rd (read_in x k)),
      brought_short x (value_words v) (λ n. value_short f v (register n) n) k,
      unary_short o rd (read_in x k),
    )
value_short f (binary o a b) rd k =
    let first = nat_le (needs b) (needs a) in
    let short = binary_short (operand f a) (operand f b) (value_words a) (value_words b) (λ n. value_short f a (register n) n) (λ n. value_short f b (register n) n) o first rd k in
    sum_short (operand f a) (operand f b) (value_words a) (value_words b) (λ n. value_short f a (register n) n) (λ n. value_short f b (register n) n) (addend o b) rd k
    (binary_code o first rd k (operand f a) (operand f b)) short
value_short f (call_value c args) rd k = omega arith

operand_short : (f : Shape) (v : Value) (k : ℕ) → counted (brought (operand f v) k) ≤ value_words v
operand_short f v k = brought_short (operand f v) (value_words v) (λ n. value_short f v (register n) n) k

any_tested_short : (f : Shape) (v : Value) → counted (brought (operand f v) 0 ++ branch_truth (read_in (operand f v) 0)) ≤ value_words v + 1
any_tested_short f v = omega (arith, counted-append (brought (operand f v) 0) (branch_truth (read_in (operand f v) 0)), operand_short f v 0)

tested_short : (f : Shape) (v : Value) → counted (test_code f v) ≤ value_words v + 1
tested_short f (number v) = any_tested_short f (number v)
tested_short f (load p) = any_tested_short f (load p)
tested_short f (unary o v) = any_tested_short f (unary o v)
tested_short f (binary o a b) =
    let short = test_short (operand f a) (operand f b) (value_words a) (value_words b) (λ n. value_short f a (register n) n) (λ n. value_short f b (register n) n) o
    (nat_le (needs b) (needs a)) in
    omega (arith, short)
tested_short f (call_value c args) = any_tested_short f (call_value c args)

-- arguments and calls

argument_short : (f : Shape) (k : ℕ) (a : Argument) → counted (argument_code f k a) ≤ argument_words a
argument_short f k (int_argument v) = value_short f v (register k) k
argument_short f k (address_argument p) = address_short f (register k) p
argument_short f k (handler_argument n) = omega arith

one_passed_short : (f : Shape) (i : ℕ) (a : Argument) → counted (argument_passed f i a) ≤ argument_words a + 1
one_passed_short f i (int_argument v) =
    omega (arith, counted-append (brought (operand f v) 0) (passed (read_in (operand f v) 0) i ∷ []), operand_short f v 0)
one_passed_short f i (address_argument p) =
    omega (arith, counted-append (argument_code f 0 (address_argument p)) (passed (register 0) i ∷ []), argument_short f 0 (address_argument p))
one_passed_short f i (handler_argument n) = omega arith

passed_short : (f : Shape) (i : ℕ) (args : Arguments) → counted (arguments_passed f i args) ≤ arguments_words args
passed_short f i no_arguments = omega arith
passed_short f i (argument_then a args) =
    omega (arith, counted-append (argument_passed f i a) (arguments_passed f (i + 1) args), one_passed_short f i a, passed_short f (i + 1) args)

held_short : (f : Shape) (k : ℕ) (args : Arguments) → counted (arguments_held f k args) ≤ arguments_words args
held_short f k no_arguments = omega arith
held_short f k (argument_then a args) =
    omega (arith, counted-append (argument_code f k a) (arguments_held f (k + 1) args), argument_short f k a, held_short f (k + 1) args)

builtin_short : (b : Builtin) → counted (builtin_call b) ≤ 2
builtin_short WriteInt = omega arith
builtin_short ReadByte = omega arith
builtin_short Exit = omega arith
builtin_short Module = omega arith
builtin_short Cancel = omega arith
builtin_short Terminate = omega arith
builtin_short SetTerminate = omega arith
builtin_short SetUnexpected = omega arith
builtin_short Uncaught = omega arith
builtin_short BadException = omega arith

given_short : (b : Builtin) → counted (builtin_value b) ≤ 1
given_short WriteInt = omega arith
given_short ReadByte = omega arith
given_short Exit = omega arith
given_short Module = omega arith
given_short Cancel = omega arith
given_short Terminate = omega arith
given_short SetTerminate = omega arith
given_short SetUnexpected = omega arith
given_short Uncaught = omega arith
given_short BadException = omega arith

call_short : (f : Shape) (c : Callee) (args : Arguments) → counted (call_code f c args) ≤ arguments_words args + 2
call_short f (defined n) args =
    omega (arith, counted-append (arguments_passed f 0 args) (function_called (compiled n)), passed_short f 0 args)
call_short f (builtin b) args = omega (arith, counted-append (arguments_held f 0 args) (builtin_call b), held_short f 0 args, builtin_short b)

value_given_short : (c : Callee) → counted (value_given c) ≤ 1
value_given_short (defined n) = omega arith
value_given_short (builtin b) = given_short b

whole_short : (f : Shape) (v : Value) → counted (whole_value f v) ≤ value_words v
whole_short f (number v) = operand_short f (number v) 0
whole_short f (load p) = operand_short f (load p) 0
whole_short f (unary o v) = operand_short f (unary o v) 0
whole_short f (binary o a b) = operand_short f (binary o a b) 0
whole_short f (call_value c args) = omega (arith, counted-append (call_code f c args) (value_given c), call_short f c args, value_given_short c)

copied_short : (f : Shape) (rd : ℕ) (v : Value) → counted (whole_value f v ++ instruction (copied rd (whole_register f v)) ∷ []) ≤ value_words v + 1
copied_short f rd v = omega (arith, counted-append (whole_value f v) (instruction (copied rd (whole_register f v)) ∷ []), whole_short f v)

kept_short : (f : Shape) (rd : ℕ) (v : Value) → counted (value_kept f rd v) ≤ value_words v + 1
kept_short f rd (number v) = omega (arith, value_short f (number v) rd 0)
kept_short f rd (load p) = copied_short f rd (load p)
kept_short f rd (unary o v) = omega (arith, value_short f (unary o v) rd 0)
kept_short f rd (binary o a b) = omega (arith, value_short f (binary o a b) rd 0)
kept_short f rd (call_value c args) = copied_short f rd (call_value c args)

stored_short : (f : Shape) (r : Option ℕ) (p : Place) (v : Value) → counted (value_stored f r p v) ≤ value_words v + 2
stored_short f (Some rd) p v = omega (arith, kept_short f rd v)
stored_short f None p v =
    omega (
      arith,
      counted-append (whole_value f v) (place_stored f (whole_register f v) (register 1) p),
      whole_short f v,
      root_stored_short f (whole_register f v) (register 1) p.root p.offset,
    )

dropped_short : (f : Shape) (v : Value) → counted (dropped_code f v) ≤ value_words v
dropped_short f (call_value c args) = omega (arith, call_short f c args)
dropped_short f v = omega arith

called_short : (f : Shape) (p : Place) (n : ℕ) (args : Arguments) → counted (called_at f p n args) ≤ arguments_words args + 5
called_short f p n args =
    omega (
      arith,
      counted-append (place_address f a0 p ++ passed a0 0 ∷ arguments_passed f 1 args) (function_called (compiled n)),
      counted-append (place_address f a0 p) (passed a0 0 ∷ arguments_passed f 1 args),
      address_short f a0 p,
      passed_short f 1 args,
    )

destructor_short : (rd : ℕ) (d : Option ℕ) → counted (destructor_set rd d) ≤ 2
destructor_short rd None = number_short rd (pos 0)
destructor_short rd (Some d) = omega arith

-- operations

op_short : (f : Shape) (o : Op) → counted (op_code f o) ≤ op_words o
op_short f (evaluate v) = dropped_short f v
op_short f (store p v) = stored_short f (root_register f p.root) p v
op_short f (bind s p) = omega (arith, counted-append (place_address f a0 p) (slot_stored f a0 s ∷ []), address_short f a0 p)
op_short f (call c args) = call_short f c args
op_short f (construct p n args) = called_short f p n args
op_short f (destroy p n) = called_short f p n no_arguments
op_short f (make s) = omega arith
op_short f (throw s t d) =
    omega (arith, counted-append (destructor_set a2 d) (runtime_call throw_call), destructor_short a2 d)
op_short f rethrow = omega arith
op_short f (enter s) = omega arith
op_short f leave = omega arith

result_short : (f : Shape) (result : Option ℕ) → counted (result_set f result) ≤ 1
result_short f None = omega arith
result_short f (Some s) = omega arith

restores_short : (f : Shape) (rs ks : List ℕ) → counted (restores f rs ks) ≤ length rs
restores_short f [] ks = omega arith
restores_short f (r ∷ rs) [] = omega arith
restores_short f (r ∷ rs) (k ∷ ks) = omega (arith, restores_short f rs ks)

pub operations_are_short : OperationsAreShort
operations_are_short f (plain o) = op_short f o
operations_are_short f (label l) = omega arith
operations_are_short f (jump l) = omega arith
operations_are_short f (jump_zero v l) = omega (arith, counted-append (test_code f v) (jump_to l ∷ []), tested_short f v)
operations_are_short f (pad o s) = omega arith
operations_are_short f (jump_filter s n l) =
    omega (arith, counted-append (number_set a1 n) (jump_same a0 a1 l), number_short a1 n)
operations_are_short f (free s) = omega arith
operations_are_short f (resume s) = omega arith
operations_are_short f (unexpected o s) = omega arith
operations_are_short f (return result) =
    omega (
      arith,
      counted-append (result_set f result ++ restores f saved_registers f.kept) (epilogue f),
      counted-append (result_set f result) (restores f saved_registers f.kept),
      result_short f result,
      restores_short f saved_registers f.kept,
    )
