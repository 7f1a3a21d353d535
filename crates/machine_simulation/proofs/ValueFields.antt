-- The fields of the pieces of values and places are in their ranges.
use Rattle.std.proofs.Common.{◌≡◌, refl, arith, ℕ, zero, suc, ◌+◌, ◌<◌, ◌^◌, ℤ, pos, List, [], ◌∷◌, ◌++◌, length, length-append, Option, Some, None}
use Rattle.std.specs.Prelude.{◌==◌, nat_le, Bool, true, false, slice_get, unwrap_or}
use Rattle.std.specs.List.{AllByRecursion}
use Rattle.std.proofs.lemmas.Bool.{cond_both}
use Rattle.cxx_ast.specs.declared.expression.UnaryOp.{UnaryOp}
use Rattle.cxx_ast.specs.declared.expression.UnaryOp.TheVariants.{Minus, Not}
use Rattle.cxx_ast.specs.declared.expression.BinaryOp.{BinaryOp}
use Rattle.cxx_ast.specs.declared.expression.BinaryOp.TheVariants.{Add, Subtract, Multiply, Divide, Remainder, Less, Greater, LessEqual, GreaterEqual, Equal, NotEqual, And, Or}
use Rattle.rv64_isa.specs.declared.instr.Instr.TheVariants.{Lui, Addi, Addiw}
use Rattle.region_forms.specs.Form.{Root, in_slot, through, in_global, Value, number, load, unary, binary, call_value}
use Rattle.machine_forms.specs.Immediate.{immediate, is_small, upper, lower}
use Rattle.machine_forms.specs.Registers.{zero_register, value_registers, register}
use Rattle.machine_forms.specs.Piece.{Piece, instruction}
use Rattle.machine_forms.specs.Shape.{Shape, slot_offset}
use Rattle.machine_forms.specs.PlaceCode.{added, root_address, root_loaded, root_stored, number_set}
use Rattle.machine_forms.specs.KeptCode.{register_of, root_register, int_read}
use Rattle.machine_forms.specs.ValueCode.{needs, made_truth, unary_code, operator_code, unless_zero, if_zero, Operand, read_in, brought, operands_code, binary_code, addend, sum_code, held_in, value_code, operand, branch_truth, branch_operator, binary_test, test_code}
use Rattle.machine_pieces.specs.Standing.{PieceFits}
use Rattle.machine_pieces.proofs.Fetching.{immediate_small, upper_small}
use Rattle.machine_pieces.proofs.Keeping.{register_is}

abbrev pub AllFit : List Piece → Type 0
AllFit ps = AllByRecursion PieceFits ps

pub all_then : (xs ys : List Piece) → AllFit xs → AllFit ys → AllFit (xs ++ ys)
all_then [] ys hx hy = hy
all_then (x ∷ xs) ys hx hy = (hx.0, all_then xs ys hx.1 hy)

-- ---- registers

small_in : (xs : List ℕ) (k : ℕ) → AllByRecursion (λ r. r < 32) xs → unwrap_or (slice_get xs k) 0 < 32
small_in [] k h = omega arith
small_in (x ∷ xs) zero h = h.0
small_in (x ∷ xs) (suc k) h = small_in xs k h.1

pub register_small : (k : ℕ) → register k < 32
register_small k = small_in value_registers k
    (omega arith, (omega arith, (omega arith, (omega arith, (omega arith, (omega arith, (omega arith, (omega arith, (omega arith, (omega arith, (omega arith, (omega arith, (omega arith, (omega arith, (omega arith, tt)))))))))))))))

-- ---- places

pub number_fits : (rd : ℕ) (v : ℤ) → rd < 32 → AllFit (number_set rd v)
number_fits rd v small = cond_both (is_small v) (instruction (Addi rd zero_register (immediate v)) ∷ []) (instruction (Lui rd (upper v)) ∷ instruction (Addiw rd rd (lower v)) ∷ []) AllFit
    (λ e. ((small, omega arith, immediate_small v), tt)) (λ e. ((small, upper_small v), ((small, small, immediate_small v), tt)))

pub added_fits : (rd n : ℕ) → rd < 32 → AllFit (added rd n)
added_fits rd n small = cond_both (n == 0) [] (instruction (Addi rd rd (immediate (pos n))) ∷ []) AllFit (λ e. tt) (λ e. ((small, small, immediate_small (pos n)), tt))

pub address_fits : (f : Shape) (rd : ℕ) (root : Root) (n : ℕ) → rd < 32 → AllFit (root_address f rd root n)
address_fits f rd (in_slot s) n small = ((small, omega arith, immediate_small (pos (slot_offset f s + n))), tt)
address_fits f rd (through s) n small = ((small, omega arith, immediate_small (pos (slot_offset f s + 0))), added_fits rd n small)
address_fits f rd (in_global g) n small = (small, (small, tt))

-- the register of a kept variable
pub kept_small : (f : Shape) (s r : ℕ) → register_of f.kept s ≡ Some r → r < 32
kept_small f s r e = (register_is f.kept s r e).below

pub root_small : (f : Shape) (root : Root) (r : ℕ) → root_register f root ≡ Some r → r < 32
root_small f (in_slot s) r e = kept_small f s r e
root_small f (through s) r e = absurd (cc e)
root_small f (in_global g) r e = absurd (cc e)

-- an int is read from there or from memory
pub read_fits : (f : Shape) (s rd n : ℕ) → rd < 32 → PieceFits (instruction (int_read (register_of f.kept s) rd (immediate (pos n))))
read_fits f s rd n small = by (register_of f.kept s) refl
  where
    by : (o : Option ℕ) → register_of f.kept s ≡ o → PieceFits (instruction (int_read o rd (immediate (pos n))))
    by None e = (small, omega arith, immediate_small (pos n))
    by (Some r) e = (small, kept_small f s r e, omega arith)

pub load_fits : (f : Shape) (rd : ℕ) (root : Root) (n : ℕ) → rd < 32 → AllFit (root_loaded f rd root n)
load_fits f rd (in_slot s) n small = (read_fits f s rd (slot_offset f s + n) small, tt)
load_fits f rd (through s) n small = ((small, omega arith, immediate_small (pos (slot_offset f s + 0))), ((small, small, immediate_small (pos n)), tt))
load_fits f rd (in_global g) n small = (small, (small, tt))

pub store_fits : (f : Shape) (value base : ℕ) (root : Root) (n : ℕ) → value < 32 → base < 32 → AllFit (root_stored f value base root n)
store_fits f value base (in_slot s) n sv sb = ((omega arith, sv, immediate_small (pos (slot_offset f s + n))), tt)
store_fits f value base (through s) n sv sb = ((sb, omega arith, immediate_small (pos (slot_offset f s + 0))), ((sb, sv, immediate_small (pos n)), tt))
store_fits f value base (in_global g) n sv sb = (sb, ((sv, sb), tt))

-- ---- operators

unary_fits : (o : UnaryOp) (rd a : ℕ) → rd < 32 → a < 32 → AllFit (unary_code o rd a)
unary_fits Minus rd a sd sa = ((sd, omega arith, sa), tt)
unary_fits Not rd a sd sa = ((sd, sa, omega arith), tt)

operator_fits : (o : BinaryOp) (rd a b : ℕ) → rd < 32 → a < 32 → b < 32 → AllFit (operator_code o rd a b)
operator_fits Add rd a b sd sa sb = ((sd, sa, sb), tt)
operator_fits Subtract rd a b sd sa sb = ((sd, sa, sb), tt)
operator_fits Multiply rd a b sd sa sb = ((sd, sa, sb), tt)
operator_fits Divide rd a b sd sa sb = ((sd, sa, sb), tt)
operator_fits Remainder rd a b sd sa sb = ((sd, sa, sb), tt)
operator_fits Less rd a b sd sa sb = ((sd, sa, sb), tt)
operator_fits Greater rd a b sd sa sb = ((sd, sb, sa), tt)
operator_fits LessEqual rd a b sd sa sb = ((sd, sb, sa), ((sd, sd, omega arith), tt))
operator_fits GreaterEqual rd a b sd sa sb = ((sd, sa, sb), ((sd, sd, omega arith), tt))
operator_fits Equal rd a b sd sa sb = ((sd, sa, sb), ((sd, sd, omega arith), tt))
operator_fits NotEqual rd a b sd sa sb = ((sd, sa, sb), ((sd, omega arith, sd), tt))
operator_fits And rd a b sd sa sb = tt
operator_fits Or rd a b sd sa sb = tt

branch_fits : (o : BinaryOp) (rd a b : ℕ) → rd < 32 → a < 32 → b < 32 → AllFit (branch_operator o rd a b)
branch_fits Less rd a b sd sa sb = ((sa, sb, omega arith), tt)
branch_fits Greater rd a b sd sa sb = ((sb, sa, omega arith), tt)
branch_fits LessEqual rd a b sd sa sb = ((sb, sa, omega arith), tt)
branch_fits GreaterEqual rd a b sd sa sb = ((sa, sb, omega arith), tt)
branch_fits Equal rd a b sd sa sb = ((sa, sb, omega arith), tt)
branch_fits NotEqual rd a b sd sa sb = ((sa, sb, omega arith), tt)
branch_fits Add rd a b sd sa sb = ((sd, sa, sb), ((sd, omega arith, omega arith), tt))
branch_fits Subtract rd a b sd sa sb = ((sd, sa, sb), ((sd, omega arith, omega arith), tt))
branch_fits Multiply rd a b sd sa sb = ((sd, sa, sb), ((sd, omega arith, omega arith), tt))
branch_fits Divide rd a b sd sa sb = ((sd, sa, sb), ((sd, omega arith, omega arith), tt))
branch_fits Remainder rd a b sd sa sb = ((sd, sa, sb), ((sd, omega arith, omega arith), tt))
branch_fits And rd a b sd sa sb = ((sd, omega arith, omega arith), tt)
branch_fits Or rd a b sd sa sb = ((sd, omega arith, omega arith), tt)

-- code that may be passed over is short
unless_fits : (rd : ℕ) (code : List Piece) → rd < 32 → length code < 2 ^ 18 → AllFit code → AllFit (unless_zero rd code)
unless_fits rd code small short h = ((small, omega arith, omega arith), ((omega arith, omega (arith, short)), h))

if_fits : (rd : ℕ) (code : List Piece) → rd < 32 → length code < 2 ^ 18 → AllFit code → AllFit (if_zero rd code)
if_fits rd code small short h = ((small, omega arith, omega arith), ((omega arith, omega (arith, short)), h))

-- parts of short code are short
pub front_short : (xs ys : List Piece) → length (xs ++ ys) < 2 ^ 18 → length xs < 2 ^ 18
front_short xs ys short = omega (arith, short, length-append xs ys)

pub rear_short : (xs ys : List Piece) → length (xs ++ ys) < 2 ^ 18 → length ys < 2 ^ 18
rear_short xs ys short = omega (arith, short, length-append xs ys)

-- an operand is in a register of a kept variable, or its code is in whatever register it works, if it is short
pub record OperandFits (x : Operand) : Type 0 where
  pub code : (k : ℕ) → length (x.code k) < 2 ^ 18 → AllFit (x.code k)
  pub held : (r : ℕ) → x.held ≡ Some r → r < 32

pub brought_fits : (x : Operand) (k : ℕ) → OperandFits x → length (brought x k) < 2 ^ 18 → AllFit (brought x k)
brought_fits x k h short = by x.held short
  where
    by : (o : Option ℕ) → length (brought (record { held = o; code = x.code }) k) < 2 ^ 18 → AllFit (brought (record { held = o; code = x.code }) k)
    by None few = h.code k few
    by (Some r) few = tt

pub read_small : (x : Operand) (k : ℕ) → OperandFits x → read_in x k < 32
read_small x k h = by x.held refl
  where
    by : (o : Option ℕ) → x.held ≡ o → unwrap_or o (register k) < 32
    by None e = register_small k
    by (Some r) e = h.held r e

-- two operands, and what is done with them
operands_fit : (left : Bool) (k : ℕ) (x y : Operand) (made : ℕ → ℕ → List Piece) → OperandFits x → OperandFits y → ((a b : ℕ) → a < 32 → b < 32 → AllFit (made a b)) → length (operands_code left k x y made) < 2 ^ 18 →
    AllFit (operands_code left k x y made)
operands_fit true k x y made hx hy fits short =
    let one : List Piece = brought x k in
    let two : List Piece = brought y (k + 1) in
    let last : List Piece = made (read_in x k) (read_in y (k + 1)) in
    let front = front_short (one ++ two) last short in
    all_then (one ++ two) last (all_then one two (brought_fits x k hx (front_short one two front)) (brought_fits y (k + 1) hy (rear_short one two front))) (fits (read_in x k) (read_in y (k + 1)) (read_small x k hx) (read_small y (k + 1) hy))
operands_fit false k x y made hx hy fits short =
    let one : List Piece = brought y k in
    let two : List Piece = brought x (k + 1) in
    let last : List Piece = made (read_in x (k + 1)) (read_in y k) in
    let front = front_short (one ++ two) last short in
    all_then (one ++ two) last (all_then one two (brought_fits y k hy (front_short one two front)) (brought_fits x (k + 1) hx (rear_short one two front))) (fits (read_in x (k + 1)) (read_in y k) (read_small x (k + 1) hx) (read_small y k hy))

plain_fits : (o : BinaryOp) (left : Bool) (rd k : ℕ) (x y : Operand) → rd < 32 → OperandFits x → OperandFits y → length (operands_code left k x y (operator_code o rd)) < 2 ^ 18 → AllFit (operands_code left k x y (operator_code o rd))
plain_fits o left rd k x y small hx hy short = operands_fit left k x y (operator_code o rd) hx hy (λ a b sa sb. operator_fits o rd a b small sa sb) short

-- a left operand, then a right one that may be passed over
decided_fits : (rd k : ℕ) (x y : Operand) (over : List Piece → List Piece) → rd < 32 → OperandFits x → OperandFits y → ((code : List Piece) → length (over code) ≡ length code + 2) →
    ((code : List Piece) → length code < 2 ^ 18 → AllFit code → AllFit (over code)) → length (x.code k ++ over (y.code k) ++ made_truth rd (register k)) < 2 ^ 18 → AllFit (x.code k ++ over (y.code k) ++ made_truth rd (register k))
decided_fits rd k x y over small hx hy more fits short =
    let one : List Piece = x.code k in
    let two : List Piece = over (y.code k) in
    let last : List Piece = made_truth rd (register k) in
    let front = front_short (one ++ two) last short in
    let right : length (y.code k) < 2 ^ 18 = omega (arith, rear_short one two front, more (y.code k)) in
    all_then (one ++ two) last (all_then one two (hx.code k (front_short one two front)) (fits (y.code k) right (hy.code k right))) ((small, omega arith, register_small k), tt)

binary_fits : (o : BinaryOp) (left : Bool) (rd k : ℕ) (x y : Operand) → rd < 32 → OperandFits x → OperandFits y → length (binary_code o left rd k x y) < 2 ^ 18 → AllFit (binary_code o left rd k x y)
binary_fits And left rd k x y small hx hy short =
    decided_fits rd k x y (unless_zero (register k)) small hx hy (λ code. omega arith) (λ code few h. unless_fits (register k) code (register_small k) few h) short
binary_fits Or left rd k x y small hx hy short = decided_fits rd k x y (if_zero (register k)) small hx hy (λ code. omega arith) (λ code few h. if_fits (register k) code (register_small k) few h) short
binary_fits Add left rd k x y small hx hy short = plain_fits Add left rd k x y small hx hy short
binary_fits Subtract left rd k x y small hx hy short = plain_fits Subtract left rd k x y small hx hy short
binary_fits Multiply left rd k x y small hx hy short = plain_fits Multiply left rd k x y small hx hy short
binary_fits Divide left rd k x y small hx hy short = plain_fits Divide left rd k x y small hx hy short
binary_fits Remainder left rd k x y small hx hy short = plain_fits Remainder left rd k x y small hx hy short
binary_fits Less left rd k x y small hx hy short = plain_fits Less left rd k x y small hx hy short
binary_fits Greater left rd k x y small hx hy short = plain_fits Greater left rd k x y small hx hy short
binary_fits LessEqual left rd k x y small hx hy short = plain_fits LessEqual left rd k x y small hx hy short
binary_fits GreaterEqual left rd k x y small hx hy short = plain_fits GreaterEqual left rd k x y small hx hy short
binary_fits Equal left rd k x y small hx hy short = plain_fits Equal left rd k x y small hx hy short
binary_fits NotEqual left rd k x y small hx hy short = plain_fits NotEqual left rd k x y small hx hy short

-- a small number is added, or there is other code
sum_fits : (n : Option ℤ) (rd k : ℕ) (x : Operand) (other : List Piece) → rd < 32 → OperandFits x → (length other < 2 ^ 18 → AllFit other) → length (sum_code n rd k x other) < 2 ^ 18 → AllFit (sum_code n rd k x other)
sum_fits None rd k x other small hx fits short = fits short
sum_fits (Some n) rd k x other small hx fits short =
    let one : List Piece = brought x k in
    let last : List Piece = instruction (Addiw rd (read_in x k) (immediate n)) ∷ [] in
    all_then one last (brought_fits x k hx (front_short one last short)) ((small, read_small x k hx, immediate_small n), tt)

-- ---- values

pub held_small : (f : Shape) (v : Value) (r : ℕ) → held_in f v ≡ Some r → r < 32
held_small f (number v) r e = absurd (cc e)
held_small f (load p) r e = root_small f p.root r e
held_small f (unary o v) r e = absurd (cc e)
held_small f (binary o a b) r e = absurd (cc e)
held_small f (call_value c args) r e = absurd (cc e)

pub value_fits : (f : Shape) (v : Value) (rd k : ℕ) → rd < 32 → length (value_code f rd k v) < 2 ^ 18 → AllFit (value_code f rd k v)
value_fits f (number v) rd k small short = number_fits rd v small
value_fits f (load p) rd k small short = load_fits f rd p.root p.offset small
value_fits f (unary o v) rd k small short =
    let x : Operand = operand f v in
    let hx : OperandFits x = record { code = λ n s. value_fits f v (register n) n (register_small n) s; held = λ r e. held_small f v r e } in
    let one : List Piece = brought x k in
    let last : List Piece = unary_code o rd (read_in x k) in
    all_then one last (brought_fits x k hx (front_short one last short)) (unary_fits o rd (read_in x k) small (read_small x k hx))
value_fits f (binary o a b) rd k small short =
    let x : Operand = operand f a in
    let y : Operand = operand f b in
    let hx : OperandFits x = record { code = λ n s. value_fits f a (register n) n (register_small n) s; held = λ r e. held_small f a r e } in
    let hy : OperandFits y = record { code = λ n s. value_fits f b (register n) n (register_small n) s; held = λ r e. held_small f b r e } in
    sum_fits (addend o b) rd k x (binary_code o (nat_le (needs b) (needs a)) rd k x y) small hx (λ few. binary_fits o (nat_le (needs b) (needs a)) rd k x y small hx hy few) short
value_fits f (call_value c args) rd k small short = tt

pub operand_fits : (f : Shape) (v : Value) → OperandFits (operand f v)
operand_fits f v = record { code = λ n s. value_fits f v (register n) n (register_small n) s; held = λ r e. held_small f v r e }

-- ---- tests

truth_fits : (a : ℕ) → a < 32 → AllFit (branch_truth a)
truth_fits a small = ((small, omega arith, omega arith), tt)

test_plain : (o : BinaryOp) (left : Bool) (x y : Operand) → OperandFits x → OperandFits y → length (operands_code left 0 x y (branch_operator o (register 0))) < 2 ^ 18 → AllFit (operands_code left 0 x y (branch_operator o (register 0)))
test_plain o left x y hx hy short = operands_fit left 0 x y (branch_operator o (register 0)) hx hy (λ a b sa sb. branch_fits o (register 0) a b (register_small 0) sa sb) short

test_by : (o : BinaryOp) (left : Bool) (x y : Operand) → OperandFits x → OperandFits y → length (binary_test o left x y) < 2 ^ 18 → AllFit (binary_test o left x y)
test_by And left x y hx hy short =
    let code : List Piece = binary_code And left (register 0) 0 x y in
    all_then code (branch_truth (register 0)) (binary_fits And left (register 0) 0 x y (register_small 0) hx hy (front_short code (branch_truth (register 0)) short)) (truth_fits (register 0) (register_small 0))
test_by Or left x y hx hy short =
    let code : List Piece = binary_code Or left (register 0) 0 x y in
    all_then code (branch_truth (register 0)) (binary_fits Or left (register 0) 0 x y (register_small 0) hx hy (front_short code (branch_truth (register 0)) short)) (truth_fits (register 0) (register_small 0))
test_by Add left x y hx hy short = test_plain Add left x y hx hy short
test_by Subtract left x y hx hy short = test_plain Subtract left x y hx hy short
test_by Multiply left x y hx hy short = test_plain Multiply left x y hx hy short
test_by Divide left x y hx hy short = test_plain Divide left x y hx hy short
test_by Remainder left x y hx hy short = test_plain Remainder left x y hx hy short
test_by Less left x y hx hy short = test_plain Less left x y hx hy short
test_by Greater left x y hx hy short = test_plain Greater left x y hx hy short
test_by LessEqual left x y hx hy short = test_plain LessEqual left x y hx hy short
test_by GreaterEqual left x y hx hy short = test_plain GreaterEqual left x y hx hy short
test_by Equal left x y hx hy short = test_plain Equal left x y hx hy short
test_by NotEqual left x y hx hy short = test_plain NotEqual left x y hx hy short

value_test : (f : Shape) (v : Value) → length (brought (operand f v) 0 ++ branch_truth (read_in (operand f v) 0)) < 2 ^ 18 → AllFit (brought (operand f v) 0 ++ branch_truth (read_in (operand f v) 0))
value_test f v short =
    let code : List Piece = brought (operand f v) 0 in
    let last : List Piece = branch_truth (read_in (operand f v) 0) in
    all_then code last (brought_fits (operand f v) 0 (operand_fits f v) (front_short code last short)) (truth_fits (read_in (operand f v) 0) (read_small (operand f v) 0 (operand_fits f v)))

pub test_fits : (f : Shape) (v : Value) → length (test_code f v) < 2 ^ 18 → AllFit (test_code f v)
test_fits f (number v) short = value_test f (number v) short
test_fits f (load p) short = value_test f (load p) short
test_fits f (unary o v) short = value_test f (unary o v) short
test_fits f (binary o a b) short = test_by o (nat_le (needs b) (needs a)) (operand f a) (operand f b) (operand_fits f a) (operand_fits f b) short
test_fits f (call_value c args) short = value_test f (call_value c args) short
