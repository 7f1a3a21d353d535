-- The test of a jump on a condition: a branch goes over one word where the value is not 0.
use Rattle.std.proofs.Common.{◌≡◌, ◌∙◌, refl, sym, ap, subst, arith, ℕ, ◌+◌, ◌^◌, ◌<◌, ◌≤◌, ◌==◌, ℤ, Bool, true, false, cond, List, [], ◌∷◌, ◌++◌, length, length-append, append_assoc, Option, Some, None}
use Rattle.std.specs.Prelude.{not, nat_le, int_lt, int_le}
use Rattle.std.proofs.lemmas.Bool.{leb-true, leb-false}
use Rattle.cxx_ast.specs.declared.expression.BinaryOp.{BinaryOp}
use Rattle.cxx_ast.specs.declared.expression.BinaryOp.TheVariants.{Add, Subtract, Multiply, Divide, Remainder, Less, Greater, LessEqual, GreaterEqual, Equal, NotEqual, And, Or}
use Rattle.meaning_forms.specs.Arithmetic.{is_zero, truth, int_equal, decided}
use Rattle.rv64_isa.specs.declared.instr.Instr.{Instr}
use Rattle.rv64_isa.specs.declared.instr.Instr.TheVariants.{Beq, Bne, Blt, Bge}
use Rattle.rv64_isa.specs.Arithmetic.{is_less}
use Rattle.rv64_isa.specs.State.{State}
use Rattle.rv64_isa.specs.Step.{branches, x, done}
use Rattle.region_forms.specs.Form.{Kinds, Value, number, load, unary, binary, call_value}
use Rattle.region_forms.specs.World.{Frame, World}
use Rattle.region_forms.specs.Evaluation.{with_some, with_right, value_in}
use Rattle.machine_forms.specs.Registers.{register, zero_register}
use Rattle.machine_forms.specs.Piece.{Piece, instruction, placed}
use Rattle.machine_forms.specs.Shape.{Shape}
use Rattle.machine_forms.specs.ValueCode.{operator_needs, needs, operator_code, Operand, read_in, brought, operands_code, binary_code, value_code, operand, branch_truth, binary_test, test_code}
use Rattle.machine_pieces.specs.Numbers.{extended}
use Rattle.machine_pieces.specs.Standing.{Ground, address, PieceAt, PiecesAt}
use Rattle.machine_pieces.specs.Going.{Goes, passed_over}
use Rattle.machine_pieces.specs.Frames.{Setting, ValueStands, Ready}
use Rattle.machine_pieces.specs.Laws.{ValuesAreComputed}
use Rattle.machine_pieces.proofs.Numbers.{less_extended, not_less, same_extended}
use Rattle.machine_pieces.proofs.Fetching.{pieces_split}
use Rattle.machine_pieces.proofs.Going.{goes_then, goes_as, may_set}
use Rattle.machine_pieces.proofs.Branching.{branch_taken, branch_passed}
use Rattle.machine_pieces.proofs.Operators.{Operands, IsPlain}
use Rattle.machine_pieces.proofs.Values.{Evaluates, Serves, both, binary_right, needs_plain, left_fits, right_fits, bne_done, beq_done, zero_there, code_after, gives_of, kept_sets, operator_some, read_aside, value_evaluates, value_serves, needs_some}

-- a test, with a word behind it
pub record Tests (t : Setting) (f : Shape) (kinds : Kinds) (frame : Frame) (w : World) (code : List Piece) (need : ℕ) (z : ℤ) : Type 0 where
  pub run : (here : ℕ) (s : State) (y : Piece) → need ≤ 15 → length code < 2 ^ 18 → PiecesAt s.memory t.ground here (code ++ y ∷ []) → s.pc ≡ address t.ground here → Ready t f kinds frame w s →
      Goes t.ground here (length code + passed_over z) 0 s

-- the branch
branch_by : (g : Ground) (here : ℕ) (b y : Piece) (s : State) (z : ℤ) (zero_there : Bool) → is_zero z ≡ zero_there → PieceAt s.memory g here b → PieceAt s.memory g (here + 1) y → s.pc ≡ address g here → length s.regs ≡ 32 →
    done (placed g.places here b) s ≡ branches s (not zero_there) 4 → Goes g here (1 + passed_over z) 0 s
branch_by g here b y s z true e h next at regs does = goes_as g here 1 (1 + passed_over z) 0 s (ap (λ c. 1 + cond c 0 1) (sym e)) (branch_passed g here 0 b s h at regs does)
branch_by g here b y s z false e h next at regs does = goes_as g here 2 (1 + passed_over z) 0 s (ap (λ c. 1 + cond c 0 1) (sym e)) (branch_taken g here 0 b y s h next at regs does)

-- a branch behind code
branch_behind : (g : Ground) (here : ℕ) (front : List Piece) (b y : Piece) (s : State) (z : ℤ) (first : Goes g here (length front) 0 s) → PiecesAt s.memory g here (front ++ (b ∷ y ∷ [])) →
    done (placed g.places (here + length front) b) first.after ≡ branches first.after (not (is_zero z)) 4 → Goes g here (length (front ++ b ∷ []) + passed_over z) 0 s
branch_behind g here front b y s z first code does =
    let parts = pieces_split s.memory g here front (b ∷ y ∷ []) code in
    let there : ℕ = here + length front in
    let h = code_after g here (length front) 0 there (b ∷ y ∷ []) s first parts.1 in
    let second = branch_by g there b y first.after z (is_zero z) refl h.0 h.1.0 first.pc first.registers does in
    let sum : length front + (1 + passed_over z) ≡ length (front ++ b ∷ []) + passed_over z = omega (arith, length-append front (b ∷ [])) in
    goes_as g here (length front + (1 + passed_over z)) (length (front ++ b ∷ []) + passed_over z) 0 s sum (goes_then g here (length front) (1 + passed_over z) 0 0 s first (omega arith) second)

-- the value, and a branch where its register is not 0
value_tests : (t : Setting) (f : Shape) (kinds : Kinds) (frame : Frame) (w : World) (code : (rd k : ℕ) → List Piece) (need : ℕ) (z : ℤ) → Evaluates t f kinds frame w code need z → 0 < need →
    Tests t f kinds frame w (code (register 0) 0 ++ branch_truth (register 0)) need z
value_tests t f kinds frame w code need z h some = record {
  run = λ here s y fits short pieces at ready.
      let g : Ground = t.ground in
      let b : Piece = instruction (Bne (register 0) zero_register 4) in
      let all : PiecesAt s.memory g here (code (register 0) 0 ++ (b ∷ y ∷ [])) = subst (PiecesAt s.memory g here) (append_assoc (code (register 0) 0) (b ∷ []) (y ∷ [])) pieces in
      let parts = pieces_split s.memory g here (code (register 0) 0) (b ∷ y ∷ []) all in
      let front : List Piece = code (register 0) 0 in
      let one = gives_of g here (length front) 0 s z (omega arith) (h.run (register 0) 0 here s (may_set 0 (omega arith)) (omega (arith, fits)) (omega (arith, length-append front (b ∷ []), short)) parts.0 at ready) in
      let m : State = one.computes.goes.after in
      branch_behind g here (code (register 0) 0) b y s z one.computes.goes all (bne_done (register 0) zero_register 4 m ∙ ap (λ c. branches m (not c) 4) (zero_there m (register 0) z one.computes.is one.int));
}

-- an operand, and a branch where its register is not 0
operand_tests : (t : Setting) (f : Shape) (kinds : Kinds) (frame : Frame) (w : World) (o : Operand) (need : ℕ) (z : ℤ) → Serves t f kinds frame w o need z →
    Tests t f kinds frame w (brought o 0 ++ branch_truth (read_in o 0)) need z
operand_tests t f kinds frame w o need z h = record {
  run = λ here s y fits short pieces at ready.
      let g : Ground = t.ground in
      let front : List Piece = brought o 0 in
      let r : ℕ = read_in o 0 in
      let b : Piece = instruction (Bne r zero_register 4) in
      let all : PiecesAt s.memory g here (front ++ (b ∷ y ∷ [])) = subst (PiecesAt s.memory g here) (append_assoc front (b ∷ []) (y ∷ [])) pieces in
      let parts = pieces_split s.memory g here front (b ∷ y ∷ []) all in
      let one = h.reads 0 here s (omega (arith, fits)) (omega (arith, length-append front (b ∷ []), short)) parts.0 at ready in
      let m : State = one.goes.after in
      branch_behind g here front b y s z one.goes all (bne_done r zero_register 4 m ∙ ap (λ c. branches m (not c) 4) (zero_there m r z one.is one.int));
}

-- ---- a comparison of two values

not_zero_truth : (c : Bool) → not (is_zero (truth c)) ≡ c
not_zero_truth true = refl
not_zero_truth false = refl

compare_tests : (t : Setting) (f : Shape) (kinds : Kinds) (frame : Frame) (w : World) (o : BinaryOp) (left : Bool) (a b : Operand) (na nb : ℕ) (v u : ℤ) (y : ℕ → ℕ → Instr) (c : Bool) → IsPlain o →
    nat_le nb na ≡ left → Serves t f kinds frame w a na v → Serves t f kinds frame w b nb u →
    ((s : State) (i j : ℕ) → Operands s i j v u → done (y i j) s ≡ branches s c 4) →
    Tests t f kinds frame w (operands_code left 0 a b (λ i j. instruction (y i j) ∷ [])) (operator_needs o na nb) (truth c)
compare_tests t f kinds frame w o true a b na nb v u y c plain le ea eb does = record {
  run = λ here s z fits short code at ready.
      let g : Ground = t.ground in
      let front : List Piece = brought a 0 ++ brought b 1 in
      let branch : Piece = instruction (y (read_in a 0) (read_in b 1)) in
      let ok = left_fits na nb 0 (leb-true nb na le) (omega (arith, fits, needs_plain o na nb plain)) in
      let all : PiecesAt s.memory g here (front ++ (branch ∷ z ∷ [])) = subst (PiecesAt s.memory g here) (append_assoc front (branch ∷ []) (z ∷ [])) code in
      let parts = pieces_split s.memory g here front (branch ∷ z ∷ []) all in
      let h = both t f kinds frame w a b na nb v u ea eb 0 here s ok.0 ok.1 (omega arith) (omega (arith, length-append front (branch ∷ []), short)) parts.0 at ready in
      branch_behind g here front branch z s (truth c) h.goes all
      (does h.goes.after (read_in a 0) (read_in b 1) (record { left_int = h.first_int; right_int = h.second_int; left = h.first; right = h.second }) ∙ ap (λ d. branches h.goes.after d 4) (sym (not_zero_truth c)));
}
compare_tests t f kinds frame w o false a b na nb v u y c plain le ea eb does = record {
  run = λ here s z fits short code at ready.
      let g : Ground = t.ground in
      let front : List Piece = brought b 0 ++ brought a 1 in
      let branch : Piece = instruction (y (read_in a 1) (read_in b 0)) in
      let ok = right_fits na nb 0 (leb-false nb na le) (omega (arith, fits, needs_plain o na nb plain)) in
      let all : PiecesAt s.memory g here (front ++ (branch ∷ z ∷ [])) = subst (PiecesAt s.memory g here) (append_assoc front (branch ∷ []) (z ∷ [])) code in
      let parts = pieces_split s.memory g here front (branch ∷ z ∷ []) all in
      let h = both t f kinds frame w b a nb na u v eb ea 0 here s ok.0 ok.1 (omega arith) (omega (arith, length-append front (branch ∷ []), short)) parts.0 at ready in
      branch_behind g here front branch z s (truth c) h.goes all
      (does h.goes.after (read_in a 1) (read_in b 0) (record { left_int = h.second_int; right_int = h.first_int; left = h.second; right = h.first }) ∙ ap (λ d. branches h.goes.after d 4) (sym (not_zero_truth c)));
}

blt_done : (a b offset : ℕ) (s : State) → done (Blt a b offset) s ≡ branches s (is_less (x s a) (x s b)) offset
unfolding done
blt_done a b offset s = refl

bge_done : (a b offset : ℕ) (s : State) → done (Bge a b offset) s ≡ branches s (not (is_less (x s a) (x s b))) offset
unfolding done
bge_done a b offset s = refl

less_there : (s : State) (i j : ℕ) (v u : ℤ) → Operands s i j v u → is_less (x s i) (x s j) ≡ int_lt v u
less_there s i j v u h = ap (λ a. is_less a (x s j)) h.left ∙ ap (is_less (extended v)) h.right ∙ less_extended v u h.left_int h.right_int

more_there : (s : State) (i j : ℕ) (v u : ℤ) → Operands s i j v u → is_less (x s j) (x s i) ≡ int_lt u v
more_there s i j v u h = ap (is_less (x s j)) h.left ∙ ap (λ b. is_less b (extended v)) h.right ∙ less_extended u v h.right_int h.left_int

same_there : (s : State) (i j : ℕ) (v u : ℤ) → Operands s i j v u → (x s i == x s j) ≡ int_equal v u
same_there s i j v u h = ap (λ a. a == x s j) h.left ∙ ap (λ b. extended v == b) h.right ∙ same_extended v u h.left_int h.right_int

-- a comparison where its right side may not be defined
compare_right : (t : Setting) (f : Shape) (kinds : Kinds) (frame : Frame) (w : World) (o : BinaryOp) (left : Bool) (a b : Operand) (na nb : ℕ) (v : ℤ) (ob : Option ℤ) (z : ℤ) (y : ℕ → ℕ → Instr) (c : ℤ → Bool) → IsPlain o →
    nat_le nb na ≡ left → Serves t f kinds frame w a na v → ((u : ℤ) → ob ≡ Some u → Serves t f kinds frame w b nb u) →
    ((u : ℤ) (s : State) (i j : ℕ) → Operands s i j v u → done (y i j) s ≡ branches s (c u) 4) → with_some ob (λ u. Some (truth (c u))) ≡ Some z →
    Tests t f kinds frame w (operands_code left 0 a b (λ i j. instruction (y i j) ∷ [])) (operator_needs o na nb) z
compare_right t f kinds frame w o left a b na nb v None z y c plain le ea eb does e = absurd (cc e)
compare_right t f kinds frame w o left a b na nb v (Some u) z y c plain le ea eb does e =
    let same : truth (c u) ≡ z = cc e in
    subst (Tests t f kinds frame w (operands_code left 0 a b (λ i j. instruction (y i j) ∷ [])) (operator_needs o na nb)) same (compare_tests t f kinds frame w o left a b na nb v u y (c u) plain le ea (eb u refl) (does u))

-- ---- any operator

-- an operator that is no comparison: its value, and a branch where that is not 0
plain_tests : (t : Setting) (f : Shape) (kinds : Kinds) (frame : Frame) (w : World) (left : Bool) (a b : Operand) (need : ℕ) (z : ℤ) (op : ℕ → ℕ → ℕ → List Piece) →
    Evaluates t f kinds frame w (λ rd k. operands_code left k a b (op rd)) need z → 0 < need →
    Tests t f kinds frame w (operands_code left 0 a b (λ i j. op (register 0) i j ++ branch_truth (register 0))) need z
plain_tests t f kinds frame w true a b need z op h some =
    subst (λ code. Tests t f kinds frame w code need z) (append_assoc (brought a 0 ++ brought b 1) (op (register 0) (read_in a 0) (read_in b 1)) (branch_truth (register 0)))
    (value_tests t f kinds frame w (λ rd k. operands_code true k a b (op rd)) need z h some)
plain_tests t f kinds frame w false a b need z op h some =
    subst (λ code. Tests t f kinds frame w code need z) (append_assoc (brought b 0 ++ brought a 1) (op (register 0) (read_in a 1) (read_in b 0)) (branch_truth (register 0)))
    (value_tests t f kinds frame w (λ rd k. operands_code false k a b (op rd)) need z h some)

binary_tests_right : (t : Setting) (f : Shape) (kinds : Kinds) (frame : Frame) (w : World) (o : BinaryOp) (left : Bool) (a b : Operand) (na nb : ℕ) (v : ℤ) (ob : Option ℤ) (z : ℤ) →
    nat_le nb na ≡ left → Serves t f kinds frame w a na v → (decided o v ≡ None → (u : ℤ) → ob ≡ Some u → Serves t f kinds frame w b nb u) → 0 < na → with_right o v (decided o v) ob ≡ Some z →
    Tests t f kinds frame w (binary_test o left a b) (operator_needs o na nb) z
binary_tests_right t f kinds frame w Add left a b na nb v ob z le ea eb pa e = plain_tests t f kinds frame w left a b (operator_needs Add na nb) z (operator_code Add) (binary_right t f kinds frame w Add left a b na nb v ob z le ea eb pa e) (operator_some Add na nb pa)
binary_tests_right t f kinds frame w Subtract left a b na nb v ob z le ea eb pa e = plain_tests t f kinds frame w left a b (operator_needs Subtract na nb) z (operator_code Subtract) (binary_right t f kinds frame w Subtract left a b na nb v ob z le ea eb pa e) (operator_some Subtract na nb pa)
binary_tests_right t f kinds frame w Multiply left a b na nb v ob z le ea eb pa e = plain_tests t f kinds frame w left a b (operator_needs Multiply na nb) z (operator_code Multiply) (binary_right t f kinds frame w Multiply left a b na nb v ob z le ea eb pa e) (operator_some Multiply na nb pa)
binary_tests_right t f kinds frame w Divide left a b na nb v ob z le ea eb pa e = plain_tests t f kinds frame w left a b (operator_needs Divide na nb) z (operator_code Divide) (binary_right t f kinds frame w Divide left a b na nb v ob z le ea eb pa e) (operator_some Divide na nb pa)
binary_tests_right t f kinds frame w Remainder left a b na nb v ob z le ea eb pa e = plain_tests t f kinds frame w left a b (operator_needs Remainder na nb) z (operator_code Remainder) (binary_right t f kinds frame w Remainder left a b na nb v ob z le ea eb pa e) (operator_some Remainder na nb pa)
binary_tests_right t f kinds frame w And left a b na nb v ob z le ea eb pa e = value_tests t f kinds frame w (λ rd k. binary_code And left rd k a b) (operator_needs And na nb) z (binary_right t f kinds frame w And left a b na nb v ob z le ea eb pa e) (operator_some And na nb pa)
binary_tests_right t f kinds frame w Or left a b na nb v ob z le ea eb pa e = value_tests t f kinds frame w (λ rd k. binary_code Or left rd k a b) (operator_needs Or na nb) z (binary_right t f kinds frame w Or left a b na nb v ob z le ea eb pa e) (operator_some Or na nb pa)
binary_tests_right t f kinds frame w Less left a b na nb v ob z le ea eb pa e =
    compare_right t f kinds frame w Less left a b na nb v ob z (λ i j. Blt i j 4) (λ u. int_lt v u) tt le ea (eb refl) (λ u s i j h. blt_done i j 4 s ∙ ap (λ c. branches s c 4) (less_there s i j v u h)) e
binary_tests_right t f kinds frame w Greater left a b na nb v ob z le ea eb pa e =
    compare_right t f kinds frame w Greater left a b na nb v ob z (λ i j. Blt j i 4) (λ u. int_lt u v) tt le ea (eb refl) (λ u s i j h. blt_done j i 4 s ∙ ap (λ c. branches s c 4) (more_there s i j v u h)) e
binary_tests_right t f kinds frame w LessEqual left a b na nb v ob z le ea eb pa e =
    compare_right t f kinds frame w LessEqual left a b na nb v ob z (λ i j. Bge j i 4) (λ u. int_le v u) tt le ea (eb refl)
    (λ u s i j h. bge_done j i 4 s ∙ ap (λ c. branches s (not c) 4) (more_there s i j v u h) ∙ ap (λ c. branches s c 4) (not_less v u)) e
binary_tests_right t f kinds frame w GreaterEqual left a b na nb v ob z le ea eb pa e =
    compare_right t f kinds frame w GreaterEqual left a b na nb v ob z (λ i j. Bge i j 4) (λ u. int_le u v) tt le ea (eb refl)
    (λ u s i j h. bge_done i j 4 s ∙ ap (λ c. branches s (not c) 4) (less_there s i j v u h) ∙ ap (λ c. branches s c 4) (not_less u v)) e
binary_tests_right t f kinds frame w Equal left a b na nb v ob z le ea eb pa e =
    compare_right t f kinds frame w Equal left a b na nb v ob z (λ i j. Beq i j 4) (λ u. int_equal v u) tt le ea (eb refl) (λ u s i j h. beq_done i j 4 s ∙ ap (λ c. branches s c 4) (same_there s i j v u h)) e
binary_tests_right t f kinds frame w NotEqual left a b na nb v ob z le ea eb pa e =
    compare_right t f kinds frame w NotEqual left a b na nb v ob z (λ i j. Bne i j 4) (λ u. not (int_equal v u)) tt le ea (eb refl) (λ u s i j h. bne_done i j 4 s ∙ ap (λ c. branches s (not c) 4) (same_there s i j v u h)) e

binary_tests : (t : Setting) (f : Shape) (kinds : Kinds) (frame : Frame) (w : World) (o : BinaryOp) (a b : Operand) (na nb : ℕ) (oa ob : Option ℤ) (z : ℤ) →
    ((v : ℤ) → oa ≡ Some v → Serves t f kinds frame w a na v) → ((v : ℤ) → oa ≡ Some v → decided o v ≡ None → (u : ℤ) → ob ≡ Some u → Serves t f kinds frame w b nb u) → 0 < na →
    with_some oa (λ v. with_right o v (decided o v) ob) ≡ Some z → Tests t f kinds frame w (binary_test o (nat_le nb na) a b) (operator_needs o na nb) z
binary_tests t f kinds frame w o a b na nb None ob z ea eb pa e = absurd (cc e)
binary_tests t f kinds frame w o a b na nb (Some v) ob z ea eb pa e = binary_tests_right t f kinds frame w o (nat_le nb na) a b na nb v ob z refl (ea v refl) (eb v refl) pa e

-- each value whose int is defined
pub value_tested : (t : Setting) (f : Shape) (kinds : Kinds) (frame : Frame) (w : World) (v : Value) (z : ℤ) → ValueStands t f kinds frame w v → value_in kinds frame w v ≡ Some z →
    Tests t f kinds frame w (test_code f v) (needs v) z
value_tested t f kinds frame w (number v) z stands e = operand_tests t f kinds frame w (operand f (number v)) 1 z (value_serves t f kinds frame w (number v) z stands e)
value_tested t f kinds frame w (load p) z stands e = operand_tests t f kinds frame w (operand f (load p)) 1 z (value_serves t f kinds frame w (load p) z stands e)
value_tested t f kinds frame w (unary o v) z stands e = operand_tests t f kinds frame w (operand f (unary o v)) (needs v) z (value_serves t f kinds frame w (unary o v) z stands e)
value_tested t f kinds frame w (binary o a b) z stands e =
    binary_tests t f kinds frame w o (operand f a) (operand f b) (needs a) (needs b) (value_in kinds frame w a) (value_in kinds frame w b) z
    (λ u h. value_serves t f kinds frame w a u stands.0 h) (λ x is undecided u h. value_serves t f kinds frame w b u (stands.1 x is undecided) h) (needs_some a) e
value_tested t f kinds frame w (call_value c args) z stands e = absurd (cc e)

pub values_are_computed : ValuesAreComputed
values_are_computed = record {
  choice = λ t f kinds frame w v z rd k here s stands e may fits short code at ready. (value_evaluates t f kinds frame w v z stands e).run rd k here s may fits short code at ready;
  value = λ t f kinds frame w v z k here s stands e fits short code at ready.
      let inside : k < 15 = omega (arith, fits, needs_some v) in
      gives_of t.ground here (length (value_code f (register k) k v)) k s z inside
      ((value_evaluates t f kinds frame w v z stands e).run (register k) k here s (may_set k inside) fits short code at ready);
  reads = λ t f kinds frame w v z k here s stands e fits short code at ready. (value_serves t f kinds frame w v z stands e).reads k here s fits short code at ready;
  kept = kept_sets;
  aside = read_aside;
  test = λ t f kinds frame w v z here s y stands e fits short code at ready. (value_tested t f kinds frame w v z stands e).run here s y fits short code at ready;
}
