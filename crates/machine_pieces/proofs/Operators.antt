-- Operators on registers.
use Rattle.std.proofs.Common.{◌≡◌, ◌∙◌, refl, sym, ap, subst, ℕ, ◌+◌, ℤ, Bool, true, false, cond, [], ◌∷◌, length, Some, None}
use Rattle.std.specs.Prelude.{◌+ℤ◌, ◌-ℤ◌, ◌*ℤ◌, neg_ℤ, ⊤, int_lt, int_le, int_div, int_rem, not}
use Rattle.cxx_ast.specs.declared.expression.UnaryOp.{UnaryOp}
use Rattle.cxx_ast.specs.declared.expression.UnaryOp.TheVariants.{Minus, Not}
use Rattle.cxx_ast.specs.declared.expression.BinaryOp.{BinaryOp}
use Rattle.cxx_ast.specs.declared.expression.BinaryOp.TheVariants.{Add, Subtract, Multiply, Divide, Remainder, Less, Greater, LessEqual, GreaterEqual, Equal, NotEqual, And, Or}
use Rattle.meaning_forms.specs.Arithmetic.{fits_int, is_zero, truth, int_equal}
use Rattle.rv64_isa.specs.declared.instr.Instr.{Instr}
use Rattle.rv64_isa.specs.declared.instr.Instr.TheVariants.{Lui, Addi, Addiw, Slt, Sltu, Sltiu, Xori, Addw, Subw, Mulw, Divw, Remw}
use Rattle.rv64_isa.specs.Arithmetic.{add, slt, sltu, xor, flag, addw, subw, mulw, divw, remw}
use Rattle.rv64_isa.specs.State.{State}
use Rattle.rv64_isa.specs.Step.{sets, x, imm12, imm20, done}
use Rattle.region_forms.specs.Evaluation.{fitting, quotient, unary_result, binary_result}
use Rattle.machine_forms.specs.Immediate.{immediate, is_small, upper, lower}
use Rattle.machine_forms.specs.Registers.{zero_register}
use Rattle.machine_forms.specs.Piece.{instruction}
use Rattle.machine_forms.specs.PlaceCode.{number_set}
use Rattle.machine_forms.specs.ValueCode.{unary_code, operator_code}
use Rattle.machine_pieces.specs.Numbers.{IsInt, extended}
use Rattle.machine_pieces.specs.Standing.{Ground, address, PieceAt, PiecesAt}
use Rattle.machine_pieces.specs.Going.{MaySet, Puts, Sets}
use Rattle.machine_pieces.proofs.Numbers.{set_small, set_large, less_extended, below_one, other_truth, not_less, add_ints, sub_ints, mul_ints, minus_int, div_ints, rem_ints, same_difference, other_difference, truth_is_int, rem_is_int}
use Rattle.machine_pieces.proofs.Going.{puts_again, puts_value}

-- ---- what the words do

addi_done : (rd rs imm : ℕ) (s : State) → done (Addi rd rs imm) s ≡ sets s rd (add (x s rs) (imm12 imm))
unfolding done
addi_done rd rs imm s = refl

lui_done : (rd imm : ℕ) (s : State) → done (Lui rd imm) s ≡ sets s rd (imm20 imm)
unfolding done
lui_done rd imm s = refl

pub addiw_done : (rd rs imm : ℕ) (s : State) → done (Addiw rd rs imm) s ≡ sets s rd (addw (x s rs) (imm12 imm))
unfolding done
addiw_done rd rs imm s = refl

sltiu_done : (rd rs imm : ℕ) (s : State) → done (Sltiu rd rs imm) s ≡ sets s rd (sltu (x s rs) (imm12 imm))
unfolding done
sltiu_done rd rs imm s = refl

pub sltu_done : (rd a b : ℕ) (s : State) → done (Sltu rd a b) s ≡ sets s rd (sltu (x s a) (x s b))
unfolding done
sltu_done rd a b s = refl

slt_done : (rd a b : ℕ) (s : State) → done (Slt rd a b) s ≡ sets s rd (slt (x s a) (x s b))
unfolding done
slt_done rd a b s = refl

xori_done : (rd rs imm : ℕ) (s : State) → done (Xori rd rs imm) s ≡ sets s rd (xor (x s rs) (imm12 imm))
unfolding done
xori_done rd rs imm s = refl

addw_done : (rd a b : ℕ) (s : State) → done (Addw rd a b) s ≡ sets s rd (addw (x s a) (x s b))
unfolding done
addw_done rd a b s = refl

subw_done : (rd a b : ℕ) (s : State) → done (Subw rd a b) s ≡ sets s rd (subw (x s a) (x s b))
unfolding done
subw_done rd a b s = refl

mulw_done : (rd a b : ℕ) (s : State) → done (Mulw rd a b) s ≡ sets s rd (mulw (x s a) (x s b))
unfolding done
mulw_done rd a b s = refl

divw_done : (rd a b : ℕ) (s : State) → done (Divw rd a b) s ≡ sets s rd (divw (x s a) (x s b))
unfolding done
divw_done rd a b s = refl

remw_done : (rd a b : ℕ) (s : State) → done (Remw rd a b) s ≡ sets s rd (remw (x s a) (x s b))
unfolding done
remw_done rd a b s = refl

-- ---- a number is set

number_sets_by : (g : Ground) (here k rd : ℕ) (s : State) (v : ℤ) (b : Bool) → is_small v ≡ b → IsInt v → MaySet rd →
    let code = cond b (instruction (Addi rd zero_register (immediate v)) ∷ []) (instruction (Lui rd (upper v)) ∷ instruction (Addiw rd rd (lower v)) ∷ []) in
    PiecesAt s.memory g here code → s.pc ≡ address g here → length s.regs ≡ 32 → Puts g here (length code) k rd s (extended v)
number_sets_by g here k rd s v true small int may h at regs =
    puts_value g here k rd (instruction (Addi rd zero_register (immediate v))) s (extended v) h.0 at regs may
    (addi_done rd zero_register (immediate v) s ∙ ap (sets s rd) (set_small v small))
number_sets_by g here k rd s v false small int may h at regs =
    let first = puts_value g here k rd (instruction (Lui rd (upper v))) s (imm20 (upper v)) h.0 at regs may (lui_done rd (upper v) s) in
    let m : State = first.after in
    let value : addw (x m rd) (imm12 (lower v)) ≡ extended v = ap (λ a. addw a (imm12 (lower v))) first.is ∙ set_large v int in
    puts_again g here 1 k rd (instruction (Addiw rd rd (lower v))) s (imm20 (upper v)) (extended v) first h.1.0 may (addiw_done rd rd (lower v) m ∙ ap (sets m rd) value)

pub number_sets : (g : Ground) (here k rd : ℕ) (s : State) (v : ℤ) → IsInt v → MaySet rd → PiecesAt s.memory g here (number_set rd v) → s.pc ≡ address g here → length s.regs ≡ 32 →
    Puts g here (length (number_set rd v)) k rd s (extended v)
number_sets g here k rd s v int may h at regs = number_sets_by g here k rd s v (is_small v) refl int may h at regs

-- ---- what is defined

fitting_by : (y z : ℤ) (b : Bool) → fits_int y ≡ b → cond b (Some y) None ≡ Some z → (y ≡ z) × IsInt z
fitting_by y z true h e = let same : y ≡ z = cc e in (same, subst IsInt same h)
fitting_by y z false h e = absurd (cc e)

pub fitting_is : (y z : ℤ) → fitting y ≡ Some z → (y ≡ z) × IsInt z
fitting_is y z e = fitting_by y z (fits_int y) refl e

record Divides (x y v z : ℤ) : Type 0 where
  some : is_zero y ≡ false
  fits : IsInt (int_div x y)
  same : v ≡ z

divides_fits : (x y v z : ℤ) (b : Bool) → is_zero y ≡ false → fits_int (int_div x y) ≡ b → cond b (Some v) None ≡ Some z → Divides x y v z
divides_fits x y v z true some h e = record { some = some; fits = h; same = cc e }
divides_fits x y v z false some h e = absurd (cc e)

divides_by : (x y v z : ℤ) (b : Bool) → is_zero y ≡ b → cond b None (cond (fits_int (int_div x y)) (Some v) None) ≡ Some z → Divides x y v z
divides_by x y v z true h e = absurd (cc e)
divides_by x y v z false h e = divides_fits x y v z (fits_int (int_div x y)) h refl e

divides : (x y v z : ℤ) → quotient x y v ≡ Some z → Divides x y v z
divides x y v z e = divides_by x y v z (is_zero y) refl e

-- a flag is a truth
pub truth_extended : (b : Bool) → flag b ≡ extended (truth b)
truth_extended true = refl
truth_extended false = refl

-- one word
one_word : (g : Ground) (here k rd : ℕ) (s : State) (i : Instr) (value : ℕ) (z : ℤ) → MaySet rd → PieceAt s.memory g here (instruction i) → s.pc ≡ address g here → length s.regs ≡ 32 →
    done i s ≡ sets s rd value → value ≡ extended z → Puts g here 1 k rd s (extended z)
one_word g here k rd s i value z may h at regs does is = puts_value g here k rd (instruction i) s (extended z) h at regs may (does ∙ ap (sets s rd) is)

-- two words, the second of which works on what the first has set
two_words : (g : Ground) (here k rd : ℕ) (s : State) (i j : Instr) (value : ℕ) (made : ℕ → ℕ) (z : ℤ) → MaySet rd → PieceAt s.memory g here (instruction i) → PieceAt s.memory g (here + 1) (instruction j) →
    s.pc ≡ address g here → length s.regs ≡ 32 → done i s ≡ sets s rd value → ((t : State) → done j t ≡ sets t rd (made (x t rd))) → made value ≡ extended z → Puts g here 2 k rd s (extended z)
two_words g here k rd s i j value made z may h next at regs does then is =
    let first = puts_value g here k rd (instruction i) s value h at regs may does in
    let t : State = first.after in
    puts_again g here 1 k rd (instruction j) s value (extended z) first next may (then t ∙ ap (λ v. sets t rd (made v)) first.is ∙ ap (sets t rd) is)

-- ---- a unary operator on a register

pub unary_sets : (g : Ground) (here k rd i : ℕ) (s : State) (o : UnaryOp) (v z : ℤ) → IsInt v → x s i ≡ extended v → MaySet rd → PiecesAt s.memory g here (unary_code o rd i) → s.pc ≡ address g here →
    length s.regs ≡ 32 → unary_result o v ≡ Some z → Sets g here (length (unary_code o rd i)) k rd s z
unary_sets g here k rd i s Minus v z int is may code at regs e =
    let fits = fitting_is (neg_ℤ v) z e in
    let value : subw 0 (x s i) ≡ extended z = ap (subw 0) is ∙ minus_int v int (subst IsInt (sym fits.0) fits.1) ∙ ap extended fits.0 in
    record { int = fits.1; puts = one_word g here k rd s (Subw rd zero_register i) (subw 0 (x s i)) z may code.0 at regs (subw_done rd zero_register i s) value }
unary_sets g here k rd i s Not v z int is may code at regs e =
    let same : truth (is_zero v) ≡ z = cc e in
    let value : sltu (x s i) (imm12 1) ≡ extended z = ap (λ a. sltu a (imm12 1)) is ∙ ap flag (below_one v int) ∙ truth_extended (is_zero v) ∙ ap extended same in
    record { int = subst IsInt same (truth_is_int (is_zero v)); puts = one_word g here k rd s (Sltiu rd i 1) (sltu (x s i) (imm12 1)) z may code.0 at regs (sltiu_done rd i 1 s) value }

-- ---- a binary operator on two registers

-- two registers have two ints
pub record Operands (s : State) (i j : ℕ) (v w : ℤ) : Type 0 where
  pub left_int : IsInt v
  pub right_int : IsInt w
  pub left : x s i ≡ extended v
  pub right : x s j ≡ extended w

slt_is : (s : State) (i j : ℕ) (v w : ℤ) → Operands s i j v w → slt (x s i) (x s j) ≡ extended (truth (int_lt v w))
slt_is s i j v w h = ap (λ a. slt a (x s j)) h.left ∙ ap (slt (extended v)) h.right ∙ ap flag (less_extended v w h.left_int h.right_int) ∙ truth_extended (int_lt v w)

turned_operands : (s : State) (i j : ℕ) (v w : ℤ) → Operands s i j v w → Operands s j i w v
turned_operands s i j v w h = record { left_int = h.right_int; right_int = h.left_int; left = h.right; right = h.left }

difference_is : (s : State) (i j : ℕ) (v w : ℤ) → Operands s i j v w → subw (x s i) (x s j) ≡ subw (extended v) (extended w)
difference_is s i j v w h = ap (λ a. subw a (x s j)) h.left ∙ ap (subw (extended v)) h.right

-- an operator of which both sides are always needed
abbrev pub IsPlain : BinaryOp → Type 0
IsPlain And = ⊥
IsPlain Or = ⊥
IsPlain _ = ⊤

pub binary_sets : (g : Ground) (here k rd i j : ℕ) (s : State) (o : BinaryOp) (v w z : ℤ) → Operands s i j v w → MaySet rd → PiecesAt s.memory g here (operator_code o rd i j) →
    s.pc ≡ address g here → length s.regs ≡ 32 → IsPlain o → binary_result o v w ≡ Some z → Sets g here (length (operator_code o rd i j)) k rd s z
binary_sets g here k rd i j s Add v w z h may code at regs plain e =
    let fits = fitting_is (v +ℤ w) z e in
    let value : addw (x s i) (x s j) ≡ extended z = ap (λ a. addw a (x s j)) h.left ∙ ap (addw (extended v)) h.right ∙ add_ints v w h.left_int h.right_int (subst IsInt (sym fits.0) fits.1) ∙ ap extended fits.0 in
    record { int = fits.1; puts = one_word g here k rd s (Addw rd i j) (addw (x s i) (x s j)) z may code.0 at regs (addw_done rd i j s) value }
binary_sets g here k rd i j s Subtract v w z h may code at regs plain e =
    let fits = fitting_is (v -ℤ w) z e in
    let value : subw (x s i) (x s j) ≡ extended z = difference_is s i j v w h ∙ sub_ints v w h.left_int h.right_int (subst IsInt (sym fits.0) fits.1) ∙ ap extended fits.0 in
    record { int = fits.1; puts = one_word g here k rd s (Subw rd i j) (subw (x s i) (x s j)) z may code.0 at regs (subw_done rd i j s) value }
binary_sets g here k rd i j s Multiply v w z h may code at regs plain e =
    let fits = fitting_is (v *ℤ w) z e in
    let value : mulw (x s i) (x s j) ≡ extended z = ap (λ a. mulw a (x s j)) h.left ∙ ap (mulw (extended v)) h.right ∙ mul_ints v w h.left_int h.right_int (subst IsInt (sym fits.0) fits.1) ∙ ap extended fits.0 in
    record { int = fits.1; puts = one_word g here k rd s (Mulw rd i j) (mulw (x s i) (x s j)) z may code.0 at regs (mulw_done rd i j s) value }
binary_sets g here k rd i j s Divide v w z h may code at regs plain e =
    let d = divides v w (int_div v w) z e in
    let value : divw (x s i) (x s j) ≡ extended z = ap (λ a. divw a (x s j)) h.left ∙ ap (divw (extended v)) h.right ∙ div_ints v w h.left_int h.right_int d.some d.fits ∙ ap extended d.same in
    record { int = subst IsInt d.same d.fits; puts = one_word g here k rd s (Divw rd i j) (divw (x s i) (x s j)) z may code.0 at regs (divw_done rd i j s) value }
binary_sets g here k rd i j s Remainder v w z h may code at regs plain e =
    let d = divides v w (int_rem v w) z e in
    let fits = rem_is_int v w h.right_int d.some in
    let value : remw (x s i) (x s j) ≡ extended z = ap (λ a. remw a (x s j)) h.left ∙ ap (remw (extended v)) h.right ∙ rem_ints v w h.left_int h.right_int d.some fits ∙ ap extended d.same in
    record { int = subst IsInt d.same fits; puts = one_word g here k rd s (Remw rd i j) (remw (x s i) (x s j)) z may code.0 at regs (remw_done rd i j s) value }
binary_sets g here k rd i j s Less v w z h may code at regs plain e =
    let same : truth (int_lt v w) ≡ z = cc e in
    record {
      int = subst IsInt same (truth_is_int (int_lt v w));
      puts = one_word g here k rd s (Slt rd i j) (slt (x s i) (x s j)) z may code.0 at regs (slt_done rd i j s) (slt_is s i j v w h ∙ ap extended same);
    }
binary_sets g here k rd i j s Greater v w z h may code at regs plain e =
    let same : truth (int_lt w v) ≡ z = cc e in
    record {
      int = subst IsInt same (truth_is_int (int_lt w v));
      puts = one_word g here k rd s (Slt rd j i) (slt (x s j) (x s i)) z may code.0 at regs (slt_done rd j i s) (slt_is s j i w v (turned_operands s i j v w h) ∙ ap extended same);
    }
binary_sets g here k rd i j s LessEqual v w z h may code at regs plain e =
    let same : truth (int_le v w) ≡ z = cc e in
    let value : xor (slt (x s j) (x s i)) (imm12 1) ≡ extended z
    = ap (λ a. xor a (imm12 1)) (slt_is s j i w v (turned_operands s i j v w h)) ∙ other_truth (int_lt w v) ∙ ap (λ b. extended (truth b)) (not_less v w) ∙ ap extended same in
    record {
      int = subst IsInt same (truth_is_int (int_le v w));
      puts = two_words g here k rd s (Slt rd j i) (Xori rd rd 1) (slt (x s j) (x s i)) (λ a. xor a (imm12 1)) z may code.0 code.1.0 at regs (slt_done rd j i s) (xori_done rd rd 1) value;
    }
binary_sets g here k rd i j s GreaterEqual v w z h may code at regs plain e =
    let same : truth (int_le w v) ≡ z = cc e in
    let value : xor (slt (x s i) (x s j)) (imm12 1) ≡ extended z
    = ap (λ a. xor a (imm12 1)) (slt_is s i j v w h) ∙ other_truth (int_lt v w) ∙ ap (λ b. extended (truth b)) (not_less w v) ∙ ap extended same in
    record {
      int = subst IsInt same (truth_is_int (int_le w v));
      puts = two_words g here k rd s (Slt rd i j) (Xori rd rd 1) (slt (x s i) (x s j)) (λ a. xor a (imm12 1)) z may code.0 code.1.0 at regs (slt_done rd i j s) (xori_done rd rd 1) value;
    }
binary_sets g here k rd i j s Equal v w z h may code at regs plain e =
    let same : truth (int_equal v w) ≡ z = cc e in
    let value : sltu (subw (x s i) (x s j)) (imm12 1) ≡ extended z
    = ap (λ a. sltu a (imm12 1)) (difference_is s i j v w h) ∙ ap flag (same_difference v w h.left_int h.right_int) ∙ truth_extended (int_equal v w) ∙ ap extended same in
    record {
      int = subst IsInt same (truth_is_int (int_equal v w));
      puts = two_words g here k rd s (Subw rd i j) (Sltiu rd rd 1) (subw (x s i) (x s j)) (λ a. sltu a (imm12 1)) z may code.0 code.1.0 at regs (subw_done rd i j s) (sltiu_done rd rd 1) value;
    }
binary_sets g here k rd i j s NotEqual v w z h may code at regs plain e =
    let same : truth (not (int_equal v w)) ≡ z = cc e in
    let value : sltu 0 (subw (x s i) (x s j)) ≡ extended z
    = ap (sltu 0) (difference_is s i j v w h) ∙ ap flag (other_difference v w h.left_int h.right_int) ∙ truth_extended (not (int_equal v w)) ∙ ap extended same in
    record {
      int = subst IsInt same (truth_is_int (not (int_equal v w)));
      puts = two_words g here k rd s (Subw rd i j) (Sltu rd zero_register rd) (subw (x s i) (x s j)) (sltu 0) z may code.0 code.1.0 at regs (subw_done rd i j s) (sltu_done rd zero_register rd) value;
    }
binary_sets g here k rd i j s And v w z h may code at regs plain e = absurd plain
binary_sets g here k rd i j s Or v w z h may code at regs plain e = absurd plain
