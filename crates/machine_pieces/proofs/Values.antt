-- Values without calls are computed in registers.
use Rattle.std.proofs.Common.{◌≡◌, ◌∙◌, refl, sym, ap, subst, arith, ℕ, ◌+◌, ◌^◌, ◌<◌, ◌≤◌, ◌==◌, ℤ, pos, Bool, true, false, cond, List, [], ◌∷◌, ◌++◌, length, length-append, Option, Some, None}
use Rattle.std.specs.Prelude.{◌+ℤ◌, ◌-ℤ◌, not, nat_le, max, unwrap_or}
use Rattle.std.proofs.lemmas.Bool.{leb-true, leb-false}
use Rattle.std.proofs.lemmas.Bool.Decides.{nat_tests}
use Rattle.std.proofs.lemmas.Int.{ints}
use Rattle.cxx_ast.specs.declared.expression.UnaryOp.{UnaryOp}
use Rattle.cxx_ast.specs.declared.expression.BinaryOp.{BinaryOp}
use Rattle.cxx_ast.specs.declared.expression.BinaryOp.TheVariants.{Add, Subtract, Multiply, Divide, Remainder, Less, Greater, LessEqual, GreaterEqual, Equal, NotEqual, And, Or}
use Rattle.meaning_forms.specs.Arithmetic.{is_zero, truth, decided}
use Rattle.rv64_isa.specs.declared.instr.Instr.TheVariants.{Addiw, Beq, Bne, Sltu}
use Rattle.rv64_isa.specs.Arithmetic.{addw, sltu, flag}
use Rattle.rv64_isa.specs.State.{State}
use Rattle.rv64_isa.specs.Step.{sets, branches, imm12, x, done}
use Rattle.region_forms.specs.Form.{Kinds, Root, in_slot, through, in_global, Value, number, load, unary, binary, call_value}
use Rattle.region_forms.specs.World.{Frame, World}
use Rattle.region_forms.specs.Evaluation.{with_some, unary_result, binary_result, with_right, root_location, read_location, value_in}
use Rattle.machine_forms.specs.Immediate.{immediate, is_small}
use Rattle.machine_forms.specs.Registers.{register, sp, zero_register}
use Rattle.machine_forms.specs.Piece.{Piece, instruction, placed}
use Rattle.machine_forms.specs.Shape.{Shape}
use Rattle.machine_forms.specs.KeptCode.{copied, root_register}
use Rattle.machine_forms.specs.ValueCode.{operator_needs, needs, made_truth, unary_code, operator_code, over, Operand, read_in, brought, operands_code, binary_code, addend, sum_code, held_in, value_code, operand}
use Rattle.machine_forms.specs.OperationCode.{value_kept}
use Rattle.machine_pieces.specs.Numbers.{IsInt, extended}
use Rattle.machine_pieces.specs.Standing.{Ground, address, PieceAt, PiecesAt}
use Rattle.machine_pieces.specs.Going.{IsKept, Goes, Gives, Reads, MaySet, Sets}
use Rattle.machine_pieces.specs.Keeping.{KeptHolds}
use Rattle.machine_pieces.specs.Frames.{Setting, RootFits, ValueStands, FrameHolds, Ready}
use Rattle.machine_pieces.proofs.Numbers.{add_ints, zero_extended, below_zero, small_field, small_int, truth_is_int}
use Rattle.machine_pieces.proofs.Fetching.{pieces_split}
use Rattle.machine_pieces.proofs.Going.{goes_none, goes_then, goes_as, computes_then, computes_of, goes_less, kept_register, kept_low, kept_all, may_set, pieces_end, puts_as, puts_behind, then_puts}
use Rattle.machine_pieces.proofs.Branching.{branch_taken, branch_passed, over_goes}
use Rattle.machine_pieces.proofs.Keeping.{IsSaved, kept_saved, register_is, same_saved}
use Rattle.machine_pieces.proofs.Places.{copied_done, place_sets, register_there}
use Rattle.machine_pieces.proofs.Operators.{addiw_done, fitting_is, number_sets, unary_sets, Operands, IsPlain, binary_sets, sltu_done, truth_extended}

-- code for values gives an int in whatever register it is to be, by means of those for values from any on
pub record Evaluates (t : Setting) (f : Shape) (kinds : Kinds) (frame : Frame) (w : World) (code : (rd k : ℕ) → List Piece) (need : ℕ) (z : ℤ) : Type 0 where
  pub run : (rd k here : ℕ) (s : State) → MaySet rd → k + need ≤ 15 → length (code rd k) < 2 ^ 18 → PiecesAt s.memory t.ground here (code rd k) → s.pc ≡ address t.ground here → Ready t f kinds frame w s →
      Sets t.ground here (length (code rd k)) k rd s z

-- an operand gives an int in the k-th register, and is read in that one or in its own, which those behind the k-th leave
pub record Serves (t : Setting) (f : Shape) (kinds : Kinds) (frame : Frame) (w : World) (o : Operand) (need : ℕ) (z : ℤ) : Type 0 where
  pub gives : (k here : ℕ) (s : State) → k + need ≤ 15 → length (o.code k) < 2 ^ 18 → PiecesAt s.memory t.ground here (o.code k) → s.pc ≡ address t.ground here → Ready t f kinds frame w s →
      Gives t.ground here (length (o.code k)) k s z
  pub reads : (k here : ℕ) (s : State) → k + need ≤ 15 → length (brought o k) < 2 ^ 18 → PiecesAt s.memory t.ground here (brought o k) → s.pc ≡ address t.ground here → Ready t f kinds frame w s →
      Reads t.ground here (length (brought o k)) k s (read_in o k) z
  pub kept : (k : ℕ) → k < 15 → IsKept (k + 1) (read_in o k)

-- ---- what a run leaves

pub ready_after : (t : Setting) (f : Shape) (kinds : Kinds) (frame : Frame) (w : World) (here m k : ℕ) (s : State) (first : Goes t.ground here m k s) → Ready t f kinds frame w s → Ready t f kinds frame w first.after
ready_after t f kinds frame w here m k s first h = record {
  registers = first.registers;
  holds = subst (λ a. FrameHolds t f kinds frame w first.after.memory a) (sym (first.kept sp (kept_low k sp (omega arith)))) (subst (λ ps. FrameHolds t f kinds frame w ps (x s sp)) (sym first.memory) h.holds);
  ints = h.ints;
  keeps = subst (KeptHolds f.kept frame w) (sym (same_saved s first.after (λ r saved. first.kept r (kept_saved k r saved)))) h.keeps;
}

pub code_after : (g : Ground) (here m k at : ℕ) (code : List Piece) (s : State) (first : Goes g here m k s) → PiecesAt s.memory g at code → PiecesAt first.after.memory g at code
code_after g here m k at code s first h = subst (λ ps. PiecesAt ps g at code) (sym first.memory) h

gives_as : (g : Ground) (here m n k : ℕ) (s : State) (z : ℤ) → m ≡ n → Gives g here m k s z → Gives g here n k s z
gives_as g here m n k s z e h = record { int = h.int; computes = record { goes = goes_as g here m n k s e h.computes.goes; is = h.computes.is } }

gives_then : (g : Ground) (here m n k : ℕ) (s : State) (z : ℤ) (first : Goes g here m k s) → Gives g (here + m) n k first.after z → Gives g here (m + n) k s z
gives_then g here m n k s z first second =
    record { int = second.int; computes = computes_then g here m n k k (extended z) s first (omega arith) second.computes.goes second.computes.is }

pub gives_of : (g : Ground) (here n k : ℕ) (s : State) (z : ℤ) → k < 15 → Sets g here n k (register k) s z → Gives g here n k s z
gives_of g here n k s z small h = record { int = h.int; computes = computes_of g here n k s (extended z) small h.puts }

sets_as : (g : Ground) (here m n k rd : ℕ) (s : State) (z : ℤ) → m ≡ n → Sets g here m k rd s z → Sets g here n k rd s z
sets_as g here m n k rd s z e h = record { int = h.int; puts = puts_as g here m n k rd s (extended z) e h.puts }

sets_behind : (g : Ground) (here m n k rd : ℕ) (s : State) (z : ℤ) (first : Goes g here m k s) → Sets g (here + m) n k rd first.after z → Sets g here (m + n) k rd s z
sets_behind g here m n k rd s z first second = record { int = second.int; puts = puts_behind g here m n k k rd (extended z) s first (omega arith) second.puts }

-- ---- two operands in two registers

pub record Both (g : Ground) (here words k i j : ℕ) (s : State) (v w : ℤ) : Type 0 where
  pub goes : Goes g here words k s
  pub first_int : IsInt v
  pub second_int : IsInt w
  pub first : x goes.after i ≡ extended v
  pub second : x goes.after j ≡ extended w

pub both : (t : Setting) (f : Shape) (kinds : Kinds) (frame : Frame) (w : World) (a b : Operand) (na nb : ℕ) (v u : ℤ) → Serves t f kinds frame w a na v → Serves t f kinds frame w b nb u →
    (k here : ℕ) (s : State) → k + na ≤ 15 → k + 1 + nb ≤ 15 → k < 15 → length (brought a k ++ brought b (k + 1)) < 2 ^ 18 → PiecesAt s.memory t.ground here (brought a k ++ brought b (k + 1)) → s.pc ≡ address t.ground here →
    Ready t f kinds frame w s → Both t.ground here (length (brought a k ++ brought b (k + 1))) k (read_in a k) (read_in b (k + 1)) s v u
both t f kinds frame w a b na nb v u ea eb k here s fa fb inside short code at ready =
    let g : Ground = t.ground in
    let one_code : List Piece = brought a k in
    let two_code : List Piece = brought b (k + 1) in
    let sum : length (one_code ++ two_code) ≡ length one_code + length two_code = length-append one_code two_code in
    let parts = pieces_split s.memory g here one_code two_code code in
    let one = ea.reads k here s fa (omega (arith, sum, short)) parts.0 at ready in
    let two = eb.reads (k + 1) (here + length one_code) one.goes.after fb (omega (arith, sum, short)) (code_after g here (length one_code) k (here + length one_code) two_code s one.goes parts.1) one.goes.pc
    (ready_after t f kinds frame w here (length one_code) k s one.goes ready) in
    record {
      goes = goes_as g here (length one_code + length two_code) (length (one_code ++ two_code)) k s (sym sum)
          (goes_then g here (length one_code) (length two_code) k (k + 1) s one.goes (omega arith) two.goes);
      first_int = one.int;
      second_int = two.int;
      first = two.goes.kept (read_in a k) (ea.kept k inside) ∙ one.is;
      second = two.is;
    }

-- ---- an operator both of whose sides are needed

pub needs_plain : (o : BinaryOp) (na nb : ℕ) → IsPlain o → operator_needs o na nb ≡ cond (na == nb) (na + 1) (max na nb)
needs_plain Add na nb plain = refl
needs_plain Subtract na nb plain = refl
needs_plain Multiply na nb plain = refl
needs_plain Divide na nb plain = refl
needs_plain Remainder na nb plain = refl
needs_plain Less na nb plain = refl
needs_plain Greater na nb plain = refl
needs_plain LessEqual na nb plain = refl
needs_plain GreaterEqual na nb plain = refl
needs_plain Equal na nb plain = refl
needs_plain NotEqual na nb plain = refl
needs_plain And na nb plain = absurd plain
needs_plain Or na nb plain = absurd plain

-- the operand that needs more comes first
pub left_fits : (na nb k : ℕ) → nb ≤ na → k + cond (na == nb) (na + 1) (max na nb) ≤ 15 → (k + na ≤ 15) × (k + 1 + nb ≤ 15)
left_fits na nb k le h = (grind (arith, nat_tests, le, h), grind (arith, nat_tests, le, h))

pub right_fits : (na nb k : ℕ) → na < nb → k + cond (na == nb) (na + 1) (max na nb) ≤ 15 → (k + nb ≤ 15) × (k + 1 + na ≤ 15)
right_fits na nb k less h = (grind (arith, nat_tests, less, h), grind (arith, nat_tests, less, h))

operator_after : (t : Setting) (front : List Piece) (o : BinaryOp) (k rd here i j : ℕ) (s : State) (v u z : ℤ) (first : Goes t.ground here (length front) k s) →
    Operands first.after i j v u → MaySet rd → PiecesAt s.memory t.ground (here + length front) (operator_code o rd i j) → IsPlain o → binary_result o v u ≡ Some z →
    Sets t.ground here (length (front ++ operator_code o rd i j)) k rd s z
operator_after t front o k rd here i j s v u z first operands may code plain e =
    let g : Ground = t.ground in
    let op : List Piece = operator_code o rd i j in
    let last = binary_sets g (here + length front) k rd i j first.after o v u z operands may (code_after g here (length front) k (here + length front) op s first code) first.pc first.registers plain e in
    sets_as g here (length front + length op) (length (front ++ op)) k rd s z (sym (length-append front op)) (sets_behind g here (length front) (length op) k rd s z first last)

plain_evaluates : (t : Setting) (f : Shape) (kinds : Kinds) (frame : Frame) (w : World) (o : BinaryOp) (left : Bool) (a b : Operand) (na nb : ℕ) (v u z : ℤ) → IsPlain o → nat_le nb na ≡ left →
    Serves t f kinds frame w a na v → Serves t f kinds frame w b nb u → binary_result o v u ≡ Some z →
    Evaluates t f kinds frame w (λ rd k. operands_code left k a b (operator_code o rd)) (operator_needs o na nb) z
plain_evaluates t f kinds frame w o true a b na nb v u z plain le ea eb e = record {
  run = λ rd k here s may fits short code at ready.
      let g : Ground = t.ground in
      let front : List Piece = brought a k ++ brought b (k + 1) in
      let op : List Piece = operator_code o rd (read_in a k) (read_in b (k + 1)) in
      let ok = left_fits na nb k (leb-true nb na le) (omega (arith, fits, needs_plain o na nb plain)) in
      let sum : length (front ++ op) ≡ length front + length op = length-append front op in
      let parts = pieces_split s.memory g here front op code in
      let inside : k < 15 = omega (arith, ok.1) in
      let h = both t f kinds frame w a b na nb v u ea eb k here s ok.0 ok.1 inside (omega (arith, sum, short)) parts.0 at ready in
      operator_after t front o k rd here (read_in a k) (read_in b (k + 1)) s v u z h.goes
      (record { left_int = h.first_int; right_int = h.second_int; left = h.first; right = h.second }) may parts.1 plain e;
}
plain_evaluates t f kinds frame w o false a b na nb v u z plain le ea eb e = record {
  run = λ rd k here s may fits short code at ready.
      let g : Ground = t.ground in
      let front : List Piece = brought b k ++ brought a (k + 1) in
      let op : List Piece = operator_code o rd (read_in a (k + 1)) (read_in b k) in
      let ok = right_fits na nb k (leb-false nb na le) (omega (arith, fits, needs_plain o na nb plain)) in
      let sum : length (front ++ op) ≡ length front + length op = length-append front op in
      let parts = pieces_split s.memory g here front op code in
      let inside : k < 15 = omega (arith, ok.1) in
      let h = both t f kinds frame w b a nb na u v eb ea k here s ok.0 ok.1 inside (omega (arith, sum, short)) parts.0 at ready in
      operator_after t front o k rd here (read_in a (k + 1)) (read_in b k) s v u z h.goes
      (record { left_int = h.second_int; right_int = h.first_int; left = h.second; right = h.first }) may parts.1 plain e;
}

-- ---- `&&` and `||`

-- a branch goes over one word, which goes over code: the code runs or it does not
chosen : (g : Ground) (here k : ℕ) (y : Piece) (code : List Piece) (s : State) (v : ℤ) (taken : Bool) → PiecesAt s.memory g here (y ∷ over code ∷ code) → s.pc ≡ address g here → length s.regs ≡ 32 → k < 15 →
    length code + 1 < 2 ^ 18 → done (placed g.places here y) s ≡ branches s taken 4 → (taken ≡ false → IsInt v × (x s (register k) ≡ extended v)) →
    (taken ≡ true → (first : Goes g here 2 15 s) → Gives g (here + 2) (length code) k first.after v) → Gives g here (length (y ∷ over code ∷ code)) k s v
chosen g here k y code s v false h at regs inside short does kept run =
    let first = branch_passed g here 15 y s h.0 at regs does in
    let behind : PieceAt first.after.memory g (here + 1) (over code) = subst (λ ps. PieceAt ps g (here + 1) (over code)) (sym first.memory) h.1.0 in
    let second = over_goes g (here + 1) 15 code first.after behind first.pc first.registers short (omega (arith, pieces_end s.memory g here y (over code ∷ code) h)) in
    let whole : 1 + (length code + 1) ≡ length (y ∷ over code ∷ code) = omega arith in
    let goes = goes_as g here (1 + (length code + 1)) (length (y ∷ over code ∷ code)) 15 s whole (goes_then g here 1 (length code + 1) 15 15 s first (omega arith) second) in
    let same : x goes.after (register k) ≡ x s (register k) = goes.kept (register k) (kept_all (register k)) in
    record { int = (kept refl).0; computes = record { goes = goes_less g here (length (y ∷ over code ∷ code)) k 15 s (omega (arith, inside)) goes; is = same ∙ (kept refl).1 } }
chosen g here k y code s v true h at regs inside short does kept run =
    let first = branch_taken g here 15 y (over code) s h.0 h.1.0 at regs does in
    let rest = run refl first in
    gives_as g here (2 + length code) (length (y ∷ over code ∷ code)) k s v (omega arith) (gives_then g here 2 (length code) k s v (goes_less g here 2 k 15 s (omega (arith, inside)) first) rest)

-- the left side, then the right side where a branch is taken, and then whether what is there is not 0
short_sets : (t : Setting) (f : Shape) (kinds : Kinds) (frame : Frame) (w : World) (a b : Operand) (na nb : ℕ) (v u : ℤ) (y : Piece) (taken : Bool) → Serves t f kinds frame w a na v →
    (rd k here : ℕ) (s : State) → MaySet rd → k + na ≤ 15 → k + nb ≤ 15 → k < 15 → length (a.code k ++ (y ∷ over (b.code k) ∷ b.code k) ++ made_truth rd (register k)) < 2 ^ 18 →
    PiecesAt s.memory t.ground here (a.code k ++ (y ∷ over (b.code k) ∷ b.code k) ++ made_truth rd (register k)) → s.pc ≡ address t.ground here → Ready t f kinds frame w s →
    ((m : State) → x m (register k) ≡ extended v → IsInt v → done (placed t.ground.places (here + length (a.code k)) y) m ≡ branches m taken 4) →
    (taken ≡ false → u ≡ v) → (taken ≡ true → Serves t f kinds frame w b nb u) →
    Sets t.ground here (length (a.code k ++ (y ∷ over (b.code k) ∷ b.code k) ++ made_truth rd (register k))) k rd s (truth (not (is_zero u)))
short_sets t f kinds frame w a b na nb v u y taken ea rd k here s may fa fb inside short code at ready does left right =
    let g : Ground = t.ground in
    let left_code : List Piece = a.code k in
    let right_code : List Piece = b.code k in
    let middle : List Piece = y ∷ over right_code ∷ right_code in
    let sum : length (left_code ++ middle) ≡ length left_code + length middle = length-append left_code middle in
    let all : length (left_code ++ middle ++ made_truth rd (register k)) ≡ length (left_code ++ middle) + 1 = length-append (left_code ++ middle) (made_truth rd (register k)) in
    let parts = pieces_split s.memory g here (left_code ++ middle) (made_truth rd (register k)) code in
    let fronts = pieces_split s.memory g here left_code middle parts.0 in
    let one = ea.gives k here s fa (omega (arith, sum, all, short)) fronts.0 at ready in
    let m : State = one.computes.goes.after in
    let there : ℕ = here + length left_code in
    let ready_m = ready_after t f kinds frame w here (length left_code) k s one.computes.goes ready in
    let code_m = code_after g here (length left_code) k there middle s one.computes.goes fronts.1 in
    let two = chosen g there k y right_code m u taken code_m one.computes.goes.pc one.computes.goes.registers inside (omega (arith, sum, all, short)) (does m one.computes.is one.int)
    (λ no. (subst IsInt (sym (left no)) one.int, one.computes.is ∙ ap extended (sym (left no))))
    (λ yes first. (right yes).gives k (there + 2) first.after fb (omega (arith, sum, all, short)) (subst (λ i. PiecesAt first.after.memory g i right_code) (omega arith) (code_after g there 2 15 (there + 1 + 1) right_code m first code_m.1.1))
    first.pc (ready_after t f kinds frame w there 2 15 m first ready_m)) in
    let front = goes_as g here (length left_code + length middle) (length (left_code ++ middle)) k s (sym sum) (goes_then g here (length left_code) (length middle) k k s one.computes.goes (omega arith) two.computes.goes) in
    let value : sltu 0 (x front.after (register k)) ≡ extended (truth (not (is_zero u))) = ap (sltu 0) two.computes.is ∙ ap flag (below_zero u two.int) ∙ truth_extended (not (is_zero u)) in
    let last = then_puts g here (length (left_code ++ middle)) k rd (instruction (Sltu rd zero_register (register k))) s (extended (truth (not (is_zero u)))) front parts.1.0 may
    (sltu_done rd zero_register (register k) front.after ∙ ap (sets front.after rd) value) in
    record {
      int = truth_is_int (not (is_zero u));
      puts = puts_as g here (length (left_code ++ middle) + 1) (length (left_code ++ middle ++ made_truth rd (register k))) k rd s (extended (truth (not (is_zero u)))) (sym all) last;
    }

pub bne_done : (a b offset : ℕ) (s : State) → done (Bne a b offset) s ≡ branches s (not (x s a == x s b)) offset
unfolding done
bne_done a b offset s = refl

pub beq_done : (a b offset : ℕ) (s : State) → done (Beq a b offset) s ≡ branches s (x s a == x s b) offset
unfolding done
beq_done a b offset s = refl

pub zero_there : (s : State) (r : ℕ) (v : ℤ) → x s r ≡ extended v → IsInt v → (x s r == x s zero_register) ≡ is_zero v
zero_there s r v is int = ap (λ a. a == 0) is ∙ zero_extended v int

-- the right side that a run needs
record Side (t : Setting) (f : Shape) (kinds : Kinds) (frame : Frame) (w : World) (b : Operand) (nb : ℕ) (v : ℤ) (taken : Bool) (z : ℤ) : Type 0 where
  value : ℤ
  left : taken ≡ false → value ≡ v
  right : taken ≡ true → Serves t f kinds frame w b nb value
  is : truth (not (is_zero value)) ≡ z

right_side : (t : Setting) (f : Shape) (kinds : Kinds) (frame : Frame) (w : World) (b : Operand) (nb : ℕ) (v : ℤ) (ob : Option ℤ) (z : ℤ) → ((u : ℤ) → ob ≡ Some u → Serves t f kinds frame w b nb u) →
    with_some ob (λ y. Some (truth (not (is_zero y)))) ≡ Some z → Side t f kinds frame w b nb v true z
right_side t f kinds frame w b nb v None z eb e = absurd (cc e)
right_side t f kinds frame w b nb v (Some u) z eb e = record { value = u; left = λ no. absurd (cc no); right = λ yes. eb u refl; is = cc e }

and_side : (t : Setting) (f : Shape) (kinds : Kinds) (frame : Frame) (w : World) (b : Operand) (nb : ℕ) (v : ℤ) (zero_left : Bool) (ob : Option ℤ) (z : ℤ) → is_zero v ≡ zero_left →
    (cond zero_left (Some (pos 0)) None ≡ None → (u : ℤ) → ob ≡ Some u → Serves t f kinds frame w b nb u) → with_right And v (cond zero_left (Some (pos 0)) None) ob ≡ Some z → Side t f kinds frame w b nb v (not zero_left) z
and_side t f kinds frame w b nb v true ob z h eb e =
    let same : pos 0 ≡ z = cc e in
    record { value = v; left = λ no. refl; right = λ yes. absurd (cc yes); is = ap (λ c. truth (not c)) h ∙ same }
and_side t f kinds frame w b nb v false ob z h eb e = right_side t f kinds frame w b nb v ob z (eb refl) e

or_side : (t : Setting) (f : Shape) (kinds : Kinds) (frame : Frame) (w : World) (b : Operand) (nb : ℕ) (v : ℤ) (zero_left : Bool) (ob : Option ℤ) (z : ℤ) → is_zero v ≡ zero_left →
    (cond zero_left None (Some (pos 1)) ≡ None → (u : ℤ) → ob ≡ Some u → Serves t f kinds frame w b nb u) → with_right Or v (cond zero_left None (Some (pos 1))) ob ≡ Some z → Side t f kinds frame w b nb v zero_left z
or_side t f kinds frame w b nb v true ob z h eb e = right_side t f kinds frame w b nb v ob z (eb refl) e
or_side t f kinds frame w b nb v false ob z h eb e =
    let same : pos 1 ≡ z = cc e in
    record { value = v; left = λ no. refl; right = λ yes. absurd (cc yes); is = ap (λ c. truth (not c)) h ∙ same }

max_fits : (k na nb : ℕ) → k + max na nb ≤ 15 → (k + na ≤ 15) × (k + nb ≤ 15)
max_fits k na nb h = (omega (arith, h), omega (arith, h))

and_evaluates : (t : Setting) (f : Shape) (kinds : Kinds) (frame : Frame) (w : World) (left : Bool) (a b : Operand) (na nb : ℕ) (v : ℤ) (ob : Option ℤ) (z : ℤ) → Serves t f kinds frame w a na v →
    (decided And v ≡ None → (u : ℤ) → ob ≡ Some u → Serves t f kinds frame w b nb u) → 0 < na → with_right And v (decided And v) ob ≡ Some z → Evaluates t f kinds frame w (λ rd k. binary_code And left rd k a b) (max na nb) z
and_evaluates t f kinds frame w left a b na nb v ob z ea eb some e =
    let side = and_side t f kinds frame w b nb v (is_zero v) ob z refl eb e in
    record {
      run = λ rd k here s may fits short code at ready.
          let ok = max_fits k na nb fits in
          let inside : k < 15 = omega (arith, ok.0, some) in
          subst (Sets t.ground here (length (binary_code And left rd k a b)) k rd s) side.is
          (short_sets t f kinds frame w a b na nb v side.value (instruction (Bne (register k) zero_register 4)) (not (is_zero v)) ea rd k here s may ok.0 ok.1 inside short code at ready
          (λ m is int. bne_done (register k) zero_register 4 m ∙ ap (λ c. branches m (not c) 4) (zero_there m (register k) v is int)) side.left side.right);
    }

or_evaluates : (t : Setting) (f : Shape) (kinds : Kinds) (frame : Frame) (w : World) (left : Bool) (a b : Operand) (na nb : ℕ) (v : ℤ) (ob : Option ℤ) (z : ℤ) → Serves t f kinds frame w a na v →
    (decided Or v ≡ None → (u : ℤ) → ob ≡ Some u → Serves t f kinds frame w b nb u) → 0 < na → with_right Or v (decided Or v) ob ≡ Some z → Evaluates t f kinds frame w (λ rd k. binary_code Or left rd k a b) (max na nb) z
or_evaluates t f kinds frame w left a b na nb v ob z ea eb some e =
    let side = or_side t f kinds frame w b nb v (is_zero v) ob z refl eb e in
    record {
      run = λ rd k here s may fits short code at ready.
          let ok = max_fits k na nb fits in
          let inside : k < 15 = omega (arith, ok.0, some) in
          subst (Sets t.ground here (length (binary_code Or left rd k a b)) k rd s) side.is
          (short_sets t f kinds frame w a b na nb v side.value (instruction (Beq (register k) zero_register 4)) (is_zero v) ea rd k here s may ok.0 ok.1 inside short code at ready
          (λ m is int. beq_done (register k) zero_register 4 m ∙ ap (λ c. branches m c 4) (zero_there m (register k) v is int)) side.left side.right);
    }

-- ---- any operator

-- the value of the right side, where it is needed at all
plain_right : (t : Setting) (f : Shape) (kinds : Kinds) (frame : Frame) (w : World) (o : BinaryOp) (left : Bool) (a b : Operand) (na nb : ℕ) (v : ℤ) (ob : Option ℤ) (z : ℤ) → IsPlain o →
    nat_le nb na ≡ left → Serves t f kinds frame w a na v → ((u : ℤ) → ob ≡ Some u → Serves t f kinds frame w b nb u) → with_some ob (binary_result o v) ≡ Some z →
    Evaluates t f kinds frame w (λ rd k. operands_code left k a b (operator_code o rd)) (operator_needs o na nb) z
plain_right t f kinds frame w o left a b na nb v None z plain le ea eb e = absurd (cc e)
plain_right t f kinds frame w o left a b na nb v (Some u) z plain le ea eb e = plain_evaluates t f kinds frame w o left a b na nb v u z plain le ea (eb u refl) e

pub binary_right : (t : Setting) (f : Shape) (kinds : Kinds) (frame : Frame) (w : World) (o : BinaryOp) (left : Bool) (a b : Operand) (na nb : ℕ) (v : ℤ) (ob : Option ℤ) (z : ℤ) →
    nat_le nb na ≡ left → Serves t f kinds frame w a na v → (decided o v ≡ None → (u : ℤ) → ob ≡ Some u → Serves t f kinds frame w b nb u) → 0 < na → with_right o v (decided o v) ob ≡ Some z →
    Evaluates t f kinds frame w (λ rd k. binary_code o left rd k a b) (operator_needs o na nb) z
binary_right t f kinds frame w Add left a b na nb v ob z le ea eb pa e = plain_right t f kinds frame w Add left a b na nb v ob z tt le ea (eb refl) e
binary_right t f kinds frame w Subtract left a b na nb v ob z le ea eb pa e = plain_right t f kinds frame w Subtract left a b na nb v ob z tt le ea (eb refl) e
binary_right t f kinds frame w Multiply left a b na nb v ob z le ea eb pa e = plain_right t f kinds frame w Multiply left a b na nb v ob z tt le ea (eb refl) e
binary_right t f kinds frame w Divide left a b na nb v ob z le ea eb pa e = plain_right t f kinds frame w Divide left a b na nb v ob z tt le ea (eb refl) e
binary_right t f kinds frame w Remainder left a b na nb v ob z le ea eb pa e = plain_right t f kinds frame w Remainder left a b na nb v ob z tt le ea (eb refl) e
binary_right t f kinds frame w Less left a b na nb v ob z le ea eb pa e = plain_right t f kinds frame w Less left a b na nb v ob z tt le ea (eb refl) e
binary_right t f kinds frame w Greater left a b na nb v ob z le ea eb pa e = plain_right t f kinds frame w Greater left a b na nb v ob z tt le ea (eb refl) e
binary_right t f kinds frame w LessEqual left a b na nb v ob z le ea eb pa e = plain_right t f kinds frame w LessEqual left a b na nb v ob z tt le ea (eb refl) e
binary_right t f kinds frame w GreaterEqual left a b na nb v ob z le ea eb pa e = plain_right t f kinds frame w GreaterEqual left a b na nb v ob z tt le ea (eb refl) e
binary_right t f kinds frame w Equal left a b na nb v ob z le ea eb pa e = plain_right t f kinds frame w Equal left a b na nb v ob z tt le ea (eb refl) e
binary_right t f kinds frame w NotEqual left a b na nb v ob z le ea eb pa e = plain_right t f kinds frame w NotEqual left a b na nb v ob z tt le ea (eb refl) e
binary_right t f kinds frame w And left a b na nb v ob z le ea eb pa e = and_evaluates t f kinds frame w left a b na nb v ob z ea eb pa e
binary_right t f kinds frame w Or left a b na nb v ob z le ea eb pa e = or_evaluates t f kinds frame w left a b na nb v ob z ea eb pa e

-- a small number is added
record Adds (v n z : ℤ) : Type 0 where
  small : is_small n ≡ true
  int : IsInt (v +ℤ n)
  is : v +ℤ n ≡ z

add_is : (v n z : ℤ) → is_small n ≡ true → (v +ℤ n ≡ z) × IsInt z → Adds v n z
add_is v n z small fits = record { small = small; int = subst IsInt (sym fits.0) fits.1; is = fits.0 }

taken_from : (v n : ℤ) → v +ℤ (pos 0 -ℤ n) ≡ v -ℤ n
taken_from v n = omega (arith, ints)

added_by : (m n v z : ℤ) (b : Bool) → is_small m ≡ b → cond b (Some m) None ≡ Some n → (v +ℤ m ≡ z) × IsInt z → Adds v n z
added_by m n v z true small e fits = let same : m ≡ n = cc e in subst (λ i. Adds v i z) same (add_is v m z small fits)
added_by m n v z false small e fits = absurd (cc e)

addend_is : (kinds : Kinds) (frame : Frame) (w : World) (o : BinaryOp) (b : Value) (n v z : ℤ) → addend o b ≡ Some n → with_right o v (decided o v) (value_in kinds frame w b) ≡ Some z → Adds v n z
addend_is kinds frame w Add (number m) n v z e h = added_by m n v z (is_small m) refl e (fitting_is (v +ℤ m) z h)
addend_is kinds frame w Add (load p) n v z e h = absurd (cc e)
addend_is kinds frame w Add (unary o b) n v z e h = absurd (cc e)
addend_is kinds frame w Add (binary o b c) n v z e h = absurd (cc e)
addend_is kinds frame w Add (call_value c args) n v z e h = absurd (cc e)
addend_is kinds frame w Subtract (number m) n v z e h =
    let fits = fitting_is (v -ℤ m) z h in
    added_by (pos 0 -ℤ m) n v z (is_small (pos 0 -ℤ m)) refl e (taken_from v m ∙ fits.0, fits.1)
addend_is kinds frame w Subtract (load p) n v z e h = absurd (cc e)
addend_is kinds frame w Subtract (unary o b) n v z e h = absurd (cc e)
addend_is kinds frame w Subtract (binary o b c) n v z e h = absurd (cc e)
addend_is kinds frame w Subtract (call_value c args) n v z e h = absurd (cc e)
addend_is kinds frame w Multiply b n v z e h = absurd (cc e)
addend_is kinds frame w Divide b n v z e h = absurd (cc e)
addend_is kinds frame w Remainder b n v z e h = absurd (cc e)
addend_is kinds frame w Less b n v z e h = absurd (cc e)
addend_is kinds frame w Greater b n v z e h = absurd (cc e)
addend_is kinds frame w LessEqual b n v z e h = absurd (cc e)
addend_is kinds frame w GreaterEqual b n v z e h = absurd (cc e)
addend_is kinds frame w Equal b n v z e h = absurd (cc e)
addend_is kinds frame w NotEqual b n v z e h = absurd (cc e)
addend_is kinds frame w And b n v z e h = absurd (cc e)
addend_is kinds frame w Or b n v z e h = absurd (cc e)

-- an operator needs what its left side needs
plain_more : (na nb : ℕ) → na ≤ cond (na == nb) (na + 1) (max na nb)
plain_more na nb = grind (arith, nat_tests)

left_needs : (o : BinaryOp) (na nb : ℕ) → na ≤ operator_needs o na nb
left_needs Add na nb = plain_more na nb
left_needs Subtract na nb = plain_more na nb
left_needs Multiply na nb = plain_more na nb
left_needs Divide na nb = plain_more na nb
left_needs Remainder na nb = plain_more na nb
left_needs Less na nb = plain_more na nb
left_needs Greater na nb = plain_more na nb
left_needs LessEqual na nb = plain_more na nb
left_needs GreaterEqual na nb = plain_more na nb
left_needs Equal na nb = plain_more na nb
left_needs NotEqual na nb = plain_more na nb
left_needs And na nb = omega arith
left_needs Or na nb = omega arith

sum_evaluates : (t : Setting) (f : Shape) (kinds : Kinds) (frame : Frame) (w : World) (a : Operand) (na need : ℕ) (v n z : ℤ) (other : (rd k : ℕ) → List Piece) → Serves t f kinds frame w a na v → na ≤ need →
    Adds v n z → Evaluates t f kinds frame w (λ rd k. sum_code (Some n) rd k a (other rd k)) need z
sum_evaluates t f kinds frame w a na need v n z other ea le h = record {
  run = λ rd k here s may fits short code at ready.
      let g : Ground = t.ground in
      let front : List Piece = brought a k in
      let word : Piece = instruction (Addiw rd (read_in a k) (immediate n)) in
      let sum : length (front ++ word ∷ []) ≡ length front + 1 = length-append front (word ∷ []) in
      let parts = pieces_split s.memory g here front (word ∷ []) code in
      let one = ea.reads k here s (omega (arith, fits, le)) (omega (arith, sum, short)) parts.0 at ready in
      let m : State = one.goes.after in
      let value : addw (x m (read_in a k)) (imm12 (immediate n)) ≡ extended z
      = ap (λ i. addw i (imm12 (immediate n))) one.is ∙ ap (addw (extended v)) (small_field n h.small) ∙ add_ints v n one.int (small_int n h.small) h.int ∙ ap extended h.is in
      record {
        int = subst IsInt h.is h.int;
        puts = puts_as g here (length front + 1) (length (front ++ word ∷ [])) k rd s (extended z) (sym sum)
            (then_puts g here (length front) k rd word s (extended z) one.goes parts.1.0 may (addiw_done rd (read_in a k) (immediate n) m ∙ ap (sets m rd) value));
      };
}

-- a small number is added, or both sides are computed
sum_or_both : (t : Setting) (f : Shape) (kinds : Kinds) (frame : Frame) (w : World) (o : BinaryOp) (right : Value) (q : Option ℤ) (a b : Operand) (na nb : ℕ) (v z : ℤ) → addend o right ≡ q → Serves t f kinds frame w a na v →
    (decided o v ≡ None → (u : ℤ) → value_in kinds frame w right ≡ Some u → Serves t f kinds frame w b nb u) → 0 < na → with_right o v (decided o v) (value_in kinds frame w right) ≡ Some z →
    Evaluates t f kinds frame w (λ rd k. sum_code q rd k a (binary_code o (nat_le nb na) rd k a b)) (operator_needs o na nb) z
sum_or_both t f kinds frame w o right None a b na nb v z q ea eb pa e = binary_right t f kinds frame w o (nat_le nb na) a b na nb v (value_in kinds frame w right) z refl ea eb pa e
sum_or_both t f kinds frame w o right (Some n) a b na nb v z q ea eb pa e =
    sum_evaluates t f kinds frame w a na (operator_needs o na nb) v n z (λ rd k. binary_code o (nat_le nb na) rd k a b) ea (left_needs o na nb) (addend_is kinds frame w o right n v z q e)

binary_evaluates : (t : Setting) (f : Shape) (kinds : Kinds) (frame : Frame) (w : World) (o : BinaryOp) (right : Value) (a b : Operand) (na nb : ℕ) (oa : Option ℤ) (z : ℤ) →
    ((v : ℤ) → oa ≡ Some v → Serves t f kinds frame w a na v) → ((v : ℤ) → oa ≡ Some v → decided o v ≡ None → (u : ℤ) → value_in kinds frame w right ≡ Some u → Serves t f kinds frame w b nb u) → 0 < na →
    with_some oa (λ v. with_right o v (decided o v) (value_in kinds frame w right)) ≡ Some z →
    Evaluates t f kinds frame w (λ rd k. sum_code (addend o right) rd k a (binary_code o (nat_le nb na) rd k a b)) (operator_needs o na nb) z
binary_evaluates t f kinds frame w o right a b na nb None z ea eb pa e = absurd (cc e)
binary_evaluates t f kinds frame w o right a b na nb (Some v) z ea eb pa e = sum_or_both t f kinds frame w o right (addend o right) a b na nb v z refl (ea v refl) (eb v refl) pa e

unary_evaluates : (t : Setting) (f : Shape) (kinds : Kinds) (frame : Frame) (w : World) (o : UnaryOp) (a : Operand) (na : ℕ) (oa : Option ℤ) (z : ℤ) →
    ((v : ℤ) → oa ≡ Some v → Serves t f kinds frame w a na v) → with_some oa (unary_result o) ≡ Some z → Evaluates t f kinds frame w (λ rd k. brought a k ++ unary_code o rd (read_in a k)) na z
unary_evaluates t f kinds frame w o a na None z ea e = absurd (cc e)
unary_evaluates t f kinds frame w o a na (Some v) z ea e = record {
  run = λ rd k here s may fits short code at ready.
      let g : Ground = t.ground in
      let front : List Piece = brought a k in
      let op : List Piece = unary_code o rd (read_in a k) in
      let sum : length (front ++ op) ≡ length front + length op = length-append front op in
      let parts = pieces_split s.memory g here front op code in
      let one = (ea v refl).reads k here s fits (omega (arith, sum, short)) parts.0 at ready in
      let last = unary_sets g (here + length front) k rd (read_in a k) one.goes.after o v z one.int one.is may (code_after g here (length front) k (here + length front) op s one.goes parts.1) one.goes.pc one.goes.registers e in
      sets_as g here (length front + length op) (length (front ++ op)) k rd s z (sym sum) (sets_behind g here (length front) (length op) k rd s z one.goes last);
}

-- a value needs a register
plain_some : (na nb : ℕ) → 0 < na → 0 < cond (na == nb) (na + 1) (max na nb)
plain_some na nb pa = grind (arith, nat_tests, pa)

pub operator_some : (o : BinaryOp) (na nb : ℕ) → 0 < na → 0 < operator_needs o na nb
operator_some Add na nb pa = plain_some na nb pa
operator_some Subtract na nb pa = plain_some na nb pa
operator_some Multiply na nb pa = plain_some na nb pa
operator_some Divide na nb pa = plain_some na nb pa
operator_some Remainder na nb pa = plain_some na nb pa
operator_some Less na nb pa = plain_some na nb pa
operator_some Greater na nb pa = plain_some na nb pa
operator_some LessEqual na nb pa = plain_some na nb pa
operator_some GreaterEqual na nb pa = plain_some na nb pa
operator_some Equal na nb pa = plain_some na nb pa
operator_some NotEqual na nb pa = plain_some na nb pa
operator_some And na nb pa = omega (arith, pa)
operator_some Or na nb pa = omega (arith, pa)

pub needs_some : (v : Value) → 0 < needs v
needs_some (number v) = omega arith
needs_some (load p) = omega arith
needs_some (unary o v) = needs_some v
needs_some (binary o a b) = operator_some o (needs a) (needs b) (needs_some a)
needs_some (call_value c args) = omega arith

-- ---- operands

root_saved : (f : Shape) (root : Root) (r : ℕ) → root_register f root ≡ Some r → IsSaved r
root_saved f (in_slot slot) r e = register_is f.kept slot r e
root_saved f (through slot) r e = absurd (cc e)
root_saved f (in_global g) r e = absurd (cc e)

held_saved : (f : Shape) (v : Value) (r : ℕ) → held_in f v ≡ Some r → IsSaved r
held_saved f (number n) r e = absurd (cc e)
held_saved f (load p) r e = root_saved f p.root r e
held_saved f (unary o v) r e = absurd (cc e)
held_saved f (binary o a b) r e = absurd (cc e)
held_saved f (call_value c args) r e = absurd (cc e)

root_there : (t : Setting) (f : Shape) (kinds : Kinds) (frame : Frame) (w : World) (root : Root) (n r : ℕ) (s : State) (z : ℤ) → Ready t f kinds frame w s → root_register f root ≡ Some r →
    RootFits t f kinds frame root n → with_some (root_location kinds frame root n) (read_location frame w) ≡ Some z → IsInt z × (x s r ≡ extended z)
root_there t f kinds frame w (in_slot slot) n r s z h e fits is = register_there t f kinds frame w slot n r s z h e (fits.3 r e) is
root_there t f kinds frame w (through slot) n r s z h e fits is = absurd (cc e)
root_there t f kinds frame w (in_global g) n r s z h e fits is = absurd (cc e)

held_there : (t : Setting) (f : Shape) (kinds : Kinds) (frame : Frame) (w : World) (v : Value) (r : ℕ) (s : State) (z : ℤ) → Ready t f kinds frame w s → held_in f v ≡ Some r →
    ValueStands t f kinds frame w v → value_in kinds frame w v ≡ Some z → IsInt z × (x s r ≡ extended z)
held_there t f kinds frame w (number n) r s z h e stands is = absurd (cc e)
held_there t f kinds frame w (load p) r s z h e stands is = root_there t f kinds frame w p.root p.offset r s z h e stands.0 is
held_there t f kinds frame w (unary o v) r s z h e stands is = absurd (cc e)
held_there t f kinds frame w (binary o a b) r s z h e stands is = absurd (cc e)
held_there t f kinds frame w (call_value c args) r s z h e stands is = absurd (cc e)

-- what comes behind leaves the register of an operand
pub read_aside : (f : Shape) (v : Value) (k : ℕ) → k < 15 → IsKept (k + 1) (read_in (operand f v) k)
read_aside f v k small = by (held_in f v) refl
  where
    by : (o : Option ℕ) → held_in f v ≡ o → IsKept (k + 1) (unwrap_or o (register k))
    by None e = kept_register k (k + 1) (omega arith) small
    by (Some r) e = kept_saved (k + 1) r (held_saved f v r e)

-- a value as an operand, if it is computed
operand_serves : (t : Setting) (f : Shape) (kinds : Kinds) (frame : Frame) (w : World) (v : Value) (z : ℤ) → ValueStands t f kinds frame w v → value_in kinds frame w v ≡ Some z → 0 < needs v →
    Evaluates t f kinds frame w (λ rd k. value_code f rd k v) (needs v) z → Serves t f kinds frame w (operand f v) (needs v) z
operand_serves t f kinds frame w v z stands is some h = by (held_in f v) refl
  where
    given : (k here : ℕ) (s : State) → k + needs v ≤ 15 → length (value_code f (register k) k v) < 2 ^ 18 → PiecesAt s.memory t.ground here (value_code f (register k) k v) → s.pc ≡ address t.ground here →
        Ready t f kinds frame w s → Gives t.ground here (length (value_code f (register k) k v)) k s z
    given k here s fits short pieces at ready =
        let small : k < 15 = omega (arith, fits, some) in
        gives_of t.ground here (length (value_code f (register k) k v)) k s z small (h.run (register k) k here s (may_set k small) fits short pieces at ready)

    by : (o : Option ℕ) → held_in f v ≡ o → Serves t f kinds frame w (record { held = o; code = λ k. value_code f (register k) k v }) (needs v) z
    by None e = record {
      gives = given;
      reads = λ k here s fits short pieces at ready. let one = given k here s fits short pieces at ready in record { int = one.int; goes = one.computes.goes; is = one.computes.is };
      kept = λ k small. kept_register k (k + 1) (omega arith) small;
    }
    by (Some r) e = record {
      gives = given;
      reads = λ k here s fits short pieces at ready.
          let there = held_there t f kinds frame w v r s z ready e stands is in record { int = there.0; goes = goes_none t.ground here k s at ready.registers; is = there.1 };
      kept = λ k small. kept_saved (k + 1) r (held_saved f v r e);
    }

-- each value whose int is defined
pub value_evaluates : (t : Setting) (f : Shape) (kinds : Kinds) (frame : Frame) (w : World) (v : Value) (z : ℤ) → ValueStands t f kinds frame w v → value_in kinds frame w v ≡ Some z →
    Evaluates t f kinds frame w (λ rd k. value_code f rd k v) (needs v) z
value_evaluates t f kinds frame w (number v) z stands e =
    let same : v ≡ z = cc e in
    record {
      run = λ rd k here s may fits short code at ready.
          subst (Sets t.ground here (length (value_code f rd k (number v))) k rd s) same (record { int = stands; puts = number_sets t.ground here k rd s v stands may code at ready.registers });
    }
value_evaluates t f kinds frame w (load p) z stands e = record {
  run = λ rd k here s may fits short code at ready. place_sets t f kinds frame w k rd here s z p.root p.offset ready may stands.0 stands.1 code at e;
}
value_evaluates t f kinds frame w (unary o v) z stands e =
    unary_evaluates t f kinds frame w o (operand f v) (needs v) (value_in kinds frame w v) z
    (λ u h. operand_serves t f kinds frame w v u stands h (needs_some v) (value_evaluates t f kinds frame w v u stands h)) e
value_evaluates t f kinds frame w (binary o a b) z stands e =
    binary_evaluates t f kinds frame w o b (operand f a) (operand f b) (needs a) (needs b) (value_in kinds frame w a) z
    (λ u h. operand_serves t f kinds frame w a u stands.0 h (needs_some a) (value_evaluates t f kinds frame w a u stands.0 h))
    (λ x is undecided u h. let there = stands.1 x is undecided in operand_serves t f kinds frame w b u there h (needs_some b) (value_evaluates t f kinds frame w b u there h)) (needs_some a) e
value_evaluates t f kinds frame w (call_value c args) z stands e = absurd (cc e)

pub value_serves : (t : Setting) (f : Shape) (kinds : Kinds) (frame : Frame) (w : World) (v : Value) (z : ℤ) → ValueStands t f kinds frame w v → value_in kinds frame w v ≡ Some z →
    Serves t f kinds frame w (operand f v) (needs v) z
value_serves t f kinds frame w v z stands e = operand_serves t f kinds frame w v z stands e (needs_some v) (value_evaluates t f kinds frame w v z stands e)

-- ---- a kept variable gets a value

pub kept_sets : (t : Setting) (f : Shape) (kinds : Kinds) (frame : Frame) (w : World) (v : Value) (z : ℤ) (rd here : ℕ) (s : State) → ValueStands t f kinds frame w v → value_in kinds frame w v ≡ Some z →
    MaySet rd → needs v ≤ 15 → length (value_kept f rd v) < 2 ^ 18 → PiecesAt s.memory t.ground here (value_kept f rd v) → s.pc ≡ address t.ground here → Ready t f kinds frame w s →
    Sets t.ground here (length (value_kept f rd v)) 0 rd s z
kept_sets t f kinds frame w (number n) z rd here s stands e may fits short code at ready = (value_evaluates t f kinds frame w (number n) z stands e).run rd 0 here s may (omega (arith, fits)) short code at ready
kept_sets t f kinds frame w (unary o v) z rd here s stands e may fits short code at ready = (value_evaluates t f kinds frame w (unary o v) z stands e).run rd 0 here s may (omega (arith, fits)) short code at ready
kept_sets t f kinds frame w (binary o a b) z rd here s stands e may fits short code at ready = (value_evaluates t f kinds frame w (binary o a b) z stands e).run rd 0 here s may (omega (arith, fits)) short code at ready
kept_sets t f kinds frame w (call_value c args) z rd here s stands e may fits short code at ready = absurd (cc e)
kept_sets t f kinds frame w (load p) z rd here s stands e may fits short code at ready =
    let g : Ground = t.ground in
    let o : Operand = operand f (load p) in
    let front : List Piece = brought o 0 in
    let word : Piece = instruction (copied rd (read_in o 0)) in
    let sum : length (front ++ word ∷ []) ≡ length front + 1 = length-append front (word ∷ []) in
    let parts = pieces_split s.memory g here front (word ∷ []) code in
    let one = (value_serves t f kinds frame w (load p) z stands e).reads 0 here s (omega (arith, fits)) (omega (arith, sum, short)) parts.0 at ready in
    record {
      int = one.int;
      puts = puts_as g here (length front + 1) (length (front ++ word ∷ [])) 0 rd s (extended z) (sym sum)
          (then_puts g here (length front) 0 rd word s (extended z) one.goes parts.1.0 may (copied_done rd (read_in o 0) one.goes.after z one.int one.is));
    }
