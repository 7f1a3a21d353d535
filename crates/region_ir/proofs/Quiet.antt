-- Nothing comes before the value of an expression without calls.
use Rattle.std.proofs.Common.{◌≡◌, ◌∙◌, ℕ, Bool, true, false, ◌||◌, true≢false, List, [], drop, refl, ap, sym}
use Rattle.std.specs.Prelude.{if◌then◌else◌}
use Rattle.cxx_ast.specs.declared.expression.BinaryOp.{BinaryOp}
use Rattle.cxx_ast.specs.declared.types.Ty.{Ty}
use Rattle.cxx_ast.specs.Plain.{Expression, number, path, paren, unary, binary, call, std_call, Expressions, no_expressions, expression_then}
use Rattle.meaning_forms.specs.Expression.{lvalue_of, names_of}
use Rattle.region_forms.specs.Form.{Place, Region, Value, binary as binary_value}
use Rattle.region_forms.specs.LowerExpression.{Lowering, Lowered, LoweredArguments, has_call, some_call, both, lower, lower_arguments, refers, place_of, address_passed, int_passed}
use Rattle.region_ir.specs.declared.region.Region.{Region as RegionTree}
use Rattle.region_ir.specs.declared.value.Value.{Value as ValueTree}
use Rattle.region_ir.specs.Lowers.{Lowers}
use Rattle.region_ir.specs.View.{value_of}

pub left_quiet : (a b : Bool) → (a || b) ≡ false → a ≡ false
left_quiet true b h = absurd (true≢false h)
left_quiet false b h = refl

pub right_quiet : (a b : Bool) → (a || b) ≡ false → b ≡ false
right_quiet true b h = absurd (true≢false h)
right_quiet false b h = h

both_quiet : (o : BinaryOp) (c : Bool) (t : ℕ) (a : Lowered) (b : ℕ → Lowered) → c ≡ false → (both o c t a b).before ≡ a.before
both_quiet o false t a b h = refl
both_quiet o true t a b h = absurd (true≢false h)

pub quiet : (l : Lowering) (e : Expression) (t : ℕ) → has_call e ≡ false → (lower l e t).before ≡ []
quiet l (number v place) t h = refl
quiet l (path names) t h = refl
quiet l (paren e place) t h = quiet l e t h
quiet l (unary o e place) t h = quiet l e t h
quiet l (binary o a b) t h =
    both_quiet o (has_call b) t (lower l a t) (λ u. lower l b u) (right_quiet (has_call a) (has_call b) h)
    ∙ quiet l a t (left_quiet (has_call a) (has_call b) h)
quiet l (call names es) t h = absurd (true≢false h)
quiet l (std_call n es place) t h = absurd (true≢false h)

value_both : (o : BinaryOp) (c : Bool) (t : ℕ) (a : Lowered) (b : ℕ → Lowered) → c ≡ false → (both o c t a b).value ≡ binary_value o a.value (b a.next).value
value_both o false t a b h = refl
value_both o true t a b h = absurd (true≢false h)

-- an operator whose right side makes no calls
pub quiet_side : (o : BinaryOp) (c : Bool) (t : ℕ) (x : Lowered) (f : ℕ → Lowered) (others : List Region) (now : List RegionTree) (value left : ValueTree) (next free : ℕ) →
    c ≡ false → Lowers x others now left next → free ≡ next → value_of value ≡ binary_value o (value_of left) (f x.next).value → Lowers (both o c t x f) others now value free
quiet_side o false t x f others now value left next free e h n made = record {
  put = h.put;
  same = made ∙ ap (λ v. binary_value o v (f x.next).value) h.same;
  behind = n ∙ h.behind;
}
quiet_side o true t x f others now value left next free e h n made = absurd (true≢false e)

-- two operands without calls
pub pure_both : (l : Lowering) (o : BinaryOp) (a b : Expression) (t : ℕ) (x y : Value) → (has_call a || has_call b) ≡ false → x ≡ (lower l a t).value →
    y ≡ (lower l b (lower l a t).next).value → binary_value o x y ≡ (lower l (binary o a b) t).value
pure_both l o a b t x y h e f =
    ap (λ v. binary_value o v y) e ∙ (ap (λ v. binary_value o (lower l a t).value v) f
    ∙ sym (value_both o (has_call b) t (lower l a t) (λ u. lower l b u) (right_quiet (has_call a) (has_call b) h)))

first_quiet : (b c : Bool) (p : Place) (t : ℕ) (a : Lowered) (rest : ℕ → LoweredArguments) → c ≡ false → a.before ≡ [] → (rest t).before ≡ [] →
    (if b then address_passed p (rest t) else int_passed c t a rest).before ≡ []
first_quiet true c p t a rest h q r = r
first_quiet false false p t a rest h q r = q
first_quiet false true p t a rest h q r = absurd (true≢false h)

-- nor before arguments without calls
pub arguments_quiet : (l : Lowering) (es : Expressions) (types : List Ty) (t : ℕ) → some_call es ≡ false → (lower_arguments l es types t).before ≡ []
arguments_quiet l no_expressions types t h = refl
arguments_quiet l (expression_then e es) types t h =
    let none : some_call es ≡ false = right_quiet (has_call e) (some_call es) h in
    first_quiet (refers types) (some_call es) (place_of l (names_of (lvalue_of e))) t (lower l e t) (λ u. lower_arguments l es (drop 1 types) u) none
    (quiet l e t (left_quiet (has_call e) (some_call es) h)) (arguments_quiet l es (drop 1 types) t none)
