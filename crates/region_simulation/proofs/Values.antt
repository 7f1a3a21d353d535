-- The value that an expression without calls is lowered to is what the expression means.
use Rattle.std.proofs.Common.{◌≡◌, ℕ, ℤ, Bool, true, false, List, [], Option, Some, None, refl, sym, ap, ◌∙◌, subst}
use Rattle.std.specs.Prelude.{◌||◌, ◌+ℤ◌, ◌-ℤ◌, ◌*ℤ◌, neg_ℤ, int_div, int_rem, if◌then◌else◌}
use Rattle.cxx_ast.specs.declared.expression.UnaryOp.{UnaryOp}
use Rattle.cxx_ast.specs.declared.expression.UnaryOp.TheVariants.{Minus, Not}
use Rattle.cxx_ast.specs.declared.expression.BinaryOp.{BinaryOp}
use Rattle.cxx_ast.specs.declared.expression.BinaryOp.TheVariants.{Add, Subtract, Multiply, Divide, Remainder, Less, Greater, LessEqual, GreaterEqual, Equal, NotEqual, And, Or}
use Rattle.cxx_ast.specs.declared.name.Name.{Name}
use Rattle.cxx_ast.specs.Plain.{Expression, number, path, paren, unary, binary, call, std_call}
use Rattle.meaning_forms.specs.Arithmetic.{fits_int, is_zero, dividing, unary_value, binary_value, decided}
use Rattle.meaning_forms.specs.Class.{int_type}
use Rattle.meaning_forms.specs.Part.{Part, cell, object}
use Rattle.meaning_forms.specs.World.{World as SourceWorld, part_of}
use Rattle.meaning_forms.specs.Context.{Context as SourceContext}
use Rattle.meaning_forms.specs.Outcome.{Result as SourceResult, done, stopped, thrown, cancelled, ended, undefined, out_of_turns, deep, Action, continued, pure, stop, read, read_part}
use Rattle.meaning_forms.specs.Frame.{Frame as SourceFrame, lvalue}
use Rattle.meaning_forms.specs.Running.{Running as SourceRunning}
use Rattle.meaning_forms.specs.Expression.{value_of, with_right_side}
use Rattle.region_forms.specs.Form.{Kinds, load}
use Rattle.region_forms.specs.World.{Address}
use Rattle.region_forms.specs.Evaluation.{in_memory, locate, with_some, read_location, quotient, unary_result, binary_result, with_right, value_in}
use Rattle.region_forms.specs.Outcome.{State}
use Rattle.region_forms.specs.LowerExpression.{Lowering, lower, has_call, both, place_of}
use Rattle.region_simulation.specs.Places.{Places, Refers}
use Rattle.region_simulation.specs.Reach.{Reaches, KindsFit}
use Rattle.region_simulation.specs.Names.{AreNamed}
use Rattle.region_simulation.specs.Stands.{Stands}
use Rattle.region_simulation.specs.Typing.{IsTyped}
use Rattle.region_simulation.specs.Value.{IsValue, ValuesAreMeant}
use Rattle.region_simulation.proofs.Naming.{names_placed}
use Rattle.region_simulation.proofs.There.{refers_there}

pub neither : (a b : Bool) → (a || b) ≡ false → (a ≡ false) × (b ≡ false)
neither false false e = (refl, refl)
neither true b e = absurd (cc e)
neither false true e = absurd (cc e)

-- what follows a value
pub value_then : (w : SourceWorld) (x : SourceResult ℤ) (y : Option ℤ) (f : ℤ → Action ℤ) (g : ℤ → Option ℤ) → IsValue w x y
    → ((v : ℤ) → IsValue w (f v w) (g v)) → IsValue w (continued x f) (with_some y g)
value_then w (done v w2) y f g (e, i) h =
    subst (λ u. IsValue w (f v u) (with_some y g)) (sym e) (subst (λ z. IsValue w (f v w) (with_some z g)) (sym i) (h v))
value_then w (stopped undefined w2) y f g is h = tt
value_then w (stopped (thrown e) w2) y f g is h = absurd is
value_then w (stopped (cancelled n) w2) y f g is h = absurd is
value_then w (stopped (ended e) w2) y f g is h = absurd is
value_then w (stopped out_of_turns w2) y f g is h = absurd is
value_then w (stopped deep w2) y f g is h = absurd is

-- the arithmetic of both is the same
in_range_means : (w : SourceWorld) (z v : ℤ) (b : Bool) → IsValue w ((if b then pure v else stop undefined) w) (if b then Some v else None)
in_range_means w z v true = (refl, refl)
in_range_means w z v false = tt

quotient_means : (w : SourceWorld) (x y v : ℤ) → IsValue w (dividing x y v w) (quotient x y v)
quotient_means w x y v = go (is_zero y)
  where
    go : (b : Bool) → IsValue w ((if b then stop undefined else if fits_int (int_div x y) then pure v else stop undefined) w)
        (if b then None else if fits_int (int_div x y) then Some v else None)
    go true = tt
    go false = in_range_means w v v (fits_int (int_div x y))

pub unary_means : (w : SourceWorld) (op : UnaryOp) (x : ℤ) → IsValue w (unary_value op x w) (unary_result op x)
unary_means w Minus x = in_range_means w x (neg_ℤ x) (fits_int (neg_ℤ x))
unary_means w Not x = (refl, refl)

pub binary_means : (w : SourceWorld) (op : BinaryOp) (x y : ℤ) → IsValue w (binary_value op x y w) (binary_result op x y)
binary_means w Add x y = in_range_means w x (x +ℤ y) (fits_int (x +ℤ y))
binary_means w Subtract x y = in_range_means w x (x -ℤ y) (fits_int (x -ℤ y))
binary_means w Multiply x y = in_range_means w x (x *ℤ y) (fits_int (x *ℤ y))
binary_means w Divide x y = quotient_means w x y (int_div x y)
binary_means w Remainder x y = quotient_means w x y (int_rem x y)
binary_means w Less x y = (refl, refl)
binary_means w Greater x y = (refl, refl)
binary_means w LessEqual x y = (refl, refl)
binary_means w GreaterEqual x y = (refl, refl)
binary_means w Equal x y = (refl, refl)
binary_means w NotEqual x y = (refl, refl)
binary_means w And x y = (refl, refl)
binary_means w Or x y = (refl, refl)

-- the right side, where the left one does not decide
pub right_means : (w : SourceWorld) (op : BinaryOp) (x : ℤ) (d : Option ℤ) (right : Action ℤ) (y : Option ℤ) → IsValue w (right w) y
    → IsValue w (with_right_side op x d right w) (with_right op x d y)
right_means w op x (Some v) right y is = (refl, refl)
right_means w op x None right y is = value_then w (right w) y (binary_value op x) (binary_result op x) is (binary_means w op x)

module _ (l : Lowering) (own : Option ℕ) (kinds : Kinds) (v : SourceFrame) (at : Places) (d : SourceContext) (w : SourceWorld) (s : State)
    (fit : KindsFit l kinds) (reach : Reaches l own at v s.frame) (stands : Stands l.layout l.program at d w s) where
  -- the int that a place holds
  pub place_means : (names : List Name) → AreNamed l own v.variables names int_type
      → IsValue w (read (lvalue l.program w v names) w) (value_in kinds s.frame s.world (load (place_of l names)))
  place_means names h =
      let (a, refers, located) = names_placed l own kinds v at d w s fit reach stands names int_type h in
      go a refers located (part_of w (lvalue l.program w v names)) refl
    where
      go : (a : Address) → Refers l.layout l.program at (lvalue l.program w v names) int_type a
          → locate kinds s.frame (place_of l names) ≡ Some (in_memory a) → (x : Part) → part_of w (lvalue l.program w v names) ≡ x
          → IsValue w (read_part x w) (value_in kinds s.frame s.world (load (place_of l names)))
      go a refers located (object k parts) is = tt
      go a refers located (cell None) is = tt
      go a refers located (cell (Some n)) is = (
        refl,
        ap (λ x. with_some x (read_location s.frame s.world)) located ∙
            ap (λ z. if z then s.world.memory a else None) (refers_there l.layout l.program at d w s stands (lvalue l.program w v names) int_type a refers) ∙
            ap s.world.memory refers.address ∙
            stands.memory.holds (lvalue l.program w v names).object refers.stood (lvalue l.program w v names).path n refers.stands is,
      )

  pub value_means : (r : SourceRunning) (c : SourceContext) → r.program ≡ l.program → (e : Expression) (t : ℕ) → has_call e ≡ false → IsTyped l own v.variables e
      → ((lower l e t).before ≡ []) × IsValue w (value_of r v e c w) (value_in kinds s.frame s.world (lower l e t).value)
  value_means r c same (number n place) t quiet reads = (refl, (refl, refl))
  value_means r c same (path names) t quiet reads =
      (refl, subst (λ p. IsValue w (read (lvalue p w v names) w) (value_in kinds s.frame s.world (load (place_of l names)))) (sym same) (place_means names reads))
  value_means r c same (paren e place) t quiet reads = value_means r c same e t quiet reads
  value_means r c same (unary op e place) t quiet reads =
      let (none, is) = value_means r c same e t quiet reads in
      (none, value_then w (value_of r v e c w) (value_in kinds s.frame s.world (lower l e t).value) (unary_value op) (unary_result op) is (unary_means w op))
  value_means r c same (binary op a b) t quiet reads =
      let (no_a, no_b) = neither (has_call a) (has_call b) quiet in
      let (none, is) = value_means r c same a t no_a reads.0 in
      let (_, right) = value_means r c same b (lower l a t).next no_b reads.1 in
      subst (λ x. ((both op x t (lower l a t) (λ u. lower l b u)).before ≡ []) ×
      IsValue w (value_of r v (binary op a b) c w) (value_in kinds s.frame s.world (both op x t (lower l a t) (λ u. lower l b u)).value)) (sym no_b) (
        none,
        value_then w (value_of r v a c w) (value_in kinds s.frame s.world (lower l a t).value) (λ x. with_right_side op x (decided op x) (value_of r v b c))
            (λ x. with_right op x (decided op x) (value_in kinds s.frame s.world (lower l b (lower l a t).next).value)) is
            (λ x. right_means w op x (decided op x) (value_of r v b c) (value_in kinds s.frame s.world (lower l b (lower l a t).next).value) right),
      )
  value_means r c same (call names es) t quiet reads = absurd (cc quiet)
  value_means r c same (std_call n es place) t quiet reads = absurd (cc quiet)

pub values_are_meant : ValuesAreMeant
values_are_meant l own kinds r v at e t c d w s same quiet reads fit reach stands =
    value_means l own kinds v at d w s fit reach stands r c same e t quiet reads
