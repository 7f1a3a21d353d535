-- What is thrown where no rule is broken can be.
use Rattle.std.proofs.Common.{◌≡◌, ◌∙◌, ◌<◌, ℕ, true, false, List, [], ◌∷◌, Option, Some, None, refl, sym, subst}
use Rattle.cxx_ast.specs.declared.name.Name.{Name}
use Rattle.cxx_ast.specs.declared.name.Bound.{Bound}
use Rattle.cxx_ast.specs.declared.name.Builtin.TheVariants.{BadException}
use Rattle.cxx_ast.specs.Plain.{Expression, number, path, paren, unary, binary, call, std_call, Expressions}
use Rattle.cxx_ast.specs.Rule.{type_mismatch}
use Rattle.cxx_ast.specs.Finding.{Finding, breaks}
use Rattle.cxx_ast.specs.Environment.{Kind, int_kind, truth_kind, void_kind, class_kind, no_kind, Scope}
use Rattle.cxx_ast.specs.Reference.{Judgement}
use Rattle.cxx_ast.specs.Lvalue.{first_place}
use Rattle.cxx_ast.specs.Calls.{names_valued, std_valued}
use Rattle.cxx_ast.specs.StatementRules.{throw_found}
use Rattle.cxx_ast.specs.ExpressionRules.{no_lvalue, thrown_kind_found, thrown_found, judged, all_judged}
use Rattle.cxx_ast.specs.Resolve.{resolve_path, resolve_expression, resolve_expressions, resolve_value, std_bound}
use Rattle.cxx_ast.specs.Grammatical.{Where, IsExpression, AreExpressions}
use Rattle.meaning_forms.specs.Class.{ObjectType, int_type, class_type}
use Rattle.meaning_forms.specs.Expression.{lvalue_of, callee_bound, receiver}
use Rattle.meaning_forms.specs.Frame.{Variable as FrameVariable}
use Rattle.region_forms.specs.LowerExpression.{lvalue_type}
use Rattle.region_simulation.specs.Names.{AreNamed}
use Rattle.region_simulation.specs.Typing.{IsTyped}
use Rattle.region_simulation.specs.Statements.{PartCanBeThrown, LvalueCanBeThrown, CallCanBeThrown, CanBeThrown, CanThrow}
use Rattle.region_formed.proofs.Fine.{Fine, fine_parts}
use Rattle.region_formed.proofs.Meant.{Typed, Given, lowering_in, classes_in, Reach}
use Rattle.region_formed.proofs.Arguments.{lvalue_meant}
use Rattle.region_formed.proofs.Called.{Callable, calls_function, calls_method, calls_builtin, builds, bound_called}
use Rattle.region_formed.proofs.Expressions.{NotBuilt}
use Rattle.region_typed.specs.Known.{InReach, SettledIn}
use Rattle.region_typed.proofs.Callees.{CalledTyped, CallTyped, call_typed, std_typed}
use Rattle.region_typed.proofs.Arguments.{IsInt}
use Rattle.region_typed.proofs.Expressions.{typed, all_typed, call_can, std_can}
use Rattle.region_typed.proofs.Constructors.{can_copy}
use Rattle.region_typed.proofs.Building.{lvalue_typed, constructs}

-- what is no lvalue and is thrown is an int
value_int : (defined : List (List ℕ)) (a : Judgement) (kind : Kind) → a.target ≡ None → Fine defined (thrown_kind_found false a kind) → IsInt kind
value_int defined a int_kind e f = tt
value_int defined a truth_kind e f = tt
value_int defined a no_kind e f = tt
value_int defined a void_kind e f = absurd f
value_int defined a (class_kind k) e f = absurd (subst (λ x. Fine defined (elim x as (λ y. List Finding) [ Some t ↦ [] | None ↦ breaks type_mismatch a.place ∷ [] ])) e f)

-- an lvalue of type int
lvalue_int : (n : ℕ) (kind : Kind) (t : ObjectType) → t ≡ int_type → Typed n kind t → IsInt kind
lvalue_int n int_kind t e h = tt
lvalue_int n truth_kind t e h = tt
lvalue_int n no_kind t e h = tt
lvalue_int n void_kind t e h = absurd h
lvalue_int n (class_kind k) t e h = absurd (cc (sym e ∙ h.0))

module _ (g : Given) (settled : SettledIn g) (xs : List FrameVariable) (sc : Scope) (r : Reach g sc) (o : InReach xs sc) where
  -- the operand is a call
  module _ (e : Expression) (es : Expressions) (i : AreExpressions es) (object : List Name) where
    call_by : (what : Callable) → CalledTyped g xs sc true (all_judged g.env sc es) object what → (NotBuilt what → IsTyped (lowering_in g) sc.own xs e) →
        CallCanBeThrown (lowering_in g) sc.own xs (bound_called what) e (resolve_expressions g.env sc es)
    call_by (builds k place) h rest = constructs g settled xs sc r o k h.1 h.2 es i place place h.3
    call_by (calls_function n s) h rest = rest tt
    call_by (calls_method k j s) h rest = rest tt
    call_by (calls_builtin BadException place) h rest = absurd h.0
    call_by (calls_builtin b place) h rest = rest tt

    call_thrown : (b : Bound) → (c : CallTyped g xs sc true (all_judged g.env sc es) b object) → (NotBuilt c.what → IsTyped (lowering_in g) sc.own xs e) →
        CallCanBeThrown (lowering_in g) sc.own xs b e (resolve_expressions g.env sc es)
    call_thrown b c rest =
        subst (λ x. CallCanBeThrown (lowering_in g) sc.own xs x e (resolve_expressions g.env sc es)) (sym c.bound) (call_by c.what c.fine rest)

  pub class_below : (kind : Kind) (k : ℕ) → Typed (classes_in g) kind (class_type k) → k < classes_in g
  class_below (class_kind j) k h = let same : k ≡ j = cc h.0 in subst (λ i. i < classes_in g) (sym same) h.1
  class_below int_kind k h = absurd (cc h)
  class_below truth_kind k h = absurd h
  class_below void_kind k h = absurd h
  class_below no_kind k h = absurd h

  -- what is no lvalue has no target
  no_target : (e : Expression) → lvalue_of (resolve_expression g.env sc e) ≡ None → (judged g.env sc e).target ≡ None
  no_target (path names) q = absurd (cc q)
  no_target (number v place) q = refl
  no_target (paren e place) q = refl
  no_target (unary op e place) q = refl
  no_target (binary op x y) q = refl
  no_target (call names es) q = refl
  no_target (std_call n es place) q = refl

  -- the operand is no call
  other_thrown : (e : Expression) → IsExpression e → Fine g.defined (judged g.env sc e).found →
      Fine g.defined (thrown_kind_found false (judged g.env sc e) (judged g.env sc e).kind) →
      LvalueCanBeThrown (lowering_in g) sc.own xs (resolve_expression g.env sc e) (lvalue_of (resolve_expression g.env sc e))
  other_thrown e i f h = go (lvalue_of (resolve_expression g.env sc e)) refl
    where
      part : (names : List Name) → lvalue_of (resolve_expression g.env sc e) ≡ Some names → (t : ObjectType) → lvalue_type (lowering_in g) names ≡ t →
          PartCanBeThrown (lowering_in g) sc.own xs (resolve_expression g.env sc e) names t
      part names q int_type same =
          typed g settled xs sc r o e (f, lvalue_int (classes_in g) (judged g.env sc e).kind (lvalue_type (lowering_in g) names) same (lvalue_meant g sc r e i f names q).typed, i)
      part names q (class_type k) same =
          let below = class_below (judged g.env sc e).kind k (subst (Typed (classes_in g) (judged g.env sc e).kind) same (lvalue_meant g sc r e i f names q).typed) in
          (subst (AreNamed (lowering_in g) sc.own xs names) same (lvalue_typed g settled xs sc r o e i f names q), can_copy g.program k below)

      go : (x : Option (List Name)) → lvalue_of (resolve_expression g.env sc e) ≡ x → LvalueCanBeThrown (lowering_in g) sc.own xs (resolve_expression g.env sc e) x
      go None q = typed g settled xs sc r o e (f, value_int g.defined (judged g.env sc e) (judged g.env sc e).kind (no_target e q) h, i)
      go (Some names) q = (lvalue_typed g settled xs sc r o e i f names q, part names q (lvalue_type (lowering_in g) names) refl)

  operand_thrown : (e : Expression) → IsExpression e → Fine g.defined (thrown_found g.env sc e) → CanBeThrown (lowering_in g) sc.own xs (resolve_expression g.env sc e)
  operand_thrown (call names es) i f =
      let v = names_valued g.env sc true names (all_judged g.env sc es) in
      let a = no_lvalue (first_place names) v in
      let c = call_typed g settled xs sc r o true (all_judged g.env sc es) names i.0 (fine_parts g.defined v.found (thrown_kind_found true a v.kind) f).0 in
      call_thrown (resolve_expression g.env sc (call names es)) es i.1 (receiver (resolve_path g.env sc names)) (callee_bound (resolve_path g.env sc names)) c
      (λ not_built. call_can g settled xs sc r o true (receiver (resolve_path g.env sc names)) es i.1 (λ types s. all_typed g settled xs sc r o es types s)
      (callee_bound (resolve_path g.env sc names)) c not_built)
  operand_thrown (std_call n es place) i f =
      let v = std_valued g.env sc true place n (all_judged g.env sc es) in
      let c = std_typed g settled xs sc r o true (all_judged g.env sc es) place n (fine_parts g.defined v.found (thrown_kind_found true (no_lvalue place v) v.kind) f).0 in
      call_thrown (resolve_expression g.env sc (std_call n es place)) es i [] (std_bound n.text) c
      (λ not_built. std_can g settled xs sc r o n es place (call_can g settled xs sc r o true [] es i (λ types s. all_typed g settled xs sc r o es types s) (std_bound n.text) c not_built))
  operand_thrown (number v place) i f = other_thrown (number v place) i tt tt
  operand_thrown (path names) i f =
      let parts = fine_parts g.defined (judged g.env sc (path names)).found _ f in other_thrown (path names) i parts.0 parts.1
  operand_thrown (paren e place) i f =
      let parts = fine_parts g.defined (judged g.env sc (paren e place)).found _ f in other_thrown (paren e place) i parts.0 parts.1
  operand_thrown (unary op e place) i f =
      let parts = fine_parts g.defined (judged g.env sc (unary op e place)).found _ f in other_thrown (unary op e place) i parts.0 parts.1
  operand_thrown (binary op a b) i f =
      let parts = fine_parts g.defined (judged g.env sc (binary op a b)).found _ f in other_thrown (binary op a b) i parts.0 parts.1

  pub thrown : (e : Option Expression) → Where IsExpression e → Fine g.defined (throw_found g.env sc e) → CanThrow (lowering_in g) sc.own xs (resolve_value g.env sc e)
  thrown None i f = tt
  thrown (Some e) i f = operand_thrown e i f
