-- The parts of statements that break no rule are typed.
use Rattle.std.proofs.Common.{◌≡◌, ◌∙◌, ◌++◌, ◌<◌, ℕ, Bool, true, false, List, [], ◌∷◌, length, Option, Some, None, sym, subst}
use Rattle.cxx_ast.specs.declared.name.Name.{Name}
use Rattle.cxx_ast.specs.declared.types.Ty.{Ty}
use Rattle.cxx_ast.specs.declared.types.Ty.TheVariants.{Int, Void, Object, IntRef, ObjectRef}
use Rattle.cxx_ast.specs.declared.types.Param.{Param}
use Rattle.cxx_ast.specs.Finding.{Finding, breaks, breaks_if}
use Rattle.cxx_ast.specs.Rule.{type_mismatch, const_write}
use Rattle.cxx_ast.specs.Plain.{Expression, Expressions, local_ref}
use Rattle.cxx_ast.specs.Environment.{Kind, int_kind, truth_kind, void_kind, class_kind, no_kind, Entry, Scope}
use Rattle.cxx_ast.specs.TypeNames.{class_of_name, class_found, type_kind, type_found, is_const}
use Rattle.cxx_ast.specs.Lvalue.{Reached, reached, first_place}
use Rattle.cxx_ast.specs.Reference.{int_found, binding_found}
use Rattle.cxx_ast.specs.ExpressionRules.{judged, all_judged}
use Rattle.cxx_ast.specs.StatementRules.{name_twice, start_found, return_found, throw_found, assigned_found, object_found, statement_found}
use Rattle.cxx_ast.specs.Resolve.{resolve_class, resolve_type, resolve_path, resolve_expression, resolve_expressions, resolve_value}
use Rattle.cxx_ast.specs.Grammatical.{Each, Where, NotEmpty, IsReference, IsExpression, AreExpressions, IsCall}
use Rattle.meaning_forms.specs.Class.{int_type, class_named, object_type}
use Rattle.meaning_forms.specs.Frame.{Variable as FrameVariable}
use Rattle.region_forms.specs.LowerExpression.{lvalue_type}
use Rattle.class_layout.proofs.Named.{ThingBelow, Known, name_stands}
use Rattle.region_simulation.specs.Names.{AreNamed}
use Rattle.region_simulation.specs.Typing.{IsTyped}
use Rattle.region_simulation.specs.Statements.{CanBind, CanConstruct, CanThrow, CanCatch, CanReturn, IsTypedIfThere}
use Rattle.region_formed.proofs.Fine.{Fine, fine_parts, fine_sound}
use Rattle.region_formed.proofs.Meant.{Typed, IsHeld, Given, lowering_in, classes_in}
use Rattle.region_formed.proofs.Types.{class_stands}
use Rattle.region_formed.proofs.Paths.{path_meant}
use Rattle.region_formed.proofs.Statements.{reference_held, fine_type}
use Rattle.region_typed.specs.Known.{Here, SettledIn}
use Rattle.region_typed.proofs.Paths.{path_typed}
use Rattle.region_typed.proofs.Arguments.{IsInt, binds_int, binds_class, int_fine}
use Rattle.region_typed.proofs.Expressions.{int_named, typed, call_alone}
use Rattle.region_typed.proofs.Constructors.{can_copy}
use Rattle.region_typed.proofs.Building.{constructs}
use Rattle.region_typed.proofs.Throws.{class_below, thrown}

-- what is assigned to is an int
assigned_int : (defined : List (List ℕ)) (kind : Kind) (const : Bool) (place : ℕ) → Fine defined (elim kind as (λ k. List Finding) [
  | no_kind ↦ []
  | int_kind ↦ breaks_if const const_write place
  | _ ↦ breaks type_mismatch place ∷ breaks_if const const_write place
]) → IsInt kind
assigned_int defined int_kind const place f = tt
assigned_int defined no_kind const place f = tt
assigned_int defined truth_kind const place f = absurd f
assigned_int defined void_kind const place f = absurd f
assigned_int defined (class_kind k) const place f = absurd f

-- each of the first n classes, by the names of all
known_names : (n : ℕ) (es : List Entry) → Each (λ (e : Entry). ThingBelow n e.thing) es → Known n es
known_names n [] h = tt
known_names n (e ∷ es) h = (h.0, known_names n es h.1)

module _ (g : Given) (settled : SettledIn g) (own : Option ℕ) (gives : Bool) (xs : List FrameVariable) (sc : Scope) (h : Here g own gives xs sc) where
  pub value : (e : Expression) → IsExpression e → Fine g.defined (int_found (judged g.env sc e)) → IsTyped (lowering_in g) own xs (resolve_expression g.env sc e)
  value e i f =
      subst (λ w. IsTyped (lowering_in g) w xs (resolve_expression g.env sc e)) h.own
      (typed g settled xs sc h.reach h.in_reach e (int_fine g settled xs sc h.reach h.in_reach e i f))

  pub dropped : (e : Expression) → IsExpression e → IsCall e → Fine g.defined (judged g.env sc e).found → IsTyped (lowering_in g) own xs (resolve_expression g.env sc e)
  dropped e i is f =
      subst (λ w. IsTyped (lowering_in g) w xs (resolve_expression g.env sc e)) h.own (call_alone g settled xs sc h.reach h.in_reach e i is f)

  pub returned : (b : Bool) → gives ≡ b → (place : ℕ) (e : Option Expression) → Where IsExpression e → Fine g.defined (return_found g.env sc b place e) →
      CanReturn (lowering_in g) own gives xs (resolve_value g.env sc e)
  returned true q place None i f = absurd f
  returned false q place None i f = q
  returned true q place (Some e) i f = (q, value e i f)
  returned false q place (Some e) i f = absurd f

  pub thrown_typed : (e : Option Expression) → Where IsExpression e → Fine g.defined (throw_found g.env sc e) → CanThrow (lowering_in g) own xs (resolve_value g.env sc e)
  thrown_typed e i f = subst (λ w. CanThrow (lowering_in g) w xs (resolve_value g.env sc e)) h.own (thrown g settled xs sc h.reach h.in_reach e i f)

  pub started : (e : Option Expression) → Where IsExpression e → Fine g.defined (start_found g.env sc e) → IsTypedIfThere (lowering_in g) own xs (resolve_value g.env sc e)
  started None i f = tt
  started (Some e) i f = value e i f

  pub assigned : (names : List Name) → NotEmpty names → Fine g.defined (assigned_found (reached g.env sc names) (first_place names)) →
      AreNamed (lowering_in g) own xs (resolve_path g.env sc names) int_type
  assigned [] some f = absurd some
  assigned (n ∷ names) some f =
      let x = reached g.env sc (n ∷ names) in
      let parts = fine_parts g.defined x.found _ f in
      subst (λ w. AreNamed (lowering_in g) w xs (resolve_path g.env sc (n ∷ names)) int_type) h.own
      (int_named g settled xs sc h.reach h.in_reach n names x.kind (path_meant g sc h.reach n names parts.0).typed
      (assigned_int g.defined x.kind x.is_const (first_place (n ∷ names)) parts.1) (path_typed g settled xs sc h.reach h.in_reach n names parts.0))

  -- what a reference is bound to
  pub bound : (p : Param) (names : List Name) → IsReference p.ty → NotEmpty names → Fine g.defined (statement_found g.env sc (local_ref p names)) →
      CanBind (lowering_in g) own xs (resolve_type g.env sc p.ty) (resolve_path g.env sc names)
  bound p [] i some f = absurd some
  bound p (n ∷ names) i some f =
      subst (λ w. CanBind (lowering_in g) w xs (resolve_type g.env sc p.ty) (resolve_path g.env sc (n ∷ names))) h.own
      (by p.ty i (fine_type g sc p.ty (reference_held g p.ty i) third.0) parts.1)
    where
      x : Reached
      x = reached g.env sc (n ∷ names)

      parts : (Fine g.defined (type_found g.env sc p.ty ++ (reached g.env sc (n ∷ names)).found)) ×
          (Fine g.defined (binding_found g.env (type_kind g.env sc p.ty) (is_const p.ty) (reached g.env sc (n ∷ names)).kind (reached g.env sc (n ∷ names)).is_const (first_place (n ∷ names))))
      parts =
          let r = reached g.env sc (n ∷ names) in
          let binding = binding_found g.env (type_kind g.env sc p.ty) (is_const p.ty) r.kind r.is_const (first_place (n ∷ names)) in
          let first = fine_parts g.defined (type_found g.env sc p.ty ++ r.found ++ binding) (name_twice p.name sc) f in
          fine_parts g.defined (type_found g.env sc p.ty ++ r.found) binding first.0

      third : (Fine g.defined (type_found g.env sc p.ty)) × (Fine g.defined (reached g.env sc (n ∷ names)).found)
      third = fine_parts g.defined (type_found g.env sc p.ty) (reached g.env sc (n ∷ names)).found parts.0

      by : (t : Ty) → IsReference t → Typed (classes_in g) (type_kind g.env sc t) (object_type (resolve_type g.env sc t)) →
          Fine g.defined (binding_found g.env (type_kind g.env sc t) (is_const t) (reached g.env sc (n ∷ names)).kind (reached g.env sc (n ∷ names)).is_const (first_place (n ∷ names))) →
          CanBind (lowering_in g) sc.own xs (resolve_type g.env sc t) (resolve_path g.env sc (n ∷ names))
      by (IntRef const) w a q =
          subst (AreNamed (lowering_in g) sc.own xs (resolve_path g.env sc (n ∷ names)))
          (binds_int g int_kind (reached g.env sc (n ∷ names)).kind (lvalue_type (lowering_in g) (resolve_path g.env sc (n ∷ names))) const (reached g.env sc (n ∷ names)).is_const _ a
          (path_meant g sc h.reach n names third.1).typed q) (path_typed g settled xs sc h.reach h.in_reach n names third.1)
      by (ObjectRef const c) w a q = (
        lvalue_type (lowering_in g) (resolve_path g.env sc (n ∷ names)),
        path_typed g settled xs sc h.reach h.in_reach n names third.1,
        binds_class g (class_of_name g.env sc c) (reached g.env sc (n ∷ names)).kind (class_named (resolve_class g.env sc c))
            (lvalue_type (lowering_in g) (resolve_path g.env sc (n ∷ names))) const (reached g.env sc (n ∷ names)).is_const _ a (path_meant g sc h.reach n names third.1).typed q,
      )
      by Int w a q = absurd w
      by Void w a q = absurd w
      by (Object c) w a q = absurd w

  -- a local object
  pub object_built : (c n : Name) (es : Expressions) → AreExpressions es → Fine g.defined (class_found g.env sc c) →
      Fine g.defined (object_found g.env (class_of_name g.env sc c) c.place n.place (all_judged g.env sc es)) →
      CanConstruct (lowering_in g) own xs (class_named (resolve_class g.env sc c)) (resolve_expressions g.env sc es)
  object_built c n es i f q =
      let sound = fine_sound g.defined (class_found g.env sc c) f in
      let s = class_stands g.program g.special g.env sc c g.meant.some g.meant.names sound in
      let k = name_stands (length g.env.classes) g.env sc c settled.some (known_names (length g.env.classes) g.env.names settled.classes) sound in
      let known = subst (λ j. j < length g.env.classes) (sym k.name_is ∙ s.name_is) k.below in
      let made = subst (λ kind. Fine g.defined (object_found g.env kind c.place n.place (all_judged g.env sc es))) s.kind_is q in
      subst (λ w. CanConstruct (lowering_in g) w xs (class_named (resolve_class g.env sc c)) (resolve_expressions g.env sc es)) h.own
      (subst (λ j. CanConstruct (lowering_in g) sc.own xs j (resolve_expressions g.env sc es)) (sym s.name_is)
      (constructs g settled xs sc h.reach h.in_reach s.number known s.below es i c.place n.place made))

  -- what a handler catches
  pub caught : (t : Ty) → IsHeld t → Typed (classes_in g) (type_kind g.env sc t) (object_type (resolve_type g.env sc t)) → CanCatch g.program (resolve_type g.env sc t)
  caught Int held a = tt
  caught Void held a = absurd held
  caught (Object c) held a =
      let below = class_below g settled xs sc h.reach h.in_reach (class_of_name g.env sc c) (class_named (resolve_class g.env sc c)) a in (below, can_copy g.program _ below)
  caught (IntRef const) held a = tt
  caught (ObjectRef const c) held a = class_below g settled xs sc h.reach h.in_reach (class_of_name g.env sc c) (class_named (resolve_class g.env sc c)) a
