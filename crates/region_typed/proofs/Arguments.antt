-- Arguments that break no rule can be passed: an lvalue for a reference, and an int for any other parameter.
use Rattle.std.proofs.Common.{◌≡◌, ◌∙◌, ◌==◌, ◌++◌, ℕ, suc, Bool, true, false, List, [], ◌∷◌, drop, length, if◌then◌else◌, refl, sym, subst, arith}
use Rattle.std.proofs.lemmas.Bool.Decides.{nat_tests}
use Rattle.cxx_ast.specs.declared.name.Name.{Name}
use Rattle.cxx_ast.specs.declared.types.Ty.{Ty}
use Rattle.cxx_ast.specs.declared.types.Ty.TheVariants.{Int, Void, Object, IntRef, ObjectRef}
use Rattle.cxx_ast.specs.declared.types.Param.{Param}
use Rattle.cxx_ast.specs.Plain.{Expression, number, path, paren, unary, binary, call, std_call, Expressions, no_expressions, expression_then}
use Rattle.cxx_ast.specs.Finding.{Finding, breaks_if}
use Rattle.cxx_ast.specs.Rule.{type_mismatch, const_write}
use Rattle.cxx_ast.specs.Environment.{Kind, int_kind, truth_kind, void_kind, class_kind, no_kind, Passing, Scope}
use Rattle.cxx_ast.specs.Lookup.{derives}
use Rattle.cxx_ast.specs.Lvalue.{reached}
use Rattle.cxx_ast.specs.Reference.{binding_found, no_lvalue_found, bound_found, int_wanted, int_found, argument_found, arguments_found}
use Rattle.cxx_ast.specs.Calls.{ints_found}
use Rattle.cxx_ast.specs.ExpressionRules.{judged, all_judged}
use Rattle.cxx_ast.specs.Resolve.{resolve_path, resolve_expression}
use Rattle.cxx_ast.specs.Grammatical.{IsExpression, AreExpressions}
use Rattle.meaning_forms.specs.Class.{ObjectType, int_type, class_type, class_named, object_type, derives as derives_in}
use Rattle.meaning_forms.specs.Expression.{is_reference, types_of}
use Rattle.meaning_forms.specs.Frame.{Variable as FrameVariable}
use Rattle.region_forms.specs.LowerExpression.{lvalue_type}
use Rattle.region_simulation.specs.Names.{AreNamed}
use Rattle.region_simulation.specs.Typing.{CanPass}
use Rattle.region_formed.proofs.Fine.{Fine, fine_parts, held}
use Rattle.region_formed.proofs.Meant.{Typed, HasKind, ParamMeant, ParamsMeant, Given, lowering_in, classes_in, Reach}
use Rattle.region_formed.proofs.Paths.{path_meant}
use Rattle.region_formed.proofs.Constructors.{derived}
use Rattle.region_formed.proofs.Arguments.{typed_kind, kinded}
use Rattle.region_typed.specs.Known.{InReach, SettledIn}
use Rattle.region_typed.proofs.Paths.{path_typed}

-- the type of an expression where an int is needed
abbrev pub IsInt : Kind → Type 0
IsInt void_kind = ⊥
IsInt (class_kind k) = ⊥
IsInt _ = Unit {0}

pub int_is : (defined : List (List ℕ)) (kind : Kind) (place : ℕ) → Fine defined (int_wanted kind place) → IsInt kind
int_is defined int_kind place f = tt
int_is defined truth_kind place f = tt
int_is defined no_kind place f = tt
int_is defined void_kind place f = absurd f
int_is defined (class_kind k) place f = absurd f

-- what a reference to int binds to is one
pub binds_int : (g : Given) (wanted kind : Kind) (u : ObjectType) (const through : Bool) (place : ℕ) → Typed (classes_in g) wanted int_type → Typed (classes_in g) kind u →
    Fine g.defined (binding_found g.env wanted const kind through place) → u ≡ int_type
binds_int g int_kind int_kind u const through place h k f = k
binds_int g int_kind (class_kind j) u const through place h k f = absurd f
binds_int g int_kind truth_kind u const through place h k f = absurd k
binds_int g int_kind void_kind u const through place h k f = absurd k
binds_int g int_kind no_kind u const through place h k f = absurd k
binds_int g (class_kind j) kind u const through place h k f = absurd (cc h.0)
binds_int g truth_kind kind u const through place h k f = absurd h
binds_int g void_kind kind u const through place h k f = absurd h
binds_int g no_kind kind u const through place h k f = absurd h

-- what a reference to an object binds to is of the class or of one derived from it
pub binds_class : (g : Given) (wanted kind : Kind) (c : ℕ) (u : ObjectType) (const through : Bool) (place : ℕ) → Typed (classes_in g) wanted (class_type c) → Typed (classes_in g) kind u →
    Fine g.defined (binding_found g.env wanted const kind through place) → derives_in g.program u (class_type c) ≡ true
binds_class g (class_kind j) (class_kind k) c u const through place h q f =
    let p = g.program in
    let yes = held g.defined (derives g.env k j) type_mismatch place (fine_parts g.defined (breaks_if _ type_mismatch place) (breaks_if _ const_write place) f).0 in
    subst (λ t. derives_in p t (class_type c) ≡ true) (sym q.0)
    (subst (λ t. derives_in p (class_type k) t ≡ true) (sym h.0) (derived p g.defined g.special g.env g.meant k j yes))
binds_class g (class_kind j) int_kind c u const through place h q f = absurd f
binds_class g (class_kind j) truth_kind c u const through place h q f = absurd q
binds_class g (class_kind j) void_kind c u const through place h q f = absurd q
binds_class g (class_kind j) no_kind c u const through place h q f = absurd q
binds_class g int_kind kind c u const through place h q f = absurd (cc h)
binds_class g truth_kind kind c u const through place h q f = absurd h
binds_class g void_kind kind c u const through place h q f = absurd h
binds_class g no_kind kind c u const through place h q f = absurd h

-- a reference binds to no value
no_value : (g : Given) (wanted kind : Kind) (place : ℕ) (found : List Finding) → HasKind wanted → (Fine g.defined found → HasKind kind) →
    Fine g.defined (found ++ no_lvalue_found g.env wanted kind place) → ⊥
no_value g wanted kind place found h k f = go wanted kind h (k parts.0) parts.1
  where
    parts : (Fine g.defined found) × (Fine g.defined (no_lvalue_found g.env wanted kind place))
    parts = fine_parts g.defined found (no_lvalue_found g.env wanted kind place) f

    go : (wanted kind : Kind) → HasKind wanted → HasKind kind → Fine g.defined (no_lvalue_found g.env wanted kind place) → ⊥
    go no_kind kind a b q = a
    go wanted no_kind a b q = b
    go wanted kind a b q = q

module _ (g : Given) (settled : SettledIn g) (xs : List FrameVariable) (sc : Scope) (r : Reach g sc) (o : InReach xs sc) where
  -- an int that breaks no rule
  abbrev pub IntFine : Expression → Type 0
  IntFine e = Fine g.defined (judged g.env sc e).found × IsInt (judged g.env sc e).kind × IsExpression e

  pub int_fine : (e : Expression) → IsExpression e → Fine g.defined (int_found (judged g.env sc e)) → IntFine e
  int_fine e i f =
      let a = judged g.env sc e in
      let parts = fine_parts g.defined a.found (int_wanted a.kind a.place) f in (parts.0, int_is g.defined a.kind a.place parts.1, i)

  -- arguments for parameters of some types: an lvalue for a reference, and else an int that breaks no rule
  abbrev pub Suits : List Ty → Expressions → Type 0
  Suits types no_expressions = Unit {0}
  Suits types (expression_then e es) = CanPass (lowering_in g) sc.own xs types (resolve_expression g.env sc e) (IntFine e) × Suits (drop 1 types) es

  -- an argument by reference is an lvalue
  lvalue_suits : (n : Name) (names : List Name) (q : Passing) (t : Ty) (types : List Ty) → ParamMeant (classes_in g) q t → q.is_reference ≡ true →
      Fine g.defined (bound_found g.env q (judged g.env sc (path (n ∷ names)))) →
      CanPass (lowering_in g) sc.own xs (t ∷ types) (resolve_expression g.env sc (path (n ∷ names))) (IntFine (path (n ∷ names)))
  lvalue_suits n names q t types h b f = by t h.typed (sym h.reference ∙ b)
    where
      parts : (Fine g.defined (reached g.env sc (n ∷ names)).found) ×
          (Fine g.defined (binding_found g.env q.kind q.is_const (reached g.env sc (n ∷ names)).kind (reached g.env sc (n ∷ names)).is_const (judged g.env sc (path (n ∷ names))).place))
      parts = fine_parts g.defined (reached g.env sc (n ∷ names)).found _ f

      typed : Typed (classes_in g) (reached g.env sc (n ∷ names)).kind (lvalue_type (lowering_in g) (resolve_path g.env sc (n ∷ names)))
      typed = (path_meant g sc r n names parts.0).typed

      named : AreNamed (lowering_in g) sc.own xs (resolve_path g.env sc (n ∷ names)) (lvalue_type (lowering_in g) (resolve_path g.env sc (n ∷ names)))
      named = path_typed g settled xs sc r o n names parts.0

      by : (t : Ty) → Typed (classes_in g) q.kind (object_type t) → is_reference t ≡ true →
          CanPass (lowering_in g) sc.own xs (t ∷ types) (path (resolve_path g.env sc (n ∷ names))) (IntFine (path (n ∷ names)))
      by (IntRef const) a e =
          subst (AreNamed (lowering_in g) sc.own xs (resolve_path g.env sc (n ∷ names)))
          (binds_int g q.kind (reached g.env sc (n ∷ names)).kind (lvalue_type (lowering_in g) (resolve_path g.env sc (n ∷ names))) q.is_const (reached g.env sc (n ∷ names)).is_const _ a typed parts.1) named
      by (ObjectRef const c) a e = (
        lvalue_type (lowering_in g) (resolve_path g.env sc (n ∷ names)),
        named,
        binds_class g q.kind (reached g.env sc (n ∷ names)).kind (class_named c) (lvalue_type (lowering_in g) (resolve_path g.env sc (n ∷ names))) q.is_const (reached g.env sc (n ∷ names)).is_const _ a typed parts.1,
      )
      by Int a e = absurd (cc e)
      by Void a e = absurd (cc e)
      by (Object c) a e = absurd (cc e)

  reference_suits : (e : Expression) (q : Passing) (t : Ty) (types : List Ty) → ParamMeant (classes_in g) q t → q.is_reference ≡ true → IsExpression e →
      Fine g.defined (bound_found g.env q (judged g.env sc e)) → CanPass (lowering_in g) sc.own xs (t ∷ types) (resolve_expression g.env sc e) (IntFine e)
  reference_suits (path []) q t types h b i f = absurd i
  reference_suits (path (n ∷ names)) q t types h b i f = lvalue_suits n names q t types h b f
  reference_suits (number v place) q t types h b i f =
      let a = judged g.env sc (number v place) in absurd (no_value g q.kind a.kind a.place a.found (typed_kind _ q.kind _ h.typed) (λ w. tt) f)
  reference_suits (paren e place) q t types h b i f =
      let a = judged g.env sc (paren e place) in absurd (no_value g q.kind a.kind a.place a.found (typed_kind _ q.kind _ h.typed) (λ w. kinded g sc r (paren e place) i w) f)
  reference_suits (unary op e place) q t types h b i f =
      let a = judged g.env sc (unary op e place) in absurd (no_value g q.kind a.kind a.place a.found (typed_kind _ q.kind _ h.typed) (λ w. kinded g sc r (unary op e place) i w) f)
  reference_suits (binary op x y) q t types h b i f =
      let a = judged g.env sc (binary op x y) in absurd (no_value g q.kind a.kind a.place a.found (typed_kind _ q.kind _ h.typed) (λ w. kinded g sc r (binary op x y) i w) f)
  reference_suits (call names es) q t types h b i f =
      let a = judged g.env sc (call names es) in absurd (no_value g q.kind a.kind a.place a.found (typed_kind _ q.kind _ h.typed) (λ w. kinded g sc r (call names es) i w) f)
  reference_suits (std_call n es place) q t types h b i f =
      let a = judged g.env sc (std_call n es place) in absurd (no_value g q.kind a.kind a.place a.found (typed_kind _ q.kind _ h.typed) (λ w. kinded g sc r (std_call n es place) i w) f)

  -- an argument for a parameter
  one_suits : (e : Expression) (q : Passing) (t : Ty) (types : List Ty) → ParamMeant (classes_in g) q t → IsExpression e →
      Fine g.defined (argument_found g.env q (judged g.env sc e)) → CanPass (lowering_in g) sc.own xs (t ∷ types) (resolve_expression g.env sc e) (IntFine e)
  one_suits e q t types h i f = go q.is_reference refl f
    where
      by : (t : Ty) → ParamMeant (classes_in g) q t → is_reference t ≡ false → IntFine e → CanPass (lowering_in g) sc.own xs (t ∷ types) (resolve_expression g.env sc e) (IntFine e)
      by Int m b k = k
      by Void m b k = absurd m.passed
      by (Object c) m b k = absurd m.passed
      by (IntRef const) m b k = absurd (cc b)
      by (ObjectRef const c) m b k = absurd (cc b)

      go : (b : Bool) → q.is_reference ≡ b → Fine g.defined (if b then bound_found g.env q (judged g.env sc e) else int_found (judged g.env sc e)) →
          CanPass (lowering_in g) sc.own xs (t ∷ types) (resolve_expression g.env sc e) (IntFine e)
      go true b k = reference_suits e q t types h b i k
      go false b k = by t h (sym h.reference ∙ b) (int_fine e i k)

  -- as many arguments as parameters
  same_count : (n m : ℕ) → (suc n == suc m) ≡ true → (n == m) ≡ true
  same_count n m h = grind (arith, nat_tests, h)

  too_many : (n : ℕ) → (suc n == 0) ≡ true → ⊥
  too_many n h = grind (arith, nat_tests, h)

  pub suits : (qs : List Passing) (ps : List Param) (es : Expressions) → ParamsMeant (classes_in g) qs ps → (length (all_judged g.env sc es) == length qs) ≡ true →
      Fine g.defined (arguments_found g.env qs (all_judged g.env sc es)) → AreExpressions es → Suits (types_of ps) es
  suits qs ps no_expressions h c f i = tt
  suits [] [] (expression_then e es) h c f i = absurd (too_many (length (all_judged g.env sc es)) c)
  suits [] (x ∷ ps) (expression_then e es) h c f i = absurd h
  suits (q ∷ qs) [] (expression_then e es) h c f i = absurd h
  suits (q ∷ qs) (x ∷ ps) (expression_then e es) h c f i =
      let parts = fine_parts g.defined (argument_found g.env q (judged g.env sc e)) (arguments_found g.env qs (all_judged g.env sc es)) f in (
        one_suits e q x.ty (types_of ps) h.0 i.0 parts.0,
        suits qs ps es h.1 (same_count (length (all_judged g.env sc es)) (length qs) c) parts.1 i.1,
      )

  -- arguments that are ints
  pub ints_suit : (es : Expressions) → Fine g.defined (ints_found (all_judged g.env sc es)) → AreExpressions es → Suits [] es
  ints_suit no_expressions f i = tt
  ints_suit (expression_then e es) f i =
      let parts = fine_parts g.defined (int_found (judged g.env sc e)) (ints_found (all_judged g.env sc es)) f in (int_fine e i.0 parts.0, ints_suit es parts.1 i.1)
