-- Objects that are built where no rule is broken can be.
use Rattle.std.proofs.Common.{◌≡◌, ◌∙◌, ◌<◌, ◌==◌, ℕ, zero, suc, Bool, true, false, List, [], ◌∷◌, ◌++◌, length, Option, Some, None, find, if◌then◌else◌, refl, sym, ap, subst, arith}
use Rattle.std.specs.Prelude.{slice_get}
use Rattle.std.proofs.lemmas.Bool.Decides.{nat_tests}
use Rattle.std.proofs.lemmas.List.{length-map}
use Rattle.cxx_ast.specs.declared.name.Name.{Name}
use Rattle.cxx_ast.specs.Plain.{Expression, number, path, paren, unary, binary, call, std_call, Expressions, no_expressions, expression_then}
use Rattle.cxx_ast.specs.Rule.{arity, not_lvalue, no_default}
use Rattle.cxx_ast.specs.Finding.{Finding, breaks}
use Rattle.cxx_ast.specs.Environment.{Kind, int_kind, truth_kind, void_kind, class_kind, no_kind, Passing, Signature, ClassEntry, Scope}
use Rattle.cxx_ast.specs.Lookup.{derives}
use Rattle.cxx_ast.specs.Reference.{Judgement, Target, bound_found, int_wanted, int_found, argument_found, arguments_found, all_found}
use Rattle.cxx_ast.specs.Construct.{is_constructor_with as selects, has_default, by_number_found, single_found, construction_found}
use Rattle.cxx_ast.specs.ExpressionRules.{judged, all_judged}
use Rattle.cxx_ast.specs.Resolve.{resolve_path, resolve_expression, resolve_expressions}
use Rattle.cxx_ast.specs.Grammatical.{IsExpression, AreExpressions}
use Rattle.meaning_forms.specs.Class.{class_type, class_named, derives as derives_in, method_at}
use Rattle.meaning_forms.specs.Construct.{is_constructor, is_constructor_with, declared_or, constructor_for, copy_constructor}
use Rattle.meaning_forms.specs.Expression.{lvalue_of, names_of, types_of, constructor_types, count_of}
use Rattle.meaning_forms.specs.Frame.{Variable as FrameVariable}
use Rattle.meaning_forms.specs.Running.{Constructor, declared, implicit_default, constructor}
use Rattle.region_forms.specs.LowerExpression.{lvalue_type, copies}
use Rattle.region_simulation.specs.Calls.{IsCallable}
use Rattle.region_simulation.specs.Names.{AreNamed}
use Rattle.region_simulation.specs.Typing.{AreOfClass, AreTyped}
use Rattle.region_simulation.specs.Statements.{DecidesByType, CanConstruct}
use Rattle.region_statements.specs.Members.{CanDefault}
use Rattle.region_formed.proofs.Fine.{Fine, fine_parts, held}
use Rattle.region_formed.proofs.Meant.{Typed, HasKind, Given, lowering_in, classes_in, Reach}
use Rattle.region_formed.proofs.Arguments.{kinded, lvalue_meant}
use Rattle.region_formed.proofs.Fitting.{same_number}
use Rattle.region_formed.proofs.Constructors.{lengths_same, Constructed, constructed_by, derived}
use Rattle.region_typed.specs.Known.{InReach, SettledIn}
use Rattle.region_typed.proofs.Paths.{path_typed}
use Rattle.region_typed.proofs.Arguments.{suits}
use Rattle.region_typed.proofs.Expressions.{all_typed}
use Rattle.region_typed.proofs.Constructors.{front_true, declared_callable, can_copy, copy_type}

-- an item of a list
pub some_item : {A : Type 0} (xs : List A) (k : ℕ) → k < length xs → (x : A) × (slice_get xs k ≡ Some x)
some_item [] k h = absurd (omega (arith, h))
some_item (x ∷ xs) zero h = (x, refl)
some_item (x ∷ xs) (suc k) h = some_item xs k (omega (arith, h))

-- the constructor that the number of arguments selects
record Numbered (g : Given) (k : ℕ) (given : List Judgement) : Type 0 where
  signature : Signature
  there : Constructed g.program k (length given) signature
  found : Fine g.defined (arguments_found g.env signature.parameters given)

-- what is found where a constructor with some parameters is selected
abbrev selected_found : Given → List Judgement → ℕ → Option (List Passing) → List Finding
selected_found g given called x = elim x [ None ↦ breaks arity called ∷ all_found given | Some ps ↦ arguments_found g.env ps given ]

numbered_by : (g : Given) (k : ℕ) (given : List Judgement) (called : ℕ) → Fine g.defined (by_number_found g.env k given called) → Numbered g k given
numbered_by g k given called f = of_class (slice_get g.env.classes k) refl f
  where
    of_signature : (c : ClassEntry) → slice_get g.env.classes k ≡ Some c → (x : Option Signature) → find (selects k c.name (length given)) c.functions ≡ x →
        Fine g.defined (selected_found g given called (elim x [ None ↦ None | Some s ↦ Some s.parameters ])) → Numbered g k given
    of_signature c e None q h = absurd h
    of_signature c e (Some s) q h =
        record { signature = s; there = constructed_by g.program g.special k (length given) c s (g.meant.classes k c e) q; found = h }

    of_class : (x : Option ClassEntry) → slice_get g.env.classes k ≡ x →
        Fine g.defined (selected_found g given called (elim x [
          | None ↦ None
          | Some c ↦ elim (find (selects k c.name (length given)) c.functions) [ None ↦ None | Some s ↦ Some s.parameters ]
        ])) → Numbered g k given
    of_class None e h = absurd h
    of_class (Some c) e h = of_signature c e (find (selects k c.name (length given)) c.functions) refl h

-- one argument that is no copy
argument_fine : (g : Given) (q : Passing) (a : Judgement) → Fine g.defined (argument_found g.env q a) → Fine g.defined a.found
argument_fine g q a f = go q.is_reference f
  where
    go : (b : Bool) → Fine g.defined (if b then bound_found g.env q a else int_found a) → Fine g.defined a.found
    go true h = (fine_parts g.defined a.found _ h).0
    go false h = (fine_parts g.defined a.found (int_wanted a.kind a.place) h).0

number_fine : (g : Given) (k : ℕ) (a : Judgement) → Numbered g k (a ∷ []) → Fine g.defined a.found
number_fine g k a n = go n.signature.parameters n.there.counted n.found
  where
    none_one : (0 == 1) ≡ true → ⊥
    none_one h = grind (arith, nat_tests, h)

    go : (ps : List Passing) → (length ps == 1) ≡ true → Fine g.defined (arguments_found g.env ps (a ∷ [])) → Fine g.defined a.found
    go [] c h = absurd (none_one c)
    go (q ∷ ps) c h = argument_fine g q a (fine_parts g.defined (argument_found g.env q a) (arguments_found g.env ps []) h).0

single_fine : (g : Given) (k : ℕ) (a : Judgement) (called : ℕ) (kind : Kind) → Fine g.defined (single_found g.env k a called kind) → Fine g.defined a.found
single_fine g k a called no_kind f = f
single_fine g k a called (class_kind j) f = go (derives g.env j k) f
  where
    go : (b : Bool) → Fine g.defined (if b then a.found ++ elim a.target [ Some t ↦ [] | None ↦ breaks not_lvalue a.place ∷ [] ] else by_number_found g.env k (a ∷ []) called) →
        Fine g.defined a.found
    go true h = (fine_parts g.defined a.found _ h).0
    go false h = number_fine g k a (numbered_by g k (a ∷ []) called h)
single_fine g k a called int_kind f = number_fine g k a (numbered_by g k (a ∷ []) called f)
single_fine g k a called truth_kind f = number_fine g k a (numbered_by g k (a ∷ []) called f)
single_fine g k a called void_kind f = number_fine g k a (numbered_by g k (a ∷ []) called f)

module _ (g : Given) (settled : SettledIn g) (xs : List FrameVariable) (sc : Scope) (r : Reach g sc) (o : InReach xs sc) where
  -- an lvalue, in parentheses or not
  pub lvalue_typed : (e : Expression) → IsExpression e → Fine g.defined (judged g.env sc e).found → (names : List Name) →
      lvalue_of (resolve_expression g.env sc e) ≡ Some names → AreNamed (lowering_in g) sc.own xs names (lvalue_type (lowering_in g) names)
  lvalue_typed (path []) i f names q = absurd i
  lvalue_typed (path (n ∷ others)) i f names q =
      let same : resolve_path g.env sc (n ∷ others) ≡ names = cc q in
      subst (λ ns. AreNamed (lowering_in g) sc.own xs ns (lvalue_type (lowering_in g) ns)) same (path_typed g settled xs sc r o n others f)
  lvalue_typed (paren e place) i f names q = lvalue_typed e i f names q
  lvalue_typed (number v place) i f names q = absurd (cc q)
  lvalue_typed (unary op e place) i f names q = absurd (cc q)
  lvalue_typed (binary op x y) i f names q = absurd (cc q)
  lvalue_typed (call others es) i f names q = absurd (cc q)
  lvalue_typed (std_call n es place) i f names q = absurd (cc q)

  decided : (e : Expression) → IsExpression e → Fine g.defined (judged g.env sc e).found → (x : Option (List Name)) → lvalue_of (resolve_expression g.env sc e) ≡ x →
      DecidesByType (lowering_in g) sc.own xs x
  decided e i f None q = tt
  decided e i f (Some names) q = lvalue_typed e i f names q

  module _ (k : ℕ) (known : k < length g.env.classes) (below : k < classes_in g) where
    -- a constructor takes the arguments
    record Takes (es : Expressions) (which : Constructor) : Type 0 where
      callable : IsCallable g.program (constructor k which)
      counted : count_of (resolve_expressions g.env sc es) ≡ length (constructor_types g.program k which)
      typed : AreTyped (lowering_in g) sc.own xs (resolve_expressions g.env sc es) (constructor_types g.program k which)

    by_number : (es : Expressions) → AreExpressions es → Numbered g k (all_judged g.env sc es) → Takes es (constructor_for g.program k (length (all_judged g.env sc es)))
    by_number es i n =
        let p = g.program in
        let s = n.signature in
        let f = method_at p k n.there.place in
        let c = n.there.counted in
        let same : length (all_judged g.env sc es) ≡ length s.parameters = grind (arith, nat_tests, c) in
        let counted : (length (all_judged g.env sc es) == length s.parameters) ≡ true = grind (arith, nat_tests, same) in
        let number = same_number g.env sc es in
        let params = lengths_same (classes_in g) s.parameters f.parameters n.there.parameters in
        let mapped = length-map f.parameters (λ x. x.ty) in
        let which : declared n.there.place ≡ constructor_for p k (length (all_judged g.env sc es)) = sym (ap (declared_or implicit_default) n.there.found) in
        subst (Takes es) which (record {
          callable = declared_callable p k n.there.place (is_constructor_with k (length (all_judged g.env sc es))) below (λ f h. front_true (is_constructor f.kind) _ h) n.there.found;
          counted = omega (arith, number, same, params, mapped);
          typed = all_typed g settled xs sc r o es (types_of f.parameters) (suits g settled xs sc r o s.parameters f.parameters es n.there.parameters counted n.found i);
        })

    -- an object is copied
    by_copy : (e : Expression) → IsExpression e → Fine g.defined (judged g.env sc e).found → (names : List Name) → lvalue_of (resolve_expression g.env sc e) ≡ Some names →
        copies (lowering_in g) k (Some names) ≡ true → Takes (expression_then e no_expressions) (copy_constructor g.program k)
    by_copy e i f names q copied =
        let p = g.program in
        let c = copy_type p k in
        let back = sym c.one in
        let named = lvalue_typed e i f names q in
        record {
          callable = can_copy p k below;
          counted = subst (λ types. 1 ≡ length types) back refl;
          typed = subst (AreTyped (lowering_in g) sc.own xs (resolve_expressions g.env sc (expression_then e no_expressions))) back
              (subst (λ x. AreOfClass (lowering_in g) sc.own xs (class_named c.name) (names_of x)) (sym q) (lvalue_type (lowering_in g) names, named, subst (λ j. derives_in p (lvalue_type (lowering_in g) names) (class_type j) ≡ true) (sym c.named) copied), tt);
        }

    -- what has a target is an lvalue
    target_names : (e : Expression) (t : Target) → (judged g.env sc e).target ≡ Some t → lvalue_of (resolve_expression g.env sc e) ≡ Some (resolve_path g.env sc t.names)
    target_names (path names) t q = let same : names ≡ t.names = cc q in ap (λ ns. Some (resolve_path g.env sc ns)) same
    target_names (number v place) t q = absurd (cc q)
    target_names (paren e place) t q = absurd (cc q)
    target_names (unary op e place) t q = absurd (cc q)
    target_names (binary op x y) t q = absurd (cc q)
    target_names (call names es) t q = absurd (cc q)
    target_names (std_call n es place) t q = absurd (cc q)

    -- an lvalue of a class that derives is copied
    copied_by : (e : Expression) → IsExpression e → Fine g.defined (judged g.env sc e).found → (j : ℕ) → (judged g.env sc e).kind ≡ class_kind j →
        derives g.env j k ≡ true → (names : List Name) → lvalue_of (resolve_expression g.env sc e) ≡ Some names →
        copies (lowering_in g) k (lvalue_of (resolve_expression g.env sc e)) ≡ true
    copied_by e i f j kind d names q =
        let typed = subst (λ x. Typed (classes_in g) x (lvalue_type (lowering_in g) names)) kind (lvalue_meant g sc r e i f names q).typed in
        ap (copies (lowering_in g) k) q ∙ (ap (λ t. derives_in g.program t (class_type k)) typed.0
        ∙ derived g.program g.defined g.special g.env g.meant j k d)

    numbered_single : (e : Expression) → IsExpression e → (called : ℕ) (kind : Kind) → (judged g.env sc e).kind ≡ kind →
        copies (lowering_in g) k (lvalue_of (resolve_expression g.env sc e)) ≡ false → Fine g.defined (judged g.env sc e).found →
        Fine g.defined (single_found g.env k (judged g.env sc e) called kind) → Numbered g k (judged g.env sc e ∷ [])
    numbered_single e i called no_kind kind no_copy f h = absurd (subst HasKind kind (kinded g sc r e i f))
    numbered_single e i called (class_kind j) kind no_copy f h = go (derives g.env j k) refl h
      where
        of_target : (x : Option Target) → (judged g.env sc e).target ≡ x → derives g.env j k ≡ true →
            Fine g.defined (elim x as (λ y. List Finding) [ Some t ↦ [] | None ↦ breaks not_lvalue (judged g.env sc e).place ∷ [] ]) → Numbered g k (judged g.env sc e ∷ [])
        of_target None q d y = absurd y
        of_target (Some t) q d y = absurd (cc (sym no_copy ∙ copied_by e i f j kind d (resolve_path g.env sc t.names) (target_names e t q)))

        go : (b : Bool) → derives g.env j k ≡ b →
            Fine g.defined (if b then (judged g.env sc e).found ++ elim (judged g.env sc e).target [ Some t ↦ [] | None ↦ breaks not_lvalue (judged g.env sc e).place ∷ [] ]
            else by_number_found g.env k (judged g.env sc e ∷ []) called) → Numbered g k (judged g.env sc e ∷ [])
        go true d y = of_target (judged g.env sc e).target refl d (fine_parts g.defined (judged g.env sc e).found _ y).1
        go false d y = numbered_by g k (judged g.env sc e ∷ []) called y
    numbered_single e i called int_kind kind no_copy f h = numbered_by g k (judged g.env sc e ∷ []) called h
    numbered_single e i called truth_kind kind no_copy f h = numbered_by g k (judged g.env sc e ∷ []) called h
    numbered_single e i called void_kind kind no_copy f h = numbered_by g k (judged g.env sc e ∷ []) called h

    -- one argument
    one_taken : (e : Expression) → IsExpression e → (called : ℕ) → Fine g.defined (single_found g.env k (judged g.env sc e) called (judged g.env sc e).kind) →
        Fine g.defined (judged g.env sc e).found → (x : Option (List Name)) → lvalue_of (resolve_expression g.env sc e) ≡ x → (b : Bool) → copies (lowering_in g) k x ≡ b →
        Takes (expression_then e no_expressions) (if b then copy_constructor g.program k else constructor_for g.program k 1)
    one_taken e i called h f None q true c = absurd (cc c)
    one_taken e i called h f (Some names) q true c = by_copy e i f names q c
    one_taken e i called h f x q false c =
        by_number (expression_then e no_expressions) (i, tt) (numbered_single e i called (judged g.env sc e).kind refl (ap (copies (lowering_in g) k) q ∙ c) f h)

    -- an object that needs no arguments
    alone : has_default g.env k ≡ true → CanDefault g.program k
    alone h =
        let x = some_item g.env.classes k known in
        settled.defaults k x.0 x.1 (ap (λ y. elim y as (λ z. Bool) [ None ↦ true | Some c ↦ c.has_default ]) (sym x.1) ∙ h)

    -- an object is built
    pub constructs : (es : Expressions) → AreExpressions es → (called needs : ℕ) → Fine g.defined (construction_found g.env k (all_judged g.env sc es) called needs) →
        CanConstruct (lowering_in g) sc.own xs k (resolve_expressions g.env sc es)
    constructs no_expressions i called needs f =
        let a = alone (held g.defined (has_default g.env k) no_default needs f) in
        record { there = below; callable = a.there; counted = subst (λ types. 0 ≡ length types) (sym a.none) refl; typed = tt; decided = tt }
    constructs (expression_then e no_expressions) i called needs f =
        let fine = single_fine g k (judged g.env sc e) called (judged g.env sc e).kind f in
        let names = lvalue_of (resolve_expression g.env sc e) in
        let t = one_taken e i.0 called f fine names refl (copies (lowering_in g) k names) refl in
        record { there = below; callable = t.callable; counted = t.counted; typed = t.typed; decided = decided e i.0 fine names refl }
    constructs (expression_then e (expression_then x es)) i called needs f =
        let all = expression_then e (expression_then x es) in
        let number = same_number g.env sc all in
        let t = subst (λ n. Takes all (constructor_for g.program k n)) (sym number) (by_number all i (numbered_by g k (all_judged g.env sc all) called f)) in
        record { there = below; callable = t.callable; counted = t.counted; typed = t.typed; decided = tt }
