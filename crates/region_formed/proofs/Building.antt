-- An object is built by a constructor that takes the arguments, where no rule is broken.
use Rattle.std.proofs.Common.{◌≡◌, ◌∙◌, ◌+◌, ◌<◌, ◌==◌, ℕ, Bool, true, false, List, [], ◌∷◌, ◌++◌, length, Option, Some, None, find, if◌then◌else◌, refl, sym, ap, subst, arith}
use Rattle.std.specs.Prelude.{slice_get, unwrap_or}
use Rattle.std.proofs.lemmas.Bool.Decides.{nat_tests}
use Rattle.std.proofs.lemmas.List.{length-map}
use Rattle.std.specs.Cmp.Derive.{both_true}
use Rattle.cxx_ast.specs.declared.name.Name.{Name}
use Rattle.cxx_ast.specs.Rule.{arity, not_lvalue}
use Rattle.cxx_ast.specs.Finding.{Finding, breaks}
use Rattle.cxx_ast.specs.Plain.{Expression, number, path, paren, unary, binary, call, std_call, Expressions, no_expressions, expression_then}
use Rattle.cxx_ast.specs.Environment.{Kind, int_kind, truth_kind, void_kind, class_kind, no_kind, Passing, Signature, ClassEntry, Scope}
use Rattle.cxx_ast.specs.Lookup.{derives}
use Rattle.cxx_ast.specs.Reference.{all_found, Target, Judgement, int_wanted, int_found, bound_found, argument_found, arguments_found}
use Rattle.cxx_ast.specs.Construct.{is_constructor_with as selects, by_number_found, single_found, construction_found}
use Rattle.cxx_ast.specs.ExpressionRules.{judged, all_judged}
use Rattle.cxx_ast.specs.Resolve.{resolve_path, resolve_expression, resolve_expressions}
use Rattle.cxx_ast.specs.Grammatical.{IsExpression, AreExpressions}
use Rattle.meaning_forms.specs.Class.{class_type, method_at, derives as derives_in}
use Rattle.meaning_forms.specs.Construct.{declared_or, constructor_for, copy_constructor}
use Rattle.meaning_forms.specs.Running.{Callee, Constructor, constructor, declared, implicit_default}
use Rattle.meaning_forms.specs.Expression.{lvalue_of, names_of, types_of, constructor_types}
use Rattle.region_forms.specs.Form.{Place, Arguments, arguments_from, function_at, no_function as no_region_function}
use Rattle.region_forms.specs.Layout.{layout_of}
use Rattle.region_forms.specs.Numbering.{number_of, variables_of}
use Rattle.region_forms.specs.LowerExpression.{int_passed, address_passed, place_of, lvalue_type, copies, constructor_chosen, lower, lower_construct}
use Rattle.region_forms.specs.Mentioned.{slots_of, slots_of_root, slots_of_arguments}
use Rattle.region_forms.specs.WellFormed.{is_reference, slot_test, fit, count_of, address_place, takes_object}
use Rattle.region_ir.specs.AtNumber.{IsThere, called_function}
use Rattle.region_ir.proofs.AtNumber.{at_number}
use Rattle.region_ir.proofs.Specials.{own_reference, take_objects}
use Rattle.region_formed.proofs.Fine.{Fine, fine_parts}
use Rattle.region_formed.proofs.Meant.{Typed, HasKind, Given, lowering_in, slots_in, regions_in, classes_in, Reach}
use Rattle.region_formed.proofs.Arguments.{kinded, lvalue_meant, Suited, SuitedOne, suited}
use Rattle.region_formed.proofs.Passing.{Pass, Behind, of_max, with_last}
use Rattle.region_formed.proofs.Fitting.{call_fits, same_number, shaped_passed, arguments_fit, parameter_slots}
use Rattle.region_formed.proofs.Expressions.{args, count_given, params_shaped, arguments_lowered}
use Rattle.region_formed.proofs.Constructors.{Constructed, constructed_by, copy_refers, derived}

-- the constructor of class k that is chosen takes the arguments
record Chosen (g : Given) (sc : Scope) (r : Reach g sc) (k : ℕ) (es : Expressions) (which : Constructor) : Type 0 where
  suits : Suited g sc r (constructor_types g.program k which) es
  takes : (t : ℕ) → takes_object (regions_in g) (number_of g.program (constructor k which))
      (arguments_from (args g sc r es (constructor_types g.program k which) t).arguments) ≡ true

-- the constructor that the number of arguments selects
record Numbered (g : Given) (k : ℕ) (given : List Judgement) : Type 0 where
  signature : Signature
  there : Constructed g.program k (length given) signature
  found : Fine g.defined (arguments_found g.env signature.parameters given)

-- what is found where a constructor with some parameters is selected
abbrev selected_found : Given → List Judgement → ℕ → Option (List Passing) → List Finding
selected_found g given called o = elim o [ None ↦ breaks arity called ∷ all_found given | Some ps ↦ arguments_found g.env ps given ]

numbered_by : (g : Given) (k : ℕ) (given : List Judgement) (called : ℕ) → Fine g.defined (by_number_found g.env k given called) → Numbered g k given
numbered_by g k given called f = of_class (slice_get g.env.classes k) refl f
  where
    of_signature : (c : ClassEntry) → slice_get g.env.classes k ≡ Some c → (o : Option Signature) → find (selects k c.name (length given)) c.functions ≡ o →
        Fine g.defined (selected_found g given called (elim o [ None ↦ None | Some s ↦ Some s.parameters ])) →
        Numbered g k given
    of_signature c e None q h = absurd h
    of_signature c e (Some s) q h =
        record { signature = s; there = constructed_by g.program g.special k (length given) c s (g.meant.classes k c e) q; found = h }

    of_class : (o : Option ClassEntry) → slice_get g.env.classes k ≡ o →
        Fine g.defined (selected_found g given called (elim o [
          | None ↦ None
          | Some c ↦ elim (find (selects k c.name (length given)) c.functions) [ None ↦ None | Some s ↦ Some s.parameters ]
        ])) → Numbered g k given
    of_class None e h = absurd h
    of_class (Some c) e h = of_signature c e (find (selects k c.name (length given)) c.functions) refl h

-- a constructor takes its object and arguments
takes_fits : (g : Given) (c : Callee) (arguments : Arguments) → IsThere g.program c →
    (1 + count_of arguments == (called_function g.program (layout_of g.program) c).parameters) ≡ true →
    fit (called_function g.program (layout_of g.program) c).slots 1 arguments ≡ true →
    slot_test is_reference (called_function g.program (layout_of g.program) c).slots 0 ≡ true →
    takes_object (regions_in g) (number_of g.program c) arguments ≡ true
takes_fits g c arguments there counts fitting own =
    let p = g.program in
    let same : function_at (regions_in g) (number_of p c) ≡ called_function p (layout_of p) c =
    ap (λ o. unwrap_or o no_region_function) (at_number p (layout_of p) c there) in
    both_true (call_fits p (layout_of p) c 1 arguments there counts fitting) (ap (λ f. slot_test is_reference f.slots 0) same ∙ own)

module _ (g : Given) (sc : Scope) (r : Reach g sc) (k : ℕ) (below : k < classes_in g) where
  by_number : (es : Expressions) → AreExpressions es → Numbered g k (all_judged g.env sc es) →
      Chosen g sc r k es (constructor_for g.program k (length (all_judged g.env sc es)))
  by_number es i n =
      let p = g.program in
      let s = n.signature in
      let f = method_at p k n.there.place in
      let types = types_of f.parameters in
      let shape = params_shaped (length p.classes) s.parameters f.parameters n.there.parameters in
      let shaped = shaped_passed s.parameters types shape in
      let same : length (all_judged g.env sc es) ≡ length s.parameters = let c = n.there.counted in grind (arith, nat_tests, c) in
      let counted : (length (all_judged g.env sc es) == length s.parameters) ≡ true = grind (arith, nat_tests, same) in
      let which : declared n.there.place ≡ constructor_for p k (length (all_judged g.env sc es)) =
      sym (ap (declared_or implicit_default) n.there.found) in
      subst (Chosen g sc r k es) which (record {
        suits = suited g sc r s.parameters types es shape counted n.found i;
        takes = λ t.
            let count = count_given g sc r es types t (length s.parameters) shaped.1 counted in
            let arguments = count.0 in
            let parameters = length-map f.parameters (λ x. x.ty) in
            let equal = shaped.1 in
            let counts : (1 + count_of (arguments_from (args g sc r es types t).arguments) == 1 + length f.parameters) ≡ true =
            grind (arith, nat_tests, arguments, parameters, equal) in
            takes_fits g (constructor k (declared n.there.place)) (arguments_from (args g sc r es types t).arguments) (below, n.there.within) counts
            (arguments_fit (layout_of p) (called_function p (layout_of p) (constructor k (declared n.there.place))).slots (lowering_in g)
            (resolve_expressions g.env sc es) types 1 t shaped.0 count.1
            (parameter_slots (layout_of p) true f (called_function p (layout_of p) (constructor k (declared n.there.place))).body))
            (own_reference (layout_of p) (variables_of f) (called_function p (layout_of p) (constructor k (declared n.there.place))).body);
      })

  -- an object is copied
  by_copy : (e : Expression) → IsExpression e → Fine g.defined (judged g.env sc e).found → (names : List Name) →
      lvalue_of (resolve_expression g.env sc e) ≡ Some names → Chosen g sc r k (expression_then e no_expressions) (copy_constructor g.program k)
  by_copy e i f names q =
      let p = g.program in
      let types = constructor_types p k (copy_constructor p k) in
      let refer = copy_refers p k in
      let place = place_of (lowering_in g) (names_of (lvalue_of (resolve_expression g.env sc e))) in
      let there = ap (λ o. address_place (regions_in g) (slots_in g) (place_of (lowering_in g) (names_of o))) q ∙ (lvalue_meant g sc r e i f names q).address in
      record {
        suits = (subst (λ b. SuitedOne g sc r b e) (sym refer) there, tt);
        takes = λ t. subst (λ b. takes_object (regions_in g) (number_of p (constructor k (copy_constructor p k))) (arguments_from
            (if b then address_passed place (record { before = []; arguments = []; next = t })
            else int_passed false t (lower (lowering_in g) (resolve_expression g.env sc e) t) (λ u. record { before = []; arguments = []; next = u })).arguments) ≡ true)
            (sym refer) ((take_objects p (layout_of p) g.checked k below).copied place);
      }

  -- one argument that is no copy
  all_one : (q : Passing) (a : Judgement) → Fine g.defined (argument_found g.env q a) → Fine g.defined a.found
  all_one q a f = go q.is_reference f
    where
      go : (b : Bool) → Fine g.defined (if b then bound_found g.env q a else int_found a) → Fine g.defined a.found
      go true h = (fine_parts g.defined a.found _ h).0
      go false h = (fine_parts g.defined a.found (int_wanted a.kind a.place) h).0

  number_fine : (a : Judgement) → Numbered g k (a ∷ []) → Fine g.defined a.found
  number_fine a n = go n.signature.parameters n.there.counted n.found
    where
      none_one : (0 == 1) ≡ true → ⊥
      none_one h = grind (arith, nat_tests, h)

      go : (ps : List Passing) → (length ps == 1) ≡ true → Fine g.defined (arguments_found g.env ps (a ∷ [])) → Fine g.defined a.found
      go [] c h = absurd (none_one c)
      go (q ∷ ps) c h = all_one q a (fine_parts g.defined (argument_found g.env q a) (arguments_found g.env ps []) h).0

  single_fine : (a : Judgement) (called : ℕ) (kind : Kind) → Fine g.defined (single_found g.env k a called kind) → Fine g.defined a.found
  single_fine a called no_kind f = f
  single_fine a called (class_kind j) f = go (derives g.env j k) f
    where
      go : (b : Bool) → Fine g.defined (if b then a.found ++ elim a.target [ Some t ↦ [] | None ↦ breaks not_lvalue a.place ∷ [] ] else by_number_found g.env k (a ∷ []) called) →
          Fine g.defined a.found
      go true h = (fine_parts g.defined a.found _ h).0
      go false h = number_fine a (numbered_by g k (a ∷ []) called h)
  single_fine a called int_kind f = number_fine a (numbered_by g k (a ∷ []) called f)
  single_fine a called truth_kind f = number_fine a (numbered_by g k (a ∷ []) called f)
  single_fine a called void_kind f = number_fine a (numbered_by g k (a ∷ []) called f)

  -- what has a target is an lvalue
  target_names : (e : Expression) (t : Target) → (judged g.env sc e).target ≡ Some t → lvalue_of (resolve_expression g.env sc e) ≡ Some (resolve_path g.env sc t.names)
  target_names (path names) t q = let same : names ≡ t.names = cc q in ap (λ ns. Some (resolve_path g.env sc ns)) same
  target_names (number v place) t q = absurd (cc q)
  target_names (paren e place) t q = absurd (cc q)
  target_names (unary o e place) t q = absurd (cc q)
  target_names (binary o x y) t q = absurd (cc q)
  target_names (call names es) t q = absurd (cc q)
  target_names (std_call n es place) t q = absurd (cc q)

  -- an lvalue of a class that derives is copied
  copied_by : (e : Expression) → IsExpression e → Fine g.defined (judged g.env sc e).found → (j : ℕ) → (judged g.env sc e).kind ≡ class_kind j →
      derives g.env j k ≡ true → (names : List Name) → lvalue_of (resolve_expression g.env sc e) ≡ Some names →
      copies (lowering_in g) k (lvalue_of (resolve_expression g.env sc e)) ≡ true
  copied_by e i f j kind d names q =
      let typed = subst (λ x. Typed (classes_in g) x (lvalue_type (lowering_in g) names)) kind (lvalue_meant g sc r e i f names q).typed in
      ap (copies (lowering_in g) k) q ∙ (ap (λ t. derives_in g.program t (class_type k)) typed.0
      ∙ derived g.program g.defined g.special g.env g.meant j k d)

  numbered_single : (e : Expression) → IsExpression e → (called : ℕ) (kind : Kind) → (judged g.env sc e).kind ≡ kind →
      copies (lowering_in g) k (lvalue_of (resolve_expression g.env sc e)) ≡ false → Fine g.defined (judged g.env sc e).found →
      Fine g.defined (single_found g.env k (judged g.env sc e) called kind) → Numbered g k (judged g.env sc e ∷ [])
  numbered_single e i called no_kind kind no_copy f h = absurd (subst HasKind kind (kinded g sc r e i f))
  numbered_single e i called (class_kind j) kind no_copy f h = go (derives g.env j k) refl h
    where
      a : Judgement
      a = judged g.env sc e

      of_target : (o : Option Target) → (judged g.env sc e).target ≡ o → derives g.env j k ≡ true →
          Fine g.defined (elim o as (λ x. List Finding) [ Some t ↦ [] | None ↦ breaks not_lvalue (judged g.env sc e).place ∷ [] ]) → Numbered g k (judged g.env sc e ∷ [])
      of_target None q d y = absurd y
      of_target (Some t) q d y =
          absurd (cc (sym no_copy ∙ copied_by e i f j kind d (resolve_path g.env sc t.names) (target_names e t q)))

      go : (b : Bool) → derives g.env j k ≡ b →
          Fine g.defined (if b then (judged g.env sc e).found ++ elim (judged g.env sc e).target [ Some t ↦ [] | None ↦ breaks not_lvalue (judged g.env sc e).place ∷ [] ]
          else by_number_found g.env k (judged g.env sc e ∷ []) called) → Numbered g k (judged g.env sc e ∷ [])
      go true d y = of_target (judged g.env sc e).target refl d (fine_parts g.defined (judged g.env sc e).found _ y).1
      go false d y = numbered_by g k (judged g.env sc e ∷ []) called y
  numbered_single e i called int_kind kind no_copy f h = numbered_by g k (judged g.env sc e ∷ []) called h
  numbered_single e i called truth_kind kind no_copy f h = numbered_by g k (judged g.env sc e ∷ []) called h
  numbered_single e i called void_kind kind no_copy f h = numbered_by g k (judged g.env sc e ∷ []) called h

  -- the constructor that is chosen
  chosen : (es : Expressions) → AreExpressions es → (called needs : ℕ) → Fine g.defined (construction_found g.env k (all_judged g.env sc es) called needs) →
      Chosen g sc r k es (constructor_chosen (lowering_in g) k (resolve_expressions g.env sc es))
  chosen no_expressions i called needs f = record { suits = tt; takes = λ t. (take_objects g.program (layout_of g.program) g.checked k below).default }
  chosen (expression_then e no_expressions) i called needs f =
      let fine = single_fine (judged g.env sc e) called (judged g.env sc e).kind f in
      go (lvalue_of (resolve_expression g.env sc e)) (copies (lowering_in g) k (lvalue_of (resolve_expression g.env sc e))) refl refl fine
    where
      go : (o : Option (List Name)) (b : Bool) → lvalue_of (resolve_expression g.env sc e) ≡ o →
          copies (lowering_in g) k (lvalue_of (resolve_expression g.env sc e)) ≡ b → Fine g.defined (judged g.env sc e).found →
          Chosen g sc r k (expression_then e no_expressions) (if b then copy_constructor g.program k else constructor_for g.program k 1)
      go None true q c fine = absurd (cc (sym (ap (copies (lowering_in g) k) q) ∙ c))
      go (Some names) true q c fine = by_copy e i.0 fine names q
      go o false q c fine = by_number (expression_then e no_expressions) i (numbered_single e i.0 called (judged g.env sc e).kind refl c fine f)
  chosen (expression_then e (expression_then x es)) i called needs f =
      let number = same_number g.env sc (expression_then e (expression_then x es)) in
      subst (λ n. Chosen g sc r k (expression_then e (expression_then x es)) (constructor_for g.program k n)) (sym number)
      (by_number (expression_then e (expression_then x es)) i (numbered_by g k (all_judged g.env sc (expression_then e (expression_then x es))) called f))

  -- an object is built in a place
  pub construct_passes : (es : Expressions) → AreExpressions es → (called needs : ℕ) →
      Fine g.defined (construction_found g.env k (all_judged g.env sc es) called needs) → (p : Place) → address_place (regions_in g) (slots_in g) p ≡ true →
      (t : ℕ) → Behind g t → Pass g (lower_construct (lowering_in g) k (resolve_expressions g.env sc es) p t)
  construct_passes es i called needs f p there t free =
      let c = chosen es i called needs f in
      let types = constructor_types g.program k (constructor_chosen (lowering_in g) k (resolve_expressions g.env sc es)) in
      let a = arguments_lowered g sc r es types c.suits t free in
      with_last a.before (record {
        holds = λ few. let parts = of_max (slots_of_root p.root) (slots_of_arguments (arguments_from (args g sc r es types t).arguments)) (slots_of g.body) few in
            both_true there (both_true (a.given.holds parts.1) (c.takes t));
      })
