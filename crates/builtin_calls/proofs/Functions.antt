-- So it is in a declared function that breaks no rule, and in the initialisers of a constructor.
use Rattle.std.proofs.Common.{◌≡◌, ◌∙◌, ◌+◌, ℕ, suc, Bool, true, false, List, [], ◌∷◌, ◌++◌, map, length, Option, Some, None, if◌then◌else◌, bytes_eq, inr, refl, sym, ap, subst, arith}
use Rattle.std.specs.Prelude.{slice_get, flat_map}
use Rattle.std.proofs.lemmas.List.{length-map}
use Rattle.cxx_ast.specs.declared.name.Name.{Name}
use Rattle.cxx_ast.specs.declared.name.Bound.{Bound}
use Rattle.cxx_ast.specs.declared.name.Bound.TheVariants.{Free}
use Rattle.cxx_ast.specs.declared.types.Param.{Param}
use Rattle.cxx_ast.specs.declared.declaration.FuncKind.{FuncKind}
use Rattle.cxx_ast.specs.declared.declaration.FuncKind.TheVariants.{Plain, Method, Constructor, Destructor}
use Rattle.cxx_ast.specs.Finding.{Finding, breaks, breaks_if}
use Rattle.cxx_ast.specs.Rule.{initialiser_list}
use Rattle.cxx_ast.specs.Plain.{Checked, Function, Statements, Expressions, no_expressions, expression_then, Initialiser}
use Rattle.cxx_ast.specs.Environment.{Kind, int_kind, truth_kind, void_kind, class_kind, no_kind, Field, ClassEntry, Entry, Environment, Scope}
use Rattle.cxx_ast.specs.Lookup.{entry_of}
use Rattle.cxx_ast.specs.Reference.{all_found}
use Rattle.cxx_ast.specs.ExpressionRules.{all_judged}
use Rattle.cxx_ast.specs.TypeNames.{type_found, specification_found, head_types_found}
use Rattle.cxx_ast.specs.Locals.{declare_param, declare_params}
use Rattle.cxx_ast.specs.FunctionRules.{has_text, params_twice, part_kind, is_called, base_part, named_part, int_part_found, part_found, initialiser_found, initialised, initialisers_found, left_fields, left_base, building_found, building_of, body_found, definition_found, function_found}
use Rattle.cxx_ast.specs.StatementRules.{statements_found}
use Rattle.cxx_ast.specs.Declare.{function_scope}
use Rattle.cxx_ast.specs.Resolve.{resolve_params, resolve_expressions, resolve_initialiser, resolve_body, resolve_function}
use Rattle.cxx_ast.specs.Grammatical.{Where, There, HasForm, IsFunction, AreStatements, AreExpressions, IsInitialiser, Each}
use Rattle.cxx_ast.specs.Checked.{IsChecked}
use Rattle.meaning_forms.specs.Class.{ObjectType, object_type}
use Rattle.meaning_forms.specs.Expression.{types_of}
use Rattle.region_forms.specs.Numbering.{declared_in_body, variables_of}
use Rattle.region_formed.proofs.Fine.{Fine, fine_parts}
use Rattle.region_formed.proofs.Meant.{FieldsMeant, Typed, Meant, Given, Reach}
use Rattle.region_formed.proofs.Types.{From, from_front, from_back}
use Rattle.region_formed.proofs.Heads.{heading, Names, NameAlone, params_reach}
use Rattle.region_formed.proofs.Functions.{sc, g}
use Rattle.builtin_calls.proofs.Trees.{AllFit, InitialisersFit, BodyFits, FunctionFits}
use Rattle.builtin_calls.proofs.Rules.{EachFine, value_fine, construction_fine}
use Rattle.builtin_calls.proofs.Expressions.{all_fit}
use Rattle.builtin_calls.proofs.Blocks.{statements_fit}

-- what parameters leave of a scope
params_next : (env : Environment) (ps : List Param) (there : Scope) → (declare_params env ps there).next ≡ there.next + length ps
params_next env [] there = omega arith
params_next env (x ∷ ps) there = let rest = params_next env ps (declare_param env x there) in let one = one_next x.name in omega (arith, rest, one)
  where
    one_next : (n : Option Name) → (declare_param env (record x { name = n }) there).next ≡ there.next + 1
    one_next None = refl
    one_next (Some n) = refl

params_count : (env : Environment) (there : Scope) (ps : List Param) → length (resolve_params env there ps) ≡ length ps
params_count env there [] = refl
params_count env there (x ∷ ps) = ap suc (params_count env (declare_param env x there) ps)

-- a part is an int or an object
abbrev IsPart : Kind → Type 0
IsPart int_kind = Unit {0}
IsPart (class_kind k) = Unit {0}
IsPart _ = ⊥

typed_part : (n : ℕ) (kind : Kind) (t : ObjectType) → Typed n kind t → IsPart kind
typed_part n int_kind t h = tt
typed_part n (class_kind k) t h = tt
typed_part n truth_kind t h = absurd h
typed_part n void_kind t h = absurd h
typed_part n no_kind t h = absurd h

field_part : (n : ℕ) (text : List ℕ) (kind : Kind) (fs : List Field) (ms : List Param) → FieldsMeant n fs ms → part_kind text fs ≡ Some kind → IsPart kind
field_part n text kind [] ms h e = absurd (cc e)
field_part n text kind (f ∷ fs) [] h e = absurd h
field_part n text kind (f ∷ fs) (m ∷ ms) h e = go (bytes_eq f.name.text text) e (field_part n text kind fs ms h.1)
  where
    go : (b : Bool) → (if b then Some f.kind else part_kind text fs) ≡ Some kind → (part_kind text fs ≡ Some kind → IsPart kind) → IsPart kind
    go true q rest = let same : f.kind ≡ kind = cc q in subst IsPart same (typed_part n f.kind (object_type m.ty) h.0)
    go false q rest = rest q

named_is : (n : ℕ) (env : Environment) (c : ClassEntry) (text : List ℕ) (kind : Kind) (ms : List Param) → FieldsMeant n c.fields ms → named_part env c text ≡ Some kind → IsPart kind
named_is n env c text kind ms h e = of_field (part_kind text c.fields) refl e
  where
    of_called : (b : ℕ) (x : Bool) → (if x then Some (class_kind b) else None) ≡ Some kind → IsPart kind
    of_called b true q = let same : class_kind b ≡ kind = cc q in subst IsPart same tt
    of_called b false q = absurd (cc q)

    of_base : (o : Option ℕ) → base_part env text o ≡ Some kind → IsPart kind
    of_base None q = absurd (cc q)
    of_base (Some b) q = of_called b (is_called env text b) q

    of_field : (o : Option Kind) → part_kind text c.fields ≡ o → elim o [ Some x ↦ Some x | None ↦ base_part env text c.base ] ≡ Some kind → IsPart kind
    of_field (Some x) p q = field_part n text kind c.fields ms h (p ∙ q)
    of_field None p q = of_base c.base q

-- the initialisers of a constructor
module _ (g : Given) (sc : Scope) (r : Reach g sc) (c : ClassEntry) (ms : List Param) (fields : FieldsMeant (length g.program.classes) c.fields ms) where
  one_int : (place : ℕ) (es : Expressions) → Fine g.defined (int_part_found place (all_judged g.env sc es)) → EachFine g sc es
  one_int place no_expressions f = absurd f
  one_int place (expression_then e no_expressions) f = (inr (value_fine g sc e f), tt)
  one_int place (expression_then e (expression_then x es)) f = absurd f

  part_fine : (place : ℕ) (es : Expressions) (kind : Kind) → IsPart kind → Fine g.defined (part_found g.env place (all_judged g.env sc es) kind) → EachFine g sc es
  part_fine place es int_kind h f = one_int place es f
  part_fine place es (class_kind k) h f = construction_fine g sc k es place place f
  part_fine place es truth_kind h f = absurd h
  part_fine place es void_kind h f = absurd h
  part_fine place es no_kind h f = absurd h

  initialiser_fits : (seen : List (List ℕ)) (i : Initialiser) → AreExpressions i.arguments → Fine g.defined (initialiser_found g.env sc c seen i) → AllFit (resolve_expressions g.env sc i.arguments)
  initialiser_fits seen i w f = all_fit g sc r i.arguments w (go (named_part g.env c i.name.text) refl f)
    where
      go : (o : Option Kind) → named_part g.env c i.name.text ≡ o → Fine g.defined (elim o as (λ x. List Finding) [
        | None ↦ breaks initialiser_list i.name.place ∷ all_found (all_judged g.env sc i.arguments)
        | Some kind ↦ breaks_if (has_text i.name.text seen) initialiser_list i.name.place ++ part_found g.env i.name.place (all_judged g.env sc i.arguments) kind
      ]) → EachFine g sc i.arguments
      go None e h = absurd h
      go (Some kind) e h =
          part_fine i.name.place i.arguments kind (named_is (length g.program.classes) g.env c i.name.text kind ms fields e)
          (fine_parts g.defined (breaks_if (has_text i.name.text seen) initialiser_list i.name.place) (part_found g.env i.name.place (all_judged g.env sc i.arguments) kind) h).1

  initialisers_fit : (seen : List (List ℕ)) (is : List Initialiser) → Each IsInitialiser is → Fine g.defined (initialisers_found g.env sc c seen is) →
      InitialisersFit (map (resolve_initialiser g.env sc) is)
  initialisers_fit seen [] w f = tt
  initialisers_fit seen (i ∷ is) w f =
      let parts = fine_parts g.defined (initialiser_found g.env sc c seen i) (initialisers_found g.env sc c (i.name.text ∷ seen) is) f in
      (initialiser_fits seen i w.0 parts.0, initialisers_fit (i.name.text ∷ seen) is w.1 parts.1)

-- the class of a constructor
pub record OwnEntry (env : Environment) (inside : Option ℕ) : Type 0 where
  pub number : ℕ
  pub entry : ClassEntry
  pub own : inside ≡ Some number
  pub is : slice_get env.classes number ≡ Some entry

none_fit : (env : Environment) (there : Scope) (is : List Initialiser) → is ≡ [] → InitialisersFit (map (resolve_initialiser env there) is)
none_fit env there is e = subst (λ x. InitialisersFit (map (resolve_initialiser env there) x)) (sym e) tt

module _ (p : Checked) (checked : IsChecked p) (defined special : List (List ℕ)) (env : Environment) (meant : Meant p defined special env)
    (head : Environment) (hown hlimit : Option ℕ) (names : Names p special head)
    (kept : (text : List ℕ) (e : Entry) → entry_of head text ≡ Some e → entry_of env text ≡ Some e)
    (member is_main : Bool) (k : ℕ) (inside : Option ℕ) (own : (j : ℕ) → inside ≡ Some j → member ≡ true) (b : Bound) (f : Function) (w : IsFunction f)
    (alone : Each (λ (x : Param). NameAlone special x.name) f.parameters)
    (fine : Fine defined (function_found head (heading hown hlimit 0) env inside f)) where
  abbrev there : Scope
  there = sc p checked defined special env meant head hown hlimit names kept member is_main k inside own b f w alone fine None

  abbrev pub tree : Function
  tree = resolve_function head (heading hown hlimit 0) env (function_scope env inside f.result) b f

  abbrev given : Given
  given = g p checked defined special env meant head hown hlimit names kept member is_main k inside own b f w alone fine None

  parts : (Fine defined (head_types_found head (heading hown hlimit 0) f)) × (Fine defined (body_found env there inside f f.body))
  parts =
      let types = head_types_found head (heading hown hlimit 0) f in
      let twice = params_twice [] f.parameters in
      let inner = body_found env there inside f f.body in
      let whole = fine_parts defined (types ++ twice ++ inner)
      (definition_found env (resolve_function head (heading hown hlimit 0) env (function_scope env inside f.result) Free f) f.body) fine in
      let body = fine_parts defined (types ++ twice) inner whole.0 in
      ((fine_parts defined types twice body.0).0, body.1)

  heads : Fine defined (flat_map (λ p. type_found head (heading hown hlimit 0) p.ty) f.parameters)
  heads = (fine_parts defined (flat_map (λ p. type_found head (heading hown hlimit 0) p.ty) f.parameters) (specification_found head (heading hown hlimit 0) f.specification) parts.0).0

  -- all variables
  whole : From given 0 (variables_of tree)
  whole = record { holds = λ i t e. let none : i ≡ 0 + i = omega arith in subst (λ n. slice_get (variables_of tree) n ≡ Some t) none e }

  reach : Reach given there
  reach =
      params_reach given head hown hlimit kept names f.parameters w.parameters alone heads 0 (function_scope env inside f.result)
      (record { locals = (tt, tt); own = own }) (tt, tt) (from_front (types_of tree.parameters) (declared_in_body tree.body) whole)

  behind : From given there.next (declared_in_body tree.body)
  behind =
      let mapped = length-map tree.parameters (λ x. x.ty) in
      let count = params_count head (heading hown hlimit 0) f.parameters in
      let next = params_next env f.parameters (function_scope env inside f.result) in
      from_back there.next (types_of tree.parameters) (declared_in_body tree.body) (omega (arith, mapped, count, next)) whole

  body_by : (ss : Option Statements) → Where AreStatements ss → Fine defined (body_found env there inside f ss) → From given there.next (declared_in_body (resolve_body env there ss)) →
      BodyFits (resolve_body env there ss)
  body_by None v h s = tt
  body_by (Some ss) v h s = statements_fit given ss v there reach (fine_parts defined (building_of env there inside f f.kind) (statements_found env there ss) h).1 s

  -- what a constructor does before its body
  building : (c : OwnEntry env inside) → (ss : Option Statements) → There ss → f.kind ≡ Constructor → Fine defined (body_found env there inside f ss) →
      Fine defined (initialisers_found env there c.entry [] f.initialisers)
  building c None t e h = absurd t
  building c (Some ss) t e h =
      let first = subst (λ x. Fine defined (building_of env there inside f x)) e (fine_parts defined (building_of env there inside f f.kind) (statements_found env there ss) h).0 in
      let here = subst (λ o. Fine defined (building_found env there o f)) c.own first in
      let entry = subst (λ o. Fine defined (elim o as (λ x. List Finding) [
        | None ↦ []
        | Some c ↦ initialisers_found env there c [] f.initialisers ++ left_fields env f.name.place (initialised f.initialisers) c.fields
            ++ left_base env f.name.place (initialised f.initialisers) c.base
      ])) c.is here in
      let own_parts = fine_parts defined (initialisers_found env there c.entry [] f.initialisers ++ left_fields env f.name.place (initialised f.initialisers) c.entry.fields)
      (left_base env f.name.place (initialised f.initialisers) c.entry.base) entry in
      (fine_parts defined (initialisers_found env there c.entry [] f.initialisers) (left_fields env f.name.place (initialised f.initialisers) c.entry.fields) own_parts.0).0

  initialisers_by : (kind : FuncKind) → f.kind ≡ kind → HasForm kind f → (kind ≡ Constructor → OwnEntry env inside) → InitialisersFit tree.initialisers
  initialisers_by Plain e form c = none_fit env there f.initialisers form.1
  initialisers_by Method e form c = none_fit env there f.initialisers form.1
  initialisers_by Destructor e form c = none_fit env there f.initialisers form.1
  initialisers_by Constructor e form c =
      let o = c refl in
      initialisers_fit given there reach o.entry _ (meant.classes o.number o.entry o.is).fields [] f.initialisers w.initialisers (building o f.body form.1 e parts.1)

  pub function_fits : (f.kind ≡ Constructor → OwnEntry env inside) → FunctionFits tree
  function_fits c = record { initialisers = initialisers_by f.kind refl w.form c; body = body_by f.body w.body parts.1 behind }
