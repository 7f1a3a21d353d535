-- The body of a declared function that breaks no rule passes its tests.
use Rattle.std.proofs.Common.{◌≡◌, ◌∙◌, ◌+◌, ◌<◌, ℕ, suc, pos, nat_lt, Bool, true, false, List, [], ◌∷◌, ◌++◌, map, length, Option, Some, None, refl, ap, subst, arith}
use Rattle.std.specs.Prelude.{slice_get, flat_map}
use Rattle.std.proofs.lemmas.List.{length-map}
use Rattle.std.specs.Cmp.Derive.{both_true}
use Rattle.cxx_ast.specs.declared.name.Name.{Name}
use Rattle.cxx_ast.specs.declared.name.Bound.{Bound}
use Rattle.cxx_ast.specs.declared.name.Bound.TheVariants.{Free}
use Rattle.cxx_ast.specs.declared.types.Ty.{Ty}
use Rattle.cxx_ast.specs.declared.types.Ty.TheVariants.{Int, Void, Object, IntRef, ObjectRef}
use Rattle.cxx_ast.specs.declared.types.Param.{Param}
use Rattle.cxx_ast.specs.declared.declaration.FuncKind.{FuncKind}
use Rattle.cxx_ast.specs.declared.declaration.FuncKind.TheVariants.{Plain, Method, Constructor, Destructor}
use Rattle.cxx_ast.specs.Finding.{Finding}
use Rattle.cxx_ast.specs.Plain.{Checked, Specification, listed, noexcept, Function, Statements}
use Rattle.cxx_ast.specs.Environment.{ClassEntry, Entry, Environment, Scope}
use Rattle.cxx_ast.specs.Lookup.{entry_of}
use Rattle.cxx_ast.specs.TypeNames.{type_kind, type_found, specification_found, head_types_found}
use Rattle.cxx_ast.specs.Locals.{declare_param, declare_params}
use Rattle.cxx_ast.specs.FunctionRules.{params_twice, initialised, initialisers_found, left_fields, left_base, building_found, building_of, body_found, definition_found, function_found}
use Rattle.cxx_ast.specs.StatementRules.{statements_found}
use Rattle.cxx_ast.specs.Declare.{function_scope}
use Rattle.cxx_ast.specs.Resolve.{resolve_type, resolve_params, resolve_body, resolve_specification, resolve_function}
use Rattle.cxx_ast.specs.Grammatical.{Each, Where, There, HasForm, IsListedType, IsSpecification, IsFunction, AreStatements}
use Rattle.cxx_ast.specs.Checked.{IsChecked}
use Rattle.cxx_ast.proofs.Settled.{OfTypes}
use Rattle.meaning_forms.specs.Class.{object_type, parts_of}
use Rattle.meaning_forms.specs.Call.{initialiser_for, statements_in}
use Rattle.meaning_forms.specs.Expression.{types_of}
use Rattle.region_forms.specs.Form.{Region, in_order}
use Rattle.region_forms.specs.Layout.{layout_of}
use Rattle.region_forms.specs.Numbering.{type_number, type_rows, declared_in_body, variables_of}
use Rattle.region_forms.specs.LowerExpression.{result_slot}
use Rattle.region_forms.specs.LowerStatement.{statements}
use Rattle.region_forms.specs.LowerProgram.{last_result, ending, limited, initial_part, body_of, declared_function, regions_of}
use Rattle.region_forms.specs.Mentioned.{slots_of, slots_of_clauses}
use Rattle.region_forms.specs.WellFormed.{every}
use Rattle.region_ir.specs.Implicit.{body_passes}
use Rattle.region_ir.specs.Leaves.{clause_leaves_test}
use Rattle.region_ir.proofs.ImplicitLeaves.{parts_there, parts_within}
use Rattle.region_formed.proofs.Fine.{Fine, fine_parts}
use Rattle.region_formed.proofs.Meant.{IsHeld, Meant, Given, lowering_in, slots_in, regions_in, Reach}
use Rattle.region_formed.proofs.Slots.{result_at, int_in}
use Rattle.region_formed.proofs.Types.{From, from_front, from_back}
use Rattle.region_formed.proofs.Passing.{Pass, OnePasses, of_max, one_then, one_pass, none_pass, in_order_passes, put_passes, number_passes}
use Rattle.region_formed.proofs.Throws.{type_there, help_there, typed_before}
use Rattle.region_formed.proofs.Statements.{Rest}
use Rattle.region_formed.proofs.Blocks.{statements_pass}
use Rattle.region_formed.proofs.Initialisers.{built_passes, destroyed_passes, initial_passes}
use Rattle.region_formed.proofs.Heads.{heading, Names, NameAlone, head_typed, params_reach}

-- what parameters leave of a scope
params_next : (env : Environment) (ps : List Param) (sc : Scope) → (declare_params env ps sc).next ≡ sc.next + length ps
params_next env [] sc = omega arith
params_next env (p ∷ ps) sc = let rest = params_next env ps (declare_param env p sc) in let one = one_next p.name in omega (arith, rest, one)
  where
    one_next : (n : Option Name) → (declare_param env (record p { name = n }) sc).next ≡ sc.next + 1
    one_next None = refl
    one_next (Some n) = refl

params_own : (env : Environment) (ps : List Param) (sc : Scope) → (declare_params env ps sc).own ≡ sc.own
params_own env [] sc = refl
params_own env (p ∷ ps) sc = params_own env ps (declare_param env p sc) ∙ one_own p.name
  where
    one_own : (n : Option Name) → (declare_param env (record p { name = n }) sc).own ≡ sc.own
    one_own None = refl
    one_own (Some n) = refl

params_limit : (env : Environment) (ps : List Param) (sc : Scope) → (declare_params env ps sc).limit ≡ sc.limit
params_limit env [] sc = refl
params_limit env (p ∷ ps) sc = params_limit env ps (declare_param env p sc) ∙ one_limit p.name
  where
    one_limit : (n : Option Name) → (declare_param env (record p { name = n }) sc).limit ≡ sc.limit
    one_limit None = refl
    one_limit (Some n) = refl

params_count : (env : Environment) (sc : Scope) (ps : List Param) → length (resolve_params env sc ps) ≡ length ps
params_count env sc [] = refl
params_count env sc (p ∷ ps) = ap suc (params_count env (declare_param env p sc) ps)

-- the class of a constructor or a destructor
pub record OfClass (p : Checked) (env : Environment) (member : Bool) (inside : Option ℕ) (k : ℕ) : Type 0 where
  pub is_member : member ≡ true
  pub below : k < length p.classes
  pub own : inside ≡ Some k
  pub entry : ClassEntry
  pub is : slice_get env.classes k ≡ Some entry

-- a function that no class has is plain
abbrev pub HasClass : FuncKind → Type 0 → Type 0
HasClass Plain A = Unit {0}
HasClass Method A = Unit {0}
HasClass Constructor A = A
HasClass Destructor A = A

-- a type has a row
abbrev pub HasRow : Checked → Ty → Type 0
HasRow p t = nat_lt (type_number (object_type t)) (length (type_rows p)) ≡ true

-- so have those of a list
rows_there : (p : Checked) (types : List Ty) → Each (HasRow p) types →
    every (λ t. nat_lt t (length (type_rows p))) (map (λ t. type_number (object_type t)) types) ≡ true
rows_there p [] h = refl
rows_there p (t ∷ types) h = both_true h.0 (rows_there p types h.1)

-- a listed type
listed_held : (t : Ty) → IsListedType t → IsHeld t
listed_held Int h = tt
listed_held (Object n) h = tt
listed_held Void h = h
listed_held (IntRef const) h = tt
listed_held (ObjectRef const n) h = tt

module _ (p : Checked) (checked : IsChecked p) (defined special : List (List ℕ)) (env : Environment) (meant : Meant p defined special env)
    (head : Environment) (hown hlimit : Option ℕ) (names : Names p special head)
    (kept : (text : List ℕ) (e : Entry) → entry_of head text ≡ Some e → entry_of env text ≡ Some e)
    (member is_main : Bool) (k : ℕ) (inside : Option ℕ) (own : (j : ℕ) → inside ≡ Some j → member ≡ true) (b : Bound) (f : Function) (w : IsFunction f)
    (alone : Each (λ (x : Param). NameAlone special x.name) f.parameters)
    (fine : Fine defined (function_found head (heading hown hlimit 0) env inside f)) (s : Option Specification) where
  -- the scope of the body, and the function with its names bound, and with a specification that counts
  abbrev pub sc : Scope
  sc = declare_params env f.parameters (function_scope env inside f.result)

  abbrev pub bound : Function
  bound = record (resolve_function head (heading hown hlimit 0) env (function_scope env inside f.result) b f) { specification = s }

  abbrev pub g : Given
  g = record {
    program = p;
    checked = checked;
    is_member = member;
    variables = variables_of bound;
    body = (declared_function p (layout_of p) member is_main k bound).body;
    env = env;
    defined = defined;
    special = special;
    meant = meant;
  }

  parts : (Fine defined (head_types_found head (heading hown hlimit 0) f)) × (Fine defined (body_found env sc inside f f.body))
  parts =
      let types = head_types_found head (heading hown hlimit 0) f in
      let twice = params_twice [] f.parameters in
      let inner = body_found env sc inside f f.body in
      let whole = fine_parts defined (types ++ twice ++ inner)
      (definition_found env (resolve_function head (heading hown hlimit 0) env (function_scope env inside f.result) Free f) f.body) fine in
      let body = fine_parts defined (types ++ twice) inner whole.0 in
      ((fine_parts defined types twice body.0).0, body.1)

  heads : (Fine defined (flat_map (λ p. type_found head (heading hown hlimit 0) p.ty) f.parameters)) × (Fine defined (specification_found head (heading hown hlimit 0) f.specification))
  heads = fine_parts defined (flat_map (λ p. type_found head (heading hown hlimit 0) p.ty) f.parameters) (specification_found head (heading hown hlimit 0) f.specification) parts.0

  -- all variables
  whole : From g 0 (variables_of bound)
  whole = record { holds = λ i t e. let none : i ≡ 0 + i = omega arith in subst (λ n. slice_get (variables_of bound) n ≡ Some t) none e }

  next_is : sc.next ≡ length f.parameters
  next_is = let e = params_next env f.parameters (function_scope env inside f.result) in omega (arith, e)

  reach : Reach g sc
  reach =
      params_reach g head hown hlimit kept names f.parameters w.parameters alone heads.0 0 (function_scope env inside f.result)
      (record { locals = (tt, tt); own = own }) (tt, tt) (from_front (types_of bound.parameters) (declared_in_body bound.body) whole)

  behind : From g sc.next (declared_in_body bound.body)
  behind =
      let mapped = length-map bound.parameters (λ x. x.ty) in
      let count = params_count head (heading hown hlimit 0) f.parameters in
      let next = next_is in
      from_back sc.next (types_of bound.parameters) (declared_in_body bound.body) (omega (arith, mapped, count, next)) whole

  -- the statements of the body
  body_rest : (ss : Option Statements) → Where AreStatements ss → Fine defined (body_found env sc inside f ss) → From g sc.next (declared_in_body (resolve_body env sc ss)) →
      Rest g (statements (lowering_in g) (statements_in (resolve_body env sc ss)) 0 sc.next)
  body_rest None v h from d = none_pass
  body_rest (Some ss) v h from d = statements_pass g ss v sc reach (fine_parts defined (building_of env sc inside f f.kind) (statements_found env sc ss) h).1 from 0 d

  rest : Rest g (statements (lowering_in g) (statements_in bound.body) 0 (length bound.parameters))
  rest d =
      let count = params_count head (heading hown hlimit 0) f.parameters in
      let next = next_is in
      let same : sc.next ≡ length bound.parameters = omega (arith, count, next) in
      subst (λ n. Pass g (statements (lowering_in g) (statements_in bound.body) 0 n d)) same (body_rest f.body w.body parts.1 behind d)

  -- the initialisers of a constructor
  building : (c : OfClass p env member inside k) → (ss : Option Statements) → There ss → f.kind ≡ Constructor → Fine defined (body_found env sc inside f ss) →
      Fine defined (initialisers_found env sc c.entry [] f.initialisers)
  building c None t e h = absurd t
  building c (Some ss) t e h =
      let first = subst (λ x. Fine defined (building_of env sc inside f x)) e (fine_parts defined (building_of env sc inside f f.kind) (statements_found env sc ss) h).0 in
      let here = subst (λ o. Fine defined (building_found env sc o f)) c.own first in
      let entry = subst (λ o. Fine defined (elim o as (λ x. List Finding) [
        | None ↦ []
        | Some c ↦ initialisers_found env sc c [] f.initialisers ++ left_fields env f.name.place (initialised f.initialisers) c.fields
            ++ left_base env f.name.place (initialised f.initialisers) c.base
      ])) c.is here in
      let own_parts = fine_parts defined (initialisers_found env sc c.entry [] f.initialisers ++ left_fields env f.name.place (initialised f.initialisers) c.entry.fields)
      (left_base env f.name.place (initialised f.initialisers) c.entry.base) entry in
      (fine_parts defined (initialisers_found env sc c.entry [] f.initialisers) (left_fields env f.name.place (initialised f.initialisers) c.entry.fields) own_parts.0).0

  -- the body of each kind of function
  body_by : (kind : FuncKind) → f.kind ≡ kind → HasForm kind f → HasClass kind (OfClass p env member inside k) → Rest g (body_of (lowering_in g) kind k bound)
  body_by Plain e form class d = rest d
  body_by Method e form class d = rest d
  body_by Constructor e form c d =
      let limit_none = params_limit env f.parameters (function_scope env inside f.result) in
      let own_is = params_own env f.parameters (function_scope env inside f.result) ∙ c.own in
      built_passes g c.is_member k (λ i. initial_part (lowering_in g) k i (initialiser_for p bound.initialisers i)) 0 (parts_of p k)
      (statements (lowering_in g) (statements_in bound.body) 0 (length bound.parameters)) d
      (λ j t at below. let none : j ≡ 0 + j = omega arith in
      subst (λ n. Pass g (initial_part (lowering_in g) k n (initialiser_for p bound.initialisers n) t)) none
      (initial_passes g c.is_member sc reach k own_is limit_none c.entry c.is [] f.initialisers w.initialisers (building c f.body form.1 e parts.1) j t at below))
      (parts_there p checked k c.below) (parts_within p checked k c.below) rest
  body_by Destructor e form c d =
      destroyed_passes g c.is_member k 0 (parts_of p k) (statements (lowering_in g) (statements_in bound.body) 0 (length bound.parameters)) d
      (parts_there p checked k c.below) (parts_within p checked k c.below) rest

  -- the types that its own specification lists have rows
  listed_rows : (types : List Ty) → Each IsListedType types → Fine defined (flat_map (type_found head (heading hown hlimit 0)) types) →
      Each (HasRow p) (map (resolve_type head (heading hown hlimit 0)) types)
  listed_rows [] v h = tt
  listed_rows (t ∷ types) v h =
      let both = fine_parts defined (type_found head (heading hown hlimit 0) t) (flat_map (type_found head (heading hown hlimit 0)) types) h in
      let typed = head_typed p meant.some defined special head names hown hlimit 0 t (listed_held t v.0) both.0 in (
        type_there p (object_type (resolve_type head (heading hown hlimit 0) t)) (typed_before g sc reach (type_kind head (heading hown hlimit 0) t) _ typed),
        listed_rows types v.1 both.1,
      )

  specification_rows : (o : Option Specification) → Where IsSpecification o → Fine defined (specification_found head (heading hown hlimit 0) o) →
      OfTypes (HasRow p) (resolve_specification head (heading hown hlimit 0) o)
  specification_rows None v h = tt
  specification_rows (Some (listed types)) v h = listed_rows types v h
  specification_rows (Some (noexcept place b)) v h = tt

  pub own_rows : OfTypes (HasRow p) (resolve_specification head (heading hown hlimit 0) f.specification)
  own_rows = specification_rows f.specification w.specification heads.1

  -- the clause of what is `noexcept`
  ending_passes : clause_leaves_test (regions_in g) (slots_in g) (ending (lowering_in g)) ≡ true
  ending_passes = both_true (help_there g) (both_true (both_true (help_there g) refl) refl)

  limited_passes : (o : Option Specification) → OfTypes (HasRow p) o → (act : ℕ → List Region) → Rest g act → OnePasses g (limited (lowering_in g) o act 1)
  limited_passes None h act r = in_order_passes (r (1 + 1))
  limited_passes (Some (listed types)) h act r = record { holds = λ few. both_true (rows_there p types h) ((r (1 + 2)).holds few) }
  limited_passes (Some (noexcept place c)) h act r = record {
    holds = λ few. both_true ((r (1 + 2)).holds (of_max (slots_of (in_order (act (1 + 2)))) (slots_of_clauses (ending (lowering_in g))) (slots_of g.body) few).0) ending_passes;
  }

  last_passes : (main : Bool) → Pass g (last_result (lowering_in g) main)
  last_passes false = none_pass
  last_passes true = one_pass (put_passes (λ few. int_in g (result_slot (lowering_in g)) (result_at g)) (number_passes (pos 0)))

  -- the whole
  pub declared_passes : OfTypes (HasRow p) s → HasClass f.kind (OfClass p env member inside k) → body_passes (regions_of p (layout_of p)) (declared_function p (layout_of p) member is_main k bound) ≡ true
  declared_passes rows c =
      (one_then (limited_passes s rows (body_of (lowering_in g) f.kind k bound) (body_by f.kind refl w.form c)) (last_passes is_main)).holds
      (omega arith)
