-- The parameters and the body of a declared function that breaks no rule are typed.
use Rattle.std.proofs.Common.{◌≡◌, ◌∙◌, ◌+◌, ℕ, suc, Bool, true, List, [], ◌∷◌, ◌++◌, map, length, Option, Some, None, refl, sym, ap, subst, arith}
use Rattle.std.specs.Prelude.{slice_get, flat_map}
use Rattle.std.proofs.lemmas.List.{length-map}
use Rattle.cxx_ast.specs.declared.name.Name.{Name}
use Rattle.cxx_ast.specs.declared.name.Bound.{Bound}
use Rattle.cxx_ast.specs.declared.name.Bound.TheVariants.{Free, Local}
use Rattle.cxx_ast.specs.declared.types.Ty.{Ty}
use Rattle.cxx_ast.specs.declared.types.Ty.TheVariants.{Int, Void, Object, IntRef, ObjectRef}
use Rattle.cxx_ast.specs.declared.types.Param.{Param}
use Rattle.cxx_ast.specs.declared.declaration.FuncKind.{FuncKind}
use Rattle.cxx_ast.specs.declared.declaration.FuncKind.TheVariants.{Plain, Method, Constructor, Destructor}
use Rattle.cxx_ast.specs.Plain.{Specification, Checked, Function, Statements}
use Rattle.cxx_ast.specs.Environment.{Field, ClassEntry, Entry, Environment, Scope}
use Rattle.cxx_ast.specs.Lookup.{entry_of}
use Rattle.cxx_ast.specs.Finding.{Finding}
use Rattle.cxx_ast.specs.TypeNames.{type_kind, type_found, is_const, specification_found, head_types_found}
use Rattle.cxx_ast.specs.Locals.{declare_param, declare_params}
use Rattle.cxx_ast.specs.FunctionRules.{params_twice, initialised, initialisers_found, left_fields, left_base, building_found, building_of, body_found, definition_found, function_found}
use Rattle.cxx_ast.specs.StatementRules.{statements_found}
use Rattle.cxx_ast.specs.Declare.{function_scope}
use Rattle.cxx_ast.specs.Resolve.{bind, bind_some, resolve_params, resolve_body, resolve_function}
use Rattle.cxx_ast.specs.Grammatical.{Where, There, HasForm, IsResult, IsFunction, AreStatements, Each}
use Rattle.cxx_ast.specs.Checked.{IsChecked}
use Rattle.meaning_forms.specs.Call.{statements_in}
use Rattle.meaning_forms.specs.Expression.{types_of}
use Rattle.meaning_forms.specs.Frame.{Variable as FrameVariable}
use Rattle.meaning_forms.specs.World.{Reference}
use Rattle.region_forms.specs.Numbering.{declared_in_body, variables_of}
use Rattle.region_simulation.specs.Statements.{declared_to, AreTypedStatements}
use Rattle.region_statements.specs.Functions.{gives_int, AreDeclared, all_declared_to, IsTypedBody}
use Rattle.region_statements.specs.Members.{CanInitialiseParts}
use Rattle.region_statements.specs.Jumps.{HaveNoJump}
use Rattle.region_formed.proofs.Fine.{Fine, fine_parts}
use Rattle.region_formed.proofs.Meant.{Meant, Given, lowering_in, Reach}
use Rattle.region_formed.proofs.Types.{from_front}
use Rattle.region_formed.proofs.Heads.{heading, next_heading, Names, NameAlone, params_reach}
use Rattle.region_formed.proofs.Functions.{sc, bound, g}
use Rattle.region_typed.specs.Known.{Settled, InReach, Here, Stretch}
use Rattle.region_typed.proofs.Scopes.{declared_reached, stretch_front, stretch_back, stretch_start, declares, next_number}
use Rattle.region_typed.proofs.Blocks.{statements_typed}
use Rattle.region_typed.proofs.Jumps.{no_jumps}
use Rattle.region_typed.proofs.Initial.{NamesOnce, parts_initialised}

-- what parameters leave of a scope
record Behind (env : Environment) (ps : List Param) (there : Scope) : Type 0 where
  next : (declare_params env ps there).next ≡ there.next + length ps
  own : (declare_params env ps there).own ≡ there.own
  limit : (declare_params env ps there).limit ≡ there.limit
  gives : (declare_params env ps there).gives_value ≡ there.gives_value
  loop : (declare_params env ps there).in_loop ≡ there.in_loop

params_behind : (env : Environment) (ps : List Param) (there : Scope) → Behind env ps there
params_behind env [] there = record { next = omega arith; own = refl; limit = refl; gives = refl; loop = refl }
params_behind env (x ∷ ps) there = go x.name (params_behind env ps (declare_param env x there))
  where
    go : (n : Option Name) → Behind env ps (declare_param env (record x { name = n }) there) → Behind env (record x { name = n } ∷ ps) there
    go None b = let next = b.next in record { next = omega (arith, next); own = b.own; limit = b.limit; gives = b.gives; loop = b.loop }
    go (Some n) b = let next = b.next in record { next = omega (arith, next); own = b.own; limit = b.limit; gives = b.gives; loop = b.loop }

params_count : (env : Environment) (there : Scope) (ps : List Param) → length (resolve_params env there ps) ≡ length ps
params_count env there [] = refl
params_count env there (x ∷ ps) = ap suc (params_count env (declare_param env x there) ps)

-- a function gives a value where its scope does
gives_same : (env : Environment) (inside : Option ℕ) (t : Ty) → IsResult t → (function_scope env inside t).gives_value ≡ gives_int t
gives_same env inside Int h = refl
gives_same env inside Void h = refl
gives_same env inside (Object n) h = absurd h
gives_same env inside (IntRef const) h = absurd h
gives_same env inside (ObjectRef const n) h = absurd h

result_of : (kind : FuncKind) (f : Function) → HasForm kind f → IsResult f.result
result_of Plain f h = h.0
result_of Method f h = h.0
result_of Constructor f h = subst IsResult (sym h.0) tt
result_of Destructor f h = subst IsResult (sym h.0) tt

-- parameters with the numbers of the first variables
module _ (head : Environment) (hown hlimit : Option ℕ) where
  params_declared : (y : Given) (n : ℕ) (ps : List Param) → Stretch y n (types_of (resolve_params head (heading hown hlimit n) ps)) →
      AreDeclared (lowering_in y) n (resolve_params head (heading hown hlimit n) ps)
  params_declared y n [] h = tt
  params_declared y n (x ∷ ps) h =
      let same = next_heading head hown hlimit n x in (
        declares (bind_some x.name (Local n)) (next_number x.name n) h,
        subst (λ there. AreDeclared (lowering_in y) (n + 1) (resolve_params head there ps)) (sym same)
            (params_declared y (n + 1) ps (subst (λ there. Stretch y (n + 1) (types_of (resolve_params head there ps))) same (stretch_back (n + 1) (_ ∷ []) _ refl h))),
      )

  params_in : (env : Environment) (ps : List Param) (n : ℕ) (there : Scope) → there.next ≡ n → (xs : List FrameVariable) → InReach xs there → (rs : List Reference) →
      length rs ≡ length ps → InReach (all_declared_to (resolve_params head (heading hown hlimit n) ps) rs xs) (declare_params env ps there)
  params_in env [] n there e xs h rs count = h
  params_in env (x ∷ ps) n there e xs h [] count = absurd (cc count)
  params_in env (x ∷ ps) n there e xs h (r ∷ rs) count =
      let rest : length rs ≡ length ps = omega (arith, count) in
      let step = one x.name in
      subst (λ y. InReach (all_declared_to (resolve_params head y ps) rs (declared_to (bind_some x.name (Local n)) r xs)) (declare_params env ps (declare_param env x there)))
      (sym (next_heading head hown hlimit n x))
      (params_in env ps (n + 1) (declare_param env x there) step.0 (declared_to (bind_some x.name (Local n)) r xs) step.1 rs rest)
    where
      one : (y : Option Name) → ((declare_param env (record x { name = y }) there).next ≡ n + 1) ×
          InReach (declared_to (bind_some y (Local n)) r xs) (declare_param env (record x { name = y }) there)
      one None = (ap (λ m. m + 1) e, h)
      one (Some y) = (
        ap (λ m. m + 1) e,
        subst (λ m. InReach (declared_to (Some (bind y (Local m))) r xs) (declare_param env (record x { name = Some y }) there)) e
            (declared_reached there xs y r (type_kind env there x.ty) (is_const x.ty) h),
      )

module _ (p : Checked) (checked : IsChecked p) (defined special : List (List ℕ)) (env : Environment) (meant : Meant p defined special env) (settled : Settled p defined env)
    (head : Environment) (hown hlimit : Option ℕ) (names : Names p special head)
    (kept : (text : List ℕ) (e : Entry) → entry_of head text ≡ Some e → entry_of env text ≡ Some e)
    (member is_main : Bool) (k : ℕ) (inside : Option ℕ) (own : (j : ℕ) → inside ≡ Some j → member ≡ true) (b : Bound) (f : Function) (w : IsFunction f)
    (alone : Each (λ (x : Param). NameAlone special x.name) f.parameters)
    (fine : Fine defined (function_found head (heading hown hlimit 0) env inside f)) (s : Option Specification) where
  abbrev pub there : Scope
  there = sc p checked defined special env meant head hown hlimit names kept member is_main k inside own b f w alone fine s

  abbrev pub tree : Function
  tree = bound p checked defined special env meant head hown hlimit names kept member is_main k inside own b f w alone fine s

  abbrev pub given : Given
  given = g p checked defined special env meant head hown hlimit names kept member is_main k inside own b f w alone fine s

  parts : (Fine defined (head_types_found head (heading hown hlimit 0) f)) × (Fine defined (body_found env there inside f f.body))
  parts =
      let types = head_types_found head (heading hown hlimit 0) f in
      let twice = params_twice [] f.parameters in
      let inner = body_found env there inside f f.body in
      let whole = fine_parts defined (types ++ twice ++ inner)
      (definition_found env (resolve_function head (heading hown hlimit 0) env (function_scope env inside f.result) Free f) f.body) fine in
      let body = fine_parts defined (types ++ twice) inner whole.0 in
      ((fine_parts defined types twice body.0).0, body.1)

  heads : Fine defined (flat_map (λ p. type_found head (heading hown hlimit 0) p.ty) f.parameters)
  heads = (fine_parts defined (flat_map (λ p. type_found head (heading hown hlimit 0) p.ty) f.parameters) (specification_found head (heading hown hlimit 0) f.specification) parts.0).0

  -- all variables
  whole : Stretch given 0 (variables_of tree)
  whole = record {
    from = record { holds = λ i t e. let none : i ≡ 0 + i = omega arith in subst (λ n. slice_get (variables_of tree) n ≡ Some t) none e };
    enough = omega arith;
  }

  behind : Behind env f.parameters (function_scope env inside f.result)
  behind = params_behind env f.parameters (function_scope env inside f.result)

  reach : Reach given there
  reach =
      params_reach given head hown hlimit kept names f.parameters w.parameters alone heads 0 (function_scope env inside f.result)
      (record { locals = (tt, tt); own = own }) (tt, tt) (from_front (types_of tree.parameters) (declared_in_body tree.body) whole.from)

  -- what is in reach in the body, whatever the parameters stand for
  here : (rs : List Reference) → length rs ≡ length tree.parameters → Here given inside (gives_int f.result) (all_declared_to tree.parameters rs []) there
  here rs count =
      let same = params_count head (heading hown hlimit 0) f.parameters in
      record {
        reach = reach;
        in_reach = params_in head hown hlimit env f.parameters 0 (function_scope env inside f.result) refl [] (tt, tt) rs (omega (arith, count, same));
        own = behind.own;
        gives = behind.gives ∙ gives_same env inside f.result (result_of f.kind f w.form);
      }

  locals_left : Stretch given there.next (declared_in_body tree.body)
  locals_left =
      let mapped = length-map tree.parameters (λ x. x.ty) in
      let count = params_count head (heading hown hlimit 0) f.parameters in
      let next = behind.next in
      stretch_back there.next (types_of tree.parameters) (declared_in_body tree.body) (omega (arith, mapped, count, next)) whole

  body_typed : (ss : Option Statements) → Where AreStatements ss → Fine defined (body_found env there inside f ss) → Stretch given there.next (declared_in_body (resolve_body env there ss)) →
      (xs : List FrameVariable) → Here given inside (gives_int f.result) xs there →
      AreTypedStatements (lowering_in given) inside (gives_int f.result) (statements_in (resolve_body env there ss)) xs there.next
  body_typed None v h s xs at = stretch_start s
  body_typed (Some ss) v h s xs at =
      statements_typed given settled inside (gives_int f.result) ss v there xs at (fine_parts defined (building_of env there inside f f.kind) (statements_found env there ss) h).1 s

  -- the parameters are the first variables, and the body is typed behind them
  pub function_typed : IsTypedBody (lowering_in given) inside tree
  function_typed = record {
    parameters = params_declared head hown hlimit given 0 f.parameters (stretch_front (types_of tree.parameters) (declared_in_body tree.body) whole);
    statements = λ rs count.
        let number = params_count head (heading hown hlimit 0) f.parameters in
        let next = behind.next in
        let same : there.next ≡ length tree.parameters = omega (arith, number, next) in
        subst (λ n. AreTypedStatements (lowering_in given) inside (gives_int f.result) (statements_in tree.body) (all_declared_to tree.parameters rs []) n) same
        (body_typed f.body w.body parts.1 locals_left (all_declared_to tree.parameters rs []) (here rs count));
  }

  -- no jump comes out of the body
  jumps_by : (ss : Option Statements) → Fine defined (body_found env there inside f ss) → HaveNoJump (statements_in (resolve_body env there ss))
  jumps_by None h = tt
  jumps_by (Some ss) h = no_jumps defined env ss there behind.loop (fine_parts defined (building_of env there inside f f.kind) (statements_found env there ss) h).1

  pub function_jumps : HaveNoJump (statements_in tree.body)
  function_jumps = jumps_by f.body parts.1

  -- what a constructor does before its body
  record Built (c : ClassEntry) : Type 0 where
    initialisers : Fine defined (initialisers_found env there c [] f.initialisers)
    fields : Fine defined (left_fields env f.name.place (initialised f.initialisers) c.fields)
    base : Fine defined (left_base env f.name.place (initialised f.initialisers) c.base)

  built_by : (c : ClassEntry) (j : ℕ) → inside ≡ Some j → slice_get env.classes j ≡ Some c → f.kind ≡ Constructor → (ss : Option Statements) → There ss →
      Fine defined (body_found env there inside f ss) → Built c
  built_by c j o is e None t h = absurd t
  built_by c j o is e (Some ss) t h =
      let first = subst (λ x. Fine defined (building_of env there inside f x)) e (fine_parts defined (building_of env there inside f f.kind) (statements_found env there ss) h).0 in
      let here = subst (λ x. Fine defined (building_found env there x f)) o first in
      let entry = subst (λ x. Fine defined (elim x as (λ y. List Finding) [
        | None ↦ []
        | Some c ↦ initialisers_found env there c [] f.initialisers ++ left_fields env f.name.place (initialised f.initialisers) c.fields
            ++ left_base env f.name.place (initialised f.initialisers) c.base
      ])) is here in
      let own_parts = fine_parts defined (initialisers_found env there c [] f.initialisers ++ left_fields env f.name.place (initialised f.initialisers) c.fields)
      (left_base env f.name.place (initialised f.initialisers) c.base) entry in
      let more = fine_parts defined (initialisers_found env there c [] f.initialisers) (left_fields env f.name.place (initialised f.initialisers) c.fields) own_parts.0 in
      record { initialisers = more.0; fields = more.1; base = own_parts.1 }

  constructor_built : (c : ClassEntry) (j : ℕ) → inside ≡ Some j → slice_get env.classes j ≡ Some c → f.kind ≡ Constructor → Built c
  constructor_built c j o is e = built_by c j o is e f.body (subst (λ x. HasForm x f) e w.form).1 parts.1

  scope_limit : there.limit ≡ None
  scope_limit = behind.limit

  -- the parts that a constructor of class j builds
  pub parts_typed : (c : ClassEntry) (j : ℕ) → inside ≡ Some j → slice_get env.classes j ≡ Some c → NamesOnce (map (λ (x : Field). x.name) c.fields) → f.kind ≡ Constructor →
      CanInitialiseParts (lowering_in given) j tree
  parts_typed c j o is once e = λ rs count i t at.
      let built = constructor_built c j o is e in
      let xs = all_declared_to tree.parameters rs [] in
      parts_initialised given settled (gives_int f.result) xs there j (subst (λ y. Here given y (gives_int f.result) xs there) o (here rs count)) scope_limit c is once f.name.place
      f.initialisers w.initialisers built.initialisers built.fields built.base i t at
