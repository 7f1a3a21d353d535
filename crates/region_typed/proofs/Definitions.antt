-- A function that is defined has the parameters of its first declaration.
use Rattle.std.proofs.Common.{◌≡◌, ◌∙◌, ◌&&◌, ◌||◌, ◌==◌, ℕ, suc, Bool, true, false, not, List, [], ◌∷◌, ◌++◌, map, length, Option, Some, None, option_map, position, cond, bytes_eq, codes, find, if◌then◌else◌, refl, sym, ap, subst, arith}
use Rattle.std.specs.Prelude.{slice_get, unwrap_or, flat_map}
use Rattle.std.specs.Option.{option_or}
use Rattle.std.proofs.lemmas.Bool.{and_parts}
use Rattle.std.proofs.lemmas.Bool.Decides.{nat_tests}
use Rattle.std.proofs.lemmas.List.Folds.{find-append}
use Rattle.std.proofs.lemmas.Slice.Eq.{bytes_eq-Decides}
use Rattle.cxx_ast.specs.declared.name.Bound.TheVariants.{Free, Func}
use Rattle.cxx_ast.specs.declared.types.Ty.{Ty}
use Rattle.cxx_ast.specs.declared.types.Ty.TheVariants.{Int, Void, Object, IntRef, ObjectRef}
use Rattle.cxx_ast.specs.declared.types.Param.{Param}
use Rattle.cxx_ast.specs.Rule.{redeclared, specification_mismatch}
use Rattle.cxx_ast.specs.Finding.{breaks_if}
use Rattle.cxx_ast.specs.Plain.{Checked, Function, Statements, function_declaration}
use Rattle.cxx_ast.specs.Environment.{Kind, int_kind, void_kind, same_kind, Passing, Signature, Thing, global_thing, class_thing, function_thing, Entry, Environment, Scope}
use Rattle.cxx_ast.specs.Lookup.{entry_of}
use Rattle.cxx_ast.specs.TypeNames.{passing, type_kind, type_found, specification_found, head_types_found, has_body, signature}
use Rattle.cxx_ast.specs.Locals.{outermost, declare_params}
use Rattle.cxx_ast.specs.FunctionRules.{has_text, params_twice, body_found, definition_found, function_found}
use Rattle.cxx_ast.specs.ClassRules.{same_test}
use Rattle.cxx_ast.specs.Resolve.{function_number, resolve_params, resolve_body, resolve_function}
use Rattle.cxx_ast.specs.Declare.{with_name, next_class, with_signature, declare_behind, declare_all, definitions, body_environment, function_scope}
use Rattle.cxx_ast.specs.Broken.{same_passing, same_parameters, same_allowed, agree, differs_from, defined_in, function_name_found, declaration_found, is_main, has_main}
use Rattle.cxx_ast.specs.Grammatical.{Each, HasForm, IsResult}
use Rattle.cxx_ast.specs.Written.{Written, written_class, written_global, written_function, declared}
use Rattle.cxx_ast.specs.Checked.{IsChecked, resolve_declarations, functions_of}
use Rattle.cxx_ast.specs.Settled.{settle_function}
use Rattle.std.proofs.lemmas.Option.{slice_get-map}
use Rattle.cxx_ast.proofs.KindLaws.{same_test_is, same_kind_is}
use Rattle.cxx_ast.proofs.Positions.{position-cons}
use Rattle.meaning_forms.specs.Class.{object_type, function_at, no_function}
use Rattle.region_formed.proofs.Fine.{Fine, fine_parts, not_broken}
use Rattle.region_formed.proofs.Meant.{ParamsMeant, Typed, numbered}
use Rattle.region_formed.proofs.Meanings.{found_each, found_passes}
use Rattle.region_formed.proofs.Heads.{params_are}
use Rattle.region_formed.proofs.Classes.{named_signatures, with_entry}
use Rattle.region_formed.proofs.Definitions.{Good, Declared, named, function_good, first_kept, position_of}
use Rattle.region_formed.proofs.Lists.{each_map, each_last, same_text}
use Rattle.region_typed.proofs.Walk.{Walked}

function_heads : (defined : List (List ℕ)) (env : Environment) (f : Function) → Fine defined (declaration_found env (function_declaration f)) →
    (Fine defined (function_name_found env (signature env outermost f) (entry_of env f.name.text))) × (Fine defined (flat_map (λ p. type_found env outermost p.ty) f.parameters))
function_heads defined env f h =
    let name = function_name_found env (signature env outermost f) (entry_of env f.name.text) in
    let body = body_environment env f in
    let types = head_types_found env outermost f in
    let twice = params_twice [] f.parameters in
    let sc = function_scope body None f.result in
    let inner = body_found body (declare_params body f.parameters sc) None f f.body in
    let both = fine_parts defined name (function_found env outermost body None f) h in
    let whole = fine_parts defined (types ++ twice ++ inner) (definition_found body (resolve_function env outermost body sc Free f) f.body) both.1 in
    let heads = fine_parts defined (types ++ twice) inner whole.0 in (
      both.0,
      (fine_parts defined (flat_map (λ p. type_found env outermost p.ty) f.parameters) (specification_found env outermost f.specification)
          (fine_parts defined types twice heads.0).0).0,
    )

-- declarations of a name agree with the first
parameters_agree : (n : ℕ) (qs os : List Passing) (xs : List Param) → same_parameters qs os ≡ true → ParamsMeant n os xs → ParamsMeant n qs xs
parameters_agree n [] [] xs e h = h
parameters_agree n [] (o ∷ os) xs e h = absurd (cc e)
parameters_agree n (q ∷ qs) [] xs e h = absurd (cc e)
parameters_agree n (q ∷ qs) (o ∷ os) [] e h = absurd h
parameters_agree n (q ∷ qs) (o ∷ os) (x ∷ xs) e h =
    let parts = and_parts (same_passing q o) (same_parameters qs os) e in
    let first = and_parts (same_kind q.kind o.kind && same_test q.is_reference o.is_reference) (same_test q.is_const o.is_const) parts.0 in
    let kinds = and_parts (same_kind q.kind o.kind) (same_test q.is_reference o.is_reference) first.0 in (
      record {
        reference = same_test_is q.is_reference o.is_reference kinds.1 ∙ h.0.reference;
        const = same_test_is q.is_const o.is_const first.1 ∙ h.0.const;
        typed = subst (λ k. Typed n k (object_type x.ty)) (sym (same_kind_is q.kind o.kind kinds.0)) h.0.typed;
        passed = h.0.passed;
      },
      parameters_agree n qs os xs parts.1 h.1,
    )

agreed : (s t : Signature) → agree s t ≡ true → same_parameters s.parameters t.parameters ≡ true
agreed s t h =
    let first = (and_parts (same_kind s.result t.result && same_parameters s.parameters t.parameters) (same_allowed s.allowed t.allowed) h).0 in
    (and_parts (same_kind s.result t.result) (same_parameters s.parameters t.parameters) first).1

agreed_result : (s t : Signature) → agree s t ≡ true → same_kind s.result t.result ≡ true
agreed_result s t h =
    let first = (and_parts (same_kind s.result t.result && same_parameters s.parameters t.parameters) (same_allowed s.allowed t.allowed) h).0 in
    (and_parts (same_kind s.result t.result) (same_parameters s.parameters t.parameters) first).0

either_false : (a b : Bool) → (a || b) ≡ false → (a ≡ false) × (b ≡ false)
either_false true b h = absurd (cc h)
either_false false b h = (refl, h)

not_not : (a b : Bool) → (a && not b) ≡ false → a ≡ true → b ≡ true
not_not true true h e = refl
not_not true false h e = absurd (cc h)
not_not false b h e = absurd (cc e)

first_agrees : (ss : List Signature) (s first : Signature) → differs_from ss s ≡ false → find (named s.name.text) ss ≡ Some first → agree first s ≡ true
first_agrees [] s first d e = absurd (cc e)
first_agrees (t ∷ ss) s first d e =
    let parts = either_false (bytes_eq t.name.text s.name.text && not (agree t s)) (differs_from ss s) d in
    go (bytes_eq t.name.text s.name.text) refl e parts.0 (first_agrees ss s first parts.1)
  where
    go : (b : Bool) → bytes_eq t.name.text s.name.text ≡ b → (if b then Some t else find (named s.name.text) ss) ≡ Some first →
        (bytes_eq t.name.text s.name.text && not (agree t s)) ≡ false → (find (named s.name.text) ss ≡ Some first → agree first s ≡ true) → agree first s ≡ true
    go true q h n rest = let same : t ≡ first = cc h in subst (λ x. agree x s ≡ true) same (not_not (bytes_eq t.name.text s.name.text) (agree t s) n q)
    go false q h n rest = rest h

entry_more : (names more : List Entry) (text : List ℕ) → find (λ e. bytes_eq e.text text) (names ++ more) ≡ None → find (λ e. bytes_eq e.text text) names ≡ None
entry_more names more text h = go (find (λ e. bytes_eq e.text text) names) (sym (find-append (λ e. bytes_eq e.text text) names more) ∙ h)
  where
    go : (o : Option Entry) → option_or o (find (λ e. bytes_eq e.text text) more) ≡ None → o ≡ None
    go None q = refl
    go (Some e) q = absurd (cc q)

name_declared : (env : Environment) (text : List ℕ) (t : Thing) → Declared env → Declared (with_name env text t)
name_declared env text t d = go (entry_of env text)
  where
    go : (o : Option Entry) → Declared (with_entry env text t o)
    go (Some e) = d
    go None = record {
      good = d.good;
      entered = each_map (λ (s : Signature). entry_of env s.name.text ≡ None → ⊥)
          (λ (s : Signature). find (λ e. bytes_eq e.text s.name.text) (env.names ++ (record { text = text; thing = t } ∷ [])) ≡ None → ⊥)
          (λ s h q. h (entry_more env.names (record { text = text; thing = t } ∷ []) s.name.text q)) env.signatures d.entered;
    }

-- behind a declaration of a function
record Behind (env next : Environment) (s : Signature) : Type 0 where
  declared : Declared next
  first : Signature
  there : find (named s.name.text) next.signatures ≡ Some first
  agrees : (n : ℕ) (xs : List Param) → ParamsMeant n s.parameters xs → ParamsMeant n first.parameters xs
  results : first.result ≡ s.result

-- the last of a name is found where none is before it
found_last : (ss : List Signature) (s : Signature) → find (named s.name.text) ss ≡ None → find (named s.name.text) (ss ++ (s ∷ [])) ≡ Some s
found_last ss s h =
    find-append (named s.name.text) ss (s ∷ []) ∙ (ap (λ o. option_or o (find (named s.name.text) (s ∷ []))) h
    ∙ ap (λ b. if b then Some s else None) (same_text s.name.text))

found_before : (ss more : List Signature) (text : List ℕ) (first : Signature) → find (named text) ss ≡ Some first → find (named text) (ss ++ more) ≡ Some first
found_before ss more text first h = find-append (named text) ss more ∙ ap (λ o. option_or o (find (named text) more)) h

module _ (defined : List (List ℕ)) (env : Environment) (s : Signature) (d : Declared env) (good : Good s) where
  abbrev next : Environment
  next = with_name env s.name.text function_thing

  here : entry_of env s.name.text ≡ None → entry_of next s.name.text ≡ Some (record { text = s.name.text; thing = function_thing })
  here e =
      ap (λ o. entry_of (with_entry env s.name.text function_thing o) s.name.text) e
      ∙ (find-append (λ x. bytes_eq x.text s.name.text) env.names (record { text = s.name.text; thing = function_thing } ∷ [])
      ∙ (ap (λ o. option_or o (find (λ x. bytes_eq x.text s.name.text) (record { text = s.name.text; thing = function_thing } ∷ []))) e
      ∙ ap (λ b. if b then Some (record { text = s.name.text; thing = function_thing }) else None) (same_text s.name.text)))

  none : entry_of env s.name.text ≡ None → (o : Option Signature) → find (named s.name.text) env.signatures ≡ o → find (named s.name.text) env.signatures ≡ None
  none e None q = q
  none e (Some x) q =
      let same : x.name.text ≡ s.name.text = (bytes_eq-Decides x.name.text s.name.text).0 (found_passes (named s.name.text) env.signatures x q) in
      absurd (found_each (λ (x : Signature). entry_of env x.name.text ≡ None → ⊥) (named s.name.text) env.signatures x d.entered q (ap (entry_of env) same ∙ e))

  new : entry_of env s.name.text ≡ None → Behind env (record (with_name env s.name.text function_thing) { signatures = env.signatures ++ (s ∷ []) }) s
  new e = record {
    declared = record {
      good = each_last Good env.signatures s d.good good;
      entered = each_last (λ (x : Signature). entry_of next x.name.text ≡ None → ⊥) env.signatures s
          (subst (λ ss. Each (λ (x : Signature). entry_of next x.name.text ≡ None → ⊥) ss) (named_signatures env s.name.text function_thing) (name_declared env s.name.text function_thing d).entered)
          (λ q. absurd (cc (sym (here e) ∙ q)));
    };
    first = s;
    there = found_last env.signatures s (none e (find (named s.name.text) env.signatures) refl);
    agrees = λ n xs h. h;
    results = refl;
  }

  old : (x : Entry) → entry_of env s.name.text ≡ Some x → differs_from env.signatures s ≡ false → Behind env (record env { signatures = env.signatures ++ (s ∷ []) }) s
  old x e differs = by (find (named s.name.text) env.signatures) refl
    where
      all : Declared (record env { signatures = env.signatures ++ (s ∷ []) })
      all = record {
        good = each_last Good env.signatures s d.good good;
        entered = each_last (λ (x : Signature). entry_of env x.name.text ≡ None → ⊥) env.signatures s d.entered (λ q. absurd (cc (sym e ∙ q)));
      }

      by : (o : Option Signature) → find (named s.name.text) env.signatures ≡ o → Behind env (record env { signatures = env.signatures ++ (s ∷ []) }) s
      by None q = record { declared = all; first = s; there = found_last env.signatures s q; agrees = λ n xs h. h; results = refl }
      by (Some first) q = record {
        declared = all;
        first = first;
        there = found_before env.signatures (s ∷ []) s.name.text first q;
        agrees = λ n xs h. parameters_agree n first.parameters s.parameters xs (agreed first s (first_agrees env.signatures s first differs q)) h;
        results = same_kind_is first.result s.result (agreed_result first s (first_agrees env.signatures s first differs q));
      }

  behind_function : Fine defined (function_name_found env s (entry_of env s.name.text)) → Behind env (with_signature env s) s
  behind_function f = go (entry_of env s.name.text) refl f
    where
      of_thing : (x : Entry) (t : Thing) → entry_of env s.name.text ≡ Some x → Fine defined (function_name_found env s (Some (record { text = x.text; thing = t }))) →
          Behind env (elim t [ function_thing ↦ record env { signatures = env.signatures ++ (s ∷ []) } | _ ↦ env ]) s
      of_thing x (global_thing g) e h = absurd h
      of_thing x (class_thing k) e h = absurd h
      of_thing x function_thing e h =
          let differs = breaks_if (differs_from env.signatures s) specification_mismatch s.name.place in
          let again = breaks_if (s.is_defined && defined_in env.signatures s.name.text) redeclared s.name.place in
          old x e (not_broken defined (differs_from env.signatures s) specification_mismatch s.name.place (fine_parts defined differs again h).0)

      go : (o : Option Entry) → entry_of env s.name.text ≡ o → Fine defined (function_name_found env s o) → Behind env (elim o [
        | None ↦ record (with_name env s.name.text function_thing) { signatures = env.signatures ++ (s ∷ []) }
        | Some e ↦ elim e.thing [ function_thing ↦ record env { signatures = env.signatures ++ (s ∷ []) } | _ ↦ env ]
      ]) s
      go None e h = new e
      go (Some x) e h = of_thing x x.thing e h

-- the declarations that follow one of no function
no_function_declared : (env next : Environment) → next.signatures ≡ env.signatures → ((text : List ℕ) → entry_of next text ≡ None → entry_of env text ≡ None) →
    Declared env → Declared next
no_function_declared env next e more d = record {
  good = subst (Each Good) (sym e) d.good;
  entered = subst (λ ss. Each (λ (s : Signature). entry_of next s.name.text ≡ None → ⊥) ss) (sym e)
      (each_map (λ (s : Signature). entry_of env s.name.text ≡ None → ⊥) (λ (s : Signature). entry_of next s.name.text ≡ None → ⊥)
      (λ s h q. h (more s.name.text q)) env.signatures d.entered);
}

name_more : (env : Environment) (text : List ℕ) (t : Thing) (x : List ℕ) → entry_of (with_name env text t) x ≡ None → entry_of env x ≡ None
name_more env text t x h = go (entry_of env text) h
  where
    go : (o : Option Entry) → entry_of (with_entry env text t o) x ≡ None → entry_of env x ≡ None
    go (Some e) q = q
    go None q = entry_more env.names (record { text = text; thing = t } ∷ []) x q

-- the kind of a function's result, which is int or none
abbrev pub result_kind_of : Ty → Kind
result_kind_of Int = int_kind
result_kind_of _ = void_kind

result_same : (env : Environment) (t : Ty) → IsResult t → type_kind env outermost t ≡ result_kind_of t
result_same env Int h = refl
result_same env Void h = refl
result_same env (Object n) h = absurd h
result_same env (IntRef const) h = absurd h
result_same env (ObjectRef const n) h = absurd h

-- the function that is defined by a name
record DefinedWith (n : ℕ) (s : Signature) (fs : List Function) (i : ℕ) : Type 0 where
  function : Function
  at : slice_get fs i ≡ Some function
  parameters : ParamsMeant n s.parameters function.parameters
  result : s.result ≡ result_kind_of function.result

same_body : (env : Environment) (sc : Scope) (b : Option Statements) → has_body (resolve_body env sc b) ≡ has_body b
same_body env sc None = refl
same_body env sc (Some ss) = refl

one_more : (b c : Bool) (name text : List ℕ) (names : List (List ℕ)) (f : Function) (fs : List Function) (s : Signature) (m n : ℕ) → c ≡ b →
    position (λ d. bytes_eq d text) (if b then name ∷ names else names) ≡ Some n →
    (bytes_eq name text ≡ true → ParamsMeant m s.parameters f.parameters × (s.result ≡ result_kind_of f.result)) → ((i : ℕ) → position (λ d. bytes_eq d text) names ≡ Some i → DefinedWith m s fs i) →
    DefinedWith m s (if c then f ∷ fs else fs) n
one_more false false name text names f fs s m n e h own rest = rest n h
one_more true true name text names f fs s m n e h own rest = go (bytes_eq name text) refl (sym (position-cons (λ d. bytes_eq d text) name names) ∙ h)
  where
    later : (o : Option ℕ) → position (λ d. bytes_eq d text) names ≡ o → option_map suc o ≡ Some n → DefinedWith m s (f ∷ fs) n
    later None q k = absurd (cc k)
    later (Some i) q k = let same : suc i ≡ n = cc k in subst (DefinedWith m s (f ∷ fs)) same (let r = rest i q in record { function = r.function; at = r.at; parameters = r.parameters; result = r.result })

    go : (b : Bool) → bytes_eq name text ≡ b → cond b (Some 0) (option_map suc (position (λ d. bytes_eq d text) names)) ≡ Some n → DefinedWith m s (f ∷ fs) n
    go true q k = let same : 0 ≡ n = cc k in subst (DefinedWith m s (f ∷ fs)) same (record { function = f; at = refl; parameters = (own q).0; result = (own q).1 })
    go false q k = later (position (λ d. bytes_eq d text) names) refl k
one_more true false name text names f fs s m n e h own rest = absurd (cc e)
one_more false true name text names f fs s m n e h own rest = absurd (cc e)

module _ (p : Checked) (checked : IsChecked p) (defined special : List (List ℕ)) where
  defined_with : (ws : List Written) (env : Environment) → Declared env → Walked p checked defined special env ws → (s : Signature) (n : ℕ) →
      find (named s.name.text) (declare_all env (map declared ws)).signatures ≡ Some s → position (λ d. bytes_eq d s.name.text) (definitions (map declared ws)) ≡ Some n →
      DefinedWith (length p.classes) s (functions_of (resolve_declarations env (map declared ws))) n
  defined_with [] env d w s n first at = absurd (cc at)
  defined_with (written_class x is_public base ms ∷ ws) env d w s n first at =
      let c = declared (written_class x is_public base ms) in
      defined_with ws (declare_behind env c)
      (no_function_declared env (declare_behind env c) (named_signatures env x.text (class_thing (next_class env))) (λ t q. name_more env x.text (class_thing (next_class env)) t q) d)
      w.1 s n first at
  defined_with (written_global x v ∷ ws) env d w s n first at =
      let c = declared (written_global x v) in
      defined_with ws (declare_behind env c)
      (no_function_declared env (declare_behind env c) (named_signatures env x.text (global_thing env.globals)) (λ t q. name_more env x.text (global_thing env.globals) t q) d)
      w.1 s n first at
  defined_with (written_function x ∷ ws) env d w s n first at =
      let c = function_declaration x in
      let step = w.0 in
      let good = function_good defined env x step.is step.fine in
      let heads = function_heads defined env x step.fine in
      let b = behind_function defined env (signature env outermost x) d good heads.0 in
      let body = body_environment env x in
      let sc = function_scope env None x.result in
      one_more (has_body x.body) (has_body (resolve_body body (declare_params body x.parameters sc) x.body)) x.name.text s.name.text (definitions (map declared ws))
      (resolve_function env outermost body sc (Func (function_number env x.name.text)) x) (functions_of (resolve_declarations (declare_behind env c) (map declared ws))) s (length p.classes) n
      (same_body body (declare_params body x.parameters sc) x.body) at
      (λ q.
      let same : x.name.text ≡ s.name.text = (bytes_eq-Decides x.name.text s.name.text).0 q in
      let found = first_kept (map declared ws) (declare_behind env c) x.name.text b.first b.there in
      let it : b.first ≡ s = cc (sym (subst (λ t. find (named t) (declare_all (declare_behind env c) (map declared ws)).signatures ≡ Some b.first) same found) ∙ first) in
      let result = (subst (λ k. HasForm k x) step.plain step.is.form).0 in
      subst (λ y. ParamsMeant (length p.classes) y.parameters (resolve_params env outermost x.parameters) × (y.result ≡ result_kind_of x.result)) it (
        b.agrees (length p.classes) (resolve_params env outermost x.parameters)
            (params_are p step.meant.some defined special env step.meant.names None None 0 x.parameters step.is.parameters heads.1),
        b.results ∙ result_same env x.result result,
      ))
      (λ m q. defined_with ws (declare_behind env c) b.declared w.1 s m first q)

  -- the first declaration of a function of the program has its parameters
  pub parameters_known : (ws : List Written) (env : Environment) → Declared env → Walked p checked defined special env ws → defined ≡ definitions (map declared ws) →
      p.functions ≡ map (settle_function None) (functions_of (resolve_declarations env (map declared ws))) → (text : List ℕ) (s : Signature) →
      find (named text) (declare_all env (map declared ws)).signatures ≡ Some s → has_text s.name.text defined ≡ true →
      ParamsMeant (length p.classes) s.parameters (function_at p (numbered defined s.name.text)).parameters ×
      (s.result ≡ result_kind_of (function_at p (numbered defined s.name.text)).result)
  parameters_known ws env d w names functions text s e h =
      let last = (declare_all env (map declared ws)).signatures in
      let same : s.name.text ≡ text = (bytes_eq-Decides s.name.text text).0 (found_passes (named text) last s e) in
      let own : find (named s.name.text) last ≡ Some s = subst (λ t. find (named t) last ≡ Some s) (sym same) e in
      let n = numbered defined s.name.text in
      let x = defined_with ws env d w s n own (subst (λ ds. position (λ d. bytes_eq d s.name.text) ds ≡ Some n) names (position_of defined s.name.text h)) in
      let found = functions_of (resolve_declarations env (map declared ws)) in
      let at : slice_get p.functions n ≡ Some (settle_function None x.function) =
      ap (λ fs. slice_get fs n) functions ∙ slice_get-map (settle_function None) found n ∙ ap (option_map (settle_function None)) x.at in
      subst (λ g. ParamsMeant (length p.classes) s.parameters g.parameters × (s.result ≡ result_kind_of g.result)) (sym (ap (λ o. unwrap_or o no_function) at)) (x.parameters, x.result)

  -- the first declaration of main
  pub record MainFirst (last : List Signature) : Type 0 where
    pub signature_of : Signature
    pub found : find (named (codes "main")) last ≡ Some signature_of
    pub none : signature_of.parameters ≡ []
    pub int : signature_of.result ≡ int_kind

  no_passing : (n : ℕ) (qs : List Passing) → ParamsMeant n qs [] → qs ≡ []
  no_passing n [] h = refl
  no_passing n (q ∷ qs) h = absurd h

  no_params : (xs : List Param) → (length xs == 0) ≡ true → xs ≡ []
  no_params [] h = refl
  no_params (x ∷ xs) h = absurd (some (length xs) h)
    where
      some : (n : ℕ) → (suc n == 0) ≡ true → ⊥
      some n q = grind (arith, nat_tests, q)

  int_result : (t : Ty) → elim t as (λ x. Bool) [ Int ↦ true | _ ↦ false ] ≡ true → t ≡ Int
  int_result Int h = refl
  int_result Void h = absurd (cc h)
  int_result (Object n) h = absurd (cc h)
  int_result (IntRef const) h = absurd (cc h)
  int_result (ObjectRef const n) h = absurd (cc h)

  pub main_first : (ws : List Written) (env : Environment) → Declared env → Walked p checked defined special env ws → has_main (map declared ws) ≡ true →
      MainFirst (declare_all env (map declared ws)).signatures
  main_first [] env d w h = absurd (cc h)
  main_first (written_class x is_public base ms ∷ ws) env d w h =
      let c = declared (written_class x is_public base ms) in
      main_first ws (declare_behind env c)
      (no_function_declared env (declare_behind env c) (named_signatures env x.text (class_thing (next_class env))) (λ t q. name_more env x.text (class_thing (next_class env)) t q) d) w.1 h
  main_first (written_global x v ∷ ws) env d w h =
      let c = declared (written_global x v) in
      main_first ws (declare_behind env c)
      (no_function_declared env (declare_behind env c) (named_signatures env x.text (global_thing env.globals)) (λ t q. name_more env x.text (global_thing env.globals) t q) d) w.1 h
  main_first (written_function x ∷ ws) env d w h =
      let step = w.0 in
      let b = behind_function defined env (signature env outermost x) d (function_good defined env x step.is step.fine) (function_heads defined env x step.fine).0 in
      by (is_main x) refl h b (λ q. main_first ws (declare_behind env (function_declaration x)) b.declared w.1 q)
    where
      by : (y : Bool) → is_main x ≡ y → (y || has_main (map declared ws)) ≡ true → Behind env (declare_behind env (function_declaration x)) (signature env outermost x) →
          (has_main (map declared ws) ≡ true → MainFirst (declare_all (declare_behind env (function_declaration x)) (map declared ws)).signatures) →
          MainFirst (declare_all (declare_behind env (function_declaration x)) (map declared ws)).signatures
      by false e q b rest = rest q
      by true e q b rest =
          let third = and_parts (bytes_eq x.name.text (codes "main") && has_body x.body && length x.parameters == 0) _ e in
          let second = and_parts (bytes_eq x.name.text (codes "main") && has_body x.body) (length x.parameters == 0) third.0 in
          let text : x.name.text ≡ codes "main" = (bytes_eq-Decides x.name.text (codes "main")).0 (and_parts (bytes_eq x.name.text (codes "main")) (has_body x.body) second.0).0 in
          let none = no_params x.parameters second.1 in
          let result = int_result x.result third.1 in
          let meant : ParamsMeant (length p.classes) (signature env outermost x).parameters [] = subst (λ ps. ParamsMeant (length p.classes) (map (passing env outermost) ps) []) (sym none) tt in
          record {
            signature_of = b.first;
            found = subst (λ t. find (named t) (declare_all (declare_behind env (function_declaration x)) (map declared ws)).signatures ≡ Some b.first) text
                (first_kept (map declared ws) (declare_behind env (function_declaration x)) x.name.text b.first b.there);
            none = no_passing (length p.classes) b.first.parameters (b.agrees (length p.classes) [] meant);
            int = b.results ∙ ap (type_kind env outermost) result;
          }
