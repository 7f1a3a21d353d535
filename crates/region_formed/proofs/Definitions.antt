-- A function that is used and defined takes arguments as its first declaration says.
use Rattle.std.proofs.Common.{◌≡◌, ◌∙◌, ◌+◌, ◌&&◌, ◌||◌, ℕ, suc, Bool, true, false, not, List, [], ◌∷◌, ◌++◌, map, length, Option, Some, None, option_map, position, cond, bytes_eq, find, if◌then◌else◌, refl, sym, ap, subst}
use Rattle.std.specs.Prelude.{slice_get, unwrap_or, flat_map}
use Rattle.std.specs.Option.{option_or}
use Rattle.std.proofs.lemmas.Bool.{and_parts}
use Rattle.std.proofs.lemmas.List.Folds.{find-append}
use Rattle.std.proofs.lemmas.Slice.Eq.{bytes_eq-Decides}
use Rattle.cxx_ast.specs.declared.name.Name.{Name}
use Rattle.cxx_ast.specs.declared.name.Bound.TheVariants.{Free, Func}
use Rattle.cxx_ast.specs.declared.types.Ty.{Ty}
use Rattle.cxx_ast.specs.declared.types.Ty.TheVariants.{Int, Void, Object, IntRef, ObjectRef}
use Rattle.cxx_ast.specs.declared.types.Param.{Param}
use Rattle.cxx_ast.specs.Rule.{redeclared, specification_mismatch}
use Rattle.cxx_ast.specs.Finding.{breaks_if}
use Rattle.cxx_ast.specs.Plain.{Function, Statements, Declaration, class_declaration, global_declaration, function_declaration}
use Rattle.cxx_ast.specs.Spelling.{is_bad_exception}
use Rattle.cxx_ast.specs.Environment.{class_kind, same_kind, Passing, Signature, Thing, global_thing, class_thing, function_thing, Entry, Environment, Scope, Meaning, unknown, a_local, a_field, a_method, a_global, a_function, a_class, a_builtin}
use Rattle.cxx_ast.specs.Lookup.{look, entry_of}
use Rattle.cxx_ast.specs.TypeNames.{class_meant, class_wanted, class_of_name, class_found, type_kind, type_found, specification_found, head_types_found, passing, has_body, signature}
use Rattle.cxx_ast.specs.Locals.{outermost, declare_params}
use Rattle.cxx_ast.specs.FunctionRules.{has_text, params_twice, body_found, definition_found, function_found}
use Rattle.cxx_ast.specs.ClassRules.{same_test}
use Rattle.cxx_ast.specs.Resolve.{function_number, resolve_params, resolve_body, resolve_function}
use Rattle.cxx_ast.specs.Declare.{with_name, next_class, with_signature, declare_behind, declare_all, definitions, body_environment, function_scope}
use Rattle.cxx_ast.specs.Broken.{same_passing, same_parameters, same_allowed, agree, differs_from, defined_in, function_name_found, declaration_found, declarations_found}
use Rattle.cxx_ast.specs.Grammatical.{Each, IsParam, IsFunction, IsGrammatical}
use Rattle.cxx_ast.specs.Written.{Written, written_class, written_global, written_function, declared}
use Rattle.cxx_ast.specs.Checked.{resolve_declarations, functions_of}
use Rattle.cxx_ast.proofs.Positions.{position-cons}
use Rattle.meaning_forms.specs.Expression.{types_of}
use Rattle.region_formed.proofs.Fine.{Fine, fine_parts, not_broken}
use Rattle.region_formed.proofs.Meant.{HasKind, Shaped, numbered}
use Rattle.region_formed.proofs.Meanings.{found_each, found_passes}
use Rattle.region_formed.proofs.Heads.{heading, next_heading, param_passed, same_reference}
use Rattle.region_formed.proofs.Classes.{named_signatures, result_kind}
use Rattle.region_formed.proofs.Lists.{each_map, each_last, same_text}
use Rattle.region_formed.proofs.Classes.{with_entry}

-- a type that breaks no rule has a kind
class_has_kind : (defined : List (List ℕ)) (env : Environment) (sc : Scope) (n : Name) → Fine defined (class_found env sc n) → HasKind (class_of_name env sc n)
class_has_kind defined env sc n f = go (is_bad_exception n) (look env sc n) f
  where
    go : (b : Bool) (m : Meaning) → Fine defined (if b then [] else class_wanted n.place m) → HasKind (if b then class_kind 0 else class_meant m)
    go true m h = tt
    go false (a_class k) h = tt
    go false unknown h = absurd h
    go false (a_local v) h = absurd h
    go false (a_field i j kind) h = absurd h
    go false (a_method i j s) h = absurd h
    go false (a_global x) h = absurd h
    go false (a_function s) h = absurd h
    go false (a_builtin b) h = absurd h

type_has_kind : (defined : List (List ℕ)) (env : Environment) (sc : Scope) (t : Ty) → Fine defined (type_found env sc t) → HasKind (type_kind env sc t)
type_has_kind defined env sc Int f = tt
type_has_kind defined env sc Void f = tt
type_has_kind defined env sc (IntRef const) f = tt
type_has_kind defined env sc (Object n) f = class_has_kind defined env sc n f
type_has_kind defined env sc (ObjectRef const n) f = class_has_kind defined env sc n f

-- a declaration of a function whose types have kinds
pub record Good (s : Signature) : Type 0 where
  pub result : HasKind s.result
  pub parameters : Each (λ (q : Passing). HasKind q.kind) s.parameters

abbrev outer : ℕ → Scope
outer n = heading None None n

params_good : (defined : List (List ℕ)) (env : Environment) (ps : List Param) → Fine defined (flat_map (λ p. type_found env outermost p.ty) ps) →
    Each (λ (q : Passing). HasKind q.kind) (map (passing env outermost) ps)
params_good defined env [] f = tt
params_good defined env (x ∷ ps) f =
    let parts = fine_parts defined (type_found env outermost x.ty) (flat_map (λ p. type_found env outermost p.ty) ps) f in
    (type_has_kind defined env outermost x.ty parts.0, params_good defined env ps parts.1)

params_shaped : (env : Environment) (n : ℕ) (ps : List Param) → Each IsParam ps → Each (λ (q : Passing). HasKind q.kind) (map (passing env outermost) ps) →
    Shaped (map (passing env outermost) ps) (types_of (resolve_params env (outer n) ps))
params_shaped env n [] w h = tt
params_shaped env n (x ∷ ps) w h = (
  same_reference env (outer n) x.ty,
  param_passed env (outer n) x.ty w.0,
  h.0,
  subst (λ sc. Shaped (map (passing env outermost) ps) (types_of (resolve_params env sc ps))) (sym (next_heading env None None n x)) (params_shaped env (n + 1) ps w.1 h.1),
)

function_heads : (defined : List (List ℕ)) (env : Environment) (f : Function) → Fine defined (declaration_found env (function_declaration f)) →
    (Fine defined (function_name_found env (signature env outermost f) (entry_of env f.name.text))) × (Fine defined (flat_map (λ p. type_found env outermost p.ty) f.parameters))
function_heads defined env f h =
    let name = function_name_found env (signature env outermost f) (entry_of env f.name.text) in
    let body = body_environment env f in
    let types = head_types_found env outermost f in
    let twice = params_twice [] f.parameters in
    let sc = function_scope body None f.result in
    let inner = body_found body (declare_params body f.parameters sc) None f f.body in
    let both = fine_parts defined name (function_found env outermost body None f) h in
    let whole = fine_parts defined (types ++ twice ++ inner) (definition_found body (resolve_function env outermost body sc Free f) f.body) both.1 in
    let heads = fine_parts defined (types ++ twice) inner whole.0 in (
      both.0,
      (fine_parts defined (flat_map (λ p. type_found env outermost p.ty) f.parameters) (specification_found env outermost f.specification)
          (fine_parts defined types twice heads.0).0).0,
    )

pub function_good : (defined : List (List ℕ)) (env : Environment) (f : Function) → IsFunction f → Fine defined (declaration_found env (function_declaration f)) →
    Good (signature env outermost f)
function_good defined env f w h = record {
  result = result_kind env outermost f.kind f w.form;
  parameters = params_good defined env f.parameters (function_heads defined env f h).1;
}

-- declarations of a name agree with the first
same_test_is : (a b : Bool) → same_test a b ≡ true → a ≡ b
same_test_is true true h = refl
same_test_is true false h = absurd (cc h)
same_test_is false true h = absurd (cc h)
same_test_is false false h = refl

parameters_agree : (qs os : List Passing) (types : List Ty) → same_parameters qs os ≡ true → Each (λ (q : Passing). HasKind q.kind) qs → Shaped os types → Shaped qs types
parameters_agree [] [] types e g h = h
parameters_agree [] (o ∷ os) types e g h = absurd (cc e)
parameters_agree (q ∷ qs) [] types e g h = absurd (cc e)
parameters_agree (q ∷ qs) (o ∷ os) [] e g h = absurd h
parameters_agree (q ∷ qs) (o ∷ os) (t ∷ types) e g h =
    let parts = and_parts (same_passing q o) (same_parameters qs os) e in
    let first = and_parts (same_kind q.kind o.kind && same_test q.is_reference o.is_reference) (same_test q.is_const o.is_const) parts.0 in
    let reference = (and_parts (same_kind q.kind o.kind) (same_test q.is_reference o.is_reference) first.0).1 in
    (same_test_is q.is_reference o.is_reference reference ∙ h.0, h.1, g.0, parameters_agree qs os types parts.1 g.1 h.3)

agreed : (s t : Signature) → agree s t ≡ true → same_parameters s.parameters t.parameters ≡ true
agreed s t h =
    let first = (and_parts (same_kind s.result t.result && same_parameters s.parameters t.parameters) (same_allowed s.allowed t.allowed) h).0 in
    (and_parts (same_kind s.result t.result) (same_parameters s.parameters t.parameters) first).1

-- the first declaration of a name
abbrev pub named : List ℕ → Signature → Bool
named text s = bytes_eq s.name.text text

either_false : (a b : Bool) → (a || b) ≡ false → (a ≡ false) × (b ≡ false)
either_false true b h = absurd (cc h)
either_false false b h = (refl, h)

not_not : (a b : Bool) → (a && not b) ≡ false → a ≡ true → b ≡ true
not_not true true h e = refl
not_not true false h e = absurd (cc h)
not_not false b h e = absurd (cc e)

first_agrees : (ss : List Signature) (s first : Signature) → differs_from ss s ≡ false → find (named s.name.text) ss ≡ Some first → agree first s ≡ true
first_agrees [] s first d e = absurd (cc e)
first_agrees (t ∷ ss) s first d e =
    let parts = either_false (bytes_eq t.name.text s.name.text && not (agree t s)) (differs_from ss s) d in
    go (bytes_eq t.name.text s.name.text) refl e parts.0 (first_agrees ss s first parts.1)
  where
    go : (b : Bool) → bytes_eq t.name.text s.name.text ≡ b → (if b then Some t else find (named s.name.text) ss) ≡ Some first →
        (bytes_eq t.name.text s.name.text && not (agree t s)) ≡ false → (find (named s.name.text) ss ≡ Some first → agree first s ≡ true) → agree first s ≡ true
    go true q h n rest = let same : t ≡ first = cc h in subst (λ x. agree x s ≡ true) same (not_not (bytes_eq t.name.text s.name.text) (agree t s) n q)
    go false q h n rest = rest h

-- what is known of the declarations of functions: each name of one is an entry
pub record Declared (env : Environment) : Type 0 where
  pub good : Each Good env.signatures
  pub entered : Each (λ (s : Signature). entry_of env s.name.text ≡ None → ⊥) env.signatures

entry_more : (names more : List Entry) (text : List ℕ) → find (λ e. bytes_eq e.text text) (names ++ more) ≡ None → find (λ e. bytes_eq e.text text) names ≡ None
entry_more names more text h = go (find (λ e. bytes_eq e.text text) names) (sym (find-append (λ e. bytes_eq e.text text) names more) ∙ h)
  where
    go : (o : Option Entry) → option_or o (find (λ e. bytes_eq e.text text) more) ≡ None → o ≡ None
    go None q = refl
    go (Some e) q = absurd (cc q)

name_declared : (env : Environment) (text : List ℕ) (t : Thing) → Declared env → Declared (with_name env text t)
name_declared env text t d = go (entry_of env text)
  where
    go : (o : Option Entry) → Declared (with_entry env text t o)
    go (Some e) = d
    go None = record {
      good = d.good;
      entered = each_map (λ (s : Signature). entry_of env s.name.text ≡ None → ⊥)
          (λ (s : Signature). find (λ e. bytes_eq e.text s.name.text) (env.names ++ (record { text = text; thing = t } ∷ [])) ≡ None → ⊥)
          (λ s h q. h (entry_more env.names (record { text = text; thing = t } ∷ []) s.name.text q)) env.signatures d.entered;
    }

-- behind a declaration of a function
record Behind (env next : Environment) (s : Signature) : Type 0 where
  declared : Declared next
  first : Signature
  there : find (named s.name.text) next.signatures ≡ Some first
  shape : (types : List Ty) → Shaped s.parameters types → Shaped first.parameters types

-- the last of a name is found where none is before it
found_last : (ss : List Signature) (s : Signature) → find (named s.name.text) ss ≡ None → find (named s.name.text) (ss ++ (s ∷ [])) ≡ Some s
found_last ss s h =
    find-append (named s.name.text) ss (s ∷ []) ∙ (ap (λ o. option_or o (find (named s.name.text) (s ∷ []))) h
    ∙ ap (λ b. if b then Some s else None) (same_text s.name.text))

found_before : (ss more : List Signature) (text : List ℕ) (first : Signature) → find (named text) ss ≡ Some first → find (named text) (ss ++ more) ≡ Some first
found_before ss more text first h = find-append (named text) ss more ∙ ap (λ o. option_or o (find (named text) more)) h

module _ (defined : List (List ℕ)) (env : Environment) (s : Signature) (d : Declared env) (good : Good s) where
  abbrev next : Environment
  next = with_name env s.name.text function_thing

  here : entry_of env s.name.text ≡ None → entry_of next s.name.text ≡ Some (record { text = s.name.text; thing = function_thing })
  here e =
      ap (λ o. entry_of (with_entry env s.name.text function_thing o) s.name.text) e
      ∙ (find-append (λ x. bytes_eq x.text s.name.text) env.names (record { text = s.name.text; thing = function_thing } ∷ [])
      ∙ (ap (λ o. option_or o (find (λ x. bytes_eq x.text s.name.text) (record { text = s.name.text; thing = function_thing } ∷ []))) e
      ∙ ap (λ b. if b then Some (record { text = s.name.text; thing = function_thing }) else None) (same_text s.name.text)))

  none : entry_of env s.name.text ≡ None → (o : Option Signature) → find (named s.name.text) env.signatures ≡ o → find (named s.name.text) env.signatures ≡ None
  none e None q = q
  none e (Some x) q =
      let same : x.name.text ≡ s.name.text = (bytes_eq-Decides x.name.text s.name.text).0 (found_passes (named s.name.text) env.signatures x q) in
      absurd (found_each (λ (x : Signature). entry_of env x.name.text ≡ None → ⊥) (named s.name.text) env.signatures x d.entered q (ap (entry_of env) same ∙ e))

  new : entry_of env s.name.text ≡ None → Behind env (record (with_name env s.name.text function_thing) { signatures = env.signatures ++ (s ∷ []) }) s
  new e = record {
    declared = record {
      good = each_last Good env.signatures s d.good good;
      entered = each_last (λ (x : Signature). entry_of next x.name.text ≡ None → ⊥) env.signatures s
          (subst (λ ss. Each (λ (x : Signature). entry_of next x.name.text ≡ None → ⊥) ss) (named_signatures env s.name.text function_thing) (name_declared env s.name.text function_thing d).entered)
          (λ q. absurd (cc (sym (here e) ∙ q)));
    };
    first = s;
    there = found_last env.signatures s (none e (find (named s.name.text) env.signatures) refl);
    shape = λ types h. h;
  }

  old : (x : Entry) → entry_of env s.name.text ≡ Some x → differs_from env.signatures s ≡ false → Behind env (record env { signatures = env.signatures ++ (s ∷ []) }) s
  old x e differs = by (find (named s.name.text) env.signatures) refl
    where
      all : Declared (record env { signatures = env.signatures ++ (s ∷ []) })
      all = record {
        good = each_last Good env.signatures s d.good good;
        entered = each_last (λ (x : Signature). entry_of env x.name.text ≡ None → ⊥) env.signatures s d.entered (λ q. absurd (cc (sym e ∙ q)));
      }

      by : (o : Option Signature) → find (named s.name.text) env.signatures ≡ o → Behind env (record env { signatures = env.signatures ++ (s ∷ []) }) s
      by None q = record { declared = all; first = s; there = found_last env.signatures s q; shape = λ types h. h }
      by (Some first) q = record {
        declared = all;
        first = first;
        there = found_before env.signatures (s ∷ []) s.name.text first q;
        shape = λ types h. parameters_agree first.parameters s.parameters types (agreed first s (first_agrees env.signatures s first differs q))
            (found_each Good (named s.name.text) env.signatures first d.good q).parameters h;
      }

  behind_function : Fine defined (function_name_found env s (entry_of env s.name.text)) → Behind env (with_signature env s) s
  behind_function f = go (entry_of env s.name.text) refl f
    where
      of_thing : (x : Entry) (t : Thing) → entry_of env s.name.text ≡ Some x → Fine defined (function_name_found env s (Some (record { text = x.text; thing = t }))) →
          Behind env (elim t [ function_thing ↦ record env { signatures = env.signatures ++ (s ∷ []) } | _ ↦ env ]) s
      of_thing x (global_thing g) e h = absurd h
      of_thing x (class_thing k) e h = absurd h
      of_thing x function_thing e h =
          let differs = breaks_if (differs_from env.signatures s) specification_mismatch s.name.place in
          let again = breaks_if (s.is_defined && defined_in env.signatures s.name.text) redeclared s.name.place in
          old x e (not_broken defined (differs_from env.signatures s) specification_mismatch s.name.place (fine_parts defined differs again h).0)

      go : (o : Option Entry) → entry_of env s.name.text ≡ o → Fine defined (function_name_found env s o) → Behind env (elim o [
        | None ↦ record (with_name env s.name.text function_thing) { signatures = env.signatures ++ (s ∷ []) }
        | Some e ↦ elim e.thing [ function_thing ↦ record env { signatures = env.signatures ++ (s ∷ []) } | _ ↦ env ]
      ]) s
      go None e h = new e
      go (Some x) e h = of_thing x x.thing e h

-- what is found first stays first
more_signatures : (env : Environment) (s : Signature) (text : List ℕ) (first : Signature) → find (named text) env.signatures ≡ Some first →
    find (named text) (with_signature env s).signatures ≡ Some first
more_signatures env s text first h = go (entry_of env s.name.text)
  where
    old : (t : Thing) → find (named text) (elim t as (λ x. Environment) [ function_thing ↦ record env { signatures = env.signatures ++ (s ∷ []) } | _ ↦ env ]).signatures ≡ Some first
    old function_thing = found_before env.signatures (s ∷ []) text first h
    old (global_thing g) = h
    old (class_thing k) = h

    go : (o : Option Entry) → find (named text) (elim o as (λ x. Environment) [
      | None ↦ record (with_name env s.name.text function_thing) { signatures = env.signatures ++ (s ∷ []) }
      | Some e ↦ elim e.thing [ function_thing ↦ record env { signatures = env.signatures ++ (s ∷ []) } | _ ↦ env ]
    ]).signatures ≡ Some first
    go None = found_before env.signatures (s ∷ []) text first h
    go (Some e) = old e.thing

pub first_kept : (ds : List Declaration) (env : Environment) (text : List ℕ) (first : Signature) → find (named text) env.signatures ≡ Some first →
    find (named text) (declare_all env ds).signatures ≡ Some first
first_kept [] env text first h = h
first_kept (class_declaration c ∷ ds) env text first h =
    first_kept ds (declare_behind env (class_declaration c)) text first
    (ap (find (named text)) (named_signatures env c.name.text (class_thing (next_class env))) ∙ h)
first_kept (global_declaration n value ∷ ds) env text first h =
    first_kept ds (declare_behind env (global_declaration n value)) text first (ap (find (named text)) (named_signatures env n.text (global_thing env.globals)) ∙ h)
first_kept (function_declaration f ∷ ds) env text first h =
    first_kept ds (declare_behind env (function_declaration f)) text first (more_signatures env (signature env outermost f) text first h)

-- the declarations that follow one of no function
no_function_declared : (env next : Environment) → next.signatures ≡ env.signatures → ((text : List ℕ) → entry_of next text ≡ None → entry_of env text ≡ None) →
    Declared env → Declared next
no_function_declared env next e more d = record {
  good = subst (Each Good) (sym e) d.good;
  entered = subst (λ ss. Each (λ (s : Signature). entry_of next s.name.text ≡ None → ⊥) ss) (sym e)
      (each_map (λ (s : Signature). entry_of env s.name.text ≡ None → ⊥) (λ (s : Signature). entry_of next s.name.text ≡ None → ⊥)
      (λ s h q. h (more s.name.text q)) env.signatures d.entered);
}

name_more : (env : Environment) (text : List ℕ) (t : Thing) (x : List ℕ) → entry_of (with_name env text t) x ≡ None → entry_of env x ≡ None
name_more env text t x h = go (entry_of env text) h
  where
    go : (o : Option Entry) → entry_of (with_entry env text t o) x ≡ None → entry_of env x ≡ None
    go (Some e) q = q
    go None q = entry_more env.names (record { text = text; thing = t } ∷ []) x q

-- the function that is defined by a name
pub record DefinedAt (s : Signature) (fs : List Function) (n : ℕ) : Type 0 where
  pub function : Function
  pub at : slice_get fs n ≡ Some function
  pub shape : Shaped s.parameters (types_of function.parameters)

same_body : (env : Environment) (sc : Scope) (b : Option Statements) → has_body (resolve_body env sc b) ≡ has_body b
same_body env sc None = refl
same_body env sc (Some ss) = refl

one_more : (b c : Bool) (name text : List ℕ) (names : List (List ℕ)) (f : Function) (fs : List Function) (s : Signature) (n : ℕ) → c ≡ b →
    position (λ d. bytes_eq d text) (if b then name ∷ names else names) ≡ Some n →
    (bytes_eq name text ≡ true → Shaped s.parameters (types_of f.parameters)) → ((m : ℕ) → position (λ d. bytes_eq d text) names ≡ Some m → DefinedAt s fs m) →
    DefinedAt s (if c then f ∷ fs else fs) n
one_more false false name text names f fs s n e h own rest = rest n h
one_more true true name text names f fs s n e h own rest = go (bytes_eq name text) refl (sym (position-cons (λ d. bytes_eq d text) name names) ∙ h)
  where
    later : (o : Option ℕ) → position (λ d. bytes_eq d text) names ≡ o → option_map suc o ≡ Some n → DefinedAt s (f ∷ fs) n
    later None q k = absurd (cc k)
    later (Some m) q k = let same : suc m ≡ n = cc k in subst (DefinedAt s (f ∷ fs)) same (let r = rest m q in record { function = r.function; at = r.at; shape = r.shape })

    go : (b : Bool) → bytes_eq name text ≡ b → cond b (Some 0) (option_map suc (position (λ d. bytes_eq d text) names)) ≡ Some n → DefinedAt s (f ∷ fs) n
    go true q k = let same : 0 ≡ n = cc k in subst (DefinedAt s (f ∷ fs)) same (record { function = f; at = refl; shape = own q })
    go false q k = later (position (λ d. bytes_eq d text) names) refl k
one_more true false name text names f fs s n e h own rest = absurd (cc e)
one_more false true name text names f fs s n e h own rest = absurd (cc e)

pub defined_at : (defined : List (List ℕ)) (ws : List Written) (env : Environment) → Declared env → Each IsGrammatical ws →
    Fine defined (declarations_found env (map declared ws)) → (s : Signature) (n : ℕ) →
    find (named s.name.text) (declare_all env (map declared ws)).signatures ≡ Some s → position (λ d. bytes_eq d s.name.text) (definitions (map declared ws)) ≡ Some n →
    DefinedAt s (functions_of (resolve_declarations env (map declared ws))) n
defined_at defined [] env d w f s n first at = absurd (cc at)
defined_at defined (written_class x is_public base ms ∷ ws) env d w f s n first at =
    let c = declared (written_class x is_public base ms) in
    defined_at defined ws (declare_behind env c)
    (no_function_declared env (declare_behind env c) (named_signatures env x.text (class_thing (next_class env))) (λ t q. name_more env x.text (class_thing (next_class env)) t q) d)
    w.1 (fine_parts defined (declaration_found env c) (declarations_found (declare_behind env c) (map declared ws)) f).1 s n first at
defined_at defined (written_global x v ∷ ws) env d w f s n first at =
    let c = declared (written_global x v) in
    defined_at defined ws (declare_behind env c)
    (no_function_declared env (declare_behind env c) (named_signatures env x.text (global_thing env.globals)) (λ t q. name_more env x.text (global_thing env.globals) t q) d)
    w.1 (fine_parts defined (declaration_found env c) (declarations_found (declare_behind env c) (map declared ws)) f).1 s n first at
defined_at defined (written_function x ∷ ws) env d w f s n first at =
    let c = function_declaration x in
    let parts = fine_parts defined (declaration_found env c) (declarations_found (declare_behind env c) (map declared ws)) f in
    let good = function_good defined env x w.0.0 parts.0 in
    let b = behind_function defined env (signature env outermost x) d good (function_heads defined env x parts.0).0 in
    let body = body_environment env x in
    let sc = function_scope env None x.result in
    one_more (has_body x.body) (has_body (resolve_body body (declare_params body x.parameters sc) x.body)) x.name.text s.name.text (definitions (map declared ws))
    (resolve_function env outermost body sc (Func (function_number env x.name.text)) x) (functions_of (resolve_declarations (declare_behind env c) (map declared ws))) s n
    (same_body body (declare_params body x.parameters sc) x.body) at
    (λ q.
    let same : x.name.text ≡ s.name.text = (bytes_eq-Decides x.name.text s.name.text).0 q in
    let found = first_kept (map declared ws) (declare_behind env c) x.name.text b.first b.there in
    let it : b.first ≡ s = cc (sym (subst (λ t. find (named t) (declare_all (declare_behind env c) (map declared ws)).signatures ≡ Some b.first) same found) ∙ first) in
    subst (λ y. Shaped y.parameters (types_of (resolve_params env outermost x.parameters))) it
    (b.shape (types_of (resolve_params env outermost x.parameters)) (params_shaped env 0 x.parameters w.0.0.parameters good.parameters)))
    (λ m q. defined_at defined ws (declare_behind env c) b.declared w.1 parts.1 s m first q)

-- a function that is defined has a number
pub position_of : (names : List (List ℕ)) (text : List ℕ) → has_text text names ≡ true → position (λ d. bytes_eq d text) names ≡ Some (numbered names text)
position_of [] text h = absurd (cc h)
position_of (t ∷ names) text h = go (bytes_eq t text) refl h (position_of names text)
  where
    go : (b : Bool) → bytes_eq t text ≡ b → (b || has_text text names) ≡ true →
        (has_text text names ≡ true → position (λ d. bytes_eq d text) names ≡ Some (numbered names text)) →
        position (λ d. bytes_eq d text) (t ∷ names) ≡ Some (unwrap_or (position (λ d. bytes_eq d text) (t ∷ names)) (length (t ∷ names)))
    go true q k rest =
        let here = position-cons (λ d. bytes_eq d text) t names ∙ ap (λ b. cond b (Some 0) (option_map suc (position (λ d. bytes_eq d text) names))) q in
        here ∙ ap Some (sym (ap (λ o. unwrap_or o (length (t ∷ names))) here))
    go false q k rest =
        let here = position-cons (λ d. bytes_eq d text) t names ∙ (ap (λ b. cond b (Some 0) (option_map suc (position (λ d. bytes_eq d text) names))) q
        ∙ ap (option_map suc) (rest k)) in
        here ∙ ap Some (sym (ap (λ o. unwrap_or o (length (t ∷ names))) here))

-- all declarations of functions
pub all_good : (defined : List (List ℕ)) (ws : List Written) (env : Environment) → Declared env → Each IsGrammatical ws →
    Fine defined (declarations_found env (map declared ws)) → Each Good (declare_all env (map declared ws)).signatures
all_good defined [] env d w f = d.good
all_good defined (written_class x is_public base ms ∷ ws) env d w f =
    let c = declared (written_class x is_public base ms) in
    all_good defined ws (declare_behind env c)
    (no_function_declared env (declare_behind env c) (named_signatures env x.text (class_thing (next_class env))) (λ t q. name_more env x.text (class_thing (next_class env)) t q) d)
    w.1 (fine_parts defined (declaration_found env c) (declarations_found (declare_behind env c) (map declared ws)) f).1
all_good defined (written_global x v ∷ ws) env d w f =
    let c = declared (written_global x v) in
    all_good defined ws (declare_behind env c)
    (no_function_declared env (declare_behind env c) (named_signatures env x.text (global_thing env.globals)) (λ t q. name_more env x.text (global_thing env.globals) t q) d)
    w.1 (fine_parts defined (declaration_found env c) (declarations_found (declare_behind env c) (map declared ws)) f).1
all_good defined (written_function x ∷ ws) env d w f =
    let c = function_declaration x in
    let parts = fine_parts defined (declaration_found env c) (declarations_found (declare_behind env c) (map declared ws)) f in
    let b = behind_function defined env (signature env outermost x) d (function_good defined env x w.0.0 parts.0) (function_heads defined env x parts.0).0 in
    all_good defined ws (declare_behind env c) b.declared w.1 parts.1
