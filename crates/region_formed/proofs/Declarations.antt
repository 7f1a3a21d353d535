-- The bodies of the functions that a program declares pass their tests, declaration after declaration.
use Rattle.std.proofs.Common.{◌≡◌, ◌∙◌, ◌+◌, ◌<◌, ℕ, ℤ, Bool, true, false, List, [], ◌∷◌, ◌++◌, map, length, Option, Some, None, bytes_eq, find, if◌then◌else◌, append_assoc, refl, sym, ap, subst, arith}
use Rattle.std.specs.Prelude.{slice_get, unwrap_or, flat_map}
use Rattle.std.specs.Option.{option_or}
use Rattle.std.proofs.lemmas.List.{length-append}
use Rattle.std.proofs.lemmas.List.Folds.{find-append}
use Rattle.cxx_ast.specs.declared.name.Name.{Name}
use Rattle.cxx_ast.specs.declared.name.Bound.TheVariants.{Func, Method as MethodBound}
use Rattle.cxx_ast.specs.declared.types.Ty.{Ty}
use Rattle.cxx_ast.specs.declared.types.Ty.TheVariants.{Int, Void, Object, IntRef, ObjectRef}
use Rattle.cxx_ast.specs.declared.types.Param.{Param}
use Rattle.cxx_ast.specs.declared.declaration.FuncKind.{FuncKind}
use Rattle.cxx_ast.specs.declared.declaration.FuncKind.TheVariants.{Plain, Method, Constructor, Destructor}
use Rattle.cxx_ast.specs.declared.standard.Std.{Std}
use Rattle.cxx_ast.specs.Plain.{Specification, Function, Class, Declaration, class_declaration, global_declaration, function_declaration, Checked}
use Rattle.cxx_ast.specs.Environment.{Signature, Thing, global_thing, class_thing, function_thing, Entry, Environment}
use Rattle.cxx_ast.specs.Lookup.{entry_of}
use Rattle.cxx_ast.specs.TypeNames.{has_body, signature}
use Rattle.cxx_ast.specs.Locals.{outermost, declare_params}
use Rattle.cxx_ast.specs.FunctionRules.{has_text, function_found}
use Rattle.cxx_ast.specs.ClassRules.{method_found, class_rules_found}
use Rattle.cxx_ast.specs.Resolve.{function_number, resolve_body, resolve_function}
use Rattle.cxx_ast.specs.Declare.{with_name, next_class, head_environment, with_signature, class_entry, declare_behind, declare_all, body_environment, function_scope}
use Rattle.cxx_ast.specs.Broken.{function_name_found, declaration_found, declarations_found}
use Rattle.cxx_ast.specs.Grammatical.{Each, IsResult, HasForm, IsDataMember, IsMember, IsFunction, IsGrammatical}
use Rattle.cxx_ast.specs.Written.{Member, data_member, function_member, Written, written_class, written_global, written_function, data_members, functions, declared, start_value}
use Rattle.cxx_ast.specs.Checked.{IsChecked, resolve_methods, resolve_class_tree, resolve_declarations, classes_of, globals_of, functions_of}
use Rattle.cxx_ast.specs.Settled.{Allowed, allowed_by, destructor_of, given, settle_class, settle_classes}
use Rattle.cxx_ast.proofs.Settled.{OfTypes}
use Rattle.meaning_forms.specs.Class.{no_class, class_at}
use Rattle.region_forms.specs.Layout.{layout_of}
use Rattle.region_forms.specs.LowerProgram.{declared_function, regions_of}
use Rattle.region_ir.specs.Implicit.{body_passes}
use Rattle.class_layout.proofs.Declared.{named_classes}
use Rattle.region_formed.proofs.Fine.{Fine, fine_parts}
use Rattle.region_formed.proofs.Meant.{SignatureMeant, ThingMeant, Meant}
use Rattle.region_formed.proofs.Slots.{behind}
use Rattle.region_formed.proofs.Heads.{Names, NameAlone}
use Rattle.region_formed.proofs.Functions.{OfClass, HasClass, HasRow, own_rows, declared_passes}
use Rattle.region_formed.proofs.Classes.{ClassAlone, names_more, named_definitions, head_names, entry_last, behind_class, methods_found}
use Rattle.region_formed.proofs.Definitions.{named, first_kept}
use Rattle.region_formed.proofs.Classes.{with_entry}

-- the names of a declaration are apart from those of classes
abbrev pub DeclarationAlone : List (List ℕ) → Declaration → Type 0
DeclarationAlone special (class_declaration c) = ClassAlone special c × (has_text c.name.text special ≡ true)
DeclarationAlone special (global_declaration n value) = Unit {0}
DeclarationAlone special (function_declaration f) = Each (λ (x : Param). NameAlone special x.name) f.parameters

-- what the grammar makes of members
data_are : (ms : List Member) → Each IsMember ms → Each IsDataMember (data_members ms)
data_are [] h = tt
data_are (data_member x ∷ ms) h = (h.0, data_are ms h.1)
data_are (function_member f ∷ ms) h = data_are ms h.1

functions_are : (ms : List Member) → Each IsMember ms → Each IsFunction (functions ms)
functions_are [] h = tt
functions_are (data_member x ∷ ms) h = functions_are ms h.1
functions_are (function_member f ∷ ms) h = (h.0.0, functions_are ms h.1)

class_for : (kind : FuncKind) (A : Type 0) → A → HasClass kind A
class_for Plain A a = tt
class_for Method A a = tt
class_for Constructor A a = a
class_for Destructor A a = a

named_globals : (env : Environment) (text : List ℕ) (t : Thing) → (with_name env text t).globals ≡ env.globals
named_globals env text t = go (entry_of env text)
  where
    go : (o : Option Entry) → (with_entry env text t o).globals ≡ env.globals
    go (Some e) = refl
    go None = refl

entry_kept : (env : Environment) (text : List ℕ) (t : Thing) (x : List ℕ) (e : Entry) → entry_of env x ≡ Some e → entry_of (with_name env text t) x ≡ Some e
entry_kept env text t x e h = go (entry_of env text)
  where
    go : (o : Option Entry) → entry_of (with_entry env text t o) x ≡ Some e
    go (Some y) = h
    go None = find-append (λ y. bytes_eq y.text x) env.names _ ∙ ap (λ o. option_or o (find (λ y. bytes_eq y.text x) (record { text = text; thing = t } ∷ []))) h

-- what a declaration of a function leaves
record Kept (p : Checked) (special : List (List ℕ)) (env next : Environment) : Type 0 where
  classes : next.classes ≡ env.classes
  globals : next.globals ≡ env.globals
  names : Each (λ (e : Entry). ThingMeant p special e.text e.thing) next.names
  definitions : next.definitions ≡ env.definitions
  entries : (x : List ℕ) (e : Entry) → entry_of env x ≡ Some e → entry_of next x ≡ Some e

function_keeps : (p : Checked) (special : List (List ℕ)) (env : Environment) (s : Signature) → Each (λ (e : Entry). ThingMeant p special e.text e.thing) env.names →
    Kept p special env (with_signature env s)
function_keeps p special env s names = go (entry_of env s.name.text)
  where
    old : (t : Thing) → Kept p special env (elim t [ function_thing ↦ record env { signatures = env.signatures ++ (s ∷ []) } | _ ↦ env ])
    old function_thing = record { classes = refl; globals = refl; names = names; definitions = refl; entries = λ x e q. q }
    old (global_thing g) = record { classes = refl; globals = refl; names = names; definitions = refl; entries = λ x e q. q }
    old (class_thing k) = record { classes = refl; globals = refl; names = names; definitions = refl; entries = λ x e q. q }

    go : (o : Option Entry) → Kept p special env (elim o [
      | None ↦ record (with_name env s.name.text function_thing) { signatures = env.signatures ++ (s ∷ []) }
      | Some e ↦ elim e.thing [ function_thing ↦ record env { signatures = env.signatures ++ (s ∷ []) } | _ ↦ env ]
    ])
    go None = record {
      classes = named_classes env s.name.text function_thing;
      globals = named_globals env s.name.text function_thing;
      names = names_more p special env s.name.text function_thing tt names;
      definitions = named_definitions env s.name.text function_thing;
      entries = entry_kept env s.name.text function_thing;
    }
    go (Some e) = old e.thing

-- each function of a class, and each class from the k-th on, passes, with its own specification or another whose types have rows
module _ (p : Checked) where
  abbrev pub MethodPasses : ℕ → Function → Type 0
  MethodPasses k f = OfTypes (HasRow p) f.specification × ((s : Option Specification) → OfTypes (HasRow p) s →
      body_passes (regions_of p (layout_of p)) (declared_function p (layout_of p) true false k (record f { specification = s })) ≡ true)

  abbrev pub FunctionPasses : Function → Type 0
  FunctionPasses f = OfTypes (HasRow p) f.specification × ((s : Option Specification) → OfTypes (HasRow p) s → (is_main : Bool) →
      body_passes (regions_of p (layout_of p)) (declared_function p (layout_of p) false is_main 0 (record f { specification = s })) ≡ true)

  abbrev pub ClassesPass : ℕ → List Class → Type 0
  ClassesPass k [] = Unit {0}
  ClassesPass k (c ∷ cs) = Each (MethodPasses k) c.functions × ClassesPass (k + 1) cs

module _ (p : Checked) (checked : IsChecked p) (defined special : List (List ℕ)) where
  -- the functions of a class
  methods_pass : (env : Environment) → Meant p defined special env → (c : Class) (own : Option Specification) → class_at p (length env.classes) ≡ settle_class own (resolve_class_tree env c) →
      (below : length env.classes < length p.classes) (name : has_text c.name.text special ≡ true) → Each IsDataMember c.members → Each IsFunction c.functions → ClassAlone special c →
      Fine defined (class_rules_found env c) → (i : ℕ) (fs : List Function) → Each IsFunction fs →
      Each (λ (f : Function). Each (λ (x : Param). NameAlone special x.name) f.parameters) fs → Fine defined (flat_map (method_found env c) fs) →
      Each (MethodPasses p (length env.classes)) (resolve_methods env c i fs)
  methods_pass env m c own is below name w v alone fine i [] ws ns f = tt
  methods_pass env m c own is below name w v alone fine i (x ∷ fs) ws ns f =
      let parts = fine_parts defined (method_found env c x) (flat_map (method_found env c) fs) f in
      let k = length env.classes in
      let next = declare_behind env (class_declaration c) in
      let here = behind_class p defined special env m c own is below name w v alone fine in
      let names = head_names p defined special env m c own is below name w v alone fine in
      let rows =
      own_rows p checked defined special next here (head_environment env c) (Some k) (Some x.name.place) names (λ text e q. q) true false k (Some k) (λ j q. refl) (MethodBound k i) x
      ws.0 ns.0 parts.0 None in
      let passes = λ (s : Option Specification) (h : OfTypes (HasRow p) s).
      declared_passes p checked defined special next here (head_environment env c) (Some k) (Some x.name.place) names (λ text e q. q) true false k (Some k) (λ j q. refl) (MethodBound k i) x
      ws.0 ns.0 parts.0 s h
      (class_for x.kind (OfClass p next true (Some k) k) (record {
        is_member = refl;
        below = below;
        own = refl;
        entry = class_entry env c;
        is = entry_last p defined special env m c own is below name w v alone fine;
      })) in
      ((rows, passes), methods_pass env m c own is below name w v alone fine (i + 1) fs ws.1 ns.1 parts.1)

  -- what is left of a program
  pub record Left (std : Std) (last : List Signature) (env : Environment) (ds : List Declaration) : Type 0 where
    pub meant : Meant p defined special env
    pub done : List Class
    pub allowed : List Allowed
    pub classes : p.classes ≡ done ++ settle_classes std allowed (classes_of (resolve_declarations env ds))
    pub count : length done ≡ length env.classes
    pub before : List ℤ
    pub globals : p.globals ≡ before ++ globals_of (resolve_declarations env ds)
    pub globals_count : length before ≡ env.globals
    pub last_is : last ≡ (declare_all env ds).signatures

  -- the first declarations of functions by those of the whole program
  abbrev pub Known : List Signature → Type 0
  Known last = (text : List ℕ) (s : Signature) → find (named text) last ≡ Some s → SignatureMeant p defined s

  signatures_meant : (last : List Signature) → Known last → (env : Environment) (ds : List Declaration) → last ≡ (declare_all env ds).signatures →
      (text : List ℕ) (s : Signature) → find (λ s. bytes_eq s.name.text text) env.signatures ≡ Some s → SignatureMeant p defined s
  signatures_meant last known env ds e text s q = known text s (ap (find (named text)) e ∙ first_kept ds env text s q)

  class_placed : (done rest : List Class) (c : Class) (cs : List Class) (n : ℕ) → cs ≡ done ++ (c ∷ rest) → length done ≡ n →
      (unwrap_or (slice_get cs n) no_class ≡ c) × (n < length cs)
  class_placed done rest c cs n e count =
      let all = length-append done (c ∷ rest) in
      let size = ap length e in (
        ap (λ xs. unwrap_or (slice_get xs n) no_class) e ∙ ap (λ o. unwrap_or o no_class) (behind done (c ∷ rest) n 0 (omega (arith, count))),
        omega (arith, all, size, count),
      )

  behind_a_class : (std : Std) (last : List Signature) (env : Environment) (c : Class) (ds : List Declaration) → Left std last env (class_declaration c ∷ ds) →
      Meant p defined special (declare_behind env (class_declaration c)) → Left std last (declare_behind env (class_declaration c)) ds
  behind_a_class std last env c ds l m =
      let own = given std l.allowed (resolve_class_tree env c) in
      let next = l.allowed ++ allowed_by (destructor_of own (resolve_class_tree env c).functions) ∷ [] in
      let known = named_classes env c.name.text (class_thing (next_class env)) in
      let size = ap length known in
      let more = length-append (with_name env c.name.text (class_thing (next_class env))).classes (class_entry env c ∷ []) in
      let longer = length-append l.done (settle_class own (resolve_class_tree env c) ∷ []) in
      let count = l.count in
      record {
        meant = m;
        done = l.done ++ (settle_class own (resolve_class_tree env c) ∷ []);
        allowed = next;
        classes = l.classes ∙ sym (append_assoc l.done (settle_class own (resolve_class_tree env c) ∷ [])
            (settle_classes std next (classes_of (resolve_declarations (declare_behind env (class_declaration c)) ds))));
        count = omega (arith, size, more, longer, count);
        before = l.before;
        globals = l.globals;
        globals_count = l.globals_count ∙ sym (named_globals env c.name.text (class_thing (next_class env)));
        last_is = l.last_is;
      }

  global_below : (before rest : List ℤ) (v : ℤ) (gs : List ℤ) (n : ℕ) → gs ≡ before ++ (v ∷ rest) → length before ≡ n → n < length gs
  global_below before rest v gs n e count =
      let all = length-append before (v ∷ rest) in
      let size = ap length e in omega (arith, all, size, count)

  behind_a_global : (std : Std) (last : List Signature) → Known last → (env : Environment) (n : Name) (v : ℤ) (ds : List Declaration) → Left std last env (global_declaration n v ∷ ds) →
      Left std last (declare_behind env (global_declaration n v)) ds
  behind_a_global std last known env n v ds l =
      let t = global_thing env.globals in
      let below = global_below l.before (globals_of (resolve_declarations (declare_behind env (global_declaration n v)) ds)) v p.globals env.globals l.globals l.globals_count in
      let longer = length-append l.before (v ∷ []) in
      let count = l.globals_count in
      let m = l.meant in
      record {
        meant = record {
          some = m.some;
          classes = λ k e q. m.classes k e (sym (ap (λ cs. slice_get cs k) (named_classes env n.text t)) ∙ q);
          names = names_more p special env n.text t below m.names;
          signatures = signatures_meant last known (declare_behind env (global_declaration n v)) ds l.last_is;
          definitions = named_definitions env n.text t ∙ m.definitions;
        };
        done = l.done;
        allowed = l.allowed;
        classes = l.classes;
        count = l.count ∙ sym (ap length (named_classes env n.text t));
        before = l.before ++ (v ∷ []);
        globals = l.globals ∙ sym (append_assoc l.before (v ∷ []) (globals_of (resolve_declarations (declare_behind env (global_declaration n v)) ds)));
        globals_count = omega (arith, longer, count);
        last_is = l.last_is;
      }

  behind_a_function : (std : Std) (last : List Signature) → Known last → (env : Environment) (f : Function) (ds : List Declaration) → Left std last env (function_declaration f ∷ ds) →
      Left std last (declare_behind env (function_declaration f)) ds
  behind_a_function std last known env f ds l =
      let kept = function_keeps p special env (signature env outermost f) l.meant.names in
      let m = l.meant in
      record {
        meant = record {
          some = m.some;
          classes = λ k e q. m.classes k e (sym (ap (λ cs. slice_get cs k) kept.classes) ∙ q);
          names = kept.names;
          signatures = signatures_meant last known (declare_behind env (function_declaration f)) ds l.last_is;
          definitions = kept.definitions ∙ m.definitions;
        };
        done = l.done;
        allowed = l.allowed;
        classes = l.classes;
        count = l.count ∙ sym (ap length kept.classes);
        before = l.before;
        globals = l.globals;
        globals_count = l.globals_count ∙ sym kept.globals;
        last_is = l.last_is;
      }

  -- a function of its own
  result_scope : (env next : Environment) (t : Ty) → IsResult t → function_scope next None t ≡ function_scope env None t
  result_scope env next Int h = refl
  result_scope env next Void h = refl
  result_scope env next (Object n) h = absurd h
  result_scope env next (IntRef const) h = refl
  result_scope env next (ObjectRef const n) h = absurd h

  plain_class : (kind : FuncKind) (A : Type 0) → kind ≡ Plain → HasClass kind A
  plain_class Plain A e = tt
  plain_class Method A e = tt
  plain_class Constructor A e = absurd (cc e)
  plain_class Destructor A e = absurd (cc e)

  plain_form : (f : Function) → f.kind ≡ Plain → HasForm f.kind f → IsResult f.result
  plain_form f e h = (subst (λ k. HasForm k f) e h).0

  own_passes : (env : Environment) (f : Function) → Names p special env → Meant p defined special (body_environment env f) →
      ((text : List ℕ) (e : Entry) → entry_of env text ≡ Some e → entry_of (body_environment env f) text ≡ Some e) → IsFunction f → f.kind ≡ Plain →
      Each (λ (x : Param). NameAlone special x.name) f.parameters → Fine defined (function_found env outermost (body_environment env f) None f) →
      FunctionPasses p (resolve_function env outermost (body_environment env f) (function_scope env None f.result) (Func (function_number env f.name.text)) f)
  own_passes env f names m kept w kind alone fine =
      subst (λ sc. FunctionPasses p (resolve_function env outermost (body_environment env f) sc (Func (function_number env f.name.text)) f))
      (result_scope env (body_environment env f) f.result (plain_form f kind w.form)) (
        own_rows p checked defined special (body_environment env f) m env None None names kept false false 0 None (λ j q. absurd (cc q))
            (Func (function_number env f.name.text)) f w alone fine None,
        λ s h is_main.
            declared_passes p checked defined special (body_environment env f) m env None None names kept false is_main 0 None (λ j q. absurd (cc q))
            (Func (function_number env f.name.text)) f w alone fine s h (plain_class f.kind _ kind),
      )

  where_defined : (b : Bool) (f : Function) (fs : List Function) → FunctionPasses p f → Each (FunctionPasses p) fs → Each (FunctionPasses p) (if b then f ∷ fs else fs)
  where_defined true f fs h k = (h, k)
  where_defined false f fs h k = k

  -- all that is left passes
  pub record AllPass (k : ℕ) (ds : List Declaration) : Type 0 where
    pub functions : Each (FunctionPasses p) (functions_of ds)
    pub classes : ClassesPass p k (classes_of ds)

  pub declarations_pass : (std : Std) (last : List Signature) → Known last → (ws : List Written) (env : Environment) → Left std last env (map declared ws) → Each IsGrammatical ws →
      Each (DeclarationAlone special) (map declared ws) → Fine defined (declarations_found env (map declared ws)) →
      AllPass (length env.classes) (resolve_declarations env (map declared ws))
  declarations_pass std last known [] env l w a f = record { functions = tt; classes = tt }
  declarations_pass std last known (written_class x is_public base ms ∷ ws) env l w a f =
      let c : Class = record { name = x; base = base; members = data_members ms; functions = functions ms } in
      let d = class_declaration c in
      let parts = fine_parts defined (declaration_found env d) (declarations_found (declare_behind env d) (map declared ws)) f in
      let own = given std l.allowed (resolve_class_tree env c) in
      let placed =
      class_placed l.done
      (settle_classes std (l.allowed ++ allowed_by (destructor_of own (resolve_class_tree env c).functions) ∷ []) (classes_of (resolve_declarations (declare_behind env d) (map declared ws))))
      (settle_class own (resolve_class_tree env c)) p.classes (length env.classes) l.classes l.count in
      let v = data_are ms w.0 in
      let u = functions_are ms w.0 in
      let alone = a.0.0 in
      let next = behind_a_class std last env c (map declared ws) l (behind_class p defined special env l.meant c own placed.0 placed.1 a.0.1 v u alone parts.0) in
      let rest = declarations_pass std last known ws (declare_behind env d) next w.1 a.1 parts.1 in
      let known_classes = named_classes env x.text (class_thing (next_class env)) in
      let size = ap length known_classes in
      let more = length-append (with_name env x.text (class_thing (next_class env))).classes (class_entry env c ∷ []) in
      let count : length (declare_behind env d).classes ≡ length env.classes + 1 = omega (arith, size, more) in
      record {
        functions = rest.functions;
        classes = (
          methods_pass env l.meant c own placed.0 placed.1 a.0.1 v u alone parts.0 0 (functions ms) u alone.parameters (methods_found defined env c parts.0),
          subst (λ k. ClassesPass p k (classes_of (resolve_declarations (declare_behind env d) (map declared ws)))) count rest.classes,
        );
      }
  declarations_pass std last known (written_global x v ∷ ws) env l w a f =
      let d = global_declaration x (start_value v) in
      let parts = fine_parts defined (declaration_found env d) (declarations_found (declare_behind env d) (map declared ws)) f in
      let rest = declarations_pass std last known ws (declare_behind env d) (behind_a_global std last known env x (start_value v) (map declared ws) l) w.1 a.1 parts.1 in
      let size = ap length (named_classes env x.text (global_thing env.globals)) in
      record {
        functions = rest.functions;
        classes = subst (λ k. ClassesPass p k (classes_of (resolve_declarations (declare_behind env d) (map declared ws)))) size rest.classes;
      }
  declarations_pass std last known (written_function x ∷ ws) env l w a f =
      let d = function_declaration x in
      let parts = fine_parts defined (declaration_found env d) (declarations_found (declare_behind env d) (map declared ws)) f in
      let next = behind_a_function std last known env x (map declared ws) l in
      let kept = function_keeps p special env (signature env outermost x) l.meant.names in
      let rest = declarations_pass std last known ws (declare_behind env d) next w.1 a.1 parts.1 in
      let body = body_environment env x in
      let sc = function_scope env None x.result in
      let own = (fine_parts defined (function_name_found env (signature env outermost x) (entry_of env x.name.text)) (function_found env outermost body None x) parts.0).1 in
      record {
        functions = where_defined (has_body (resolve_body body (declare_params body x.parameters sc) x.body))
            (resolve_function env outermost body sc (Func (function_number env x.name.text)) x) (functions_of (resolve_declarations body (map declared ws)))
            (own_passes env x l.meant.names next.meant kept.entries w.0.0 w.0.1 a.0 own) rest.functions;
        classes = subst (λ k. ClassesPass p k (classes_of (resolve_declarations body (map declared ws)))) (ap length kept.classes) rest.classes;
      }
