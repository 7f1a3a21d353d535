-- A checked program, declaration after declaration: what is known at each.
use Rattle.std.proofs.Common.{◌≡◌, ◌∙◌, ◌<◌, ℕ, ℤ, true, List, [], ◌∷◌, ◌++◌, map, length, Option, Some, None, bytes_eq, find, append_assoc, refl, sym, ap, arith}
use Rattle.std.specs.Prelude.{slice_get, unwrap_or}
use Rattle.cxx_ast.specs.declared.types.Param.{Param}
use Rattle.cxx_ast.specs.declared.declaration.FuncKind.TheVariants.{Plain}
use Rattle.cxx_ast.specs.declared.standard.Std.{Std}
use Rattle.cxx_ast.specs.Plain.{Specification, Function, Class, Declaration, class_declaration, global_declaration, function_declaration, Checked}
use Rattle.cxx_ast.specs.TypeNames.{signature}
use Rattle.cxx_ast.specs.Locals.{outermost}
use Rattle.cxx_ast.specs.FunctionRules.{has_text}
use Rattle.cxx_ast.specs.ClassRules.{class_rules_found}
use Rattle.cxx_ast.specs.Declare.{with_name, next_class, with_signature, class_entry, declare_behind, declare_all}
use Rattle.cxx_ast.specs.Broken.{declaration_found, declarations_found}
use Rattle.cxx_ast.specs.Grammatical.{Each, IsDataMember, IsMember, IsFunction, IsGrammatical}
use Rattle.cxx_ast.specs.Checked.{IsChecked, resolve_class_tree, resolve_declarations, classes_of, globals_of}
use Rattle.cxx_ast.specs.Settled.{allowed_by, destructor_of, given, settle_class, settle_classes}
use Rattle.class_layout.proofs.Declared.{named_classes}
use Rattle.region_formed.proofs.Heads.{NameAlone}
use Rattle.region_formed.proofs.Slots.{behind}
use Rattle.region_formed.proofs.Classes.{ClassAlone, names_more, named_definitions, behind_class}
use Rattle.region_formed.proofs.Declarations.{DeclarationAlone, Left, Known}
use Rattle.std.specs.Option.{option_or}
use Rattle.std.proofs.lemmas.List.{length-append}
use Rattle.std.proofs.lemmas.List.Folds.{find-append}
use Rattle.cxx_ast.specs.declared.name.Name.{Name}
use Rattle.cxx_ast.specs.declared.types.Param.{Param}
use Rattle.cxx_ast.specs.Environment.{Signature, Thing, global_thing, class_thing, function_thing, Entry, Environment}
use Rattle.cxx_ast.specs.Lookup.{entry_of}
use Rattle.cxx_ast.specs.Written.{Member, data_member, function_member, Written, written_class, written_global, written_function, data_members, functions, declared, start_value}
use Rattle.meaning_forms.specs.Class.{no_class, class_at}
use Rattle.region_formed.proofs.Fine.{Fine, fine_parts}
use Rattle.region_formed.proofs.Meant.{SignatureMeant, ThingMeant, Meant}
use Rattle.region_formed.proofs.Definitions.{named, first_kept}
use Rattle.region_formed.proofs.Classes.{with_entry}

-- what the grammar makes of members
data_are : (ms : List Member) → Each IsMember ms → Each IsDataMember (data_members ms)
data_are [] h = tt
data_are (data_member x ∷ ms) h = (h.0, data_are ms h.1)
data_are (function_member f ∷ ms) h = data_are ms h.1

functions_are : (ms : List Member) → Each IsMember ms → Each IsFunction (functions ms)
functions_are [] h = tt
functions_are (data_member x ∷ ms) h = functions_are ms h.1
functions_are (function_member f ∷ ms) h = (h.0.0, functions_are ms h.1)

named_globals : (env : Environment) (text : List ℕ) (t : Thing) → (with_name env text t).globals ≡ env.globals
named_globals env text t = go (entry_of env text)
  where
    go : (o : Option Entry) → (with_entry env text t o).globals ≡ env.globals
    go (Some e) = refl
    go None = refl

entry_kept : (env : Environment) (text : List ℕ) (t : Thing) (x : List ℕ) (e : Entry) → entry_of env x ≡ Some e → entry_of (with_name env text t) x ≡ Some e
entry_kept env text t x e h = go (entry_of env text)
  where
    go : (o : Option Entry) → entry_of (with_entry env text t o) x ≡ Some e
    go (Some y) = h
    go None = find-append (λ y. bytes_eq y.text x) env.names _ ∙ ap (λ o. option_or o (find (λ y. bytes_eq y.text x) (record { text = text; thing = t } ∷ []))) h

-- what a declaration of a function leaves
record Kept (p : Checked) (special : List (List ℕ)) (env next : Environment) : Type 0 where
  classes : next.classes ≡ env.classes
  globals : next.globals ≡ env.globals
  names : Each (λ (e : Entry). ThingMeant p special e.text e.thing) next.names
  definitions : next.definitions ≡ env.definitions
  entries : (x : List ℕ) (e : Entry) → entry_of env x ≡ Some e → entry_of next x ≡ Some e

function_keeps : (p : Checked) (special : List (List ℕ)) (env : Environment) (s : Signature) → Each (λ (e : Entry). ThingMeant p special e.text e.thing) env.names →
    Kept p special env (with_signature env s)
function_keeps p special env s names = go (entry_of env s.name.text)
  where
    old : (t : Thing) → Kept p special env (elim t [ function_thing ↦ record env { signatures = env.signatures ++ (s ∷ []) } | _ ↦ env ])
    old function_thing = record { classes = refl; globals = refl; names = names; definitions = refl; entries = λ x e q. q }
    old (global_thing g) = record { classes = refl; globals = refl; names = names; definitions = refl; entries = λ x e q. q }
    old (class_thing k) = record { classes = refl; globals = refl; names = names; definitions = refl; entries = λ x e q. q }

    go : (o : Option Entry) → Kept p special env (elim o [
      | None ↦ record (with_name env s.name.text function_thing) { signatures = env.signatures ++ (s ∷ []) }
      | Some e ↦ elim e.thing [ function_thing ↦ record env { signatures = env.signatures ++ (s ∷ []) } | _ ↦ env ]
    ])
    go None = record {
      classes = named_classes env s.name.text function_thing;
      globals = named_globals env s.name.text function_thing;
      names = names_more p special env s.name.text function_thing tt names;
      definitions = named_definitions env s.name.text function_thing;
      entries = entry_kept env s.name.text function_thing;
    }
    go (Some e) = old e.thing

module _ (p : Checked) (checked : IsChecked p) (defined special : List (List ℕ)) where
  signatures_meant : (last : List Signature) → Known p checked defined special last → (env : Environment) (ds : List Declaration) → last ≡ (declare_all env ds).signatures →
      (text : List ℕ) (s : Signature) → find (λ s. bytes_eq s.name.text text) env.signatures ≡ Some s → SignatureMeant p defined s
  signatures_meant last known env ds e text s q = known text s (ap (find (named text)) e ∙ first_kept ds env text s q)

  class_placed : (done rest : List Class) (c : Class) (cs : List Class) (n : ℕ) → cs ≡ done ++ (c ∷ rest) → length done ≡ n →
      (unwrap_or (slice_get cs n) no_class ≡ c) × (n < length cs)
  class_placed done rest c cs n e count =
      let all = length-append done (c ∷ rest) in
      let size = ap length e in (
        ap (λ xs. unwrap_or (slice_get xs n) no_class) e ∙ ap (λ o. unwrap_or o no_class) (behind done (c ∷ rest) n 0 (omega (arith, count))),
        omega (arith, all, size, count),
      )

  behind_a_class : (std : Std) (last : List Signature) (env : Environment) (c : Class) (ds : List Declaration) → Left p checked defined special std last env (class_declaration c ∷ ds) →
      Meant p defined special (declare_behind env (class_declaration c)) → Left p checked defined special std last (declare_behind env (class_declaration c)) ds
  behind_a_class std last env c ds l m =
      let own = given std l.allowed (resolve_class_tree env c) in
      let next = l.allowed ++ allowed_by (destructor_of own (resolve_class_tree env c).functions) ∷ [] in
      let known = named_classes env c.name.text (class_thing (next_class env)) in
      let size = ap length known in
      let more = length-append (with_name env c.name.text (class_thing (next_class env))).classes (class_entry env c ∷ []) in
      let longer = length-append l.done (settle_class own (resolve_class_tree env c) ∷ []) in
      let count = l.count in
      record {
        meant = m;
        done = l.done ++ (settle_class own (resolve_class_tree env c) ∷ []);
        allowed = next;
        classes = l.classes ∙ sym (append_assoc l.done (settle_class own (resolve_class_tree env c) ∷ [])
            (settle_classes std next (classes_of (resolve_declarations (declare_behind env (class_declaration c)) ds))));
        count = omega (arith, size, more, longer, count);
        before = l.before;
        globals = l.globals;
        globals_count = l.globals_count ∙ sym (named_globals env c.name.text (class_thing (next_class env)));
        last_is = l.last_is;
      }

  global_below : (before rest : List ℤ) (v : ℤ) (gs : List ℤ) (n : ℕ) → gs ≡ before ++ (v ∷ rest) → length before ≡ n → n < length gs
  global_below before rest v gs n e count =
      let all = length-append before (v ∷ rest) in
      let size = ap length e in omega (arith, all, size, count)

  behind_a_global : (std : Std) (last : List Signature) → Known p checked defined special last → (env : Environment) (n : Name) (v : ℤ) (ds : List Declaration) → Left p checked defined special std last env (global_declaration n v ∷ ds) →
      Left p checked defined special std last (declare_behind env (global_declaration n v)) ds
  behind_a_global std last known env n v ds l =
      let t = global_thing env.globals in
      let below = global_below l.before (globals_of (resolve_declarations (declare_behind env (global_declaration n v)) ds)) v p.globals env.globals l.globals l.globals_count in
      let longer = length-append l.before (v ∷ []) in
      let count = l.globals_count in
      let m = l.meant in
      record {
        meant = record {
          some = m.some;
          classes = λ k e q. m.classes k e (sym (ap (λ cs. slice_get cs k) (named_classes env n.text t)) ∙ q);
          names = names_more p special env n.text t below m.names;
          signatures = signatures_meant last known (declare_behind env (global_declaration n v)) ds l.last_is;
          definitions = named_definitions env n.text t ∙ m.definitions;
        };
        done = l.done;
        allowed = l.allowed;
        classes = l.classes;
        count = l.count ∙ sym (ap length (named_classes env n.text t));
        before = l.before ++ (v ∷ []);
        globals = l.globals ∙ sym (append_assoc l.before (v ∷ []) (globals_of (resolve_declarations (declare_behind env (global_declaration n v)) ds)));
        globals_count = omega (arith, longer, count);
        last_is = l.last_is;
      }

  behind_a_function : (std : Std) (last : List Signature) → Known p checked defined special last → (env : Environment) (f : Function) (ds : List Declaration) → Left p checked defined special std last env (function_declaration f ∷ ds) →
      Left p checked defined special std last (declare_behind env (function_declaration f)) ds
  behind_a_function std last known env f ds l =
      let kept = function_keeps p special env (signature env outermost f) l.meant.names in
      let m = l.meant in
      record {
        meant = record {
          some = m.some;
          classes = λ k e q. m.classes k e (sym (ap (λ cs. slice_get cs k) kept.classes) ∙ q);
          names = kept.names;
          signatures = signatures_meant last known (declare_behind env (function_declaration f)) ds l.last_is;
          definitions = kept.definitions ∙ m.definitions;
        };
        done = l.done;
        allowed = l.allowed;
        classes = l.classes;
        count = l.count ∙ sym (ap length kept.classes);
        before = l.before;
        globals = l.globals;
        globals_count = l.globals_count ∙ sym kept.globals;
        last_is = l.last_is;
      }

  -- what is known where a class is declared
  pub record ClassStep (env : Environment) (c : Class) : Type 0 where
    pub meant : Meant p defined special env
    pub own : Option Specification
    pub placed : class_at p (length env.classes) ≡ settle_class own (resolve_class_tree env c)
    pub below : length env.classes < length p.classes
    pub named : has_text c.name.text special ≡ true
    pub data_members : Each IsDataMember c.members
    pub functions : Each IsFunction c.functions
    pub alone : ClassAlone special c
    pub fine : Fine defined (class_rules_found env c)

  -- where a function is
  pub record FunctionStep (env : Environment) (f : Function) : Type 0 where
    pub meant : Meant p defined special env
    pub next : Meant p defined special (declare_behind env (function_declaration f))
    pub kept : (x : List ℕ) (e : Entry) → entry_of env x ≡ Some e → entry_of (declare_behind env (function_declaration f)) x ≡ Some e
    pub classes : (declare_behind env (function_declaration f)).classes ≡ env.classes
    pub is : IsFunction f
    pub plain : f.kind ≡ Plain
    pub alone : Each (λ (x : Param). NameAlone special x.name) f.parameters
    pub fine : Fine defined (declaration_found env (function_declaration f))

  -- at each declaration
  abbrev pub class_of : Name → Option Name → List Member → Class
  class_of x base ms = record { name = x; base = base; members = data_members ms; functions = functions ms }

  abbrev pub Walked : Environment → List Written → Type 0
  Walked env [] = Unit {0}
  Walked env (written_class x is_public base ms ∷ ws) =
      ClassStep env (class_of x base ms) × Walked (declare_behind env (class_declaration (class_of x base ms))) ws
  Walked env (written_global x v ∷ ws) = Meant p defined special env × Walked (declare_behind env (global_declaration x (start_value v))) ws
  Walked env (written_function f ∷ ws) = FunctionStep env f × Walked (declare_behind env (function_declaration f)) ws

  pub walked : (std : Std) (last : List Signature) → Known p checked defined special last → (ws : List Written) (env : Environment) → Left p checked defined special std last env (map declared ws) →
      Each IsGrammatical ws → Each (DeclarationAlone special) (map declared ws) → Fine defined (declarations_found env (map declared ws)) → Walked env ws
  walked std last known [] env l w a f = tt
  walked std last known (written_class x is_public base ms ∷ ws) env l w a f =
      let c = class_of x base ms in
      let d = class_declaration c in
      let parts = fine_parts defined (declaration_found env d) (declarations_found (declare_behind env d) (map declared ws)) f in
      let own = given std l.allowed (resolve_class_tree env c) in
      let placed =
      class_placed l.done
      (settle_classes std (l.allowed ++ allowed_by (destructor_of own (resolve_class_tree env c).functions) ∷ []) (classes_of (resolve_declarations (declare_behind env d) (map declared ws))))
      (settle_class own (resolve_class_tree env c)) p.classes (length env.classes) l.classes l.count in
      let v = data_are ms w.0 in
      let u = functions_are ms w.0 in
      let next = behind_a_class std last env c (map declared ws) l (behind_class p defined special env l.meant c own placed.0 placed.1 a.0.1 v u a.0.0 parts.0) in (
        record { meant = l.meant; own = own; placed = placed.0; below = placed.1; named = a.0.1; data_members = v; functions = u; alone = a.0.0; fine = parts.0 },
        walked std last known ws (declare_behind env d) next w.1 a.1 parts.1,
      )
  walked std last known (written_global x v ∷ ws) env l w a f =
      let d = global_declaration x (start_value v) in
      let parts = fine_parts defined (declaration_found env d) (declarations_found (declare_behind env d) (map declared ws)) f in
      (l.meant, walked std last known ws (declare_behind env d) (behind_a_global std last known env x (start_value v) (map declared ws) l) w.1 a.1 parts.1)
  walked std last known (written_function f ∷ ws) env l w a q =
      let d = function_declaration f in
      let parts = fine_parts defined (declaration_found env d) (declarations_found (declare_behind env d) (map declared ws)) q in
      let next = behind_a_function std last known env f (map declared ws) l in
      let kept = function_keeps p special env (signature env outermost f) l.meant.names in (
        record {
          meant = l.meant;
          next = next.meant;
          kept = kept.entries;
          classes = kept.classes;
          is = w.0.0;
          plain = w.0.1;
          alone = a.0;
          fine = parts.0;
        },
        walked std last known ws (declare_behind env d) next w.1 a.1 parts.1,
      )
