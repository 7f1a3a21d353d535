-- The functions that a program declares are typed, declaration after declaration.
use Rattle.std.proofs.Common.{◌≡◌, ◌+◌, ℕ, Bool, true, false, List, [], ◌∷◌, map, length, Some, None, find, if◌then◌else◌, refl, ap, subst, arith, Option}
use Rattle.std.specs.Prelude.{flat_map}
use Rattle.std.proofs.lemmas.List.{length-append}
use Rattle.cxx_ast.specs.declared.name.Bound.TheVariants.{Func, Method as MethodBound}
use Rattle.cxx_ast.specs.declared.types.Ty.{Ty}
use Rattle.cxx_ast.specs.declared.types.Ty.TheVariants.{Int, Void, Object, IntRef, ObjectRef}
use Rattle.cxx_ast.specs.declared.types.Param.{Param}
use Rattle.cxx_ast.specs.declared.declaration.FuncKind.TheVariants.{Plain, Constructor, Destructor}
use Rattle.cxx_ast.specs.Plain.{Specification, Function, Class, Declaration, class_declaration, global_declaration, function_declaration, Checked}
use Rattle.cxx_ast.specs.Environment.{Signature, Field, class_thing, global_thing, Environment, Scope}
use Rattle.cxx_ast.specs.Lookup.{entry_of}
use Rattle.cxx_ast.specs.TypeNames.{has_body, signature}
use Rattle.cxx_ast.specs.Locals.{outermost, declare_params}
use Rattle.cxx_ast.specs.FunctionRules.{has_text, function_found}
use Rattle.cxx_ast.specs.ClassRules.{method_found}
use Rattle.cxx_ast.specs.Resolve.{function_number, resolve_params, resolve_body, resolve_function}
use Rattle.cxx_ast.specs.Declare.{with_name, next_class, head_environment, head_scope, class_entry, declare_behind, declare_all, body_environment, function_scope}
use Rattle.cxx_ast.specs.Broken.{function_name_found}
use Rattle.cxx_ast.specs.Grammatical.{Each, IsResult, HasForm, IsFunction}
use Rattle.cxx_ast.specs.Written.{Written, written_class, written_global, written_function, declared, start_value}
use Rattle.cxx_ast.specs.Checked.{IsChecked, resolve_methods, resolve_declarations, classes_of, functions_of}
use Rattle.meaning_forms.specs.Call.{statements_in}
use Rattle.meaning_forms.specs.Class.{class_named, function_at}
use Rattle.region_forms.specs.Layout.{layout_of}
use Rattle.region_forms.specs.LowerProgram.{lowering}
use Rattle.region_forms.specs.Numbering.{variables_of}
use Rattle.class_layout.proofs.Declared.{named_classes}
use Rattle.region_statements.specs.Functions.{IsTypedBody}
use Rattle.region_statements.specs.Jumps.{HaveNoJump}
use Rattle.region_statements.specs.Members.{CanInitialiseParts}
use Rattle.region_formed.proofs.Fine.{Fine, fine_parts}
use Rattle.region_formed.proofs.Meant.{ParamsMeant, numbered}
use Rattle.region_formed.proofs.Heads.{NameAlone}
use Rattle.region_formed.proofs.Classes.{head_names, entry_last, behind_class, methods_found}
use Rattle.region_formed.proofs.Definitions.{named}
use Rattle.region_typed.specs.Known.{Settled}
use Rattle.region_typed.proofs.Functions.{function_typed, function_jumps, parts_typed}
use Rattle.region_typed.proofs.Initial.{NamesOnce}
use Rattle.region_typed.proofs.Order.{FieldsOrdered, fields_once}
use Rattle.region_typed.proofs.Settling.{Steady, steady_global, steady_function, steady_class, settled_by}
use Rattle.region_typed.proofs.Walk.{class_of, ClassStep, FunctionStep, Walked}

module _ (p : Checked) where
  -- a function of the program, and one of class k
  pub record FunctionGood (f : Function) : Type 0 where
    pub plain : f.kind ≡ Plain
    pub result : IsResult f.result
    pub typed : IsTypedBody (lowering p (layout_of p) false (variables_of f)) None f
    pub jumps : HaveNoJump (statements_in f.body)

  pub record MethodGood (k : ℕ) (f : Function) : Type 0 where
    pub typed : IsTypedBody (lowering p (layout_of p) true (variables_of f)) (Some k) f
    pub constructor : f.kind ≡ Constructor → (f.result ≡ Void) × CanInitialiseParts (lowering p (layout_of p) true (variables_of f)) k f
    pub destructor : f.kind ≡ Destructor → (f.result ≡ Void) × (f.parameters ≡ [])

  -- so they are with any specification
  abbrev pub AnyFunction : Function → Type 0
  AnyFunction f = (s : Option Specification) → FunctionGood (record f { specification = s })

  abbrev pub AnyMethod : ℕ → Function → Type 0
  AnyMethod k f = (s : Option Specification) → MethodGood k (record f { specification = s })

  -- each class from the k-th on
  abbrev pub ClassesGood : (ℕ → Function → Type 0) → ℕ → List Class → Type 0
  ClassesGood P k [] = Unit {0}
  ClassesGood P k (c ∷ cs) = ((class_named c.name ≡ k) × Each (P k) c.functions) × ClassesGood P (k + 1) cs

-- a function without a class is seen from outside
result_scope : (env next : Environment) (t : Ty) → IsResult t → function_scope next None t ≡ function_scope env None t
result_scope env next Int h = refl
result_scope env next Void h = refl
result_scope env next (Object n) h = absurd h
result_scope env next (IntRef const) h = absurd h
result_scope env next (ObjectRef const n) h = absurd h

no_parameters_left : (env : Environment) (sc : Scope) (ps : List Param) → ps ≡ [] → resolve_params env sc ps ≡ []
no_parameters_left env sc ps e = ap (resolve_params env sc) e

module _ (p : Checked) (checked : IsChecked p) (defined special : List (List ℕ)) where
  -- the functions of a class
  methods_good : (env : Environment) (c : Class) → ClassStep p checked defined special env c → Settled p defined (declare_behind env (class_declaration c)) →
      NamesOnce (map (λ (f : Field). f.name) (class_entry env c).fields) → (i : ℕ) (fs : List Function) → Each IsFunction fs →
      Each (λ (f : Function). Each (λ (x : Param). NameAlone special x.name) f.parameters) fs → Fine defined (flat_map (method_found env c) fs) →
      Each (AnyMethod p (length env.classes)) (resolve_methods env c i fs)
  methods_good env c s settled once i [] ws ns f = tt
  methods_good env c s settled once i (x ∷ fs) ws ns f =
      let parts = fine_parts defined (method_found env c x) (flat_map (method_found env c) fs) f in
      let k = length env.classes in
      let next = declare_behind env (class_declaration c) in
      let meant = behind_class p defined special env s.meant c s.own s.placed s.below s.named s.data_members s.functions s.alone s.fine in
      let names = head_names p defined special env s.meant c s.own s.placed s.below s.named s.data_members s.functions s.alone s.fine in
      let entry = entry_last p defined special env s.meant c s.own s.placed s.below s.named s.data_members s.functions s.alone s.fine in
      let head = head_environment env c in (
        λ o. record {
          typed = function_typed p checked defined special next meant settled head (Some k) (Some x.name.place) names (λ text e q. q) true false k (Some k) (λ j q. refl)
              (MethodBound k i) x ws.0 ns.0 parts.0 o;
          constructor = λ e. (
            (subst (λ kind. HasForm kind x) e ws.0.form).0,
            parts_typed p checked defined special next meant settled head (Some k) (Some x.name.place) names (λ text e q. q) true false k (Some k) (λ j q. refl)
                (MethodBound k i) x ws.0 ns.0 parts.0 o (class_entry env c) k refl entry once e,
          );
          destructor = λ e. let form = subst (λ kind. HasForm kind x) e ws.0.form in (form.0, no_parameters_left (head_environment env c) (head_scope env x.name) x.parameters form.2);
        },
        methods_good env c s settled once (i + 1) fs ws.1 ns.1 parts.1,
      )

  -- a function of its own
  own_good : (env : Environment) (f : Function) → FunctionStep p checked defined special env f → Settled p defined (body_environment env f) →
      AnyFunction p (resolve_function env outermost (body_environment env f) (function_scope env None f.result) (Func (function_number env f.name.text)) f)
  own_good env f s settled =
      let body = body_environment env f in
      let result = (subst (λ k. HasForm k f) s.plain s.is.form).0 in
      let fine = (fine_parts defined (function_name_found env (signature env outermost f) (entry_of env f.name.text)) (function_found env outermost body None f) s.fine).1 in
      subst (λ sc. AnyFunction p (resolve_function env outermost body sc (Func (function_number env f.name.text)) f)) (result_scope env body f.result result) (λ o. record {
        plain = s.plain;
        result = result;
        typed = function_typed p checked defined special body s.next settled env None None s.meant.names s.kept false false 0 None (λ j q. absurd (cc q))
            (Func (function_number env f.name.text)) f s.is s.alone fine o;
        jumps = function_jumps p checked defined special body s.next settled env None None s.meant.names s.kept false false 0 None (λ j q. absurd (cc q))
            (Func (function_number env f.name.text)) f s.is s.alone fine o;
      })

  where_defined : (b : Bool) (f : Function) (fs : List Function) → AnyFunction p f → Each (AnyFunction p) fs → Each (AnyFunction p) (if b then f ∷ fs else fs)
  where_defined true f fs h k = (h, k)
  where_defined false f fs h k = k

  -- all that is left is typed
  pub record AllGood (k : ℕ) (ds : List Declaration) : Type 0 where
    pub functions : Each (AnyFunction p) (functions_of ds)
    pub classes : ClassesGood p (AnyMethod p) k (classes_of ds)

  pub all_good : (last : List Signature) → ((text : List ℕ) (s : Signature) → find (named text) last ≡ Some s → has_text s.name.text defined ≡ true →
      ParamsMeant (length p.classes) s.parameters (function_at p (numbered defined s.name.text)).parameters) →
      (ws : List Written) (env : Environment) → last ≡ (declare_all env (map declared ws)).signatures → Walked p checked defined special env ws → Each FieldsOrdered ws → Steady p env →
      AllGood (length env.classes) (resolve_declarations env (map declared ws))
  all_good last known [] env e w o s = record { functions = tt; classes = tt }
  all_good last known (written_class x is_public base ms ∷ ws) env e w o s =
      let c = class_of p checked defined special x base ms in
      let d = class_declaration c in
      let step = w.0 in
      let next = steady_class p checked defined special env c step s in
      let settled = settled_by p defined last (declare_behind env d) (map declared ws) next e known in
      let rest = all_good last known ws (declare_behind env d) e w.1 o.1 next in
      let size = ap length (named_classes env x.text (class_thing (next_class env))) in
      let more = length-append (with_name env x.text (class_thing (next_class env))).classes (class_entry env c ∷ []) in
      let count : length (declare_behind env d).classes ≡ length env.classes + 1 = omega (arith, size, more) in
      record {
        functions = rest.functions;
        classes = (
          (refl, methods_good env c step settled (fields_once defined env c step.fine o.0) 0 c.functions step.functions step.alone.parameters (methods_found defined env c step.fine)),
          subst (λ k. ClassesGood p (AnyMethod p) k (classes_of (resolve_declarations (declare_behind env d) (map declared ws)))) count rest.classes,
        );
      }
  all_good last known (written_global x v ∷ ws) env e w o s =
      let d = global_declaration x (start_value v) in
      let rest = all_good last known ws (declare_behind env d) e w.1 o.1 (steady_global p env x (start_value v) s) in
      let size = ap length (named_classes env x.text (global_thing env.globals)) in
      record {
        functions = rest.functions;
        classes = subst (λ k. ClassesGood p (AnyMethod p) k (classes_of (resolve_declarations (declare_behind env d) (map declared ws)))) size rest.classes;
      }
  all_good last known (written_function f ∷ ws) env e w o s =
      let d = function_declaration f in
      let step = w.0 in
      let next = steady_function p checked defined special env f step s in
      let settled = settled_by p defined last (declare_behind env d) (map declared ws) next e known in
      let rest = all_good last known ws (declare_behind env d) e w.1 o.1 next in
      let body = body_environment env f in
      let sc = function_scope env None f.result in
      record {
        functions = where_defined (has_body (resolve_body body (declare_params body f.parameters sc) f.body))
            (resolve_function env outermost body sc (Func (function_number env f.name.text)) f) (functions_of (resolve_declarations body (map declared ws)))
            (own_good env f step settled) rest.functions;
        classes = subst (λ k. ClassesGood p (AnyMethod p) k (classes_of (resolve_declarations body (map declared ws)))) (ap length step.classes) rest.classes;
      }
