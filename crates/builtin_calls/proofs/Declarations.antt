-- So it is in the functions that a program declares, declaration after declaration.
use Rattle.std.proofs.Common.{◌≡◌, ◌∙◌, ◌+◌, ℕ, zero, suc, true, false, Bool, List, [], ◌∷◌, ◌++◌, map, length, Option, Some, None, option_map, codes, find, bytes_eq, if◌then◌else◌, refl, sym, ap, subst, arith}
use Rattle.std.specs.Prelude.{◌<◌, slice_get, unwrap_or, flat_map}
use Rattle.std.proofs.lemmas.Slice.Eq.{bytes_eq-Decides}
use Rattle.std.proofs.lemmas.Option.{slice_get_within, slice_get-map}
use Rattle.cxx_ast.specs.declared.name.Bound.TheVariants.{Func, Method as MethodBound}
use Rattle.cxx_ast.specs.declared.types.Ty.{Ty}
use Rattle.cxx_ast.specs.declared.types.Ty.TheVariants.{Int, Void, Object, IntRef, ObjectRef}
use Rattle.cxx_ast.specs.declared.types.Param.{Param}
use Rattle.cxx_ast.specs.declared.standard.Std.{Std}
use Rattle.cxx_ast.specs.Plain.{Specification, Function, Class, class_declaration, global_declaration, function_declaration, Program, Checked}
use Rattle.cxx_ast.specs.Environment.{Signature, ClassEntry, Environment}
use Rattle.cxx_ast.specs.Lookup.{entry_of}
use Rattle.cxx_ast.specs.TypeNames.{has_body, signature}
use Rattle.cxx_ast.specs.Locals.{outermost, declare_params}
use Rattle.cxx_ast.specs.FunctionRules.{has_text, function_found}
use Rattle.cxx_ast.specs.ClassRules.{method_found}
use Rattle.cxx_ast.specs.DeclaredNames.{class_names, once_only_found}
use Rattle.cxx_ast.specs.Resolve.{function_number, resolve_body, resolve_function}
use Rattle.cxx_ast.specs.Declare.{head_environment, class_entry, declare_behind, declare_all, at_the_start, definitions, body_environment, function_scope}
use Rattle.cxx_ast.specs.Broken.{Valid, declarations_found, function_name_found}
use Rattle.cxx_ast.specs.Grammatical.{Each, IsResult, HasForm, IsFunction, IsGrammatical}
use Rattle.cxx_ast.specs.Written.{Written, written_class, written_global, written_function, declared, start_value}
use Rattle.cxx_ast.specs.Checked.{IsChecked, bad_exception, resolve_methods, resolve_declarations, classes_of, globals_of, functions_of, checked}
use Rattle.cxx_ast.specs.Settled.{Allowed, allowed_by, destructor_of, given, settle_function, settle_classes}
use Rattle.cxx_ast.proofs.Settled.{settled_functions}
use Rattle.meaning_forms.specs.Class.{class_named, class_at, no_function}
use Rattle.meaning_forms.specs.Expression.{types_of}
use Rattle.region_formed.proofs.Fine.{Fine, fine_parts}
use Rattle.region_formed.proofs.Meant.{FieldsMeant, MethodsMeant, Shaped, EntryMeant, Meant, numbered}
use Rattle.region_formed.proofs.Meanings.{found_each, found_passes}
use Rattle.region_formed.proofs.Heads.{NameAlone}
use Rattle.region_formed.proofs.Classes.{head_names, entry_last, behind_class, methods_found}
use Rattle.region_formed.proofs.Definitions.{Good, named, Declared, defined_at, position_of, all_good}
use Rattle.region_formed.proofs.Declarations.{DeclarationAlone, Left, Known}
use Rattle.region_formed.proofs.Lists.{text_first, behind_true}
use Rattle.region_formed.proofs.Places.{source_above}
use Rattle.region_formed.proofs.Programs.{class_texts}
use Rattle.region_formed.proofs.Spelled.{program_passed}
use Rattle.region_formed.proofs.Once.{strangers}
use Rattle.region_typed.proofs.Walk.{class_of, ClassStep, FunctionStep, Walked, walked}
use Rattle.region_typed.proofs.Sources.{all_named, declarations_alone, valid_parts}
use Rattle.builtin_calls.proofs.Trees.{FunctionFits}
use Rattle.builtin_calls.proofs.Functions.{function_fits}

-- the functions of classes
abbrev pub ClassesFit : List Class → Type 0
ClassesFit [] = Unit {0}
ClassesFit (c ∷ cs) = Each FunctionFits c.functions × ClassesFit cs

-- all functions
pub record AllFunctionsFit (classes : List Class) (functions : List Function) : Type 0 where
  pub own : Each FunctionFits functions
  pub methods : ClassesFit classes

-- nothing of this is said of specifications
function_settled : (own : Option Specification) (f : Function) → FunctionFits f → FunctionFits (settle_function own f)
function_settled own f h = record { initialisers = h.initialisers; body = h.body }

classes_settled : (std : Std) (before : List Allowed) (cs : List Class) → ClassesFit cs → ClassesFit (settle_classes std before cs)
classes_settled std before [] h = tt
classes_settled std before (c ∷ cs) h =
    let own = given std before c in
    (settled_functions FunctionFits function_settled own c.functions h.0, classes_settled std (before ++ allowed_by (destructor_of own c.functions) ∷ []) cs h.1)

all_settled : (std : Std) (before : List Allowed) (classes : List Class) (functions : List Function) → AllFunctionsFit classes functions →
    AllFunctionsFit (settle_classes std before classes) (map (settle_function None) functions)
all_settled std before classes functions h =
    record { own = settled_functions FunctionFits function_settled None functions h.own; methods = classes_settled std before classes h.methods }

-- a function without a class is seen from outside
result_scope : (env next : Environment) (t : Ty) → IsResult t → function_scope next None t ≡ function_scope env None t
result_scope env next Int h = refl
result_scope env next Void h = refl
result_scope env next (Object n) h = absurd h
result_scope env next (IntRef const) h = absurd h
result_scope env next (ObjectRef const n) h = absurd h

where_defined : (b : Bool) (f : Function) (fs : List Function) → FunctionFits f → Each FunctionFits fs → Each FunctionFits (if b then f ∷ fs else fs)
where_defined true f fs h k = (h, k)
where_defined false f fs h k = k

module _ (p : Checked) (checked_is : IsChecked p) (defined special : List (List ℕ)) where
  methods_fit : (env : Environment) (c : Class) → ClassStep p checked_is defined special env c → (i : ℕ) (fs : List Function) → Each IsFunction fs →
      Each (λ (f : Function). Each (λ (x : Param). NameAlone special x.name) f.parameters) fs → Fine defined (flat_map (method_found env c) fs) →
      Each FunctionFits (resolve_methods env c i fs)
  methods_fit env c s i [] ws ns f = tt
  methods_fit env c s i (x ∷ fs) ws ns f =
      let parts = fine_parts defined (method_found env c x) (flat_map (method_found env c) fs) f in
      let k = length env.classes in
      let next = declare_behind env (class_declaration c) in
      let meant = behind_class p defined special env s.meant c s.own s.placed s.below s.named s.data_members s.functions s.alone s.fine in
      let names = head_names p defined special env s.meant c s.own s.placed s.below s.named s.data_members s.functions s.alone s.fine in
      let entry = entry_last p defined special env s.meant c s.own s.placed s.below s.named s.data_members s.functions s.alone s.fine in (
        function_fits p checked_is defined special next meant (head_environment env c) (Some k) (Some x.name.place) names (λ text e q. q) true false k (Some k) (λ j q. refl)
            (MethodBound k i) x ws.0 ns.0 parts.0 (λ e. record { number = k; entry = class_entry env c; own = refl; is = entry }),
        methods_fit env c s (i + 1) fs ws.1 ns.1 parts.1,
      )

  own_fits : (env : Environment) (f : Function) → FunctionStep p checked_is defined special env f →
      FunctionFits (resolve_function env outermost (body_environment env f) (function_scope env None f.result) (Func (function_number env f.name.text)) f)
  own_fits env f s =
      let body = body_environment env f in
      let result = (subst (λ k. HasForm k f) s.plain s.is.form).0 in
      let fine = (fine_parts defined (function_name_found env (signature env outermost f) (entry_of env f.name.text)) (function_found env outermost body None f) s.fine).1 in
      subst (λ sc. FunctionFits (resolve_function env outermost body sc (Func (function_number env f.name.text)) f)) (result_scope env body f.result result)
      (function_fits p checked_is defined special body s.next env None None s.meant.names s.kept false false 0 None (λ j q. absurd (cc q))
      (Func (function_number env f.name.text)) f s.is s.alone fine (λ e. absurd (cc (sym s.plain ∙ e))))

  declarations_fit : (ws : List Written) (env : Environment) → Walked p checked_is defined special env ws →
      AllFunctionsFit (classes_of (resolve_declarations env (map declared ws))) (functions_of (resolve_declarations env (map declared ws)))
  declarations_fit [] env w = record { own = tt; methods = tt }
  declarations_fit (written_class x is_public base ms ∷ ws) env w =
      let c = class_of p checked_is defined special x base ms in
      let step = w.0 in
      let rest = declarations_fit ws (declare_behind env (class_declaration c)) w.1 in
      record { own = rest.own; methods = (methods_fit env c step 0 c.functions step.functions step.alone.parameters (methods_found defined env c step.fine), rest.methods) }
  declarations_fit (written_global x v ∷ ws) env w =
      let rest = declarations_fit ws (declare_behind env (global_declaration x (start_value v))) w.1 in record { own = rest.own; methods = rest.methods }
  declarations_fit (written_function f ∷ ws) env w =
      let rest = declarations_fit ws (declare_behind env (function_declaration f)) w.1 in
      let body = body_environment env f in
      let sc = function_scope env None f.result in
      record {
        own = where_defined (has_body (resolve_body body (declare_params body f.parameters sc) f.body))
            (resolve_function env outermost body sc (Func (function_number env f.name.text)) f) (functions_of (resolve_declarations body (map declared ws))) (own_fits env f w.0) rest.own;
        methods = rest.methods;
      }

-- the class of `std::bad_exception`
first_class : (p : Checked) (special : List (List ℕ)) → 0 < length p.classes → class_at p 0 ≡ bad_exception → (name : List ℕ) → has_text name special ≡ true →
    EntryMeant p special 0 (record { name = name; base = None; fields = []; functions = []; size = 4; chain = 1; has_default = true })
first_class p special below is name named = record {
  below = below;
  base = ap (λ c. option_map class_named c.base) is;
  fields = subst (λ c. FieldsMeant (length p.classes) [] c.members) (sym is) tt;
  functions = subst (λ c. MethodsMeant (length p.classes) name [] c.functions) (sym is) tt;
  alone = record { fields = tt; methods = tt; apart = λ text kind e k i. absurd (cc e) };
  named = named;
}

-- the first declaration of each function, by the functions that are defined
known_functions : (p : Checked) (ws : List Written) (env : Environment) → Each IsGrammatical ws → (functions : p.functions ≡ map (settle_function None) (functions_of (resolve_declarations env (map declared ws)))) →
    env.signatures ≡ [] → Fine (definitions (map declared ws)) (declarations_found env (map declared ws)) →
    (special : List (List ℕ)) (c : IsChecked p) → Known p c (definitions (map declared ws)) special (declare_all env (map declared ws)).signatures
known_functions p ws env w functions none f special c text s e =
    let defined = definitions (map declared ws) in
    let last = (declare_all env (map declared ws)).signatures in
    let start : Declared env = record { good = subst (Each Good) (sym none) tt; entered = subst (λ ss. Each (λ (s : Signature). entry_of env s.name.text ≡ None → ⊥) ss) (sym none) tt } in
    let good = found_each Good (named text) last s (all_good defined ws env start w f) e in
    let same : s.name.text ≡ text = (bytes_eq-Decides s.name.text text).0 (found_passes (named text) last s e) in
    let own : find (named s.name.text) last ≡ Some s = subst (λ t. find (named t) last ≡ Some s) (sym same) e in
    record {
      result = good.result;
      there = λ h.
          let n = numbered defined s.name.text in
          let d = defined_at defined ws env start w f s n own (position_of defined s.name.text h) in
          let found = functions_of (resolve_declarations env (map declared ws)) in
          let at : slice_get p.functions n ≡ Some (settle_function None d.function) =
          ap (λ fs. slice_get fs n) functions ∙ slice_get-map (settle_function None) found n ∙ ap (option_map (settle_function None)) d.at in (
            slice_get_within p.functions n (settle_function None d.function) at,
            subst (λ g. Shaped s.parameters (types_of g.parameters)) (sym (ap (λ o. unwrap_or o no_function) at)) d.shape,
          );
    }

module _ (std : Std) (p : Program) (ws : List Written) (e : map declared ws ≡ p.declarations) (w : Each IsGrammatical ws) (valid : Valid std p)
    (alone : Each (DeclarationAlone (class_texts p.declarations)) p.declarations) where
  program_fits : IsChecked (checked std p) → AllFunctionsFit (checked std p).classes (checked std p).functions
  unfolding checked
  program_fits c =
      let env = at_the_start p.declarations in
      let defined = definitions (map declared ws) in
      let special = class_texts p.declarations in
      let q = checked std p in
      let back = sym e in
      let last = (declare_all env (map declared ws)).signatures in
      let fine = subst (λ ds. Fine (definitions ds) (declarations_found env ds)) back (valid_parts std p valid).0 in
      let functions : q.functions ≡ map (settle_function None) (functions_of (resolve_declarations env (map declared ws))) =
      ap (λ ds. map (settle_function None) (functions_of (resolve_declarations env ds))) back in
      let known = known_functions q ws env w functions refl fine special c in
      let m : Meant q defined special env = record {
        some = omega arith;
        classes = λ k x h. one_class k x h;
        names = tt;
        signatures = λ text s h. absurd (cc h);
        definitions = ap definitions back;
      } in
      let left : Left q c defined special std last env (map declared ws) = record {
        meant = m;
        done = bad_exception ∷ [];
        allowed = allowed_by (destructor_of (given std [] bad_exception) []) ∷ [];
        classes = ap (λ ds. settle_classes std [] (bad_exception ∷ classes_of (resolve_declarations env ds))) back;
        count = refl;
        before = [];
        globals = ap (λ ds. globals_of (resolve_declarations env ds)) back;
        globals_count = refl;
        last_is = refl;
      } in
      let steps = walked q c defined special std last known ws env left w (subst (Each (DeclarationAlone special)) back alone) fine in
      let all = declarations_fit q c defined special ws env steps in
      let here = subst (λ ds. AllFunctionsFit (classes_of (resolve_declarations env ds)) (functions_of (resolve_declarations env ds))) e all in
      all_settled std [] (bad_exception ∷ classes_of (resolve_declarations env p.declarations)) (functions_of (resolve_declarations env p.declarations))
      (record { own = here.own; methods = (tt, here.methods) })
    where
      one_class : (k : ℕ) (x : ClassEntry) → slice_get (at_the_start p.declarations).classes k ≡ Some x → EntryMeant (checked std p) (class_texts p.declarations) k x
      one_class zero x h =
          subst (EntryMeant (checked std p) (class_texts p.declarations) 0) (cc h)
          (first_class (checked std p) (class_texts p.declarations) (omega arith) refl (codes "std::bad_exception") (text_first (codes "std::bad_exception") (class_names p.declarations)))
      one_class (suc zero) x h = absurd (cc h)
      one_class (suc (suc k)) x h = absurd (cc h)

-- the functions of every checked program
pub functions_fit : (p : Checked) → IsChecked p → AllFunctionsFit p.classes p.functions
functions_fit p c =
    let ds = c.program.declarations in
    let defined = definitions ds in
    let ws = c.tree.written in
    let back = sym c.tree.declarations in
    let passed = program_passed ws 0 c.tree.grammatical (source_above c.source c.tokens _ c.lexed c.tree.spelled) in
    let fine = valid_parts c.std c.program c.valid in
    let found = subst (λ xs. Fine defined (declarations_found (at_the_start ds) xs)) back fine.0 in
    let once = subst (λ xs. Fine defined (once_only_found xs)) back fine.1 in
    let apart = strangers defined ws c.tree.grammatical passed once in
    let named = all_named (class_texts (map declared ws)) ws (λ t h. behind_true (bytes_eq (codes "std::bad_exception") t) (has_text t (class_names (map declared ws))) h) in
    let alone = declarations_alone defined (class_texts (map declared ws)) ws (at_the_start ds) found apart passed.members named in
    subst (λ q. IsChecked q → AllFunctionsFit q.classes q.functions) (sym c.resolved)
    (program_fits c.std c.program ws c.tree.declarations c.tree.grammatical c.valid (subst (λ xs. Each (DeclarationAlone (class_texts xs)) xs) c.tree.declarations alone)) c
