-- So it is in the functions of a checked program.
use Rattle.std.proofs.Common.{◌≡◌, ◌∙◌, ℕ, ◌+◌, Bool, true, false, not, List, [], ◌∷◌, ◌++◌, map, length, Option, Some, None, if◌then◌else◌, refl, sym, ap, subst, arith}
use Rattle.std.specs.Prelude.{flat_map, slice_get}
use Rattle.std.specs.List.{AllByRecursion}
use Rattle.cxx_ast.specs.declared.name.Bound.{Bound}
use Rattle.cxx_ast.specs.declared.name.Bound.TheVariants.{Free, Func, Method as MethodBound}
use Rattle.cxx_ast.specs.declared.types.Ty.{Ty}
use Rattle.cxx_ast.specs.declared.types.Ty.TheVariants.{Int, Void, Object, IntRef, ObjectRef}
use Rattle.cxx_ast.specs.declared.declaration.FuncKind.{FuncKind}
use Rattle.cxx_ast.specs.declared.declaration.FuncKind.TheVariants.{Plain, Method, Constructor, Destructor}
use Rattle.cxx_ast.specs.Plain.{Function, Class, Declaration, class_declaration, global_declaration, function_declaration, Program, Checked, Statements, Initialiser, Specification}
use Rattle.cxx_ast.specs.Broken.{Valid, broken, declaration_found, declarations_found, has_main, function_name_found}
use Rattle.cxx_ast.specs.Checked.{resolve_methods, resolve_declarations, classes_of, functions_of, checked, IsChecked, bad_exception}
use Rattle.cxx_ast.specs.ClassRules.{method_found, class_rules_found}
use Rattle.cxx_ast.specs.Declare.{at_the_start, definitions, declare_behind, head_environment, head_scope, next_class, class_entry, body_environment, function_scope}
use Rattle.cxx_ast.specs.DeclaredNames.{once_only_found}
use Rattle.cxx_ast.specs.Environment.{Kind, int_kind, truth_kind, void_kind, class_kind, no_kind, ClassEntry, class_thing, Environment, Scope}
use Rattle.cxx_ast.specs.ExpressionRules.{all_judged}
use Rattle.cxx_ast.specs.Finding.{Finding, breaks, is_sound, breaks_if}
use Rattle.cxx_ast.specs.StatementRules.{statements_found}
use Rattle.cxx_ast.specs.FunctionRules.{params_twice, has_text, named_part, int_part_found, part_found, initialiser_found, initialisers_found, initialised, left_fields, left_base, building_found, building_of, body_found, definition_found, function_found}
use Rattle.cxx_ast.specs.Grammatical.{Each, HasForm, IsResult, IsGrammatical}
use Rattle.cxx_ast.specs.Locals.{declare_params, outermost}
use Rattle.cxx_ast.specs.Lookup.{entry_of}
use Rattle.cxx_ast.specs.Reference.{Judgement, int_wanted, all_found}
use Rattle.cxx_ast.specs.Resolve.{function_number, resolve_initialiser, resolve_body, resolve_function}
use Rattle.cxx_ast.specs.Rule.{no_main, initialiser_list}
use Rattle.cxx_ast.specs.TypeNames.{has_body, head_types_found, signature}
use Rattle.cxx_ast.specs.Written.{Written, written_class, written_global, written_function, data_members, functions, start_value, declared}
use Rattle.linear_forms.proofs.Lists.{behind}
use Rattle.class_layout.proofs.Sound.{front_sound, back_sound, nothing_refused}
use Rattle.class_layout.proofs.Declared.{named_classes}
use Rattle.source_bounds.specs.BuiltinCalls.{BodyCallsFit, InitialisersCallsFit, FunctionCallsFit, BuiltinsTakeFew}
use Rattle.source_bounds.proofs.CallRules.{Good, all_good, construction_good}
use Rattle.source_bounds.proofs.FreeNames.{InitialisersFree, BodyFree, FunctionFree, FunctionsFree, AllWrittenFree, source_free}
use Rattle.source_bounds.proofs.Arities.{good_args, statements_calls}
use Rattle.source_bounds.proofs.Limits.{member_body, methods_in, IsMethod, same_body, class_methods}
use Rattle.cxx_ast.specs.declared.standard.Std.{Std}
use Rattle.cxx_ast.specs.Settled.{settle_function}
use Rattle.cxx_ast.specs.Standards.{standard_found}
use Rattle.cxx_ast.proofs.Settled.{all_functions, all_classes}

abbrev Sound : List Finding → Type 0
Sound found = is_sound found ≡ true

-- the arguments of an initialiser

int_part_good : (place : ℕ) (given : List Judgement) → Sound (int_part_found place given) → Good given
int_part_good place [] h = absurd (cc h)
int_part_good place (a ∷ []) h = (front_sound a.found (int_wanted a.kind a.place) h, tt)
int_part_good place (a ∷ b ∷ given) h = absurd (cc h)

part_good : (env : Environment) (place : ℕ) (given : List Judgement) (kind : Kind) → Sound (part_found env place given kind) → Good given
part_good env place given int_kind h = int_part_good place given h
part_good env place given (class_kind k) h = construction_good env k given place place h
part_good env place given truth_kind h = all_good given h
part_good env place given void_kind h = all_good given h
part_good env place given no_kind h = all_good given h

initialiser_good : (env : Environment) (sc : Scope) (c : ClassEntry) (seen : List (List ℕ)) (i : Initialiser) → Sound (initialiser_found env sc c seen i) → Good (all_judged env sc i.arguments)
initialiser_good env sc c seen i h = go (named_part env c i.name.text) h
  where
    go : (o : Option Kind) → Sound (elim o [
      | None ↦ breaks initialiser_list i.name.place ∷ all_found (all_judged env sc i.arguments)
      | Some kind ↦ breaks_if (has_text i.name.text seen) initialiser_list i.name.place ++ part_found env i.name.place (all_judged env sc i.arguments) kind
    ]) → Good (all_judged env sc i.arguments)
    go None s = absurd (cc s)
    go (Some kind) s =
        part_good env i.name.place (all_judged env sc i.arguments) kind
        (back_sound (breaks_if (has_text i.name.text seen) initialiser_list i.name.place) (part_found env i.name.place (all_judged env sc i.arguments) kind) s)

initialisers_fit : (env : Environment) (sc : Scope) (c : ClassEntry) (seen : List (List ℕ)) (is : List Initialiser) → InitialisersFree is → Sound (initialisers_found env sc c seen is) →
    InitialisersCallsFit (map (resolve_initialiser env sc) is)
initialisers_fit env sc c seen [] free h = tt
initialisers_fit env sc c seen (i ∷ is) free h =
    let first = initialiser_found env sc c seen i in
    let others = initialisers_found env sc c (i.name.text ∷ seen) is in (
      good_args env sc.in_loop i.arguments sc free.0 (initialiser_good env sc c seen i (front_sound first others h)),
      initialisers_fit env sc c (i.name.text ∷ seen) is free.1 (back_sound first others h),
    )

-- functions

no_initialisers : (env : Environment) (sc : Scope) (is : List Initialiser) → is ≡ [] → InitialisersCallsFit (map (resolve_initialiser env sc) is)
no_initialisers env sc is e = subst (λ x. InitialisersCallsFit (map (resolve_initialiser env sc) x)) (sym e) tt

-- the class of a constructor is there
abbrev OwnClass : Environment → Option ℕ → Type 0
OwnClass env None = ⊥
OwnClass env (Some k) = (c : ClassEntry) × (slice_get env.classes k ≡ Some c)

building_fits : (env : Environment) (sc : Scope) (own : Option ℕ) (f : Function) → OwnClass env own → InitialisersFree f.initialisers → Sound (building_found env sc own f) →
    InitialisersCallsFit (map (resolve_initialiser env sc) f.initialisers)
building_fits env sc None f there free h = absurd there
building_fits env sc (Some k) f there free h = go (slice_get env.classes k) there.1 h
  where
    go : (o : Option ClassEntry) → o ≡ Some there.0 → Sound (elim o [
      | None ↦ []
      | Some c ↦ initialisers_found env sc c [] f.initialisers ++ left_fields env f.name.place (initialised f.initialisers) c.fields
          ++ left_base env f.name.place (initialised f.initialisers) c.base
    ]) → InitialisersCallsFit (map (resolve_initialiser env sc) f.initialisers)
    go None e s = absurd (cc e)
    go (Some c) e s =
        let first = initialisers_found env sc c [] f.initialisers in
        let fields = left_fields env f.name.place (initialised f.initialisers) c.fields in
        let base = left_base env f.name.place (initialised f.initialisers) c.base in
        initialisers_fit env sc c [] f.initialisers free (front_sound first fields (front_sound (first ++ fields) base s))

abbrev Built : Environment → Option ℕ → FuncKind → Function → Type 0
Built env own Constructor f = OwnClass env own
Built env own kind f = f.initialisers ≡ []

kind_fits : (env : Environment) (sc : Scope) (own : Option ℕ) (f : Function) (kind : FuncKind) → Built env own kind f → InitialisersFree f.initialisers → Sound (building_of env sc own f kind) →
    InitialisersCallsFit (map (resolve_initialiser env sc) f.initialisers)
kind_fits env sc own f Constructor there free h = building_fits env sc own f there free h
kind_fits env sc own f Plain none free h = no_initialisers env sc f.initialisers none
kind_fits env sc own f Method none free h = no_initialisers env sc f.initialisers none
kind_fits env sc own f Destructor none free h = no_initialisers env sc f.initialisers none

body_fits : (env : Environment) (sc : Scope) (own : Option ℕ) (f : Function) (o : Option Statements) → has_body o ≡ true → Built env own f.kind f → InitialisersFree f.initialisers → BodyFree o →
    Sound (body_found env sc own f o) → InitialisersCallsFit (map (resolve_initialiser env sc) f.initialisers) × BodyCallsFit (resolve_body env sc o)
body_fits env sc own f None there built free inside h = absurd (cc there)
body_fits env sc own f (Some ss) there built free inside h =
    let building = building_of env sc own f f.kind in
    (kind_fits env sc own f f.kind built free (front_sound building (statements_found env sc ss) h), statements_calls env ss sc.in_loop sc inside (back_sound building (statements_found env sc ss) h))

function_fits : (head : Environment) (heads : Scope) (env : Environment) (own : Option ℕ) (b : Bound) (f : Function) → has_body f.body ≡ true → Built env own f.kind f → FunctionFree f →
    Sound (function_found head heads env own f) → FunctionCallsFit (resolve_function head heads env (function_scope env own f.result) b f)
function_fits head heads env own b f there built free h =
    let sc = declare_params env f.parameters (function_scope env own f.result) in
    let named = resolve_function head heads env (function_scope env own f.result) Free f in
    let heading = head_types_found head heads f ++ params_twice [] f.parameters in
    let body = back_sound heading (body_found env sc own f f.body) (front_sound (heading ++ body_found env sc own f f.body) (definition_found env named f.body) h) in
    let both = body_fits env sc own f f.body there built free.initialisers free.body body in
    record { initialisers = both.0; body = both.1 }

built_by_form : (env : Environment) (own : Option ℕ) (f : Function) (kind : FuncKind) → OwnClass env own → HasForm kind f → Built env own kind f
built_by_form env own f Plain there h = h.1
built_by_form env own f Method there h = h.1
built_by_form env own f Constructor there h = there
built_by_form env own f Destructor there h = h.1

own_class : (env : Environment) (c : Class) → OwnClass (declare_behind env (class_declaration c)) (Some (next_class env))
own_class env c =
    let same = named_classes env c.name.text (class_thing (next_class env)) in
    (class_entry env c, ap (λ cs. slice_get (cs ++ class_entry env c ∷ []) (length env.classes)) same ∙ behind env.classes (class_entry env c ∷ []) (length env.classes) 0 (omega arith))

methods_fit : (env : Environment) (c : Class) (i : ℕ) (fs : List Function) → Each IsMethod fs → FunctionsFree fs → Sound (flat_map (method_found env c) fs) →
    AllByRecursion FunctionCallsFit (resolve_methods env c i fs)
methods_fit env c i [] g free h = tt
methods_fit env c i (f ∷ fs) g free h =
    let env' = declare_behind env (class_declaration c) in
    let first = method_found env c f in
    let others = flat_map (method_found env c) fs in (
      function_fits (head_environment env c) (head_scope env f.name) env' (Some (next_class env)) (MethodBound (next_class env) i) f (member_body f f.kind g.0.0.form g.0.1)
          (built_by_form env' (Some (next_class env)) f f.kind (own_class env c) g.0.0.form) free.0 (front_sound first others h),
      methods_fit env c (i + 1) fs g.1 free.1 (back_sound first others h),
    )

-- the result of a function of no class, and whether it gives a value, hang on no name
plain_result : (f : Function) (kind : FuncKind) → kind ≡ Plain → HasForm kind f → IsResult f.result
plain_result f Plain e h = h.0
plain_result f Method e h = absurd (cc e)
plain_result f Constructor e h = absurd (cc e)
plain_result f Destructor e h = absurd (cc e)

scope_same : (env other : Environment) (own : Option ℕ) (ty : Ty) → IsResult ty → function_scope env own ty ≡ function_scope other own ty
scope_same env other own Int h = refl
scope_same env other own Void h = refl
scope_same env other own (Object n) h = absurd h
scope_same env other own (IntRef const) h = absurd h
scope_same env other own (ObjectRef const n) h = absurd h

plain_built : (env : Environment) (f : Function) (kind : FuncKind) → kind ≡ Plain → HasForm kind f → Built env None kind f
plain_built env f Plain e h = h.1
plain_built env f Method e h = absurd (cc e)
plain_built env f Constructor e h = absurd (cc e)
plain_built env f Destructor e h = absurd (cc e)

where_defined : (b : Bool) (f : Function) (fs : List Function) → (b ≡ true → FunctionCallsFit f) → AllByRecursion FunctionCallsFit fs → AllByRecursion FunctionCallsFit (if b then f ∷ fs else fs)
where_defined true f fs h k = (h refl, k)
where_defined false f fs h k = k

-- the functions of classes, and those of none
record AllCalls (classes : List Class) (fs : List Function) : Type 0 where
  methods : AllByRecursion (λ c. AllByRecursion FunctionCallsFit c.functions) classes
  own : AllByRecursion FunctionCallsFit fs

declarations_fit : (ws : List Written) (env : Environment) → Each IsGrammatical ws → AllWrittenFree ws → Sound (declarations_found env (map declared ws)) →
    AllCalls (classes_of (resolve_declarations env (map declared ws))) (functions_of (resolve_declarations env (map declared ws)))
declarations_fit [] env g free h = record { methods = tt; own = tt }
declarations_fit (written_class n is_public base ms ∷ ws) env g free h =
    let c : Class = record { name = n; base = base; members = data_members ms; functions = functions ms } in
    let env' = declare_behind env (class_declaration c) in
    let sound = front_sound (class_rules_found env c) (declarations_found env' (map declared ws)) h in
    let rest = declarations_fit ws env' g.1 free.1 (back_sound (class_rules_found env c) (declarations_found env' (map declared ws)) h) in
    record { methods = (methods_fit env c 0 (functions ms) (methods_in ms g.0) free.0 (class_methods env c sound), rest.methods); own = rest.own }
declarations_fit (written_global n s ∷ ws) env g free h =
    let d = global_declaration n (start_value s) in
    let rest = declarations_fit ws (declare_behind env d) g.1 free.1 (back_sound (declaration_found env d) (declarations_found (declare_behind env d) (map declared ws)) h) in
    record { methods = rest.methods; own = rest.own }
declarations_fit (written_function f ∷ ws) env g free h =
    let d = function_declaration f in
    let env' = body_environment env f in
    let b = Func (function_number env f.name.text) in
    let naming = function_name_found env (signature env outermost f) (entry_of env f.name.text) in
    let sound = back_sound naming (function_found env outermost env' None f) (front_sound (declaration_found env d) (declarations_found env' (map declared ws)) h) in
    let rest = declarations_fit ws env' g.1 free.1 (back_sound (declaration_found env d) (declarations_found env' (map declared ws)) h) in
    let sc = function_scope env None f.result in
    let params = declare_params env' f.parameters sc in
    record {
      methods = rest.methods;
      own = where_defined (has_body (resolve_body env' params f.body)) (resolve_function env outermost env' sc b f) (functions_of (resolve_declarations env' (map declared ws)))
          (λ there. subst (λ x. FunctionCallsFit (resolve_function env outermost env' x b f)) (scope_same env' env None f.result (plain_result f f.kind g.0.1 g.0.0.form))
          (function_fits env outermost env' None b f (sym (same_body env' params f.body) ∙ there) (plain_built env' f f.kind g.0.1 g.0.0.form) free.0 sound)) rest.own;
    }

-- no call is in a specification
still_fits : (own : Option Specification) (f : Function) → FunctionCallsFit f → FunctionCallsFit (settle_function own f)
still_fits own f h = record { initialisers = h.initialisers; body = h.body }

program_fits : (std : Std) (p : Program) (ws : List Written) → map declared ws ≡ p.declarations → Each IsGrammatical ws → AllWrittenFree ws → Valid std p → BuiltinsTakeFew (checked std p)
unfolding checked broken
program_fits std p ws e g free valid =
    let walked = declarations_found (at_the_start p.declarations) p.declarations in
    let once = once_only_found p.declarations in
    let main = breaks_if (not (has_main p.declarations)) no_main p.length in
    let own = standard_found std p.declarations in
    let right = nothing_refused (definitions p.declarations) (walked ++ once ++ main ++ own) valid in
    let sound = front_sound walked once (front_sound (walked ++ once) main (front_sound (walked ++ once ++ main) own right)) in
    let all = go p.declarations (at_the_start p.declarations) e sound in
    let ds = resolve_declarations (at_the_start p.declarations) p.declarations in
    record {
      functions = all_functions FunctionCallsFit still_fits None (functions_of ds) all.own;
      methods = all_classes (λ c. AllByRecursion FunctionCallsFit c.functions) (λ o c. all_functions FunctionCallsFit still_fits o c.functions) std [] (bad_exception ∷ classes_of ds) (tt, all.methods);
    }
  where
    go : (ds : List Declaration) (env : Environment) → map declared ws ≡ ds → Sound (declarations_found env ds) →
        AllCalls (classes_of (resolve_declarations env ds)) (functions_of (resolve_declarations env ds))
    go ds env e sound =
        subst (λ xs. Sound (declarations_found env xs) → AllCalls (classes_of (resolve_declarations env xs)) (functions_of (resolve_declarations env xs))) e
        (λ s. declarations_fit ws env g free s) sound

pub builtins_take_few : (p : Checked) → IsChecked p → BuiltinsTakeFew p
builtins_take_few p h =
    subst BuiltinsTakeFew (sym h.resolved)
    (program_fits h.std h.program h.tree.written h.tree.declarations h.tree.grammatical (source_free h.tokens h.tree.written h.tree.spelled) h.valid)
