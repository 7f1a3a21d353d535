-- The variables of a checked program's functions have no more bytes by its layout than the limit allows.
use Rattle.std.proofs.Common.{◌≡◌, ◌∙◌, ◌+◌, ◌≤◌, ◌<◌, ℕ, Bool, true, false, not, List, [], ◌∷◌, ◌++◌, map, length, Option, Some, None, if◌then◌else◌, refl, sym, ap, subst, arith}
use Rattle.std.proofs.lemmas.List.{length-append}
use Rattle.std.specs.Prelude.{flat_map, unwrap_or}
use Rattle.std.specs.List.{AllByRecursion}
use Rattle.cxx_ast.specs.declared.name.Bound.TheVariants.{Func, Method as MethodBound}
use Rattle.cxx_ast.specs.declared.types.Ty.{Ty}
use Rattle.cxx_ast.specs.declared.types.Ty.TheVariants.{Int, Void, Object, IntRef, ObjectRef}
use Rattle.cxx_ast.specs.declared.declaration.FuncKind.{FuncKind}
use Rattle.cxx_ast.specs.declared.declaration.FuncKind.TheVariants.{Plain, Method, Constructor, Destructor}
use Rattle.cxx_ast.specs.Plain.{Function, Class, Declaration, class_declaration, global_declaration, function_declaration, Program, Checked, Statements}
use Rattle.cxx_ast.specs.Finding.{is_sound, breaks_if}
use Rattle.cxx_ast.specs.Rule.{redeclared, no_main}
use Rattle.cxx_ast.specs.Written.{Member, data_member, function_member, Written, written_class, written_global, written_function, data_members, functions, start_value, declared}
use Rattle.cxx_ast.specs.Grammatical.{Each, There, HasForm, IsResult, IsFunction, IsMember, IsMemberKind, IsGrammatical}
use Rattle.cxx_ast.specs.Environment.{Environment, Scope, global_thing}
use Rattle.cxx_ast.specs.Lookup.{entry_of}
use Rattle.cxx_ast.specs.Locals.{outermost, declare_params}
use Rattle.cxx_ast.specs.TypeNames.{has_body, signature}
use Rattle.cxx_ast.specs.Resolve.{function_number, resolve_body, resolve_function}
use Rattle.cxx_ast.specs.FunctionRules.{function_found}
use Rattle.cxx_ast.specs.Declare.{at_the_start, definitions, declare_behind, body_environment, function_scope, head_environment, head_scope, next_class, class_entry, name_of}
use Rattle.cxx_ast.specs.ClassRules.{is_taken, base_found, field_found, method_names, twice_among, specials_found, size_found, method_found, class_rules_found}
use Rattle.cxx_ast.specs.DeclaredNames.{once_only_found}
use Rattle.cxx_ast.specs.Standards.{standard_found}
use Rattle.cxx_ast.specs.declared.standard.Std.{Std}
use Rattle.cxx_ast.proofs.Settled.{all_classes, all_functions}
use Rattle.cxx_ast.specs.Broken.{Valid, broken, declaration_found, declarations_found, has_main, function_name_found}
use Rattle.cxx_ast.specs.Checked.{resolve_methods, resolve_class_tree, resolve_declarations, classes_of, functions_of, checked, bad_exception, IsChecked}
use Rattle.region_forms.specs.Layout.{ClassLayout, Layout, layout_at, no_layout, class_layout, layouts_behind, layout_of}
use Rattle.linear_forms.proofs.Lists.{in_front}
use Rattle.class_layout.proofs.Settled.{layouts_settled}
use Rattle.class_layout.proofs.Sound.{front_sound, back_sound, nothing_refused}
use Rattle.class_layout.proofs.Declared.{Matches, kept, named_classes, named_known, behind_function, behind_class}
use Rattle.landing_pads.specs.Frames.{VariablesAreSmall, laid_bytes}
use Rattle.landing_pads.proofs.Counted.{function_small}

-- a class behind others changes no layout before it
layout_kept : (cs : List Class) (laid : List ClassLayout) (k : ℕ) → k < length laid → layout_at (layouts_behind laid cs) k ≡ layout_at laid k
layout_kept [] laid k h = refl
layout_kept (c ∷ cs) laid k h =
    let next = class_layout laid c in
    layout_kept cs (laid ++ next ∷ []) k (omega (arith, h, length-append laid (next ∷ []))) ∙ ap (λ o. unwrap_or o no_layout) (in_front laid (next ∷ []) k h)

-- whether a function gives a value does not hang on what is known
scope_same : (env other : Environment) (own : Option ℕ) (ty : Ty) → IsResult ty → function_scope env own ty ≡ function_scope other own ty
scope_same env other own Int h = refl
scope_same env other own Void h = refl
scope_same env other own (Object n) h = absurd h
scope_same env other own (IntRef const) h = absurd h
scope_same env other own (ObjectRef const n) h = absurd h

body_there : (o : Option Statements) → There o → has_body o ≡ true
body_there None h = absurd h
body_there (Some ss) h = refl

-- a function of a class has a body
member_body : (f : Function) (kind : FuncKind) → HasForm kind f → IsMemberKind kind → has_body f.body ≡ true
member_body f Plain h k = absurd k
member_body f Method h k = body_there f.body h.2
member_body f Constructor h k = body_there f.body h.1
member_body f Destructor h k = body_there f.body h.3

-- the result of a function of no class
plain_result : (f : Function) (kind : FuncKind) → kind ≡ Plain → HasForm kind f → IsResult f.result
plain_result f Plain e h = h.0
plain_result f Method e h = absurd (cc e)
plain_result f Constructor e h = absurd (cc e)
plain_result f Destructor e h = absurd (cc e)

abbrev IsMethod : Function → Type 0
IsMethod f = IsFunction f × IsMemberKind f.kind

methods_in : (ms : List Member) → Each IsMember ms → Each IsMethod (functions ms)
methods_in [] h = tt
methods_in (data_member p ∷ ms) h = methods_in ms h.1
methods_in (function_member f ∷ ms) h = (h.0, methods_in ms h.1)

same_body : (env : Environment) (sc : Scope) (o : Option Statements) → has_body (resolve_body env sc o) ≡ has_body o
same_body env sc None = refl
same_body env sc (Some ss) = refl

module _ (l : Layout) where
  abbrev Within : List Function → Type 0
  Within fs = AllByRecursion (λ f. laid_bytes l f ≤ 1536) fs

  abbrev ClassesWithin : List Class → Type 0
  ClassesWithin cs = AllByRecursion (λ c. Within c.functions) cs

  -- the layouts that are meant go on from these
  abbrev GoOn : List ClassLayout → List Class → Type 0
  GoOn laid cs = l.classes ≡ layouts_behind laid cs

  same_before : (laid : List ClassLayout) (cs : List Class) → GoOn laid cs → (k : ℕ) → k < length laid → layout_at l.classes k ≡ layout_at laid k
  same_before laid cs e k h = ap (λ xs. layout_at xs k) e ∙ layout_kept cs laid k h

  methods_within : (env : Environment) (c : Class) (laid : List ClassLayout) → Matches (declare_behind env (class_declaration c)) laid →
      ((k : ℕ) → k < length laid → layout_at l.classes k ≡ layout_at laid k) → (i : ℕ) (fs : List Function) → Each IsMethod fs →
      is_sound (flat_map (method_found env c) fs) ≡ true → Within (resolve_methods env c i fs)
  methods_within env c laid m same i [] g h = tt
  methods_within env c laid m same i (f ∷ fs) g h =
      let first = method_found env c f in
      let others = flat_map (method_found env c) fs in (
        function_small (declare_behind env (class_declaration c)) laid m l same (head_environment env c) (head_scope env f.name) (Some (next_class env)) (MethodBound (next_class env) i) f
            g.0.0 (member_body f f.kind g.0.0.form g.0.1) (front_sound first others h),
        methods_within env c laid m same (i + 1) fs g.1 (back_sound first others h),
      )

  class_methods : (env : Environment) (c : Class) → is_sound (class_rules_found env c) ≡ true → is_sound (flat_map (method_found env c) c.functions) ≡ true
  class_methods env c h =
      let names = map name_of c.members ++ method_names c.functions in
      back_sound
      (breaks_if (is_taken env c.name.text) redeclared c.name.place ++ base_found env c c.base ++ flat_map (field_found env c) c.members
      ++ twice_among names names ++ specials_found (next_class env) c.name.text [] (class_entry env c).functions
      ++ size_found (class_entry env c) c.name.place) (flat_map (method_found env c) c.functions) h

  where_defined : (b : Bool) (f : Function) (fs : List Function) → (b ≡ true → laid_bytes l f ≤ 1536) → Within fs → Within (if b then f ∷ fs else fs)
  where_defined true f fs h k = (h refl, k)
  where_defined false f fs h k = k

  -- the functions that declarations define, and those of their classes
  record AllWithin (ds : List Declaration) : Type 0 where
    own : Within (functions_of ds)
    methods : ClassesWithin (classes_of ds)

  declarations_within : (ws : List Written) (env : Environment) (laid : List ClassLayout) → Matches env laid →
      GoOn laid (classes_of (resolve_declarations env (map declared ws))) → Each IsGrammatical ws → is_sound (declarations_found env (map declared ws)) ≡ true →
      AllWithin (resolve_declarations env (map declared ws))
  declarations_within [] env laid m e g h = record { own = tt; methods = tt }
  declarations_within (written_class n is_public base ms ∷ ws) env laid m e g h =
      let c : Class = record { name = n; base = base; members = data_members ms; functions = functions ms } in
      let env' = declare_behind env (class_declaration c) in
      let laid' = laid ++ class_layout laid (resolve_class_tree env c) ∷ [] in
      let sound = front_sound (class_rules_found env c) (declarations_found env' (map declared ws)) h in
      let m' = behind_class env laid m c sound in
      let rest = declarations_within ws env' laid' m' e g.1 (back_sound (class_rules_found env c) (declarations_found env' (map declared ws)) h) in
      record {
        own = rest.own;
        methods = (
          methods_within env c laid' m' (same_before laid' (classes_of (resolve_declarations env' (map declared ws))) e) 0 (functions ms) (methods_in ms g.0) (class_methods env c sound),
          rest.methods,
        );
      }
  declarations_within (written_global n s ∷ ws) env laid m e g h =
      let d = global_declaration n (start_value s) in
      let env' = declare_behind env d in
      let m' = kept env env' laid (record { classes = named_classes env n.text (global_thing env.globals); known = λ k x. named_known k env n.text (global_thing env.globals) tt x }) m in
      let rest = declarations_within ws env' laid m' e g.1 (back_sound (declaration_found env d) (declarations_found env' (map declared ws)) h) in
      record { own = rest.own; methods = rest.methods }
  declarations_within (written_function f ∷ ws) env laid m e g h =
      let d = function_declaration f in
      let env' = body_environment env f in
      let m' = kept env env' laid (behind_function env (signature env outermost f)) m in
      let b = Func (function_number env f.name.text) in
      let sc = function_scope env None f.result in
      let naming = function_name_found env (signature env outermost f) (entry_of env f.name.text) in
      let sound = back_sound naming (function_found env outermost env' None f) (front_sound (declaration_found env d) (declarations_found env' (map declared ws)) h) in
      let rest = declarations_within ws env' laid m' e g.1 (back_sound (declaration_found env d) (declarations_found env' (map declared ws)) h) in
      let small : has_body f.body ≡ true → laid_bytes l (resolve_function env outermost env' sc b f) ≤ 1536 = λ there. subst (λ x. laid_bytes l (resolve_function env outermost env' x b f) ≤ 1536) (scope_same env' env None f.result (plain_result f f.kind g.0.1 g.0.0.form))
      (function_small env' laid m' l (same_before laid (classes_of (resolve_declarations env' (map declared ws))) e) env outermost None b f g.0.0 there sound) in
      let params = declare_params env' f.parameters sc in
      record {
        own = where_defined (has_body (resolve_body env' params f.body)) (resolve_function env outermost env' sc b f) (functions_of (resolve_declarations env' (map declared ws)))
            (λ there. small (sym (same_body env' params f.body) ∙ there)) rest.own;
        methods = rest.methods;
      }

program_within : (std : Std) (p : Program) (ws : List Written) → map declared ws ≡ p.declarations → Each IsGrammatical ws → Valid std p → VariablesAreSmall (checked std p) (layout_of (checked std p))
unfolding checked broken
program_within std p ws e g valid =
    let walked = declarations_found (at_the_start p.declarations) p.declarations in
    let once = once_only_found p.declarations in
    let main = breaks_if (not (has_main p.declarations)) no_main p.length in
    let own = standard_found std p.declarations in
    let right = nothing_refused (definitions p.declarations) (walked ++ once ++ main ++ own) valid in
    let sound = front_sound walked once (front_sound (walked ++ once) main (front_sound (walked ++ once ++ main) own right)) in
    let l = layout_of (checked std p) in
    let env = at_the_start p.declarations in
    let start : Matches env (class_layout [] bad_exception ∷ []) = record { sizes = refl; count = refl; known = tt; some = omega arith } in
    let ds = resolve_declarations env p.declarations in
    let all = go p.declarations env l e start (layouts_settled std [] [] (bad_exception ∷ classes_of ds)) sound in
    record {
      functions = all_functions (λ f. laid_bytes l f ≤ 1536) (λ own f h. h) None (functions_of ds) all.own;
      methods = all_classes (λ c. Within l c.functions) (λ own c. all_functions (λ f. laid_bytes l f ≤ 1536) (λ o f h. h) own c.functions) std [] (bad_exception ∷ classes_of ds)
          (tt, all.methods);
    }
  where
    go : (ds : List Declaration) (env : Environment) (l : Layout) → map declared ws ≡ ds → Matches env (class_layout [] bad_exception ∷ []) →
        GoOn l (class_layout [] bad_exception ∷ []) (classes_of (resolve_declarations env ds)) → is_sound (declarations_found env ds) ≡ true → AllWithin l (resolve_declarations env ds)
    go ds env l e m on sound =
        subst (λ xs. GoOn l (class_layout [] bad_exception ∷ []) (classes_of (resolve_declarations env xs)) → is_sound (declarations_found env xs) ≡ true → AllWithin l (resolve_declarations env xs))
        e (λ on sound. declarations_within l ws env (class_layout [] bad_exception ∷ []) m on g sound) on sound

pub checked_within : (p : Checked) → IsChecked p → VariablesAreSmall p (layout_of p)
checked_within p h =
    subst (λ q. VariablesAreSmall q (layout_of q)) (sym h.resolved) (program_within h.std h.program h.tree.written h.tree.declarations h.tree.grammatical h.valid)
