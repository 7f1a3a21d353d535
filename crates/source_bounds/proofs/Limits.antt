-- A function that is defined has at most 2,000 tokens.
use Rattle.std.proofs.Common.{◌≡◌, ℕ, ◌+◌, ◌≤◌, ◌∙◌, Bool, true, false, not, List, [], ◌∷◌, ◌++◌, map, Option, Some, None, if◌then◌else◌, refl, sym, subst, arith}
use Rattle.std.specs.Prelude.{nat_lt, flat_map}
use Rattle.std.specs.List.{AllByRecursion}
use Rattle.std.proofs.lemmas.Bool.Decides.{nat_tests}
use Rattle.cxx_ast.specs.declared.name.Bound.{Bound}
use Rattle.cxx_ast.specs.declared.name.Bound.TheVariants.{Free, Func, Method as MethodBound}
use Rattle.cxx_ast.specs.declared.declaration.FuncKind.{FuncKind}
use Rattle.cxx_ast.specs.declared.declaration.FuncKind.TheVariants.{Plain, Method, Constructor, Destructor}
use Rattle.cxx_ast.specs.Plain.{Function, Class, Declaration, class_declaration, global_declaration, function_declaration, Program, Checked, Statements, Specification}
use Rattle.cxx_ast.specs.Broken.{Valid, broken, declaration_found, declarations_found, has_main, function_name_found}
use Rattle.cxx_ast.specs.Checked.{resolve_methods, resolve_declarations, classes_of, functions_of, checked, IsChecked, bad_exception}
use Rattle.cxx_ast.specs.ClassRules.{is_taken, base_found, field_found, method_names, twice_among, specials_found, size_found, method_found, class_rules_found}
use Rattle.cxx_ast.specs.Declare.{at_the_start, definitions, declare_behind, head_environment, head_scope, next_class, class_entry, name_of, body_environment, function_scope}
use Rattle.cxx_ast.specs.DeclaredNames.{once_only_found}
use Rattle.cxx_ast.specs.Environment.{Environment, Scope}
use Rattle.cxx_ast.specs.Finding.{is_sound, breaks_if}
use Rattle.cxx_ast.specs.FunctionRules.{function_found, body_found, definition_found, params_twice}
use Rattle.cxx_ast.specs.Grammatical.{Each, There, HasForm, IsFunction, IsMember, IsMemberKind, IsGrammatical}
use Rattle.cxx_ast.specs.Limits.{most_function_tokens, most_variable_bytes}
use Rattle.cxx_ast.specs.Locals.{declare_params, outermost}
use Rattle.cxx_ast.specs.Lookup.{entry_of}
use Rattle.cxx_ast.specs.Resolve.{function_number, resolve_body, resolve_function}
use Rattle.cxx_ast.specs.Rule.{redeclared, no_main, function_too_long, frame_too_large}
use Rattle.cxx_ast.specs.Sizes.{variables_bytes}
use Rattle.cxx_ast.specs.TypeNames.{has_body, head_types_found, signature}
use Rattle.cxx_ast.specs.Written.{Member, data_member, function_member, Written, written_class, written_global, written_function, data_members, functions, start_value, declared}
use Rattle.class_layout.proofs.Sound.{front_sound, back_sound, not_broken, nothing_refused}
use Rattle.source_bounds.specs.LeastTokens.{function_tokens}
use Rattle.source_bounds.proofs.Bound.{function_kept, function_settled}
use Rattle.source_bounds.proofs.Spelled.{function_spelled}
use Rattle.cxx_ast.specs.declared.standard.Std.{Std}
use Rattle.cxx_ast.specs.Settled.{Allowed, allowed_by, destructor_of, given, settle_function, settle_classes, excess}
use Rattle.cxx_ast.specs.Standards.{standard_found}
use Rattle.cxx_ast.proofs.Settled.{given_few}

abbrev Short : List Function → Type 0
Short fs = AllByRecursion (λ f. function_tokens f ≤ 2000) fs

-- what is in the limit
within_limit : (tokens size place : ℕ) → is_sound (breaks_if (nat_lt most_function_tokens tokens) function_too_long place ++ breaks_if (nat_lt most_variable_bytes size) frame_too_large place) ≡ true → tokens ≤ 2000
within_limit tokens size place h =
    let e = not_broken (nat_lt most_function_tokens tokens) function_too_long place
    (front_sound (breaks_if (nat_lt most_function_tokens tokens) function_too_long place) (breaks_if (nat_lt most_variable_bytes size) frame_too_large place) h) in
    small tokens e
  where
    small : (n : ℕ) → nat_lt 2000 n ≡ false → n ≤ 2000
    small n e = grind (arith, nat_tests)

function_short : (head : Environment) (heads : Scope) (env : Environment) (own : Option ℕ) (sc : Scope) (b : Bound) (f : Function) → IsFunction f → has_body f.body ≡ true →
    is_sound (function_found head heads env own f) ≡ true → function_tokens (resolve_function head heads env sc b f) ≤ 2000
function_short head heads env own sc b f g there h =
    let inner = declare_params env f.parameters (function_scope env own f.result) in
    let named = resolve_function head heads env (function_scope env own f.result) Free f in
    let heading = head_types_found head heads f ++ params_twice [] f.parameters in
    let limit = limited f.body there (back_sound (heading ++ body_found env inner own f f.body) (definition_found env named f.body) h) in
    omega (arith, limit, function_kept head heads env sc b f, function_spelled f [] g, g.tokens)
  where
    limited : (o : Option Statements) → has_body o ≡ true →
        is_sound (definition_found env (resolve_function head heads env (function_scope env own f.result) Free f) o) ≡ true → f.tokens ≤ 2000
    limited None e s = absurd (cc e)
    limited (Some ss) e s = within_limit f.tokens (variables_bytes env (resolve_function head heads env (function_scope env own f.result) Free f)) f.name.place s

body_there : (o : Option Statements) → There o → has_body o ≡ true
body_there None h = absurd h
body_there (Some ss) h = refl

-- a function of a class has a body
pub member_body : (f : Function) (kind : FuncKind) → HasForm kind f → IsMemberKind kind → has_body f.body ≡ true
member_body f Plain h k = absurd k
member_body f Method h k = body_there f.body h.2
member_body f Constructor h k = body_there f.body h.1
member_body f Destructor h k = body_there f.body h.3

abbrev pub IsMethod : Function → Type 0
IsMethod f = IsFunction f × IsMemberKind f.kind

pub methods_in : (ms : List Member) → Each IsMember ms → Each IsMethod (functions ms)
methods_in [] h = tt
methods_in (data_member p ∷ ms) h = methods_in ms h.1
methods_in (function_member f ∷ ms) h = (h.0, methods_in ms h.1)

pub same_body : (env : Environment) (sc : Scope) (o : Option Statements) → has_body (resolve_body env sc o) ≡ has_body o
same_body env sc None = refl
same_body env sc (Some ss) = refl

methods_short : (env : Environment) (c : Class) (i : ℕ) (fs : List Function) → Each IsMethod fs → is_sound (flat_map (method_found env c) fs) ≡ true → Short (resolve_methods env c i fs)
methods_short env c i [] g h = tt
methods_short env c i (f ∷ fs) g h =
    let env' = declare_behind env (class_declaration c) in
    let first = method_found env c f in
    let others = flat_map (method_found env c) fs in (
      function_short (head_environment env c) (head_scope env f.name) env' (Some (next_class env)) (function_scope env' (Some (next_class env)) f.result) (MethodBound (next_class env) i) f
          g.0.0 (member_body f f.kind g.0.0.form g.0.1) (front_sound first others h),
      methods_short env c (i + 1) fs g.1 (back_sound first others h),
    )

pub class_methods : (env : Environment) (c : Class) → is_sound (class_rules_found env c) ≡ true → is_sound (flat_map (method_found env c) c.functions) ≡ true
class_methods env c h =
    let names = map name_of c.members ++ method_names c.functions in
    back_sound
    (breaks_if (is_taken env c.name.text) redeclared c.name.place ++ base_found env c c.base ++ flat_map (field_found env c) c.members
    ++ twice_among names names ++ specials_found (next_class env) c.name.text [] (class_entry env c).functions
    ++ size_found (class_entry env c) c.name.place) (flat_map (method_found env c) c.functions) h

where_defined : (b : Bool) (f : Function) (fs : List Function) → (b ≡ true → function_tokens f ≤ 2000) → Short fs → Short (if b then f ∷ fs else fs)
where_defined true f fs h k = (h refl, k)
where_defined false f fs h k = k

-- the functions of classes, and those of none
pub record AllShort (classes : List Class) (fs : List Function) : Type 0 where
  pub methods : AllByRecursion (λ c. Short c.functions) classes
  pub own : Short fs

declarations_short : (ws : List Written) (env : Environment) → Each IsGrammatical ws → is_sound (declarations_found env (map declared ws)) ≡ true →
    AllShort (classes_of (resolve_declarations env (map declared ws))) (functions_of (resolve_declarations env (map declared ws)))
declarations_short [] env g h = record { methods = tt; own = tt }
declarations_short (written_class n is_public base ms ∷ ws) env g h =
    let c : Class = record { name = n; base = base; members = data_members ms; functions = functions ms } in
    let env' = declare_behind env (class_declaration c) in
    let sound = front_sound (class_rules_found env c) (declarations_found env' (map declared ws)) h in
    let rest = declarations_short ws env' g.1 (back_sound (class_rules_found env c) (declarations_found env' (map declared ws)) h) in
    record { methods = (methods_short env c 0 (functions ms) (methods_in ms g.0) (class_methods env c sound), rest.methods); own = rest.own }
declarations_short (written_global n s ∷ ws) env g h =
    let d = global_declaration n (start_value s) in
    let rest = declarations_short ws (declare_behind env d) g.1 (back_sound (declaration_found env d) (declarations_found (declare_behind env d) (map declared ws)) h) in
    record { methods = rest.methods; own = rest.own }
declarations_short (written_function f ∷ ws) env g h =
    let d = function_declaration f in
    let env' = body_environment env f in
    let b = Func (function_number env f.name.text) in
    let sc = function_scope env None f.result in
    let naming = function_name_found env (signature env outermost f) (entry_of env f.name.text) in
    let sound = back_sound naming (function_found env outermost env' None f) (front_sound (declaration_found env d) (declarations_found env' (map declared ws)) h) in
    let rest = declarations_short ws env' g.1 (back_sound (declaration_found env d) (declarations_found env' (map declared ws)) h) in
    let params = declare_params env' f.parameters sc in
    record {
      methods = rest.methods;
      own = where_defined (has_body (resolve_body env' params f.body)) (resolve_function env outermost env' sc b f) (functions_of (resolve_declarations env' (map declared ws)))
          (λ there. function_short env outermost env' None sc b f g.0.0 (sym (same_body env' params f.body) ∙ there) sound) rest.own;
    }

-- so has one with the specification that counts
functions_still_short : (own : Option Specification) (fs : List Function) → excess own ≡ 0 → Short fs → Short (map (settle_function own) fs)
functions_still_short own [] e h = tt
functions_still_short own (f ∷ fs) e h = (omega (arith, function_settled own e f, h.0), functions_still_short own fs e h.1)

classes_still_short : (std : Std) (before : List Allowed) (cs : List Class) → AllByRecursion (λ c. Short c.functions) cs → AllByRecursion (λ c. Short c.functions) (settle_classes std before cs)
classes_still_short std before [] h = tt
classes_still_short std before (c ∷ cs) h =
    let own = given std before c in
    (functions_still_short own c.functions (given_few std before c) h.0, classes_still_short std (before ++ allowed_by (destructor_of own c.functions) ∷ []) cs h.1)

program_short : (std : Std) (p : Program) (ws : List Written) → map declared ws ≡ p.declarations → Each IsGrammatical ws → Valid std p → AllShort (checked std p).classes (checked std p).functions
unfolding checked broken
program_short std p ws e g valid =
    let walked = declarations_found (at_the_start p.declarations) p.declarations in
    let once = once_only_found p.declarations in
    let main = breaks_if (not (has_main p.declarations)) no_main p.length in
    let own = standard_found std p.declarations in
    let right = nothing_refused (definitions p.declarations) (walked ++ once ++ main ++ own) valid in
    let sound = front_sound walked once (front_sound (walked ++ once) main (front_sound (walked ++ once ++ main) own right)) in
    let env = at_the_start p.declarations in
    let all = go p.declarations env e sound in
    let ds = resolve_declarations env p.declarations in
    record {
      methods = classes_still_short std [] (bad_exception ∷ classes_of ds) (tt, all.methods);
      own = functions_still_short None (functions_of ds) refl all.own;
    }
  where
    go : (ds : List Declaration) (env : Environment) → map declared ws ≡ ds → is_sound (declarations_found env ds) ≡ true →
        AllShort (classes_of (resolve_declarations env ds)) (functions_of (resolve_declarations env ds))
    go ds env e sound =
        subst (λ xs. is_sound (declarations_found env xs) ≡ true → AllShort (classes_of (resolve_declarations env xs)) (functions_of (resolve_declarations env xs))) e
        (λ s. declarations_short ws env g s) sound

pub checked_short : (p : Checked) → IsChecked p → AllShort p.classes p.functions
checked_short p h =
    subst (λ q. AllShort q.classes q.functions) (sym h.resolved) (program_short h.std h.program h.tree.written h.tree.declarations h.tree.grammatical h.valid)
