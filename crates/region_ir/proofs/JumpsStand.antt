-- In a program that breaks no rule each jump stands in a loop, also where names are bound.
use Rattle.std.proofs.Common.{◌≡◌, ◌∙◌, ◌+◌, ℕ, Bool, true, false, not, ◌||◌, List, [], ◌∷◌, ◌++◌, map, Option, Some, None, if◌then◌else◌, refl, sym, subst}
use Rattle.std.specs.Prelude.{flat_map}
use Rattle.std.specs.Cmp.Derive.{both_true}
use Rattle.cxx_ast.specs.declared.name.Name.{Name}
use Rattle.cxx_ast.specs.declared.name.Bound.TheVariants.{Free, Func}
use Rattle.cxx_ast.specs.declared.types.Ty.{Ty}
use Rattle.cxx_ast.specs.declared.types.Param.{Param}
use Rattle.cxx_ast.specs.Standards.{standard_found}
use Rattle.cxx_ast.specs.declared.standard.Std.{Std}
use Rattle.cxx_ast.specs.Plain.{Function, Class, Declaration, class_declaration, global_declaration, function_declaration, Program, Checked, Statement, block, if_else, while, break, continue, try, Else, no_else, else_do, Statements, no_statements, statement_then, Handlers, no_handlers, handler_then}
use Rattle.cxx_ast.specs.Finding.{breaks_if}
use Rattle.cxx_ast.specs.Rule.{redeclared, loop_jump, handler_order, no_main}
use Rattle.cxx_ast.specs.Environment.{Environment, Scope}
use Rattle.cxx_ast.specs.Lookup.{entry_of}
use Rattle.cxx_ast.specs.Locals.{outermost, declare_param, declare_params, inner, in_a_loop, after, handler_scope, caught_count, locals_in, locals_of, scope_behind}
use Rattle.cxx_ast.specs.TypeNames.{has_body, head_types_found, signature}
use Rattle.cxx_ast.specs.Resolve.{resolve_statement, resolve_else, resolve_statements, resolve_handlers, resolve_body, resolve_function, function_number}
use Rattle.cxx_ast.specs.Reference.{int_found}
use Rattle.cxx_ast.specs.ExpressionRules.{judged}
use Rattle.cxx_ast.specs.StatementRules.{caught_found, catches_all, statement_found, else_found, statements_found, handlers_found}
use Rattle.cxx_ast.specs.FunctionRules.{params_twice, building_of, body_found, definition_found, function_found}
use Rattle.cxx_ast.specs.Declare.{at_the_start, definitions, declare_behind, body_environment, function_scope, head_environment, head_scope, next_class, class_entry, name_of}
use Rattle.cxx_ast.specs.ClassRules.{is_taken, base_found, field_found, method_names, twice_among, specials_found, size_found, method_found, class_rules_found}
use Rattle.cxx_ast.specs.DeclaredNames.{once_only_found}
use Rattle.cxx_ast.specs.Broken.{Valid, broken, declaration_found, declarations_found, has_main, function_name_found}
use Rattle.cxx_ast.specs.Checked.{bad_exception, resolve_methods, resolve_class_tree, resolve_declarations, classes_of, functions_of, checked, IsChecked}
use Rattle.cxx_ast.proofs.ScopesBehind.{loop_behind}
use Rattle.meaning_forms.specs.Call.{statements_in}
use Rattle.region_forms.specs.WellFormed.{every}
use Rattle.region_ir.specs.Exits.{jumps_stand, else_jumps_stand, all_jumps_stand, handler_jumps_stand, function_jumps_stand, class_jumps_stand, program_jumps_stand}
use Rattle.region_ir.proofs.Settled.{every_settled, classes_settled}
use Rattle.region_ir.proofs.Sound.{Sound, sound_parts, held, nothing_refused}

-- parameters are declared in a loop where one is round their scope
param_kept : (env : Environment) (p : Param) (sc : Scope) → (declare_param env p sc).in_loop ≡ sc.in_loop
param_kept env p sc = go p.name
  where
    go : (n : Option Name) → (declare_param env (record p { name = n }) sc).in_loop ≡ sc.in_loop
    go None = refl
    go (Some n) = refl

params_kept : (env : Environment) (ps : List Param) (sc : Scope) → (declare_params env ps sc).in_loop ≡ sc.in_loop
params_kept env [] sc = refl
params_kept env (p ∷ ps) sc = params_kept env ps (declare_param env p sc) ∙ param_kept env p sc

handler_kept : (env : Environment) (ty : Option Ty) (n : Option Name) (sc : Scope) → (handler_scope env ty n sc).in_loop ≡ sc.in_loop
handler_kept env None n sc = refl
handler_kept env (Some ty) n sc = param_kept env (record { ty = ty; name = n }) (inner sc)

-- names are bound in any scope
module _ (other : Environment) where
  mutual
    statement_stands : (env : Environment) (sc there : Scope) (b : Bool) (s : Statement) → sc.in_loop ≡ b → Sound (statement_found env sc s) →
        jumps_stand b (resolve_statement other there s) ≡ true
    statement_stands env sc there b (block ss) e h = statements_stand env (inner sc) (inner there) b ss e h
    statement_stands env sc there b (if_else x s t) e h =
        let parts = sound_parts (int_found (judged env sc x) ++ statement_found env sc s) (else_found env (after (locals_in s) sc) t) h in
        let first = sound_parts (int_found (judged env sc x)) (statement_found env sc s) parts.0 in
        both_true (statement_stands env sc there b s e first.1)
        (else_stands env (after (locals_in s) sc) (after (locals_in s) there) b t e parts.1)
    statement_stands env sc there b (while x s) e h =
        statement_stands env (in_a_loop sc) there true s refl (sound_parts (int_found (judged env sc x)) (statement_found env (in_a_loop sc) s) h).1
    statement_stands env sc there b (break place) e h = sym e ∙ held sc.in_loop loop_jump place h
    statement_stands env sc there b (continue place) e h = sym e ∙ held sc.in_loop loop_jump place h
    statement_stands env sc there b (try ss hs) e h =
        let parts = sound_parts (statements_found env (inner sc) ss) (handlers_found env (after (locals_of ss) sc) false hs) h in
        both_true (statements_stand env (inner sc) (inner there) b ss e parts.0)
        (handlers_stand env (after (locals_of ss) sc) (after (locals_of ss) there) b false hs e parts.1)
    statement_stands env sc there b s e h = refl

    else_stands : (env : Environment) (sc there : Scope) (b : Bool) (t : Else) → sc.in_loop ≡ b → Sound (else_found env sc t) →
        else_jumps_stand b (resolve_else other there t) ≡ true
    else_stands env sc there b no_else e h = refl
    else_stands env sc there b (else_do s) e h = statement_stands env sc there b s e h

    statements_stand : (env : Environment) (sc there : Scope) (b : Bool) (ss : Statements) → sc.in_loop ≡ b → Sound (statements_found env sc ss) →
        all_jumps_stand b (resolve_statements other there ss) ≡ true
    statements_stand env sc there b no_statements e h = refl
    statements_stand env sc there b (statement_then s ss) e h =
        let parts = sound_parts (statement_found env sc s) (statements_found env (scope_behind env sc s) ss) h in
        both_true (statement_stands env sc there b s e parts.0)
        (statements_stand env (scope_behind env sc s) (scope_behind other there s) b ss (loop_behind env sc s ∙ e) parts.1)

    handlers_stand : (env : Environment) (sc there : Scope) (b all : Bool) (hs : Handlers) → sc.in_loop ≡ b → Sound (handlers_found env sc all hs) →
        handler_jumps_stand b (resolve_handlers other there hs) ≡ true
    handlers_stand env sc there b all no_handlers e h = refl
    handlers_stand env sc there b all (handler_then ty n ss place hs) e h =
        let inside = handler_scope env ty n sc in
        let next = after (caught_count ty + locals_of ss) sc in
        let parts = sound_parts (breaks_if all handler_order place ++ caught_found env sc ty ++ statements_found env inside ss)
        (handlers_found env next (all || catches_all ty) hs) h in
        let body = sound_parts (breaks_if all handler_order place ++ caught_found env sc ty) (statements_found env inside ss) parts.0 in
        both_true (statements_stand env inside (handler_scope other ty n there) b ss (handler_kept env ty n sc ∙ e) body.1)
        (handlers_stand env next (after (caught_count ty + locals_of ss) there) b (all || catches_all ty) hs e parts.1)

-- a function
body_stands : (env other : Environment) (sc there : Scope) (own : Option ℕ) (f : Function) (body : Option Statements) → sc.in_loop ≡ false →
    Sound (body_found env sc own f body) → all_jumps_stand false (statements_in (resolve_body other there body)) ≡ true
body_stands env other sc there own f None e h = refl
body_stands env other sc there own f (Some ss) e h =
    statements_stand other env sc there false ss e (sound_parts (building_of env sc own f f.kind) (statements_found env sc ss) h).1

function_stands : (head : Environment) (heads : Scope) (env : Environment) (own : Option ℕ) (f : Function) (other : Environment) (there : Scope) →
    Sound (function_found head heads env own f) → all_jumps_stand false (statements_in (resolve_body other there f.body)) ≡ true
function_stands head heads env own f other there h =
    let sc = declare_params env f.parameters (function_scope env own f.result) in
    let parts = sound_parts (head_types_found head heads f ++ params_twice [] f.parameters ++ body_found env sc own f f.body)
    (definition_found env (resolve_function head heads env (function_scope env own f.result) Free f) f.body) h in
    let body = sound_parts (head_types_found head heads f ++ params_twice [] f.parameters) (body_found env sc own f f.body) parts.0 in
    body_stands env other sc there own f f.body (params_kept env f.parameters (function_scope env own f.result)) body.1

-- the functions of a class
methods_stand : (env : Environment) (c : Class) (i : ℕ) (fs : List Function) → Sound (flat_map (method_found env c) fs) →
    every function_jumps_stand (resolve_methods env c i fs) ≡ true
methods_stand env c i [] h = refl
methods_stand env c i (f ∷ fs) h =
    let parts = sound_parts (method_found env c f) (flat_map (method_found env c) fs) h in
    let env' = declare_behind env (class_declaration c) in
    both_true (function_stands (head_environment env c) (head_scope env f.name) env' (Some (next_class env)) f env'
    (declare_params env' f.parameters (function_scope env' (Some (next_class env)) f.result)) parts.0) (methods_stand env c (i + 1) fs parts.1)

class_stands : (env : Environment) (c : Class) → Sound (class_rules_found env c) → class_jumps_stand (resolve_class_tree env c) ≡ true
class_stands env c h =
    let names = map name_of c.members ++ method_names c.functions in
    methods_stand env c 0 c.functions (sound_parts
    (breaks_if (is_taken env c.name.text) redeclared c.name.place ++ base_found env c c.base ++ flat_map (field_found env c) c.members
    ++ twice_among names names ++ specials_found (next_class env) c.name.text [] (class_entry env c).functions
    ++ size_found (class_entry env c) c.name.place) (flat_map (method_found env c) c.functions) h).1

-- declarations in order
classes_stand : (env : Environment) (ds : List Declaration) → Sound (declarations_found env ds) →
    every class_jumps_stand (classes_of (resolve_declarations env ds)) ≡ true
classes_stand env [] h = refl
classes_stand env (class_declaration c ∷ ds) h =
    let parts = sound_parts (class_rules_found env c) (declarations_found (declare_behind env (class_declaration c)) ds) h in
    both_true (class_stands env c parts.0) (classes_stand (declare_behind env (class_declaration c)) ds parts.1)
classes_stand env (global_declaration n value ∷ ds) h =
    let d = global_declaration n value in
    classes_stand (declare_behind env d) ds (sound_parts (declaration_found env d) (declarations_found (declare_behind env d) ds) h).1
classes_stand env (function_declaration f ∷ ds) h =
    let d = function_declaration f in
    classes_stand (declare_behind env d) ds (sound_parts (declaration_found env d) (declarations_found (declare_behind env d) ds) h).1

where_defined : (b : Bool) (f : Function) (fs : List Function) → function_jumps_stand f ≡ true → every function_jumps_stand fs ≡ true →
    every function_jumps_stand (if b then f ∷ fs else fs) ≡ true
where_defined true f fs h k = both_true h k
where_defined false f fs h k = k

functions_stand : (env : Environment) (ds : List Declaration) → Sound (declarations_found env ds) →
    every function_jumps_stand (functions_of (resolve_declarations env ds)) ≡ true
functions_stand env [] h = refl
functions_stand env (class_declaration c ∷ ds) h =
    let d = class_declaration c in
    functions_stand (declare_behind env d) ds (sound_parts (declaration_found env d) (declarations_found (declare_behind env d) ds) h).1
functions_stand env (global_declaration n value ∷ ds) h =
    let d = global_declaration n value in
    functions_stand (declare_behind env d) ds (sound_parts (declaration_found env d) (declarations_found (declare_behind env d) ds) h).1
functions_stand env (function_declaration f ∷ ds) h =
    let d = function_declaration f in
    let parts = sound_parts (declaration_found env d) (declarations_found (declare_behind env d) ds) h in
    let own = (sound_parts (function_name_found env (signature env outermost f) (entry_of env f.name.text))
    (function_found env outermost (body_environment env f) None f) parts.0).1 in
    let there = declare_params (body_environment env f) f.parameters (function_scope env None f.result) in
    where_defined (has_body (resolve_body (body_environment env f) there f.body))
    (resolve_function env outermost (body_environment env f) (function_scope env None f.result) (Func (function_number env f.name.text)) f)
    (functions_of (resolve_declarations (declare_behind env d) ds))
    (function_stands env outermost (body_environment env f) None f (body_environment env f) there own)
    (functions_stand (declare_behind env d) ds parts.1)

-- what a program declares breaks no rule
pub declared_sound : (std : Std) (p : Program) → Valid std p → Sound (declarations_found (at_the_start p.declarations) p.declarations)
unfolding broken
declared_sound std p valid =
    let walked = declarations_found (at_the_start p.declarations) p.declarations in
    let once = once_only_found p.declarations in
    let main = breaks_if (not (has_main p.declarations)) no_main p.length in
    let own = standard_found std p.declarations in
    let all = nothing_refused (definitions p.declarations) (walked ++ once ++ main ++ own) valid in
    (sound_parts walked once (sound_parts (walked ++ once) main (sound_parts (walked ++ once ++ main) own all).0).0).0

program_stands : (std : Std) (p : Program) → Valid std p → program_jumps_stand (checked std p) ≡ true
unfolding checked
program_stands std p valid =
    let sound = declared_sound std p valid in
    let ds = resolve_declarations (at_the_start p.declarations) p.declarations in
    both_true
    (every_settled function_jumps_stand (λ own f. refl) None (functions_of ds) ∙ functions_stand (at_the_start p.declarations) p.declarations sound)
    (classes_settled class_jumps_stand (λ own c. every_settled function_jumps_stand (λ o f. refl) own c.functions) std [] (bad_exception ∷ classes_of ds)
    ∙ both_true refl (classes_stand (at_the_start p.declarations) p.declarations sound))

pub checked_jumps : (p : Checked) → IsChecked p → program_jumps_stand p ≡ true
checked_jumps p h = subst (λ q. program_jumps_stand q ≡ true) (sym h.resolved) (program_stands h.std h.program h.valid)
