-- Each try block of a checked program has a handler, since the grammar wants one, also where names are bound.
use Rattle.std.proofs.Common.{◌≡◌, ◌∙◌, ◌+◌, ℕ, Bool, true, false, List, [], ◌∷◌, map, Option, Some, None, if◌then◌else◌, refl, sym, subst}
use Rattle.std.specs.Cmp.Derive.{both_true}
use Rattle.cxx_ast.specs.declared.name.Bound.TheVariants.{Func}
use Rattle.cxx_ast.specs.Plain.{Function, Class, Program, class_declaration, Checked, Statement, block, empty, if_else, while, return, break, continue, throw, try, assign, evaluate, local_int, local_ref, local_object, Else, no_else, else_do, Statements, no_statements, statement_then, Handlers, no_handlers, handler_then}
use Rattle.cxx_ast.specs.Environment.{Environment, Scope}
use Rattle.cxx_ast.specs.Locals.{outermost, declare_params, inner, after, handler_scope, caught_count, locals_in, locals_of, scope_behind}
use Rattle.cxx_ast.specs.TypeNames.{has_body}
use Rattle.cxx_ast.specs.Resolve.{resolve_statement, resolve_else, resolve_statements, resolve_handlers, resolve_body, resolve_function, function_number}
use Rattle.cxx_ast.specs.Grammatical.{Each, Where, SomeHandler, IsStatement, IsElse, AreStatements, AreHandlers, IsMember, IsGrammatical}
use Rattle.cxx_ast.specs.Written.{Member, data_member, function_member, Written, written_class, written_global, written_function, data_members, functions, declared}
use Rattle.cxx_ast.specs.Declare.{at_the_start, declare_behind, body_environment, function_scope, next_class}
use Rattle.cxx_ast.specs.Checked.{resolve_methods, resolve_declarations, classes_of, functions_of, checked, IsChecked, bad_exception}
use Rattle.meaning_forms.specs.Call.{statements_in}
use Rattle.region_forms.specs.WellFormed.{every}
use Rattle.linear_meaning.specs.Clauses.{CheckedCatchesHaveClauses}
use Rattle.linear_meaning.proofs.Statements.{some_handler, handled, else_handled, all_handled, handlers_handled}
use Rattle.linear_meaning.proofs.Functions.{function_handled, class_handled, program_handled, regions_have_clauses}
use Rattle.cxx_ast.specs.declared.standard.Std.{Std}
use Rattle.region_ir.proofs.Settled.{every_settled, classes_settled}

module _ (env : Environment) where
  handler_there : (sc : Scope) (hs : Handlers) → SomeHandler hs → some_handler (resolve_handlers env sc hs) ≡ true
  handler_there sc no_handlers h = absurd h
  handler_there sc (handler_then ty n ss place hs) h = refl

  mutual
    statement_handled : (sc : Scope) (s : Statement) → IsStatement s → handled (resolve_statement env sc s) ≡ true
    statement_handled sc (block ss) h = statements_handled (inner sc) ss h
    statement_handled sc empty h = refl
    statement_handled sc (if_else e s t) h = both_true (statement_handled sc s h.1) (other_handled (after (locals_in s) sc) t h.3)
    statement_handled sc (while e s) h = statement_handled sc s h.1
    statement_handled sc (return place e) h = refl
    statement_handled sc (break place) h = refl
    statement_handled sc (continue place) h = refl
    statement_handled sc (throw place e) h = refl
    statement_handled sc (try ss hs) h =
        let next = after (locals_of ss) sc in
        both_true (handler_there next hs h.1) (both_true (statements_handled (inner sc) ss h.0) (all_handlers_handled next hs h.2))
    statement_handled sc (assign names e) h = refl
    statement_handled sc (evaluate e) h = refl
    statement_handled sc (local_int n e) h = refl
    statement_handled sc (local_ref p names) h = refl
    statement_handled sc (local_object c n es) h = refl

    other_handled : (sc : Scope) (t : Else) → IsElse t → else_handled (resolve_else env sc t) ≡ true
    other_handled sc no_else h = refl
    other_handled sc (else_do s) h = statement_handled sc s h.0

    statements_handled : (sc : Scope) (ss : Statements) → AreStatements ss → all_handled (resolve_statements env sc ss) ≡ true
    statements_handled sc no_statements h = refl
    statements_handled sc (statement_then s ss) h = both_true (statement_handled sc s h.0) (statements_handled (scope_behind env sc s) ss h.1)

    all_handlers_handled : (sc : Scope) (hs : Handlers) → AreHandlers hs → handlers_handled (resolve_handlers env sc hs) ≡ true
    all_handlers_handled sc no_handlers h = refl
    all_handlers_handled sc (handler_then ty n ss place hs) h =
        both_true (statements_handled (handler_scope env ty n sc) ss h.1) (all_handlers_handled (after (caught_count ty + locals_of ss) sc) hs h.2)

  -- a body
  body_handled : (sc : Scope) (body : Option Statements) → Where AreStatements body → all_handled (statements_in (resolve_body env sc body)) ≡ true
  body_handled sc None h = refl
  body_handled sc (Some ss) h = statements_handled sc ss h

-- the functions of a class
methods_handled : (env : Environment) (c : Class) (i : ℕ) (ms : List Member) → Each IsMember ms → every function_handled (resolve_methods env c i (functions ms)) ≡ true
methods_handled env c i [] h = refl
methods_handled env c i (data_member p ∷ ms) h = methods_handled env c i ms h.1
methods_handled env c i (function_member f ∷ ms) h =
    let here = declare_behind env (class_declaration c) in
    both_true (body_handled here (declare_params here f.parameters (function_scope here (Some (next_class env)) f.result)) f.body h.0.0.body)
    (methods_handled env c (i + 1) ms h.1)

-- declarations in order
classes_handled : (env : Environment) (ws : List Written) → Each IsGrammatical ws → every class_handled (classes_of (resolve_declarations env (map declared ws))) ≡ true
classes_handled env [] h = refl
classes_handled env (written_class n is_public base ms ∷ ws) h =
    let c : Class = record { name = n; base = base; members = data_members ms; functions = functions ms } in
    both_true (methods_handled env c 0 ms h.0) (classes_handled (declare_behind env (class_declaration c)) ws h.1)
classes_handled env (written_global n s ∷ ws) h = classes_handled (declare_behind env (declared (written_global n s))) ws h.1
classes_handled env (written_function f ∷ ws) h = classes_handled (declare_behind env (declared (written_function f))) ws h.1

where_defined : (b : Bool) (f : Function) (fs : List Function) → function_handled f ≡ true → every function_handled fs ≡ true →
    every function_handled (if b then f ∷ fs else fs) ≡ true
where_defined true f fs h k = both_true h k
where_defined false f fs h k = k

functions_handled : (env : Environment) (ws : List Written) → Each IsGrammatical ws →
    every function_handled (functions_of (resolve_declarations env (map declared ws))) ≡ true
functions_handled env [] h = refl
functions_handled env (written_class n is_public base ms ∷ ws) h =
    functions_handled (declare_behind env (declared (written_class n is_public base ms))) ws h.1
functions_handled env (written_global n s ∷ ws) h = functions_handled (declare_behind env (declared (written_global n s))) ws h.1
functions_handled env (written_function f ∷ ws) h =
    let here = body_environment env f in
    let there = declare_params here f.parameters (function_scope env None f.result) in
    where_defined (has_body (resolve_body here there f.body))
    (resolve_function env outermost here (function_scope env None f.result) (Func (function_number env f.name.text)) f)
    (functions_of (resolve_declarations (declare_behind env (declared (written_function f))) (map declared ws)))
    (body_handled here there f.body h.0.0.body)
    (functions_handled (declare_behind env (declared (written_function f))) ws h.1)

tree_handled : (std : Std) (p : Program) (ws : List Written) → map declared ws ≡ p.declarations → Each IsGrammatical ws → program_handled (checked std p) ≡ true
unfolding checked
tree_handled std p ws e h =
    let env = at_the_start p.declarations in
    let ds = resolve_declarations env p.declarations in
    both_true
    (every_settled function_handled (λ own f. refl) None (functions_of ds)
    ∙ subst (λ ds. every function_handled (functions_of (resolve_declarations env ds)) ≡ true) e (functions_handled env ws h))
    (classes_settled class_handled (λ own c. every_settled function_handled (λ o f. refl) own c.functions) std [] (bad_exception ∷ classes_of ds)
    ∙ both_true refl (subst (λ ds. every class_handled (classes_of (resolve_declarations env ds)) ≡ true) e (classes_handled env ws h)))

pub checked_handled : (p : Checked) → IsChecked p → program_handled p ≡ true
checked_handled p c = subst (λ q. program_handled q ≡ true) (sym c.resolved) (tree_handled c.std c.program c.tree.written c.tree.declarations c.tree.grammatical)

pub checked_clauses : CheckedCatchesHaveClauses
checked_clauses p l c = regions_have_clauses p l (checked_handled p c)
