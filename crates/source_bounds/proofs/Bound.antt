-- Names that are bound change no number of tokens.
use Rattle.std.proofs.Common.{◌≡◌, ℕ, ◌+◌, ◌*◌, ◌≤◌, Bool, true, false, List, [], ◌∷◌, ◌++◌, map, length, Option, Some, None, if◌then◌else◌, refl, ap, arith}
use Rattle.std.proofs.lemmas.List.{length-map}
use Rattle.cxx_ast.specs.declared.name.Bound.{Bound}
use Rattle.cxx_ast.specs.declared.name.Bound.TheVariants.{Func, Method as MethodBound}
use Rattle.cxx_ast.specs.declared.name.Name.{Name}
use Rattle.cxx_ast.specs.declared.types.Param.{Param}
use Rattle.cxx_ast.specs.Plain.{Expression, number, path, paren, unary, binary, call, std_call, Expressions, no_expressions, expression_then, Statement, block, empty, if_else, while, return, break, continue, throw, try, assign, evaluate, local_int, local_ref, local_object, Else, no_else, else_do, Statements, no_statements, statement_then, Handlers, no_handlers, handler_then, Initialiser, Function, Class, Declaration, class_declaration, global_declaration, function_declaration, Specification, listed, noexcept}
use Rattle.cxx_ast.specs.Environment.{Environment, Scope}
use Rattle.cxx_ast.specs.TypeNames.{has_body}
use Rattle.cxx_ast.specs.Locals.{inner, after, handler_scope, caught_count, locals_in, locals_of, scope_behind, declare_param, declare_params, outermost}
use Rattle.cxx_ast.specs.Resolve.{function_number, resolve_expression, resolve_expressions, resolve_value, resolve_type, resolve_statement, resolve_else, resolve_statements, resolve_handlers, resolve_params, resolve_initialiser, resolve_specification, resolve_body, resolve_function}
use Rattle.cxx_ast.specs.Declare.{next_class, head_environment, head_scope, declare_behind, body_environment, function_scope}
use Rattle.cxx_ast.specs.Checked.{resolve_base, resolve_fields, resolve_methods, resolve_class_tree, resolve_declarations, classes_of, globals_of, functions_of}
use Rattle.source_bounds.specs.LeastTokens.{tokens_in, tokens_in_all, tokens_in_value, statement_tokens, else_tokens, statements_tokens, handlers_tokens, initialisers_tokens, parameters_tokens, specification_tokens, body_tokens, function_tokens, functions_tokens, base_tokens, class_tokens, classes_tokens, declarations_tokens}
use Rattle.cxx_ast.specs.declared.standard.Std.{Std}
use Rattle.cxx_ast.specs.declared.declaration.FuncKind.{FuncKind}
use Rattle.cxx_ast.specs.declared.declaration.FuncKind.TheVariants.{Plain, Method, Constructor, Destructor}
use Rattle.cxx_ast.specs.Settled.{Allowed, allowed_by, destructor_of, given, settled, settle_function, settle_classes, excess}
use Rattle.cxx_ast.proofs.Settled.{given_few, settled_few}

mutual
  expression_kept : (env : Environment) (sc : Scope) (e : Expression) → tokens_in (resolve_expression env sc e) ≡ tokens_in e
  expression_kept env sc (number v place) = refl
  expression_kept env sc (path names) = refl
  expression_kept env sc (paren e place) = omega (arith, expression_kept env sc e)
  expression_kept env sc (unary o e place) = omega (arith, expression_kept env sc e)
  expression_kept env sc (binary o a b) = omega (arith, expression_kept env sc a, expression_kept env sc b)
  expression_kept env sc (call names es) = omega (arith, expressions_kept env sc es)
  expression_kept env sc (std_call n es place) = omega (arith, expressions_kept env sc es)

  expressions_kept : (env : Environment) (sc : Scope) (es : Expressions) → tokens_in_all (resolve_expressions env sc es) ≡ tokens_in_all es
  expressions_kept env sc no_expressions = refl
  expressions_kept env sc (expression_then e es) = omega (arith, expression_kept env sc e, expressions_kept env sc es)

value_kept : (env : Environment) (sc : Scope) (e : Option Expression) → tokens_in_value (resolve_value env sc e) ≡ tokens_in_value e
value_kept env sc None = refl
value_kept env sc (Some e) = expression_kept env sc e

mutual
  statement_kept : (env : Environment) (sc : Scope) (s : Statement) → statement_tokens (resolve_statement env sc s) ≡ statement_tokens s
  statement_kept env sc (block ss) = omega (arith, statements_kept env (inner sc) ss)
  statement_kept env sc empty = refl
  statement_kept env sc (if_else e s t) = omega (arith, expression_kept env sc e, statement_kept env sc s, else_kept env (after (locals_in s) sc) t)
  statement_kept env sc (while e s) = omega (arith, expression_kept env sc e, statement_kept env sc s)
  statement_kept env sc (return place e) = omega (arith, value_kept env sc e)
  statement_kept env sc (break place) = refl
  statement_kept env sc (continue place) = refl
  statement_kept env sc (throw place e) = omega (arith, value_kept env sc e)
  statement_kept env sc (try ss hs) = omega (arith, statements_kept env (inner sc) ss, handlers_kept env (after (locals_of ss) sc) hs)
  statement_kept env sc (assign names e) = omega (arith, expression_kept env sc e)
  statement_kept env sc (evaluate e) = omega (arith, expression_kept env sc e)
  statement_kept env sc (local_int n e) = omega (arith, value_kept env sc e)
  statement_kept env sc (local_ref p names) = refl
  statement_kept env sc (local_object c n es) = omega (arith, expressions_kept env sc es)

  else_kept : (env : Environment) (sc : Scope) (t : Else) → else_tokens (resolve_else env sc t) ≡ else_tokens t
  else_kept env sc no_else = refl
  else_kept env sc (else_do s) = omega (arith, statement_kept env sc s)

  statements_kept : (env : Environment) (sc : Scope) (ss : Statements) → statements_tokens (resolve_statements env sc ss) ≡ statements_tokens ss
  statements_kept env sc no_statements = refl
  statements_kept env sc (statement_then s ss) = omega (arith, statement_kept env sc s, statements_kept env (scope_behind env sc s) ss)

  handlers_kept : (env : Environment) (sc : Scope) (hs : Handlers) → handlers_tokens (resolve_handlers env sc hs) ≡ handlers_tokens hs
  handlers_kept env sc no_handlers = refl
  handlers_kept env sc (handler_then t n ss place hs) =
      omega (arith, statements_kept env (handler_scope env t n sc) ss, handlers_kept env (after (caught_count t + locals_of ss) sc) hs)

pub params_kept : (env : Environment) (sc : Scope) (ps : List Param) → length (resolve_params env sc ps) ≡ length ps
params_kept env sc [] = refl
params_kept env sc (p ∷ ps) = omega (arith, params_kept env (declare_param env p sc) ps)

specification_kept : (env : Environment) (sc : Scope) (k : FuncKind) (o : Option Specification) → specification_tokens k (resolve_specification env sc o) ≡ specification_tokens k o
specification_kept env sc Plain None = refl
specification_kept env sc Plain (Some (listed ts)) = omega (arith, length-map ts (resolve_type env sc))
specification_kept env sc Plain (Some (noexcept place b)) = refl
specification_kept env sc Method None = refl
specification_kept env sc Method (Some (listed ts)) = omega (arith, length-map ts (resolve_type env sc))
specification_kept env sc Method (Some (noexcept place b)) = refl
specification_kept env sc Constructor None = refl
specification_kept env sc Constructor (Some (listed ts)) = omega (arith, length-map ts (resolve_type env sc))
specification_kept env sc Constructor (Some (noexcept place b)) = refl
specification_kept env sc Destructor None = refl
specification_kept env sc Destructor (Some (listed ts)) = omega (arith, length-map ts (resolve_type env sc))
specification_kept env sc Destructor (Some (noexcept place b)) = refl

initialisers_kept : (env : Environment) (sc : Scope) (is : List Initialiser) → initialisers_tokens (map (resolve_initialiser env sc) is) ≡ initialisers_tokens is
initialisers_kept env sc [] = refl
initialisers_kept env sc (i ∷ is) = omega (arith, expressions_kept env sc i.arguments, initialisers_kept env sc is)

body_kept : (env : Environment) (sc : Scope) (o : Option Statements) → body_tokens (resolve_body env sc o) ≡ body_tokens o
body_kept env sc None = refl
body_kept env sc (Some ss) = omega (arith, statements_kept env sc ss)

pub function_kept : (head : Environment) (heads : Scope) (env : Environment) (sc : Scope) (b : Bound) (f : Function) →
    function_tokens (resolve_function head heads env sc b f) ≡ function_tokens f
function_kept head heads env sc b f =
    let there = declare_params env f.parameters sc in
    omega (
      arith,
      ap parameters_tokens (params_kept head heads f.parameters),
      specification_kept head heads f.kind f.specification,
      initialisers_kept env there f.initialisers,
      body_kept env there f.body,
    )

methods_kept : (env : Environment) (c : Class) (i : ℕ) (fs : List Function) → functions_tokens (resolve_methods env c i fs) ≡ functions_tokens fs
methods_kept env c i [] = refl
methods_kept env c i (f ∷ fs) =
    let env' = declare_behind env (class_declaration c) in
    omega (
      arith,
      function_kept (head_environment env c) (head_scope env f.name) env' (function_scope env' (Some (next_class env)) f.result) (MethodBound (next_class env) i) f,
      methods_kept env c (i + 1) fs,
    )

fields_kept : (env : Environment) (c : Class) (i : ℕ) (ps : List Param) → length (resolve_fields env c i ps) ≡ length ps
fields_kept env c i [] = refl
fields_kept env c i (p ∷ ps) = omega (arith, fields_kept env c (i + 1) ps)

base_kept : (env : Environment) (c : Class) (o : Option Name) → base_tokens (resolve_base env c o) ≡ base_tokens o
base_kept env c None = refl
base_kept env c (Some b) = refl

class_kept : (env : Environment) (c : Class) → class_tokens (resolve_class_tree env c) ≡ class_tokens c
class_kept env c = omega (arith, methods_kept env c 0 c.functions, fields_kept env c 0 c.members, base_kept env c c.base)

where_defined : (b : Bool) (f : Function) (fs : List Function) → functions_tokens (if b then f ∷ fs else fs) ≤ function_tokens f + functions_tokens fs
where_defined true f fs = omega arith
where_defined false f fs = omega arith

-- what declarations make of a program
pub declarations_kept : (env : Environment) (ds : List Declaration) →
    classes_tokens (classes_of (resolve_declarations env ds)) + functions_tokens (functions_of (resolve_declarations env ds)) + 3 * length (globals_of (resolve_declarations env ds)) ≤ declarations_tokens ds
declarations_kept env [] = omega arith
declarations_kept env (class_declaration c ∷ ds) =
    omega (arith, class_kept env c, declarations_kept (declare_behind env (class_declaration c)) ds)
declarations_kept env (global_declaration n value ∷ ds) = omega (arith, declarations_kept (declare_behind env (global_declaration n value)) ds)
declarations_kept env (function_declaration f ∷ ds) =
    let env' = body_environment env f in
    let sc = function_scope env None f.result in
    let b = Func (function_number env f.name.text) in
    omega (
      arith,
      where_defined (has_body (resolve_body env' (declare_params env' f.parameters sc) f.body)) (resolve_function env outermost env' sc b f)
          (functions_of (resolve_declarations (declare_behind env (function_declaration f)) ds)),
      function_kept env outermost env' sc b f,
      declarations_kept (declare_behind env (function_declaration f)) ds,
    )

-- specifications that count have no more tokens

settled_tokens : (own : Option Specification) → excess own ≡ 0 → (k : FuncKind) (o : Option Specification) → specification_tokens k (settled own k o) ≤ specification_tokens k o
settled_tokens own e Destructor o = settled_few own Destructor o e
settled_tokens own e Plain None = omega arith
settled_tokens own e Plain (Some (listed ts)) = omega arith
settled_tokens own e Plain (Some (noexcept place true)) = omega arith
settled_tokens own e Plain (Some (noexcept place false)) = omega arith
settled_tokens own e Method None = omega arith
settled_tokens own e Method (Some (listed ts)) = omega arith
settled_tokens own e Method (Some (noexcept place true)) = omega arith
settled_tokens own e Method (Some (noexcept place false)) = omega arith
settled_tokens own e Constructor None = omega arith
settled_tokens own e Constructor (Some (listed ts)) = omega arith
settled_tokens own e Constructor (Some (noexcept place true)) = omega arith
settled_tokens own e Constructor (Some (noexcept place false)) = omega arith

pub function_settled : (own : Option Specification) → excess own ≡ 0 → (f : Function) → function_tokens (settle_function own f) ≤ function_tokens f
function_settled own e f = omega (arith, settled_tokens own e f.kind f.specification)

pub functions_settled : (own : Option Specification) (fs : List Function) → excess own ≡ 0 → functions_tokens (map (settle_function own) fs) ≤ functions_tokens fs
functions_settled own [] e = omega arith
functions_settled own (f ∷ fs) e = omega (arith, function_settled own e f, functions_settled own fs e)

pub classes_settled : (std : Std) (before : List Allowed) (cs : List Class) → classes_tokens (settle_classes std before cs) ≤ classes_tokens cs
classes_settled std before [] = omega arith
classes_settled std before (c ∷ cs) =
    let own = given std before c in
    omega (arith, functions_settled own c.functions (given_few std before c), classes_settled std (before ++ allowed_by (destructor_of own c.functions) ∷ []) cs)
