-- The same tree with each name bound to what it means. A local variable is numbered among the declarations of its function, parameters first;
-- a member or a member function among those of its class, constructors and the destructor counted; a function among those that are defined.
use Rattle.std.specs.Prelude.{ℕ, ◌+◌, List, [], ◌∷◌, map, length, bytes_eq, codes, position, Option, Some, None, unwrap_or, if◌then◌else◌}
use Rattle.cxx_ast.specs.declared.name.Bound.{Bound}
use Rattle.cxx_ast.specs.declared.name.Bound.TheVariants.{Free, Global, Local, Field, Class, Func, Method, Builtin as BuiltinBound}
use Rattle.cxx_ast.specs.declared.name.Name.{Name}
use Rattle.cxx_ast.specs.declared.types.Ty.{Ty}
use Rattle.cxx_ast.specs.declared.types.Ty.TheVariants.{Object, ObjectRef}
use Rattle.cxx_ast.specs.declared.types.Param.{Param}
use Rattle.cxx_ast.specs.Plain.{Expression, number, path, paren, unary, binary, call, std_call, Expressions, no_expressions, expression_then, Statement, block, empty, if_else, while, return, break, continue, throw, try, assign, evaluate, local_int, local_ref, local_object, Else, no_else, else_do, Statements, no_statements, statement_then, Handlers, no_handlers, handler_then, Initialiser, Specification, listed, noexcept, Function}
use Rattle.cxx_ast.specs.Spelling.{is_bad_exception}
use Rattle.cxx_ast.specs.Environment.{Kind, class_kind, no_kind, Environment, Scope, Meaning, unknown, a_local, a_field, a_method, a_global, a_function, a_class, a_builtin}
use Rattle.cxx_ast.specs.Lookup.{look, member_meaning, own_meaning, meaning_kind}
use Rattle.cxx_ast.specs.Calls.{std_builtin}
use Rattle.cxx_ast.specs.Locals.{inner, after, handler_scope, caught_count, locals_in, locals_of, scope_behind, declare_param, declare_params}

-- the number of a function among those that the program defines; one that is never defined has the number behind them
abbrev pub function_number : Environment → List ℕ → ℕ
function_number env text = unwrap_or (position (λ d. bytes_eq d text) env.definitions) (length env.definitions)

-- what a meaning binds to
abbrev pub bound_of : Environment → Meaning → Bound
bound_of env unknown = Free
bound_of env (a_local v) = Local v.number
bound_of env (a_field k i kind) = Field k i
bound_of env (a_method k i s) = Method k i
bound_of env (a_global n) = Global n
bound_of env (a_function s) = Func (function_number env s.name.text)
bound_of env (a_class k) = Class k
bound_of env (a_builtin b) = BuiltinBound b

-- a name with a bound
abbrev pub bind : Name → Bound → Name
bind n b = record n { bound = b }

-- a name, where there is one
abbrev pub bind_some : Option Name → Bound → Option Name
bind_some None b = None
bind_some (Some n) b = Some (bind n b)

-- the name of a class as a type
abbrev pub resolve_class : Environment → Scope → Name → Name
resolve_class env sc n = if is_bad_exception n then bind n (Class 0) else bind n (bound_of env (look env sc n))

-- a type
abbrev pub resolve_type : Environment → Scope → Ty → Ty
resolve_type env sc (Object n) = Object (resolve_class env sc n)
resolve_type env sc (ObjectRef const n) = ObjectRef const (resolve_class env sc n)
resolve_type env sc ty = ty

-- the members behind something of a type
abbrev pub resolve_members : Environment → Kind → List Name → List Name
resolve_members env kind [] = []
resolve_members env (class_kind k) (n ∷ names) =
    let m = member_meaning env k n.text in bind n (bound_of env m) ∷ resolve_members env (meaning_kind m) names
resolve_members env kind (n ∷ names) = n ∷ resolve_members env no_kind names

-- a path, also of a call
abbrev pub resolve_path : Environment → Scope → List Name → List Name
resolve_path env sc [] = []
resolve_path env sc (n ∷ names) = let m = look env sc n in bind n (bound_of env m) ∷ resolve_members env (meaning_kind m) names

-- a built-in function of `std`, or its class
abbrev pub std_bound : List ℕ → Bound
std_bound text = if bytes_eq text (codes "bad_exception") then Class 0 else elim (std_builtin text) [ None ↦ Free | Some b ↦ BuiltinBound b ]

-- an expression, and a list of them
abbrev mutual
  pub resolve_expression : Environment → Scope → Expression → Expression
  resolve_expression env sc (number n place) = number n place
  resolve_expression env sc (path names) = path (resolve_path env sc names)
  resolve_expression env sc (paren e place) = paren (resolve_expression env sc e) place
  resolve_expression env sc (unary op e place) = unary op (resolve_expression env sc e) place
  resolve_expression env sc (binary op a b) = binary op (resolve_expression env sc a) (resolve_expression env sc b)
  resolve_expression env sc (call names es) = call (resolve_path env sc names) (resolve_expressions env sc es)
  resolve_expression env sc (std_call n es place) = std_call (bind n (std_bound n.text)) (resolve_expressions env sc es) place

  pub resolve_expressions : Environment → Scope → Expressions → Expressions
  resolve_expressions env sc no_expressions = no_expressions
  resolve_expressions env sc (expression_then e es) = expression_then (resolve_expression env sc e) (resolve_expressions env sc es)

-- an expression, where there is one
abbrev pub resolve_value : Environment → Scope → Option Expression → Option Expression
resolve_value env sc None = None
resolve_value env sc (Some e) = Some (resolve_expression env sc e)

-- a parameter with its number
abbrev pub resolve_param : Environment → Scope → Param → Param
resolve_param env sc p = record { ty = resolve_type env sc p.ty; name = bind_some p.name (Local sc.next) }

-- what a handler catches
abbrev pub resolve_caught : Environment → Scope → Option Ty → Option Ty
resolve_caught env sc None = None
resolve_caught env sc (Some ty) = Some (resolve_type env sc ty)

-- a statement, what stands behind `else`, the statements of a block, and handlers
abbrev mutual
  pub resolve_statement : Environment → Scope → Statement → Statement
  resolve_statement env sc (block ss) = block (resolve_statements env (inner sc) ss)
  resolve_statement env sc empty = empty
  resolve_statement env sc (if_else e s other) =
      if_else (resolve_expression env sc e) (resolve_statement env sc s) (resolve_else env (after (locals_in s) sc) other)
  resolve_statement env sc (while e s) = while (resolve_expression env sc e) (resolve_statement env sc s)
  resolve_statement env sc (return place e) = return place (resolve_value env sc e)
  resolve_statement env sc (break place) = break place
  resolve_statement env sc (continue place) = continue place
  resolve_statement env sc (throw place e) = throw place (resolve_value env sc e)
  resolve_statement env sc (try ss hs) = try (resolve_statements env (inner sc) ss) (resolve_handlers env (after (locals_of ss) sc) hs)
  resolve_statement env sc (assign names e) = assign (resolve_path env sc names) (resolve_expression env sc e)
  resolve_statement env sc (evaluate e) = evaluate (resolve_expression env sc e)
  resolve_statement env sc (local_int n e) = local_int (bind n (Local sc.next)) (resolve_value env sc e)
  resolve_statement env sc (local_ref p names) = local_ref (resolve_param env sc p) (resolve_path env sc names)
  resolve_statement env sc (local_object c n es) = local_object (resolve_class env sc c) (bind n (Local sc.next)) (resolve_expressions env sc es)

  pub resolve_else : Environment → Scope → Else → Else
  resolve_else env sc no_else = no_else
  resolve_else env sc (else_do s) = else_do (resolve_statement env sc s)

  pub resolve_statements : Environment → Scope → Statements → Statements
  resolve_statements env sc no_statements = no_statements
  resolve_statements env sc (statement_then s ss) =
      statement_then (resolve_statement env sc s) (resolve_statements env (scope_behind env sc s) ss)

  pub resolve_handlers : Environment → Scope → Handlers → Handlers
  resolve_handlers env sc no_handlers = no_handlers
  resolve_handlers env sc (handler_then ty n ss place hs) =
      handler_then (resolve_caught env sc ty) (bind_some n (Local sc.next)) (resolve_statements env (handler_scope env ty n sc) ss) place
      (resolve_handlers env (after (caught_count ty + locals_of ss) sc) hs)

-- parameters with their numbers
abbrev pub resolve_params : Environment → Scope → List Param → List Param
resolve_params env sc [] = []
resolve_params env sc (p ∷ ps) = resolve_param env sc p ∷ resolve_params env (declare_param env p sc) ps

-- an initialiser: its name is a member, or else the base
abbrev pub resolve_initialiser : Environment → Scope → Initialiser → Initialiser
resolve_initialiser env sc i = record {
  name = bind i.name (elim (own_meaning env sc i.name.text) [ unknown ↦ bound_of env (look env sc i.name) | m ↦ bound_of env m ]);
  arguments = resolve_expressions env sc i.arguments;
}

-- a specification
abbrev pub resolve_specification : Environment → Scope → Option Specification → Option Specification
resolve_specification env sc None = None
resolve_specification env sc (Some (listed types)) = Some (listed (map (resolve_type env sc) types))
resolve_specification env sc (Some (noexcept place b)) = Some (noexcept place b)

-- a body
abbrev pub resolve_body : Environment → Scope → Option Statements → Option Statements
resolve_body env sc None = None
resolve_body env sc (Some ss) = Some (resolve_statements env sc ss)

-- a function whose own name is bound so, in the scope of its parameters; the types of its head are sought with the names of another environment
abbrev pub resolve_function : Environment → Scope → Environment → Scope → Bound → Function → Function
resolve_function head head_scope env sc b f = record {
  name = bind f.name b;
  kind = f.kind;
  result = f.result;
  parameters = resolve_params head head_scope f.parameters;
  specification = resolve_specification head head_scope f.specification;
  initialisers = map (resolve_initialiser env (declare_params env f.parameters sc)) f.initialisers;
  body = resolve_body env (declare_params env f.parameters sc) f.body;
  tokens = f.tokens;
}
