-- The plain tree that a tree in memory stands for.
use Rattle.std.specs.Prelude.{List, [], ◌∷◌, Option, Some, None, map}
use Rattle.cxx_ast.specs.declared.declaration.Init.{Init}
use Rattle.cxx_ast.specs.declared.declaration.Func.{Func}
use Rattle.cxx_ast.specs.declared.declaration.Spec.{Spec}
use Rattle.cxx_ast.specs.declared.declaration.Spec.TheVariants as form
use Rattle.cxx_ast.specs.declared.declaration.ClassDecl.{ClassDecl}
use Rattle.cxx_ast.specs.declared.declaration.Decl.{Decl}
use Rattle.cxx_ast.specs.declared.declaration.Decl.TheVariants.{Class as ClassDeclared, Global as GlobalDeclared, Func as FuncDeclared}
use Rattle.cxx_ast.specs.declared.program.Program.{Program as ProgramValue}
use Rattle.cxx_ast.specs.declared.program.Checked.{Checked as CheckedValue}
use Rattle.cxx_ast.specs.declared.expression.Expr.{Expr, Number, Path, Paren', Unary', Binary', Call', StdCall', Row_of-Expr, end_of-Expr, more_of-Expr}
use Rattle.cxx_ast.specs.declared.statement.Handler.{Handler}
use Rattle.cxx_ast.specs.declared.statement.Stmt.{Stmt, Block', Empty, If', While', Return, Break, Continue, Throw, Try', Assign, Call, LocalInt, LocalRef, LocalObject, Row_of-Stmt, end_of-Stmt, more_of-Stmt, Held-Stmt-If-2, None', Some', Row_of-Handler, end_of-Handler, more_of-Handler}
use Rattle.cxx_ast.specs.Plain.{Expression, number, path, paren, unary, binary, call, std_call, Expressions, no_expressions, expression_then, Statement, block, empty, if_else, while, return, break, continue, throw, try, assign, evaluate, local_int, local_ref, local_object, Else, no_else, else_do, Statements, no_statements, statement_then, Handlers, no_handlers, handler_then, Initialiser, Specification, listed, noexcept, Function, Class, Declaration, class_declaration, global_declaration, function_declaration, Program, Checked}

-- an option by its value
abbrev pub option_of : {A B : Type 0} → (A → B) → Option A → Option B
option_of f None = None
option_of f (Some a) = Some (f a)

-- an expression, and the rows of expressions in it
abbrev mutual
  pub expression_of : Expr → Expression
  expression_of (Number n place) = number n place
  expression_of (Path l) = path l.path.items
  expression_of (Paren' p e place) = paren (expression_of e) place
  expression_of (Unary' op p e place) = unary op (expression_of e) place
  expression_of (Binary' op p a q b) = binary op (expression_of a) (expression_of b)
  expression_of (Call' callee shape row) = call callee.path.items (row_of_expressions row)
  expression_of (StdCall' callee shape row place) = std_call callee (row_of_expressions row) place

  pub row_of_expressions : {n : _} → Row_of-Expr n → Expressions
  row_of_expressions end_of-Expr = no_expressions
  row_of_expressions (more_of-Expr e rest) = expression_then (expression_of e) (row_of_expressions rest)

-- a list of expressions
abbrev pub expressions_of : List Expr → Expressions
expressions_of [] = no_expressions
expressions_of (e ∷ es) = expression_then (expression_of e) (expressions_of es)

-- a statement, and the rows of statements and handlers in it
abbrev mutual
  pub statement_of : Stmt → Statement
  statement_of (Block' shape row) = block (row_of_statements row)
  statement_of Empty = empty
  statement_of (If' e p a b) = if_else (expression_of e) (statement_of a) (else_of b)
  statement_of (While' e p s) = while (expression_of e) (statement_of s)
  statement_of (Return place e) = return place (option_of expression_of e)
  statement_of (Break place) = break place
  statement_of (Continue place) = continue place
  statement_of (Throw place e) = throw place (option_of expression_of e)
  statement_of (Try' shape row handlers_shape handlers_row) = try (row_of_statements row) (row_of_handlers handlers_row)
  statement_of (Assign l e) = assign l.path.items (expression_of e)
  statement_of (Call e) = evaluate (expression_of e)
  statement_of (LocalInt n e) = local_int n (option_of expression_of e)
  statement_of (LocalRef p l) = local_ref p l.path.items
  statement_of (LocalObject c n arguments) = local_object c n (expressions_of arguments.items)

  pub else_of : Held-Stmt-If-2 → Else
  else_of None' = no_else
  else_of (Some' p s) = else_do (statement_of s)

  pub row_of_statements : {n : _} → Row_of-Stmt n → Statements
  row_of_statements end_of-Stmt = no_statements
  row_of_statements (more_of-Stmt s rest) = statement_then (statement_of s) (row_of_statements rest)

  pub row_of_handlers : {n : _} → Row_of-Handler n → Handlers
  row_of_handlers end_of-Handler = no_handlers
  row_of_handlers (more_of-Handler ty n shape row place rest) =
      handler_then ty n (row_of_statements row) place (row_of_handlers rest)

-- the statements of a body
abbrev pub statements_of : List Stmt → Statements
statements_of [] = no_statements
statements_of (s ∷ ss) = statement_then (statement_of s) (statements_of ss)

-- the handlers of a list
abbrev pub handlers_of : List Handler → Handlers
handlers_of [] = no_handlers
handlers_of (h ∷ hs) = handler_then h.ty h.name (statements_of h.body.items) h.place (handlers_of hs)

-- an initialiser
abbrev pub initialiser_of : Init → Initialiser
initialiser_of i = record { name = i.name; arguments = expressions_of i.args.items }

-- an exception specification
abbrev pub specification_of : Spec → Specification
specification_of (form.Throw types) = listed types.items
specification_of (form.Noexcept place b) = noexcept place b

-- a function
abbrev pub function_of : Func → Function
function_of f = record {
  name = f.name;
  kind = f.kind;
  result = f.result;
  parameters = f.params.items;
  specification = option_of specification_of f.spec;
  initialisers = map initialiser_of f.inits.items;
  body = option_of (λ body. statements_of body.items) f.body;
  tokens = f.tokens;
}

-- a class
abbrev pub class_of : ClassDecl → Class
class_of c = record {
  name = c.name;
  base = c.base;
  members = c.members.items;
  functions = map function_of c.funcs.items;
}

-- a declaration
abbrev pub declaration_of : Decl → Declaration
declaration_of (ClassDeclared c) = class_declaration (class_of c)
declaration_of (GlobalDeclared n start) = global_declaration n start
declaration_of (FuncDeclared f) = function_declaration (function_of f)

-- a program
abbrev pub program_of : ProgramValue → Program
program_of p = record { declarations = map declaration_of p.decls.items; tokens = p.tokens; length = p.length }

-- a checked program
abbrev pub checked_of : CheckedValue → Checked
checked_of c = record {
  program = program_of c.program;
  classes = map class_of c.classes.items;
  globals = c.globals.items;
  functions = map function_of c.functions.items;
  main = c.main;
}
