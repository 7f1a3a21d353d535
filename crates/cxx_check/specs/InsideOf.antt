-- What stands behind the head of a function, as it lies in memory.
use Rattle.std.specs.Prelude.{ℕ, ◌≡◌, Vec, Option, map}
use Rattle.std.specs.declared.alloc.Global.{Global}
use Rattle.cxx_ast.specs.declared.statement.Stmt.{Stmt}
use Rattle.cxx_ast.specs.Plain.{Statements, Function}
use Rattle.cxx_ast.specs.Environment.{Environment}
use Rattle.cxx_ast.specs.Resolve.{resolve_initialiser, resolve_body}
use Rattle.cxx_ast.specs.View.{initialiser_of, statements_of, option_of}
use Rattle.cxx_check.specs.declared.inside.Inside.{Inside}
use Rattle.cxx_check.specs.FunctionParts.{inside_scope}

-- a body
abbrev pub body_of : Option (Vec Stmt Global) → Option Statements
body_of = option_of (λ body. statements_of body.items)

-- it is that of a function of class `own` or of none, with its names bound
pub record IsInside (env : Environment) (own : Option ℕ) (f : Function) (i : Inside) : Type 0 where
  pub initialisers : map initialiser_of i.inits.items ≡ map (resolve_initialiser env (inside_scope env own f)) f.initialisers
  pub body : body_of i.body ≡ resolve_body env (inside_scope env own f) f.body
