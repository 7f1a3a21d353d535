-- Parts of a function: its head, and what stands behind it.
use Rattle.std.specs.Prelude.{ℕ, List, [], ◌++◌, Option}
use Rattle.cxx_ast.specs.declared.name.Bound.{Bound}
use Rattle.cxx_ast.specs.declared.name.Bound.TheVariants.{Free}
use Rattle.cxx_ast.specs.declared.name.Name.{Name}
use Rattle.cxx_ast.specs.Plain.{Function}
use Rattle.cxx_ast.specs.Environment.{Environment, Scope, Meaning, unknown}
use Rattle.cxx_ast.specs.Finding.{Finding}
use Rattle.cxx_ast.specs.Locals.{declare_params}
use Rattle.cxx_ast.specs.Lookup.{look}
use Rattle.cxx_ast.specs.TypeNames.{head_types_found}
use Rattle.cxx_ast.specs.Resolve.{bound_of, resolve_function}
use Rattle.cxx_ast.specs.FunctionRules.{params_twice, body_found, definition_found}
use Rattle.cxx_ast.specs.Declare.{function_scope}

-- what the name of an initialiser is bound to, which means a member or nothing of the class
abbrev pub initialiser_bound : Environment → Scope → Name → Meaning → Bound
initialiser_bound env sc n unknown = bound_of env (look env sc n)
initialiser_bound env sc n m = bound_of env m

-- where the initialisers and the body of a function stand
abbrev pub inside_scope : Environment → Option ℕ → Function → Scope
inside_scope env own f = declare_params env f.parameters (function_scope env own f.result)

-- what a head breaks
abbrev pub head_found : Environment → Scope → Function → List Finding
head_found env sc f = head_types_found env sc f ++ params_twice [] f.parameters

-- what stands behind the head of a function breaks, in a class or in none
abbrev pub inside_found : Environment → Scope → Environment → Option ℕ → Function → List Finding
inside_found head head_scope env own f =
    body_found env (inside_scope env own f) own f f.body
    ++ definition_found env (resolve_function head head_scope env (function_scope env own f.result) Free f) f.body
