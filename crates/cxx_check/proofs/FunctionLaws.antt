-- Functions part by part.
use Rattle.std.proofs.Common.{◌≡◌, Option, Some, None, List, [], ◌∷◌, suc, length, refl, ap}
use Rattle.cxx_ast.specs.declared.types.Param.{Param}
use Rattle.cxx_ast.specs.Environment.{Environment, Scope}
use Rattle.cxx_ast.specs.Locals.{declare_param}
use Rattle.cxx_ast.specs.FunctionRules.{definition_found}
use Rattle.cxx_ast.specs.Plain.{Function, Statements}
use Rattle.cxx_ast.specs.Resolve.{resolve_params, resolve_body}

-- as many parameters have their names bound as there are
pub params_kept : (env : Environment) (sc : Scope) (ps : List Param) → length (resolve_params env sc ps) ≡ length ps
params_kept env sc [] = refl
params_kept env sc (p ∷ ps) = ap suc (params_kept env (declare_param env p sc) ps)

-- a body with its names bound is there where the body is
pub defined_by : (env : Environment) (g : Function) (sc : Scope) (body : Option Statements) → definition_found env g (resolve_body env sc body) ≡ definition_found env g body
defined_by env g sc None = refl
defined_by env g sc (Some ss) = refl
