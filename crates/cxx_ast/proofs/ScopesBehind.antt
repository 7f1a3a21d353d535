-- Behind a statement of a block so many variables more are declared, and a loop is round it as before.
use Rattle.std.proofs.Common.{◌≡◌, ◌+◌, Option, Some, None, refl}
use Rattle.cxx_ast.specs.declared.name.Name.{Name}
use Rattle.cxx_ast.specs.declared.types.Param.{Param}
use Rattle.cxx_ast.specs.Plain.{Statement, block, empty, if_else, while, return, break, continue, throw, try, assign, evaluate, local_int, local_ref, local_object}
use Rattle.cxx_ast.specs.Environment.{Environment, Scope}
use Rattle.cxx_ast.specs.Locals.{declare_param, locals_in, scope_behind}

param_next : (env : Environment) (p : Param) (name : Option Name) (sc : Scope) → (declare_param env (record p { name = name }) sc).next ≡ sc.next + 1
param_next env p None sc = refl
param_next env p (Some n) sc = refl

param_loop : (env : Environment) (p : Param) (name : Option Name) (sc : Scope) → (declare_param env (record p { name = name }) sc).in_loop ≡ sc.in_loop
param_loop env p None sc = refl
param_loop env p (Some n) sc = refl

-- how many variables are declared behind a statement
pub next_behind : (env : Environment) (sc : Scope) (s : Statement) → (scope_behind env sc s).next ≡ sc.next + locals_in s
next_behind env sc (local_int n e) = refl
next_behind env sc (local_ref p names) = param_next env p p.name sc
next_behind env sc (local_object c n es) = refl
next_behind env sc (block ss) = refl
next_behind env sc empty = refl
next_behind env sc (if_else e s other) = refl
next_behind env sc (while e s) = refl
next_behind env sc (return place e) = refl
next_behind env sc (break place) = refl
next_behind env sc (continue place) = refl
next_behind env sc (throw place e) = refl
next_behind env sc (try ss hs) = refl
next_behind env sc (assign names e) = refl
next_behind env sc (evaluate e) = refl

-- whether a loop is round what stands behind a statement
pub loop_behind : (env : Environment) (sc : Scope) (s : Statement) → (scope_behind env sc s).in_loop ≡ sc.in_loop
loop_behind env sc (local_int n e) = refl
loop_behind env sc (local_ref p names) = param_loop env p p.name sc
loop_behind env sc (local_object c n es) = refl
loop_behind env sc (block ss) = refl
loop_behind env sc empty = refl
loop_behind env sc (if_else e s other) = refl
loop_behind env sc (while e s) = refl
loop_behind env sc (return place e) = refl
loop_behind env sc (break place) = refl
loop_behind env sc (continue place) = refl
loop_behind env sc (throw place e) = refl
loop_behind env sc (try ss hs) = refl
loop_behind env sc (assign names e) = refl
loop_behind env sc (evaluate e) = refl
