-- Steps of the meaning that the evaluator makes as one.
use Rattle.std.specs.Prelude.{◌≡◌, ℕ, suc, Bool, true, false, List, Option, Some, None, Ok, Err, Result as CodeResult, if◌then◌else◌}
use Rattle.cxx_ast.specs.declared.name.Name.{Name}
use Rattle.cxx_ast.specs.declared.types.Ty.{Ty}
use Rattle.cxx_ast.specs.Plain.{Expression, Expressions, Statement, block, if_else, while, return, break, continue, throw, try, assign, evaluate, local_int, local_ref, local_object, Statements, Handlers}
use Rattle.meaning_forms.specs.Class.{class_type}
use Rattle.meaning_forms.specs.Part.{unset}
use Rattle.meaning_forms.specs.World.{World, Reference, whole}
use Rattle.meaning_forms.specs.Context.{Context, Clause, try_block, guarded_by}
use Rattle.meaning_forms.specs.Outcome.{Action, Result, done, Flow, normal, breaks, continues, pure, new_object, world, write, ◌>>=◌, ◌>>◌}
use Rattle.meaning_forms.specs.Running.{Running}
use Rattle.meaning_forms.specs.Scope.{scope}
use Rattle.meaning_forms.specs.Construct.{destroy}
use Rattle.meaning_forms.specs.Frame.{Frame, lvalue, with_parameter, with_variable}
use Rattle.meaning_forms.specs.Handler.{clauses_of, destroy_parameter}
use Rattle.meaning_forms.specs.Expression.{construct, value_of}
use Rattle.meaning_forms.specs.Statement.{statement, otherwise, statements, after_try, caught, loop, returning, throwing}
use Rattle.meaning_forms.specs.Arithmetic.{is_zero}
use Rattle.scope_world.specs.declared.outcome.Halt.{Halt}
use Rattle.scope_world.specs.declared.outcome.Flow.{Flow as CodeFlow}
use Rattle.scope_world.specs.Gives.{Halts, flow_of}

-- a local object, and the rest of its block
abbrev pub object_scoped : Running → ℕ → Name → Expressions → Statements → Frame → Context → Action Flow
object_scoped r k n es rest f c = do
  o ← new_object (unset r.program (class_type k))
  construct r f k es (whole o) c
  scope r c (destroy r (class_type k) (whole o)) (statements r rest (with_variable n (whole o) f) c)

-- a statement declares a variable
abbrev pub declares : Statement → Bool
declares (local_int n e) = true
declares (local_ref x names) = true
declares (local_object k n es) = true
declares _ = false

-- one round of a loop: it is left, or goes on as what is left of it, or is stopped
abbrev pub RoundGives : Result Flow → Action Flow → CodeResult (Option CodeFlow) Halt → World → Type 0
RoundGives m again (Ok None) w = m ≡ again w
RoundGives m again (Ok (Some flow)) w = m ≡ done (flow_of flow) w
RoundGives m again (Err h) w = Halts m h w

-- an int is assigned
abbrev pub assigned : Running → List Name → Expression → Frame → Context → Action Flow
assigned r names e f c = do
  v ← value_of r f e c
  w ← world
  write (lvalue r.program w f names) v
  pure normal

-- the body of a handler, and the destruction of its parameter
abbrev pub handler_done : Running → Option Ty → Option Name → Statements → Reference → Frame → Context → Action Flow
handler_done r t n body parameter f c =
    scope r c (destroy_parameter r t parameter) (statements r body (with_parameter n parameter f) c)

-- a try block
abbrev pub tried : Running → Statements → List Clause → Handlers → Frame → Context → Action Flow
tried r body clauses hs f c w = after_try (caught r hs f c) (statements r body f (guarded_by (try_block clauses) c) w)

-- a statement that declares nothing, without the rest of its block
abbrev pub plainly : Running → Statement → Frame → Context → Action Flow
plainly r (block ss) f c = statements r ss f c
plainly r (if_else e s t) f c = value_of r f e c >>= (λ v. if is_zero v then otherwise r t f c else statement r s (λ g. pure normal) f c)
plainly r (while e s) f c = world >>= (λ w. loop (suc w.turns) (value_of r f e c) (statement r s (λ g. pure normal) f c))
plainly r (return place e) f c = returning r f e c
plainly r (break place) f c = pure breaks
plainly r (continue place) f c = pure continues
plainly r (throw place e) f c = throwing r f e c
plainly r (try ss hs) f c = tried r ss (clauses_of hs) hs f c
plainly r (assign names e) f c = assigned r names e f c
plainly r (evaluate e) f c = value_of r f e c >> pure normal
plainly r _ f c = pure normal
