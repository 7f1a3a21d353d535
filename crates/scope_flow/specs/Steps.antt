-- Steps of the meaning that are made as one.
use Rattle.std.specs.Prelude.{ℕ, List, [], ◌∷◌, Option, Some, None, Ok, Err, Result as CodeResult}
use Rattle.cxx_ast.specs.declared.types.Ty.{Ty}
use Rattle.meaning_forms.specs.Class.{ObjectType}
use Rattle.meaning_forms.specs.World.{Installed, Reference, exception_at}
use Rattle.meaning_forms.specs.Context.{Context, with_travelling}
use Rattle.meaning_forms.specs.Outcome.{Action, Result, Flow, pure, continued, world, ◌>>=◌, ◌>>◌}
use Rattle.meaning_forms.specs.Running.{Running}
use Rattle.meaning_forms.specs.Throw.{after_building, keep, raise_exception}
use Rattle.meaning_forms.specs.Handler.{catch_parameter, enter, exception_object, while_handled}
use Rattle.meaning_forms.specs.Specification.{pass_on}
use Rattle.scope_world.specs.declared.outcome.Halt.{Halt}

-- after its object is built, an exception is kept and thrown
abbrev pub built : Running → ℕ → Context → Result ℕ → Result Flow
built r e c m = continued (after_building e m) (λ o. keep e o >> raise_exception r e c)

-- an exception out of the unexpected handler is entered, passed on, and left
abbrev pub passing_on : Running → List ObjectType → Installed → ℕ → Context → Action Flow
passing_on r types kept f c = enter r f c >> while_handled r f c (pass_on r types kept f)

-- the parameter of a handler is made while its exception travels, and the exception is entered
abbrev pub entered : Running → Option Ty → ℕ → Context → Action Reference
entered r t e c = do
  w ← world
  parameter ← catch_parameter r t (exception_object (exception_at w e)) (with_travelling e c)
  enter r e c
  pure parameter

-- the stop after a leaving: that of the leaving, where it is stopped itself
abbrev pub left_as : CodeResult (Unit {0}) Halt → Halt → Halt
left_as (Ok a) h = h
left_as (Err other) h = other

-- the newest of some numbers
abbrev pub newest : List ℕ → Option ℕ
newest [] = None
newest (e ∷ es) = Some e
