-- Exception specifications, and the unexpected handler.
use Rattle.std.specs.Prelude.{ℕ, ℤ, Bool, false, ◌==◌, List, [], ◌∷◌, map, Option, Some, None, if◌then◌else◌}
use Rattle.cxx_ast.specs.Plain.{Specification, listed, noexcept}
use Rattle.meaning_forms.specs.Class.{ObjectType, int_type, class_type, some_of, object_type}
use Rattle.meaning_forms.specs.Part.{unset}
use Rattle.meaning_forms.specs.World.{Installed, Exception, native, exception_at, type_at, whole, nowhere}
use Rattle.meaning_forms.specs.Context.{Context, Guard, catch_all, try_block, specification, handling, guarded_by}
use Rattle.meaning_forms.specs.Outcome.{Action, Result, done, stopped, thrown, pure, stop, world, new_object, ◌>>=◌, ◌>>◌}
use Rattle.meaning_forms.specs.Guard.{allows}
use Rattle.meaning_forms.specs.Running.{Running, function}
use Rattle.meaning_forms.specs.Terminate.{terminate, terminate_with}
use Rattle.meaning_forms.specs.Throw.{throw_new, raise_exception}
use Rattle.meaning_forms.specs.Construct.{default_object}
use Rattle.meaning_forms.specs.Handler.{enter, while_handled}
use Rattle.meaning_forms.specs.Statement.{after_try}

-- the handlers kept with a native exception
abbrev pub kept_with : Exception → Installed
kept_with (native t o kept) = kept
kept_with _ = record { terminate_handler = None; unexpected_handler = None }

-- a listed type is `std::bad_exception`
abbrev pub is_bad_exception : ObjectType → Bool
is_bad_exception int_type = false
is_bad_exception (class_type k) = k == 0

-- the object of `throw std::bad_exception()`
abbrev pub new_bad_exception : Running → Context → Action ℕ
new_bad_exception r c = do
  o ← new_object (unset r.program (class_type 0))
  default_object r 0 (whole o) c
  pure o

-- f, out of the unexpected handler and entered, is thrown again if it is allowed; else a bad_exception is thrown in its place if that
-- is listed, and else terminate is called
abbrev pub pass_on : {A : Type 0} → Running → List ObjectType → Installed → ℕ → Context → Action A
pass_on r types kept f c = do
  w ← world
  if allows r.program types (type_at w f) then raise_exception r f c else
      if some_of is_bad_exception types then throw_new r c (new_bad_exception r c) else terminate_with r kept.terminate_handler c

-- where the unexpected handler returns, terminate is called; where an exception f comes out of it, f is entered, passed on, and left
abbrev pub after_unexpected : {A : Type 0} → Running → List ObjectType → Installed → Context → Result ℤ → Result A
after_unexpected r types kept c (done v w) = terminate_with r kept.terminate_handler c w
after_unexpected r types kept c (stopped (thrown f) w) = (enter r f c >> while_handled r f c (pass_on r types kept f)) w
after_unexpected r types kept c (stopped s w) = stopped s w

-- an unexpected handler runs under a guard that stops every exception; without one, terminate is called
abbrev pub run_unexpected_handler : {A : Type 0} → Running → List ObjectType → Installed → Option ℕ → Context → Action A
run_unexpected_handler r types kept None c = terminate_with r kept.terminate_handler c
run_unexpected_handler r types kept (Some h) c =
    λ w. after_unexpected r types kept c (r.call (function h) nowhere [] (guarded_by (try_block (catch_all ∷ [])) c) w)

-- an exception that a specification stops is entered, the unexpected handler kept with it is called, and the exception is left
abbrev pub unexpected : {A : Type 0} → Running → List ObjectType → ℕ → Context → Action A
unexpected r types e c = do
  enter r e c
  w ← world
  let kept = kept_with (exception_at w e) in
      while_handled r e c (run_unexpected_handler r types kept kept.unexpected_handler)

-- what a specification does not allow is unexpected; a foreign exception was doomed and does not come so far
abbrev pub after_extent : {A : Type 0} → Running → List ObjectType → Context → Result A → Result A
after_extent r types c (stopped (thrown e) w) = (if allows r.program types (type_at w e) then stop (thrown e) else unexpected r types e c) w
after_extent r types c result = result

-- `noexcept` stops every exception, as a try block does whose one clause is `...`; in a checked program it is true
abbrev pub guard_of : Specification → Guard
guard_of (listed types) = specification (map object_type types)
guard_of (noexcept place b) = try_block (catch_all ∷ [])

-- an exception that comes out of what is `noexcept` is entered, and the terminate handler in effect is called
abbrev pub end_noexcept : {A : Type 0} → Running → Context → ℕ → Action A
end_noexcept r c e = do
  enter r e c
  terminate r (handling e c)

-- what is done with what a specification stops
abbrev pub after_specification : {A : Type 0} → Running → Specification → Context → Result A → Result A
after_specification r (listed types) c result = after_extent r (map object_type types) c result
after_specification r (noexcept place b) c result = after_try (end_noexcept r c) result

-- the extent of a function's specification; without one the function has no guard
abbrev pub under_specification : {A : Type 0} → Running → Option Specification → (Context → Action A) → Context → Action A
under_specification r None act c = act c
under_specification r (Some s) act c = λ w. after_specification r s c (act (guarded_by (guard_of s) c) w)
