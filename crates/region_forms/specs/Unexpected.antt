-- What becomes of an exception that a specification stops (ISO/IEC 14882:2003, 15.5.2).
use Rattle.std.specs.Prelude.{ℕ, ◌+◌, ◌&&◌, ℤ, List, [], ◌∷◌, Option, Some, None, if◌then◌else◌}
use Rattle.run_items.specs.declared.item.Item.TheVariants.{Make}
use Rattle.meaning_forms.specs.Class.{contains}
use Rattle.meaning_forms.specs.Outcome.{thrown}
use Rattle.meaning_forms.specs.World.{Installed}
use Rattle.region_forms.specs.World.{World, Exception, building, native, with_item, exception_at, type_at}
use Rattle.region_forms.specs.Lives.{is_native, is_being_built, may_enter}
use Rattle.region_forms.specs.Guard.{clauses, allows}
use Rattle.region_forms.specs.Effect.{is_full, with_new, kept, entered, enters}
use Rattle.region_forms.specs.Outcome.{Context, Result, done, stopped, Action, stop, change, only_if, guarded_by, ◌>>◌}
use Rattle.region_forms.specs.Ending.{Running, terminate, terminate_with, raise, after_scope, leave_newest, perform, bad_row, empty_call}

-- the handlers kept with a native exception
abbrev pub kept_with : Exception → Installed
kept_with (native t d handlers) = handlers
kept_with _ = record { terminate_handler = None; unexpected_handler = None }

-- a new exception object
abbrev pub made : World → World
made w = with_item (Make (w.last_number + 1)) (with_new building w)

-- an exception that is being built is kept as a bad_exception
abbrev pub keep_bad : ℕ → Action (Unit {0})
keep_bad e s = only_if (is_being_built s.world e) (change (kept e bad_row None)) s

-- a bad_exception is made and thrown; with 1,024 live exceptions terminate is called
abbrev pub throw_bad : {A : Type 0} → Running → Context → Action A
throw_bad r c s = (if is_full s.world then terminate r c else do
  change made
  empty_call r c
  keep_bad (s.world.last_number + 1)
  raise r (s.world.last_number + 1) c) s

-- f, out of the unexpected handler and entered, is thrown again if it is allowed; else a bad_exception is thrown in its place if that
-- is listed, and else terminate is called
abbrev pub pass_on : {A : Type 0} → Running → List ℕ → Installed → ℕ → Context → Action A
pass_on r types handlers f c s =
    (if allows r.types types (type_at s.world f) then raise r f c else
    if contains types bad_row then throw_bad r c else terminate_with r handlers.terminate_handler c) s

-- what is done in a handler, then the leaving
abbrev pub while_handled : {A : Type 0} → Running → Context → Action A → Action A
while_handled r c act s = after_scope r c (leave_newest r) (act s)

-- where the unexpected handler returns, terminate is called; where an exception comes out of it, that is entered, passed on, and left
abbrev pub after_unexpected : {A : Type 0} → Running → List ℕ → Installed → Context → Result ℤ → Result A
after_unexpected r types handlers c (done v s) = terminate_with r handlers.terminate_handler c s
after_unexpected r types handlers c (stopped (thrown f) s) =
    ((λ t. perform r (enters f t.frame t.world) c t) >> while_handled r c (pass_on r types handlers f c)) s
after_unexpected r types handlers c (stopped x s) = stopped x s

-- an unexpected handler runs under a guard that stops every exception; without one, terminate is called
abbrev pub run_unexpected_handler : {A : Type 0} → Running → List ℕ → Installed → Option ℕ → Context → Action A
run_unexpected_handler r types handlers None c = terminate_with r handlers.terminate_handler c
run_unexpected_handler r types handlers (Some h) c =
    λ s. after_unexpected r types handlers c (r.call h [] (guarded_by (clauses (None ∷ [])) c) s)

-- a native exception that travels is entered where a specification stops it
abbrev pub enter_stopped : ℕ → Action (Unit {0})
enter_stopped e s = only_if (is_native (exception_at s.world e) && may_enter s.world e) (change (entered e)) s

-- an exception that a specification stops is entered, the unexpected handler kept with it is called, and the exception is left
abbrev pub unexpected : {A : Type 0} → Running → List ℕ → ℕ → Context → Action A
unexpected r types e c s =
    (enter_stopped e >> while_handled r c
    (run_unexpected_handler r types (kept_with (exception_at s.world e)) (kept_with (exception_at s.world e)).unexpected_handler c)) s

-- what a list does not allow is unexpected; a foreign exception was doomed and does not come so far
abbrev pub after_limit : {A : Type 0} → Running → List ℕ → Context → Result A → Result A
after_limit r types c (stopped (thrown e) s) =
    (if allows r.types types (type_at s.world e) then stop (thrown e) else unexpected r types e c) s
after_limit r types c result = result
