-- Terminate, and barriers.
use Rattle.std.specs.Prelude.{ℕ, true, [], Option, Some, None, if◌then◌else◌}
use Rattle.run_items.specs.declared.item.Item.TheVariants.{Enter}
use Rattle.meaning_forms.specs.World.{Exception, native, nowhere, exception_at}
use Rattle.meaning_forms.specs.Context.{Context, barrier, handling, guarded_by}
use Rattle.meaning_forms.specs.Outcome.{Action, Result, done, stopped, thrown, cancelled, ended, aborted, stop, world, emit, ◌>>=◌, ◌>>◌}
use Rattle.meaning_forms.specs.Running.{Running, function}

-- where a terminate handler comes back, the program ends as aborted
abbrev pub after_terminate_handler : {A B : Type 0} → Result A → Result B
after_terminate_handler (done a w) = stopped (ended aborted) w
after_terminate_handler (stopped (thrown e) w) = stopped (ended aborted) w
after_terminate_handler (stopped (cancelled n) w) = stopped (ended aborted) w
after_terminate_handler (stopped s w) = stopped s w

-- a terminate handler runs behind a barrier; without one the program ends as aborted
abbrev pub run_terminate_handler : {A : Type 0} → Running → Option ℕ → Context → Action A
run_terminate_handler r None c = stop (ended aborted)
run_terminate_handler r (Some h) c =
    λ w. after_terminate_handler (r.call (function h) nowhere [] (guarded_by barrier (record c { ending = true })) w)

-- terminate with a given handler; while a terminate handler runs, the program ends as aborted
abbrev pub terminate_with : {A : Type 0} → Running → Option ℕ → Context → Action A
terminate_with r handler c = if c.ending then stop (ended aborted) else run_terminate_handler r handler c

-- terminate with the handler in effect
abbrev pub terminate : {A : Type 0} → Running → Context → Action A
terminate r c = do
  w ← world
  terminate_with r w.installed.terminate_handler c

-- a doomed native exception is entered, and the handler kept with it is used; a foreign one is not entered
abbrev pub enter_and_terminate : {A : Type 0} → Running → ℕ → Exception → Context → Action A
enter_and_terminate r e (native t o kept) c = do
  emit (Enter e)
  terminate_with r kept.terminate_handler (handling e c)
enter_and_terminate r e _ c = terminate r c

-- terminate because of a doomed exception; while a terminate handler runs, nothing is entered
abbrev pub terminate_because : {A : Type 0} → Running → ℕ → Context → Action A
terminate_because r e c = do
  w ← world
  if c.ending then stop (ended aborted) else enter_and_terminate r e (exception_at w e) c

-- a forced unwind that comes out to a barrier calls terminate
abbrev pub after_barrier : {A : Type 0} → Running → Context → Result A → Result A
after_barrier r c (stopped (cancelled n) w) = terminate r c w
after_barrier r c result = result

-- what is done behind a barrier, which stops every exception
abbrev pub behind_barrier : {A : Type 0} → Running → Context → (Context → Action A) → Action A
behind_barrier r c act w = after_barrier r c (act (guarded_by barrier c) w)
