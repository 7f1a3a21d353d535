-- Raising, terminate and barriers, and what is done at the end of a scope or a handler (ISO/IEC 14882:2003, 15.1, 15.2, 15.5.1).
use Rattle.std.specs.Prelude.{ℕ, zero, suc, ◌+◌, max, ℤ, true, nat_le, ◌==◌, List, [], ◌∷◌, Option, Some, None, if◌then◌else◌}
use Rattle.run_items.specs.declared.item.Item.TheVariants.{Destroy}
use Rattle.meaning_forms.specs.Outcome.{Stop, thrown, cancelled, ended, undefined, out_of_turns, deep, aborted}
use Rattle.region_forms.specs.Form.{TypeRow}
use Rattle.region_forms.specs.World.{Word, address_word, Exception, building, native, foreign, object_address, with_item, exception_at, type_at}
use Rattle.region_forms.specs.Caught.{gives_back}
use Rattle.region_forms.specs.Lives.{is_live, may_leave}
use Rattle.region_forms.specs.Guard.{everything, is_doomed}
use Rattle.region_forms.specs.Form.{Kinds}
use Rattle.region_forms.specs.Effect.{Effect, goes, calls, raises, terminates, ends, cancels, leaves_newest, meaningless, finished, entered_doomed, flies, freed, left, newest_of, cleaned_up}
use Rattle.region_forms.specs.Outcome.{Context, Result, done, stopped, Action, pure, stop, change, set_world, only_if, guarded_by, ◌>>=◌, ◌>>◌}

-- the types, the kinds of the slots of the function that runs, the limit of open calls, and what a call does
pub record Running : Type 0 where
  pub types : List TypeRow
  pub kinds : Kinds
  pub limit : ℕ
  pub call : ℕ → List Word → Context → Action ℤ

-- where a terminate handler comes back, the program ends as aborted
abbrev pub after_terminate_handler : {A B : Type 0} → Result A → Result B
after_terminate_handler (done a s) = stopped (ended aborted) s
after_terminate_handler (stopped (thrown e) s) = stopped (ended aborted) s
after_terminate_handler (stopped (cancelled n) s) = stopped (ended aborted) s
after_terminate_handler (stopped x s) = stopped x s

-- a terminate handler runs behind a barrier
abbrev pub run_terminate_handler : {A : Type 0} → Running → Option ℕ → Context → Action A
run_terminate_handler r None c = stop (ended aborted)
run_terminate_handler r (Some h) c = do
  change (λ w. record w { ending = true })
  λ s. after_terminate_handler (r.call h [] (guarded_by everything c) s)

-- terminate with a given handler; while a terminate handler runs, the program ends as aborted
abbrev pub terminate_with : {A : Type 0} → Running → Option ℕ → Context → Action A
terminate_with r handler c s = (if s.world.ending then stop (ended aborted) else run_terminate_handler r handler c) s

-- terminate with the handler in effect
abbrev pub terminate : {A : Type 0} → Running → Context → Action A
terminate r c s = terminate_with r s.world.installed.terminate_handler c s

-- a doomed native exception is entered, and the handler kept with it is used; a foreign one is not entered
abbrev pub enter_and_terminate : {A : Type 0} → Running → ℕ → Exception → Context → Action A
enter_and_terminate r e (native t d kept) c = do
  change (entered_doomed e)
  terminate_with r kept.terminate_handler c
enter_and_terminate r e _ c = terminate r c

-- while a terminate handler runs, nothing is entered
abbrev pub terminate_because : {A : Type 0} → Running → ℕ → Context → Action A
terminate_because r e c s =
    (if s.world.ending then stop (ended aborted) else enter_and_terminate r e (exception_at s.world e) c) s

-- a doomed exception calls terminate before any cleanup runs; any other travels to the guard that stops it
abbrev pub raise : {A : Type 0} → Running → ℕ → Context → Action A
raise r e c s =
    (if is_doomed r.types c.guards (type_at s.world e) then terminate_because r e c else (change (flies e) >> stop (thrown e))) s

-- a forced unwind that comes out to a barrier calls terminate
abbrev pub after_barrier : {A : Type 0} → Running → Context → Result A → Result A
after_barrier r c (stopped (cancelled n) s) = terminate r c s
after_barrier r c result = result

-- what is done behind a barrier
abbrev pub behind_barrier : {A : Type 0} → Running → Context → (Context → Action A) → Action A
behind_barrier r c act s = after_barrier r c (act (guarded_by everything c) s)

-- in an exceptional exit a cleanup runs behind a barrier; any other stop runs nothing
abbrev pub unwound : {A : Type 0} → Running → Context → (Context → Action (Unit {0})) → Stop → Action A
unwound r c cleanup (thrown e) = behind_barrier r c cleanup >> stop (thrown e)
unwound r c cleanup (cancelled n) = behind_barrier r c cleanup >> stop (cancelled n)
unwound r c cleanup x = stop x

-- a cleanup at every exit; one that throws or unwinds replaces a normal exit
abbrev pub after_scope : {A : Type 0} → Running → Context → (Context → Action (Unit {0})) → Result A → Result A
after_scope r c cleanup (done a s) = (cleanup c >> pure a) s
after_scope r c cleanup (stopped x s) = unwound r c cleanup x s

-- a cleanup at an exceptional exit alone
abbrev pub after_part : {A : Type 0} → Running → Context → (Context → Action (Unit {0})) → Result A → Result A
after_part r c cleanup (done a s) = done a s
after_part r c cleanup (stopped x s) = unwound r c cleanup x s

-- the object of a live exception is freed
abbrev pub free : ℕ → Action (Unit {0})
free e s = only_if (is_live s.world e) (change (freed e)) s

-- an exception object is freed after its destructor, also where that gave an exception or a forced unwind
abbrev pub after_destructor : ℕ → Result (Unit {0}) → Result (Unit {0})
after_destructor e (done a s) = free e s
after_destructor e (stopped (thrown f) s) = (free e >> stop (thrown f)) s
after_destructor e (stopped (cancelled n) s) = (free e >> stop (cancelled n)) s
after_destructor e (stopped x s) = stopped x s

-- a turn is spent, if one is left
abbrev pub spend : ℕ → Action (Unit {0})
spend zero = stop out_of_turns
spend (suc n) = λ s. done tt (record s { turns = n })

-- a turn is spent in a state, if it has one
abbrev pub spend_turn : Action (Unit {0})
spend_turn s = spend s.turns s

-- a call beyond the limit of open calls is deep and spends no turn; any other spends one
abbrev pub open_call : ℕ → Context → Action (Unit {0})
open_call limit c = if nat_le limit c.depth then stop deep else spend_turn

-- the row of `std::bad_exception`
abbrev pub bad_row : ℕ
bad_row = 1

-- a call of a constructor or destructor that does nothing
abbrev pub empty_call : Running → Context → Action (Unit {0})
empty_call r c = do
  open_call r.limit c
  change (λ w. record w { deepest = max w.deepest (c.depth + 1) })

-- the destructor of an exception object is called; that of a bad_exception that a specification made does nothing
abbrev pub call_destructor : Running → ℕ → Option ℕ → ℕ → Context → Action (Unit {0})
call_destructor r t None e c = if t == bad_row then empty_call r c else pure tt
call_destructor r t (Some d) e c = r.call d (address_word (object_address e) ∷ []) c >> pure tt

-- an exception is destroyed and freed; for a foreign one its module's cleanup is called in place of that
abbrev pub give_back : Running → ℕ → Exception → Context → Action (Unit {0})
give_back r e building c = pure tt
give_back r e (native t d kept) c = do
  change (with_item (Destroy e))
  λ s. after_destructor e (call_destructor r t d e c s)
give_back r e (foreign k t) c = change (cleaned_up e k t)

-- the newest handler is left, and its exception is given back unless it goes on
abbrev pub leave_newest : Running → Context → Action (Unit {0})
leave_newest r c s =
    only_if (may_leave s.world s.world.caught) (change left >> (if gives_back s.world.caught
    then give_back r (newest_of s.world.caught) (exception_at s.world (newest_of s.world.caught)) c
    else pure tt)) s

-- an operation whose effect needs nothing more is done
abbrev pub settled : Effect → Action (Unit {0})
settled (goes f w) s = done tt (record s { frame = f; world = w })
settled _ s = stopped undefined s

-- the effect of an operation
abbrev pub perform : Running → Effect → Context → Action (Unit {0})
perform r (goes f w) c = settled (goes f w)
perform r (calls p n given) c = r.call n given c >>= (λ v s. settled (finished r.kinds p v s.frame s.world) s)
perform r (raises e w) c = set_world w >> raise r e c
perform r (terminates h w) c = set_world w >> terminate_with r h c
perform r (ends e w) c = set_world w >> stop (ended e)
perform r (cancels n w) c = set_world w >> stop (cancelled n)
perform r leaves_newest c = leave_newest r c
perform r meaningless c = stop undefined
