-- Leaving a scope: what was built in it is destroyed.
use Rattle.meaning_forms.specs.Context.{Context, with_travelling}
use Rattle.meaning_forms.specs.Outcome.{Action, Result, done, stopped, Stop, thrown, cancelled, pure, stop, ◌>>◌}
use Rattle.meaning_forms.specs.Running.{Running}
use Rattle.meaning_forms.specs.Terminate.{behind_barrier}

-- in an exceptional exit the destruction runs behind a barrier, with the exception travelling; any other stop runs nothing
abbrev pub unwound : {A : Type 0} → Running → Context → (Context → Action (Unit {0})) → Stop → Action A
unwound r c destruction (thrown e) = behind_barrier r (with_travelling e c) destruction >> stop (thrown e)
unwound r c destruction (cancelled n) = behind_barrier r c destruction >> stop (cancelled n)
unwound r c destruction s = stop s

-- in a normal exit the destruction runs under the scope's own guards, and where it throws or unwinds, that replaces the exit
abbrev pub after_scope : {A : Type 0} → Running → Context → (Context → Action (Unit {0})) → Result A → Result A
after_scope r c destruction (done a w) = (destruction c >> pure a) w
after_scope r c destruction (stopped s w) = unwound r c destruction s w

-- what is done in the scope of something built, then its destruction
abbrev pub scope : {A : Type 0} → Running → Context → (Context → Action (Unit {0})) → Action A → Action A
scope r c destruction act w = after_scope r c destruction (act w)

-- a complete part of an object that is not complete is destroyed in an exceptional exit alone
abbrev pub after_part : {A : Type 0} → Running → Context → (Context → Action (Unit {0})) → Result A → Result A
after_part r c destruction (done a w) = done a w
after_part r c destruction (stopped s w) = unwound r c destruction s w

-- what is done between the completion of a part and that of its object
abbrev pub until_complete : {A : Type 0} → Running → Context → (Context → Action (Unit {0})) → Action A → Action A
until_complete r c destruction act w = after_part r c destruction (act w)
