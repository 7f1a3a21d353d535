-- What a computation is given from outside, and never hands on outwards.
use Rattle.std.specs.Prelude.{ℕ, Bool, false, List, [], ◌∷◌}
use Rattle.meaning_forms.specs.Class.{ObjectType}

-- what a catch clause is for
pub data Clause : Type 0 where
  catch_all : Clause
  catch_type : ObjectType → Clause

-- what may stop an exception on its way outwards: a try block, a function's specification, or a barrier
pub data Guard : Type 0 where
  try_block : List Clause → Guard
  specification : List ObjectType → Guard
  barrier : Guard

-- the handled exceptions, newest first and once for each entered handler; the exceptions that travel; the guards, innermost first;
-- and whether the terminate handler is running
pub record Context : Type 0 where
  pub handled : List ℕ
  pub travelling : List ℕ
  pub guards : List Guard
  pub ending : Bool

-- the context of main
abbrev pub no_context : Context
no_context = record { handled = []; travelling = []; guards = []; ending = false }

-- inside an entered handler of an exception
abbrev pub handling : ℕ → Context → Context
handling e c = record c { handled = e ∷ c.handled }

-- while an exception travels
abbrev pub with_travelling : ℕ → Context → Context
with_travelling e c = record c { travelling = e ∷ c.travelling }

-- inside a guard
abbrev pub guarded_by : Guard → Context → Context
guarded_by g c = record c { guards = g ∷ c.guards }
