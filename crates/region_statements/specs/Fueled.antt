-- Calls of a source with fuel, of which nothing is said where it runs out: calls inside a call have one unit less, and the call spends a turn, so
-- fuel above the turns never does. Regions need none for the calls that make and destroy a `std::bad_exception`, for which they have no function.
use Rattle.std.specs.Prelude.{◌≡◌, ℕ, zero, suc, ◌<◌, ℤ, List}
use Rattle.cxx_ast.specs.Plain.{Checked}
use Rattle.meaning_forms.specs.Call.{call_with, run_callee, open_call}
use Rattle.meaning_forms.specs.Context.{Context}
use Rattle.meaning_forms.specs.Outcome.{Action, stop, undefined}
use Rattle.meaning_forms.specs.Running.{Running, Argument, Callee}
use Rattle.meaning_forms.specs.World.{World, Reference}

-- a call with fuel
abbrev pub fueled_call : Checked → ℕ → ℕ → Callee → Reference → List Argument → Context → Action ℤ
fueled_call p limit zero callee this given c = stop undefined
fueled_call p limit (suc fuel) callee this given c = open_call limit (run_callee (record { program = p; call = fueled_call p limit fuel }) callee this given c)

-- a program whose calls have this fuel
abbrev pub fueled : Checked → ℕ → ℕ → Running
fueled p limit fuel = record { program = p; call = fueled_call p limit fuel }

-- it is enough where it is above the turns that are left
abbrev pub FuelLasts : Type 0
FuelLasts =
    (p : Checked) (limit fuel : ℕ) (callee : Callee) (this : Reference) (given : List Argument) (c : Context) (w : World) → w.turns < fuel
    → fueled_call p limit fuel callee this given c w ≡ call_with p limit fuel callee this given c w
