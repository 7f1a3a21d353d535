-- Calls that have as much fuel as they need, whatever the world.
use Rattle.std.specs.Prelude.{suc, ℤ, List}
use Rattle.cxx_ast.specs.Plain.{Checked}
use Rattle.meaning_forms.specs.World.{Reference}
use Rattle.meaning_forms.specs.Context.{Context}
use Rattle.meaning_forms.specs.Outcome.{Action}
use Rattle.meaning_forms.specs.Running.{Running, Callee, Argument}
use Rattle.meaning_forms.specs.Call.{call_with}

-- a call with one unit of fuel more than there are turns, and at most 128 open calls
unfoldable pub full_call : Checked → Callee → Reference → List Argument → Context → Action ℤ
full_call p callee this given c w = call_with p 128 (suc w.turns) callee this given c w

-- a program whose calls are made so
abbrev pub always : Checked → Running
always p = record { program = p; call = full_call p }
