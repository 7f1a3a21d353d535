-- Laws of calls, whatever the program: what they leave of the turns, how much fuel they need, and what `noexcept` is as.
use Rattle.std.specs.Prelude.{ℕ, suc, ◌≡◌, ◌≤◌, ◌<◌, Bool, List, codes, Some, None}
use Rattle.cxx_ast.specs.declared.name.Bound.TheVariants.{Builtin}
use Rattle.cxx_ast.specs.declared.name.Builtin.TheVariants.{Terminate}
use Rattle.cxx_ast.specs.Plain.{Checked, noexcept, std_call, no_expressions, evaluate, no_statements, statement_then, Handlers, no_handlers, handler_then}
use Rattle.meaning_forms.specs.World.{World, Reference}
use Rattle.meaning_forms.specs.Context.{Context, try_block, guarded_by}
use Rattle.meaning_forms.specs.Outcome.{turns_left, Action, Flow}
use Rattle.meaning_forms.specs.Running.{Running, Callee, Argument}
use Rattle.meaning_forms.specs.Frame.{Frame}
use Rattle.meaning_forms.specs.Handler.{clauses_of}
use Rattle.meaning_forms.specs.Statement.{after_try, caught}
use Rattle.meaning_forms.specs.Specification.{under_specification}
use Rattle.meaning_forms.specs.Call.{call_with}

-- no call gives turns back
abbrev pub TurnsDoNotRise : Type 0
TurnsDoNotRise =
    (p : Checked) (limit fuel : ℕ) (callee : Callee) (this : Reference) (given : List Argument) (c : Context) (w : World) →
    turns_left (call_with p limit fuel callee this given c w) ≤ w.turns

-- fuel above the turns never runs out: with more of it a call comes out the same
abbrev pub FuelIsEnough : Type 0
FuelIsEnough =
    (p : Checked) (limit fuel : ℕ) (callee : Callee) (this : Reference) (given : List Argument) (c : Context) (w : World) → w.turns < fuel →
    call_with p limit fuel callee this given c w ≡ call_with p limit (suc w.turns) callee this given c w

-- the handler `catch (...) { std::terminate(); }`
abbrev pub terminating : Handlers
terminating =
    handler_then None None
    (statement_then (evaluate (std_call (record { text = codes "terminate"; place = 0; bound = Builtin Terminate }) no_expressions 0)) no_statements) 0 no_handlers

-- what is `noexcept` is done as in a try block with that handler, which spends no turn (ISO/IEC 14882:2011, 15.4/9, 15.5.1)
abbrev pub NoexceptIsATry : Type 0
NoexceptIsATry =
    (r : Running) (place : ℕ) (b : Bool) (act : Context → Action Flow) (f : Frame) (c : Context) (w : World) →
    under_specification r (Some (noexcept place b)) act c w ≡ after_try (caught r terminating f c) (act (guarded_by (try_block (clauses_of terminating)) c) w)
