-- That `throw` with an operand, and without one, does the same (ISO/IEC 14882:2003, 15.1).
use Rattle.std.specs.Prelude.{◌≡◌, ℕ, ◌≤◌, ℤ, Option}
use Rattle.cxx_ast.specs.Plain.{Expression}
use Rattle.meaning_forms.specs.World.{World}
use Rattle.meaning_forms.specs.Context.{Context}
use Rattle.region_simulation.specs.Stands.{IsSound}
use Rattle.meaning_forms.specs.Outcome.{Action, done}
use Rattle.meaning_forms.specs.Expression.{value_of}
use Rattle.meaning_forms.specs.Statement.{throwing as source_throwing}
use Rattle.region_forms.specs.LowerStatement.{throwing}
use Rattle.region_simulation.specs.Reach.{KindsFit}
use Rattle.region_simulation.specs.Expressions.{source_running}
use Rattle.region_simulation.specs.Flows.{DoesAlike}
use Rattle.region_simulation.specs.Statements.{CanThrow}
use Rattle.region_exceptions.specs.Fares.{CallsFare}
use Rattle.region_exceptions.specs.Unbuilt.{IsUnbuilt}
use Rattle.region_exceptions.specs.Throws.{InEachContext}

-- while a value is computed, no number is used again, and no exception that is being built is kept as built
abbrev pub LeavesUnbuilt : Context → Action ℤ → Type 0
LeavesUnbuilt c act =
    (w w2 : World) (n : ℤ) → IsSound c w.last_number w.live → act w ≡ done n w2 → (e : ℕ) → e ≤ w.last_number → IsUnbuilt e w → (w.last_number ≤ w2.last_number) × IsUnbuilt e w2

-- what is thrown is an int, an object that is built from arguments, or a copy of what names stand for
abbrev pub OperandsThrowAlike : Type 0
OperandsThrowAlike = InEachContext (λ l own gives call b v c.
    KindsFit l b.kinds → CallsFare (source_running l call) → ((e : Expression) → LeavesUnbuilt c (value_of (source_running l call) v e c))
    → (n i d : ℕ) (e : Option Expression) → CanThrow l own v.variables e
    → DoesAlike l own gives b v c n i d (source_throwing (source_running l call) v e c) (throwing l e))
