-- The turn at the ECALL of a runtime call.
use Rattle.std.specs.Prelude.{◌≡◌, ℕ, []}
use Rattle.rv64_isa.specs.declared.step.Step.TheVariants.{Ecall}
use Rattle.rv64_isa.specs.State.{State}
use Rattle.rv64_isa.specs.Step.{step_of, x}
use Rattle.cxa_runtime.specs.World.{World, goes, at_hart}
use Rattle.cxa_runtime.specs.Raising.{Image}
use Rattle.cxa_runtime.specs.Call.{call_effect}
use Rattle.cxa_runtime.specs.Run.{called, counted, turn}
use Rattle.machine_forms.specs.Registers.{a7}
use Rattle.machine_pieces.specs.Turning.{ForcedTurns, Turns}

-- the world on which a runtime call is made: the hart is behind the ECALL, and nothing is shown yet
abbrev pub asked : State → World → World
asked behind w = at_hart behind (record w { shown = [] })

-- At an ECALL a turn makes the runtime call of the number in a7. Where the call goes on to one world, whatever vacant slot it is given, that
-- is a turn to this world, which shows what the call does; so it is too where the call begins a forced unwind.
pub record CallsAreMade : Type 0 where
  pub made : (image : Image) (wish number : ℕ) (w : World) (behind : State) → step_of w.hart ≡ (Ecall, behind) → x behind a7 ≡ number →
      turn image wish w ≡ called w.hart.pc (call_effect number image wish (asked behind w))
  pub goes_on : (image : Image) (number : ℕ) (w next : World) (behind : State) → step_of w.hart ≡ (Ecall, behind) → x behind a7 ≡ number →
      ((wish : ℕ) → call_effect number image wish (asked behind w) ≡ goes next) → next.unwinding ≡ w.unwinding → Turns image 1 w (counted next) next.shown
  pub unwinds : (image : Image) (number : ℕ) (w next : World) (behind : State) → step_of w.hart ≡ (Ecall, behind) → x behind a7 ≡ number →
      ((wish : ℕ) → call_effect number image wish (asked behind w) ≡ goes next) → ForcedTurns image 1 w (counted next) next.shown
