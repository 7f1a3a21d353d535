-- The turn at the ECALL of a runtime call.
use Rattle.std.proofs.Common.{◌≡◌, ◌∙◌, ap, ℕ, []}
use Rattle.rv64_isa.specs.declared.step.Step.TheVariants.{Ecall}
use Rattle.rv64_isa.specs.State.{State}
use Rattle.rv64_isa.specs.Step.{step_of, x}
use Rattle.cxa_runtime.specs.World.{World}
use Rattle.cxa_runtime.specs.Raising.{Image}
use Rattle.cxa_runtime.specs.Call.{call_effect}
use Rattle.cxa_runtime.specs.Run.{called, counted, stepped, turn}
use Rattle.machine_pieces.proofs.Turning.{forced_turn, turn_on}
use Rattle.machine_stubs.specs.Calls.{asked, CallsAreMade}

made : (image : Image) (wish number : ℕ) (w : World) (behind : State) → step_of w.hart ≡ (Ecall, behind) → x behind 17 ≡ number → turn image wish w ≡ called w.hart.pc (call_effect number image wish (asked behind w))
unfolding turn
made image wish number w behind e is = ap (stepped image wish (record w { shown = [] })) e ∙ ap (λ n. called w.hart.pc (call_effect n image wish (asked behind w))) is

pub calls_are_made : CallsAreMade
calls_are_made = record {
  made = made;
  goes_on = λ image number w next behind e is effect kept. turn_on image w (counted next) (λ wish. made image wish number w behind e is ∙ ap (called w.hart.pc) (effect wish)) kept;
  unwinds = λ image number w next behind e is effect. forced_turn image w (counted next) (λ wish. made image wish number w behind e is ∙ ap (called w.hart.pc) (effect wish));
}
