-- What call_unexpected lets out goes on, and comes to a landing pad.
use Rattle.std.specs.Prelude.{◌≡◌, ℕ, ◌+◌, ℤ, [], Some}
use Rattle.rv64_isa.specs.Step.{x}
use Rattle.elf_image.specs.Clean.{CleanImage}
use Rattle.cxa_runtime.specs.World as abi
use Rattle.eh_run.specs.Program.{program_of}
use Rattle.region_forms.specs.World.{flying, unwinding}
use Rattle.linear_forms.specs.Activation.{State, goes_to}
use Rattle.linear_forms.specs.Machine.{step}
use Rattle.linear_forms.specs.UnitRun.{code_of}
use Rattle.machine_forms.specs.Registers.{sp}
use Rattle.machine_simulation.specs.Plan.{Plan}
use Rattle.machine_simulation.specs.Operations.{Matched}
use Rattle.machine_simulation.specs.Objects.{Shows}
use Rattle.machine_raises.specs.Stacks.{IsRunning}
use Rattle.machine_raises.specs.Pads.{PadsArePlain, FiltersAreInts}
use Rattle.machine_raises.specs.Forced.{KeepsAll}
use Rattle.stub_landings.specs.Rests.{Rests, LeavesOn}
use Rattle.stub_landings.specs.OwnRaises.{OwnResumeAsked}
use Rattle.stub_landings.specs.Landings.{resting, pad_words, GoesOn}
use Rattle.unexpected_calls.specs.Leaves.{CalledByCompiled}

-- Behind both handlers the exception that is on its way, or the forced unwind, goes on to where the next state rests.
pub record UnexpectedGoesOn : Type 0 where
  pub exception : (i : CleanImage) (p : Plan) (e d : ℕ) (st next : State) (w : abi.World) → LeavesOn p 57 17 st w → CalledByCompiled st → IsRunning p i w.hart → step (code_of p.unit) st ≡ goes_to next → st.top.frame.slots 4 ≡ flying e d →
      OwnResumeAsked p st w e d (x w.hart sp) → PadsArePlain p → FiltersAreInts p → GoesOn next →
      Shows st next [] × Matched (program_of i).image (3 + pad_words next.top.function) w [] (λ u. Rests (resting p next) next u × (u.exceptions ≡ w.exceptions))
  pub forced : (i : CleanImage) (p : Plan) (k : ℤ) (st next : State) (w : abi.World) → LeavesOn p 57 17 st w → CalledByCompiled st → IsRunning p i w.hart → step (code_of p.unit) st ≡ goes_to next → st.top.frame.slots 4 ≡ unwinding k →
      w.unwinding ≡ Some k → PadsArePlain p → FiltersAreInts p → GoesOn next →
      Shows st next [] × Matched (program_of i).image (3 + pad_words next.top.function) w [] (λ u. Rests (resting p next) next u × KeepsAll w u)
