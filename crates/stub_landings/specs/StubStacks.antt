-- Open calls of the machine for linear code, found on the machine's stack where one of the runtime's own functions runs.
use Rattle.std.specs.Prelude.{ℕ, List}
use Rattle.rv64_isa.specs.State.{State}
use Rattle.elf_image.specs.Clean.{CleanImage}
use Rattle.region_forms.specs.World.{World}
use Rattle.linear_forms.specs.Stub.{Function}
use Rattle.linear_forms.specs.Activation.{Activation}
use Rattle.machine_simulation.specs.Plan.{Plan}
use Rattle.machine_raises.specs.Stacks.{IsRunning, StackFound}
use Rattle.stub_landings.specs.OwnCalls.{InOwn}

abbrev pub StubStacksStand : Type 0
StubStacksStand = (p : Plan) (i : CleanImage) (f : Function) (back : ℕ) (a : Activation) (fs : List Activation) (v : World) (s : State) → IsRunning p i s → InOwn p f back a fs v s → StackFound p i a fs s
