-- An operation terminates at once, and the handler in effect finds no room.
use Rattle.std.specs.Prelude.{◌≡◌, ℕ, ◌≤◌, false, [], Some}
use Rattle.cxa_runtime.specs.World as abi
use Rattle.cxa_runtime.specs.Raising.{Image}
use Rattle.linear_forms.specs.Activation.{State}
use Rattle.machine_simulation.specs.Plan.{Plan}
use Rattle.machine_simulation.specs.Matches.{Matches}
use Rattle.machine_exceptions.specs.Terminates.{AtTerminating}
use Rattle.handler_overflows.specs.Overflow.{HandlerLacksRoom, HandlerOverflows}

abbrev pub TerminatesOverflow : Type 0
TerminatesOverflow = (image : Image) (pick : ℕ → ℕ) (k : ℕ) (p : Plan) (n m : ℕ) (st : State) (w : abi.World) → Matches p st w → AtTerminating image p n st → st.world.ending ≡ false → st.world.installed.terminate_handler ≡ Some m →
    p.hidden ≡ 0 → HandlerLacksRoom p m st → 15 ≤ k → HandlerOverflows image pick k p m st st w []
