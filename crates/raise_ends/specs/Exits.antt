-- A forced unwind comes to the end of the stack.
use Rattle.std.specs.Prelude.{◌≡◌, ℕ, ◌≤◌, ℤ, [], length}
use Rattle.meaning_forms.specs.Outcome.{exit}
use Rattle.elf_image.specs.Clean.{CleanImage}
use Rattle.cxa_runtime.specs.declared.effect.End.TheVariants.{Exit}
use Rattle.cxa_runtime.specs.World as abi
use Rattle.eh_run.specs.Program.{program_of}
use Rattle.region_forms.specs.World.{World}
use Rattle.linear_forms.specs.Activation.{State, finishes, by_program}
use Rattle.linear_forms.specs.Machine.{step}
use Rattle.linear_forms.specs.UnitRun.{code_of}
use Rattle.machine_forms.specs.LinearCode.{linear_code}
use Rattle.machine_simulation.specs.Plan.{Plan, shape}
use Rattle.machine_simulation.specs.Matches.{Matches}
use Rattle.machine_raises.specs.Stacks.{IsRunning}
use Rattle.raise_ends.specs.Ends.{RunEnds}
use Rattle.raise_ends.specs.Unwinds.{AtUnwind}

-- Where the machine for linear code ends since a forced unwind has come to the end, the run of the ABI machine ends within as many turns as the
-- operation has words, shows nothing more and exits with the number of the unwind, as that does.
abbrev pub ForcedUnwindsExit : Type 0
ForcedUnwindsExit = (i : CleanImage) (pick : ℕ → ℕ) (j : ℕ) (p : Plan) (n : ℕ) (k z : ℤ) (st : State) (v : World) (w : abi.World) → Matches p st w → IsRunning p i w.hart → (at : AtUnwind p n st w k) →
    step (code_of p.unit) st ≡ finishes (by_program (exit z)) v → length (linear_code (shape p n) at.operation) ≤ j → (z ≡ k) × (v ≡ st.world) × RunEnds (program_of i).image pick j w [] (Exit k)
