-- Main returns, and the run ends.
use Rattle.std.specs.Prelude.{◌≡◌, ℕ, ◌+◌, ◌≤◌, ℤ, [], length, slice_get, Option, Some}
use Rattle.cxa_runtime.specs.declared.effect.End.TheVariants.{Exit}
use Rattle.cxa_runtime.specs.World as abi
use Rattle.cxa_runtime.specs.Raising.{Image}
use Rattle.cxa_runtime.specs.Run.{run}
use Rattle.meaning_forms.specs.Outcome.{exit}
use Rattle.region_forms.specs.World.{World}
use Rattle.linear_forms.specs.Linear.{return}
use Rattle.linear_forms.specs.Stub.{compiled}
use Rattle.linear_forms.specs.Activation.{State, finishes, by_program}
use Rattle.linear_forms.specs.Machine.{step}
use Rattle.linear_forms.specs.UnitRun.{code_of}
use Rattle.machine_forms.specs.LinearCode.{linear_code}
use Rattle.machine_simulation.specs.Plan.{Plan, function, shape}
use Rattle.machine_simulation.specs.Matches.{Matches}
use Rattle.machine_simulation.specs.Returns.{ResultStands}

-- Where the machine for linear code ends since main returns, the run of the ABI machine ends within as many turns as the return has words and two more, shows
-- nothing more and exits with the same number.
abbrev pub MainsEnd : Type 0
MainsEnd = (image : Image) (pick : ℕ → ℕ) (k : ℕ) (p : Plan) (n : ℕ) (st : State) (w : abi.World) (r : Option ℕ) (z : ℤ) (v : World) → Matches p st w → st.top.function ≡ compiled n →
    slice_get (function p n).ops st.top.place ≡ Some (return r) → st.frames ≡ [] → ResultStands p n st.top.frame r → step (code_of p.unit) st ≡ finishes (by_program (exit z)) v → length (linear_code (shape p n) (return r)) + 2 ≤ k →
    ((run image pick k w).items ≡ []) × ((run image pick k w).end ≡ Exit z)
