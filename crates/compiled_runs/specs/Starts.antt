-- Where main begins in an image, and what follows where steps go on from there.
use Rattle.std.specs.Prelude.{ℕ, ◌-◌, ◌≤◌, ◌<◌, ◌^◌, List, []}
use Rattle.eh_outer.specs.declared.module.Reply.{Reply}
use Rattle.cxx_ast.specs.Checked.{IsChecked}
use Rattle.cxx_ast.specs.Plain.{Checked}
use Rattle.elf_image.specs.Clean.{CleanImage}
use Rattle.elf_image.specs.Stands.{ImageStands}
use Rattle.image_forms.specs.Placed.{code_at}
use Rattle.image_forms.specs.Linked.{contents_for}
use Rattle.linear_forms.specs.UnitRun.{code_of, first_state}
use Rattle.source_bounds.specs.Compiled.{unit_for, emitted_for}
use Rattle.cxa_runtime.specs.World as abi
use Rattle.eh_run.specs.Program.{program_of}
use Rattle.machine_pieces.specs.Turning.{Turns}
use Rattle.machine_simulation.specs.Plan.{Plan, shape}
use Rattle.machine_simulation.specs.Calls.{stack_end}
use Rattle.machine_simulation.specs.Matches.{Matches}
use Rattle.machine_simulation.specs.Entering.{opened}
use Rattle.machine_simulation.specs.Beginning.{plan_before}
use Rattle.whole_runs.specs.Steps.{FollowsOn}
use Rattle.compiled_runs.specs.Given.{IsGiven}
use Rattle.compiled_runs.specs.Compiled.{Compiled}

-- where main begins, with the globals and its own frame
abbrev pub plan_of_main : Checked → (tables : ℕ → ℕ) → Plan
plan_of_main p tables =
    let before = plan_before (unit_for p) (code_at (emitted_for p)) tables in let main = (unit_for p).main in
    opened before main 0 (stack_end - (shape before main).size)

-- some turns, and at most 38, lead from the beginning of a run to where the first operation of main begins in linear code
pub record Started (p : Checked) (i : CleanImage) (tables : ℕ → ℕ) (input : List ℕ) (replies : List (List Reply)) : Type 0 where
  pub turns : ℕ
  pub some : 0 < turns
  pub few : turns ≤ 38
  pub after : abi.World
  pub runs : Turns (program_of i).image turns (abi.begins (program_of i).hart input replies) after []
  pub matches : Matches (plan_of_main p tables) (first_state (unit_for p) input replies) after

abbrev pub ImagesStart : Type 0
ImagesStart = (p : Checked) → IsChecked p → (i : CleanImage) (tables : ℕ → ℕ) → ImageStands (contents_for (emitted_for p)) i.image → (input : List ℕ) (replies : List (List Reply)) →
    Started p i tables input replies

-- from there steps go on as turns, whatever is given
abbrev pub StepsGoOn : Checked → CleanImage → (ℕ → ℕ) → Type 0
StepsGoOn p i tables = (pick : ℕ → ℕ) (input : List ℕ) (replies : List (List Reply)) → IsGiven input replies → (s : Started p i tables input replies) →
    FollowsOn (program_of i).image pick (code_of (unit_for p)) (2 ^ 40) s.turns (first_state (unit_for p) input replies) s.after

abbrev pub ImagesAreCompiled : Type 0
ImagesAreCompiled = (p : Checked) → IsChecked p → (i : CleanImage) (tables : ℕ → ℕ) → ImageStands (contents_for (emitted_for p)) i.image → StepsGoOn p i tables → Compiled p i
