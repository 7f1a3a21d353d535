-- How many instructions are enough for what a program means.
use Rattle.std.specs.Prelude.{◌≡◌, ◌⊎◌, ℕ, ◌+◌, ◌*◌, ◌≤◌, ◌^◌, List}
use Rattle.eh_outer.specs.declared.module.Reply.{Reply}
use Rattle.cxx_ast.specs.Checked.{IsChecked}
use Rattle.cxx_ast.specs.Plain.{Checked}
use Rattle.elf_image.specs.Clean.{CleanImage}
use Rattle.elf_image.specs.Stands.{ImageStands}
use Rattle.image_forms.specs.Linked.{contents_for}
use Rattle.meaning_forms.specs.declared.ending.MeanEnd.{MeanEnd}
use Rattle.meaning_forms.specs.declared.ending.MeanEnd.TheVariants as meanings
use Rattle.meaning_forms.specs.Meaning.{program_meaning}
use Rattle.linear_forms.specs.UnitRun.{code_of, first_state}
use Rattle.linear_simulation.specs.ProgramRuns.{BeginsWith}
use Rattle.source_bounds.specs.Compiled.{unit_for, emitted_for}
use Rattle.cxa_runtime.specs.declared.effect.End.TheVariants as run_ends
use Rattle.cxa_runtime.specs.World.{begins}
use Rattle.cxa_runtime.specs.Run.{Ran, Runs}
use Rattle.eh_run.specs.Program.{program_of}
use Rattle.whole_runs.specs.Enough.{RunSuffices}
use Rattle.compiled_runs.specs.Given.{IsGiven}
use Rattle.compiled_runs.specs.Compiled.{EndsAs, Compiled, RunsFollow}
use Rattle.compiled_runs.specs.Starts.{StepsGoOn}

-- a meaning has an end
abbrev pub HasEnd : MeanEnd → Type 0
HasEnd (meanings.Exit n) = Unit {0}
HasEnd meanings.Aborted = Unit {0}
HasEnd e = ⊥

-- so many instructions are enough for so many turns
abbrev pub enough_for : Checked → ℕ → ℕ
enough_for p turns = (turns + 1) * (128 * p.program.tokens + 4096)

-- A run of an image against what its program means with fewer turns, for which its instructions are enough. Where the meaning has an end the run shows the same
-- items and ends so; and where it runs out of its turns, the run has shown all that it shows, if nothing is undefined that the run may come to. Else the
-- stack is used up, where 4,096 calls were open.
pub record HasEnough (p : Checked) (i : CleanImage) : Type 0 where
  pub ends : (input : List ℕ) (replies : List (List Reply)) (turns n : ℕ) (r : Ran) → IsGiven input replies → n ≤ 2 ^ 40 → enough_for p turns ≤ n →
      Runs (program_of i).image n (begins (program_of i).hart input replies) r → let m = program_meaning p input replies turns (turns + 1) in
      HasEnd m.end → ((r.items ≡ m.items) × EndsAs m.end r.end) ⊎ ((r.end ≡ run_ends.Stack) × (4096 ≤ m.deepest))
  pub goes : (input : List ℕ) (replies : List (List Reply)) (turns n : ℕ) (r : Ran) → IsGiven input replies → n ≤ 2 ^ 40 → enough_for p turns ≤ n →
      Runs (program_of i).image n (begins (program_of i).hart input replies) r → let m = program_meaning p input replies turns (turns + 1) in
      m.end ≡ meanings.OutOfTurns → let far = program_meaning p input replies n (n + 1) in (far.end ≡ meanings.Undefined → ⊥) →
      BeginsWith m.items r.items ⊎ ((r.end ≡ run_ends.Stack) × (4096 ≤ far.deepest))

-- some turns, and at most 38, are enough for each run of an image before its linear code begins
abbrev pub RunsSufficeFor : Checked → CleanImage → Type 0
RunsSufficeFor p i = (pick : ℕ → ℕ) (input : List ℕ) (replies : List (List Reply)) → IsGiven input replies → (before : ℕ) × (before ≤ 38) × ((steps : ℕ) →
    RunSuffices (program_of i).image pick (code_of (unit_for p)) (2 ^ 40) (first_state (unit_for p) input replies) (begins (program_of i).hart input replies) before steps)

abbrev pub SufficientImagesHaveEnough : Type 0
SufficientImagesHaveEnough = (p : Checked) → IsChecked p → (i : CleanImage) → RunsFollow p i → RunsSufficeFor p i → Compiled p i → HasEnough p i

-- so it is where steps go on from the beginning of main as turns
abbrev pub ImagesHaveEnough : Type 0
ImagesHaveEnough = (p : Checked) → IsChecked p → (i : CleanImage) (tables : ℕ → ℕ) → ImageStands (contents_for (emitted_for p)) i.image → StepsGoOn p i tables → HasEnough p i
