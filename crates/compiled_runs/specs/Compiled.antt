-- That an image is the compiled program: what its runs show, and how they end, is what the program means.
use Rattle.std.specs.Prelude.{◌≡◌, ℕ, ◌+◌, ◌≤◌, ◌^◌, List}
use Rattle.eh_outer.specs.declared.module.Reply.{Reply}
use Rattle.cxx_ast.specs.Checked.{IsChecked}
use Rattle.cxx_ast.specs.Plain.{Checked}
use Rattle.elf_image.specs.Clean.{CleanImage}
use Rattle.meaning_forms.specs.declared.ending.MeanEnd.{MeanEnd}
use Rattle.meaning_forms.specs.declared.ending.MeanEnd.TheVariants as meanings
use Rattle.meaning_forms.specs.Meaning.{Meaning, program_meaning}
use Rattle.linear_forms.specs.UnitRun.{code_of, first_state}
use Rattle.linear_simulation.specs.ProgramRuns.{BeginsWith}
use Rattle.source_bounds.specs.Compiled.{unit_for}
use Rattle.cxa_runtime.specs.declared.effect.End.{End}
use Rattle.cxa_runtime.specs.declared.effect.End.TheVariants as ends
use Rattle.cxa_runtime.specs.World.{begins}
use Rattle.cxa_runtime.specs.Run.{Ran, Runs}
use Rattle.eh_run.specs.Program.{program_of}
use Rattle.whole_runs.specs.Runs.{RunFollows}
use Rattle.compiled_runs.specs.Given.{IsGiven}

-- a run ends for want of turns, or of stack
abbrev pub IsCut : End → Type 0
IsCut ends.Budget = Unit {0}
IsCut ends.Stack = Unit {0}
IsCut e = ⊥

-- a run ends as a meaning does: with the same exit number, or aborted
abbrev pub EndsAs : MeanEnd → End → Type 0
EndsAs (meanings.Exit n) (ends.Exit m) = m ≡ n
EndsAs meanings.Aborted ends.Aborted = Unit {0}
EndsAs m e = ⊥

-- A run against a meaning. Its items are those of the meaning, or a front of them. Unless it is cut short they are the same, and so is the end: no run ends
-- with a fault. Where the stack is used up, 4,096 calls were open.
pub record RunMeans (m : Meaning) (r : Ran) : Type 0 where
  pub front : BeginsWith r.items m.items
  pub whole : (IsCut r.end → ⊥) → (r.items ≡ m.items) × EndsAs m.end r.end
  pub deep : r.end ≡ ends.Stack → 4096 ≤ m.deepest

-- An image is the compiled program: each run of it with at most so many turns, whatever slots exceptions have, is what the program means with as many turns, if
-- that is not undefined. With so few turns no call is too deep for the meaning.
pub record Compiled (p : Checked) (i : CleanImage) : Type 0 where
  pub means : (input : List ℕ) (replies : List (List Reply)) (n : ℕ) (r : Ran) → IsGiven input replies → n ≤ 2 ^ 40 →
      Runs (program_of i).image n (begins (program_of i).hart input replies) r → let m = program_meaning p input replies n (n + 1) in
      (m.end ≡ meanings.Undefined → ⊥) → RunMeans m r

-- each run of an image follows each run of a program's linear code
abbrev pub RunsFollow : Checked → CleanImage → Type 0
RunsFollow p i = (pick : ℕ → ℕ) (input : List ℕ) (replies : List (List Reply)) → IsGiven input replies → (steps : ℕ) →
    RunFollows (program_of i).image pick (code_of (unit_for p)) (2 ^ 40) (first_state (unit_for p) input replies) (begins (program_of i).hart input replies) steps

abbrev pub FollowedImagesAreCompiled : Type 0
FollowedImagesAreCompiled = (p : Checked) → IsChecked p → (i : CleanImage) → RunsFollow p i → Compiled p i
