-- What the linear code of a source does: its run shows what its regions mean.
use Rattle.std.specs.Prelude.{ℕ, ◌≡◌, List, length}
use Rattle.eh_outer.specs.declared.module.Reply.{Reply}
use Rattle.cxx_ast.specs.declared.token.Token.{Token}
use Rattle.cxx_ast.specs.Plain.{Program, Checked}
use Rattle.cxx_ast.specs.Lex.{Lex}
use Rattle.cxx_ast.specs.Tree.{Tree}
use Rattle.cxx_ast.specs.Broken.{Valid}
use Rattle.cxx_ast.specs.Checked.{IsChecked, checked}
use Rattle.meaning_forms.specs.Outcome.{deep}
use Rattle.meaning_forms.specs.Meaning.{stopped_by}
use Rattle.region_forms.specs.Form.{Regions}
use Rattle.region_forms.specs.Layout.{layout_of}
use Rattle.region_forms.specs.LowerProgram.{regions_of}
use Rattle.region_forms.specs.Meaning.{regions_meaning}
use Rattle.linear_simulation.specs.Watched.{watched_meaning}
use Rattle.linear_simulation.specs.FunctionsRun.{program_cost}
use Rattle.linear_simulation.specs.ProgramRuns.{RunShows}
use Rattle.cxx_ast.specs.declared.standard.Std.{Std}

-- The run of the linear code of regions shows what their watched meaning shows, for every limit of open calls, every input, all replies and
-- every number of turns: for each turn and one more `most` steps are enough. Where the watched meaning does not stop as a call that is too deep,
-- the run shows what the meaning shows.
pub record RunAsMeant (r : Regions) (most : ℕ) : Type 0 where
  pub watched : (limit : ℕ) (input : List ℕ) (replies : List (List Reply)) (turns : ℕ) →
      RunShows r (watched_meaning r input replies turns limit) turns most input replies
  pub meant : (limit : ℕ) (input : List ℕ) (replies : List (List Reply)) (turns : ℕ) →
      ((watched_meaning r input replies turns limit).main ≡ stopped_by deep → ⊥) →
      RunShows r (regions_meaning r input replies turns limit) turns most input replies

-- in steps that depend on the program alone
abbrev pub RunAtCost : Regions → Type 0
RunAtCost r = RunAsMeant r (program_cost r)

-- so it is of each checked program
abbrev pub CheckedProgramsRun : Type 0
CheckedProgramsRun = (p : Checked) → IsChecked p → RunAtCost (regions_of p (layout_of p))

-- and of each source that is valid by a standard: of the checked program of the tree of its tokens
abbrev pub ValidSourcesRun : Type 0
ValidSourcesRun = (source : List ℕ) (tokens : List Token) (std : Std) (p : Program) → Lex source tokens → Tree tokens (length source) p → Valid std p →
    RunAtCost (regions_of (checked std p) (layout_of (checked std p)))
