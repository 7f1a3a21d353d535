-- That the regions of a program break nothing that is watched.
use Rattle.std.specs.Prelude.{ℕ, ◌≡◌, List}
use Rattle.cxx_ast.specs.Checked.{IsChecked}
use Rattle.cxx_ast.specs.Plain.{Checked}
use Rattle.eh_outer.specs.declared.module.Reply.{Reply}
use Rattle.meaning_forms.specs.Meaning.{stopped_by, program_meaning}
use Rattle.meaning_forms.specs.Outcome.{deep, undefined}
use Rattle.region_forms.specs.Layout.{layout_of}
use Rattle.region_forms.specs.LowerProgram.{regions_of}
use Rattle.region_forms.specs.Meaning.{regions_meaning}
use Rattle.linear_simulation.specs.Watched.{watched_meaning}

-- Where a program comes to nothing that is undefined, its regions, watched, mean just what it means, so they stop as a call that is too deep only
-- where it does; and where it does not, so do its regions.
pub record BreaksNothing (p : Checked) (input : List ℕ) (replies : List (List Reply)) (turns limit : ℕ) : Type 0 where
  pub watched : ((program_meaning p input replies turns limit).main ≡ stopped_by undefined → ⊥)
      → watched_meaning (regions_of p (layout_of p)) input replies turns limit ≡ program_meaning p input replies turns limit
  pub meant : ((program_meaning p input replies turns limit).main ≡ stopped_by undefined → ⊥) → ((program_meaning p input replies turns limit).main ≡ stopped_by deep → ⊥)
      → regions_meaning (regions_of p (layout_of p)) input replies turns limit ≡ program_meaning p input replies turns limit

-- so it is of each checked program, for every input, all replies, every number of turns and every limit of open calls
abbrev pub CheckedRegionsBreakNothing : Type 0
CheckedRegionsBreakNothing = (p : Checked) → IsChecked p → (input : List ℕ) (replies : List (List Reply)) (turns limit : ℕ) → BreaksNothing p input replies turns limit
