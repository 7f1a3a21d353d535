-- That the run of a source's linear code shows what the source means.
use Rattle.std.specs.Prelude.{ℕ, ◌≡◌, List, length}
use Rattle.cxx_ast.specs.declared.token.Token.{Token}
use Rattle.cxx_ast.specs.Broken.{Valid}
use Rattle.cxx_ast.specs.Checked.{IsChecked, checked}
use Rattle.cxx_ast.specs.Lex.{Lex}
use Rattle.cxx_ast.specs.Plain.{Program, Checked}
use Rattle.cxx_ast.specs.Tree.{Tree}
use Rattle.eh_outer.specs.declared.module.Reply.{Reply}
use Rattle.meaning_forms.specs.Meaning.{stopped_by, program_meaning}
use Rattle.meaning_forms.specs.Outcome.{undefined}
use Rattle.region_forms.specs.Layout.{layout_of}
use Rattle.region_forms.specs.LowerProgram.{regions_of}
use Rattle.linear_simulation.specs.FunctionsRun.{program_cost}
use Rattle.linear_simulation.specs.ProgramRuns.{RunShows}
use Rattle.cxx_ast.specs.declared.standard.Std.{Std}

-- The run of a program's linear code shows what the program means, for every limit of open calls, every input, all replies and every number of
-- turns, where that is not undefined: for each turn and one more so many steps are enough as its regions cost.
abbrev pub RunsAsMeant : Checked → Type 0
RunsAsMeant p =
    let r = regions_of p (layout_of p) in
    (input : List ℕ) (replies : List (List Reply)) (turns limit : ℕ) → ((program_meaning p input replies turns limit).main ≡ stopped_by undefined → ⊥)
    → RunShows r (program_meaning p input replies turns limit) turns (program_cost r) input replies

-- so it is of each checked program
abbrev pub CheckedProgramsRunAsMeant : Type 0
CheckedProgramsRunAsMeant = (p : Checked) → IsChecked p → RunsAsMeant p

-- and of each source that is valid by a standard: of the checked program of the tree of its tokens
abbrev pub ValidSourcesRunAsMeant : Type 0
ValidSourcesRunAsMeant = (source : List ℕ) (tokens : List Token) (std : Std) (p : Program) → Lex source tokens → Tree tokens (length source) p → Valid std p → RunsAsMeant (checked std p)
