-- How many steps the code of a source's regions makes at most, but for its turns, by the tokens of the source.
use Rattle.std.specs.Prelude.{ℕ, ◌+◌, ◌*◌, ◌≤◌, List, length}
use Rattle.cxx_ast.specs.declared.token.Token.{Token}
use Rattle.cxx_ast.specs.Plain.{Program, Checked}
use Rattle.cxx_ast.specs.Lex.{Lex}
use Rattle.cxx_ast.specs.Tree.{Tree}
use Rattle.cxx_ast.specs.Broken.{Valid}
use Rattle.cxx_ast.specs.Checked.{IsChecked, checked}
use Rattle.region_forms.specs.Layout.{Layout, layout_of}
use Rattle.region_forms.specs.LowerProgram.{regions_of}
use Rattle.linear_simulation.specs.FunctionsRun.{program_cost}
use Rattle.linear_meaning.specs.WatchedRuns.{RunAsMeant}
use Rattle.cxx_ast.specs.declared.standard.Std.{Std}

-- so many steps for so many tokens
abbrev pub steps_for : ℕ → ℕ
steps_for tokens = 40 * tokens + 200

-- the cost of each checked program is no more, by any layout
abbrev pub CheckedCostsFit : Type 0
CheckedCostsFit = (p : Checked) (l : Layout) (c : IsChecked p) → program_cost (regions_of p l) ≤ steps_for (length c.tokens)

-- so in as many steps, for each turn and one more, the run of a valid source's linear code shows what its regions mean
abbrev pub ValidSourcesRunInTime : Type 0
ValidSourcesRunInTime = (source : List ℕ) (tokens : List Token) (std : Std) (p : Program) → Lex source tokens → Tree tokens (length source) p → Valid std p →
    RunAsMeant (regions_of (checked std p) (layout_of (checked std p))) (steps_for (length tokens))
