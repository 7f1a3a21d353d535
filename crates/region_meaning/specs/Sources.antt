-- That the regions of a source, watched, mean what the source means.
use Rattle.std.specs.Prelude.{ℕ, List, length}
use Rattle.cxx_ast.specs.declared.token.Token.{Token}
use Rattle.cxx_ast.specs.Broken.{Valid}
use Rattle.cxx_ast.specs.Checked.{IsChecked, checked}
use Rattle.cxx_ast.specs.Lex.{Lex}
use Rattle.cxx_ast.specs.Plain.{Program, Checked}
use Rattle.cxx_ast.specs.Tree.{Tree}
use Rattle.eh_outer.specs.declared.module.Reply.{Reply}
use Rattle.meaning_forms.specs.Meaning.{program_meaning}
use Rattle.region_forms.specs.Layout.{layout_of}
use Rattle.region_forms.specs.LowerProgram.{regions_of}
use Rattle.linear_simulation.specs.Watched.{watched_meaning}
use Rattle.region_statements.specs.Programs.{MeansTheSame}
use Rattle.cxx_ast.specs.declared.standard.Std.{Std}

-- A program's regions, watched, show the same items, end, greatest number of open calls, outcome of main and replies left as the program, for every input,
-- all replies, every number of turns and every limit of open calls, unless the program comes to what is undefined.
abbrev pub MeansAsLowered : Checked → Type 0
MeansAsLowered p =
    (input : List ℕ) (replies : List (List Reply)) (turns limit : ℕ)
    → MeansTheSame (program_meaning p input replies turns limit) (watched_meaning (regions_of p (layout_of p)) input replies turns limit)

-- so it is of each checked program
abbrev pub CheckedProgramsMeanTheSame : Type 0
CheckedProgramsMeanTheSame = (p : Checked) → IsChecked p → MeansAsLowered p

-- and of each source that is valid by a standard: of the checked program of the tree of its tokens
abbrev pub CheckedSourcesMeanTheSame : Type 0
CheckedSourcesMeanTheSame = (source : List ℕ) (tokens : List Token) (std : Std) (p : Program) → Lex source tokens → Tree tokens (length source) p → Valid std p → MeansAsLowered (checked std p)
