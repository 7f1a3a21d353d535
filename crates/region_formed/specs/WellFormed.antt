-- The regions of each checked program are well-formed.
use Rattle.std.specs.Prelude.{ℕ, ◌≡◌, true, List, length}
use Rattle.cxx_ast.specs.declared.standard.Std.{Std}
use Rattle.cxx_ast.specs.declared.token.Token.{Token}
use Rattle.cxx_ast.specs.Plain.{Program, Checked}
use Rattle.cxx_ast.specs.Lex.{Lex}
use Rattle.cxx_ast.specs.Tree.{Tree}
use Rattle.cxx_ast.specs.Broken.{Valid}
use Rattle.cxx_ast.specs.Checked.{IsChecked, checked}
use Rattle.region_forms.specs.Layout.{layout_of}
use Rattle.region_forms.specs.LowerProgram.{regions_of}
use Rattle.region_forms.specs.WellFormed.{is_well_formed}

abbrev pub CheckedRegionsAreWellFormed : Type 0
CheckedRegionsAreWellFormed = (p : Checked) → IsChecked p → is_well_formed (regions_of p (layout_of p)) ≡ true

-- so are those of each source that is valid by a standard: of the checked program of the tree of its tokens
abbrev pub SourceRegionsAreWellFormed : Type 0
SourceRegionsAreWellFormed = (source : List ℕ) (tokens : List Token) (std : Std) (p : Program) → Lex source tokens → Tree tokens (length source) p → Valid std p →
    is_well_formed (regions_of (checked std p) (layout_of (checked std p))) ≡ true
