-- The tokens that regions tell of are those of the source, of which there are no more than the limit.
use Rattle.std.specs.Prelude.{◌≡◌, ◌≤◌, length}
use Rattle.cxx_ast.specs.Plain.{Checked}
use Rattle.cxx_ast.specs.Limits.{most_tokens}
use Rattle.cxx_ast.specs.Checked.{IsChecked}
use Rattle.region_forms.specs.Layout.{Layout}
use Rattle.region_forms.specs.LowerProgram.{regions_of}

abbrev pub CheckedRegionsHaveTheTokens : Type 0
CheckedRegionsHaveTheTokens = (p : Checked) (l : Layout) (c : IsChecked p) → ((regions_of p l).tokens ≡ length c.tokens) × ((regions_of p l).tokens ≤ most_tokens)
