-- How many functions, types and globals the regions of a checked program have, by the tokens of its source. A class has three implicit functions and
-- its name is a token, as is that of each function and of each global; int and `std::bad_exception` have no declaration.
use Rattle.std.specs.Prelude.{◌≤◌, ◌+◌, ◌*◌, ℕ, length}
use Rattle.cxx_ast.specs.Plain.{Checked}
use Rattle.cxx_ast.specs.Checked.{IsChecked}
use Rattle.region_forms.specs.Form.{Regions}
use Rattle.region_forms.specs.Layout.{Layout}
use Rattle.region_forms.specs.LowerProgram.{regions_of}

-- no more than so many tokens allow
pub record CountsFit (r : Regions) (tokens : ℕ) : Type 0 where
  pub functions : length r.functions ≤ 3 * tokens + 3
  pub types : length r.types ≤ tokens + 2
  pub globals : length r.globals ≤ tokens

-- so of every checked program, by any layout
abbrev pub CheckedCountsFit : Type 0
CheckedCountsFit = (p : Checked) (l : Layout) (c : IsChecked p) → CountsFit (regions_of p l) (length c.tokens)
