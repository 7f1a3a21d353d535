-- What the calls of laws state of checked programs.
use Rattle.std.specs.Prelude.{◌≡◌, ◌<◌, ◌≤◌, ℕ, ℤ, Some, length, slice_get}
use Rattle.std.specs.List.{AllByRecursion}
use Rattle.cxx_ast.specs.Checked.{IsChecked}
use Rattle.cxx_ast.specs.Plain.{Checked}
use Rattle.linear_forms.specs.Linear.{FunctionCode, jump_filter}
use Rattle.flight_homes.specs.Filters.{bytes_of_lists}
use Rattle.machine_pieces.specs.Numbers.{IsInt}
use Rattle.machine_simulation.specs.Plan.{Plan, function}
use Rattle.machine_raises.specs.Pads.{PadsArePlain, FiltersAreInts}
use Rattle.source_bounds.specs.Compiled.{unit_for}

-- few types and short lists in the tables of a function
pub record HasFew (g : FunctionCode) : Type 0 where
  pub types : length g.types < 8192
  pub lists : bytes_of_lists g.lists ≤ 8192

-- so in each function of a checked program
abbrev pub CheckedTablesAreFew : Type 0
CheckedTablesAreFew = (p : Checked) → IsChecked p → AllByRecursion HasFew (unit_for p).functions

-- wherever the unit of a checked program stands, each pad's slots are no variables of its function
abbrev pub CheckedPadsArePlain : Type 0
CheckedPadsArePlain = (p : Checked) → IsChecked p → (q : Plan) → q.unit ≡ unit_for p → PadsArePlain q

-- and the filters of each chain are ints
abbrev pub CheckedFiltersAreInts : Type 0
CheckedFiltersAreInts = (p : Checked) → IsChecked p → (q : Plan) → q.unit ≡ unit_for p → FiltersAreInts q

-- the number of each jump on a filter is an int
abbrev pub JumpsAreInts : Plan → Type 0
JumpsAreInts q = (n place s l : ℕ) (filter : ℤ) → slice_get (function q n).ops place ≡ Some (jump_filter s filter l) → IsInt filter

-- so it is wherever the unit of a checked program stands
abbrev pub CheckedJumpsAreInts : Type 0
CheckedJumpsAreInts = (p : Checked) → IsChecked p → (q : Plan) → q.unit ≡ unit_for p → JumpsAreInts q
