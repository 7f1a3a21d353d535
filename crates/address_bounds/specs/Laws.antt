-- What the calls of laws state.
use Rattle.std.specs.Prelude.{◌≡◌, ℕ, ◌≤◌, Some, slice_get}
use Rattle.cxx_ast.specs.Plain.{Checked}
use Rattle.cxx_ast.specs.Limits.{most_class_bytes}
use Rattle.meaning_forms.specs.Class.{class_type}
use Rattle.region_forms.specs.Form.{RegionFunction}
use Rattle.region_forms.specs.Layout.{Layout, laid_size}
use Rattle.region_forms.specs.LowerProgram.{regions_of}
use Rattle.linear_forms.specs.Frame.{code_slots}
use Rattle.linear_forms.specs.Linear.{FunctionCode, LinearOp}
use Rattle.linear_forms.specs.Unit.{unit_of}
use Rattle.region_statements.specs.Whole.{IsTypedProgram}
use Rattle.address_bounds.specs.Reaches.{RegionReaches, LinearReaches}
use Rattle.address_bounds.specs.Givens.{needs_of}

-- In the regions of a typed program whose objects are small enough, each int lies inside what its address begins at, and each address that is
-- passed has as many bytes behind it as the function needs that is called.
abbrev pub RegionsReachInside : Type 0
RegionsReachInside = (p : Checked) (l : Layout) → IsTypedProgram p l → ((k : ℕ) → laid_size l (class_type k) ≤ most_class_bytes) → (n : ℕ) (f : RegionFunction) →
    slice_get (regions_of p l).functions n ≡ Some f → RegionReaches (needs_of p l) (needs_of p l n) (code_slots f) f.body

-- So it is in the linear code of its functions.
abbrev pub CodeReachesInside : Type 0
CodeReachesInside = (p : Checked) (l : Layout) → IsTypedProgram p l → ((k : ℕ) → laid_size l (class_type k) ≤ most_class_bytes) → (n : ℕ) (g : FunctionCode) (place : ℕ) (o : LinearOp) →
    slice_get (unit_of (regions_of p l)).functions n ≡ Some g → slice_get g.ops place ≡ Some o → LinearReaches (needs_of p l) (needs_of p l n) g.slots o
