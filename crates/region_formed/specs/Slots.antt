-- The slots of a checked program's functions have some words each, and no more bytes than a class may have.
use Rattle.std.specs.Prelude.{◌≡◌, ◌%◌, Bool, true, ◌&&◌, ◌==◌, nat_le}
use Rattle.cxx_ast.specs.Plain.{Checked}
use Rattle.cxx_ast.specs.Limits.{most_class_bytes}
use Rattle.cxx_ast.specs.Checked.{IsChecked}
use Rattle.region_forms.specs.Form.{Slot, RegionFunction}
use Rattle.region_forms.specs.Layout.{layout_of}
use Rattle.region_forms.specs.LowerProgram.{regions_of}
use Rattle.region_forms.specs.WellFormed.{every}

-- one slot
abbrev pub slot_fits : Slot → Bool
slot_fits s = nat_le 4 s.size && (nat_le s.size most_class_bytes && s.size % 4 == 0)

-- those of a function
abbrev pub slots_fit : RegionFunction → Bool
slots_fit f = every slot_fits f.slots

-- those of a program
abbrev pub CheckedSlotsFit : Type 0
CheckedSlotsFit = (p : Checked) → IsChecked p → every slots_fit (regions_of p (layout_of p)).functions ≡ true
