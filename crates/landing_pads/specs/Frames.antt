-- Laws of the frames of all linear code.
use Rattle.std.specs.Prelude.{◌≡◌, ℕ, ◌+◌, ◌-◌, ◌*◌, ◌%◌, ◌<◌, ◌≤◌, Bool, List, length, map}
use Rattle.std.specs.List.{AllByRecursion}
use Rattle.cxx_ast.specs.declared.types.Ty.{Ty}
use Rattle.cxx_ast.specs.Checked.{IsChecked}
use Rattle.cxx_ast.specs.Plain.{Checked, Function}
use Rattle.cxx_ast.specs.Sizes.{Most, more_of, initialisers_most, body_most}
use Rattle.region_forms.specs.Form.{Region, RegionFunction}
use Rattle.region_forms.specs.Layout.{Layout, layout_of}
use Rattle.region_forms.specs.LowerProgram.{own_slots, slot_for, declared_function, implicit_default_function, implicit_copy_function, implicit_destructor_function, regions_of}
use Rattle.region_forms.specs.Mentioned.{slots_of}
use Rattle.region_forms.specs.Numbering.{variables_of}
use Rattle.linear_forms.specs.Frame.{slot_bytes}
use Rattle.linear_forms.specs.Unit.{function_code, unit_of}
use Rattle.landing_pads.specs.Numbered.{VariablesAreNumbered}

-- Landing pads add at most three slots to a function's own. Its frame is the least multiple of 16 that has room for 16 bytes and all slots.
-- So 1,992 bytes of slots of its own make a frame of at most 2,032 bytes, which 12 bits with a sign can name.
pub record FrameFits (f : RegionFunction) : Type 0 where
  pub slots : length (function_code f).slots ≤ length f.slots + 3
  pub added : slot_bytes (function_code f).slots ≤ slot_bytes f.slots + 24
  pub even : (function_code f).frame % 16 ≡ 0
  pub room : 16 + slot_bytes (function_code f).slots ≤ (function_code f).frame
  pub least : (function_code f).frame < 16 + slot_bytes (function_code f).slots + 16
  pub small : slot_bytes f.slots ≤ 1992 → (function_code f).frame ≤ 2032

-- so of all regions
abbrev pub AllFramesFit : Type 0
AllFramesFit = (f : RegionFunction) → FrameFits f

-- how many slots of a source's function hold values between calls, behind its variables, its result and the exception object's address
abbrev pub between_calls : Bool → List Ty → Region → ℕ
between_calls is_member variables body = slots_of body - (length (own_slots is_member) + length variables + 2)

-- the most levels, and the most arguments of one statement or initialiser, of a function's expressions
abbrev pub most_of : Function → Most
most_of f = more_of (initialisers_most f.initialisers) (body_most f.body)

-- the bytes of a function's variables by a layout, with 8 for each level and each argument
abbrev pub laid_bytes : Layout → Function → ℕ
laid_bytes l f = slot_bytes (map (slot_for l) (variables_of f)) + 8 * (most_of f).levels + 8 * (most_of f).arguments

-- A declared function whose variables are numbered keeps no more values between calls than its expressions have levels and arguments.
-- So with variables of at most 1,536 bytes its frame has at most 64 bytes more; and those of implicit functions have at most 80 in all.
pub record SourceFramesFit (p : Checked) (l : Layout) : Type 0 where
  pub few : (is_member is_main : Bool) (k : ℕ) (f : Function) → VariablesAreNumbered f →
      between_calls is_member (variables_of f) (declared_function p l is_member is_main k f).body ≤ (most_of f).levels + (most_of f).arguments
  pub declared : (is_member is_main : Bool) (k : ℕ) (f : Function) → VariablesAreNumbered f → laid_bytes l f ≤ 1536 →
      (function_code (declared_function p l is_member is_main k f)).frame ≤ 1600
  pub default : (k : ℕ) → (function_code (implicit_default_function p l k)).frame ≤ 80
  pub copy : (k : ℕ) → (function_code (implicit_copy_function p l k)).frame ≤ 80
  pub destructor : (k : ℕ) → (function_code (implicit_destructor_function p l k)).frame ≤ 80

-- so of every program, valid or not
abbrev pub AllSourceFramesFit : Type 0
AllSourceFramesFit = (p : Checked) (l : Layout) → SourceFramesFit p l

-- the variables of each function that a program declares have at most 1,536 bytes by a layout
pub record VariablesAreSmall (p : Checked) (l : Layout) : Type 0 where
  pub functions : AllByRecursion (λ f. laid_bytes l f ≤ 1536) p.functions
  pub methods : AllByRecursion (λ c. AllByRecursion (λ f. laid_bytes l f ≤ 1536) c.functions) p.classes

-- By its layout the variables of a checked program have no more bytes than the limit allows, so its frames have at most 1,600 bytes, and
-- 12 bits with a sign name each place in them.
pub record CheckedFramesFit (p : Checked) : Type 0 where
  pub variables : VariablesAreSmall p (layout_of p)
  pub small : AllByRecursion (λ g. g.frame ≤ 1600) (unit_of (regions_of p (layout_of p))).functions
  pub frames : AllByRecursion (λ g. g.frame ≤ 2032) (unit_of (regions_of p (layout_of p))).functions

-- so of every checked program
abbrev pub AllCheckedFramesFit : Type 0
AllCheckedFramesFit = (p : Checked) → IsChecked p → CheckedFramesFit p
