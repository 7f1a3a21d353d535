-- What is asked of the operations, cleanups and clauses of implicit functions, and of those that are declared.
use Rattle.std.specs.Prelude.{ℕ, ◌≡◌, ◌<◌, Bool, true, false, length, Some, slice_get}
use Rattle.cxx_ast.specs.Plain.{Checked, Function}
use Rattle.meaning_forms.specs.Class.{class_at}
use Rattle.region_forms.specs.Form.{RegionFunction, Regions}
use Rattle.region_forms.specs.Layout.{Layout}
use Rattle.region_forms.specs.LowerProgram.{declared_function, implicit_default_function, implicit_copy_function, implicit_destructor_function, regions_of}
use Rattle.region_ir.specs.Leaves.{leaves_test}

-- what a function's body does passes its tests
abbrev pub body_passes : Regions → RegionFunction → Bool
body_passes r f = leaves_test r f.slots f.body

-- so do those of class k
pub record ImplicitPass (p : Checked) (l : Layout) (k : ℕ) : Type 0 where
  pub default : body_passes (regions_of p l) (implicit_default_function p l k) ≡ true
  pub copy : body_passes (regions_of p l) (implicit_copy_function p l k) ≡ true
  pub destructor : body_passes (regions_of p l) (implicit_destructor_function p l k) ≡ true

-- so do those of the functions that a program declares, main or not
pub record DeclaredPass (p : Checked) (l : Layout) : Type 0 where
  pub own : (is_main : Bool) (i : ℕ) (f : Function) → slice_get p.functions i ≡ Some f → body_passes (regions_of p l) (declared_function p l false is_main 0 f) ≡ true
  pub method : (k i : ℕ) (f : Function) → k < length p.classes → slice_get (class_at p k).functions i ≡ Some f →
      body_passes (regions_of p l) (declared_function p l true false k f) ≡ true
