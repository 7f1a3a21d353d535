-- The frames of a source's functions.
use Rattle.std.proofs.Common.{◌≡◌, ℕ, ◌+◌, ◌≤◌, ◌<◌, Bool, true, [], refl, arith}
use Rattle.std.specs.Prelude.{◌%◌}
use Rattle.cxx_ast.specs.Plain.{Checked, Function}
use Rattle.meaning_forms.specs.Class.{class_at}
use Rattle.region_forms.specs.Layout.{Layout}
use Rattle.region_forms.specs.LowerProgram.{copied_type, declared_function, implicit_default_function, implicit_copy_function, implicit_destructor_function}
use Rattle.region_forms.specs.Numbering.{variables_of}
use Rattle.linear_forms.specs.Unit.{function_code}
use Rattle.landing_pads.specs.Numbered.{VariablesAreNumbered}
use Rattle.landing_pads.specs.Frames.{laid_bytes, AllSourceFramesFit}
use Rattle.landing_pads.proofs.Framed.{source_frame, frame_even}
use Rattle.landing_pads.proofs.FunctionSlots.{declared_few, default_few, copy_few, destructor_few}

-- a multiple of 16
even_below : (n frame : ℕ) → n % 16 ≡ 0 → frame % 16 ≡ 0 → frame < n + 16 → frame ≤ n
even_below n frame e g h = omega (arith, e, g, h)

declared_fits : (p : Checked) (l : Layout) (is_member is_main : Bool) (k : ℕ) (f : Function) → VariablesAreNumbered f → laid_bytes l f ≤ 1536 →
    (function_code (declared_function p l is_member is_main k f)).frame ≤ 1600
declared_fits p l is_member is_main k f h b =
    let g = declared_function p l is_member is_main k f in
    even_below 1600 (function_code g).frame refl (frame_even g)
    (source_frame g l is_member (variables_of f) 1536 refl (omega (arith, declared_few p l is_member is_main k f h, b)))

default_fits : (p : Checked) (l : Layout) (k : ℕ) → (function_code (implicit_default_function p l k)).frame ≤ 80
default_fits p l k =
    let g = implicit_default_function p l k in
    omega (arith, source_frame g l true [] 0 refl (omega (arith, default_few p l k)))

copy_fits : (p : Checked) (l : Layout) (k : ℕ) → (function_code (implicit_copy_function p l k)).frame ≤ 80
copy_fits p l k =
    let g = implicit_copy_function p l k in
    even_below 80 (function_code g).frame refl (frame_even g) (omega (arith, source_frame g l true (copied_type (class_at p k)) 8 refl (omega (arith, copy_few p l k))))

destructor_fits : (p : Checked) (l : Layout) (k : ℕ) → (function_code (implicit_destructor_function p l k)).frame ≤ 80
destructor_fits p l k =
    let g = implicit_destructor_function p l k in
    omega (arith, source_frame g l true [] 0 refl (omega (arith, destructor_few p l k)))

pub source_frames_fit : AllSourceFramesFit
source_frames_fit p l = record {
  few = declared_few p l;
  declared = declared_fits p l;
  default = default_fits p l;
  copy = copy_fits p l;
  destructor = destructor_fits p l;
}
