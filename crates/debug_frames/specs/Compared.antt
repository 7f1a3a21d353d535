-- The agreement of both forms of the frames in a file, as it is computed.
use Rattle.std.specs.Prelude.{ℕ, List, take, drop, map, Result, Ok, Err}
use Rattle.table_forms.specs.Fault.{Fault}
use Rattle.table_forms.specs.Frames.{Frames}
use Rattle.table_forms.specs.Seen.{fault_of}
use Rattle.table_forms.specs.declared.refusal.Refusal.{Refusal}
use Rattle.elf_image.specs.Clean.{CleanImage, clean}
use Rattle.debug_frames.specs.FoundSection.{found_section}
use Rattle.debug_frames.specs.DebugParts.{debug_frames}
use Rattle.debug_frames.specs.Agreement.{Agreement}
use Rattle.debug_frames.specs.Changes.{agreement}

-- the clean image, and what its section .debug_frame says
pub record Forms : Type 0 where
  pub image : CleanImage
  pub debug : Frames

abbrev pub with_frames : CleanImage → Result Frames Fault → Result Forms Fault
with_frames i (Ok debug) = Ok (record { image = i; debug = debug })
with_frames i (Err f) = Err f

abbrev pub with_section : List ℕ → CleanImage → Result (ℕ × ℕ) Refusal → Result Forms Fault
with_section file i (Ok s) = with_frames i (debug_frames (take s.1 (drop s.0 file)) s.0)
with_section file i (Err r) = Err (fault_of r)

abbrev pub with_image : List ℕ → Result CleanImage Fault → Result Forms Fault
with_image file (Ok i) = with_section file i (found_section file)
with_image file (Err f) = Err f

-- both forms, or the first refusal: of the image, then of its section headers, then of .debug_frame
unfoldable pub forms_in : List ℕ → Result Forms Fault
forms_in file = with_image file (clean file)

abbrev pub compared_forms : Result Forms Fault → Result Agreement Fault
compared_forms (Ok forms) = Ok (agreement (map (λ f. f.fde) forms.image.functions) forms.debug.fdes)
compared_forms (Err f) = Err f

abbrev pub compared : List ℕ → Result Agreement Fault
compared file = compared_forms (forms_in file)
