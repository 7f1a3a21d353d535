-- What both forms of the frames in a file say of all locations, and what a comparison answers.
use Rattle.std.specs.Prelude.{◌≡◌, ℕ, List, Result, Ok, Err}
use Rattle.table_forms.specs.Frames.{Frames, frames}
use Rattle.elf_image.specs.declared.error.ImageError.{ImageError}
use Rattle.table_check.specs.Checks.{IsReported}
use Rattle.debug_frames.specs.declared.agreement.Agreement as found
use Rattle.debug_frames.specs.Agreement.{Agreement, Agrees}
use Rattle.debug_frames.specs.SeenAgreement.{agreement_seen}
use Rattle.debug_frames.specs.Compared.{Forms, forms_in}

-- nothing is refused, and this is what the frames of the image and those of its section say of all locations
pub record Compares (file : List ℕ) (a : Agreement) : Type 0 where
  pub forms : Forms
  pub there : forms_in file ≡ Ok forms
  pub read : Frames
  pub frames_read : frames forms.image.image.memory forms.image.image.frame_header ≡ Ok read
  pub agrees : Agrees read.fdes forms.debug.fdes a

-- what is found, or the refusal, exactly; want of memory is free
abbrev pub ComparesFrames : Result found.Agreement ImageError → List ℕ → Type 0
ComparesFrames (Ok a) file = Compares file (agreement_seen a)
ComparesFrames (Err e) file = IsReported e (forms_in file)
