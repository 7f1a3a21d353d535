-- What a reader of clean images answers.
use Rattle.std.specs.Prelude.{◌≡◌, ⊤, map, Result, Ok, Err, IsErrAnd}
use Rattle.table_forms.specs.Fault.{Fault}
use Rattle.table_forms.specs.Frames.{frames}
use Rattle.elf_image.specs.declared.error.ImageError.{ImageError}
use Rattle.elf_image.specs.declared.error.ImageError.TheVariants as errors
use Rattle.elf_image.specs.Reads.{image_seen}
use Rattle.elf_image.specs.Reports.{reported}
use Rattle.elf_image.specs.Clean as forms
use Rattle.frame_read.specs.Listed.{cie_listed, fde_listed}
use Rattle.frame_read.specs.ReadsFrames.{ReadsFrames}
use Rattle.table_check.specs.Counts.{counts}
use Rattle.table_check.specs.declared.clean.CleanImage.{CleanImage}
use Rattle.table_check.specs.declared.summary.Summary.{Summary}

-- what is read is this clean image
pub record IsSeen (i : CleanImage) (c : forms.CleanImage) : Type 0 where
  pub image : image_seen i.elf ≡ c.image
  pub frames_read : ReadsFrames (Ok i.frames) (frames c.image.memory c.image.frame_header)
  pub cies : i.frames.cies ≡ map cie_listed c.cies
  pub fdes : i.order.items ≡ map (λ f. fde_listed f.fde) c.functions
  pub summary : i.summary ≡ counts c

-- the refusal that answers
abbrev pub IsReported : {X : Type 0} → ImageError → Result X Fault → Type 0
IsReported (errors.Refused reason place location other) read = IsErrAnd read (λ f. errors.Refused reason place location other ≡ reported f)
IsReported errors.NoMemory read = ⊤

-- the clean image, or the refusal, exactly; want of memory is free
abbrev pub ReadsClean : Result CleanImage ImageError → Result forms.CleanImage Fault → Type 0
ReadsClean (Ok i) read = (c : forms.CleanImage) × (read ≡ Ok c) × IsSeen i c
ReadsClean (Err e) read = IsReported e read

-- the counts of the clean image, or the refusal, exactly; want of memory is free
abbrev pub ChecksImage : Result Summary ImageError → Result forms.CleanImage Fault → Type 0
ChecksImage (Ok s) read = (c : forms.CleanImage) × (read ≡ Ok c) × (s ≡ counts c)
ChecksImage (Err e) read = IsReported e read
