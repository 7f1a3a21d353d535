-- What a reading of frames returned, against what the definition reads.
use Rattle.std.specs.Prelude.{◌≡◌, ◌-◌, ◌^◌, ⊤, min, List, map, Result, Ok, Err, IsOkAnd, IsErrAnd}
use Rattle.table_forms.specs.Fault.{Fault}
use Rattle.table_forms.specs.Frames as forms
use Rattle.frame_read.specs.Listed.{cie_listed, fde_listed}
use Rattle.frame_read.specs.declared.listed.Cie.{Cie}
use Rattle.frame_read.specs.declared.listed.Fde.{Fde}
use Rattle.frame_read.specs.declared.error.FrameError.{FrameError}
use Rattle.frame_read.specs.declared.error.FrameError.TheVariants as errors

-- the CIEs and FDEs in the order of their places
pub record Listing : Type 0 where
  pub cies : List Cie
  pub fdes : List Fde

abbrev pub listing : forms.Frames → Listing
listing d = record { cies = map cie_listed d.cies; fdes = map fde_listed d.fdes }

-- a refusal as it is reported; a place that passes the numbers of 64 bits becomes the last of them
abbrev pub reported : Fault → FrameError
reported f = errors.Refused f.reason (min f.place (2 ^ 64 - 1)) f.location f.other

-- the list is what is read, or the error is the refusal that answers, or memory ran out
abbrev pub ReadsFrames : Result Listing FrameError → Result forms.Frames Fault → Type 0
ReadsFrames (Ok l) read = IsOkAnd read (λ d. l ≡ listing d)
ReadsFrames (Err errors.NoMemory) read = ⊤
ReadsFrames (Err (errors.Refused n p l o)) read = IsErrAnd read (λ f. errors.Refused n p l o ≡ reported f)
