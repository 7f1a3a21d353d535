-- An FDE of the frames that are read from a memory, and a place of it.
use Rattle.std.specs.Prelude.{◌≡◌, ℕ, true, Ok, Contains}
use Rattle.eh_bytes.specs.Memory.{Memory}
use Rattle.table_forms.specs.Fde as forms
use Rattle.table_forms.specs.Frames.{Frames, frames}
use Rattle.frame_read.specs.Listed.{fde_listed}
use Rattle.frame_read.specs.ReadsFrames.{Listing, listing}
use Rattle.frame_read.specs.declared.listed.Fde.{Fde}

-- the list is that of frames of the memory, the FDE is listed for one of theirs, and its region holds the place
pub record IsFrameOf (memory : Memory) (list : Listing) (fde : Fde) (pc : ℕ) (f : forms.Fde) : Type 0 where
  pub header : ℕ
  pub read : Frames
  pub reads : frames memory header ≡ Ok read
  pub lists : list ≡ listing read
  pub stands : Contains read.fdes f
  pub listed : fde ≡ fde_listed f
  pub inside : forms.is_in f.region pc ≡ true
