-- An FDE of the frames that are read from a memory.
use Rattle.std.specs.Prelude.{◌≡◌, ℕ, Ok, Contains}
use Rattle.eh_bytes.specs.Memory.{Memory}
use Rattle.table_forms.specs.Fde as forms
use Rattle.table_forms.specs.Frames.{Frames, frames}
use Rattle.frame_read.specs.Listed.{fde_listed}
use Rattle.frame_read.specs.ReadsFrames.{Listing, listing}
use Rattle.frame_read.specs.declared.listed.Fde.{Fde}

-- the list is that of frames of the memory, and the FDE is listed for one of theirs
pub record IsEntry (memory : Memory) (list : Listing) (fde : Fde) (f : forms.Fde) : Type 0 where
  pub header : ℕ
  pub read : Frames
  pub reads : frames memory header ≡ Ok read
  pub lists : list ≡ listing read
  pub stands : Contains read.fdes f
  pub listed : fde ≡ fde_listed f
