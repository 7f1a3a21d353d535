-- Places of an image file.
use Rattle.std.specs.Prelude.{◌≡◌, ℕ, List, Some, None, Vec, Result, Ok, Err}
use Rattle.std.specs.Global.{Global}
use Rattle.table_forms.specs.Fault.{Fault}
use Rattle.table_forms.specs.Verdict.{Thrown}
use Rattle.elf_image.specs.Clean.{CleanImage, clean}
use Rattle.table_check.specs.declared.clean.CleanImage as found
use Rattle.table_check.specs.Checks.{IsSeen, IsReported}
use Rattle.place_verdicts.specs.declared.asked.Asked.{Asked}
use Rattle.place_verdicts.specs.declared.asked.Asked.TheVariants.{Typed}
use Rattle.place_verdicts.specs.declared.error.PlaceError.{PlaceError}
use Rattle.place_verdicts.specs.declared.error.PlaceError.TheVariants as errors
use Rattle.place_verdicts.specs.Types.{type_chain, thrown_asked}
use Rattle.place_verdicts.specs.Places.{at_places}

-- what was read of a file is this clean image
pub record IsRead (i : found.CleanImage) (c : CleanImage) : Type 0 where
  pub file : List ℕ
  pub cleans : clean file ≡ Ok c
  pub seen : IsSeen i c

-- the text of the clean image, or the refusal of the image or of the type, exactly; want of memory is free
abbrev pub PlacesImage : Result (Vec ℕ Global) PlaceError → Result CleanImage Fault → Asked → List ℕ → Type 0
PlacesImage (Ok text) read asked pcs =
    (c : CleanImage) × (read ≡ Ok c) × (thrown : Thrown) × (thrown_asked c.image.memory asked ≡ Some thrown) × (text.items ≡ at_places c thrown pcs)
PlacesImage (Err (errors.NoType a)) read asked pcs = (c : CleanImage) × (read ≡ Ok c) × (asked ≡ Typed a) × (type_chain c.image.memory a ≡ None)
PlacesImage (Err (errors.Image e)) read asked pcs = IsReported e read
