-- The lines of an image, of its segments and of its CIEs.
use Rattle.std.specs.Prelude.{ℕ, ℤ, ◌+◌, ◌-◌, Bool, List, [], ◌∷◌, ◌++◌, codes, length, Option, Some, None, option_and_then, if◌then◌else◌}
use Rattle.std.specs.Fmt.{decimal, signed_decimal}
use Rattle.eh_bytes.specs.Memory.{Part, Memory, part_with}
use Rattle.table_forms.specs.Cie.{Cie}
use Rattle.elf_image.specs.Runnable.{frames_start}
use Rattle.table_dump.specs.Texts.{hex, register}

abbrev pub image_line : ℕ → List ℕ
image_line entry = codes "image entry " ++ hex entry ++ codes "\n"

-- r for each, then w and x where it allows to write and to execute
abbrev pub allowed : Bool → List ℕ → List ℕ
allowed granted letter = if granted then letter else codes "-"

abbrev pub segment_line : Part → List ℕ
segment_line part =
    codes "segment " ++ hex part.address ++ codes " " ++ hex (part.address + length part.bytes) ++ codes " r" ++ allowed part.write (codes "w") ++
    allowed part.exec (codes "x") ++ codes "\n"

-- the segment to which the header of the frames leads
abbrev pub frames_part : Memory → ℕ → Option Part
frames_part memory header = option_and_then (part_with memory) (frames_start memory header)

-- the address at a place in the file of that segment
abbrev pub address_in : Option Part → ℕ → ℕ
address_in None place = 0
address_in (Some part) place = part.address + (place - part.file_at)

-- an empty augmentation is printed as -
abbrev pub augmentation_text : List ℕ → List ℕ
augmentation_text [] = codes "-"
augmentation_text (letter ∷ letters) = letter ∷ letters

-- what stands before and behind the augmentation
abbrev pub front_text : ℕ → ℕ → List ℕ
front_text at version = codes "cie " ++ hex at ++ codes " version " ++ decimal version ++ codes " aug "

abbrev pub back_text : ℕ → ℤ → ℕ → List ℕ
back_text code factor return = codes " code " ++ decimal code ++ codes " data " ++ signed_decimal factor ++ codes " ra " ++ register return ++ codes "\n"

abbrev pub cie_line : Option Part → Cie → List ℕ
cie_line part c =
    front_text (address_in part c.place) c.version ++ augmentation_text c.augmentation ++ back_text c.coding.code_factor c.coding.data_factor c.return_register
