-- What the calls of laws state of files with sections.
use Rattle.std.specs.Prelude.{◌≡◌, ℕ, Bool, List, Ok}
use Rattle.elf_image.specs.Elf.{Image, elf}
use Rattle.elf_image.specs.Behind.{StandBehind}
use Rattle.elf_sections.specs.declared.section.Places.{Places}
use Rattle.elf_sections.specs.declared.symbol.Symbol.{Symbol}
use Rattle.elf_sections.specs.Written.{with_sections}

-- the image of a file of which nothing is refused is that of the file with sections too, and nothing is refused of that
abbrev pub SectionsChangeNoReading : Type 0
SectionsChangeNoReading =
    (file : List ℕ) (places : Places) (symbols : List Symbol) (run : Bool) (i : Image) → StandBehind file → elf file run ≡ Ok i →
    elf (with_sections file places symbols) run ≡ Ok i
