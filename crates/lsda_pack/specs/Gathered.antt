-- What code gathers of an image to judge its tables.
use Rattle.std.specs.Prelude.{ℕ, ◌∷◌, ◌++◌, List, map, flat_map}
use Rattle.eh_bytes.specs.Memory.{Memory, part_with}
use Rattle.elf_image.specs.declared.program.ProgramHeader.{ProgramHeader}
use Rattle.elf_image.specs.Programs.{runtime_header}
use Rattle.elf_image.specs.Runnable.{frames_start}
use Rattle.lsda_pack.specs.declared.placing.Placing.{Placing}
use Rattle.lsda_pack.specs.declared.reach.Taken.{Taken}
use Rattle.lsda_pack.specs.Reaches.{extent_taken}
use Rattle.lsda_pack.specs.SharedTables.{InFile, frames_extent, header_in, headers_in, record_in}

-- the parts of a file with these program headers
abbrev pub parts_by : List ProgramHeader → List InFile
parts_by headers = (0, 64) ∷ headers_in headers ++ record_in (runtime_header headers)

-- what is read of memory besides these tables
abbrev pub others_by : Memory → ℕ → List Placing → List Taken
others_by memory header placings =
    map extent_taken (frames_extent memory (frames_start memory header)) ++ map extent_taken (header_in header (part_with memory header)) ++ flat_map (λ p. p.words.items) placings
