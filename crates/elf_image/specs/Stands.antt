-- What a file stands for that is written of an image's parts.
use Rattle.std.specs.Prelude.{◌≡◌, ◌%◌, Bool, List, ℕ, Some, map, IsOkAnd}
use Rattle.std.specs.List.{AllByRecursion}
use Rattle.eh_bytes.specs.Memory.{Part, memory_of}
use Rattle.elf_image.specs.declared.write.ImageParts.{ImageParts}
use Rattle.elf_image.specs.Elf.{Image, elf}
use Rattle.elf_image.specs.Laid.{Contents}
use Rattle.elf_image.specs.CanWrite.{AreRising}

abbrev pub contents_of : ImageParts → Contents
contents_of p = record { entry = p.entry; memory = memory_of p.segments; frame_header = p.frame_header; runtime = p.runtime }

-- a segment wherever its file has it
abbrev pub unplaced : Part → Part
unplaced part = record { address = part.address; bytes = part.bytes; file_at = 0; write = part.write; exec = part.exec }

-- its place in the file is congruent to its address, modulo the size of a page
abbrev pub IsPaged : Part → Type 0
IsPaged part = part.file_at % 0x1000 ≡ part.address % 0x1000

-- the same entry, segments, frames' header and record; the segments in rising order, each where a page of the file can be its page (ELF-64, "Program header table")
pub record ImageStands (c : Contents) (i : Image) : Type 0 where
  pub entry : i.entry ≡ c.entry
  pub memory : map unplaced i.memory ≡ map unplaced c.memory
  pub frame_header : i.frame_header ≡ c.frame_header
  pub runtime : i.runtime ≡ Some c.runtime
  pub rising : AreRising i.memory
  pub pages : AllByRecursion IsPaged i.memory

-- nothing is refused of the file, where it is to run also what is refused then, and what it holds is this
abbrev pub WritesImage : Contents → Bool → List ℕ → Type 0
WritesImage c run file = IsOkAnd (elf file run) (ImageStands c)
