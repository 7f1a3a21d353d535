-- Where the parts of an image that is written stand in its file (ELF-64 Object File Format, "Program header table").
use Rattle.std.specs.Prelude.{ℕ, ◌+◌, ◌-◌, ◌*◌, ◌%◌, List, [], ◌∷◌, ◌++◌, length, find, option_map, unwrap_or, if◌then◌else◌}
use Rattle.eh_bytes.specs.declared.unit.RuntimeRecord.{RuntimeRecord}
use Rattle.eh_bytes.specs.Memory.{Part, Memory}
use Rattle.elf_image.specs.declared.program.ProgramHeader.{ProgramHeader}
use Rattle.elf_image.specs.Programs.{end_of}
use Rattle.elf_image.specs.Runtime.{has_address}

-- what an image is to hold, wherever its file has it
pub record Contents : Type 0 where
  pub entry : ℕ
  pub memory : Memory
  pub frame_header : ℕ
  pub runtime : RuntimeRecord

-- the least number of zeros behind a place, after which a segment of this address may stand: both are congruent modulo a page
abbrev pub padding : ℕ → ℕ → ℕ
padding place address = (0x1000 + address % 0x1000 - place % 0x1000) % 0x1000

abbrev pub place_for : ℕ → ℕ → ℕ
place_for place address = place + padding place address

-- PF_R, with PF_W and PF_X where the segment allows them
abbrev pub flags_of : Part → ℕ
flags_of part = 4 + (if part.write then 2 else 0) + (if part.exec then 1 else 0)

-- a PT_LOAD, all of whose memory stands in the file
abbrev pub load_for : ℕ → ℕ → Part → ProgramHeader
load_for place offset part = record {
  place = place;
  kind = 1;
  flags = flags_of part;
  offset = offset;
  address = part.address;
  file_size = length part.bytes;
  memory_size = length part.bytes;
}

-- the headers of segments, the first header at a place, the first segment as soon as it may from another on
abbrev pub loads_from : ℕ → ℕ → Memory → List ProgramHeader
loads_from place from [] = []
loads_from place from (part ∷ memory) =
    let offset = place_for from part.address in
    load_for place offset part ∷ loads_from (place + 56) (offset + length part.bytes) memory

-- where an address stands in the file, and how many bytes of its segment there are from there on; 0 and 0 where no segment has it
abbrev pub stands_at : List ProgramHeader → ℕ → ℕ × ℕ
stands_at loads a = unwrap_or (option_map (λ load. (load.offset + (a - load.address), end_of load - a)) (find (has_address a) loads)) (0, 0)

-- the PT_GNU_EH_FRAME: from the frames' header to the end of its segment
abbrev pub frames_for : ℕ → List ProgramHeader → ℕ → ProgramHeader
frames_for place loads a = record {
  place = place;
  kind = 0x6474e550;
  flags = 4;
  offset = (stands_at loads a).0;
  address = a;
  file_size = (stands_at loads a).1;
  memory_size = (stands_at loads a).1;
}

-- the record for the runtime, which the file alone has
abbrev pub runtime_for : ℕ → ℕ → ProgramHeader
runtime_for place offset = record { place = place; kind = 0x6e485831; flags = 4; offset = offset; address = 0; file_size = 24; memory_size = 0 }

-- behind the header of the file and so many program headers
abbrev pub behind_headers : ℕ → ℕ
behind_headers count = 64 + 56 * count

-- the segments, the frames' header, the record; the record stands behind the program headers, and the segments behind it
abbrev pub headers_for : Contents → List ProgramHeader
headers_for c =
    let count = length c.memory in
    let loads = loads_from 64 (behind_headers (count + 2) + 24) c.memory in
    loads ++ frames_for (behind_headers count) loads c.frame_header ∷ runtime_for (behind_headers (count + 1)) (behind_headers (count + 2)) ∷ []
