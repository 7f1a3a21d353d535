-- What the writer of images needs of their parts, and what is needed besides of an image to run.
use Rattle.std.specs.Prelude.{◌≡◌, ◌≤◌, ◌<◌, ℕ, ⊤, ◌+◌, ◌-◌, ◌%◌, ◌^◌, ◌==◌, ◌&&◌, Bool, true, false, [], ◌∷◌, length, slice_index, sum_by, IsSomeAnd, option_map, unwrap_or}
use Rattle.std.specs.List.{AllByRecursion}
use Rattle.eh_bytes.specs.Memory.{Part, Memory, part_with, is_code}
use Rattle.elf_image.specs.Laid.{Contents}

-- in rising order of address
abbrev pub AreRising : Memory → Type 0
AreRising [] = ⊤
AreRising (part ∷ []) = ⊤
AreRising (part ∷ next ∷ memory) = (part.address ≤ next.address) × AreRising (next ∷ memory)

abbrev pub size_of : Memory → ℕ
size_of memory = sum_by (λ part. length part.bytes) memory

-- 1 to 60 segments of at most 1 GiB; the frames' header in one of them, and the terminate stub at a multiple of 4 in code
pub record CanWriteImage (c : Contents) : Type 0 where
  pub some : 0 < length c.memory
  pub few : length c.memory ≤ 60
  pub rising : AreRising c.memory
  pub small : size_of c.memory ≤ 2 ^ 30
  pub frames : IsSomeAnd (part_with c.memory c.frame_header) (λ _. ⊤)
  pub aligned : c.runtime.terminate % 4 ≡ 0
  pub code : is_code c.memory c.runtime.terminate ≡ true

-- the byte at an address, or 0
abbrev pub byte_of : Memory → ℕ → ℕ
byte_of memory a = unwrap_or (option_map (λ part. slice_index part.bytes (a - part.address)) (part_with memory a)) 0

-- both encodings of the table say that there is none
abbrev pub is_bare : Memory → ℕ → Bool
is_bare memory header = byte_of memory (header + 2) == 0xff && byte_of memory (header + 3) == 0xff

abbrev pub IsLow : Part → Type 0
IsLow part = (0x10000 ≤ part.address) × (part.address + length part.bytes ≤ 0x60000000)

-- to run (profile): segments from 0x10000 up to 0x60000000, of at most 64 MiB, and a table for the frames
pub record CanRunImage (c : Contents) : Type 0 where
  pub low : AllByRecursion IsLow c.memory
  pub small : size_of c.memory ≤ 2 ^ 26
  pub table : is_bare c.memory c.frame_header ≡ false

abbrev pub IsWord : ℕ → Type 0
IsWord n = n < 2 ^ 64

abbrev pub HasWord : Part → Type 0
HasWord part = IsWord part.address

-- the numbers of an image's parts are those of their types
pub record NumbersFit (c : Contents) : Type 0 where
  pub entry : IsWord c.entry
  pub addresses : AllByRecursion HasWord c.memory
  pub frame_header : IsWord c.frame_header
  pub terminate : IsWord c.runtime.terminate
  pub bad_exception : IsWord c.runtime.bad_exception
