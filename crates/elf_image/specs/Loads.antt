-- The segments that are loaded, and the memory that they make.
use Rattle.std.specs.Prelude.{◌≡◌, ◌≤◌, ℕ, ⊤, true, ◌+◌, ◌-◌, ◌^◌, ◌&&◌, not, nat_lt, nat_le, Bool, false, List, [], ◌∷◌, ◌++◌, length, take, drop, map, replicate, Option, Some, None}
use Rattle.std.specs.List.{list_any}
use Rattle.eh_bytes.specs.Memory.{Part, Memory}
use Rattle.table_forms.specs.declared.reason.Reason.TheVariants.{SegmentRange, SegmentOverlap}
use Rattle.table_forms.specs.Fault.{Fault, unless}
use Rattle.elf_image.specs.declared.program.ProgramHeader.{ProgramHeader}
use Rattle.elf_image.specs.Programs.{loaded, end_of, is_executable, is_writable}

-- the bytes of the file, and zeros up to the memory size
abbrev pub part_of : List ℕ → ProgramHeader → Part
part_of file h = record {
  address = h.address;
  bytes = take h.file_size (drop h.offset file) ++ replicate (h.memory_size - h.file_size) 0;
  file_at = h.offset;
  write = is_writable h;
  exec = is_executable h;
}

abbrev pub memory_in : List ℕ → List ProgramHeader → Memory
memory_in file headers = map (part_of file) (loaded headers)

-- in the file and in the address space, with no more bytes in the file than in memory; with those before it at most 1 GiB (profile)
abbrev pub is_placed : ℕ → ℕ → ProgramHeader → Bool
is_placed len before h =
    nat_le (h.offset + h.file_size) len && nat_le (end_of h) (2 ^ 64) && nat_le h.file_size h.memory_size &&
    nat_le (before + h.memory_size) (2 ^ 30)

-- some place lies in both; an empty one overlaps nothing
abbrev pub meet : ProgramHeader → ProgramHeader → Bool
meet h k = nat_lt 0 h.memory_size && nat_lt 0 k.memory_size && nat_lt h.address (end_of k) && nat_lt k.address (end_of h)

-- refused at the header, where it is not placed so or overlaps an earlier one
abbrev pub one_faults : ℕ → ℕ → List ProgramHeader → ProgramHeader → List Fault
one_faults len before earlier h = unless (is_placed len before h) SegmentRange h.place ++ unless (not (list_any (meet h) earlier)) SegmentOverlap h.place

abbrev pub load_faults : ℕ → ℕ → List ProgramHeader → List ProgramHeader → List Fault
load_faults len before earlier [] = []
load_faults len before earlier (h ∷ rest) = one_faults len before earlier h ++ load_faults len (before + h.memory_size) (earlier ++ h ∷ []) rest

-- what a segment that is placed keeps to, in a file of so many bytes
pub record Placed (len : ℕ) (h : ProgramHeader) : Type 0 where
  pub inside : h.offset + h.file_size ≤ len
  pub ends : h.address + h.memory_size ≤ 2 ^ 64
  pub room : h.file_size ≤ h.memory_size
  pub small : h.memory_size ≤ 2 ^ 30

-- at most 1 GiB (profile)
abbrev pub IsSmall : Part → Type 0
IsSmall part = length part.bytes ≤ 2 ^ 30

-- nothing is refused of them
abbrev pub AreSound : ℕ → ℕ → List ProgramHeader → List ProgramHeader → Type 0
AreSound len before earlier [] = ⊤
AreSound len before earlier (h ∷ rest) =
    (is_placed len before h ≡ true) × (list_any (meet h) earlier ≡ false) × AreSound len (before + h.memory_size) (earlier ++ h ∷ []) rest

-- to run (profile): from 0x10000 up to 0x60000000; with those before it at most 64 MiB
abbrev pub is_low : ℕ → ProgramHeader → Bool
is_low before h = nat_le 0x10000 h.address && nat_le (end_of h) 0x60000000 && nat_le (before + h.memory_size) (2 ^ 26)

abbrev pub low_faults : ℕ → List ProgramHeader → List Fault
low_faults before [] = []
low_faults before (h ∷ rest) = unless (is_low before h) SegmentRange h.place ++ low_faults (before + h.memory_size) rest

abbrev pub covers : ProgramHeader → ProgramHeader → Bool
covers h l = nat_le l.address h.address && nat_le (end_of h) (end_of l)

-- it lies inside one of them
abbrev pub is_within : List ProgramHeader → Option ProgramHeader → Bool
is_within ls None = false
is_within ls (Some h) = list_any (covers h) ls
