-- Numbers of a file (ELF-64 Object File Format, "Data Representation": ELFDATA2LSB).
use Rattle.std.specs.Prelude.{ℕ, ◌+◌, nat_le, Bool, false, List, length, take, drop, Option, Some, None, unwrap_or, if◌then◌else◌}
use Rattle.std.specs.Int.{Width, byte_len, from_le_bytes}

-- so many bytes at a place, where they lie whole in the file
abbrev pub bytes_at : ℕ → List ℕ → ℕ → Option (List ℕ)
bytes_at count file p = if nat_le (p + count) (length file) then Some (take count (drop p file)) else None

-- the number at a place, where it lies whole in the file
abbrev pub number_at : Width → List ℕ → ℕ → Option ℕ
number_at w file p = if nat_le (p + byte_len w) (length file) then Some (from_le_bytes w (take (byte_len w) (drop p file))) else None

-- the number, or 0
abbrev pub field : Width → List ℕ → ℕ → ℕ
field w file p = unwrap_or (number_at w file p) 0

-- the number is there, and is so
abbrev pub holds : (ℕ → Bool) → Option ℕ → Bool
holds test None = false
holds test (Some n) = test n
