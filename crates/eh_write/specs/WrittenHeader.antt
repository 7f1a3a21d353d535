-- The bytes of a header of frames that is written (LSB Core, "The .eh_frame_hdr section"), and what its writer needs.
use Rattle.std.specs.Prelude.{◌≤◌, ◌<◌, ℕ, ◌+◌, ◌^◌, List, ◌∷◌, ◌++◌, length, flat_map, ◌⊎◌}
use Rattle.std.specs.Int.{w32, to_le_bytes}
use Rattle.std.specs.List.{AllByRecursion}
use Rattle.eh_bytes.specs.declared.frames.HdrRow.{HdrRow}
use Rattle.eh_write.specs.Distance.{distance_bytes}

-- both numbers count from the header's start
abbrev pub row_bytes : ℕ → HdrRow → List ℕ
row_bytes start row = distance_bytes start row.location ++ distance_bytes start row.fde

-- version 1; the pointer counts from its own place, the count has four bytes, and rows count from the start
unfoldable pub header_bytes : List HdrRow → ℕ → ℕ → List ℕ
header_bytes rows frames_at address =
    1 ∷ 0x1b ∷ 0x03 ∷ 0x3b ∷ (distance_bytes (address + 4) frames_at ++ to_le_bytes w32 (length rows) ++ flat_map (row_bytes address) rows)

abbrev pub IsLow : ℕ → Type 0
IsLow address = address < 2 ^ 31

-- all addresses lie below 2^31, and the frames outside the header
pub record CanWriteHeader (rows : List HdrRow) (frames_at address : ℕ) : Type 0 where
  pub ends : address + length (header_bytes rows frames_at address) ≤ 2 ^ 31
  pub frames : IsLow frames_at
  pub outside : (frames_at < address) ⊎ (address + length (header_bytes rows frames_at address) ≤ frames_at)
  pub listed : AllByRecursion (λ row. IsLow row.location × IsLow row.fde) rows
