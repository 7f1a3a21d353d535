-- What the bytes of the writers of frames and of their header stand for.
use Rattle.std.specs.Prelude.{◌≡◌, ℕ, negsuc, ◌-◌, nat_le, List, [], filter, fold, slice_set, true, false, Some, IsSomeAnd}
use Rattle.std.specs.List.{AllZip}
use Rattle.eh_bytes.specs.declared.frames.HdrRow.{HdrRow}
use Rattle.eh_bytes.specs.declared.frames.FrameMove.{FrameMove}
use Rattle.eh_bytes.specs.declared.frames.FrameChange.{FrameChange}
use Rattle.eh_bytes.specs.declared.frames.FrameChange.TheVariants as changes
use Rattle.eh_bytes.specs.Listed.{ListedFrame, ListedFrames}
use Rattle.eh_bytes.specs.Memory.{Memory, part_with}
use Rattle.table_forms.specs.declared.found.Rule.TheVariants as rules
use Rattle.table_forms.specs.declared.found.Row.{Row}
use Rattle.table_forms.specs.Cie.{Cie}
use Rattle.table_forms.specs.Fde.{Fde, is_in, row_at}
use Rattle.table_forms.specs.Row.{first_row}
use Rattle.table_forms.specs.Header.{header_at}
use Rattle.table_forms.specs.Parts.{Parts, parts_at}
use Rattle.table_forms.specs.WrittenTable.{HasBytes}

-- a row after a change
abbrev pub changed : Row → FrameChange → Row
changed row (changes.Cfa n) = record { cfa_register = 2; cfa_offset = n; rules = row.rules }
changed row (changes.Saved r n) = record { cfa_register = row.cfa_register; cfa_offset = row.cfa_offset; rules = slice_set row.rules r (rules.Offset n) }
changed row (changes.Undefined r) = record { cfa_register = row.cfa_register; cfa_offset = row.cfa_offset; rules = slice_set row.rules r rules.Undefined }

-- the row of a place: the first row after the changes at locations up to it
unfoldable pub moved_row : List FrameMove → ℕ → Row
moved_row moves pc = fold (λ row move. changed row move.change) first_row (filter (λ move. nat_le move.location pc) moves)

-- the form that the writer uses (profile)
pub record CieStands (cie : Cie) : Type 0 where
  pub version : cie.version ≡ 1
  pub code_factor : cie.coding.code_factor ≡ 4
  pub data_factor : cie.coding.data_factor ≡ negsuc 7
  pub returns : cie.return_register ≡ 1
  pub ordinary : cie.signal ≡ false

-- the FDE that is read has the function, the table and in each place the row of the list
pub record FdeStands (written : ListedFrame) (fde : Fde) : Type 0 where
  pub region : fde.region ≡ written.region
  pub lsda : fde.lsda ≡ written.lsda
  pub cie : CieStands fde.cie
  pub rows : (pc : ℕ) → is_in written.region pc ≡ true → row_at fde pc ≡ moved_row written.moves pc

-- the parts that are read are the FDEs of the list one by one
pub record FramesStand (list : ListedFrames) (parts : Parts) : Type 0 where
  pub whole : parts.faults ≡ []
  pub fdes : AllZip FdeStands list.frames parts.fdes

-- in every memory that has the bytes at the address, the list of parts that begins there stands for the frames
abbrev pub WritesFrames : ListedFrames → ℕ → List ℕ → Type 0
WritesFrames list address bytes = (memory : Memory) → HasBytes memory address bytes →
    IsSomeAnd (part_with memory address) (λ part. FramesStand list (parts_at part (address - part.address)))

-- in every memory that has the bytes at the address, the header there has this pointer and these rows
abbrev pub WritesHeader : List HdrRow → ℕ → ℕ → List ℕ → Type 0
WritesHeader rows frames_at address bytes = (memory : Memory) → HasBytes memory address bytes →
    IsSomeAnd (part_with memory address) (λ part. header_at part (address - part.address) ≡ record { frames_at = Some frames_at; rows = Some rows; faults = [] })
