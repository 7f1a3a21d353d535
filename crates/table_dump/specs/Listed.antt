-- Segments and CIEs as they are listed, and what their lines take.
use Rattle.std.specs.Prelude.{ℕ, ◌+◌, ◌-◌, ◌<◌, ◌≤◌, ◌^◌, List, ◌++◌, length}
use Rattle.eh_bytes.specs.declared.segment.Segment.{Segment}
use Rattle.frame_read.specs.declared.listed.Cie.{Cie}
use Rattle.table_dump.specs.declared.head.Base.{Base}
use Rattle.table_dump.specs.Heads.{front_text, augmentation_text, back_text}

-- it ends in the address space
abbrev pub EndsInSpace : Segment → Type 0
EndsInSpace s = s.address + length s.bytes.items ≤ 2 ^ 64

-- its address is one of 64 bits
pub record StandsIn (base : Base) (cie : Cie) : Type 0 where
  pub low : base.file_at ≤ cie.place
  pub high : base.address + (cie.place - base.file_at) < 2 ^ 64

abbrev pub listed_line : Base → Cie → List ℕ
listed_line base c =
    front_text (base.address + (c.place - base.file_at)) c.version ++ augmentation_text c.augmentation ++ back_text c.code_factor c.data_factor c.return_register
