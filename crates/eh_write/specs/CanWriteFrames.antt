-- What the writer of frames needs of their list.
use Rattle.std.specs.Prelude.{◌≡◌, ◌≤◌, ◌<◌, ℕ, ℤ, pos, negsuc, ◌+◌, ◌-◌, ◌%◌, ◌^◌, Bool, true, false, List, [], ◌∷◌, length, ⊤, ◌⊎◌}
use Rattle.std.specs.List.{AllByRecursion}
use Rattle.eh_bytes.specs.declared.frames.Region64.{Region64}
use Rattle.eh_bytes.specs.declared.frames.FrameChange.{FrameChange}
use Rattle.eh_bytes.specs.declared.frames.FrameChange.TheVariants.{Cfa, Saved, Undefined}
use Rattle.eh_bytes.specs.declared.frames.FrameMove.{FrameMove}
use Rattle.eh_bytes.specs.Listed.{ListedFrame, ListedFrames}
use Rattle.table_forms.specs.Fde.{overlap}
use Rattle.eh_write.specs.WrittenFrames.{frames_bytes}

-- from 0 to 2^31 - 1
abbrev pub IsOffset : ℤ → Type 0
IsOffset (pos n) = n < 2 ^ 31
IsOffset (negsuc n) = ⊥

-- a multiple of 8 at or below 0
abbrev pub IsSlot : ℤ → Type 0
IsSlot (pos n) = n ≡ 0
IsSlot (negsuc n) = (n + 1) % 8 ≡ 0

abbrev pub ChangeIsGood : FrameChange → Type 0
ChangeIsGood (Cfa n) = IsOffset n
ChangeIsGood (Saved r n) = (r < 64) × IsSlot n
ChangeIsGood (Undefined r) = r < 64

-- inside the region, at a multiple of 4 from its start
abbrev pub IsInside : Region64 → ℕ → Type 0
IsInside region location = (region.start ≤ location) × (location < region.start + region.length) × ((location - region.start) % 4 ≡ 0)

-- in the order of their locations
abbrev pub MovesAreGood : Region64 → ℕ → List FrameMove → Type 0
MovesAreGood region before [] = ⊤
MovesAreGood region before (m ∷ ms) = (before ≤ m.location) × IsInside region m.location × ChangeIsGood m.change × MovesAreGood region m.location ms

-- outside of bytes that are written
abbrev pub IsOutside : ℕ → ℕ → ℕ → Type 0
IsOutside first end address = (address < first) ⊎ (end ≤ address)

-- with tables an address is 0, or below 2^31 outside of the bytes; without tables it is 0
abbrev pub TableIsGood : Bool → ℕ → ℕ → ℕ → Type 0
TableIsGood true first end lsda = (lsda ≡ 0) ⊎ ((lsda < 2 ^ 31) × IsOutside first end lsda)
TableIsGood false first end lsda = lsda ≡ 0

pub record FrameIsGood (lsda : Bool) (first end : ℕ) (f : ListedFrame) : Type 0 where
  pub ends : f.region.start + f.region.length < 2 ^ 31
  pub outside : IsOutside first end f.region.start
  pub table : TableIsGood lsda first end f.lsda
  pub moves : MovesAreGood f.region f.region.start f.moves

-- no region overlaps one of those before it
abbrev pub AreApart : List Region64 → List ListedFrame → Type 0
AreApart earlier [] = ⊤
AreApart earlier (f ∷ fs) = AllByRecursion (λ r. overlap f.region r ≡ false) earlier × AreApart (f.region ∷ earlier) fs

-- the frames of a list that is written at an address
pub record CanWriteFrames (list : ListedFrames) (address : ℕ) : Type 0 where
  pub ends : address + length (frames_bytes list address) ≤ 2 ^ 31
  pub frames : AllByRecursion (FrameIsGood list.lsda address (address + length (frames_bytes list address))) list.frames
  pub apart : AreApart [] list.frames
