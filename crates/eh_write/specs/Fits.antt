-- The numbers of lists, in the ranges of their types.
use Rattle.std.specs.Prelude.{⊤, ◌≡◌, ◌<◌, ◌^◌, ℕ, ℤ, true, reverse}
use Rattle.std.specs.List.{AllByRecursion}
use Rattle.eh_bytes.specs.declared.frames.FrameChange.{FrameChange}
use Rattle.eh_bytes.specs.declared.frames.FrameChange.TheVariants.{Cfa, Saved, Undefined}
use Rattle.eh_bytes.specs.declared.table.ListSite.{ListSite}
use Rattle.eh_bytes.specs.Leb128.{is_i64}
use Rattle.eh_bytes.specs.Listed.{ListedTable}

abbrev pub IsWord : ℕ → Type 0
IsWord n = n < 2 ^ 64

abbrev pub IsSignedWord : ℤ → Type 0
IsSignedWord z = is_i64 z ≡ true

pub record HasWords (s : ListSite) : Type 0 where
  pub start : IsWord s.start
  pub length : IsWord s.length
  pub pad : IsWord s.pad

-- the offset of a change
abbrev pub HasOffset : FrameChange → Type 0
HasOffset (Cfa n) = IsSignedWord n
HasOffset (Saved r n) = IsSignedWord n
HasOffset (Undefined r) = ⊤

pub record NumbersFit (list : ListedTable) : Type 0 where
  pub sites : AllByRecursion HasWords list.sites
  pub chains : AllByRecursion (AllByRecursion IsSignedWord) list.chains
  pub types : AllByRecursion IsWord (reverse list.types)
  pub lists : AllByRecursion (AllByRecursion IsWord) list.lists
