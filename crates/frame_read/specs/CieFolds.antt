-- What is kept of CIEs, by their addresses.
use Rattle.std.specs.Prelude.{◌≡◌, ◌-◌, ℕ, Option, Some, option_and_then}
use Rattle.std.specs.BTreeMap.{get}
use Rattle.std.specs.Ordering.{nat_cmp}
use Rattle.eh_bytes.specs.Memory.{Memory, part_with}
use Rattle.table_forms.specs.Cie.{Cie}
use Rattle.frame_read.specs.Entry.{cie_here}
use Rattle.frame_read.specs.CieFold.{IsFold}
use Rattle.frame_read.specs.declared.cie_fold.CieFold.{CieFold}
use Rattle.frame_read.specs.declared.cie_folds.CieFolds.{CieFolds}

-- the CIE whose length stands at an address
abbrev pub cie_in : Memory → ℕ → Option Cie
cie_in memory address = option_and_then (λ part. cie_here part (address - part.address)) (part_with memory address)

-- each is what the CIE there leaves
abbrev pub AreFolds : Memory → CieFolds → Type 0
AreFolds memory m = (address : ℕ) (k : CieFold) (cie : Cie) → get nat_cmp m.folds address ≡ Some k → cie_in memory address ≡ Some cie → IsFold k cie
