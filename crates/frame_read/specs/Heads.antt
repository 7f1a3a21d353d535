-- What is read before the instructions of a CIE and of an FDE, and what is left to read.
use Rattle.std.specs.Prelude.{◌≡◌, ◌+◌, ℕ, Option, Some, None, Result, Ok, Err}
use Rattle.eh_bytes.specs.Memory.{Part}
use Rattle.table_forms.specs.Fault.{Fault, ◌>>=◌}
use Rattle.table_forms.specs.Instructions.{Instructions, instructions_at}
use Rattle.table_forms.specs.Cie.{Cie, cie_at}
use Rattle.table_forms.specs.Fde.{Fde}
use Rattle.table_forms.specs.Spans.{Span}
use Rattle.table_forms.specs.declared.refusal.Refusal.{Refusal}
use Rattle.table_forms.specs.Seen.{fault_of}
use Rattle.frame_read.specs.Entry.{ok_of, cie_here, fde_behind}
use Rattle.frame_read.specs.Seen.{coding_seen}
use Rattle.frame_read.specs.declared.cie_part.CiePart.{CiePart}
use Rattle.frame_read.specs.declared.fde_part.FdePart.{FdePart}

-- it leaves the rest to read, or gives the refusal
abbrev pub HeadReads : {X Y : Type 0} → (X → Result Y Fault) → Result X Refusal → Result Y Fault → Type 0
HeadReads rest (Ok x) read = read ≡ rest x
HeadReads rest (Err e) read = read ≡ Err (fault_of e)

-- a CIE with its instructions
abbrev pub cie_with : Part → CiePart → Instructions → Cie
cie_with part c is = record {
  place = part.file_at + c.at;
  version = c.version;
  augmentation = c.augmentation.now;
  coding = coding_seen c.coding;
  return_register = c.return_register;
  lsda_encoding = c.lsda_encoding;
  signal = c.signal;
  instructions = is.list;
  states = is.states;
}

abbrev pub cie_after : Part → CiePart → Result Cie Fault
cie_after part c = instructions_at (coding_seen c.coding) part c.stop c.first 0 >>= λ is. Ok (cie_with part c is)

-- an FDE with its instructions
abbrev pub fde_with : Part → Cie → FdePart → Instructions → Fde
fde_with part cie f is = record { address = part.address + f.at; place = part.file_at + f.at; region = f.region; lsda = f.lsda; cie = cie; instructions = is.list }

abbrev pub fde_after : Part → Cie → FdePart → Result Fde Fault
fde_after part cie f = instructions_at cie.coding part f.stop f.first cie.states >>= λ is. Ok (fde_with part cie f is)

-- what follows the place of a CIE's version, and that of an FDE's first location
abbrev pub cie_at_place : Part → Option (Span × ℕ) → Option Cie
cie_at_place part None = None
cie_at_place part (Some (s, next)) = ok_of (cie_at part s.at s.stop next)

abbrev pub fde_at_place : Part → Option ((Span × ℕ) × ℕ) → Option Fde
fde_at_place part None = None
fde_at_place part (Some ((s, next), cie_at)) = fde_behind part s next (cie_here part cie_at)
