-- Of regions in the order of their addresses, the first place of one that overlaps an earlier one.
use Rattle.std.specs.Prelude.{ℕ, ◌+◌, ◌==◌, nat_lt, List, fold, Option, Some, None, if◌then◌else◌}
use Rattle.eh_bytes.specs.declared.frames.Region64.{Region64}
use Rattle.eh_bytes.specs.Memory.{Part}
use Rattle.table_forms.specs.declared.reason.Reason.TheVariants.{Overlap}
use Rattle.table_forms.specs.Fault.{Fault, fault}

-- the region that reaches farthest of those that are kept, and the first place so far
pub record Sweep : Type 0 where
  pub kept : Option (ℕ × Region64)
  pub least : Option ℕ

abbrev pub unswept : Sweep
unswept = record { kept = None; least = None }

abbrev pub lesser_place : Option ℕ → ℕ → Option ℕ
lesser_place None n = Some n
lesser_place (Some m) n = if nat_lt m n then Some m else Some n

-- of two that overlap, the later one is left out
abbrev pub left_out : ℕ × Region64 → Option ℕ → ℕ × Region64 → Sweep
left_out c least x =
    if nat_lt c.0 x.0 then record { kept = Some c; least = lesser_place least x.0 }
    else record { kept = Some x; least = lesser_place least c.0 }

abbrev pub beside : Option (ℕ × Region64) → Option ℕ → ℕ × Region64 → Sweep
beside None least x = record { kept = Some x; least = least }
beside (Some c) least x =
    if nat_lt x.1.start (c.1.start + c.1.length) then left_out c least x else record { kept = Some x; least = least }

-- an empty region overlaps nothing
abbrev pub swept : Sweep → ℕ × Region64 → Sweep
swept s x = if x.1.length == 0 then s else beside s.kept s.least x

abbrev pub sweep_from : Sweep → List (ℕ × Region64) → Option ℕ
sweep_from s regions = (fold swept s regions).least

abbrev pub first_overlap : List (ℕ × Region64) → Option ℕ
first_overlap regions = sweep_from unswept regions

-- refused at the place of the part
abbrev pub meets_at : Part → ℕ → Fault
meets_at part a = fault Overlap (part.file_at + a)
