-- An FDE by the place of its length, without the list of all parts.
use Rattle.std.specs.Prelude.{ℕ, zero, suc, ◌+◌, ◌-◌, nat_le, length, Option, Some, None, option_and_then, Result, Ok, Err, if◌then◌else◌}
use Rattle.std.specs.Int.{w32}
use Rattle.eh_bytes.specs.Memory.{Part, Memory, part_with}
use Rattle.eh_bytes.specs.Field.{fixed}
use Rattle.table_forms.specs.Fault.{Fault}
use Rattle.table_forms.specs.Instruction.{in_frames}
use Rattle.table_forms.specs.Spans.{Span, distance_at}
use Rattle.table_forms.specs.Cie.{Cie, cie_at}
use Rattle.table_forms.specs.Fde.{Fde, fde_at, next_location}

abbrev pub ok_of : {A : Type 0} → Result A Fault → Option A
ok_of (Ok x) = Some x
ok_of (Err f) = None

abbrev pub span_from : Part → ℕ → Result (ℕ × ℕ) Fault → Option Span
span_from part at (Err f) = None
span_from part at (Ok (len, next)) = if nat_le (next + len) (length part.bytes) then Some (record { at = at; stop = next + len }) else None

-- the part whose length stands at a place
unfoldable pub span_at : Part → ℕ → Option Span
span_at part at = span_from part at (in_frames (fixed w32) part (length part.bytes) at)

abbrev pub cie_from : Part → Span → Result (ℕ × ℕ) Fault → Option Cie
cie_from part s (Ok (zero, next)) = ok_of (cie_at part s.at s.stop next)
cie_from part s _ = None

-- the CIE there
unfoldable pub cie_here : Part → ℕ → Option Cie
cie_here part at = option_and_then (λ s. cie_from part s (distance_at part s)) (span_at part at)

abbrev pub fde_behind : Part → Span → ℕ → Option Cie → Option Fde
fde_behind part s next None = None
fde_behind part s next (Some cie) = ok_of (fde_at cie part s.at s.stop next)

abbrev pub fde_from : Part → Span → Result (ℕ × ℕ) Fault → Option Fde
fde_from part s (Ok (suc d, next)) = if nat_le (suc d) (s.at + 4) then fde_behind part s next (cie_here part (s.at + 4 - suc d)) else None
fde_from part s _ = None

-- the FDE there
unfoldable pub fde_here : Part → ℕ → Option Fde
fde_here part at = option_and_then (λ s. fde_from part s (distance_at part s)) (span_at part at)

-- the FDE whose length stands at an address
unfoldable pub fde_in : Memory → ℕ → Option Fde
fde_in memory address = option_and_then (λ part. fde_here part (address - part.address)) (part_with memory address)

-- the next location of an FDE
abbrev pub next_from : Option Fde → ℕ → Option ℕ
next_from None pc = None
next_from (Some f) pc = next_location f pc
