-- Spans, as the definitions have them.
use Rattle.std.specs.Prelude.{ℕ, ◌≤◌, ◌+◌, List, map, Option, Some, None, [], ◌∷◌}
use Rattle.table_forms.specs.Fault.{Fault}
use Rattle.table_forms.specs.Spans as forms
use Rattle.frame_read.specs.declared.span.Span.{Span}
use Rattle.table_forms.specs.declared.refusal.Refusal.{Refusal}
use Rattle.table_forms.specs.Seen.{fault_of}

abbrev pub span_seen : Span → forms.Span
span_seen s = record { at = s.at; stop = s.stop }

abbrev pub spans_seen : List Span → List forms.Span
spans_seen spans = map span_seen spans

-- a part is at least four bytes long and lies in the segment
abbrev pub IsInside : ℕ → Span → Type 0
IsInside len s = (s.at + 4 ≤ s.stop) × (s.stop ≤ len)

abbrev pub cut_of : Option Refusal → List Fault
cut_of None = []
cut_of (Some e) = fault_of e ∷ []
