-- Spans behind those that were read.
use Rattle.std.specs.Prelude.{ℕ, List, ◌++◌}
use Rattle.eh_bytes.specs.Memory.{Part}
use Rattle.table_forms.specs.Spans.{Span, Spans, spans_within}

abbrev pub behind : List Span → Spans → Spans
behind read rest = record { list = read ++ rest.list; cut = rest.cut }

-- those read, and those from a place on, at most so many
abbrev pub span_rest : Part → List Span → ℕ → ℕ → Spans
span_rest part read n p = behind read (spans_within n part p)
