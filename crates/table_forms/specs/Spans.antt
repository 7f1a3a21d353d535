-- Where the parts of .eh_frame stand (LSB Core, "The .eh_frame section"): each begins with its length; the list ends with a length 0 or its segment.
use Rattle.std.specs.Prelude.{ℕ, zero, suc, ◌+◌, nat_lt, nat_le, Bool, true, false, List, [], ◌∷◌, length, Result, Ok, Err}
use Rattle.std.specs.Int.{w32}
use Rattle.eh_bytes.specs.Memory.{Part}
use Rattle.eh_bytes.specs.Field.{fixed}
use Rattle.table_forms.specs.declared.reason.Reason.TheVariants.{FrameTruncated}
use Rattle.table_forms.specs.Fault.{Fault, fault}
use Rattle.table_forms.specs.Instruction.{in_frames}

-- where a part's length stands, and where the part ends
pub record Span : Type 0 where
  pub at : ℕ
  pub stop : ℕ

-- the parts up to the end, or to the first that leaves its segment
pub record Spans : Type 0 where
  pub list : List Span
  pub cut : List Fault

abbrev pub no_spans : List Fault → Spans
no_spans cut = record { list = []; cut = cut }

abbrev pub and_spans : Span → Spans → Spans
and_spans s rest = record { list = s ∷ rest.list; cut = rest.cut }

-- refused at its length, where it leaves the segment
abbrev pub spans_after : Part → ℕ → Bool → Span → (ℕ → Spans) → Spans
spans_after part p true s more = and_spans s (more s.stop)
spans_after part p false s more = no_spans (fault FrameTruncated (part.file_at + p) ∷ [])

abbrev pub spans_from : Part → ℕ → Bool → Result (ℕ × ℕ) Fault → (ℕ → Spans) → Spans
spans_from part p false read more = no_spans []
spans_from part p true (Err f) more = no_spans (f ∷ [])
spans_from part p true (Ok (zero, next)) more = no_spans []
spans_from part p true (Ok (suc n, next)) more =
    spans_after part p (nat_le (next + suc n) (length part.bytes)) (record { at = p; stop = next + suc n }) more

-- at most so many; each takes four bytes at least
unfoldable pub spans_within : ℕ → Part → ℕ → Spans
spans_within zero part p = no_spans []
spans_within (suc n) part p =
    spans_from part p (nat_lt p (length part.bytes)) (in_frames (fixed w32) part (length part.bytes) p) (spans_within n part)

-- a part with its distance, 0 for a CIE; none where that field ends early
abbrev pub distance_at : Part → Span → Result (ℕ × ℕ) Fault
distance_at part s = in_frames (fixed w32) part s.stop (s.at + 4)
