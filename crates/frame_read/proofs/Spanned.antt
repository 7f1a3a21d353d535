-- One step through the parts.
use Rattle.std.proofs.Common.{◌≡◌, ◌+◌, ℕ, zero, suc, true, false, List, [], ◌∷◌, ◌++◌, length, Result, Ok, Err, ap, sym, append_assoc, append-nil, nat_lt, nat_le}
use Rattle.std.specs.Int.{w32}
use Rattle.eh_bytes.specs.Memory.{Part}
use Rattle.eh_bytes.specs.Field.{fixed}
use Rattle.table_forms.specs.declared.reason.Reason.TheVariants.{FrameTruncated}
use Rattle.table_forms.specs.Fault.{Fault, fault}
use Rattle.table_forms.specs.Instruction.{in_frames}
use Rattle.table_forms.specs.Spans.{Span, Spans, spans_within}
use Rattle.frame_read.specs.SpanRest.{behind, span_rest}

-- the length of the part at a place
abbrev pub length_read : Part → ℕ → Result (ℕ × ℕ) Fault
length_read part p = in_frames (fixed w32) part (length part.bytes) p

abbrev pub ends_with : List Span → List Fault → Spans
ends_with read cut = record { list = read; cut = cut }

nothing : (read : List Span) (cut : List Fault) → behind read (ends_with [] cut) ≡ ends_with read cut
nothing read cut = ap (λ xs. ends_with xs cut) (append-nil read)

pub span_fails : (part : Part) (read : List Span) (p n : ℕ) (f : Fault) → nat_lt p (length part.bytes) ≡ true → length_read part p ≡ Err f →
    span_rest part read (suc n) p ≡ ends_with read (f ∷ [])
unfolding spans_within
span_fails part read p n f inside here = rw (inside, here) (nothing read (f ∷ []))

pub span_zero : (part : Part) (read : List Span) (p n next : ℕ) → nat_lt p (length part.bytes) ≡ true → length_read part p ≡ Ok (zero, next) →
    span_rest part read (suc n) p ≡ ends_with read []
unfolding spans_within
span_zero part read p n next inside here = rw (inside, here) (nothing read [])

pub span_out : (part : Part) (read : List Span) (p n k next : ℕ) → nat_lt p (length part.bytes) ≡ true → length_read part p ≡ Ok (suc k, next) →
    nat_le (next + suc k) (length part.bytes) ≡ false → span_rest part read (suc n) p ≡ ends_with read (fault FrameTruncated (part.file_at + p) ∷ [])
unfolding spans_within
span_out part read p n k next inside here out = rw (inside, here, out) (nothing read (fault FrameTruncated (part.file_at + p) ∷ []))

pub span_more : (part : Part) (read : List Span) (p n k next : ℕ) → nat_lt p (length part.bytes) ≡ true → length_read part p ≡ Ok (suc k, next) →
    nat_le (next + suc k) (length part.bytes) ≡ true →
    span_rest part read (suc n) p ≡ span_rest part (read ++ record { at = p; stop = next + suc k } ∷ []) n (next + suc k)
unfolding spans_within
span_more part read p n k next inside here fits =
    let s : Span = record { at = p; stop = next + suc k } in
    let rest = spans_within n part (next + suc k) in
    rw (inside, here, fits) (ap (λ xs. ends_with xs rest.cut) (sym (append_assoc read (s ∷ []) rest.list)))

pub span_end : (part : Part) (read : List Span) (p : ℕ) → nat_lt p (length part.bytes) ≡ false → (n : ℕ) → span_rest part read n p ≡ ends_with read []
unfolding spans_within
span_end part read p outside zero = nothing read []
span_end part read p outside (suc n) = rw outside (nothing read [])
