-- One step through the parts.
use Rattle.std.proofs.Common.{◌≡◌, ◌+◌, ℕ, zero, suc, true, false, List, [], ◌∷◌, ◌++◌, length, Ok, Err, ap, sym, append_assoc, append-nil, nat_lt, nat_le}
use Rattle.eh_bytes.specs.Memory.{Part}
use Rattle.table_forms.specs.declared.reason.Reason.TheVariants.{FrameTruncated}
use Rattle.table_forms.specs.Fault.{Fault, fault}
use Rattle.table_forms.specs.Spans.{Span, Spans}
use Rattle.frame_read.specs.SpanRest.{behind}
use Rattle.frame_read.proofs.Spanned.{length_read, ends_with}
use Rattle.debug_frames.specs.DebugSpans.{debug_spans_within}

-- those read, and those from a place on, at most so many
abbrev pub span_rest : Part → List Span → ℕ → ℕ → Spans
span_rest part read n p = behind read (debug_spans_within n part p)

nothing : (read : List Span) (cut : List Fault) → behind read (ends_with [] cut) ≡ ends_with read cut
nothing read cut = ap (λ xs. ends_with xs cut) (append-nil read)

pub span_fails : (part : Part) (read : List Span) (p n : ℕ) (f : Fault) → nat_lt p (length part.bytes) ≡ true → length_read part p ≡ Err f →
    span_rest part read (suc n) p ≡ ends_with read (f ∷ [])
unfolding debug_spans_within
span_fails part read p n f inside here = rw (inside, here) (nothing read (f ∷ []))

pub span_out : (part : Part) (read : List Span) (p n k next : ℕ) → nat_lt p (length part.bytes) ≡ true → length_read part p ≡ Ok (k, next) →
    nat_le (next + k) (length part.bytes) ≡ false → span_rest part read (suc n) p ≡ ends_with read (fault FrameTruncated (part.file_at + p) ∷ [])
unfolding debug_spans_within
span_out part read p n k next inside here out = rw (inside, here, out) (nothing read (fault FrameTruncated (part.file_at + p) ∷ []))

pub span_more : (part : Part) (read : List Span) (p n k next : ℕ) → nat_lt p (length part.bytes) ≡ true → length_read part p ≡ Ok (k, next) →
    nat_le (next + k) (length part.bytes) ≡ true →
    span_rest part read (suc n) p ≡ span_rest part (read ++ record { at = p; stop = next + k } ∷ []) n (next + k)
unfolding debug_spans_within
span_more part read p n k next inside here fits =
    let s : Span = record { at = p; stop = next + k } in
    let rest = debug_spans_within n part (next + k) in
    rw (inside, here, fits) (ap (λ xs. ends_with xs rest.cut) (sym (append_assoc read (s ∷ []) rest.list)))

pub span_end : (part : Part) (read : List Span) (p : ℕ) → nat_lt p (length part.bytes) ≡ false → (n : ℕ) → span_rest part read n p ≡ ends_with read []
unfolding debug_spans_within
span_end part read p outside zero = nothing read []
span_end part read p outside (suc n) = rw outside (nothing read [])
