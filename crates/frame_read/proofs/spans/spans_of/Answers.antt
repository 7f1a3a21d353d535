use Rattle.std.proofs.Common.{rules, ◌≡◌, ◌+◌, ◌-◌, ◌<◌, nat_lt, nat_le, true, false, suc, ◌++◌, ◌∷◌, [], ℕ, Ok, length, vec_len, ap, sym, ◌∙◌, arith}
use Rattle.std.proofs.lemmas.Bool.Decides.{nat_tests}
use Rattle.std.specs.Int.{w32}
use Rattle.std.proofs.lemmas.List.{map-append}
use Rattle.std.proofs.lemmas.List.Elements.{All-push}
use Rattle.eh_bytes.specs.Field.{fixed}
use Rattle.table_forms.specs.Instruction.{in_frames}
use Rattle.eh_bytes.specs.Memory.{part_of}
use Rattle.table_forms.specs.declared.reason.Reason.TheVariants.{FrameTruncated}
use Rattle.table_forms.specs.Fault.{fault}
use Rattle.frame_read.specs.declared.span.Span.{Span}
use Rattle.table_forms.specs.Seen.{fault_of}
use Rattle.frame_read.specs.SeenSpan.{span_seen, spans_seen, IsInside}
use Rattle.frame_read.specs.SpanRest.{span_rest}
use Rattle.frame_read.proofs.OnWay.{goes_on, ends, is_done}
use Rattle.frame_read.proofs.Spanned.{ends_with, span_fails, span_zero, span_out, span_more, span_end}
use Rattle.frame_read.proofs.spans.spans_of.Goals as goal

pub returns-in-Err-clause-spans : goal.returns-in-Err-clause-spans
returns-in-Err-clause-spans c =
    let s = part_of c.args.segment.now in let len = length s.bytes in let whole : vec_len c.args.segment.now.bytes ≡ len = search rules in let p = c.spans.place in let xs = spans_seen c.spans.spans.items in
    let below : p < len = omega (arith, c.spans-test.true, c.len-end.ensures, whole) in
    let inside : nat_lt p len ≡ true = grind (arith, nat_tests, below) in
    let at_end = ap (λ e. in_frames (fixed w32) s e p) (sym (c.len-end.ensures ∙ whole)) in
    ends (span_rest s xs) len (span_rest s [] len c.args.first) (ends_with xs (fault_of c.in-Err.e ∷ [])) p below
    (λ n. span_fails s xs p n (fault_of c.in-Err.e) inside (at_end ∙ c.in-Err.ensures.reads)) c.spans.invariant.1

pub returns-then-length-eq0-clause-spans : goal.returns-then-length-eq0-clause-spans
returns-then-length-eq0-clause-spans c =
    let s = part_of c.args.segment.now in let len = length s.bytes in let whole : vec_len c.args.segment.now.bytes ≡ len = search rules in let p = c.spans.place in let xs = spans_seen c.spans.spans.items in
    let below : p < len = omega (arith, c.spans-test.true, c.len-end.ensures, whole) in
    let inside : nat_lt p len ≡ true = grind (arith, nat_tests, below) in
    let at_end = ap (λ e. in_frames (fixed w32) s e p) (sym (c.len-end.ensures ∙ whole)) in
    ends (span_rest s xs) len (span_rest s [] len c.args.first) (ends_with xs []) p below
    (λ n. span_zero s xs p n c.in-Ok.next inside (at_end ∙ c.in-Ok.ensures.reads ∙ ap (λ k. Ok (k, c.in-Ok.next)) c.if-length-eq0.true)) c.spans.invariant.1

pub returns-then-length-end-clause-spans : goal.returns-then-length-end-clause-spans
returns-then-length-end-clause-spans c =
    let s = part_of c.args.segment.now in let len = length s.bytes in let whole : vec_len c.args.segment.now.bytes ≡ len = search rules in let p = c.spans.place in let xs = spans_seen c.spans.spans.items in
    let below : p < len = omega (arith, c.spans-test.true, c.len-end.ensures, whole) in
    let inside : nat_lt p len ≡ true = grind (arith, nat_tests, below) in
    let at_end = ap (λ e. in_frames (fixed w32) s e p) (sym (c.len-end.ensures ∙ whole)) in
    let k = c.in-Ok.length - 1 in
    let some : c.in-Ok.length ≡ suc k = omega (arith, c.if-length-eq0.false) in
    let out : nat_le (c.in-Ok.next + suc k) len ≡ false = grind (arith, nat_tests, some, c.if-length-end.true, c.in-Ok.ensures.inside, c.len-end.ensures, whole) in
    ends (span_rest s xs) len (span_rest s [] len c.args.first) (ends_with xs (fault FrameTruncated (s.file_at + p) ∷ [])) p below
    (λ n. span_out s xs p n k c.in-Ok.next inside (at_end ∙ c.in-Ok.ensures.reads ∙ ap (λ k. Ok (k, c.in-Ok.next)) some) out) c.spans.invariant.1 ∙
    ap (λ f. ends_with xs (f ∷ [])) (sym c.refused-cut.ensures)

pub spans-preserved : goal.spans-preserved
spans-preserved c =
    let s = part_of c.args.segment.now in let len = length s.bytes in let whole : vec_len c.args.segment.now.bytes ≡ len = search rules in let p = c.spans.place in let xs = spans_seen c.spans.spans.items in
    let below : p < len = omega (arith, c.spans-test.true, c.len-end.ensures, whole) in
    let inside : nat_lt p len ≡ true = grind (arith, nat_tests, below) in
    let at_end = ap (λ e. in_frames (fixed w32) s e p) (sym (c.len-end.ensures ∙ whole)) in
    let k = c.in-Ok.length - 1 in
    let some : c.in-Ok.length ≡ suc k = omega (arith, c.if-length-eq0.false) in
    let fits : nat_le (c.in-Ok.next + suc k) len ≡ true = grind (arith, nat_tests, some, c.if-length-end.false, c.in-Ok.ensures.inside, c.len-end.ensures, whole) in
    let part : Span = record { at = p; stop = c.in-Ok.next + c.in-Ok.length } in
    let items = c.in_ok-push-in-Ok.ensures.items in
    let grown = ap spans_seen items ∙ map-append span_seen c.spans.spans.items (part ∷ []) in
    let more : (n : ℕ) → span_rest s xs (suc n) p ≡ span_rest s (xs ++ span_seen part ∷ []) n (c.in-Ok.next + c.in-Ok.length) = λ n. span_more s xs p n k c.in-Ok.next inside (at_end ∙ c.in-Ok.ensures.reads ∙ ap (λ k. Ok (k, c.in-Ok.next)) some) fits ∙
    ap (λ l. span_rest s (xs ++ record { at = p; stop = c.in-Ok.next + l } ∷ []) n (c.in-Ok.next + l)) (sym some) in (
      omega (arith, c.if-length-end.false, c.in-Ok.ensures.inside, c.len-end.ensures, whole),
      rw grown (goes_on (span_rest s xs) (span_rest s (xs ++ span_seen part ∷ [])) len (span_rest s [] len c.args.first) p (c.in-Ok.next + c.in-Ok.length)
          (omega (arith, c.in-Ok.ensures.on)) below more c.spans.invariant.1),
      rw items (All-push (IsInside len) c.spans.spans.items part c.spans.invariant.2 (omega (arith, c.in-Ok.ensures.next, c.if-length-eq0.false), omega (arith, c.if-length-end.false, c.in-Ok.ensures.inside, c.len-end.ensures, whole))),
    )

pub returns-clause-spans : goal.returns-clause-spans
returns-clause-spans c =
    let s = part_of c.args.segment.now in let len = length s.bytes in let whole : vec_len c.args.segment.now.bytes ≡ len = search rules in let p = c.spans.place in let xs = spans_seen c.spans.spans.items in
    let outside : nat_lt p len ≡ false = grind (arith, nat_tests, c.spans-test.false, c.len-end.ensures, whole) in
    is_done (span_rest s xs) len (span_rest s [] len c.args.first) (ends_with xs []) p (span_end s xs p outside) c.spans.invariant.1
