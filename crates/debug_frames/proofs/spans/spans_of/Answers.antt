use Rattle.std.proofs.Common.{rules, ◌≡◌, ◌+◌, ◌<◌, nat_lt, nat_le, true, false, suc, ◌++◌, ◌∷◌, [], ℕ, length, vec_len, ap, sym, ◌∙◌, arith, length-append}
use Rattle.std.proofs.lemmas.Bool.Decides.{nat_tests}
use Rattle.std.specs.Int.{w32}
use Rattle.std.proofs.lemmas.List.{map-append}
use Rattle.std.proofs.lemmas.List.Elements.{All-push}
use Rattle.eh_bytes.specs.Field.{fixed}
use Rattle.table_forms.specs.declared.reason.Reason.TheVariants.{FrameTruncated}
use Rattle.table_forms.specs.Instruction.{in_frames}
use Rattle.eh_bytes.specs.Memory.{part_of}
use Rattle.table_forms.specs.Fault.{fault}
use Rattle.frame_read.specs.declared.span.Span.{Span}
use Rattle.table_forms.specs.Seen.{fault_of}
use Rattle.frame_read.specs.SeenSpan.{span_seen, spans_seen, IsInside}
use Rattle.frame_read.proofs.OnWay.{goes_on, ends, is_done}
use Rattle.frame_read.proofs.Spanned.{ends_with}
use Rattle.debug_frames.proofs.Spanned.{span_rest, span_fails, span_out, span_more, span_end}
use Rattle.debug_frames.proofs.spans.spans_of.Goals as goal

pub returns-in-Err-clause-spans : goal.returns-in-Err-clause-spans
returns-in-Err-clause-spans c =
    let s = part_of c.args.section.now in let len = length s.bytes in let whole : vec_len c.args.section.now.bytes ≡ len = search rules in let p = c.spans.place in let xs = spans_seen c.spans.spans.items in
    let below : p < len = omega (arith, c.spans-test.true, c.len-end.ensures, whole) in
    let inside : nat_lt p len ≡ true = grind (arith, nat_tests, below) in
    let at_end = ap (λ e. in_frames (fixed w32) s e p) (sym (c.len-end.ensures ∙ whole)) in
    ends (span_rest s xs) len (span_rest s [] len 0) (ends_with xs (fault_of c.in-Err.e ∷ [])) p below
    (λ n. span_fails s xs p n (fault_of c.in-Err.e) inside (at_end ∙ c.in-Err.ensures.reads)) c.spans.invariant.1

pub returns-then-length-end-clause-spans : goal.returns-then-length-end-clause-spans
returns-then-length-end-clause-spans c =
    let s = part_of c.args.section.now in let len = length s.bytes in let whole : vec_len c.args.section.now.bytes ≡ len = search rules in let p = c.spans.place in let xs = spans_seen c.spans.spans.items in
    let below : p < len = omega (arith, c.spans-test.true, c.len-end.ensures, whole) in
    let inside : nat_lt p len ≡ true = grind (arith, nat_tests, below) in
    let at_end = ap (λ e. in_frames (fixed w32) s e p) (sym (c.len-end.ensures ∙ whole)) in
    let out : nat_le (c.in-Ok.next + c.in-Ok.length) len ≡ false = grind (arith, nat_tests, c.if-length-end.true, c.in-Ok.ensures.inside, c.len-end.ensures, whole) in
    ends (span_rest s xs) len (span_rest s [] len 0) (ends_with xs (fault FrameTruncated (s.file_at + p) ∷ [])) p below
    (λ n. span_out s xs p n c.in-Ok.length c.in-Ok.next inside (at_end ∙ c.in-Ok.ensures.reads) out) c.spans.invariant.1 ∙
    ap (λ f. ends_with xs (f ∷ [])) (sym c.refused-cut.ensures)

pub spans-preserved : goal.spans-preserved
spans-preserved c =
    let s = part_of c.args.section.now in let len = length s.bytes in let whole : vec_len c.args.section.now.bytes ≡ len = search rules in let p = c.spans.place in let xs = spans_seen c.spans.spans.items in
    let below : p < len = omega (arith, c.spans-test.true, c.len-end.ensures, whole) in
    let inside : nat_lt p len ≡ true = grind (arith, nat_tests, below) in
    let at_end = ap (λ e. in_frames (fixed w32) s e p) (sym (c.len-end.ensures ∙ whole)) in
    let fits : nat_le (c.in-Ok.next + c.in-Ok.length) len ≡ true = grind (arith, nat_tests, c.if-length-end.false, c.in-Ok.ensures.inside, c.len-end.ensures, whole) in
    let part : Span = record { at = p; stop = c.in-Ok.next + c.in-Ok.length } in
    let items = c.in_ok-push-in-Ok.ensures.items in
    let grown = ap spans_seen items ∙ map-append span_seen c.spans.spans.items (part ∷ []) in
    let longer = ap length items ∙ length-append c.spans.spans.items (part ∷ []) in
    let more : (n : ℕ) → span_rest s xs (suc n) p ≡ span_rest s (xs ++ span_seen part ∷ []) n (c.in-Ok.next + c.in-Ok.length) = λ n. span_more s xs p n c.in-Ok.length c.in-Ok.next inside (at_end ∙ c.in-Ok.ensures.reads) fits in (
      omega (arith, c.if-length-end.false, c.in-Ok.ensures.inside, c.len-end.ensures, whole),
      rw grown (goes_on (span_rest s xs) (span_rest s (xs ++ span_seen part ∷ [])) len (span_rest s [] len 0) p (c.in-Ok.next + c.in-Ok.length)
          (omega (arith, c.in-Ok.ensures.on)) below more c.spans.invariant.1),
      rw items (All-push (IsInside len) c.spans.spans.items part c.spans.invariant.2 (omega (arith, c.in-Ok.ensures.next), omega (arith, c.if-length-end.false, c.in-Ok.ensures.inside, c.len-end.ensures, whole))),
      omega (arith, longer, c.spans.invariant.3, c.in-Ok.ensures.next),
    )

pub returns-clause-spans : goal.returns-clause-spans
returns-clause-spans c =
    let s = part_of c.args.section.now in let len = length s.bytes in let whole : vec_len c.args.section.now.bytes ≡ len = search rules in let p = c.spans.place in let xs = spans_seen c.spans.spans.items in
    let outside : nat_lt p len ≡ false = grind (arith, nat_tests, c.spans-test.false, c.len-end.ensures, whole) in
    is_done (span_rest s xs) len (span_rest s [] len 0) (ends_with xs []) p (span_end s xs p outside) c.spans.invariant.1
