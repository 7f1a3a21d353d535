use Rattle.std.proofs.Common.{rules, ◌≡◌, ◌+◌, ◌-◌, ◌<◌, nat_lt, nat_le, true, false, suc, ℕ, Ok, length, vec_len, ap, sym, ◌∙◌, arith}
use Rattle.std.proofs.lemmas.Bool.Decides.{nat_tests}
use Rattle.std.specs.Int.{w32}
use Rattle.eh_bytes.specs.Field.{fixed}
use Rattle.eh_bytes.specs.Memory.{part_of}
use Rattle.table_forms.specs.Instruction.{in_frames}
use Rattle.table_forms.specs.Seen.{fault_of}
use Rattle.frame_read.proofs.OnWay.{goes_on, ends, is_done}
use Rattle.lsda_pack.specs.Extents.{stop_within}
use Rattle.lsda_pack.proofs.StopsWithin.{stop_fails, stop_zero, stop_out, stop_more, stop_end}
use Rattle.lsda_pack.proofs.extents.last_stop.Goals as goal

pub returns-in-Err : goal.returns-in-Err
returns-in-Err c =
    let s = part_of c.args.segment.now in let len = length s.bytes in let whole : vec_len c.args.segment.now.bytes ≡ len = search rules in let p = c.parts.place in
    let below : p < len = omega (arith, c.parts-test.true, c.len-end.ensures, whole) in
    let inside : nat_lt p len ≡ true = grind (arith, nat_tests, below) in
    let at_end = ap (λ e. in_frames (fixed w32) s e p) (sym (c.len-end.ensures ∙ whole)) in
    sym (ends (stop_within s) len (stop_within s len c.args.first) p p below
    (λ n. stop_fails s p n (fault_of c.in-Err.field-0) inside (at_end ∙ c.in-Err.ensures.reads)) c.parts.invariant.1)

pub returns-then-length-eq0 : goal.returns-then-length-eq0
returns-then-length-eq0 c =
    let s = part_of c.args.segment.now in let len = length s.bytes in let whole : vec_len c.args.segment.now.bytes ≡ len = search rules in let p = c.parts.place in
    let below : p < len = omega (arith, c.parts-test.true, c.len-end.ensures, whole) in
    let inside : nat_lt p len ≡ true = grind (arith, nat_tests, below) in
    let at_end = ap (λ e. in_frames (fixed w32) s e p) (sym (c.len-end.ensures ∙ whole)) in
    sym (ends (stop_within s) len (stop_within s len c.args.first) p p below
    (λ n. stop_zero s p n c.in-Ok.next inside (at_end ∙ c.in-Ok.ensures.reads ∙ ap (λ k. Ok (k, c.in-Ok.next)) c.if-length-eq0.true)) c.parts.invariant.1)

pub returns-then-length-end : goal.returns-then-length-end
returns-then-length-end c =
    let s = part_of c.args.segment.now in let len = length s.bytes in let whole : vec_len c.args.segment.now.bytes ≡ len = search rules in let p = c.parts.place in
    let below : p < len = omega (arith, c.parts-test.true, c.len-end.ensures, whole) in
    let inside : nat_lt p len ≡ true = grind (arith, nat_tests, below) in
    let at_end = ap (λ e. in_frames (fixed w32) s e p) (sym (c.len-end.ensures ∙ whole)) in
    let k = c.in-Ok.length - 1 in
    let some : c.in-Ok.length ≡ suc k = omega (arith, c.if-length-eq0.false) in
    let out : nat_le (c.in-Ok.next + suc k) len ≡ false = grind (arith, nat_tests, some, c.if-length-end.true, c.in-Ok.ensures.inside, c.len-end.ensures, whole) in
    sym (ends (stop_within s) len (stop_within s len c.args.first) p p below
    (λ n. stop_out s p n k c.in-Ok.next inside (at_end ∙ c.in-Ok.ensures.reads ∙ ap (λ k. Ok (k, c.in-Ok.next)) some) out) c.parts.invariant.1)

pub parts-preserved : goal.parts-preserved
parts-preserved c =
    let s = part_of c.args.segment.now in let len = length s.bytes in let whole : vec_len c.args.segment.now.bytes ≡ len = search rules in let p = c.parts.place in
    let below : p < len = omega (arith, c.parts-test.true, c.len-end.ensures, whole) in
    let inside : nat_lt p len ≡ true = grind (arith, nat_tests, below) in
    let at_end = ap (λ e. in_frames (fixed w32) s e p) (sym (c.len-end.ensures ∙ whole)) in
    let k = c.in-Ok.length - 1 in
    let some : c.in-Ok.length ≡ suc k = omega (arith, c.if-length-eq0.false) in
    let fits : nat_le (c.in-Ok.next + suc k) len ≡ true = grind (arith, nat_tests, some, c.if-length-end.false, c.in-Ok.ensures.inside, c.len-end.ensures, whole) in
    let more : (n : ℕ) → stop_within s (suc n) p ≡ stop_within s n (c.in-Ok.next + c.in-Ok.length) = λ n.
    stop_more s p n k c.in-Ok.next inside (at_end ∙ c.in-Ok.ensures.reads ∙ ap (λ k. Ok (k, c.in-Ok.next)) some) fits c.in-Ok.ensures.on ∙
    ap (λ l. stop_within s n (c.in-Ok.next + l)) (sym some) in (
      omega (arith, c.if-length-end.false, c.in-Ok.ensures.inside, c.len-end.ensures, whole),
      goes_on (stop_within s) (stop_within s) len (stop_within s len c.args.first) p (c.in-Ok.next + c.in-Ok.length)
          (omega (arith, c.in-Ok.ensures.on)) below more c.parts.invariant.1,
    )

pub returns : goal.returns
returns c =
    let s = part_of c.args.segment.now in let len = length s.bytes in let whole : vec_len c.args.segment.now.bytes ≡ len = search rules in let p = c.parts.place in
    let outside : nat_lt p len ≡ false = grind (arith, nat_tests, c.parts-test.false, c.len-end.ensures, whole) in
    sym (is_done (stop_within s) len (stop_within s len c.args.first) p p (stop_end s p outside) c.parts.invariant.1)
