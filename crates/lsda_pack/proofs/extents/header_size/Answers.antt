use Rattle.std.proofs.Common.{rules, ◌≡◌, length, vec_len, ◌∙◌, arith}
use Rattle.eh_bytes.specs.Memory.{part_of}
use Rattle.lsda_pack.proofs.HeaderSize.{sized, sized_short}
use Rattle.lsda_pack.proofs.extents.header_size.Goals as goal

pub returns-then-end-place-lt-WITH_COUNT-clause-size : goal.returns-then-end-place-lt-WITH_COUNT-clause-size
returns-then-end-place-lt-WITH_COUNT-clause-size c none =
    let s = part_of c.args.segment.now in let whole : vec_len c.args.segment.now.bytes ≡ length s.bytes = search rules in
    sized_short s c.args.place (omega (arith, c.if-end-place-lt-WITH_COUNT.true, c.len-end.ensures, whole)) none

pub returns-clause-size : goal.returns-clause-size
returns-clause-size c none = c.size_encoded.ensures.size ∙ sized (part_of c.args.segment.now) c.args.place none
