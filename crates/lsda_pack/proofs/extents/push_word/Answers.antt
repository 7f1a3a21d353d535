use Rattle.std.proofs.Common.{◌≡◌, length, ap, arith}
use Rattle.eh_bytes.specs.Memory.{memory_of, part_of}
use Rattle.lsda_pack.proofs.StopsWithin.{no_word}
use Rattle.lsda_pack.proofs.extents.push_word.Goals as goal

pub returns-then-place-bytes : goal.returns-then-place-bytes
returns-then-place-bytes c size sized =
    let s = part_of c.args.segment.now in
    let long : length c.as_slice-bytes.result.now ≡ length s.bytes = ap length c.as_slice-bytes.ensures.value in
    no_word (memory_of c.args.memory.now) s c.args.encoding c.args.place size c.args.taken.now.items (omega (arith, c.if-place-bytes.true, long)) sized
