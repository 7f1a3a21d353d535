use Rattle.std.proofs.Common.{sym, subst}
use Rattle.eh_bytes.specs.Extent.{AreApart, AreInRange}
use Rattle.rv64_machine.specs.Bytes.{size_of}
use Rattle.rv64_machine.proofs.Serving.{extents_set, get_at, put_here}
use Rattle.rv64_machine.proofs.memory.put_in_segment.Goals as goal

pub invariant_of-segments : goal.invariant_of-segments
invariant_of-segments c =
    let old = c.args.segments.now in
    let here = get_at old.parts.items c.args.i c.index_mut-part.result.now c.requires.inside c.index_mut-part.ensures.value in
    let same = sym (extents_set old.parts.items c.args.i c.index_mut-part.result.now c.put_in.new.part here c.put_in.ensures.extent) in
    record { apart = subst AreApart same old.apart; in_range = subst AreInRange same old.in_range }

pub returns-clause-bytes : goal.returns-clause-bytes
returns-clause-bytes c =
    let old = c.args.segments.now in
    let here = get_at old.parts.items c.args.i c.index_mut-part.result.now c.requires.inside c.index_mut-part.ensures.value in
    put_here old.parts.items c.args.i c.index_mut-part.result.now c.put_in.new.part c.args.address (size_of c.args.size) c.args.value here c.put_in.ensures.bytes

pub returns-clause-extents : goal.returns-clause-extents
returns-clause-extents c =
    let old = c.args.segments.now in
    let here = get_at old.parts.items c.args.i c.index_mut-part.result.now c.requires.inside c.index_mut-part.ensures.value in
    extents_set old.parts.items c.args.i c.index_mut-part.result.now c.put_in.new.part here c.put_in.ensures.extent
