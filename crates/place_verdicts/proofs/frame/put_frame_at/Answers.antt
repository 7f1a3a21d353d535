use Rattle.eh_bytes.specs.Memory.{memory_of}
use Rattle.personality.specs.Seen.{thrown_of}
use Rattle.place_verdicts.proofs.Framed.{framed}
use Rattle.place_verdicts.proofs.frame.put_frame_at.Goals as goal

pub returns-clause-text : goal.returns-clause-text
returns-clause-text c = λ g is.
    framed (memory_of c.args.memory.now) c.args.frames.now c.args.fde.now g (thrown_of c.args.thrown.now) c.args.pc c.args.signal c.look_up_place-place.result c.table_of-lsda.result c.personality-found.result
    c.args.out.now.items c.put_frame.new.out.items c.put_row_at.new.out.items c.put_sites.new.out.items c.put_verdict.new.out.items is
    c.look_up_place-place.ensures c.in_ok-put_frame.ensures c.in_ok-put_row_at.ensures (c.table_of-lsda.ensures.table g.table is.table) c.in_ok-put_sites.ensures c.personality-found.ensures c.in_ok-put_verdict.ensures
