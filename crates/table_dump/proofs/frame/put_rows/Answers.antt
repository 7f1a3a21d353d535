use Rattle.std.proofs.lemmas.Result.{IfOk-weaker}
use Rattle.eh_bytes.specs.Memory.{memory_of}
use Rattle.table_dump.proofs.Locations.{entry_listed, frame_of, none_put, starts_inside}
use Rattle.table_dump.proofs.frame.put_rows.Goals as goal

pub returns-then-fde-eq0-clause-rows : goal.returns-then-fde-eq0-clause-rows
returns-then-fde-eq0-clause-rows c = λ f e. none_put c.args.fde.now f c.args.out.now.items e.listed c.if-fde-eq0.true

pub rows-requires-clause-listed : goal.rows-requires-clause-listed
rows-requires-clause-listed c = entry_listed (memory_of c.args.memory.now) c.args.frames.now c.args.fde.now c.requires.entry.0 c.requires.entry.1

pub rows-requires-clause-inside : goal.rows-requires-clause-inside
rows-requires-clause-inside c = (c.args.fde.now.region.start, starts_inside c.args.fde.now c.if-fde-eq0.false)

pub put_rows_at-requires : goal.put_rows_at-requires
put_rows_at-requires c =
    let f = c.requires.entry.0 in let start = c.args.fde.now.region.start in
    (f, c.in_ok-rows.ensures.rows f start (frame_of (memory_of c.args.memory.now) c.args.frames.now c.args.fde.now start f c.requires.entry.1 (starts_inside c.args.fde.now c.if-fde-eq0.false)))

pub returns-clause-rows : goal.returns-clause-rows
returns-clause-rows c =
    IfOk-weaker c.put_rows_at.result _ _ (λ done put f e.
    let start = c.args.fde.now.region.start in
    put f (c.in_ok-rows.ensures.rows f start (frame_of (memory_of c.args.memory.now) c.args.frames.now c.args.fde.now start f e (starts_inside c.args.fde.now c.if-fde-eq0.false)))) c.put_rows_at.ensures
