use Rattle.std.proofs.lemmas.Result.{IfOk-weaker}
use Rattle.eh_bytes.specs.Memory.{memory_of}
use Rattle.frame_read.proofs.FoundAgain.{frame_again, is_frame}
use Rattle.frame_read.proofs.frame_list.Frames.rows.Goals as goal

pub rows_in-requires-clause-known : goal.rows_in-requires-clause-known
rows_in-requires-clause-known c =
    let m = c.args.memory.now in let pc = c.requires.inside.0 in
    let r = is_frame (memory_of m) c.args.self.now c.args.fde.now pc c.requires.read.0 c.requires.read.1 c.requires.listed c.requires.inside.1 in
    (r.0, frame_again m c.args.self.now c.args.fde.now pc r.0 r.1)

pub returns-clause-rows : goal.returns-clause-rows
returns-clause-rows c = IfOk-weaker c.rows_in.result _ _ (λ r are f pc g. are f (frame_again c.args.memory.now c.args.self.now c.args.fde.now pc f g)) c.rows_in.ensures.rows
