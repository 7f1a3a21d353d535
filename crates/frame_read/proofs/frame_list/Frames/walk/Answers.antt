use Rattle.eh_bytes.specs.Memory.{memory_of}
use Rattle.frame_read.proofs.FoundAgain.{frame_again, is_frame}
use Rattle.frame_read.proofs.frame_list.Frames.walk.Goals as goal

pub walk_in-requires : goal.walk_in-requires
walk_in-requires c =
    let m = c.args.memory.now in let pc = c.requires.inside.0 in
    let r = is_frame (memory_of m) c.args.self.now c.args.fde.now pc c.requires.read.0 c.requires.read.1 c.requires.listed c.requires.inside.1 in
    (r.0, frame_again m c.args.self.now c.args.fde.now pc r.0 r.1)

pub unreachable-requires : goal.unreachable-requires
unreachable-requires c =
    let m = c.args.memory.now in let pc = c.requires.inside.0 in
    let r = is_frame (memory_of m) c.args.self.now c.args.fde.now pc c.requires.read.0 c.requires.read.1 c.requires.listed c.requires.inside.1 in
    c.in-None.ensures r.0 (frame_again m c.args.self.now c.args.fde.now pc r.0 r.1)

pub returns : goal.returns
returns c = λ f pc g. c.in-Some.ensures f (frame_again c.args.memory.now c.args.self.now c.args.fde.now pc f g)
