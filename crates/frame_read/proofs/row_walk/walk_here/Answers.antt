use Rattle.frame_read.proofs.row_walk.walk_here.Goals as goal

pub returns-in-Some : goal.returns-in-Some
returns-in-Some c = λ f is. c.new.ensures f (c.in-Some.ensures.fde f is)
