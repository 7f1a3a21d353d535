use Rattle.std.proofs.Common.{ap, ◌∙◌}
use Rattle.frame_read.specs.Entry.{next_from}
use Rattle.frame_read.proofs.FoundAgain.{frame_again}
use Rattle.frame_read.proofs.frame_list.Frames.next_location.Goals as goal

pub returns : goal.returns
returns c = λ f g.
    c.next_in.ensures ∙ ap (λ o. next_from o c.args.pc) (frame_again c.args.memory.now c.args.self.now c.args.fde.now c.args.pc f g)
