use Rattle.std.proofs.Common.{ap, ◌∙◌, find}
use Rattle.eh_bytes.proofs.Mapped.{find_map}
use Rattle.frame_read.specs.InOrder.{holds}
use Rattle.frame_read.specs.Listed.{fde_listed}
use Rattle.frame_read.proofs.Members.{found_some, found_none}
use Rattle.frame_read.proofs.frame_list.Frames.fde_for.Goals as goal

pub returns-clause-found : goal.returns-clause-found
returns-clause-found c =
    let pc = c.args.pc in
    let scanned = c.fde_with.ensures ∙ ap (find (holds pc)) c.as_slice.ensures.value ∙ c.self.invariant.same pc in
    found_some (holds pc) c.args.self.now.fdes c.fde_with.result (scanned ∙ ap (λ l. find (holds pc) l.fdes) c.self.view_is)

pub returns-clause-none : goal.returns-clause-none
returns-clause-none c =
    let pc = c.args.pc in
    let scanned = c.fde_with.ensures ∙ ap (find (holds pc)) c.as_slice.ensures.value ∙ c.self.invariant.same pc in
    found_none (holds pc) c.args.self.now.fdes c.fde_with.result (scanned ∙ ap (λ l. find (holds pc) l.fdes) c.self.view_is)

pub returns-clause-frame : goal.returns-clause-frame
returns-clause-frame c = λ memory header read reads lists.
    let pc = c.args.pc in
    let scanned = c.fde_with.ensures ∙ ap (find (holds pc)) c.as_slice.ensures.value ∙ c.self.invariant.same pc in
    scanned ∙ ap (λ l. find (holds pc) l.fdes) (c.self.view_is ∙ lists) ∙ find_map fde_listed (holds pc) read.fdes
