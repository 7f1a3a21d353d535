use Rattle.std.proofs.Common.{subst}
use Rattle.std.specs.Prelude.{length}
use Rattle.arrayvec.specs.ArrayVec.{array_vec_len}
use Rattle.eh_bytes.specs.Memory.{part_of}
use Rattle.frame_read.specs.RowWalk.{AtEnd}
use Rattle.frame_read.specs.Seen.{coding_seen}
use Rattle.frame_read.specs.SeenRow.{folding_seen}
use Rattle.frame_read.proofs.RowWalks.{walks_behind}
use Rattle.frame_read.proofs.row_walk.RowWalk.goes_behind.Goals as goal

pub returns-in-Some : goal.returns-in-Some
returns-in-Some c = λ f e.
    let w = c.args.self.now in
    let co = coding_seen w.coding in let part = part_of w.segment.now in let size = length w.segment.now.bytes.items in
    let s = folding_seen w.folding in let states = array_vec_len w.folding.states in
    let t = c.goes_over-place.new.folding in
    let next = subst (λ o. AtEnd co part size o w.stop states w.place s f c.args.pc) c.in-Some.is e.gives in
    let r = walks_behind co part size c.in-Some.own f c.args.pc s (folding_seen c.keeps_initial.new.self) (folding_seen t) states (array_vec_len c.keeps_initial.new.self.states) (array_vec_len t.states)
    c.goes_over-place.result.0 c.goes_over-place.result.1 c.goes_over-place.ensures.goes c.keeps_initial.ensures.seen c.keeps_initial.ensures.states next c.goes_over-place.ensures.left in
    (record { goes = c.goes_over-place.ensures.goes; below = c.goes_over-place.ensures.below; place = c.goes_over-place.ensures.place; stop = next.own_stop; gives = r.0 }, r.1)
