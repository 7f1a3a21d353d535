use Rattle.std.proofs.Common.{subst}
use Rattle.std.specs.Prelude.{length}
use Rattle.arrayvec.specs.ArrayVec.{array_vec_len}
use Rattle.eh_bytes.specs.Memory.{part_of}
use Rattle.frame_read.specs.Seen.{coding_seen}
use Rattle.frame_read.specs.SeenRow.{folding_seen}
use Rattle.frame_read.proofs.RowWalks.{GoesOver, walks_on, walks_out}
use Rattle.frame_read.proofs.row_walk.RowWalk.goes_to.Goals as goal

pub goes_behind-requires : goal.goes_behind-requires
goes_behind-requires c =
    let w = c.args.self.now in let f = c.requires.0 in let from = c.requires.1 in let walk = c.requires.2 in
    let co = coding_seen w.coding in let part = part_of w.segment.now in let size = length w.segment.now.bytes.items in
    let s = folding_seen w.folding in let states = array_vec_len w.folding.states in
    let t = folding_seen c.goes_over-place.new.folding in let states' = array_vec_len c.goes_over-place.new.folding.states in
    let over = subst (λ u. GoesOver co part w.stop c.args.pc s states w.place t states' c.goes_over-place.result.0 u) c.in-None.is c.goes_over-place.ensures.left in (
      f,
      record {
        goes = c.goes_over-place.ensures.goes;
        below = c.goes_over-place.ensures.below;
        place = c.goes_over-place.ensures.place;
        stop = walk.stop;
        gives = walks_out co part size w.own w.stop f from c.args.pc c.requires.3 s t states w.place states' c.goes_over-place.result.0 c.goes_over-place.ensures.goes walk.gives over;
      },
    )

pub returns-in-Some : goal.returns-in-Some
returns-in-Some c = λ f from walk before.
    let w = c.args.self.now in
    let co = coding_seen w.coding in let part = part_of w.segment.now in let size = length w.segment.now.bytes.items in
    let s = folding_seen w.folding in let states = array_vec_len w.folding.states in
    let t = folding_seen c.goes_over-place.new.folding in let states' = array_vec_len c.goes_over-place.new.folding.states in
    let over = subst (λ u. GoesOver co part w.stop c.args.pc s states w.place t states' c.goes_over-place.result.0 u) c.in-Some.is c.goes_over-place.ensures.left in
    let r = walks_on co part size w.own w.stop f from c.args.pc before s t states w.place states' c.goes_over-place.result.0 c.in-Some.location c.goes_over-place.ensures.goes walk.gives over in
    (record { goes = c.goes_over-place.ensures.goes; below = c.goes_over-place.ensures.below; place = c.goes_over-place.ensures.place; stop = walk.stop; gives = r.0 }, r.1)

pub returns-in-None : goal.returns-in-None
returns-in-None c = λ f from walk before.
    let w = c.args.self.now in
    let co = coding_seen w.coding in let part = part_of w.segment.now in let size = length w.segment.now.bytes.items in
    let s = folding_seen w.folding in let states = array_vec_len w.folding.states in
    let t = folding_seen c.goes_over-place.new.folding in let states' = array_vec_len c.goes_over-place.new.folding.states in
    let over = subst (λ u. GoesOver co part w.stop c.args.pc s states w.place t states' c.goes_over-place.result.0 u) c.in-None.is c.goes_over-place.ensures.left in
    c.goes_behind.ensures f (record {
      goes = c.goes_over-place.ensures.goes;
      below = c.goes_over-place.ensures.below;
      place = c.goes_over-place.ensures.place;
      stop = walk.stop;
      gives = walks_out co part size w.own w.stop f from c.args.pc before s t states w.place states' c.goes_over-place.result.0 c.goes_over-place.ensures.goes walk.gives over;
    })
