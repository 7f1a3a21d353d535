use Rattle.std.proofs.Common.{ap, arith}
use Rattle.arrayvec.specs.ArrayVec.{array_vec_len}
use Rattle.eh_bytes.specs.Memory.{part_of}
use Rattle.table_forms.specs.Fde.{Fde}
use Rattle.frame_read.specs.SeenRow.{folding_seen}
use Rattle.frame_read.proofs.Kept.{owns}
use Rattle.frame_read.proofs.row_walk.RowWalk.behind.Goals as goal

pub begun-requires : goal.begun-requires
begun-requires c = c.requires.kept.2.few

pub returns : goal.returns
returns c = λ f known is.
    let start = ap (λ (x : Fde). x.region.start) known.same in
    let places = c.requires.places in
    record {
      goes = c.begun.ensures.goes;
      below = omega (arith, c.begun.ensures.location, start);
      place = places.own_first;
      stop = places.own_stop;
      gives = owns (part_of c.args.segment.now) c.args.here.now f c.args.kept.now (folding_seen c.begun.result) (array_vec_len c.begun.result.states) known is c.begun.ensures.seen c.begun.ensures.states;
    }
