use Rattle.std.proofs.Common.{refl, ap, arith}
use Rattle.std.specs.Prelude.{length}
use Rattle.arrayvec.specs.ArrayVec.{array_vec_len}
use Rattle.eh_bytes.specs.Memory.{part_of}
use Rattle.table_forms.specs.Fde.{Fde}
use Rattle.frame_read.specs.SeenRow.{folding_seen}
use Rattle.frame_read.proofs.RowWalks.{starts_common}
use Rattle.frame_read.proofs.row_walk.RowWalk.new.Goals as goal

pub returns : goal.returns
returns c = λ f known.
    let start = ap (λ (x : Fde). x.region.start) known.same in
    let segment = c.args.segment.now in
    let places = c.requires.places in
    record {
      goes = c.begun.ensures.goes;
      below = omega (arith, c.begun.ensures.location, start);
      place = places.first;
      stop = places.stop;
      gives = starts_common (part_of segment) (length segment.bytes.items) c.args.here.now f _ (folding_seen c.begun.result) (array_vec_len c.begun.result.states) refl refl places.own_first places.own_stop
          c.begun.ensures.seen c.begun.ensures.states known;
    }
