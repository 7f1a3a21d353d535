use Rattle.std.proofs.Common.{◌≡◌, sym, subst}
use Rattle.eh_bytes.specs.Memory.{part_of}
use Rattle.table_forms.specs.Fde.{Fde}
use Rattle.frame_read.specs.Locations.{reached_by}
use Rattle.frame_read.specs.Moves.{location_behind}
use Rattle.frame_read.proofs.Moved.{common_left, own_left, all_reached}
use Rattle.frame_read.proofs.moves_fold.reached_by.Goals as goal

pub returns : goal.returns
returns c = λ f known.
    let part = part_of c.args.segment.now in let h = c.args.here.now in let region = h.fde.region in
    let xs = known.common.list in let ys = known.own.list in
    let begun = c.in_ok-moves.moves in
    let first = c.in_ok-goes_over.ensures.moves region.start 0 known.common.states xs c.in_ok-moves.ensures.at (common_left part h f known) in
    let then = c.in_ok-goes_over-2.ensures.moves (location_behind region.start xs) known.common.states known.own.states ys first.at (own_left part h f known) in
    subst (λ (x : Fde). c.goes_over-2.new.self.reached.items ≡ reached_by x) (sym known.same)
    (all_reached region xs ys begun c.goes_over.new.self c.goes_over-2.new.self c.in_ok-moves.ensures.region c.in_ok-moves.ensures.reached c.goes_over.ensures.region first then)
