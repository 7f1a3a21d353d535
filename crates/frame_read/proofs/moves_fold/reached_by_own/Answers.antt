use Rattle.std.proofs.Common.{◌≡◌, refl, sym, subst}
use Rattle.eh_bytes.specs.Memory.{part_of}
use Rattle.table_forms.specs.Fde.{Fde}
use Rattle.frame_read.specs.CieFold.{AllStay}
use Rattle.frame_read.specs.Locations.{reached_by}
use Rattle.frame_read.specs.Moves.{location_behind}
use Rattle.frame_read.proofs.Kept.{none_reached}
use Rattle.frame_read.proofs.Moved.{own_left, all_reached}
use Rattle.frame_read.proofs.moves_fold.reached_by_own.Goals as goal

pub returns : goal.returns
returns c = λ f known stay.
    let part = part_of c.args.segment.now in let h = c.args.here.now in let region = h.fde.region in
    let xs = known.common.list in let ys = known.own.list in
    let still : AllStay xs = subst (λ (x : Fde). AllStay x.cie.instructions) known.same stay in
    let begun = c.in_ok-moves.moves in
    let at = c.in_ok-moves.ensures.at in
    let first = none_reached begun region.start xs still at in
    let then = c.in_ok-goes_over.ensures.moves (location_behind region.start xs) known.common.states known.own.states ys first.at (own_left part h f known) in
    subst (λ (x : Fde). c.goes_over.new.self.reached.items ≡ reached_by x) (sym known.same)
    (all_reached region xs ys begun begun c.goes_over.new.self c.in_ok-moves.ensures.region c.in_ok-moves.ensures.reached refl first then)
