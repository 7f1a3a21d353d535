use Rattle.std.proofs.lemmas.List.Filters.{dedup_is}
use Rattle.frame_read.proofs.Locations.{sorted_locations}
use Rattle.frame_read.proofs.moves_fold.in_order.Goals as goal

pub returns : goal.returns
returns c = λ f is.
    sorted_locations f c.args.reached.items c.sort_unstable.new.self.items c.dedup.new.self.items is c.sort_unstable.ensures.permutation
    c.sort_unstable.ensures.sorted (dedup_is _ _ _ c.dedup.ensures.filtered)
