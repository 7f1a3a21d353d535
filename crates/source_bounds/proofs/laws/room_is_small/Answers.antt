use Rattle.source_bounds.proofs.Room.{room_is_small}
use Rattle.source_bounds.proofs.laws.room_is_small.Goals as goal

pub returns : goal.returns
returns c = room_is_small c.tables_are_short.ensures c.tables_are_good.ensures c.frames_of_checked_fit.ensures
