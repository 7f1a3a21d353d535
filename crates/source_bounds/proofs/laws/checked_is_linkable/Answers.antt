use Rattle.source_bounds.proofs.Linkable.{checked_is_linkable}
use Rattle.source_bounds.proofs.laws.checked_is_linkable.Goals as goal

pub returns : goal.returns
returns c = checked_is_linkable c.tokens_are_few.ensures c.bases_are_there.ensures c.bad_exception_is_there.ensures c.functions_stand_in_row.ensures c.functions_fit.ensures c.room_is_small.ensures c.programs_are_short.ensures
