use Rattle.linear_meaning.proofs.Regions.{regions_break_nothing}
use Rattle.linear_meaning.proofs.laws.regions_break_nothing.Goals as goal

pub returns : goal.returns
returns c = record { kept = regions_break_nothing c.caught_list_follows.ensures c.watched_is_meant.ensures }
