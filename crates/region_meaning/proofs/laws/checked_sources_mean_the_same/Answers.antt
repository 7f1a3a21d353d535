use Rattle.region_meaning.proofs.Sources.{checked_sources_mean_the_same}
use Rattle.region_meaning.proofs.laws.checked_sources_mean_the_same.Goals as goal

pub returns : goal.returns
returns c = checked_sources_mean_the_same c.caught_list_follows.ensures
