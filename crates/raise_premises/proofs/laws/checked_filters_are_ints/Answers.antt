use Rattle.raise_premises.proofs.Filters.{filters_are_ints}
use Rattle.raise_premises.proofs.laws.checked_filters_are_ints.Goals as goal

pub returns : goal.returns
returns c = filters_are_ints c.filters_fit.ensures c.checked_tables_are_few.ensures
