use Rattle.checked_units.proofs.UnitsAsked.{checked_units_are_asked}
use Rattle.checked_units.proofs.laws.checked_units_are_asked.Goals as goal

pub returns : goal.returns
returns c = checked_units_are_asked c.programs_are_short.ensures c.registers_suffice.ensures c.tokens_are_few.ensures c.units_are_bounded.ensures
