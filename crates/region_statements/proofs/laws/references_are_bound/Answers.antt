use Rattle.region_statements.proofs.Naming.{does_named_reference}
use Rattle.region_statements.proofs.laws.references_are_bound.Goals as goal

pub returns : goal.returns
returns c = does_named_reference
