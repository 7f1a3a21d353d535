use Rattle.gen_source.proofs.Checked.{sources_are_valid}
use Rattle.gen_source.proofs.Fates.{none_is_refused}
use Rattle.gen_source.proofs.laws.generated_sources_are_valid.Goals as goal

pub returns-clause-valid : goal.returns-clause-valid
returns-clause-valid c = sources_are_valid

pub returns-clause-none_refused : goal.returns-clause-none_refused
returns-clause-none_refused c = none_is_refused
