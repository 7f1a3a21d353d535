use Rattle.cxa_runtime.proofs.ForeignRuns.{turns_balance, runs_balance}
use Rattle.cxa_runtime.proofs.laws.foreign_exceptions_are_cleaned_once.Goals as goal

pub returns-clause-turns : goal.returns-clause-turns
returns-clause-turns c = turns_balance

pub returns-clause-runs : goal.returns-clause-runs
returns-clause-runs c = runs_balance
