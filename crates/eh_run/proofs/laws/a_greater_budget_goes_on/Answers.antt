use Rattle.eh_run.proofs.Budgets.{budgets_go_on}
use Rattle.eh_run.proofs.laws.a_greater_budget_goes_on.Goals as goal

pub returns : goal.returns
returns c = budgets_go_on
