use Rattle.linear_forms.proofs.Agreeing.{search_is_right}
use Rattle.linear_forms.proofs.laws.search_agrees_with_guards.Goals as goal

pub returns : goal.returns
returns c = search_is_right
