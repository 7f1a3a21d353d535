use Rattle.linear_forms.proofs.Labels.{labels_are_distinct}
use Rattle.linear_forms.proofs.laws.labels_distinct.Goals as goal

pub returns : goal.returns
returns c = labels_are_distinct
