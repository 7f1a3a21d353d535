use Rattle.linear_forms.proofs.Merging.{sites_are_right}
use Rattle.linear_forms.proofs.laws.sites_say_what_covers.Goals as goal

pub returns : goal.returns
returns c = sites_are_right
