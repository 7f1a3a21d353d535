use Rattle.linear_forms.proofs.Cleanups.{cleanups_are_seen}
use Rattle.linear_forms.proofs.laws.one_cleanup_filter_serves.Goals as goal

pub returns : goal.returns
returns c = cleanups_are_seen
