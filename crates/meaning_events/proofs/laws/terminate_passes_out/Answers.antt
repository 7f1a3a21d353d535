use Rattle.meaning_events.proofs.Terminating.{terminate_passes_out}
use Rattle.meaning_events.proofs.laws.terminate_passes_out.Goals as goal

pub returns : goal.returns
returns c = terminate_passes_out
