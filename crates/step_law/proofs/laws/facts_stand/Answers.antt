use Rattle.step_law.proofs.Facts.{facts_stand}
use Rattle.step_law.proofs.laws.facts_stand.Goals as goal

pub returns : goal.returns
returns c = facts_stand c.checked_pads_are_plain.ensures c.checked_filters_are_ints.ensures c.checked_jumps_are_ints.ensures c.checked_frames_are_small.ensures
