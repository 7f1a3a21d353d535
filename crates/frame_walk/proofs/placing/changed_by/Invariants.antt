use Rattle.frame_walk.proofs.Rules.{HasRulesBefore}
use Rattle.frame_walk.proofs.placing.changed_by.Given as goal

abbrev pub invariant-registers : goal.invariant-registers
invariant-registers l = HasRulesBefore l.rules l.changed.items l.number
