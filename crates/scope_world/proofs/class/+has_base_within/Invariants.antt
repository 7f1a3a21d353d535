use Rattle.scope_world.proofs.class.+has_base_within.Given as goal

abbrev pub decreases-has_base_within : goal.decreases-has_base_within
decreases-has_base_within l = l.most
