use Rattle.raise_core.proofs.Faults.{raise_faults, forced_faults}
use Rattle.raise_core.proofs.law.a_fault_is_a_broken_stack.Goals as goal

pub returns-clause-raised : goal.returns-clause-raised
returns-clause-raised c = raise_faults

pub returns-clause-forced : goal.returns-clause-forced
returns-clause-forced c = forced_faults
