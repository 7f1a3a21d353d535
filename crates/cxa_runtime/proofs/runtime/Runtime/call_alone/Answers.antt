use Rattle.cxa_runtime.proofs.runtime.Runtime.call_alone.Goals as goal

pub returns-in-Exit-clause-made : goal.returns-in-Exit-clause-made
returns-in-Exit-clause-made c = λ alone. (0, λ t. rw c.in-Exit.is c.exit.ensures.made)

pub returns-in-WriteInt-clause-made : goal.returns-in-WriteInt-clause-made
returns-in-WriteInt-clause-made c = λ alone. (0, λ t. rw c.in-WriteInt.is c.write_int.ensures.made)

pub returns-in-UncaughtException-clause-made : goal.returns-in-UncaughtException-clause-made
returns-in-UncaughtException-clause-made c = λ alone. (0, λ t. rw c.in-UncaughtException.is c.uncaught_exception.ensures.made)

pub returns-in-SetTerminate-clause-made : goal.returns-in-SetTerminate-clause-made
returns-in-SetTerminate-clause-made c = λ alone. (0, λ t. rw c.in-SetTerminate.is c.set_terminate.ensures.made)

pub returns-in-SetUnexpected-clause-made : goal.returns-in-SetUnexpected-clause-made
returns-in-SetUnexpected-clause-made c = λ alone. (0, λ t. rw c.in-SetUnexpected.is c.set_unexpected.ensures.made)
