use Rattle.hart_sched.proofs.Walks.{form_refused}
use Rattle.hart_sched.proofs.schedule.refusal_at.Goals as goal

pub returns-in-Some : goal.returns-in-Some
returns-in-Some c harts refused = form_refused harts c.args.text.now c.in-Some.first c.in-Some.ensures.forms

pub returns-in-None : goal.returns-in-None
returns-in-None c harts refused = refused c.in-None.ensures.forms
