use Rattle.std.proofs.Common.{rules, ◌≡◌, length}
use Rattle.plain_text.proofs.Texts.{empty}
use Rattle.hart_sched.proofs.Walks.{form_next, form_fails, form_all}
use Rattle.hart_sched.proofs.schedule.form_fault.Goals as goal

pub returns-in-None-clause-forms : goal.returns-in-None-clause-forms
returns-in-None-clause-forms c =
    let none = rw c.split_at.ensures.front at c.in-None.ensures.reads in
    form_fails c.args.text.now c.loop-rest.rest.now c.line_length.result c.loop-rest.invariant c.line_length.ensures none

pub loop-rest-preserved : goal.loop-rest-preserved
loop-rest-preserved c =
    let read = rw c.split_at.ensures.front at c.in-Some.ensures.reads.1 in
    rw c.split_at.ensures.back (form_next c.args.text.now c.loop-rest.rest.now c.line_length.result _ c.loop-rest.invariant c.line_length.ensures read)

pub returns-clause-forms : goal.returns-clause-forms
returns-clause-forms c =
    let none : length c.loop-rest.rest.now ≡ 0 = search rules in
    form_all c.args.text.now c.loop-rest.rest.now c.loop-rest.invariant (empty c.loop-rest.rest.now none)
