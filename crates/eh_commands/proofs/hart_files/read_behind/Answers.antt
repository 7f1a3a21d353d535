use Rattle.std.proofs.Common.{[], inl}
use Rattle.eh_commands.specs.HartFiles.{harts_asked, input_files, kept_bytes, schedule_limit}
use Rattle.eh_commands.specs.Question.{asked_by}
use Rattle.eh_commands.proofs.HartReading.{are_since, unread_behind}
use Rattle.eh_commands.proofs.hart_files.read_behind.Goals as goal

pub returns-in-Err-clause-read : goal.returns-in-Err-clause-read
returns-in-Err-clause-read g c = inl c.in-Err.ensures.read

pub returns-in-Err-read_inputs-clause-read : goal.returns-in-Err-read_inputs-clause-read
returns-in-Err-read_inputs-clause-read g c =
    let a = harts_asked (asked_by c.args.question []) in
    unread_behind schedule_limit a.schedule c.in-Ok.schedule.items (input_files a.inputs) (g.St.Store.view c.args.store.now) (g.St.Store.view c.read.new.store) (g.St.Store.view c.read_inputs.new.store)
    c.in-Ok.ensures.read c.in-Ok.ensures.later c.in-Ok.ensures.files c.in-Err-read_inputs.ended.status c.in-Err-read_inputs.ensures.read

pub returns-in-Ok-read_inputs-clause-read : goal.returns-in-Ok-read_inputs-clause-read
returns-in-Ok-read_inputs-clause-read g c =
    let a = harts_asked (asked_by c.args.question []) in (
      c.in-Ok.ensures.read,
      are_since (input_files a.inputs) (g.St.Store.view c.args.store.now) (g.St.Store.view c.read.new.store) (kept_bytes c.in-Ok-read_inputs.inputs.items) c.in-Ok.ensures.files c.in-Ok-read_inputs.ensures.read,
    )
