use Rattle.std.proofs.Common.{[], inl}
use Rattle.eh_commands.specs.Question.{asked_by}
use Rattle.eh_commands.proofs.Causes.{input_since, input_unread}
use Rattle.eh_commands.proofs.file.read_both.Goals as goal

pub returns-in-Err-clause-read : goal.returns-in-Err-clause-read
returns-in-Err-clause-read g c = inl c.in-Err.ensures.read

pub returns-in-Err-read_input-clause-read : goal.returns-in-Err-read_input-clause-read
returns-in-Err-read_input-clause-read g c =
    input_unread c.args.limit (asked_by c.args.question []) c.in-Ok.file.items (g.St.Store.view c.args.store.now) (g.St.Store.view c.read.new.store) (g.St.Store.view c.read_input.new.store)
    c.in-Ok.ensures.read c.in-Ok.ensures.later c.in-Ok.ensures.files c.in-Err-read_input.status c.in-Err-read_input.ensures.read

pub returns-in-Ok-read_input-clause-read : goal.returns-in-Ok-read_input-clause-read
returns-in-Ok-read_input-clause-read g c =
    let a = asked_by c.args.question [] in
    (c.in-Ok.ensures.read, input_since a.input (g.St.Store.view c.args.store.now) (g.St.Store.view c.read.new.store) c.in-Ok-read_input.input.items c.in-Ok.ensures.files c.in-Ok-read_input.ensures.read)
