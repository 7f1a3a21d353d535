use Rattle.std.proofs.Common.{[], ◌∷◌, inl}
use Rattle.eh_commands.specs.HartFiles.{harts_asked, input_files, kept_bytes, schedule_limit}
use Rattle.eh_commands.specs.Image.{image_limit}
use Rattle.eh_commands.specs.Question.{asked_by}
use Rattle.eh_commands.proofs.HartReading.{are_since, unread_behind}
use Rattle.eh_commands.proofs.hart_files.read_harts.Goals as goal

pub returns-in-Err-clause-read : goal.returns-in-Err-clause-read
returns-in-Err-clause-read g c = inl c.in-Err.ensures.read

pub returns-in-Err-read_behind-clause-read : goal.returns-in-Err-read_behind-clause-read
returns-in-Err-read_behind-clause-read g c =
    let a = harts_asked (asked_by c.args.question []) in
    unread_behind image_limit a.image c.in-Ok.image.items ((schedule_limit, a.schedule) ∷ input_files a.inputs) (g.St.Store.view c.args.store.now) (g.St.Store.view c.read.new.store)
    (g.St.Store.view c.read_behind.new.store) c.in-Ok.ensures.read c.in-Ok.ensures.later c.in-Ok.ensures.files c.in-Err-read_behind.ended.status c.in-Err-read_behind.ensures.read

pub returns-in-Ok-read_behind-clause-read : goal.returns-in-Ok-read_behind-clause-read
returns-in-Ok-read_behind-clause-read g c =
    let a = harts_asked (asked_by c.args.question []) in (
      c.in-Ok.ensures.read,
      are_since ((schedule_limit, a.schedule) ∷ input_files a.inputs) (g.St.Store.view c.args.store.now) (g.St.Store.view c.read.new.store)
          (c.in-Ok-read_behind.schedule.items ∷ kept_bytes c.in-Ok-read_behind.inputs.items) c.in-Ok.ensures.files c.in-Ok-read_behind.ensures.read,
    )
