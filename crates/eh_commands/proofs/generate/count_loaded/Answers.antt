use Rattle.eh_commands.proofs.GenCauses.{counts_end, counts_fail}
use Rattle.eh_commands.proofs.generate.count_loaded.Goals as goal

pub returns-in-Ok : goal.returns-in-Ok
returns-in-Ok g c =
    let none = c.new-modules.ensures.items in
    let counts = rw (c.new-host.ensures, none) at c.run_counted-counted.ensures in
    rw c.status_of_run.ensures
    (counts_end c.args.turns c.args.loaded c.run_counted-counted.result counts c.args.tokens (g.Out.Sink.view c.args.out.now) (g.Out.Sink.view c.put_counted.new.out) c.in-Ok.ensures)

pub returns-in-Err-Failed : goal.returns-in-Err-Failed
returns-in-Err-Failed g c =
    let none = c.new-modules.ensures.items in
    let counts = rw (c.new-host.ensures, none) at c.run_counted-counted.ensures in
    counts_fail c.args.turns c.args.loaded c.run_counted-counted.result counts c.args.tokens (g.Out.Sink.view c.args.out.now) (g.Out.Sink.view c.put_counted.new.out) c.in-Err-Failed.field-0 c.in-Err-Failed.ensures
