use Rattle.std.proofs.Common.{map}
use Rattle.eh_commands.specs.Question.{asked_by}
use Rattle.eh_commands.proofs.ExecCauses.{image_executes}
use Rattle.eh_commands.proofs.exec.exec_file.Goals as goal

pub returns-in-Ok-clause-cause : goal.returns-in-Ok-clause-cause
returns-in-Ok-clause-cause g c =
    let a = asked_by c.args.question (map g.M.Module.view c.args.modules.items) in
    let runs = rw (c.as_slice.ensures.value, c.as_slice-in-Ok.ensures.value) at c.run_image.ensures in
    image_executes a c.in-Ok.image.items c.in-Ok.input.items (g.St.Store.view c.args.store.now) (g.St.Store.view c.read_both.new.store) (g.Out.Sink.view c.args.out.now) (g.Out.Sink.view c.run_image.new.out)
    c.in-Ok.ensures.read.0 c.in-Ok.ensures.read.1 c.run_image.result runs
