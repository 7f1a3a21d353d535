use Rattle.std.proofs.Common.{map}
use Rattle.eh_commands.specs.Question.{asked_by}
use Rattle.eh_commands.proofs.ExecCauses.{ended_runs}
use Rattle.eh_commands.proofs.exec.run_loaded.Goals as goal

pub returns : goal.returns
returns g c =
    let a = asked_by c.args.question.now (map g.M.Module.view c.args.modules.items) in
    let runs = rw c.new-host.ensures at c.run-ran.ensures.runs in
    ended_runs a c.args.loaded c.args.input.now (map g.M.Module.view c.run-ran.new.host.modules.items) (g.Out.Sink.view c.args.out.now) (g.Out.Sink.view c.run-ran.new.sink)
    (g.Out.Sink.view c.print_end.new.out) c.run-ran.result runs c.print_end.result c.print_end.ensures
