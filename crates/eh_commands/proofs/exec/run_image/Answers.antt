use Rattle.std.proofs.Common.{map}
use Rattle.eh_commands.specs.Question.{asked_by}
use Rattle.eh_commands.proofs.ExecCauses.{image_runs}
use Rattle.eh_commands.proofs.exec.run_image.Goals as goal

pub returns-in-Ok : goal.returns-in-Ok
returns-in-Ok g c =
    image_runs (asked_by c.args.question.now (map g.M.Module.view c.args.modules.items)) c.args.image.now c.args.input.now c.in-Ok.loaded (g.Out.Sink.view c.args.out.now)
    (g.Out.Sink.view c.run_loaded.new.out) c.in-Ok.ensures.loads c.run_loaded.result c.run_loaded.ensures
